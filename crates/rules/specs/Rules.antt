-- The three transactions on the two tables, and replay. Assumes nothing.
use Rattle.std.specs.Prelude.{ℕ, zero, suc, Bool, true, false, cond, List, [], ◌∷◌, eqb}
use Rattle.rules.specs.Table.{has, insert, remove, count_in, enter, delete}
use Rattle.rules.specs.Heap.{Tables, Transaction, allocates, creates, destroys}

unfoldable pub enter_zct : ℕ → Tables → Tables
enter_zct a t = record { zct = insert a t.zct; mrt = t.mrt }

unfoldable pub leave_zct : ℕ → Tables → Tables
leave_zct a t = record { zct = remove a t.zct; mrt = t.mrt }

unfoldable pub enter_mrt : ℕ → ℕ → Tables → Tables
enter_mrt a k t = record { zct = t.zct; mrt = enter a k t.mrt }

unfoldable pub leave_mrt : ℕ → Tables → Tables
leave_mrt a t = record { zct = t.zct; mrt = delete a t.mrt }

-- create, where a is in ZCT or not and MRT's count for it is k (0: not in MRT):
-- in ZCT, delete it there; in neither, enter in MRT with 2; in MRT, add one unless at the cap
unfoldable pub on_create : ℕ → ℕ → Tables → Bool → ℕ → Tables
on_create cap a t true k = leave_zct a t
on_create cap a t false zero = enter_mrt a 2 t
on_create cap a t false (suc k) = cond (eqb (suc k) cap) t (enter_mrt a (suc (suc k)) t)

-- destroy, where MRT's count for a is k (0: not in MRT):
-- not in MRT, enter in ZCT; in MRT, at the cap leave, at 2 delete, else subtract one
unfoldable pub on_destroy : ℕ → ℕ → Tables → ℕ → Tables
on_destroy cap a t zero = enter_zct a t
on_destroy cap a t (suc k) = cond (eqb (suc k) cap) t (cond (eqb k 1) (leave_mrt a t) (enter_mrt a k t))

-- allocate: enter in ZCT
unfoldable pub apply : ℕ → Transaction → Tables → Tables
apply cap (allocates a) t = enter_zct a t
apply cap (creates a) t = on_create cap a t (has a t.zct) (count_in a t.mrt)
apply cap (destroys a) t = on_destroy cap a t (count_in a t.mrt)

-- replay the log in its order
unfoldable pub replay : ℕ → List Transaction → Tables → Tables
replay cap [] t = t
replay cap (x ∷ xs) t = replay cap xs (apply cap x t)
