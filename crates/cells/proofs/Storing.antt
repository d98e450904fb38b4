-- Laws of the rows of kinds and values as fields: a read, a store, the free list. Assumes nothing.
use mathlib.Core.Path.{◌≡◌, sym, ap, ◌∙◌}
use mathlib.Core.List.{List}
use Prim.Native.Nat.{ℕ, ◌+◌, ◌*◌, ◌≤◌}
use native.Mathlib.Omega.{arith}
use lib.ListN.{length, get_or, set, length-set, length-map, get_or-map}
use lib.IntN.{ℤ, pos}
use Rattle.rules.specs.declared.Field.{Field}
use Rattle.rules.specs.declared.Field.TheVariants.{Nothing, Figure, Cell, Free}
use Rattle.rules.specs.Field.{field_of, kind_of, value_of}
use Rattle.rules.specs.Heap.{place, field, store}
use Rattle.rules.specs.Step.{after}
use Rattle.rules.specs.Whole.{Inside, Cells}
use Rattle.rules.proofs.Lists.{map-set, set-each}
use Rattle.rules.proofs.Roundtrip.{field_back}
use Rattle.cells.specs.Free.{CellTaken}

-- a field of a heap of n is one of a larger heap
pub inside-more : {n m : ℕ} (f : Field) → n ≤ m → Inside n f → Inside m f
inside-more Nothing h I = tt
inside-more (Figure x) h I = tt
inside-more (Cell b) h I = omega arith
inside-more (Free b) h I = omega arith

module _ {n : ℕ} {ks : List ℕ} {xs : List ℤ} {fs : List Field} (C : Cells n ks xs fs) where
  pub cell-lengths : (length ks ≡ 2 * n) × (length xs ≡ 2 * n)
  cell-lengths = (rw (C.kinds, length-map) C.long, rw (C.values, length-map) C.long)

  -- a field that is read is the heap's
  pub read : (f : Field) (i : ℕ) → f ≡ field_of (get_or ks i 0) (get_or xs i (pos 0)) → f ≡ get_or fs i Nothing
  read f i e = e ∙ rw (C.kinds, C.values, get_or-map kind_of fs i Nothing, get_or-map value_of fs i Nothing) (field_back (get_or fs i Nothing))

  pub read_inside : (f : Field) (i : ℕ) → f ≡ field_of (get_or ks i 0) (get_or xs i (pos 0)) → Inside n f
  read_inside f i e = rw (read f i e) (C.inside i)

-- a store to both rows is a store to the fields
pub stored : {n : ℕ} {ks ks' : List ℕ} {xs xs' : List ℤ} {fs : List Field} (j : ℕ) (f : Field) → Cells n ks xs fs → Inside n f
    → ks' ≡ set ks j (kind_of f) → xs' ≡ set xs j (value_of f) → Cells n ks' xs' (set fs j f)
stored {n} {ks} {xs = xs} {fs = fs} j f C I e g =
    record {
      long = simp length-set C.long;
      kinds = e ∙ rw C.kinds (sym (map-set kind_of j f fs));
      values = g ∙ rw C.values (sym (map-set value_of j f fs));
      inside = λ i. set-each (Inside n) fs j i f Nothing I (C.inside i);
    }

-- the same at field f of cell a
pub stored_at : {n : ℕ} {ks ks' : List ℕ} {xs xs' : List ℤ} {fs : List Field} (a f : ℕ) (x : Field) → Cells n ks xs fs → Inside n x
    → ks' ≡ set ks (2 * a + f) (kind_of x) → xs' ≡ set xs (2 * a + f) (value_of x) → Cells n ks' xs' (store fs a f x)
unfolding store place
stored_at a f x C I e g = stored (2 * a + f) x C I e g

-- field 0 has a place that is written shorter
pub stored_first : {n : ℕ} {ks ks' : List ℕ} {xs xs' : List ℤ} {fs : List Field} (a : ℕ) (x : Field) → Cells n ks xs fs → Inside n x
    → ks' ≡ set ks (2 * a) (kind_of x) → xs' ≡ set xs (2 * a) (value_of x) → Cells n ks' xs' (store fs a 0 x)
stored_first a x C I e g =
    let z : 2 * a ≡ 2 * a + 0 = omega arith in
    stored_at a 0 x C I (rw z at e) (rw z at g)

-- the free address after a is within the heap
after-inside : (n : ℕ) (f : Field) → Inside n f → after f ≤ n
after-inside n Nothing I = omega arith
after-inside n (Figure x) I = omega arith
after-inside n (Cell b) I = omega arith
after-inside n (Free b) I = I

pub taken : {n : ℕ} {ks ks' : List ℕ} {xs xs' : List ℤ} {fs : List Field} (a r : ℕ) (f : Field) → Cells n ks xs fs
    → f ≡ field_of (get_or ks (2 * a) 0) (get_or xs (2 * a) (pos 0)) → r ≡ after f
    → ks' ≡ set ks (2 * a) (kind_of Nothing) → xs' ≡ set xs (2 * a) (value_of Nothing) → CellTaken n ks' xs' a r fs
unfolding field place
taken {n} {fs = fs} a r f C e q ek ex =
    let z : 2 * a ≡ 2 * a + 0 = omega arith in
    let d : f ≡ get_or fs (2 * a + 0) Nothing = rw z at (read C f (2 * a) e) in
    let w = after-inside n f (read_inside C f (2 * a) e) in
    record { cells = stored_first a Nothing C tt ek ex; next = q ∙ ap after d; within = omega arith }
