-- Small heaps worked out: P1 to P11 of document 01 as one table. Assumes nothing.
use Rattle.std.specs.Prelude.{ℕ, suc, ◌+◌, ◌*◌, Bool, true, false, ◌&&◌, List, [], ◌∷◌, ◌++◌, eqb, length, get_or, replicate, take, ℤ, pos, negsuc}
use Rattle.rules.specs.declared.Head.{Head}
use Rattle.rules.specs.declared.Deed.TheVariants.{Clear, Link, Put, Blank, Follow, Read, Same}
use Rattle.rules.specs.declared.Call.{Call}
use Rattle.rules.specs.declared.Call.TheVariants.{New, Do, Settle}
use Rattle.rules.specs.Head.{fresh_head, sized}
use Rattle.rules.specs.Call.{words_of}
use Rattle.rules.specs.Rows.{Lent, lent}
use Rattle.rules.specs.Sound.{list_from}
use Rattle.rules.specs.Refusals.{After, Batched, fresh_of, batch_of}

-- ---- what a case says

pub data Claim : Type 0 where
  -- the batch's own status, the calls' statuses, one call's value, the last call's value
  accepted : Claim
  statuses : List ℕ → Claim
  value_is : ℕ → ℤ → Claim
  -- a settle's value is the number of cells that it freed; the batch's count
  frees : ℕ → ℕ → Claim
  total : ℕ → Claim
  -- the tables' used parts: addresses, addresses with counts
  zct : List ℕ → Claim
  mrt : List ℕ → List ℕ → Claim
  -- the free list from the first free address on
  free_list : List ℕ → Claim
  -- every row and the head are a fresh heap's
  still_fresh : Claim

pub record Case : Type 0 where
  pub cells : ℕ
  pub calls : List Call
  pub claims : List Claim

-- ---- how it is run: the calls' words, through `batch_of` from `fresh_of`

-- rows of the right lengths for n cells, 3 variables and 4 log entries
abbrev pub lent_rows : ℕ → Lent
lent_rows n =
    lent (replicate (2 * n) 0) (replicate (2 * n) (pos 0)) (replicate 3 (pos 0)) (replicate n 0) (replicate n 0) (replicate n 0) (replicate 8 0) (replicate n 0)

-- m 3, L 4, cap 3
unfoldable pub freshly : ℕ → After
freshly n = fresh_of (sized n 3 4 3) (lent_rows n)

unfoldable pub outcome_of : Case → Batched
outcome_of c = batch_of (freshly c.cells).outcome.head (freshly c.cells).rows (words_of c.calls) (replicate (2 * length c.calls) (negsuc 6))

-- ---- how a claim is tested

abbrev pub same_ℤ : ℤ → ℤ → Bool
same_ℤ (pos a) (pos b) = eqb a b
same_ℤ (pos a) (negsuc b) = false
same_ℤ (negsuc a) (pos b) = false
same_ℤ (negsuc a) (negsuc b) = eqb a b

abbrev pub same_ℕs : List ℕ → List ℕ → Bool
same_ℕs [] [] = true
same_ℕs [] (y ∷ ys) = false
same_ℕs (x ∷ xs) [] = false
same_ℕs (x ∷ xs) (y ∷ ys) = eqb x y && same_ℕs xs ys

abbrev pub same_ℤs : List ℤ → List ℤ → Bool
same_ℤs [] [] = true
same_ℤs [] (y ∷ ys) = false
same_ℤs (x ∷ xs) [] = false
same_ℤs (x ∷ xs) (y ∷ ys) = same_ℤ x y && same_ℤs xs ys

-- the status words of an answers row
abbrev pub statuses_are : List ℤ → List ℕ → Bool
statuses_are [] [] = true
statuses_are [] (k ∷ ks) = false
statuses_are (s ∷ []) ks = false
statuses_are (s ∷ x ∷ row) [] = false
statuses_are (s ∷ x ∷ row) (k ∷ ks) = same_ℤ s (pos k) && statuses_are row ks

abbrev pub same_rows : Lent → Lent → Bool
same_rows r q =
    same_ℕs r.kinds q.kinds
    && same_ℤs r.values q.values
    && same_ℤs r.variables q.variables
    && same_ℕs r.tables.zct q.tables.zct
    && same_ℕs r.tables.mrt q.tables.mrt
    && same_ℕs r.tables.counts q.tables.counts
    && same_ℕs r.log q.log
    && same_ℕs r.work q.work

abbrev pub heads_agree : Head → Head → Bool
heads_agree h k =
    eqb h.sizes.n k.sizes.n
    && eqb h.sizes.m k.sizes.m
    && eqb h.sizes.l k.sizes.l
    && eqb h.sizes.cap k.sizes.cap
    && eqb h.free k.free
    && eqb h.zct k.zct
    && eqb h.mrt k.mrt

abbrev pub holds_of : ℕ → Batched → Claim → Bool
holds_of n o accepted = eqb o.outcome.status 0
holds_of n o (statuses ks) = statuses_are o.answers ks
holds_of n o (value_is i x) = same_ℤ (get_or o.answers (2 * i + 1) (negsuc 6)) x
holds_of n o (frees i k) = same_ℤ (get_or o.answers (2 * i) (negsuc 6)) (pos 0) && same_ℤ (get_or o.answers (2 * i + 1) (negsuc 6)) (pos k)
holds_of n o (total k) = eqb o.outcome.count k
holds_of n o (zct l) = same_ℕs (take o.outcome.head.zct o.rows.tables.zct) l
holds_of n o (mrt l ks) = same_ℕs (take o.outcome.head.mrt o.rows.tables.mrt) l && same_ℕs (take o.outcome.head.mrt o.rows.tables.counts) ks
holds_of n o (free_list l) = same_ℕs (list_from n o.rows.values (suc n) o.outcome.head.free) l
holds_of n o still_fresh = heads_agree o.outcome.head (fresh_head (sized n 3 4 3)) && same_rows o.rows (freshly n).rows

abbrev pub all_of : ℕ → Batched → List Claim → Bool
all_of n o [] = true
all_of n o (c ∷ cs) = holds_of n o c && all_of n o cs

-- every case is accepted, and all that it says holds
unfoldable pub right : List Case → Bool
right [] = true
right (c ∷ cs) = all_of c.cells (outcome_of c) (accepted ∷ c.claims) && right cs

-- ---- the table

abbrev pub case : ℕ → List Call → List Claim → Case
case n cs ls = record { cells = n; calls = cs; claims = ls }

abbrev pub p5 : List Call
p5 = New 0 ∷ New 1 ∷ Do (Link 0 0 1) ∷ Do (Link 0 1 1) ∷ Settle ∷ []

unfoldable pub table : List Case
table =
    -- P1 empty batch, fresh: 0, none freed, heap still fresh
    case 4 [] (total 0 ∷ still_fresh ∷ [])
    -- P2 n 1: new 0, new 0. Statuses 0, 0; total freed 1
    ∷ case 1 (New 0 ∷ New 0 ∷ []) (statuses (0 ∷ 0 ∷ []) ∷ total 1 ∷ [])
    -- P3 n 1: new 0, clear 0, new 0. Statuses 0, 0, 0; total freed 1
    ∷ case 1 (New 0 ∷ Do (Clear 0) ∷ New 0 ∷ []) (statuses (0 ∷ 0 ∷ 0 ∷ []) ∷ total 1 ∷ [])
    -- P4 new 0, link 0 0 0, clear 0, settle: frees 0
    ∷ case 4 (New 0 ∷ Do (Link 0 0 0) ∷ Do (Clear 0) ∷ Settle ∷ []) (frees 3 0 ∷ [])
    -- P5: ZCT 0; MRT cell 1 count 2
    ∷ case 4 p5 (zct (0 ∷ []) ∷ mrt (1 ∷ []) (2 ∷ []) ∷ [])
    -- P6 P5, then blank 0 0, settle: ZCT 0; MRT empty
    ∷ case 4 (p5 ++ (Do (Blank 0 0) ∷ Settle ∷ [])) (zct (0 ∷ []) ∷ mrt [] [] ∷ [])
    -- P7: frees 0; MRT cell 0 count 3
    ∷ case 4 (New 0 ∷ Do (Link 0 0 0) ∷ Do (Link 0 1 0) ∷ New 1 ∷ Do (Link 1 0 0) ∷ Do (Blank 0 0) ∷ Do (Blank 0 1) ∷ Do (Blank 1 0) ∷ Do (Clear 0) ∷ Settle ∷ [])
    (frees 9 0 ∷ mrt (0 ∷ []) (3 ∷ []) ∷ [])
    -- P8: frees 3; free list 2, 1, 0, 3
    ∷ case 4 (New 0 ∷ New 1 ∷ New 2 ∷ Do (Link 0 0 1) ∷ Do (Link 1 0 2) ∷ Do (Clear 0) ∷ Do (Clear 1) ∷ Do (Clear 2) ∷ Settle ∷ [])
    (frees 8 3 ∷ free_list (2 ∷ 1 ∷ 0 ∷ 3 ∷ []) ∷ [])
    -- P9 new 0, new 1, link 0 0 1 twice, settle: ZCT 0, MRT empty
    ∷ case 4 (New 0 ∷ New 1 ∷ Do (Link 0 0 1) ∷ Do (Link 0 0 1) ∷ Settle ∷ []) (zct (0 ∷ []) ∷ mrt [] [] ∷ [])
    -- P10 new 0, put 0 1 -2147483648, read 0 1: value -2147483648
    ∷ case 4 (New 0 ∷ Do (Put 0 1 (negsuc 2147483647)) ∷ Do (Read 0 1) ∷ []) (value_is 2 (negsuc 2147483647) ∷ [])
    -- P11 new 0, read 0 0, follow 0 0 1, same 0 1: statuses 0, 15, 12, 11
    ∷ case 4 (New 0 ∷ Do (Read 0 0) ∷ Do (Follow 0 0 1) ∷ Do (Same 0 1) ∷ []) (statuses (0 ∷ 15 ∷ 12 ∷ 11 ∷ []) ∷ [])
    ∷ []
