-- What holds of a heap at every moment, in the middle of a batch too: the tables, as they will be once the log is replayed, agree with the pointers. Assumes nothing.
use Rattle.std.specs.Prelude.{ℕ, zero, suc, ◌+◌, ◌*◌, ◌<◌, ◌≤◌, ◌≡◌, ◌⊎◌, Bool, true, false, cond, List, [], ◌∷◌, eqb, length, get_or}
use Rattle.std.proofs.Math.Option.{Option, none}
use Rattle.rules.specs.declared.Field.{Field}
use Rattle.rules.specs.declared.Field.TheVariants.{Nothing, Figure, Cell, Free}
use Rattle.rules.specs.declared.Sizes.{Sizes}
use Rattle.rules.specs.Field.{Signed32}
use Rattle.rules.specs.Table.{has, count_in}
use Rattle.rules.specs.Heap.{Tables, Transaction, allocates, creates, destroys, Heap, place, field}
use Rattle.rules.specs.Rules.{replay}
use Rattle.rules.specs.Settle.{holds, pick}
use Rattle.rules.specs.Whole.{Kept}
use Rattle.rules.specs.Sound.{times}

-- ---- pointers, and cells in use

-- 1 where the field points to a
abbrev pub hit : Field → ℕ → ℕ
hit Nothing a = 0
hit (Figure x) a = 0
hit (Cell b) a = cond (eqb a b) 1 0
hit (Free b) a = 0

-- how many fields point to a
abbrev pub refs : List Field → ℕ → ℕ
refs [] a = 0
refs (f ∷ fs) a = hit f a + refs fs a

abbrev pub used : Field → Bool
used Nothing = true
used (Figure x) = true
used (Cell a) = true
used (Free a) = false

-- a is a cell that isn't free
unfoldable pub live : List Field → ℕ → Bool
live fs a = used (get_or fs (place a 0) (Free 0))

-- how many cells are in use
abbrev pub lives : List Field → ℕ
lives [] = 0
lives (f ∷ []) = 0
lives (f ∷ g ∷ fs) = cond (used f) 1 0 + lives fs

-- ---- what both tables show at one address

abbrev pub View : Type 0
View = Bool × ℕ

unfoldable pub view : Tables → ℕ → View
view t a = (has a t.zct, count_in a t.mrt)

abbrev pub count_of : Bool → ℕ → ℕ
count_of true k = 0
count_of false zero = 1
count_of false (suc k) = suc k

abbrev pub count_v : View → ℕ
count_v v = count_of v.0 v.1

-- 0 in ZCT, the count in MRT, else 1
abbrev pub count : Tables → ℕ → ℕ
count t a = count_v (view t a)

-- the two tables share no cell, and counts go from 2 to the cap
abbrev pub ok_of : ℕ → Bool → ℕ → Type 0
ok_of cap true zero = Unit {0}
ok_of cap true (suc k) = ⊥
ok_of cap false zero = Unit {0}
ok_of cap false (suc k) = (1 ≤ k) × (suc k ≤ cap)

abbrev pub ok_v : ℕ → View → Type 0
ok_v cap v = ok_of cap v.0 v.1

-- what is known at the address b: r pointers lead there, lv says whether the cell is in use
pub record Counted (cap : ℕ) (t : Tables) (r : ℕ) (lv : Bool) (b : ℕ) : Type 0 where
  pub ok : ok_v cap (view t b)
  pub exact : lv ≡ true → (count t b ≡ cap) ⊎ (count t b ≡ r)
  pub gone : lv ≡ false → (view t b ≡ (false, 0)) × (r ≡ 0)

-- fields, the holds that are counted, and tables agree
pub record Good (n cap : ℕ) (fs : List Field) (hs : List (Option ℕ)) (t : Tables) : Type 0 where
  pub len : length fs ≡ 2 * n
  pub counted : (b : ℕ) → Counted cap t (refs fs b) (live fs b) b
  pub held : (b : ℕ) → holds b hs ≡ true → live fs b ≡ true

-- ---- the free list

abbrev pub Chain : List Field → ℕ → ℕ → List ℕ → Type 0
Chain fs n a [] = a ≡ n
Chain fs n a (x ∷ l) = (x ≡ a) × ((b : ℕ) × (field fs a 0 ≡ Free b) × (field fs a 1 ≡ Nothing) × Chain fs n b l)

-- from the first free address to n, it meets every free cell once
pub record Frees (n : ℕ) (fs : List Field) (first : ℕ) : Type 0 where
  pub list : List ℕ
  pub chain : Chain fs n first list
  pub once : (b : ℕ) → b < n → times b list ≡ cond (live fs b) 0 1

-- ---- the rest

-- a figure is a signed 32-bit number
abbrev pub Fitting : Field → Type 0
Fitting Nothing = Unit {0}
Fitting (Figure x) = Signed32 x
Fitting (Cell a) = Unit {0}
Fitting (Free a) = Unit {0}

-- the address that an entry of the log names
abbrev pub named : Transaction → ℕ
named (allocates a) = a
named (creates a) = a
named (destroys a) = a

-- every entry of a log names an address below n
abbrev pub Small : ℕ → List Transaction → Type 0
Small n [] = Unit {0}
Small n (x ∷ xs) = (named x < n) × Small n xs

-- a heap in its batch
pub record Inv (s : Sizes) (h : Heap) : Type 0 where
  pub good : Good s.n s.cap h.shape.fields h.shape.variables (replay s.cap h.log h.tables)
  pub frees : Frees s.n h.shape.fields h.first
  pub kept : Kept s.n s.cap h.tables
  -- no free mark in field 1
  pub plain_1 : (a b : ℕ) → field h.shape.fields a 1 ≡ Free b → ⊥
  pub figures : (i : ℕ) → Fitting (get_or h.shape.fields i Nothing)
  pub variables_long : length h.shape.variables ≡ s.m
  pub log_room : length h.log ≤ s.l
  pub log_small : Small s.n h.log

-- no ZCT cell is left that none of the holds names
abbrev pub Done : List (Option ℕ) → Heap → Type 0
Done hs h = pick hs h.tables.zct ≡ none

-- at a batch's end the log is empty, and every ZCT cell is held
pub record Ended (s : Sizes) (h : Heap) : Type 0 where
  pub inv : Inv s h
  pub settled_all : Done h.shape.variables h
  pub log_empty : h.log ≡ []
