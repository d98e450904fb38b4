-- A sound heap, at the level of rows: document 01's section, sentence by sentence. Assumes nothing.
use Rattle.std.specs.Prelude.{ℕ, zero, suc, ◌+◌, ◌*◌, ◌<◌, ◌≤◌, ◌≡◌, Bool, true, false, cond, ◌||◌, List, [], ◌∷◌, eqb, length, get_or, ℤ, pos, negsuc}
use Rattle.rules.specs.declared.Head.{Head}
use Rattle.rules.specs.declared.Sizes.{Sizes}
use Rattle.rules.specs.Head.{Within}
use Rattle.rules.specs.Field.{Signed32, address_of}
use Rattle.rules.specs.Rows.{TableRows, Lent, RowLengths, lengths_of}

-- ---- kinds and values

-- cell a has fields 0 and 1 at places 2a and 2a+1
abbrev pub kind : List ℕ → ℕ → ℕ → ℕ
kind ks a f = get_or ks (2 * a + f) 0

abbrev pub word : List ℤ → ℕ → ℕ → ℤ
word vs a f = get_or vs (2 * a + f) (pos 0)

-- a free cell has kind 3 in field 0
abbrev pub mark : List ℕ → ℕ → ℕ
mark ks a = get_or ks (2 * a) 0

-- b names a cell that isn't free
pub record Live (n : ℕ) (ks : List ℕ) (b : ℕ) : Type 0 where
  pub cell : b < n
  pub used : mark ks b ≡ 3 → ⊥

-- the mark of a free cell stands in field 0, with the next free address (n ends the list), and nothing in field 1
pub record Mark (n : ℕ) (ks : List ℕ) (a f : ℕ) (v : ℤ) : Type 0 where
  pub first : f ≡ 0
  pub next : address_of (n + 1) v ≤ n
  pub alone : kind ks a 1 ≡ 0

-- kind k and value v in field f of cell a: 0 nothing, 1 a figure, 2 a cell that isn't free, 3 free
unfoldable pub Word : ℕ → List ℕ → ℕ → ℕ → ℕ → ℤ → Type 0
Word n ks a f zero v = v ≡ pos 0
Word n ks a f (suc zero) v = Signed32 v
Word n ks a f (suc (suc zero)) v = Live n ks (address_of n v)
Word n ks a f (suc (suc (suc zero))) v = Mark n ks a f v
Word n ks a f (suc (suc (suc (suc k)))) v = ⊥

abbrev pub WordAt : ℕ → List ℕ → List ℤ → ℕ → ℕ → Type 0
WordAt n ks vs a f = Word n ks a f (kind ks a f) (word vs a f)

abbrev pub Words : ℕ → List ℕ → List ℤ → Type 0
Words n ks vs = (a : ℕ) → a < n → (f : ℕ) → f < 2 → WordAt n ks vs a f

-- a variable is -1 or names a cell that isn't free
abbrev pub Variable : ℕ → List ℕ → ℤ → Type 0
Variable n ks x = (x ≡ negsuc 0 → ⊥) → Live n ks (address_of n x)

abbrev pub Variables : ℕ → List ℕ → List ℤ → Type 0
Variables n ks xs = (v : ℕ) → v < length xs → Variable n ks (get_or xs v (pos 0))

pub record CellsSound (n : ℕ) (ks : List ℕ) (vs xs : List ℤ) : Type 0 where
  -- kinds and values are as above; pointers name cells that aren't free
  pub words : Words n ks vs
  -- variables name cells that aren't free
  pub variables : Variables n ks xs

-- ---- table rows

-- a row is zero from a place on
abbrev pub ZeroFrom : List ℕ → ℕ → Type 0
ZeroFrom row from = (j : ℕ) → from ≤ j → j < length row → get_or row j 0 ≡ 0

pub record TableRow (n : ℕ) (ks row : List ℕ) (used : ℕ) : Type 0 where
  -- table rows are as above: ascending by address, so that no table names a cell twice
  pub ascending : (j : ℕ) → j + 1 < used → get_or row j 0 < get_or row (j + 1) 0
  -- ZCT and MRT name cells that aren't free
  pub live : (j : ℕ) → j < used → Live n ks (get_or row j 0)
  -- zeros after the used part
  pub zeros : ZeroFrom row used

pub record CountsRow (cs : List ℕ) (used cap : ℕ) : Type 0 where
  -- counts go from 2 to the cap: no other count occurs
  pub ranged : (j : ℕ) → j < used → (2 ≤ get_or cs j 0) × (get_or cs j 0 ≤ cap)
  -- zeros after the used part
  pub zeros : ZeroFrom cs used

-- the rows of both tables
pub record TablesSound (h : Head) (ks : List ℕ) (t : TableRows) : Type 0 where
  pub zct_row : TableRow h.sizes.n ks t.zct h.zct
  pub mrt_row : TableRow h.sizes.n ks t.mrt h.mrt
  pub counts_row : CountsRow t.counts h.mrt h.sizes.cap

-- ---- the free list

-- the next free address, that a free cell has in field 0
abbrev pub next : ℕ → List ℤ → ℕ → ℕ
next n vs a = address_of (n + 1) (get_or vs (2 * a) (pos 0))

-- from one address through the free cells of a list to another
abbrev pub FreePath : ℕ → List ℕ → List ℤ → ℕ → List ℕ → ℕ → Type 0
FreePath n ks vs from [] to = from ≡ to
FreePath n ks vs from (x ∷ l) to = (x ≡ from) × ((from < n) × ((mark ks from ≡ 3) × FreePath n ks vs (next n vs from) l to))

-- the addresses from one on, at most k of them, up to n
abbrev pub list_from : ℕ → List ℤ → ℕ → ℕ → List ℕ
list_from n vs zero from = []
list_from n vs (suc k) from = cond (eqb from n) [] (from ∷ list_from n vs k (next n vs from))

-- how often b stands in a list
abbrev pub times : ℕ → List ℕ → ℕ
times b [] = 0
times b (x ∷ l) = cond (eqb b x) 1 0 + times b l

-- from the first free address to n, the free list meets every free cell once
pub record FreeList (n : ℕ) (ks : List ℕ) (vs : List ℤ) (first : ℕ) : Type 0 where
  pub list : List ℕ
  pub path : FreePath n ks vs first list n
  pub once : (b : ℕ) → b < n → mark ks b ≡ 3 → times b list ≡ 1

-- ---- counts, pointers and holds

-- the cell that a word points to, n where it points to none
abbrev pub points_to : ℕ → ℕ → ℤ → ℕ
points_to n k v = cond (eqb k 2) (address_of n v) n

-- how many of the first i words point to b
abbrev pub pointers : ℕ → List ℕ → List ℤ → ℕ → ℕ → ℕ
pointers n ks vs b zero = 0
pointers n ks vs b (suc i) = cond (eqb (points_to n (get_or ks i 0) (get_or vs i (pos 0))) b) 1 0 + pointers n ks vs b i

-- how many pointers from cells b has
abbrev pub pointers_to : ℕ → List ℕ → List ℤ → ℕ → ℕ
pointers_to n ks vs b = pointers n ks vs b (2 * n)

-- does one of the first v variables hold b?
abbrev pub held_among : ℕ → List ℤ → ℕ → ℕ → Bool
held_among n xs b zero = false
held_among n xs b (suc v) = eqb (address_of n (get_or xs v (pos 0))) b || held_among n xs b v

-- a is the used part's entry j
abbrev pub At : List ℕ → ℕ → ℕ → ℕ → Type 0
At row used j a = (j < used) × (get_or row j 0 ≡ a)

-- the used part has no entry a
abbrev pub NotIn : List ℕ → ℕ → ℕ → Type 0
NotIn row used a = (j : ℕ) → At row used j a → ⊥

-- the tables agree with a count of each cell's pointers
pub record Agree (h : Head) (ks : List ℕ) (t : TableRows) (count : ℕ → ℕ) : Type 0 where
  -- ZCT and MRT share no cell
  pub apart : (i j : ℕ) → i < h.zct → j < h.mrt → get_or t.zct i 0 ≡ get_or t.mrt j 0 → ⊥
  -- a cell that isn't free and is in neither has one pointer from cells
  pub one : (a : ℕ) → Live h.sizes.n ks a → NotIn t.zct h.zct a → NotIn t.mrt h.mrt a → count a ≡ 1
  -- a ZCT cell has none
  pub none : (j : ℕ) → j < h.zct → count (get_or t.zct j 0) ≡ 0
  -- an MRT count from 2 to below the cap is exact, and a count at the cap may stand with any number
  pub exact : (j : ℕ) → j < h.mrt → get_or t.counts j 0 < h.sizes.cap → count (get_or t.mrt j 0) ≡ get_or t.counts j 0

-- a ZCT cell: some variable holds it
abbrev pub ZctHeld : ℕ → List ℤ → List ℕ → ℕ → Type 0
ZctHeld n xs zs used = (j : ℕ) → j < used → held_among n xs (get_or zs j 0) (length xs) ≡ true

-- ---- the whole

-- at batch ends
pub record Sound (h : Head) (r : Lent) : Type 0 where
  pub cells : CellsSound h.sizes.n r.kinds r.values r.variables
  pub tables : TablesSound h r.kinds r.tables
  pub free-list : FreeList h.sizes.n r.kinds r.values h.free
  pub agree : Agree h r.kinds r.tables (pointers_to h.sizes.n r.kinds r.values)
  pub held : ZctHeld h.sizes.n r.variables r.tables.zct h.zct
  -- log is zero
  pub log_zero : ZeroFrom r.log 0

-- exact lengths in elements
pub record Lengths (s : Sizes) (l : RowLengths) : Type 0 where
  pub for_kinds : l.kinds ≡ 2 * s.n
  pub for_values : l.values ≡ 2 * s.n
  pub for_variables : l.variables ≡ s.m
  pub for_zct : l.zct ≡ s.n
  pub for_mrt : l.mrt ≡ s.n
  pub for_counts : l.counts ≡ s.n
  pub for_log : l.log ≡ 2 * s.l
  pub for_work : l.work ≡ s.n

-- the head's numbers and the rows' lengths are as above
pub record Sized (h : Head) (r : Lent) : Type 0 where
  pub within : Within h
  pub lengths : Lengths h.sizes (lengths_of r)
