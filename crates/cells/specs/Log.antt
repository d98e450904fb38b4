-- An entry of the log, from its two words. Assumes nothing.
use Rattle.std.specs.Prelude.{ℕ, ◌+◌, ◌*◌, ◌<◌, ◌≤◌, ◌≡◌, cond, List, ◌∷◌, eqb, get_or, set, drop, Result, Ok, Err}
use Rattle.rules.specs.declared.Field.{Field}
use Rattle.rules.specs.declared.Field.TheVariants.{Nothing, Figure, Cell, Free}
use Rattle.rules.specs.Heap.{Transaction, allocates, creates, destroys}
use Rattle.rules.specs.Whole.{Logged}
use Rattle.cells.specs.declared.Note.{Note}
use Rattle.cells.specs.declared.Entry.{Entry}
use Rattle.cells.specs.declared.Entry.TheVariants.{Allocate, Create, Destroy}

-- the entry that a kind and an address are: 1 allocate, 2 create, else destroy
unfoldable pub transaction : ℕ → ℕ → Transaction
transaction k a = cond (eqb k 1) (allocates a) (cond (eqb k 2) (creates a) (destroys a))

-- what the words of an entry are, and what it logs
abbrev pub note_of : Entry → Note
note_of (Allocate a) = record { kind = 1; address = a }
note_of (Create a) = record { kind = 2; address = a }
note_of (Destroy a) = record { kind = 3; address = a }

abbrev pub logs_as : Entry → Transaction
logs_as (Allocate a) = allocates a
logs_as (Create a) = creates a
logs_as (Destroy a) = destroys a

-- the entry whose words these are; none where the kind is not 1 to 3
abbrev pub entry_from : Note → Result Entry Note → Type 0
entry_from n (Ok e) = n ≡ note_of e
entry_from n (Err r) = (r ≡ n) × (1 ≤ n.kind → n.kind ≤ 3 → ⊥)

-- the log row with the words of an entry after its first len entries
abbrev pub with_entry : List ℕ → ℕ → Note → List ℕ
with_entry log len n = set (set log (2 * len) n.kind) (2 * len + 1) n.address

-- the log row with a destroy there for a field's old target, if it is a cell
abbrev pub with_old : List ℕ → ℕ → Field → List ℕ
with_old log len Nothing = log
with_old log len (Figure x) = log
with_old log len (Cell b) = with_entry log len (note_of (Destroy b))
with_old log len (Free b) = log

-- r is entry i of the log row; of a log with the entries xs it is the one at i
pub record Noted (log : List ℕ) (i : ℕ) (r : Note) : Type 0 where
  pub kind_is : r.kind ≡ get_or log (2 * i) 0
  pub address_is : r.address ≡ get_or log (2 * i + 1) 0
  pub next : (n len : ℕ) (xs : List Transaction) → Logged n log len xs → i < len
      → drop i xs ≡ transaction r.kind r.address ∷ drop (i + 1) xs
  pub known : (n len : ℕ) (xs : List Transaction) → Logged n log len xs → i < len → (1 ≤ r.kind) × (r.kind ≤ 3)
