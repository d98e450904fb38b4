-- A line read at a place of a text, after so many lines. Assumes nothing.
use Rattle.std.specs.Prelude.{ℕ, zero, suc, ◌+◌, ◌<◌, ◌≤◌, ◌≡◌, List, length}
use Rattle.std.specs.Prelude as code
use Rattle.std.specs.Borrow.{Bor}
use Rattle.std.proofs.Math.Option.{Option}
use Rattle.rules.specs.Field.{option_of}
use Rattle.script.specs.Text.{line_at, next_line}
use Rattle.script.specs.Line.{line_of, head_line_of}
use Rattle.script.specs.declared.Line.{Line}
use Rattle.reader.specs.declared.Read.{Read}
use Rattle.reader.specs.declared.Reader.{Reader}

-- what a line says after n lines: the first says the heap, the others are over its m variables
abbrev pub said_after_lem : ℕ → ℕ → List ℕ → Option Line
said_after_lem zero m bs = head_line_of bs
said_after_lem (suc n) m bs = line_of m bs

-- what is read at a place after n lines, over m variables: what the line says, its number (lines count from 1), and where the next starts
pub record Reads (m : ℕ) (xs : List ℕ) (at n : ℕ) (r : Read) : Type 0 where
  pub line : option_of r.line ≡ said_after_lem n m (line_at xs at)
  pub number : r.number ≡ n + 1
  pub next : r.next ≡ next_line xs at

-- the reader of a text at a place, after so many lines
abbrev pub reader_at_lem : Bor (List ℕ) → ℕ → ℕ → Reader
reader_at_lem s at n = record { text = s; at = at; number = n }

-- the reader p reads on, over m variables, and is q then: none where no line is left, and it stays; else the line at its place, and it goes on behind that
abbrev pub NextRead : ℕ → Reader → code.Option Read → Reader → Type 0
NextRead m p code.None q = (length p.text.now ≤ p.at) × (q ≡ p)
NextRead m p (code.Some r) q = (p.at < length p.text.now) × Reads m p.text.now p.at p.number r × (q ≡ reader_at_lem p.text r.next r.number)
