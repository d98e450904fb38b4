-- Line 1 of a script: a heap that it says is within the limits. Assumes nothing.
use Prim.Native.Nat.{ℕ, ◌≤◌}
use mathlib.Core.Path.{◌≡◌, sym, ap, ◌∙◌}
use native.Mathlib.Omega.{arith}
use Rattle.std.specs.Prelude.{Option, Some}
use Rattle.rules.specs.declared.Sizes.{Sizes}
use Rattle.rules.specs.Head.{Limits}
use Rattle.rules.specs.Field.{option_of}
use Rattle.script.specs.Text.{line_at}
use Rattle.script.specs.Line.{head_line_of}
use Rattle.script.proofs.Meaning.{first_says}
use Rattle.script.specs.declared.Line.{Line}
use Rattle.script.specs.declared.Line.TheVariants.{Heap}
use Rattle.reader.specs.Reading.{said_after_lem, NextRead}
use Rattle.reader.specs.declared.Read.{Read}
use Rattle.reader.specs.declared.Reader.{Reader}

pub within : (p q : Reader) {o : Option Read} {r : Read} {x : Line} {s : Sizes} → NextRead 0 p o q → o ≡ Some r → p.number ≡ 0 → r.line ≡ Some x → x ≡ Heap s
    → (q.number ≤ 1) × Limits s
within p q {o} {r} {x} {s} h e z w v =
    let g : NextRead 0 p (Some r) q = rw e at h in
    let line = line_at p.text.now p.at in
    let first : option_of r.line ≡ head_line_of line = g.1.line ∙ ap (λ k. said_after_lem k 0 line) z in
    (rw (g.2, g.1.number, z) (omega arith), rw (sym first ∙ ap option_of (w ∙ ap (λ (y : Line). Some y) v)) at (first_says line))
