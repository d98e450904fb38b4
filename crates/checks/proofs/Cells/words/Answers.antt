-- The last row shows each word.
use Rattle.std.proofs.Common.{arith}
use Rattle.rules.proofs.Answers.{isn't, truly}
use Rattle.checks.proofs.Fields.{in_row}
use Rattle.checks.proofs.Cells.words.Goals as goal

pub returns-after-rows : goal.returns-after-rows
returns-after-rows c = truly c.rows.invariant.flag (c.rows.invariant.passed 1 (omega arith))

pub returns-then-not-word_in : goal.returns-then-not-word_in
returns-then-not-word_in c =
    isn't (λ w. c.word_in.ensures.no c.if-not-word_in.true (in_row _ _ _ _ _ _ (w _ c.loop-a-test.true _ c.loop-f-test.true)))
