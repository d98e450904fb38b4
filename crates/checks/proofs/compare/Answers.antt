-- One address on; a cell in neither table that hasn't one pointer is against what is agreed.
use Rattle.rules.proofs.Answers.{isn't}
use Rattle.checks.proofs.Steps.{turn-zct, turn-mrt, turn_one, lonely}
use Rattle.checks.proofs.compare.Goals as goal

pub loop-a-preserved-then-stands : goal.loop-a-preserved-then-stands
loop-a-preserved-then-stands c =
    turn-zct _ _ _ _ c.requires.tables_fit.1 _ _ _ c.loop-a.invariant c.loop-a-test.true
    (c.stands.ensures.yes c.if-stands.true) (c.stands-else-w-ne0.ensures.no c.if-stands-2.false) c.if-w-ne0.false

pub loop-a-preserved-then-stands-3 : goal.loop-a-preserved-then-stands-3
loop-a-preserved-then-stands-3 c =
    turn-mrt _ _ _ _ c.requires.tables_fit.1 _ _ _ c.loop-a.invariant c.loop-a-test.true
    (c.stands.ensures.no c.if-stands.false) (c.stands-in-loop-a.ensures.yes c.if-stands-3.true) (c.exact.ensures.yes c.if-not-exact.false)

pub loop-a-preserved : goal.loop-a-preserved
loop-a-preserved c =
    turn_one _ _ _ _ c.requires.tables_fit.1 _ _ _ c.loop-a.invariant c.loop-a-test.true
    (c.stands.ensures.no c.if-stands.false) (c.stands-in-loop-a.ensures.no c.if-stands-3.false) (c.single.ensures.yes c.if-not-single.false)

pub returns-then-not-single : goal.returns-then-not-single
returns-then-not-single c =
    isn't
    (lonely _ _ _ _ c.requires.tables_fit.1 _ _ _ c.loop-a.invariant c.loop-a-test.true
    (c.stands.ensures.no c.if-stands.false) (c.stands-in-loop-a.ensures.no c.if-stands-3.false) (c.single.ensures.no c.if-not-single.true))
