-- No cell is free, or the first one is taken.
use Rattle.calls.proofs.Acting.{none_free, took}
use Rattle.calls.proofs.take.Goals as goal

pub returns-then-a-sizes-clause-does : goal.returns-then-a-sizes-clause-does
returns-then-a-sizes-clause-does c = λ t work h W. none_free _ c.if-a-sizes.true W

pub returns-clause-does : goal.returns-clause-does
returns-clause-does c = took _ c.if-a-sizes.false c.take_free-at.ensures.cells c.hold.ensures c.add_entry-at.ensures.logged c.add_entry-at.auto.log
