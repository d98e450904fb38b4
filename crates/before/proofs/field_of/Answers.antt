-- The field that was read, or nothing: of the rows, and of the shape that they show.
use Rattle.std.proofs.Common.{refl}
use Rattle.before.specs.Seen.{field_below}
use Rattle.before.proofs.Seeing.{seen_below}
use Rattle.before.proofs.field_of.Goals as goal

pub returns-in-Some-clause-seen : goal.returns-in-Some-clause-seen
returns-in-Some-clause-seen c s S = seen_below _ _ S c.requires.v_below c.in-Some.ensures c.field_below.ensures

pub returns-in-None-clause-field : goal.returns-in-None-clause-field
unfolding field_below
returns-in-None-clause-field c = rw (← c.in-None.ensures)

pub returns-in-None-clause-seen : goal.returns-in-None-clause-seen
unfolding field_below
returns-in-None-clause-seen c s S = seen_below _ _ S c.requires.v_below c.in-None.ensures refl
