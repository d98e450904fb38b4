use Rattle.std.proofs.Common.{refl, lt-ltb, le-ltb}
use Rattle.working.proofs.Steps.{settles_as}
use Rattle.working.proofs.settles_first.Goals as goal

pub returns-then-full : goal.returns-then-full
returns-then-full c = λ h f g j. settles_as _ h _ _ _ _ _ _ c.in-New.is f g j (rw (lt-ltb _ _ c.if-full.true))

pub returns-else-full : goal.returns-else-full
returns-else-full c = λ h f g j. settles_as _ h _ _ _ _ _ _ c.in-New.is f g j (rw (le-ltb _ _ c.if-full.false))

pub returns-in-Do : goal.returns-in-Do
returns-in-Do c = λ h f g j. settles_as _ h _ _ _ _ _ _ c.in-Do.is f g j refl

pub returns-in-Settle : goal.returns-in-Settle
returns-in-Settle c = λ h f g j. settles_as _ h _ _ _ _ _ _ c.in-Settle.is f g j refl
