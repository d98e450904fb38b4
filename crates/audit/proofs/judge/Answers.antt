-- Each answer is the audit's.
use Rattle.std.proofs.Common.{sym}
use Rattle.rules.proofs.Demand1.{audit_0, audit_1, audit_4}
use Rattle.audit.proofs.Whole.{looked_at}
use Rattle.audit.proofs.judge.Goals as goal

pub returns-then-not-sized : goal.returns-then-not-sized
returns-then-not-sized c = sym (audit_1 _ _ (λ z. (looked_at c.lengths.ensures c.sized.ensures).no c.if-not-sized.true (z.within, z.lengths)))

pub returns-then-not-sound : goal.returns-then-not-sound
returns-then-not-sound c =
    let z = (looked_at c.lengths.ensures c.sized.ensures).yes c.if-not-sized.false in
    let e = audit_4 _ _ (record { within = z.0; lengths = z.1 }) (c.sound.ensures.says.no c.if-not-sound.true) in
    rw c.sound.ensures.work_after (sym e)

pub returns : goal.returns
returns c =
    let z = (looked_at c.lengths.ensures c.sized.ensures).yes c.if-not-sized.false in
    let e = audit_0 _ _ (record { within = z.0; lengths = z.1 }) (c.sound.ensures.says.yes c.if-not-sound.false) in
    rw c.sound.ensures.work_after (sym e)
