-- What each deed needs, and what it leaves.
use Rattle.std.proofs.Common.{rules}
use mathlib.Core.Logic.{⊎_elim}
use Rattle.cells.proofs.Signed.{back}
use Rattle.before.proofs.Seeing.{shown-there, reach-there}
use Rattle.calls.proofs.Arms.{can_link, can_look, can_follow, can_put, can_blank, did_copy, did_clear, did_follow, did_link, did_put, did_blank, did_read, did_same}
use Rattle.calls.proofs.change.Goals as goal

pub link-at-requires : goal.link-at-requires
link-at-requires c = can_link (rw c.in-Link.is at c.requires)

pub follow-a-requires : goal.follow-a-requires
follow-a-requires c = reach-there c.of.ensures.seen (can_look (rw c.in-Follow.is at c.requires))

pub hold-requires-in-Follow : goal.hold-requires-in-Follow
hold-requires-in-Follow c = can_follow (rw c.in-Follow.is at c.requires) (λ sh S. c.follow-a.ensures sh (shown-there c.of.ensures.seen S))

pub write-at-requires : goal.write-at-requires
write-at-requires c = can_put _ (rw c.in-Put.is at c.requires)

pub write-at-requires-in-Blank : goal.write-at-requires-in-Blank
write-at-requires-in-Blank c = can_blank (rw c.in-Blank.is at c.requires)

pub returns-in-Copy-clause-changes : goal.returns-in-Copy-clause-changes
returns-in-Copy-clause-changes c t work h W = rw c.in-Copy.is (did_copy W _ _ (rw c.in-Copy.is at c.requires.fits).1 (search rules))

pub returns-in-Clear-clause-changes : goal.returns-in-Clear-clause-changes
returns-in-Clear-clause-changes c t work h W = rw c.in-Clear.is (did_clear W _ c.hold.ensures)

pub returns-in-Link-clause-changes : goal.returns-in-Link-clause-changes
returns-in-Link-clause-changes c t work h W = rw c.in-Link.is (did_link W c.link-at.auto.log _ _ _ c.link-at.ensures.links)

pub returns-in-Put-clause-changes : goal.returns-in-Put-clause-changes
returns-in-Put-clause-changes c t work h W =
    rw c.in-Put.is (did_put W c.write-at.auto.log _ _ _ _ (back _ (rw c.in-Put.is at c.requires.fits).2) c.write-at.ensures.writes)

pub returns-in-Blank-clause-changes : goal.returns-in-Blank-clause-changes
returns-in-Blank-clause-changes c t work h W = rw c.in-Blank.is (did_blank W c.write-at-in-Blank.auto.log _ _ c.write-at-in-Blank.ensures.writes)

pub returns-in-Follow-clause-changes : goal.returns-in-Follow-clause-changes
returns-in-Follow-clause-changes c t work h W =
    rw c.in-Follow.is (did_follow W _ _ _ (λ sh S. c.follow-a.ensures sh (shown-there c.of.ensures.seen S)) c.hold-in-Follow.ensures)

pub returns-in-Read-clause-changes : goal.returns-in-Read-clause-changes
returns-in-Read-clause-changes c t work h W = ⊎_elim (λ p. rw p.2 (did_read W _ _)) (λ p. rw p.2 (did_same W _ _)) c.in-Read.is
