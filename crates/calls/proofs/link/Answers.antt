-- The cell that w holds is near, so the write and the create have what they need.
use Rattle.calls.proofs.Acting.{linked}
use Rattle.calls.proofs.Arms.{link_held, link_writable, link_room}
use Rattle.calls.proofs.link.Goals as goal

pub unreachable-requires : goal.unreachable-requires
unreachable-requires c = link_held c.requires c.in_default.ensures

pub write-logged-requires : goal.write-logged-requires
write-logged-requires c = link_writable c.requires c.in-Some.ensures

pub add_entry-requires : goal.add_entry-requires
add_entry-requires c =
    let p = c.requires in
    let w = c.write-logged.ensures in
    link_room p c.in-Some.ensures (w.writes p.n p.shape p.list p.shown p.logged).logged c.write-logged.auto.log

pub returns-clause-links : goal.returns-clause-links
returns-clause-links c n s ts S L =
    let e = c.in-Some.ensures in
    linked s S.held _ _ _ c.requires.w_below e ts (c.write-logged.ensures.writes n s ts S L) c.add_entry.ensures.logged
