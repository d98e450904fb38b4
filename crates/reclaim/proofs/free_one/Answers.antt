-- The fields are read, let go, and the cell goes to the free list.
use Rattle.std.proofs.Common.{refl, rules}
use Rattle.rules.specs.Whole.{Inside}
use Rattle.cells.proofs.Storing.{inside-more, read_inside}
use Rattle.reclaim.proofs.Freeing.{freed_as}
use Rattle.reclaim.proofs.free_one.Goals as goal

pub release-requires-clause-inside : goal.release-requires-clause-inside
release-requires-clause-inside c =
    let R = c.requires.heaped.rows in
    (read_inside R.cells c.field_at-x.result _ c.field_at-x.ensures, read_inside R.cells c.field_at-y.result _ c.field_at-y.ensures)

pub lower_to-low-requires : goal.lower_to-low-requires
lower_to-low-requires c =
    let R = c.requires.heaped.rows in
    inside-more c.field_at-x.result R.most (read_inside R.cells c.field_at-x.result _ c.field_at-x.ensures)

pub lower_to-requires : goal.lower_to-requires
lower_to-requires c =
    let R = c.requires.heaped.rows in
    let X : Inside 1024 c.field_at-x.result = inside-more c.field_at-x.result R.most (read_inside R.cells c.field_at-x.result _ c.field_at-x.ensures) in
    let Y : Inside 1024 c.field_at-y.result = inside-more c.field_at-y.result R.most (read_inside R.cells c.field_at-y.result _ c.field_at-y.ensures) in
    search rules

pub returns-clause-freed : goal.returns-clause-freed
returns-clause-freed c = λ n h R.
    freed_as R c.args.p c.requires.p_lt_zct c.field_at-x.result c.field_at-y.result _ _ refl c.field_at-x.ensures c.field_at-y.ensures
    c.free_cell.ensures.cells c.release.ensures.tables c.lower_to-low.ensures c.lower_to.ensures
