-- A mark is there exactly where some variable holds the cell.
use Rattle.rules.proofs.Answers.{same}
use Rattle.rules.proofs.Roundtrip.{variables_again}
use Rattle.checks.specs.Counts.{EntriesBelow}
use Rattle.audit.proofs.Whole.{marked-held, held-marked}
use Rattle.audit.proofs.held_sound.Goals as goal

pub returns : goal.returns
returns c =
    let p = c.requires in
    let m = rw p.used_in_bounds.1 at c.mark_held.ensures in
    let below : EntriesBelow c.args.view.zct.now c.args.head.zct c.args.head.sizes.n = λ j h. (p.rows_sound.1.zct_row.live j h).cell in
    let again = variables_again _ _ _ p.rows_sound.0.variables in
    same (marked-held _ _ _ _ _ below again m) (held-marked _ _ _ _ _ below again m) c.all_held.ensures
