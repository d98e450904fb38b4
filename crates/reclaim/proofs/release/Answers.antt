-- Out of ZCT, then both fields let go in their order.
use Rattle.std.proofs.Common.{arith}
use Rattle.rules.proofs.Sorted.{replay-append}
use Rattle.tables.proofs.Steps.{left, tabled_after, length_after}
use Rattle.cells.proofs.Storing.{inside-more}
use Rattle.reclaim.proofs.release.Goals as goal

pub let_go-requires-clause-tabled : goal.let_go-requires-clause-tabled
let_go-requires-clause-tabled c =
    let T = c.requires.tabled in
    let C = c.cut_at-used.ensures in
    tabled_after T (left T.big c.requires.p_lt_zct C.value C.row_after)

pub let_go-requires-2-clause-tabled : goal.let_go-requires-2-clause-tabled
let_go-requires-2-clause-tabled c =
    let T = c.requires.tabled in
    let C = c.cut_at-used.ensures in
    tabled_after (tabled_after T (left T.big c.requires.p_lt_zct C.value C.row_after)) c.let_go.ensures.tables

pub let_go-requires-2-clause-inside : goal.let_go-requires-2-clause-inside
let_go-requires-2-clause-inside c =
    let T = c.requires.tabled in
    let C = c.cut_at-used.ensures in
    let n = length_after T (left T.big c.requires.p_lt_zct C.value C.row_after) in
    let m = length_after (tabled_after T (left T.big c.requires.p_lt_zct C.value C.row_after)) c.let_go.ensures.tables in
    inside-more c.args.y (omega arith) c.requires.inside.1

pub returns-clause-tables : goal.returns-clause-tables
returns-clause-tables c = λ n t R.
    let C = c.cut_at-used.ensures in
    rw replay-append (c.let_go-2.ensures.tables _ _ (c.let_go.ensures.tables _ _ (left c.requires.tabled.big c.requires.p_lt_zct C.value C.row_after _ _ R)))
