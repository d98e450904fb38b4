use Rattle.std.proofs.Common.{ap, length, ◌∙◌, ◌+◌, ◌-◌, ℕ, rules, tests, eqb, drop, length-drop, arith}
use Rattle.std.proofs.Math.Seq.{take_all}
use Rattle.std.proofs.lemmas.Iterator.{YieldsList-from_slice}
use Rattle.std.proofs.lemmas.Iterator.Search.{position_from_yields_List}
use Rattle.script.proofs.TextLaws.{end_found}
use Rattle.script.proofs.line_end.Goals as goal

pub returns : goal.returns
returns c =
    let s = c.args.text.now in
    let rest = drop c.args.at s in
    let all = take_all (length s - c.args.at) rest (omega (arith, length-drop c.args.at s)) in
    ap (λ (n : ℕ). c.args.at + n)
    (end_found 10 rest _ _ _ c.unwrap_or.ensures
    (position_from_yields_List (λ x. eqb x 10) _ _ c.position.result c.position.ensures.ran (YieldsList-from_slice rest (c.iter.ensures.rest ∙ all)) (λ x b q k. search (rules, tests))) (ap length all))
