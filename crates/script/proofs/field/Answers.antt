use Rattle.std.proofs.Common.{refl, rules, tests, eqb}
use Rattle.std.proofs.lemmas.Iterator.Consumers.{nth_from_yields_List}
use Rattle.std.proofs.lemmas.Iterator.Splits.{YieldsList-from_slice_split}
use Rattle.script.proofs.TextLaws.{field_or_none}
use Rattle.script.proofs.field.Goals as goal

pub returns : goal.returns
returns c =
    let e = c.split.ensures in
    field_or_none _ _ c.args.s.now c.args.k _ c.unwrap_or.ensures
    (nth_from_yields_List c.nth.result _ c.args.k c.nth.ensures.ran (YieldsList-from_slice_split _ (λ b. eqb b 9) c.args.s.now e.rest e.done e.closure (λ x b q k. search (rules, tests)))) refl
