use Rattle.std.proofs.Common.{ap, length, ◌∙◌, rules, tests, eqb}
use Rattle.std.proofs.lemmas.Iterator.Consumers.{count_from_yields_List}
use Rattle.std.proofs.lemmas.Iterator.Splits.{YieldsList-from_slice_split}
use Rattle.script.proofs.TextLaws.{split_fields}
use Rattle.script.proofs.fields.Goals as goal

pub returns : goal.returns
returns c =
    let e = c.split.ensures in
    count_from_yields_List c.split.result _ c.count.ensures.ran (YieldsList-from_slice_split _ (λ b. eqb b 9) c.args.s.now e.rest e.done e.closure (λ x b q k. search (rules, tests)))
    ∙ ap length (split_fields c.args.s.now)
