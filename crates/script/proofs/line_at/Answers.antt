use Rattle.std.proofs.Common.{arith}
use Rattle.script.proofs.TextLaws.{end-inside, part-to}
use Rattle.script.proofs.line_at.Goals as goal

pub slice_bounds-result-end : goal.slice_bounds-result-end
slice_bounds-result-end c = omega (arith, c.line_end.ensures, end-inside 10 c.args.text.now _ c.requires)

pub returns : goal.returns
returns c = rw c.line_end.ensures (part-to 10 _ _)
