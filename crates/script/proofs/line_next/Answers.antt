use Rattle.std.proofs.Common.{arith}
use Rattle.script.proofs.TextLaws.{end-inside}
use Rattle.script.proofs.line_next.Goals as goal

pub overflow_add-result : goal.overflow_add-result
overflow_add-result c = omega (arith, c.line_end.ensures, end-inside 10 c.args.text.now _ c.requires)
