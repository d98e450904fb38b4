use Rattle.std.proofs.Common.{arith}
use Rattle.std.proofs.lemmas.Int.{ints}
use Rattle.std.proofs.lemmas.Bool.Decides.{nat_tests}
use Rattle.rules.specs.Call.{call_of}
use Rattle.words.proofs.call_of.Goals as goal

pub returns-in-minus2147483648-to-0 : goal.returns-in-minus2147483648-to-0
unfolding call_of
returns-in-minus2147483648-to-0 c = grind (arith, ints, nat_tests)
