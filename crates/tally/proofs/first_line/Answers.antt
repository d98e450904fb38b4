use Rattle.tally.proofs.First.{within}
use Rattle.tally.proofs.first_line.Goals as goal

pub returns-in-Heap : goal.returns-in-Heap
returns-in-Heap c = within _ _ c.next_line.ensures c.in_ok-next_line.was c.requires c.in_ok-sizes.was c.in-Heap.is
