-- Two words put into the zeros after the log's entries.
use Rattle.std.proofs.Common.{rules}
use Rattle.cells.proofs.Logging.{logged-more}
use Rattle.cells.proofs.add_entry.Goals as goal

pub returns-clause-logged : goal.returns-clause-logged
returns-clause-logged c = λ n xs L h. logged-more c.args.entry L c.requires.0 h (search rules)
