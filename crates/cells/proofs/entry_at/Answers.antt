-- The two words at 2i and 2i+1 are the entry at i.
use Rattle.std.proofs.Common.{refl}
use Rattle.cells.proofs.Logging.{logged-at, logged-known}
use Rattle.cells.proofs.entry_at.Goals as goal

pub returns : goal.returns
returns c = record { kind_is = refl; address_is = refl; next = logged-at refl refl; known = logged-known }
