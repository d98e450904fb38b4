-- Reading a line from its front. Assumes nothing.
use Rattle.std.specs.Prelude.{◌≤◌, length}
use Rattle.cases.specs.declared.read.Left.{Left}

-- no more is left of the line than before
abbrev pub ReadOn : Left → Left → Type 0
ReadOn old new = length new.bytes.now ≤ length old.bytes.now
