-- The place that is written is within the rows, since v holds a cell of the heap.
use Rattle.std.proofs.Common.{arith}
use Rattle.calls.proofs.Acting.{wrote_none, write-place, old-room, old-inside, wrote}
use Rattle.calls.proofs.write.Goals as goal

pub returns-in_default-clause-writes : goal.returns-in_default-clause-writes
returns-in_default-clause-writes c = wrote_none c.requires c.in_default.ensures

pub overflow_mul-i : goal.overflow_mul-i
overflow_mul-i c = let k = (write-place c.requires c.in-Some.ensures).2 in omega arith

pub overflow_add-i : goal.overflow_add-i
overflow_add-i c = let k = (write-place c.requires c.in-Some.ensures).2 in omega arith

pub field_at-old-requires : goal.field_at-old-requires
field_at-old-requires c = let k = write-place c.requires c.in-Some.ensures in (k.0, k.1)

pub put_field-requires-clause-i_in_bounds : goal.put_field-requires-clause-i_in_bounds
put_field-requires-clause-i_in_bounds c = let k = write-place c.requires c.in-Some.ensures in (k.0, k.1)

pub log_old-requires-clause-in_bounds : goal.log_old-requires-clause-in_bounds
log_old-requires-clause-in_bounds c = old-room c.requires c.in-Some.ensures c.field_at-old.ensures

pub log_old-requires-clause-inside : goal.log_old-requires-clause-inside
log_old-requires-clause-inside c = old-inside c.requires c.in-Some.ensures c.field_at-old.ensures

pub returns-clause-writes : goal.returns-clause-writes
returns-clause-writes c = wrote c.requires c.in-Some.ensures c.field_at-old.ensures c.put_field.ensures.kinds c.put_field.ensures.values c.log_old.ensures.logged
