-- The tables' rows as they are lent. Assumes nothing.
use Rattle.std.specs.Prelude.{◌≡◌}
use Rattle.rules.specs.Rows.{TableRows, table_rows}
use Rattle.tables.specs.declared.Tables.{Tables}

-- what the rows hold
abbrev pub rows_in : Tables → TableRows
rows_in t = table_rows t.zct.now t.mrt.now t.counts.now

-- t lends the rows that s lends: who lent them finds there what the contracts say of t
abbrev pub SameTables : Tables → Tables → Type 0
SameTables s t = (t.zct.ghost_name ≡ s.zct.ghost_name) × (t.mrt.ghost_name ≡ s.mrt.ghost_name) × (t.counts.ghost_name ≡ s.counts.ghost_name)
