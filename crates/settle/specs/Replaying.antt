-- A replay of the log's row. Assumes nothing.
use Rattle.std.specs.Prelude.{ℕ, ◌≤◌, List, length}
use Rattle.rules.specs.declared.Used.{Used}
use Rattle.rules.specs.Heap.{Tables, Transaction}
use Rattle.rules.specs.Rules.{replay}
use Rattle.rules.specs.Rows.{TableRows}
use Rattle.rules.specs.Whole.{Ready, Logged}

-- the rows of both tables are some tables, and the log's row has some entries
pub record Replayable (cap : ℕ) (log : List ℕ) (len : ℕ) (r : TableRows) (u : Used) : Type 0 where
  pub most : length r.zct ≤ 1024
  pub big : 3 ≤ cap
  pub tables : Tables
  pub list : List Transaction
  pub ready : Ready (length r.zct) cap r u tables
  pub logged : Logged (length r.zct) log len list

-- rows that are tables are those tables after a replay of the log's entries
abbrev pub Replays : ℕ → List ℕ → ℕ → TableRows → Used → TableRows → Used → Type 0
Replays cap log len r u r' u' = (n : ℕ) (xs : List Transaction) (t : Tables) → Logged n log len xs → Ready n cap r u t → Ready n cap r' u' (replay cap xs t)
