-- Pointers counted in the work row, the marks of what is held, and what the checks of tables lean on. Assumes nothing.
use Rattle.std.specs.Prelude.{ℕ, ◌*◌, ◌<◌, ◌≤◌, ◌≡◌, List, map, length, get_or, ℤ}
use Rattle.rules.specs.declared.Head.{Head}
use Rattle.rules.specs.Field.{variable_of, held_of}
use Rattle.rules.specs.Rows.{TableRows}
use Rattle.rules.specs.Sound.{pointers}

-- the work row has for each cell the number of the first i words that point to it
pub record CountedTo (n : ℕ) (ks : List ℕ) (vs : List ℤ) (i : ℕ) (work : List ℕ) : Type 0 where
  pub long : length work ≡ n
  pub each : (b : ℕ) → b < n → get_or work b 0 ≡ pointers n ks vs b i

-- the count that the work row has of a cell
abbrev pub tallied : List ℕ → ℕ → ℕ
tallied work a = get_or work a 0

-- kinds are those of n cells, and the used parts are within their rows
pub record TablesFit (h : Head) (ks : List ℕ) (t : TableRows) : Type 0 where
  pub most : h.sizes.n ≤ 1024
  pub kinds_long : length ks ≡ 2 * h.sizes.n
  pub zct_fits : h.zct ≤ length t.zct
  pub mrt_fits : h.mrt ≤ length t.mrt
  pub counts_fits : h.mrt ≤ length t.counts

-- the used part's entries are marked in the work row
abbrev pub AllMarked : List ℕ → ℕ → List ℕ → Type 0
AllMarked zs used work = (j : ℕ) → j < used → get_or work (get_or zs j 0) 0 ≡ 0 → ⊥

-- the used part's entries are below a number
abbrev pub EntriesBelow : List ℕ → ℕ → ℕ → Type 0
EntriesBelow row used n = (j : ℕ) → j < used → get_or row j 0 < n

-- the variables' words are -1 or addresses
abbrev pub Addressed : List ℤ → Type 0
Addressed xs = map variable_of (map held_of xs) ≡ xs
