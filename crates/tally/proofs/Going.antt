-- The lengths of rows between two batches of a script, and of a batch's part of the calls row. Assumes nothing.
use Prim.Native.Nat.{ℕ, ◌*◌, ◌≤◌}
use native.Mathlib.Omega.{arith}
use borrow.Author.Rules.{rules}
use mir.Syntax.{w64}
use mir.Val.{Fits}
use lib.Seq.{length-take-le}
use mathlib.Core.Path.{◌≡◌, sym, ◌∙◌}
use mathlib.Core.List.{List}
use lib.IntN.{ℤ}
use lib.ListN.{length, take}

-- the heap's rows have the lengths that they had
pub record LengthsKept (k k₀ x x₀ v v₀ z z₀ m m₀ c c₀ l l₀ w w₀ : ℕ) : Type 0 where
  pub kinds : k ≡ k₀
  pub values : x ≡ x₀
  pub variables : v ≡ v₀
  pub zct : z ≡ z₀
  pub mrt : m ≡ m₀
  pub counts : c ≡ c₀
  pub log : l ≡ l₀
  pub work : w ≡ w₀

pub kept_on :
    {k k₁ k₀ x x₁ x₀ v v₁ v₀ z z₁ z₀ m m₁ m₀ c c₁ c₀ l l₁ l₀ w w₁ w₀ : ℕ} →
    k ≡ k₁ → x ≡ x₁ → v ≡ v₁ → z ≡ z₁ → m ≡ m₁ → c ≡ c₁ → l ≡ l₁ → w ≡ w₁ →
    LengthsKept k₁ k₀ x₁ x₀ v₁ v₀ z₁ z₀ m₁ m₀ c₁ c₀ l₁ l₀ w₁ w₀ → LengthsKept k k₀ x x₀ v v₀ z z₀ m m₀ c c₀ l l₀ w w₀
kept_on k x v z m c l w h =
    record {
      kinds = k ∙ h.kinds;
      values = x ∙ h.values;
      variables = v ∙ h.variables;
      zct = z ∙ h.zct;
      mrt = m ∙ h.mrt;
      counts = c ∙ h.counts;
      log = l ∙ h.log;
      work = w ∙ h.work;
    }

-- two words for each cell, or each log entry, have room
pub twice : {k : ℕ} → k ≤ 1024 → 2 * k ≤ 2048
twice h = omega arith

pub twice_fits : {k : ℕ} → k ≤ 1024 → Fits w64 (2 * k)
twice_fits h = search rules

-- the part of the calls row that a batch takes: its length is a word, and it is within the row
pub part-fits : (k : ℕ) → k ≤ 256 → Fits w64 (4 * k)
part-fits k h = search rules

module _ (k : ℕ) (calls : List ℤ) (h : k ≤ 256) (e : length calls ≡ 1024) where
  pub part-within : 4 * k ≤ length calls
  part-within = omega arith

  pub part_length : 4 * k ≡ length (take (4 * k) calls)
  part_length = sym (length-take-le (4 * k) calls part-within)
