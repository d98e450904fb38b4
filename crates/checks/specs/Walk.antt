-- A walk along the free list that marks in the work row each cell that it meets. Assumes nothing.
use Rattle.std.specs.Prelude.{ℕ, ◌+◌, ◌<◌, ◌≤◌, ◌≡◌, Bool, cond, List, [], ◌∷◌, eqb, length, get_or, ℤ}
use Rattle.rules.specs.Head.{Says}
use Rattle.rules.specs.Sound.{mark, FreePath, times}

-- a walk from the first free address to `to` has marked each cell that it met, and met none twice
pub record Met (n : ℕ) (ks : List ℕ) (vs : List ℤ) (first to : ℕ) (work : List ℕ) : Type 0 where
  pub list : List ℕ
  pub path : FreePath n ks vs first list to
  pub marks : (b : ℕ) → get_or work b 0 ≡ times b list
  pub single : (b : ℕ) → times b list ≤ 1
  pub long : length work ≡ n

-- a walk that has come to `to` cannot go on: no cell, no free one, or one that it has met
abbrev pub Stopped : ℕ → List ℕ → ℕ → List ℕ → Type 0
Stopped n ks to work = to < n → mark ks to ≡ 3 → get_or work to 0 ≡ 0 → ⊥

-- a walk went on as long as it could, and has marked what it met; its answer: did it come to n?
pub record Walked (r : Bool) (n : ℕ) (ks : List ℕ) (vs : List ℤ) (first : ℕ) (work : List ℕ) : Type 0 where
  pub to : ℕ
  pub met : Met n ks vs first to work
  pub stopped : Stopped n ks to work
  pub answer : Says r (to ≡ n)

-- no free cell is without its mark
abbrev pub AllMet : ℕ → List ℕ → List ℕ → Type 0
AllMet n ks work = (b : ℕ) → b < n → mark ks b ≡ 3 → get_or work b 0 ≡ 0 → ⊥

-- how many cells have no mark yet
abbrev pub zeros : List ℕ → ℕ
zeros [] = 0
zeros (x ∷ l) = cond (eqb x 0) 1 0 + zeros l
