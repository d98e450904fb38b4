-- The head and its limits. Assumes nothing.
use Rattle.std.specs.Prelude.{ℕ, ◌≤◌, ◌≡◌, Bool, true, false}
use Rattle.rules.specs.declared.Head.{Head}
use Rattle.rules.specs.declared.Sizes.{Sizes}

-- cells n: 1 to 1,024; variables m: 1 to 64; log entries L: 2 to 1,024; cap of a count: 3 to 255
pub record Limits (s : Sizes) : Type 0 where
  pub n_least : 1 ≤ s.n
  pub n_most : s.n ≤ 1024
  pub m_least : 1 ≤ s.m
  pub m_most : s.m ≤ 64
  pub l_least : 2 ≤ s.l
  pub l_most : s.l ≤ 1024
  pub cap_least : 3 ≤ s.cap
  pub cap_most : s.cap ≤ 255

-- the sizes so; free address 0 to n, used lengths 0 to n
pub record Within (h : Head) : Type 0 where
  pub limits : Limits h.sizes
  pub free_most : h.free ≤ h.sizes.n
  pub zct_most : h.zct ≤ h.sizes.n
  pub mrt_most : h.mrt ≤ h.sizes.n

-- made fresh from its sizes
abbrev pub fresh_head : Sizes → Head
fresh_head s = record { sizes = s; free = 0; zct = 0; mrt = 0 }

-- the sizes, by their numbers
abbrev pub sized : ℕ → ℕ → ℕ → ℕ → Sizes
sized n m l cap = record { n = n; m = m; l = l; cap = cap }

-- a head of zeros
abbrev pub zero_head : Head
zero_head = fresh_head (sized 0 0 0 0)

-- an answer r that is yes exactly when P
pub record Says (r : Bool) (P : Type 0) : Type 0 where
  pub yes : r ≡ true → P
  pub no : r ≡ false → P → ⊥
