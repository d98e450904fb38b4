-- A fresh heap has the invariant. Assumes nothing.
use Prim.Native.Nat.{ℕ, zero, suc, ◌+◌, ◌*◌, ◌<◌, ◌≤◌}
use mathlib.Core.Path.{◌≡◌, refl, sym, ap, ◌∙◌}
use mathlib.Core.Bool.{Bool, true, false, cond, false≢true}
use mathlib.Core.Option.{none}
use mathlib.Core.List.{List, [], ◌∷◌}
use native.Mathlib.Omega.{arith}
use lib.Dec.{eqb}
use lib.ListN.{length, get_or, replicate, length-replicate}
use borrow.Author.Tests.{eqb-true, eqb-false, ne_eqb}
use Rattle.rules.specs.declared.Field.TheVariants.{Nothing, Free}
use Rattle.rules.specs.declared.Sizes.{Sizes}
use Rattle.rules.specs.Rules.{replay}
use Rattle.rules.specs.Settle.{holds}
use Rattle.rules.specs.Heap.{place, field}
use Rattle.rules.specs.Step.{fresh, free_from}
use Rattle.rules.specs.Sound.{times}
use Rattle.rules.specs.Invariant.{refs, used, live, view, Chain, Fitting, Inv, Ended}

-- the fields of a fresh heap, by their place: i is 2 * b or 2 * b + 1
pub fresh-len : (a k : ℕ) → length (free_from a k) ≡ 2 * k
unfolding free_from
fresh-len a zero = refl
fresh-len a (suc k) = omega (arith, fresh-len (suc a) k)

fresh-refs : (a k b : ℕ) → refs (free_from a k) b ≡ 0
unfolding free_from
fresh-refs a zero b = refl
fresh-refs a (suc k) b = omega (arith, fresh-refs (suc a) k b)

fresh_even : (a k b i : ℕ) → i ≡ 2 * b → b < k → get_or (free_from a k) i Nothing ≡ Free (suc (a + b))
unfolding free_from
fresh_even a zero b i e h = absurd (omega arith)
fresh_even a (suc k) zero zero e h = ap (λ x. Free x) (omega arith)
fresh_even a (suc k) zero (suc i) e h = absurd (omega arith)
fresh_even a (suc k) (suc b) zero e h = absurd (omega arith)
fresh_even a (suc k) (suc b) (suc zero) e h = absurd (omega arith)
fresh_even a (suc k) (suc b) (suc (suc i)) e h = fresh_even (suc a) k b i (omega arith) (omega arith) ∙ ap (λ x. Free x) (omega arith)

fresh_odd : (a k b i : ℕ) → i ≡ 2 * b + 1 → get_or (free_from a k) i Nothing ≡ Nothing
unfolding free_from
fresh_odd a zero b i e = refl
fresh_odd a (suc k) b zero e = absurd (omega arith)
fresh_odd a (suc k) b (suc zero) e = refl
fresh_odd a (suc k) zero (suc (suc i)) e = absurd (omega arith)
fresh_odd a (suc k) (suc b) (suc (suc i)) e = fresh_odd (suc a) k b i (omega arith)

pub fresh_dead : (a k b i : ℕ) → i ≡ 2 * b → used (get_or (free_from a k) i (Free 0)) ≡ false
unfolding free_from
fresh_dead a zero b i e = refl
fresh_dead a (suc k) b zero e = refl
fresh_dead a (suc k) b (suc zero) e = absurd (omega arith)
fresh_dead a (suc k) zero (suc (suc i)) e = absurd (omega arith)
fresh_dead a (suc k) (suc b) (suc (suc i)) e = fresh_dead (suc a) k b i (omega arith)

none-held : (m b : ℕ) → holds b (replicate m none) ≡ false
none-held zero b = refl
none-held (suc m) b = none-held m b

fresh-figures : (a k i : ℕ) → Fitting (get_or (free_from a k) i Nothing)
unfolding free_from
fresh-figures a zero i = tt
fresh-figures a (suc k) zero = tt
fresh-figures a (suc k) (suc zero) = tt
fresh-figures a (suc k) (suc (suc i)) = fresh-figures (suc a) k i

abbrev range : ℕ → ℕ → List ℕ
range a zero = []
range a (suc k) = a ∷ range (suc a) k

range-chain : (n a k : ℕ) → a + k ≡ n → Chain (free_from 0 n) n a (range a k)
unfolding field place
range-chain n a zero e = omega arith
range-chain n a (suc k) e = (refl, (suc a, fresh_even 0 n a (2 * a + 0) (omega arith) (omega arith) ∙ ap (λ x. Free x) (omega arith), fresh_odd 0 n a (2 * a + 1) refl, range-chain n (suc a) k (omega arith)))

range-below : (b a k : ℕ) → b < a → times b (range a k) ≡ 0
range-below b a zero h = refl
range-below b a (suc k) h = rw (ne_eqb b a (omega arith)) (omega (arith, range-below b (suc a) k (omega arith)))

range-once : (b a k : ℕ) → a ≤ b → b < a + k → times b (range a k) ≡ 1
range-once b a zero h j = absurd (omega arith)
range-once b a (suc k) h j = go (eqb b a) refl (λ h. range-once b (suc a) k h (omega arith))
  where
    go : (q : Bool) → eqb b a ≡ q → (suc a ≤ b → times b (range (suc a) k) ≡ 1) → cond q 1 0 + times b (range (suc a) k) ≡ 1
    go true e ih = let d = eqb-true b a e in omega (arith, range-below b (suc a) k (omega arith))
    go false e ih = let d = eqb-false b a e in omega (arith, ih (omega arith))

pub dead : (s : Sizes) (b : ℕ) → live (fresh s).shape.fields b ≡ false
unfolding fresh live place
dead s b = fresh_dead 0 s.n b (2 * b + 0) (omega arith)

pub fresh-inv : (s : Sizes) → Inv s (fresh s)
unfolding fresh replay live place view field
fresh-inv s =
    record {
      good =
          record {
            len = fresh-len 0 s.n;
            counted = λ b. record { ok = tt; exact = λ l. absurd (false≢true (sym (dead s b) ∙ l)); gone = λ l. (refl, fresh-refs 0 s.n b) };
            held = λ b h. absurd (false≢true (sym (none-held s.m b) ∙ h));
          };
      frees = record { list = range 0 s.n; chain = range-chain s.n 0 s.n (omega arith); once = λ b h. rw (dead s b) (range-once b 0 s.n (omega arith) (omega arith)) };
      kept = record { zct_up = tt; zct_below = tt; mrt_up = tt; mrt_below = tt; mrt_counts = tt };
      plain_1 = λ a b e. absurd (let d = fresh_odd 0 s.n a (2 * a + 1) refl in let z : ◌≡◌ {A = ℕ} 0 1 = cc in omega arith);
      figures = fresh-figures 0 s.n;
      variables_long = length-replicate s.m none;
      log_room = omega arith;
      log_small = tt;
    }

pub fresh_ended : (s : Sizes) → Ended s (fresh s)
unfolding fresh
fresh_ended s = record { inv = fresh-inv s; settled_all = refl; log_empty = refl }
