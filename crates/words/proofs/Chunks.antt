-- What `all` found of the words, four by four. Assumes nothing.
use Rattle.std.proofs.Common.{◌≡◌, ℕ, ◌+◌, ◌*◌, ◌%◌, ◌/◌, ◌<◌, ◌≤◌, Bool, true, false, List, [], ◌∷◌, length, refl, sym, ap, ◌∙◌, arith, Option, Some, None, IfSome, IsSomeAnd, ℤ, pos, Bor, MatchBool, IsTrue}
use Rattle.std.specs.List.{IsSubsliceAt}
use Rattle.std.specs.Iterator.Runs.{Run, SomeRun, EveryRun, IsChunksExactRun, AllItemsGive, AnyItemGives}
use denote.Param.Members.{Mut, Called}
use Rattle.words.specs.Words.{is_some, call_at, Decides}
use Rattle.words.proofs.Listing.{EachFour, NotFour, says-yes, not_each}

-- the call of the words from 4k on, as that of four words cut there
chunk : (m : ℕ) (ws x : List ℤ) (k : ℕ) → IsSubsliceAt 4 ws (k * 4) x → call_at m x 0 ≡ call_at m ws (4 * k)
chunk m ws x k s =
    let a : k * 4 + 0 ≡ 4 * k = omega arith in
    let b : k * 4 + 1 ≡ 4 * k + 1 = omega arith in
    let c : k * 4 + 2 ≡ 4 * k + 2 = omega arith in
    let d : k * 4 + 3 ≡ 4 * k + 3 = omega arith in
    rw (s.2 0 (pos 0) (omega arith), s.2 1 (pos 0) (omega arith), s.2 2 (pos 0) (omega arith), s.2 3 (pos 0) (omega arith), a, b, c, d)

module _ {S F : Type 0} {steps : S → Option (Bor (List ℤ)) → S → Type 0} (g : Mut F (Bor (List ℤ) × Unit {0}) Bool) (f : F) (m : ℕ) (ws : List ℤ) (says : (x : Bor (List ℤ)) (b : Bool) (q : F) → Called g f (x, tt) b q → (q ≡ f) × (b ≡ is_some (call_at m x.now 0))) where
  there : (p : Run steps) (k : ℕ) → k < p.len → p.at k ≡ None → ⊥
  there p k h e = go p.items (omega (arith, p.long))
    where
      go : (xs : List (Bor (List ℤ))) → 0 < length xs → ⊥
      go [] l = omega arith
      go (x ∷ xs) l = let r = p.reads k x h in let z : ◌≡◌ {A = ℕ} 0 1 = cc in omega arith

  each : (p : Run steps) → IsChunksExactRun p 4 ws → p.whole ≡ true → AllItemsGive p g f true → EachFour m ws
  each p cut w a k h = go (p.at k) refl (cut.2 k) (a (λ x b q c. (says x.0 b q c).0) k)
    where
      go : (o : Option (Bor (List ℤ))) → p.at k ≡ o → IfSome o (λ x. (length x.now ≡ 4) × (k * 4 + 4 ≤ length ws) × IsSubsliceAt 4 ws (k * 4) x.now) → IfSome o (λ x. Called g f (x, tt) true f) → is_some (call_at m ws (4 * k)) ≡ true
      go None e s c = absurd (there p k (let l = cut.1 w in omega arith) e)
      go (Some x) e s c = ap is_some (sym (chunk m ws x.now k s.2)) ∙ sym (says x true f c).1

  not_one : (p : Run steps) → IsChunksExactRun p 4 ws → AnyItemGives p g f false → NotFour m ws
  not_one p cut a = let b = a (λ x b q c. (says x.0 b q c).0) in go b.0 (p.at b.0) (cut.2 b.0) b.2
    where
      go : (k : ℕ) (o : Option (Bor (List ℤ))) → IfSome o (λ x. (length x.now ≡ 4) × (k * 4 + 4 ≤ length ws) × IsSubsliceAt 4 ws (k * 4) x.now) → IsSomeAnd o (λ x. Called g f (x, tt) false f) → NotFour m ws
      go k None s c = absurd c
      go k (Some x) s c = (k, omega (arith, s.1), ap is_some (sym (chunk m ws x.now k s.2)) ∙ sym (says x false f c).1)

  -- the answer of `all`, of words that are few and whole calls
  pub decided : (size : S → ℕ) (rest : S → List ℤ) (s : S) (r : Bool) → EveryRun steps (λ p. 0 < size p.from → IsChunksExactRun p (size p.from) (rest p.from)) → size s ≡ 4 → rest s ≡ ws
      → SomeRun steps s (λ p. MatchBool r (IsTrue p.whole × AllItemsGive p g f true) (AnyItemGives p g f false)) → length ws ≤ 1024 → length ws % 4 ≡ 0 → Decides r m ws
  decided size rest s r cuts n w found few whole = go r found.2
    where
      cut : IsChunksExactRun found.0 4 ws
      cut = let p = found.0 in let c : 0 < size s → IsChunksExactRun p (size s) (rest s) = rw found.1 at (cuts p p.seen) in (rw (n, w) at c) (omega arith)

      go : (r : Bool) → MatchBool r (IsTrue found.0.whole × AllItemsGive found.0 g f true) (AnyItemGives found.0 g f false) → Decides r m ws
      go true h = says-yes true (length ws / 4) m ws refl few (omega arith) (each found.0 cut h.0 h.1)
      go false h = not_each false m ws refl (not_one found.0 cut h)
