-- Laws of rows that are written from their start on. Assumes nothing.
use mathlib.Core.Path.{◌≡◌, sym, ap, ◌∙◌}
use mathlib.Core.List.{List, [], ◌∷◌, ◌++◌, append_assoc}
use Prim.Native.Nat.{ℕ, ◌+◌}
use lib.ListN.{length, set, length-append}
use lib.Seq.{set_at}

module _ {A : Type 0} where
  -- two elements put after p
  pub put_two : (p r : List A) (k l x y : A) (i : ℕ) → length p ≡ i → set (set (p ++ (k ∷ l ∷ r)) i x) (i + 1) y ≡ (p ++ (x ∷ y ∷ [])) ++ r
  put_two p r k l x y i e =
      let q : length (p ++ (x ∷ [])) ≡ i + 1 = length-append p (x ∷ []) ∙ ap (λ (n : ℕ). n + 1) e in
      ap (λ (l : List A). set l (i + 1) y) (set_at p k (l ∷ r) x i e ∙ sym (append_assoc p (x ∷ []) (l ∷ r)))
      ∙ set_at (p ++ (x ∷ [])) l r y (i + 1) q
      ∙ simp append_assoc
