-- Lists: what no rule speaks of. Assumes nothing.
use Prim.Native.Nat.{ℕ, zero, suc}
use mathlib.Core.Path.{◌≡◌, refl, ap}
use mathlib.Core.List.{List, [], ◌∷◌, map}
use lib.ListN.{get_or, set}

pub map-set : {A B : Type 0} (f : A → B) (i : ℕ) (x : A) (l : List A) → map f (set l i x) ≡ set (map f l) i (f x)
map-set f i x [] = refl
map-set f zero x (y ∷ l) = refl
map-set {B = B} f (suc i) x (y ∷ l) = ap (λ (l : List B). f y ∷ l) (map-set f i x l)

-- what holds of an entry and of what is set holds of the entry after it is set
pub set-each : {A : Type 0} (P : A → Type 0) (l : List A) (i j : ℕ) (x d : A) → P x → P (get_or l j d) → P (get_or (set l i x) j d)
set-each P [] i j x d p q = q
set-each P (y ∷ l) zero zero x d p q = p
set-each P (y ∷ l) zero (suc j) x d p q = q
set-each P (y ∷ l) (suc i) zero x d p q = q
set-each P (y ∷ l) (suc i) (suc j) x d p q = set-each P l i j x d p q
