-- Laws of a fresh heap's rows. Assumes nothing.
use mathlib.Core.Path.{◌≡◌, refl, sym, ap, ◌∙◌}
use mathlib.Core.Option.{none}
use mathlib.Core.List.{List, [], ◌∷◌, ◌++◌, map, map-append}
use Prim.Native.Nat.{ℕ, zero, suc, ◌+◌, ◌-◌, ◌*◌, ◌<◌}
use native.Mathlib.Numerals.{add-one}
use native.Mathlib.Omega.{arith}
use lib.ListN.{length, drop, get_or, set, replicate, length-map}
use lib.Seq.{drop-cons}
use lib.IntN.{ℤ, negsuc}
use Rattle.rules.specs.declared.Field.{Field}
use Rattle.rules.specs.declared.Field.TheVariants.{Nothing, Free}
use Rattle.rules.specs.Field.{kind_of, value_of, variable_of}
use Rattle.rules.specs.Table.{pad}
use Rattle.rules.specs.Step.{free_from, fresh}
use Rattle.rules.specs.Head.{fresh_head}
use Rattle.rules.specs.Rows.{Lent, lent, rows_of}
use Rattle.rules.specs.Sound.{Sized}
use Rattle.rules.proofs.Whole.{lent_as}
use Rattle.rules.proofs.Fresh.{fresh-len}
use Rattle.cells.proofs.Filling.{put_two}
use Rattle.rules.specs.declared.Sizes.{Sizes}

-- k cells free, and the one after them
free_more : (a k : ℕ) → free_from a (suc k) ≡ free_from a k ++ (Free (suc (a + k)) ∷ Nothing ∷ [])
unfolding free_from
free_more a zero = ap (λ (n : ℕ). Free (suc n) ∷ Nothing ∷ []) (omega arith)
free_more a (suc k) =
    let q : suc a + k ≡ a + suc k = omega arith in
    ap (λ (l : List Field). Free (suc a) ∷ Nothing ∷ l) (free_more (suc a) k ∙ rw q)

free_next : (k : ℕ) → free_from 0 (suc k) ≡ free_from 0 k ++ (Free (suc k) ∷ Nothing ∷ [])
free_next k =
    let z : 0 + k ≡ k = omega arith in
    free_more 0 k ∙ rw z

module _ {B : Type 0} (f : Field → B) where
  -- one more free cell over the row d
  pub freed-next : (d l l' : List B) (a : ℕ) → 2 * a + 1 < length d → l ≡ map f (free_from 0 a) ++ drop (2 * a) d
      → l' ≡ set (set l (2 * a) (f (Free (a + 1)))) (2 * a + 1) (f Nothing) → l' ≡ map f (free_from 0 (a + 1)) ++ drop (2 * (a + 1)) d
  freed-next d l l' a h e g =
      let p : length (map f (free_from 0 a)) ≡ 2 * a = length-map (free_from 0 a) f ∙ fresh-len 0 a in
      let q : suc (suc (2 * a)) ≡ 2 * (a + 1) = omega arith in
      let x : B = f Nothing in
      let w : drop (2 * a) d ≡ get_or d (2 * a) x ∷ get_or d (suc (2 * a)) x ∷ drop (2 * (a + 1)) d =
      drop-cons d (2 * a) x (omega arith) ∙ ap (λ (l : List B). get_or d (2 * a) x ∷ l) (drop-cons d (suc (2 * a)) x (omega arith) ∙ rw q) in
      let m : map f (free_from 0 (a + 1)) ≡ map f (free_from 0 a) ++ (f (Free (a + 1)) ∷ f Nothing ∷ []) =
      rw (add-one a, free_next a) (map-append f (free_from 0 a) (Free (suc a) ∷ Nothing ∷ [])) in
      g ∙ rw (e, w, m) (put_two (map f (free_from 0 a)) (drop (2 * (a + 1)) d) (get_or d (2 * a) x) (get_or d (suc (2 * a)) x) (f (Free (a + 1))) x (2 * a) p)

map-none : (m : ℕ) → map variable_of (replicate m none) ≡ replicate m (negsuc 0)
map-none zero = refl
map-none (suc m) = ap (λ (l : List ℤ). negsuc 0 ∷ l) (map-none m)

pad-none : (n : ℕ) → replicate n 0 ≡ pad n []
pad-none n = let d : n ≡ n - 0 = omega arith in ap (λ (j : ℕ). replicate j 0) d

-- a cleared row of n is the empty table's
cleared : {z n : ℕ} (zs : List ℕ) → zs ≡ replicate z 0 → z ≡ n → zs ≡ pad n []
cleared {z} {n} zs e h = e ∙ rw h (pad-none n)

pub rows-fresh : {s : Sizes} {r : Lent} {ks : List ℕ} {xs vs : List ℤ} {zs ms cs log work : List ℕ} → Sized (fresh_head s) r
    → ks ≡ map kind_of (free_from 0 s.n) → xs ≡ map value_of (free_from 0 s.n) → vs ≡ replicate (length r.variables) (negsuc 0)
    → zs ≡ replicate (length r.tables.zct) 0 → ms ≡ replicate (length r.tables.mrt) 0 → cs ≡ replicate (length r.tables.counts) 0
    → log ≡ replicate (length r.log) 0 → work ≡ replicate (length r.work) 0
    → lent ks xs vs zs ms cs log work ≡ rows_of s (fresh s)
unfolding rows_of fresh
rows-fresh {s} Z ek ex ev ez em ec el ew =
    let l = Z.lengths in
    lent_as
    ek
    ex
    (ev ∙ rw l.for_variables (sym (map-none s.m)))
    (cleared _ ez l.for_zct)
    (cleared _ em l.for_mrt)
    (cleared _ ec l.for_counts)
    (cleared _ el l.for_log)
    (ew ∙ rw l.for_work)
