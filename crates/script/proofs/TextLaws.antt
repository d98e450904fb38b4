-- Laws of bytes compared, of a line's fields and of a text's lines: what one more byte does. Assumes nothing.
use Prim.Native.Nat.{ℕ, zero, suc, ◌+◌, ◌-◌, ◌≤◌, ◌<◌}
use mathlib.Core.Path.{◌≡◌, refl, ap, ◌∙◌}
use mathlib.Core.Bool.{Bool, true, false, cond, not}
use mathlib.Core.List.{List, [], ◌∷◌}
use native.Mathlib.Omega.{arith}
use lib.Dec.{eqb, ltb}
use denote.Ref.{Bor}
use Rattle.std.specs.Prelude.{unwrap_or, option_map, slice_get}
use Rattle.std.specs.Prelude as C
use native.Mathlib.Nat.{add-sub_cancel_left}
use lib.ListN.{length, get_or, take, drop, length-drop, drop_of_length-le}
use lib.Seq.{drop-cons, drop-drop, take_all}
use borrow.Author.Tests.{ltb-false}
use Rattle.std.specs.List.{position_or_len, slice_split}
use Rattle.std.specs.Cmp.Lexicographic.{pointwise}
use Rattle.script.specs.Text.{same_bytes, up_to, more_fields, fields_of, lines_from, lines_of, line_at, next_line}

-- ---- up to a byte

pub up_to_most : (b : ℕ) (s : List ℕ) → length (up_to b s) ≤ length s
unfolding up_to
up_to_most b [] = omega arith
up_to_most b (x ∷ s) = go (eqb x b) (up_to_most b s)
  where
    go : (q : Bool) → length (up_to b s) ≤ length s → length (cond q [] (x ∷ up_to b s)) ≤ suc (length s)
    go true h = omega arith
    go false h = omega arith

pub up_to_take : (b : ℕ) (s : List ℕ) → take (length (up_to b s)) s ≡ up_to b s
unfolding up_to
up_to_take b [] = refl
up_to_take b (x ∷ s) = go (eqb x b) (up_to_take b s)
  where
    go : (q : Bool) → take (length (up_to b s)) s ≡ up_to b s → take (length (cond q [] (x ∷ up_to b s))) (x ∷ s) ≡ cond q [] (x ∷ up_to b s)
    go true e = refl
    go false e = ap (λ (l : List ℕ). x ∷ l) e

-- where the first b stands, as `position` says it
pub up_to_position : (b : ℕ) (s : List ℕ) → length (up_to b s) ≡ position_or_len (λ x. eqb x b) s
unfolding up_to
up_to_position b [] = refl
up_to_position b (x ∷ s) = go (eqb x b) (up_to_position b s)
  where
    go : (q : Bool) → length (up_to b s) ≡ position_or_len (λ y. eqb y b) s → length (cond q [] (x ∷ up_to b s)) ≡ cond (not q) (1 + position_or_len (λ y. eqb y b) s) 0
    go true e = refl
    go false e = omega arith

-- ---- the same bytes

-- as `==` says it
pub same_pointwise : (a b : List ℕ) → same_bytes a b ≡ pointwise eqb a b
unfolding same_bytes
same_pointwise [] [] = refl
same_pointwise [] (y ∷ b) = refl
same_pointwise (x ∷ a) [] = refl
same_pointwise (x ∷ a) (y ∷ b) = rw (same_pointwise a b)

-- ---- fields

-- the fields, as `split` says them
pub split_fields : (s : List ℕ) → slice_split (λ b. eqb b 9) s ≡ fields_of s
unfolding up_to more_fields
split_fields [] = refl
split_fields (x ∷ s) = rw (split_fields s) (go (eqb x 9))
  where
    go : (q : Bool) → cond q ([] ∷ fields_of s) ((x ∷ up_to 9 s) ∷ more_fields s) ≡ cond q [] (x ∷ up_to 9 s) ∷ cond q (fields_of s) (more_fields s)
    go true = refl
    go false = refl

-- field k, or none
pub field_or_none : (d : Bor (List ℕ)) (o : C.Option (Bor (List ℕ))) (s : List ℕ) (k : ℕ) (r : Bor (List ℕ)) → r ≡ unwrap_or o d → option_map (λ x. x.now) o ≡ slice_get (slice_split (λ b. eqb b 9) s) k → d.now ≡ [] → r.now ≡ get_or (fields_of s) k []
field_or_none d o s k r e h z = rw e (go o (slice_split (λ b. eqb b 9) s) k h ∙ ap (λ (l : List (List ℕ)). get_or l k []) (split_fields s))
  where
    go : (o : C.Option (Bor (List ℕ))) (xs : List (List ℕ)) (k : ℕ) → option_map (λ x. x.now) o ≡ slice_get xs k → (unwrap_or o d).now ≡ get_or xs k []
    go C.None [] k h = z
    go (C.Some x) [] k h = let q : ◌≡◌ {A = ℕ} 0 1 = cc in absurd (omega arith)
    go C.None (y ∷ xs) zero h = let q : ◌≡◌ {A = ℕ} 0 1 = cc in absurd (omega arith)
    go (C.Some x) (y ∷ xs) zero h = cc
    go o (y ∷ xs) (suc k) h = go o xs k h

-- the first b, or the end where there is none
pub end_found : (b : ℕ) (s : List ℕ) (o : C.Option ℕ) (n r : ℕ) → r ≡ unwrap_or o n → o ≡ cond (ltb (position_or_len (λ x. eqb x b) s) (length s)) (C.Some (position_or_len (λ x. eqb x b) s)) C.None → n ≡ length s → r ≡ length (up_to b s)
end_found b s o n r e h l = rw (e, h, l, ← up_to_position b s) (go (ltb (length (up_to b s)) (length s)) refl)
  where
    go : (q : Bool) → ltb (length (up_to b s)) (length s) ≡ q → unwrap_or (cond q (C.Some (length (up_to b s))) C.None) (length s) ≡ length (up_to b s)
    go true e = refl
    go false e = let m = up_to_most b s in let w = ltb-false _ _ e in omega arith

pub field-first : (s : List ℕ) (i left : ℕ) → left ≡ 0 → up_to 9 (drop i s) ≡ get_or (fields_of (drop i s)) left []
field-first s i left e = rw e

-- ---- the part up to a byte

-- the part from a place up to the next b
pub part-to : (b : ℕ) (s : List ℕ) (a : ℕ) → take (a + length (up_to b (drop a s)) - a) (drop a s) ≡ up_to b (drop a s)
part-to b s a = rw (add-sub_cancel_left a (length (up_to b (drop a s)))) (up_to_take b (drop a s))

pub end-inside : (b : ℕ) (s : List ℕ) (a : ℕ) → a ≤ length s → a + length (up_to b (drop a s)) ≤ length s
end-inside b s a h = let e = up_to_most b (drop a s) in let d = length-drop a s in omega arith

-- ---- the lines of a text

-- what is left of the text after a line
lines_after : (xs : List ℕ) → lines_from false xs ≡ lines_from true (drop (suc (length (up_to 10 xs))) xs)
unfolding lines_from up_to
lines_after [] = refl
lines_after (x ∷ xs) = go (eqb x 10) (lines_after xs)
  where
    go : (q : Bool) → lines_from false xs ≡ lines_from true (drop (suc (length (up_to 10 xs))) xs) → lines_from q xs ≡ lines_from true (drop (length (cond q [] (x ∷ up_to 10 xs))) xs)
    go true e = refl
    go false e = e

lines_first : (x : ℕ) (xs : List ℕ) → lines_from true (x ∷ xs) ≡ up_to 10 (x ∷ xs) ∷ lines_from false (x ∷ xs)
unfolding lines_from
lines_first x xs = refl

-- the lines from a place on, below the text's length: the line there, and those from the next on
pub lines_step : (xs : List ℕ) (at : ℕ) → at < length xs → lines_of (drop at xs) ≡ line_at xs at ∷ lines_of (drop (next_line xs at) xs)
lines_step xs at h =
    let d = drop-cons xs at 0 h in
    let f : lines_from true (drop at xs) ≡ up_to 10 (drop at xs) ∷ lines_from false (drop at xs) = rw d (lines_first (get_or xs at 0) (drop (suc at) xs)) in
    let n : at + suc (length (up_to 10 (drop at xs))) ≡ next_line xs at = omega arith in
    f ∙ ap (λ (l : List (List ℕ)). up_to 10 (drop at xs) ∷ l) (lines_after (drop at xs) ∙ ap (lines_from true) (drop-drop (suc (length (up_to 10 (drop at xs)))) at xs ∙ ap (λ (k : ℕ). drop k xs) n))

-- no line starts at the text's end or past it
pub lines_end : (xs : List ℕ) (at : ℕ) → length xs ≤ at → lines_of (drop at xs) ≡ []
unfolding lines_from
lines_end xs at h = rw (drop_of_length-le xs h)

-- all after the first byte
pub rest_part : (s : List ℕ) → take (length s - 1) (drop 1 s) ≡ drop 1 s
rest_part s = take_all (length s - 1) (drop 1 s) (omega (arith, length-drop 1 s))
