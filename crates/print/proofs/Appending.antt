-- Laws of bytes appended one after the other, to a stream whose bytes are known or are not. Assumes nothing.
use Rattle.std.proofs.Common.{◌≡◌, ℕ, ◌+◌, ◌-◌, ◌≤◌, min, List, ◌++◌, length, take, drop, sym, subst, ◌∙◌, arith, Option, Result, Ok, Err, IsErr, length-drop, take_all, true≢false}
use Rattle.std.proofs.Math.Seq.{take-append-add, take-add}
use Rattle.std.proofs.lemmas.List.{take-append-le, take_min}
use Rattle.std.proofs.KnownBytes.{Appends-trans}
use Rattle.std.specs.Io.KnownBytes.{Appends}
use Rattle.print.specs.Printing.{AppendsSome, Prints}

-- the first i bytes, and n after them
pub appends_more : (old mid new : Option (List ℕ)) (bytes : List ℕ) (i n : ℕ)
    → Appends old mid (take i bytes) → Appends mid new (take n (take (length bytes - i) (drop i bytes))) → Appends old new (take (i + n) bytes)
appends_more old mid new bytes i n p q =
    let all : take (length bytes - i) (drop i bytes) ≡ drop i bytes = take_all (length bytes - i) (drop i bytes) (omega (arith, length-drop {A = ℕ})) in
    let e : take i bytes ++ take n (take (length bytes - i) (drop i bytes)) ≡ take (i + n) bytes = rw all (sym (take-add i n bytes)) in
    subst (λ (l : List ℕ). Appends old new l) e (Appends-trans old mid new _ _ p q)

-- some of the first bytes are some of all
pub some_front : (old new : Option (List ℕ)) (xs ys : List ℕ) → AppendsSome old new xs → AppendsSome old new (xs ++ ys)
some_front old new xs ys s =
    let i = min s.0 (length xs) in
    let h : i ≤ length xs = omega arith in
    (i, subst (λ (l : List ℕ). Appends old new l) (sym (take-append-le i xs ys h ∙ take_min s.0 xs)) s.1)

pub some_then : (old mid new : Option (List ℕ)) (xs ys : List ℕ) → Appends old mid xs → AppendsSome mid new ys → AppendsSome old new (xs ++ ys)
some_then old mid new xs ys p s = (length xs + s.0, subst (λ (l : List ℕ). Appends old new l) (sym (take-append-add xs ys s.0)) (Appends-trans old mid new xs (take s.0 ys) p s.1))

-- bytes were printed, and then others
pub prints_then : {E : Type 0} (old mid new : Option (List ℕ)) (xs ys : List ℕ) (r : Result (Unit {0}) E) → Appends old mid xs → Prints mid new ys r → Prints old new (xs ++ ys) r
prints_then old mid new xs ys (Ok done) p q = Appends-trans old mid new xs ys p q
prints_then old mid new xs ys (Err e) p s = some_then old mid new xs ys p s

-- some bytes were printed, and then it failed
pub prints_failed : {E : Type 0} (old new : Option (List ℕ)) (xs ys : List ℕ) (r : Result (Unit {0}) E) → IsErr r → AppendsSome old new xs → Prints old new (xs ++ ys) r
prints_failed old new xs ys (Ok done) e s = absurd (true≢false (sym e))
prints_failed old new xs ys (Err error) e s = some_front old new xs ys s
