-- Laws of bytes taken from a stream one after the other. Assumes nothing.
use Rattle.std.proofs.Common.{◌≡◌, ℕ, ◌+◌, ◌≤◌, List, ◌++◌, length, take, sym, ap, subst, ◌∙◌, arith, Option, length-append, length-take-le}
use Rattle.std.proofs.Math.Seq.{take-append-add}
use Rattle.std.proofs.lemmas.List.{take-append-le}
use Rattle.std.proofs.KnownBytes.{Consumes-trans}
use Rattle.std.specs.Io.KnownBytes.{Consumes}
use Rattle.print.specs.Filling.{Taken}

-- n bytes more, which stand behind the row's first i
pub taken_more : (old mid new : Option (List ℕ)) (row part rest : List ℕ) (i n : ℕ) → Taken old mid row i → Consumes mid new (take n part) → n ≤ length part
    → Taken old new (take i row ++ (part ++ rest)) (i + n)
taken_more old mid new row part rest i n T q h =
    let l : length (take i row) ≡ i = length-take-le i row T.within in
    let e : take (i + n) (take i row ++ (part ++ rest)) ≡ take i row ++ take n part =
    ap (λ (m : ℕ). take (m + n) (take i row ++ (part ++ rest))) (sym l) ∙ take-append-add (take i row) (part ++ rest) n
    ∙ ap (λ (b : List ℕ). take i row ++ b) (take-append-le n part rest h) in
    record {
      within = simp length-append (omega arith);
      taken = subst (λ (b : List ℕ). Consumes old new b) (sym e) (Consumes-trans old mid new _ _ T.taken q);
    }
