-- What the audit's parts lean on, and what the work row showed, said of the rows themselves. Assumes nothing.
use Prim.Native.Nat.{ℕ, ◌<◌}
use mathlib.Core.Path.{◌≡◌, refl, sym, ◌∙◌, subst}
use mathlib.Core.Bool.{Bool, true, false, cond}
use mathlib.Core.List.{List, map}
use native.Mathlib.Omega.{arith}
use lib.IntN.{ℤ}
use lib.ListN.{length, get_or, length-map}
use Rattle.rules.specs.declared.Head.{Head}
use Rattle.rules.specs.Head.{Says, Within}
use Rattle.rules.specs.Rows.{TableRows, Lent, RowLengths}
use Rattle.rules.specs.Field.{held_of}
use Rattle.rules.specs.Sound.{TablesSound, held_among, Agree, ZctHeld, Sized, Lengths}
use Rattle.rules.proofs.Positions.{holds-held}
use Rattle.cells.specs.Marks.{Marks}
use Rattle.checks.specs.CellRows.{CellRows}
use Rattle.checks.specs.Counts.{TablesFit, AllMarked, EntriesBelow, Addressed}

-- ---- what the lengths give

module _ {h : Head} {r : Lent} (z : Sized h r) where
  pub cells-long : CellRows h.sizes.n r.kinds r.values
  cells-long = record { some = z.within.limits.n_least; most = z.within.limits.n_most; kinds = z.lengths.for_kinds; values = z.lengths.for_values }

  pub tables-fit : TablesFit h r.kinds r.tables
  tables-fit =
      let w = z.within in
      let l = z.lengths in
      record { most = w.limits.n_most; kinds_long = l.for_kinds; zct_fits = omega arith; mrt_fits = omega arith; counts_fits = omega arith }

-- ---- what the work row showed

-- two counts that are the same of every cell
pub agree_as : {h : Head} {ks : List ℕ} {t : TableRows} {count count' : ℕ → ℕ} → TablesSound h ks t → ((a : ℕ) → a < h.sizes.n → count a ≡ count' a) → Agree h ks t count → Agree h ks t count'
agree_as {t = t} T e A =
    record {
      apart = A.apart;
      one = λ a l o m. sym (e a l.cell) ∙ A.one a l o m;
      none = λ j k. sym (e (get_or t.zct j 0) (T.zct_row.live j k).cell) ∙ A.none j k;
      exact = λ j k l. sym (e (get_or t.mrt j 0) (T.mrt_row.live j k).cell) ∙ A.exact j k l;
    }

module _ (n : ℕ) (xs : List ℤ) (zs : List ℕ) (used : ℕ) (work : List ℕ) (W : EntriesBelow zs used n) (N : Addressed xs) (M : Marks n work (map held_of xs)) where
  marked-at : (b : ℕ) → b < n → get_or work b 0 ≡ cond (held_among n xs b (length xs)) 1 0
  marked-at b h =
      let e = rw (N, length-map xs held_of) at (holds-held n (map held_of xs) b h) in
      rw (← e) (M.marks b h)

  pub marked-held : AllMarked zs used work → ZctHeld n xs zs used
  marked-held A j h = go (held_among n xs (get_or zs j 0) (length xs)) (marked-at (get_or zs j 0) (W j h))
    where
      go : (q : Bool) → get_or work (get_or zs j 0) 0 ≡ cond q 1 0 → q ≡ true
      go true e = refl
      go false e = absurd (A j h e)

  pub held-marked : ZctHeld n xs zs used → AllMarked zs used work
  held-marked S j h z = let e = marked-at (get_or zs j 0) (W j h) in let o = rw (S j h) at e in omega arith

-- the check of the lengths l, where they are those of m
pub looked_at : {h : Head} {l m : RowLengths} {fits : Bool} → l ≡ m → Says fits (Within h × Lengths h.sizes l) → Says fits (Within h × Lengths h.sizes m)
looked_at {h} {fits = fits} e s = subst (λ (x : RowLengths). Says fits (Within h × Lengths h.sizes x)) e s
