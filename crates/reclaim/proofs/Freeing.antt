-- Laws of one cell's freeing: the tables without it, and its fields let go. Assumes nothing.
use mathlib.Core.Path.{◌≡◌, refl, ◌∙◌}
use mathlib.Core.List.{List}
use Prim.Native.Nat.{ℕ, ◌+◌, ◌*◌, ◌<◌}
use native.Mathlib.Omega.{arith}
use lib.ListN.{get_or}
use lib.IntN.{ℤ, pos}
use lib.Seq.{get_or-take}
use Rattle.rules.specs.declared.Used.{Used}
use Rattle.rules.specs.declared.State.{State}
use Rattle.rules.specs.declared.Field.{Field}
use Rattle.rules.specs.declared.Field.TheVariants.{Nothing, Figure, Cell, Free}
use Rattle.rules.specs.Field.{field_of}
use Rattle.rules.specs.Heap.{destroys, Heap, place, field}
use Rattle.rules.specs.Rules.{apply, replay}
use Rattle.rules.specs.Call.{drops}
use Rattle.rules.specs.Settle.{free_cell}
use Rattle.rules.specs.Rows.{TableRows, HeapRows}
use Rattle.rules.specs.Whole.{Inside, Rows}
use Rattle.tables.specs.Row.{TablesBy}
use Rattle.cells.specs.Free.{FreedTo}
use Rattle.rules.proofs.Unique.{is-take}
use Rattle.rules.proofs.Positions.{all_at}
use Rattle.cells.proofs.Storing.{inside-more, read}
use Rattle.reclaim.specs.Reclaiming.{low_to, released, Freed}

pub inside_as : {n m : ℕ} (f : Field) → n ≡ m → Inside n f → Inside m f
inside_as f e I = inside-more f (omega arith) I

-- the cell that a field names is inside, where the field is
pub cell-inside : {b : ℕ} (f : Field) → f ≡ Cell b → {n : ℕ} → Inside n f → b < n
cell-inside f e I = rw e at I

-- a field that names a cell is let go
pub let_go : {b cap : ℕ} {r r' : TableRows} {u u' : Used} (f : Field) → f ≡ Cell b → TablesBy cap (apply cap (destroys b)) r u r' u' → TablesBy cap (replay cap (drops f)) r u r' u'
unfolding replay
let_go f e g n t R = rw e (g n t R)

-- any other field lets go of nothing
pub let_nothing_go : {cap : ℕ} {r : TableRows} {u : Used} (f : Field) → ((b : ℕ) → f ≡ Cell b → ⊥) → TablesBy cap (replay cap (drops f)) r u r u
unfolding replay
let_nothing_go Nothing e n t R = R
let_nothing_go (Figure x) e n t R = R
let_nothing_go (Cell b) e n t R = absurd (e b refl)
let_nothing_go (Free b) e n t R = R

-- field 0 stands at 2a, field 1 at 2a+1
pub at_0 : (fs : List Field) (a : ℕ) (f : Field) → f ≡ get_or fs (2 * a) Nothing → f ≡ field fs a 0
unfolding field place
at_0 fs a f e = let z : 2 * a ≡ 2 * a + 0 = omega arith in rw z at e

pub at_1 : (fs : List Field) (a : ℕ) (f : Field) → f ≡ get_or fs (2 * a + 1) Nothing → f ≡ field fs a 1
unfolding field place
at_1 fs a f e = e

module _ {n cap : ℕ} {r : HeapRows} {at : State} {h : Heap} (R : Rows n cap r at h) (p : ℕ) (l : p < at.used.zct) where
  at-zct : get_or r.tables.zct p 0 < n
  at-zct =
      let I = R.ready.are.zct_is in
      let k = I.count in
      let g : get_or h.tables.zct p 0 ≡ get_or r.tables.zct p 0 = rw (← is-take I) (get_or-take at.used.zct r.tables.zct p 0 l) in
      rw g at (all_at (λ y. y < n) h.tables.zct R.ready.kept.zct_below p (omega arith))

  -- from what the parts of the freeing say
  pub freed_as : {a : ℕ} {ks : List ℕ} {xs : List ℤ} {r' : TableRows} {u : Used} (x y : Field) (low₁ low : ℕ) → a ≡ get_or r.tables.zct p 0
      → x ≡ field_of (get_or r.kinds (2 * a) 0) (get_or r.values (2 * a) (pos 0)) → y ≡ field_of (get_or r.kinds (2 * a + 1) 0) (get_or r.values (2 * a + 1) (pos 0))
      → FreedTo a at.first r.kinds r.values ks xs → TablesBy cap (released cap a x y) r.tables at.used r' u
      → low₁ ≡ low_to a x → low ≡ low_to low₁ y
      → Freed n cap a (record { kinds = ks; values = xs; tables = r' }) at h (record { len = at.len; first = a; used = u; freed = at.freed + 1 }) low
  unfolding free_cell
  freed_as {a} x y low₁ low ea ex ey C T e₁ e =
      let w : a < n = rw ea at-zct in
      let fs = h.shape.fields in
      let f = R.freed in
      let qx : x ≡ field fs a 0 = at_0 fs a x (read R.cells x (2 * a) ex) in
      let qy : y ≡ field fs a 1 = at_1 fs a y (read R.cells y (2 * a + 1) ey) in
      record {
        rows =
            record {
              most = R.most;
              big = R.big;
              cells = rw (← R.first) (C n fs R.cells R.within);
              ready = rw (← qx, ← qy) (T n h.tables R.ready);
              first = refl;
              within = omega arith;
              freed = omega arith;
            };
        len = refl;
        lowest = rw (← qx, ← qy) (e ∙ rw e₁);
      }
