-- Rows are one heap's, and a heap has one set of rows. Assumes nothing.
use Prim.Native.Nat.{ℕ, ◌*◌}
use mathlib.Core.Path.{◌≡◌, refl, sym, ap, ◌∙◌}
use mathlib.Core.Bool.{cond}
use mathlib.Core.Option.{Option}
use mathlib.Core.List.{List, [], ◌∷◌, map}
use native.Mathlib.Omega.{arith}
use lib.Dec.{eqb}
use lib.ListN.{length, take}
use lib.IntN.{ℤ}
use Rattle.rules.specs.declared.Used.{Used}
use Rattle.rules.specs.declared.State.{State}
use Rattle.rules.specs.declared.Sizes.{Sizes}
use Rattle.rules.specs.declared.Field.{Field}
use Rattle.rules.specs.Field.{variable_of, held_of}
use Rattle.rules.specs.Table.{pad}
use Rattle.rules.specs.Heap.{Tables, Transaction, allocates, creates, destroys, Heap}
use Rattle.rules.specs.Rows.{TableRows, Lent, table_rows, words, fields_of, tables_of}
use Rattle.rules.specs.Whole.{Is, Are, Cells, Logged, Whole}
use Rattle.rules.proofs.Roundtrip.{fields_back, variables_back, entries_back, take-pad, length-words}

-- ---- what the rows are, read back

pub is-take : {n used : ℕ} {row z : List ℕ} → Is n row used z → take used row ≡ z
is-take {n} {used} {row} {z} I = ap (take used) I.padded ∙ take-pad n used z (sym I.count)

pub cells_are : {n : ℕ} {ks : List ℕ} {xs : List ℤ} {fs : List Field} → Cells n ks xs fs → fields_of ks xs ≡ fs
cells_are {fs = fs} C = rw (C.kinds, C.values) (fields_back fs)

pub tables-are : {n : ℕ} {r : TableRows} {u : Used} {t : Tables} → Are n r u t → tables_of r u ≡ t
tables-are {t = t} A = rw (is-take A.zct_is, is-take A.mrt_is, is-take A.counts_is, entries_back t.mrt)

-- the entry of two words
abbrev entry_of : ℕ → ℕ → Transaction
entry_of k a = cond (eqb k 1) (allocates a) (cond (eqb k 2) (creates a) (destroys a))

abbrev pub log_of : List ℕ → List Transaction
log_of [] = []
log_of (k ∷ []) = []
log_of (k ∷ a ∷ ws) = entry_of k a ∷ log_of ws

pub words_back : (xs : List Transaction) → log_of (words xs) ≡ xs
words_back [] = refl
words_back (allocates a ∷ xs) = rw (words_back xs)
words_back (creates a ∷ xs) = rw (words_back xs)
words_back (destroys a ∷ xs) = rw (words_back xs)

pub log_is : {n len : ℕ} {log : List ℕ} {xs : List Transaction} → Logged n log len xs → log_of (take (2 * len) log) ≡ xs
log_is {n} {len} {log} {xs} L =
    let c = L.count in
    ap (λ (r : List ℕ). log_of (take (2 * len) r)) L.row ∙ ap log_of (take-pad (length log) (2 * len) (words xs) (omega (arith, length-words xs))) ∙ words_back xs

pub variables_are : {vs : List ℤ} {hs : List (Option ℕ)} → vs ≡ map variable_of hs → map held_of vs ≡ hs
variables_are {hs = hs} e = ap (map held_of) e ∙ variables_back hs

-- ---- rows fix the heap

pub whole_unique : {s : Sizes} {r : Lent} {at : State} {h h' : Heap} → Whole s r at h → Whole s r at h' → h ≡ h'
whole_unique {h = h} {h' = h'} W Y =
    let R = W.rows in
    let Q = Y.rows in
    same
    (sym (cells_are R.cells) ∙ cells_are Q.cells)
    (sym (variables_are W.variables_are) ∙ variables_are Y.variables_are)
    (sym R.first ∙ Q.first)
    (sym (tables-are R.ready.are) ∙ tables-are Q.ready.are)
    (sym (log_is W.logged) ∙ log_is Y.logged)
    (sym R.freed ∙ Q.freed)
  where
    same : h.shape.fields ≡ h'.shape.fields → h.shape.variables ≡ h'.shape.variables → h.first ≡ h'.first → h.tables ≡ h'.tables → h.log ≡ h'.log → h.freed ≡ h'.freed → h ≡ h'
    same ef ev ei et el ec =
        ap (λ (f : List Field). record { shape = record { fields = f; variables = h.shape.variables }; first = h.first; tables = h.tables; log = h.log; freed = h.freed }) ef
        ∙ rw (ev, ei, et, el, ec)

-- ---- a heap fixes its rows, all but the work row, which is scratch, and where the batch stands

pub record SameLent (r q : Lent) (at to : State) : Type 0 where
  pub kinds : r.kinds ≡ q.kinds
  pub values : r.values ≡ q.values
  pub variables : r.variables ≡ q.variables
  pub tables : r.tables ≡ q.tables
  pub log : r.log ≡ q.log
  pub state : at ≡ to

pub lent_unique : {s : Sizes} {r q : Lent} {at to : State} {h : Heap} → Whole s r at h → Whole s q to h → SameLent r q at to
lent_unique {r = r} {q = q} {at = at} {to = to} {h = h} W Y =
    let R = W.rows in
    let Q = Y.rows in
    let A = R.ready.are in
    let B = Q.ready.are in
    record {
      kinds = R.cells.kinds ∙ sym Q.cells.kinds;
      values = R.cells.values ∙ sym Q.cells.values;
      variables = W.variables_are ∙ sym Y.variables_are;
      tables =
          same_tables (A.zct_is.padded ∙ sym B.zct_is.padded) (A.mrt_is.padded ∙ sym B.mrt_is.padded) (A.counts_is.padded ∙ sym B.counts_is.padded);
      log = W.logged.row ∙ ap (λ (k : ℕ). pad k (words h.log)) (W.log_long ∙ sym Y.log_long) ∙ sym Y.logged.row;
      state =
          same-state (W.logged.count ∙ sym Y.logged.count) (R.first ∙ sym Q.first)
          (A.zct_is.count ∙ sym B.zct_is.count) (A.mrt_is.count ∙ sym B.mrt_is.count) (R.freed ∙ sym Q.freed);
    }
  where
    same_tables : r.tables.zct ≡ q.tables.zct → r.tables.mrt ≡ q.tables.mrt → r.tables.counts ≡ q.tables.counts → r.tables ≡ q.tables
    same_tables ez em ec = ap (λ (z : List ℕ). table_rows z r.tables.mrt r.tables.counts) ez ∙ rw (em, ec)

    same-state : at.len ≡ to.len → at.first ≡ to.first → at.used.zct ≡ to.used.zct → at.used.mrt ≡ to.used.mrt → at.freed ≡ to.freed → at ≡ to
    same-state el ei ez em ef =
        ap (λ (k : ℕ). record { len = k; first = at.first; used = at.used; freed = at.freed }) el
        ∙ ap (λ (k : ℕ). record { len = to.len; first = k; used = at.used; freed = at.freed }) ei
        ∙ ap (λ (k : ℕ). record { len = to.len; first = to.first; used = record { zct = k; mrt = at.used.mrt }; freed = at.freed }) ez
        ∙ ap (λ (k : ℕ). record { len = to.len; first = to.first; used = record { zct = to.used.zct; mrt = k }; freed = at.freed }) em
        ∙ ap (λ (k : ℕ). record { len = to.len; first = to.first; used = to.used; freed = k }) ef
