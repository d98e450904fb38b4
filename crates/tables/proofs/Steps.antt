-- From the rows of both tables to a transaction. Assumes nothing.
use mathlib.Core.Path.{◌≡◌, refl, sym, ◌∙◌}
use mathlib.Core.Bool.{Bool, true, false, cond}
use mathlib.Core.List.{List, []}
use Prim.Native.Nat.{ℕ, zero, suc, ◌-◌, ◌≤◌, ◌<◌}
use native.Mathlib.Nat.{sub-zero}
use native.Mathlib.Omega.{arith}
use lib.ListN.{length, take, get_or, replicate, length-replicate}
use lib.Seq.{get_or-take, length-take-le}
use lib.Dec.{eqb}
use Rattle.rules.specs.declared.Used.{Used}
use Rattle.rules.specs.Table.{has, insert, remove, count_in, addresses, pad}
use Rattle.rules.specs.Heap.{Tables, Transaction, allocates, creates, destroys}
use Rattle.rules.specs.Rules.{enter_zct, leave_zct, enter_mrt, leave_mrt, on_create, on_destroy, apply}
use Rattle.rules.specs.Rows.{TableRows, table_rows}
use Rattle.rules.specs.Whole.{Is, Kept, Ready}
use Rattle.rules.specs.Invariant.{named}
use Rattle.rules.proofs.Sorted.{insert-up, all_insert, leave_zct-kept, apply-kept}
use Rattle.tables.specs.Row.{cut, Listed, Tabled, RowBy, TablesBy, ZctBy}
use Rattle.rules.proofs.Unique.{is-take}
use Rattle.rules.proofs.Positions.{has-at, all_at}
use Rattle.tables.proofs.Places.{place_at, remove-cut, count_none}
use Rattle.tables.proofs.Single.{is-padded, is-listed, cut-is}
use Rattle.tables.proofs.Pairs.{MrtRows, Pair, MrtBy, pair_count, count-is}

-- rows that are tables over addresses below n, as the code wants them
module _ {n cap : ℕ} {r : TableRows} {u : Used} {t : Tables} (R : Ready n cap r u t) where
  pub zct-listed : Listed r.zct u.zct
  zct-listed = is-listed R.are.zct_is R.kept.zct_up R.kept.zct_below

  pub mrt-counted : 3 ≤ cap → MrtRows cap r.mrt r.counts u.mrt
  mrt-counted big = record {
    listed = is-listed R.are.mrt_is R.kept.mrt_up R.kept.mrt_below;
    beside = is-padded R.are.counts_is;
    long = R.are.counts_is.long ∙ sym R.are.mrt_is.long;
    within = rw (is-take R.are.counts_is) R.kept.mrt_counts;
    big = big;
  }

  pub mrt_pair : Pair n r.mrt r.counts u.mrt t.mrt
  mrt_pair = record { mrt_is = R.are.mrt_is; counts_is = R.are.counts_is }

  pub zct-has : (a : ℕ) {b : Bool} → has a (take u.zct r.zct) ≡ b → has a t.zct ≡ b
  zct-has a h = rw (is-take R.are.zct_is) at h

  pub mrt-has : (a : ℕ) {b : Bool} → has a (take u.mrt r.mrt) ≡ b → has a (addresses t.mrt) ≡ b
  mrt-has a h = rw (is-take R.are.mrt_is) at h

  -- they are some tables
  pub tabled : n ≤ 1024 → 3 ≤ cap → Tabled cap r u
  tabled most big = let l = R.are.zct_is.long in record { most = omega arith; big = big; tables = t; ready = rw l R }

-- rows of zeros are empty tables
zero_row : (n : ℕ) → Is n (replicate n 0) 0 []
zero_row n = record { long = length-replicate n 0; count = refl; padded = rw (sub-zero n) }

pub fresh-ready : (n cap : ℕ) → Ready n cap (table_rows (replicate n 0) (replicate n 0) (replicate n 0)) (record { zct = 0; mrt = 0 }) (record { zct = []; mrt = [] })
fresh-ready n cap = record {
  are = record { zct_is = zero_row n; mrt_is = zero_row n; counts_is = zero_row n };
  kept = record { zct_up = tt; zct_below = tt; mrt_up = tt; mrt_below = tt; mrt_counts = tt };
}

-- tables' rows stay such, of one length
pub tabled_after : {cap : ℕ} {f : Tables → Tables} {r r' : TableRows} {u u' : Used} → Tabled cap r u → TablesBy cap f r u r' u' → Tabled cap r' u'
tabled_after T b = tabled (b _ _ T.ready) T.most T.big

pub length_after : {cap : ℕ} {f : Tables → Tables} {r r' : TableRows} {u u' : Used} → Tabled cap r u → TablesBy cap f r u r' u' → length r'.zct ≡ length r.zct
length_after T b = (b _ _ T.ready).are.zct_is.long

-- the entry at place p of ZCT is cut out
pub left : {cap p k : ℕ} {r : TableRows} {zs : List ℕ} {u : Used} → 3 ≤ cap → p < u.zct → k ≡ u.zct - 1 → zs ≡ pad (length r.zct) (cut p (take u.zct r.zct))
    → TablesBy cap (leave_zct (get_or r.zct p 0)) r u (table_rows zs r.mrt r.counts) (record { zct = k; mrt = u.mrt })
unfolding leave_zct
left {cap} {p} {r = r} {u = u} big h l x n t R =
    let zs = r.zct in
    let I = R.are.zct_is in
    let k = I.count in
    let w : p < length t.zct = omega arith in
    let g : get_or t.zct p 0 ≡ get_or zs p 0 = rw (← is-take I) (get_or-take u.zct zs p 0 h) in
    let o : remove (get_or zs p 0) t.zct ≡ cut p t.zct =
    rw (← g) (remove-cut (get_or t.zct p 0) t.zct R.kept.zct_up (has-at t.zct p w) ∙ rw (place_at p t.zct R.kept.zct_up w)) in
    record {
      are = record { zct_is = rw o (cut-is (is-padded I) I p h l x); mrt_is = R.are.mrt_is; counts_is = R.are.counts_is };
      kept = leave_zct-kept n cap big t R.kept (get_or zs p 0);
    }

-- an allocate
pub allocated : {zs zs' : List ℕ} {u : Used} {k : ℕ} (a : ℕ) → a < length zs → RowBy (insert a) zs u.zct zs' k
    → ZctBy (λ cap. apply cap (allocates a)) zs u zs' (record { zct = k; mrt = u.mrt })
unfolding apply enter_zct
allocated a small f cap ms cs n t R = record {
  are = record { zct_is = f n t.zct R.are.zct_is; mrt_is = R.are.mrt_is; counts_is = R.are.counts_is };
  kept = record {
    zct_up = insert-up a t.zct R.kept.zct_up;
    zct_below = all_insert (λ y. y < n) a t.zct (rw R.are.zct_is.long at small) R.kept.zct_below;
    mrt_up = R.kept.mrt_up;
    mrt_below = R.kept.mrt_below;
    mrt_counts = R.kept.mrt_counts;
  };
}

-- what a transaction on MRT leaves of ZCT
create_zct : (cap a : ℕ) (t : Tables) (k : ℕ) → (on_create cap a t false k).zct ≡ t.zct
unfolding on_create enter_mrt
create_zct cap a t zero = refl
create_zct cap a t (suc k) = go (eqb (suc k) cap)
  where
    go : (d : Bool) → (cond d t (enter_mrt a (suc (suc k)) t)).zct ≡ t.zct
    go true = refl
    go false = refl

destroy_zct : (cap a : ℕ) (t : Tables) (k : ℕ) → 1 ≤ k → (on_destroy cap a t k).zct ≡ t.zct
unfolding on_destroy enter_mrt leave_mrt
destroy_zct cap a t zero h = absurd (omega arith)
destroy_zct cap a t (suc k) h = go (eqb (suc k) cap) (eqb k 1)
  where
    go : (d e : Bool) → (cond d t (cond e (leave_mrt a t) (enter_mrt a k t))).zct ≡ t.zct
    go true e = refl
    go false true = refl
    go false false = refl

-- the rows of some tables, as the code wants them
module _ {cap : ℕ} {r : TableRows} {u : Used} (T : Tabled cap r u) where
  pub zct-rows : Listed r.zct u.zct
  zct-rows = zct-listed T.ready

  pub mrt-rows : MrtRows cap r.mrt r.counts u.mrt
  mrt-rows = mrt-counted T.ready T.big

  -- the entry at place p of MRT
  pub mrt-entry : (p : ℕ) → p < u.mrt → get_or r.mrt p 0 < length r.zct
  mrt-entry p l =
      let L = mrt-rows.listed in
      let m = T.ready.are.mrt_is.long in
      let w : p < length (take u.mrt r.mrt) = omega (arith, length-take-le u.mrt r.mrt L.padded.fits) in
      omega (arith, all_at (λ y. y < length r.mrt) (take u.mrt r.mrt) L.below p w, get_or-take u.mrt r.mrt p 0 l)

-- a create and a destroy, of a below the rows' length
module _ {cap : ℕ} {r : TableRows} {u : Used} (T : Tabled cap r u) (a : ℕ) (small : a < length r.zct) where
  pub mrt-small : a < length r.mrt
  mrt-small = rw T.ready.are.mrt_is.long small

  kept : (x : Transaction) {n : ℕ} {t : Tables} → named x ≡ a → Ready n cap r u t → Kept n cap (apply cap x t)
  kept x {n} {t} e R =
      let l = R.are.zct_is.long in
      apply-kept n cap T.big t R.kept x (omega arith)

  pub created_zct : {zs : List ℕ} {k : ℕ} → has a (take u.zct r.zct) ≡ true → RowBy (remove a) r.zct u.zct zs k
      → TablesBy cap (apply cap (creates a)) r u (table_rows zs r.mrt r.counts) (record { zct = k; mrt = u.mrt })
  unfolding apply on_create leave_zct
  created_zct h f n t R = record {
    are = rw (zct-has R a h) (record { zct_is = f n t.zct R.are.zct_is; mrt_is = R.are.mrt_is; counts_is = R.are.counts_is });
    kept = kept (creates a) refl R;
  }

  pub created_mrt : {ms cs : List ℕ} {k : ℕ} → has a (take u.zct r.zct) ≡ false
      → MrtBy (λ t. on_create cap a t false (count_in a t.mrt)) r.mrt r.counts u.mrt ms cs k
      → TablesBy cap (apply cap (creates a)) r u (table_rows r.zct ms cs) (record { zct = u.zct; mrt = k })
  unfolding apply
  created_mrt h f n t R =
      let P = f n t (mrt_pair R) in
      record {
        are = rw (zct-has R a h) (record { zct_is = rw (create_zct cap a t (count_in a t.mrt)) R.are.zct_is; mrt_is = P.mrt_is; counts_is = P.counts_is });
        kept = kept (creates a) refl R;
      }

  pub destroyed_zct : {zs : List ℕ} {k : ℕ} → has a (take u.mrt r.mrt) ≡ false → RowBy (insert a) r.zct u.zct zs k
      → TablesBy cap (apply cap (destroys a)) r u (table_rows zs r.mrt r.counts) (record { zct = k; mrt = u.mrt })
  unfolding apply on_destroy enter_zct
  destroyed_zct h f n t R = record {
    are = rw (count_none a t.mrt (mrt-has R a h)) (record { zct_is = f n t.zct R.are.zct_is; mrt_is = R.are.mrt_is; counts_is = R.are.counts_is });
    kept = kept (destroys a) refl R;
  }

  pub destroyed_mrt : {ms cs : List ℕ} {k : ℕ} → has a (take u.mrt r.mrt) ≡ true
      → MrtBy (λ t. on_destroy cap a t (count_in a t.mrt)) r.mrt r.counts u.mrt ms cs k
      → TablesBy cap (apply cap (destroys a)) r u (table_rows r.zct ms cs) (record { zct = u.zct; mrt = k })
  unfolding apply
  destroyed_mrt h f n t R =
      let P = f n t (mrt_pair R) in
      let C = mrt-counted R T.big in
      let c = pair_count C a _ refl h in
      let e = count-is C a _ refl h (mrt_pair R) in
      record {
        are = record { zct_is = rw (destroy_zct cap a t (count_in a t.mrt) (omega arith)) R.are.zct_is; mrt_is = P.mrt_is; counts_is = P.counts_is };
        kept = kept (destroys a) refl R;
      }
