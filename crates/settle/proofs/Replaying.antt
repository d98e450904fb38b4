-- Laws of the log's replay. Assumes nothing.
use mathlib.Core.Path.{◌≡◌, refl, sym, ap, subst, ◌∙◌}
use mathlib.Core.List.{List, [], ◌∷◌}
use Prim.Native.Nat.{ℕ, ◌+◌, ◌*◌, ◌≤◌, ◌<◌}
use native.Mathlib.Omega.{arith}
use lib.ListN.{length, drop, get_or, drop_of_length-le}
use borrow.Author.Tests.{eq-eqb, ne_eqb}
use Rattle.rules.specs.declared.Used.{Used}
use Rattle.rules.specs.Heap.{Tables, Transaction, allocates, creates, destroys}
use Rattle.rules.specs.Rules.{apply, replay}
use Rattle.rules.specs.Rows.{TableRows}
use Rattle.rules.specs.Whole.{Ready, Logged}
use Rattle.tables.specs.Row.{TablesBy}
use Rattle.cells.specs.declared.Note.{Note}
use Rattle.cells.specs.declared.Entry.{Entry}
use Rattle.cells.specs.Log.{transaction, note_of, logs_as, Noted}
use Rattle.settle.specs.Replaying.{Replayable}
use Rattle.cells.proofs.Logging.{logs-of}

-- which of the three an entry is
pub is_allocate : (k a : ℕ) → k ≡ 1 → transaction k a ≡ allocates a
unfolding transaction
is_allocate k a e = rw (eq-eqb k 1 e)

pub is_create : (k a : ℕ) → (k ≡ 1 → ⊥) → k ≡ 2 → transaction k a ≡ creates a
unfolding transaction
is_create k a n e = rw (ne_eqb k 1 n, eq-eqb k 2 e)

pub is_destroy : (k a : ℕ) → (k ≡ 1 → ⊥) → (k ≡ 2 → ⊥) → transaction k a ≡ destroys a
unfolding transaction
is_destroy k a n m = rw (ne_eqb k 1 n, ne_eqb k 2 m)

-- the rows are some tables, of which the entries from i on make what all make of t
pub record Replaying (n cap : ℕ) (r : TableRows) (u : Used) (i : ℕ) (xs : List Transaction) (t : Tables) : Type 0 where
  pub tables : Tables
  pub ready : Ready n cap r u tables
  pub rest : replay cap (drop i xs) tables ≡ replay cap xs t

pub replaying_first : {n cap : ℕ} {r : TableRows} {u : Used} (xs : List Transaction) {t : Tables} → Ready n cap r u t → Replaying n cap r u 0 xs t
replaying_first xs {t} R = record { tables = t; ready = R; rest = refl }

-- the entry that was read is the next
pub entry_next : {n i len : ℕ} {log : List ℕ} {r : Note} {xs : List Transaction} (e : Entry) → Noted log i r → r ≡ note_of e → Logged n log len xs → i < len
    → drop i xs ≡ logs_as e ∷ drop (i + 1) xs
entry_next {n} {i} {len} {r = r} {xs = xs} e N q L l = rw (← logs-of r e q) (N.next n len xs L l)

-- its address is below the rows' length
pub entry_small : {n cap i len : ℕ} {rows : TableRows} {u : Used} {t : Tables} {log : List ℕ} {r : Note} {xs : List Transaction} (e : Entry) → Noted log i r → r ≡ note_of e
    → Logged n log len xs → i < len → Ready n cap rows u t → (note_of e).address < length rows.zct
entry_small {i = i} e N q L l R =
    let d = N.address_is in
    let z = R.are.zct_is.long in
    let s = L.small i l in
    omega (arith, ap (λ (n : Note). n.address) q)

-- one more entry
pub replaying_next : {n cap : ℕ} {r r' : TableRows} {u u' : Used} {i : ℕ} {xs : List Transaction} {t : Tables} (x : Transaction)
    → Replaying n cap r u i xs t → drop i xs ≡ x ∷ drop (i + 1) xs → TablesBy cap (apply cap x) r u r' u' → Replaying n cap r' u' (i + 1) xs t
unfolding replay
replaying_next {n} {cap} x P e f =
    record {
      tables = apply cap x P.tables;
      ready = f n P.tables P.ready;
      rest = sym (ap (λ (l : List Transaction). replay cap l P.tables) e) ∙ P.rest;
    }

-- none is left
pub replaying_done : {n cap : ℕ} {r : TableRows} {u : Used} {i len : ℕ} {log : List ℕ} {xs : List Transaction} {t : Tables}
    → Replaying n cap r u i xs t → Logged n log len xs → len ≤ i → Ready n cap r u (replay cap xs t)
unfolding replay
replaying_done {n} {cap} {r} {u} {i} {xs = xs} P L h =
    let c = L.count in
    let e : drop i xs ≡ [] = drop_of_length-le xs {i = i} (omega arith) in
    subst (λ (s : Tables). Ready n cap r u s) (sym (ap (λ (l : List Transaction). replay cap l P.tables) e) ∙ P.rest) P.ready

-- the address of an entry is below the rows' length
pub entry-small : {n cap : ℕ} {r : TableRows} {log : List ℕ} {u : Used} {i len a : ℕ} {xs : List Transaction} {t : Tables}
    → Ready n cap r u t → Logged n log len xs → i < len → a ≡ get_or log (2 * i + 1) 0 → a < length r.zct
entry-small {i = i} R L h e =
    let s = L.small i h in
    let l = R.are.zct_is.long in
    omega arith

pub replayable : {n cap len : ℕ} {r : TableRows} {log : List ℕ} {u : Used} {xs : List Transaction} {t : Tables}
    → n ≤ 1024 → 3 ≤ cap → Ready n cap r u t → Logged n log len xs → Replayable cap log len r u
replayable {xs = xs} {t = t} most big R L =
    let l = R.are.zct_is.long in
    record { most = omega arith; big = big; tables = t; list = xs; ready = rw l R; logged = rw l L }
