-- The calls of a batch one after the other, and the settle at its end. Assumes nothing.
use Prim.Native.Nat.{ℕ, suc, ◌+◌, ◌-◌, ◌*◌, ◌/◌, ◌≤◌, ◌<◌}
use mathlib.Core.Path.{◌≡◌, refl, sym, ap, ◌∙◌}
use mathlib.Core.Bool.{Bool, true, false, cond}
use mathlib.Core.Option.{none, some}
use mathlib.Core.List.{List, [], ◌∷◌, ◌++◌, append_assoc, append-nil}
use native.Mathlib.Omega.{arith}
use native.Mathlib.Numerals.{add-one}
use lib.Dec.{leb}
use lib.IntN.{ℤ, pos}
use lib.ListN.{length, length-map, length-append, length-drop, get_or, set, take, drop, drop_of_length-le}
use lib.Seq.{drop-cons, set_at}
use borrow.Author.Tests.{leb-true}
use Rattle.rules.specs.declared.Head.{Head}
use Rattle.rules.specs.declared.Call.{Call}
use Rattle.rules.specs.declared.Call.TheVariants.{Settle}
use Rattle.rules.specs.declared.Refusal.{Refusal}
use Rattle.rules.specs.declared.Sizes.{Sizes}
use Rattle.rules.specs.declared.State.{State}
use Rattle.rules.specs.Heap.{Heap}
use Rattle.rules.specs.Settle.{settled}
use Rattle.std.specs.Prelude.{Result}
use Rattle.rules.specs.Call.{Answer, answer_of, calls_of, calls_in}
use Rattle.rules.specs.Step.{step, calls}
use Rattle.rules.specs.Rows.{Lent, lengths_of, rows_of}
use Rattle.rules.specs.Sound.{Lengths}
use Rattle.rules.specs.Whole.{start_of}
use Rattle.rules.specs.Refusals.{Numbers, answer_words, answered}
use Rattle.rules.proofs.Demand1.{words_long}
use Rattle.rules.proofs.Whole.{rows_all, head-is}
use Rattle.cells.proofs.Storing.{cell-lengths}
use Rattle.words.specs.Words.{call_at}
use Rattle.words.proofs.Listing.{listed}
use Rattle.settle.specs.Settling.{Settled, Settles}
use Rattle.settle.proofs.Settling.{settled-whole}
use Rattle.working.specs.Working.{Standing, Workable, Works, answering, Runnable, ByTheRules, Runs, ended_at}
use Rattle.working.proofs.Steps.{turn-call, turn-long}

-- ---- lengths

-- the lengths of rows that are a heap's
pub long_of : {s : Sizes} {r : Lent} {at : State} {h : Heap} → Standing s r at h → Lengths s (lengths_of r)
long_of S =
    let W = S.whole in
    let l = cell-lengths W.rows.cells in
    let A = W.rows.ready.are in
    record {
      for_kinds = l.0;
      for_values = l.1;
      for_variables = rw W.variables_are (simp length-map S.inv.variables_long);
      for_zct = A.zct_is.long;
      for_mrt = A.mrt_is.long;
      for_counts = A.counts_is.long;
      for_log = W.log_long;
      for_work = W.work_long;
    }

-- ---- the loop

pub at_most : (m : ℕ) (ws : List ℤ) (ds : List Call) → calls_in m ws ≡ some ds → length ws ≤ 1024
unfolding calls_in
at_most m ws ds e = go (leb (length ws) 1024) refl e
  where
    go : (q : Bool) → leb (length ws) 1024 ≡ q → cond q (calls_of m ws) none ≡ some ds → length ws ≤ 1024
    go true d e = leb-true _ _ d
    go false d e = let z : ◌≡◌ {A = ℕ} 0 1 = cc in absurd (omega arith)

-- i calls of ds are worked: the heap is there, their answers are written, and what is left is the batch of the others
pub record Progress (s : Sizes) (ds : List Call) (h : Heap) (i : ℕ) (r : Lent) (row row' : List ℤ) (at : State) : Type 0 where
  pub heap : Heap
  pub standing : Standing s r at heap
  pub ends : (calls s ds h).heap ≡ (calls s (drop i ds) heap).heap
  pub said : List Answer
  pub said_long : length said ≡ i
  pub rest : (calls s ds h).answers ≡ said ++ (calls s (drop i ds) heap).answers
  pub words : row' ≡ answer_words said ++ drop (2 * i) row

begun : {s : Sizes} {r : Lent} {row : List ℤ} {at : State} (ds : List Call) (h : Heap) → Standing s r at h → Progress s ds h 0 r row row at
begun ds h S = record { heap = h; standing = S; ends = refl; said = []; said_long = refl; rest = refl; words = refl }

append-words : (as' bs : List Answer) → answer_words (as' ++ bs) ≡ answer_words as' ++ answer_words bs
append-words [] bs = refl
append-words (a ∷ as') bs = ap (λ (l : List ℤ). pos a.status ∷ a.value ∷ l) (append-words as' bs)

-- two words put in the place of the two after p
put_two : (p : List ℤ) (as' : List ℤ) (q : ℕ) (x y : ℤ) → length p ≡ q → q + 2 ≤ length as' → set (set (p ++ drop q as') q x) (q + 1) y ≡ (p ++ (x ∷ y ∷ [])) ++ drop (q + 2) as'
put_two p as' q x y e l =
    let d1 : drop q as' ≡ get_or as' q (pos 0) ∷ drop (suc q) as' = drop-cons as' q (pos 0) (omega arith) in
    let d2 : drop (suc q) as' ≡ get_or as' (suc q) (pos 0) ∷ drop (suc (suc q)) as' = drop-cons as' (suc q) (pos 0) (omega arith) in
    let n : length (p ++ (x ∷ [])) ≡ q + 1 = length-append p (x ∷ []) ∙ omega arith in
    let two : q + 2 ≡ suc (suc q) = omega arith in
    ap (λ (t : List ℤ). set (set (p ++ t) q x) (q + 1) y) (d1 ∙ ap (λ (t : List ℤ). get_or as' q (pos 0) ∷ t) d2)
    ∙ ap (λ (t : List ℤ). set t (q + 1) y) (set_at p (get_or as' q (pos 0)) (get_or as' (suc q) (pos 0) ∷ drop (suc (suc q)) as') x q e ∙ sym (append_assoc p (x ∷ []) (get_or as' (suc q) (pos 0) ∷ drop (suc (suc q)) as')))
    ∙ set_at (p ++ (x ∷ [])) (get_or as' (suc q) (pos 0)) (drop (suc (suc q)) as') y (q + 1) n
    ∙ rw two (simp append_assoc)

module _ {s : Sizes} {ds : List Call} {h : Heap} {i : ℕ} {r : Lent} {row row' : List ℤ} {at : State} (P : Progress s ds h i r row row' at) where
  went : {r' : Lent} {bs : List ℤ} {st : State} → i < length ds → 2 * length ds ≤ length row → Standing s r' st (step s (get_or ds i Settle) P.heap).heap
      → bs ≡ answering i (step s (get_or ds i Settle) P.heap).answer row'
      → Progress s ds h (suc i) r' row bs st
  unfolding calls
  went more room S e =
      let o = step s (get_or ds i Settle) P.heap in
      let next-is : drop i ds ≡ get_or ds i Settle ∷ drop (suc i) ds = drop-cons ds i Settle more in
      let n = P.said_long in
      let w = words_long P.said in
      let q : 2 * suc i ≡ 2 * i + 2 = omega arith in
      record {
        heap = o.heap;
        standing = S;
        ends = P.ends ∙ ap (λ (l : List Call). (calls s l P.heap).heap) next-is;
        said = P.said ++ (o.answer ∷ []);
        said_long = length-append P.said (o.answer ∷ []) ∙ omega arith;
        rest =
            P.rest ∙ ap (λ (l : List Call). P.said ++ (calls s l P.heap).answers) next-is
            ∙ sym (append_assoc P.said (o.answer ∷ []) (calls s (drop (suc i) ds) o.heap).answers);
        words =
            e
            ∙ ap (λ (l : List ℤ). answering i o.answer l) P.words
            ∙ put_two (answer_words P.said) row (2 * i) (pos o.answer.status) o.answer.value (omega arith) (omega arith)
            ∙ rw (append-words P.said (o.answer ∷ []), q);
      }

  -- none is left, and the settle at the end is made
  ran : {r' : Lent} {o : State} → length ds ≤ i → Settled s P.heap.shape.variables r' at P.heap o → ByTheRules s ds h r' row row' (ended_at s o)
  unfolding calls answered
  ran l D =
      let none_left : drop i ds ≡ [] = drop_of_length-le ds l in
      let all : (calls s ds h).answers ≡ P.said = P.rest ∙ ap (λ (t : List Call). P.said ++ (calls s t P.heap).answers) none_left ∙ append-nil P.said in
      let e : (calls s ds h).heap ≡ settled s P.heap = P.ends ∙ ap (λ (t : List Call). (calls s t P.heap).heap) none_left in
      let W = settled-whole D in
      record {
        rows = rows_all W D.work_zero ∙ ap (rows_of s) (sym e);
        is = rw (e, head-is W, W.rows.freed);
        answers = P.words ∙ rw (all, P.said_long);
      }

-- the words of i calls, and of no more
pub more_words : {i n : ℕ} → i < n / 4 → 4 * i < n
more_words l = omega arith

-- what the loop keeps: few cells are freed, and for every heap that the rows were its progress
pub record BatchGoing (h : Head) (ws : List ℤ) (r : Lent) (row : List ℤ) (r' : Lent) (row' : List ℤ) (at : State) (i : ℕ) : Type 0 where
  pub run : Runnable h ws r row
  pub most : i ≤ length run.list
  pub few : at.freed ≤ 1024 * i
  pub progress : (ds : List Call) (k : Heap) → calls_in h.sizes.m ws ≡ some ds → Standing h.sizes r (start_of h) k → Progress h.sizes ds k i r' row row' at

pub going_first : {h : Head} {ws : List ℤ} {r : Lent} {row : List ℤ} {at : State} → Runnable h ws r row → at ≡ start_of h → BatchGoing h ws r row r row at 0
going_first K e = rw e (record { run = K; most = omega arith; few = omega arith; progress = λ ds k g S. begun ds k S })

module _ {h : Head} {ws : List ℤ} {r : Lent} {row : List ℤ} {r' : Lent} {row' : List ℤ} {at : State} {i : ℕ} (G : BatchGoing h ws r row r' row' at i) where
  pub now-at : Progress h.sizes G.run.list G.run.heap i r' row row' at
  now-at = G.progress G.run.list G.run.heap G.run.are G.run.standing

  pub list-long : (length ws ≡ 4 * length G.run.list) × (length ws ≤ 1024)
  list-long = ((listed h.sizes.m ws G.run.list G.run.are).long, at_most h.sizes.m ws G.run.list G.run.are)

  pub small_i : i ≤ 256
  small_i = let l = list-long in let m = G.most in omega arith

  pub answers-same : length row' ≡ length row
  answers-same =
      let P = now-at in
      let w = words_long P.said in
      let n = P.said_long in
      let m = G.most in
      let k = G.run.room in
      ap length P.words ∙ length-append (answer_words P.said) (drop (2 * i) row) ∙ rw length-drop (omega arith)

  -- the settle at the end can be made
  pub few-here : at.freed ≤ 1000000
  few-here = let f = G.few in let k = small_i in omega arith

  -- call i: the words from there on, its work, its answer
  module _ (more : 4 * i < length ws) where
    four : 4 * i + 4 ≤ length ws
    four = let l = list-long in omega arith

    pub workable : Workable h.sizes (take (length ws - 4 * i) (drop (4 * i) ws)) r' at
    workable = record { long = turn-long ws i four; heap = now-at.heap; standing = now-at.standing; few = few-here }

    pub roomy : 2 * i + 2 ≤ length row'
    roomy = let l = list-long in let a = answers-same in let k = G.run.room in omega arith

    module _ {q : Lent} {st : State} {a : Result ℤ Refusal} (worked : Works h.sizes (take (length ws - 4 * i) (drop (4 * i) ws)) r' at q st a) where
      -- what was worked, for any list that the words are
      turned : (es : List Call) → calls_in h.sizes.m ws ≡ some es → i < length es → call_at h.sizes.m (take (length ws - 4 * i) (drop (4 * i) ws)) 0 ≡ some (get_or es i Settle)
      turned es e j = turn-call ws i four h.sizes.m ((listed h.sizes.m ws es e).call i j)

      here : i < length G.run.list
      here = let l = list-long in omega arith

      pub again : {bs : List ℤ} → bs ≡ answering i (answer_of a) row' → BatchGoing h ws r row q bs st (i + 1)
      again answer =
          let l = list-long in
          let f = G.few in
          let A = worked _ _ (turned G.run.list G.run.are here) now-at.standing in
          let t = A.few in
          record {
            run = G.run;
            most = omega arith;
            few = omega arith;
            progress = λ es k e S.
                let n = (listed h.sizes.m ws es e).long in
                let j : i < length es = omega arith in
                let P = G.progress es k e S in
                let same : G.run.list ≡ es = same-list e in
                let B = worked _ _ (turned es e j) P.standing in
                rw (add-one i) (went P j (rw same at G.run.room) B.standing (rw (← B.answer) answer));
          }
        where
          same-list : {es : List Call} → calls_in h.sizes.m ws ≡ some es → G.run.list ≡ es
          same-list e = let a = G.run.are in cc

  -- the calls are done, and the settle at the end is made
  pub finish : {q : Lent} {o : State} {z : Numbers} → length ws / 4 ≤ i → Settles h.sizes r' at q o → q.variables ≡ r'.variables → z ≡ ended_at h.sizes o → Runs h ws r row q row' z
  finish {q} end D v e es k c S =
      let n = (listed h.sizes.m ws es c).long in
      let P = G.progress es k c S in
      let W = P.standing.whole in
      rw e (ran P (omega arith) (rw (← v) at (D r'.variables P.heap.shape.variables P.heap W W.variables_are)))
