-- The letter's three demands, each sentence a named fact about ANY heap: what batches were handed, and what they left. Assumes nothing.
use Rattle.std.specs.Prelude.{ℕ, zero, suc, ◌+◌, ◌*◌, ◌-◌, ◌≤◌, ◌<◌, ◌≡◌, ◌↔◌, Bool, true, false, cond, List, [], ◌∷◌, ◌++◌, map, length, get_or, drop, replicate, ℤ, pos, negsuc}
use Rattle.std.proofs.Math.Option.{none, some}
use Rattle.rules.specs.declared.Head.{Head}
use Rattle.rules.specs.declared.Sizes.{Sizes}
use Rattle.rules.specs.declared.Deed.{Deed}
use Rattle.rules.specs.declared.Deed.TheVariants.{Copy, Clear, Link, Put, Blank, Follow, Read, Same}
use Rattle.rules.specs.declared.Call.{Call}
use Rattle.rules.specs.declared.Call.TheVariants.{New, Do, Settle}
use Rattle.rules.specs.Head.{fresh_head, zero_head}
use Rattle.rules.specs.Field.{field_of, variable_of}
use Rattle.rules.specs.Table.{has, count_in}
use Rattle.rules.specs.Heap.{Shape, Heap, field}
use Rattle.rules.specs.Settle.{replayed}
use Rattle.rules.specs.Call.{calls_in, is_nought, refuses, value}
use Rattle.rules.specs.Step.{wants, counted, settled_for, unfreed, fresh}
use Rattle.rules.specs.Rows.{TableRows, Lent, rows_of, heap_of}
use Rattle.rules.specs.Invariant.{live, lives}
use Rattle.rules.specs.Moment.{moment, turns, Taking, Taken, lives_in, freed_in, PointsToItself}
use Rattle.rules.specs.Sound.{Sound, Sized, mark, kind, word, next, Live, Agree, pointers_to, held_among, times}
use Rattle.rules.specs.Refusals.{After, Batched, outcome, leaves, leaves_with, cleared, accepted}
use Rattle.rules.specs.Endless.{endless}
use Rattle.rules.specs.Run.{Heaps, Batch, hand_in, run_of, AlikeBatches, AlikeRows, AlikeRuns, is_new, Said, said, said_in, but14, NotSettle, AsEndless}

-- ---- words for a batch and for what it left

-- the batch's words are these calls
abbrev pub Asks : Head → Batch → List Call → Type 0
Asks h b cs = calls_in h.sizes.m b.calls ≡ some cs

abbrev pub Accepted : Batched → Type 0
Accepted o = o.outcome.status ≡ 0

-- the two words of the call after the calls cs
abbrev pub status_at : Batched → List Call → ℤ
status_at o cs = get_or o.answers (2 * length cs) (negsuc 0)

abbrev pub value_at : Batched → List Call → ℤ
value_at o cs = get_or o.answers (2 * length cs + 1) (negsuc 0)

-- o answered the calls cs, us and ds, and p the calls cs, vs and ds: they left the same head, count and every row, and said the same to cs and to ds
pub record SameBut (cs us vs ds : List Call) (o p : Batched) : Type 0 where
  pub outcomes : o.outcome ≡ p.outcome
  pub same_rows : o.rows ≡ p.rows
  pub before : said cs o.answers ≡ said cs p.answers
  pub after : said ds (drop (2 * length (cs ++ us)) o.answers) ≡ said ds (drop (2 * length (cs ++ vs)) p.answers)

-- ---- 1. It refuses for the listed reasons and for no others

-- the words are calls as they should be, and the answers row has two words for each
pub record Callable (h : Head) (b : Batch) : Type 0 where
  pub calls : List Call
  pub decoded : Asks h b calls
  pub room : 2 * length calls ≤ length b.answers

-- the answers row is shorter than two words a call
pub record TooShort (h : Head) (b : Batch) : Type 0 where
  pub calls : List Call
  pub decoded : Asks h b calls
  pub short : length b.answers < 2 * length calls

-- the status is k exactly when P, and then this is what is left
pub record Exactly (P : Type 0) (k : ℕ) (o what : Batched) : Type 0 where
  pub when : P → o.outcome.status ≡ k
  pub only : o.outcome.status ≡ k → P
  pub left : o.outcome.status ≡ k → o ≡ what

-- what may refuse a call: 11, a variable holds nothing; 12, follow finds no cell; 13, read finds a cell; 14, new finds no free cell; 15, read finds nothing
abbrev pub reasons : Call → List ℕ
reasons (New v) = 14 ∷ []
reasons (Do (Copy v w)) = []
reasons (Do (Clear v)) = []
reasons (Do (Link v f w)) = 11 ∷ []
reasons (Do (Put v f x)) = 11 ∷ []
reasons (Do (Blank v f)) = 11 ∷ []
reasons (Do (Follow v f w)) = 11 ∷ 12 ∷ []
reasons (Do (Read v f)) = 11 ∷ 13 ∷ 15 ∷ []
reasons (Do (Same v w)) = 11 ∷ []
reasons Settle = []

-- read, same and settle have a value
abbrev pub has_value : Call → Bool
has_value (New v) = false
has_value (Do (Copy v w)) = false
has_value (Do (Clear v)) = false
has_value (Do (Link v f w)) = false
has_value (Do (Put v f x)) = false
has_value (Do (Blank v f)) = false
has_value (Do (Follow v f w)) = false
has_value (Do (Read v f)) = true
has_value (Do (Same v w)) = true
has_value Settle = true

-- a call is answered 0, and then the others have the value nought, or with one of its reasons and the value nought
abbrev pub Listed : Call → ℤ → ℤ → Type 0
Listed c (pos zero) x = has_value c ≡ false → x ≡ pos 0
Listed c (pos (suc k)) x = (has (suc k) (reasons c) ≡ true) × (x ≡ pos 0)
Listed c (negsuc k) x = ⊥

abbrev pub AllListed : List Said → Type 0
AllListed [] = Unit {0}
AllListed (a ∷ as') = Listed a.call a.status a.value × AllListed as'

-- of one batch
pub record BatchRefuses (h : Head) (r : Lent) (b : Batch) (o : Batched) : Type 0 where
  -- refusals 1, 2 and 3 change nothing; refusal 4 only clears the work row; checks run in the order 1, 2, 3, 4
  pub refused_1 : Exactly (Sized h r → ⊥) 1 o (leaves_with (outcome 1 h 0) r b.answers)
  pub refused_2 : Exactly (Sized h r × (calls_in h.sizes.m b.calls ≡ none)) 2 o (leaves_with (outcome 2 h 0) r b.answers)
  pub refused_3 : Exactly (Sized h r × TooShort h b) 3 o (leaves_with (outcome 3 h 0) r b.answers)
  pub refused_4 : Exactly (Sized h r × Callable h b × (Sound h r → ⊥)) 4 o (leaves_with (outcome 4 h 0) (cleared h r) b.answers)
  -- and for no others
  pub accepted_else : Sized h r → Callable h b → Sound h r → Accepted o
  -- the work row is then zero, and answers past the last call are untouched
  pub work_zero : Accepted o → o.rows.work ≡ replicate h.sizes.n 0
  pub answers_past : (cs : List Call) → Asks h b cs → Accepted o
      → (length o.answers ≡ length b.answers) × (drop (2 * length cs) o.answers ≡ drop (2 * length cs) b.answers)
  -- a call is refused with 11 to 15 only, each for the calls that it is listed for, and then has value nought
  pub refused_11_to_15 : (cs : List Call) → Asks h b cs → Accepted o → AllListed (said cs o.answers)
  -- a batch of no call changes nothing but the work row, which is zero then
  pub no_call_no_change : Asks h b [] → Accepted o → o ≡ leaves_with (outcome 0 h 0) (cleared h r) b.answers

-- in these rows v holds a cell whose field f is of kind k: 0 nothing, 1 a figure, 2 a cell
pub record Finds (r : Lent) (v f k : ℕ) : Type 0 where
  pub cell : ℕ
  pub held : get_or r.variables v (negsuc 0) ≡ pos cell
  pub there : kind r.kinds cell f ≡ k

-- the status of read v f, by what these rows hold
pub record ReadSays (r : Lent) (v f : ℕ) (status : ℤ) : Type 0 where
  pub nought : (status ≡ pos 0) ↔ Finds r v f 1
  pub eleven : (status ≡ pos 11) ↔ (get_or r.variables v (negsuc 0) ≡ negsuc 0)
  pub thirteen : (status ≡ pos 13) ↔ Finds r v f 2
  pub fifteen : (status ≡ pos 15) ↔ Finds r v f 0

-- the answer of a deed, by what these fields and variables show
pub record DeedSays (d : Deed) (s : Shape) (status value' : ℤ) : Type 0 where
  pub refused_for : status ≡ pos (refuses d s)
  pub value-is : refuses d s ≡ 0 → value' ≡ value d s

-- of two batches on the same rows: b, that left o, and c, that left p
pub record CallRefused (h : Head) (r : Lent) (b c : Batch) (o p : Batched) : Type 0 where
  -- a call refused with 11, 12, 13 or 15 changes nothing: the batch leaves what it leaves without that call, and says the same to the others
  pub refused_as_left_out : (cs ds : List Call) (x : Call) (k : ℕ) → Asks h b (cs ++ x ∷ ds) → Asks h c (cs ++ ds) → Accepted o → Accepted p
      → status_at o cs ≡ pos (suc k) → (suc k ≡ 14 → ⊥) → SameBut cs (x ∷ []) [] ds o p
  -- except that a new answered 14 has settled first: the batch is as the one with the call settle, of value nought, in the place of that new
  pub fourteen_settles : (cs ds : List Call) (v : ℕ) → Asks h b (cs ++ New v ∷ ds) → Asks h c (cs ++ Settle ∷ ds) → Accepted o → Accepted p → status_at o cs ≡ pos 14
      → SameBut cs (New v ∷ []) (Settle ∷ []) ds o p × (value_at p cs ≡ pos 0)
  -- a deed, wherever it stands (calls before it, the deed, others after it), is refused for what the rows that the batch of the calls before it leaves show, and for
  -- nothing else, and has its value from them
  pub deed_answered : (cs ds : List Call) (d : Deed) → Asks h b (cs ++ Do d ∷ ds) → Asks h c cs → Accepted o → Accepted p → DeedSays d (heap_of p.outcome.head p.rows).shape (status_at o cs) (value_at o cs)
  -- so a read, wherever it stands, is answered 15 exactly if its variable holds a cell
  -- whose field holds nothing, and 13 exactly if it holds a cell there: by the rows that the batch of the calls before it leaves
  pub fifteen_exactly : (cs ds : List Call) (v f : ℕ) → Asks h b (cs ++ Do (Read v f) ∷ ds) → Asks h c cs → Accepted o → Accepted p → ReadSays p.rows v f (status_at o cs)

-- the fresh call gives only 1, with a head of zeros; else a fresh heap
abbrev pub FreshRefuses : Sizes → Lent → After → Type 0
FreshRefuses s r o =
    ((Sized (fresh_head s) r → ⊥) → o ≡ leaves (outcome 1 zero_head 0) r)
    × (Sized (fresh_head s) r → o ≡ leaves (outcome 0 (fresh_head s) 0) (rows_of s (fresh s)))

-- the audit 1 and 4
abbrev pub AuditRefuses : Head → Lent → After → Type 0
AuditRefuses h r o =
    ((Sized h r → ⊥) → o ≡ leaves (outcome 1 h 0) r)
    × (Sized h r → (Sound h r → ⊥) → o ≡ leaves (outcome 4 h 0) (cleared h r))
    × (Sized h r → Sound h r → o ≡ leaves (outcome 0 h 0) (cleared h r))

pub record Demand1 (H : Heaps) : Type 0 where
  pub batch_refuses : (h : Head) (r : Lent) (b : Batch) → BatchRefuses h r b (hand_in H h r b)
  pub call_refused : (h : Head) (r : Lent) (b c : Batch) → CallRefused h r b c (hand_in H h r b) (hand_in H h r c)
  pub fresh_refuses_only_1 : (s : Sizes) (r : Lent) → FreshRefuses s r (H.fresh s r)
  pub audit_refuses_only_1_and_4 : (h : Head) (r : Lent) → AuditRefuses h r (H.audit h r)

-- ---- 2. A settle leaves the tables that the 1976 rules give

-- a cell not at the cap has its exact number of pointers from cells: none in ZCT, the count in MRT, else one
abbrev pub ExactBelowCap : Head → Lent → Type 0
ExactBelowCap h r = Agree h r.kinds r.tables (pointers_to h.sizes.n r.kinds r.values)

-- after a settle of the heap h at a batch's end, which counts what the variables hold: a cell in use is free exactly if one of its turns took it, and is then followed
-- by the cell that was the first free one before that turn; every other cell, free or not, keeps its fields; the variables hold what they held
pub record FreesExactly (s : Sizes) (h : Heap) (r : Lent) : Type 0 where
  pub freed : (a : ℕ) → live h.shape.fields a ≡ true → (mark r.kinds a ≡ 3) ↔ Taken s h.shape.variables h a
  pub in_order : (k a : ℕ) → k < s.n → Taking s h.shape.variables h k a → next s.n r.values a ≡ (turns s h.shape.variables h k).first
  pub others_kept : (a f : ℕ) → f < 2 → (Taken s h.shape.variables h a → ⊥) → field_of (kind r.kinds a f) (word r.values a f) ≡ field h.shape.fields a f
  pub variables_kept : r.variables ≡ map variable_of h.shape.variables

-- a has an MRT entry at the cap
pub record AtCap (h : Head) (t : TableRows) (a : ℕ) : Type 0 where
  pub index : ℕ
  pub within : index < h.mrt
  pub here : get_or t.mrt index 0 ≡ a
  pub full : get_or t.counts index 0 ≡ h.sizes.cap

-- the cells handed out: news answered 0
abbrev pub handed_out : List Said → ℕ
handed_out [] = 0
handed_out (a ∷ as') = cond (is_new a.call) (cond (is_nought a.status) 1 0) 0 + handed_out as'

-- the free cells: those with the kind 3
abbrev pub free_cells : Lent → ℕ
free_cells r = times 3 r.kinds

-- in these rows v holds the cell a, with both fields nothing: kinds and values 0
pub record HoldsBlank (r : Lent) (v a : ℕ) : Type 0 where
  pub held : get_or r.variables v (negsuc 0) ≡ pos a
  pub kinds : (kind r.kinds a 0 ≡ 0) × (kind r.kinds a 1 ≡ 0)
  pub values : (word r.values a 0 ≡ pos 0) × (word r.values a 1 ≡ pos 0)

-- of one batch
pub record BatchSettles (h : Head) (r : Lent) (b : Batch) (o : Batched) : Type 0 where
  -- what the rules give: tables, free list, fields, answers and count
  pub by_the_rules : (cs : List Call) → Asks h b cs → Accepted o → o ≡ accepted h r cs b.answers
  -- the sizes stay
  pub sizes_stay : Accepted o → o.outcome.head.sizes ≡ h.sizes
  -- an accepted batch leaves a sound heap, which is never refused with 4
  pub batch_sound : Accepted o → Sized o.outcome.head o.rows × Sound o.outcome.head o.rows
  pub exact_below_cap : Accepted o → ExactBelowCap o.outcome.head o.rows
  -- it frees all that it may: afterwards some variable holds each ZCT cell
  pub frees_all : Accepted o → (j : ℕ) → j < o.outcome.head.zct → held_among h.sizes.n o.rows.variables (get_or o.rows.tables.zct j 0) h.sizes.m ≡ true
  -- and no others: each cell that it frees was, at its turn, in ZCT, held by no variable, the smallest such, and without a pointer from any cell
  pub frees_exactly : (cs : List Call) → Asks h b cs → Accepted o → FreesExactly h.sizes (moment h r cs) o.rows
  -- the cells at the cap are those that the replayed log brings there (the others have their exact number)
  pub at_the_cap : (cs : List Call) → Asks h b cs → Accepted o → (a : ℕ)
      → AtCap o.outcome.head o.rows.tables a ↔ (count_in a (replayed h.sizes.cap (moment h r cs)).tables.mrt ≡ h.sizes.cap)
  -- a count at the cap stays
  pub cap_stays : Accepted o → (a : ℕ) → AtCap h r.tables a → AtCap o.outcome.head o.rows.tables a
  -- a structure that points to itself is not reclaimed: such cells stay in use
  pub ring_stays : (cs : List Call) (P : ℕ → Bool) → Asks h b cs → Accepted o → PointsToItself (moment h r cs).shape.fields P → (a : ℕ) → P a ≡ true → Live h.sizes.n o.rows.kinds a
  -- the count is the growth of the free cells plus the cells handed out
  pub count_is_freed : (cs : List Call) → Asks h b cs → Accepted o → free_cells r + o.outcome.count ≡ free_cells o.rows + handed_out (said cs o.answers)
  -- the sum over all settles, those before calls too, of the cells in use before less those in use after
  pub count_is_sum : (cs : List Call) → Asks h b cs → Accepted o → o.outcome.count ≡ freed_in h.sizes cs (unfreed (heap_of h r))
  -- free cells are handed out again: a new takes the first one after its settle, with both fields nothing, whatever they held before
  pub handed_out_again : (cs : List Call) (v : ℕ) → Asks h b (cs ++ New v ∷ []) → Accepted o → status_at o cs ≡ pos 0 → HoldsBlank o.rows v (settled_for h.sizes (New v) (moment h r cs)).first

-- of two batches on the same rows: b, that left o, and c, that left p
pub record BatchesSettle (h : Head) (r : Lent) (b c : Batch) (o p : Batched) : Type 0 where
  -- the value of the call settle is the number of cells in use before it less those after it, by the rows that the calls before it leave
  pub settle_value : (cs ds : List Call) → Asks h b (cs ++ Settle ∷ ds) → Asks h c cs → Accepted o → Accepted p
      → value_at o cs ≡ pos (lives (moment h r cs).shape.fields - lives_in p.rows)
  -- the settle before a call that wants one is as the call settle made before it (where it counts what the variables hold)
  pub settled_before : (cs ds : List Call) (x : Call) → Asks h b (cs ++ x ∷ ds) → Asks h c (cs ++ Settle ∷ x ∷ ds) → Accepted o → Accepted p → status_at o cs ≡ pos 0 → NotSettle x
      → wants h.sizes x (moment h r cs) ≡ true → counted x (moment h r cs) ≡ (moment h r cs).shape.variables
      → SameBut cs [] (Settle ∷ []) (x ∷ ds) o p
  -- the settle made for a new v, for room in the log or for lack of a free cell, does not count v's own hold: a new v answered 0, wherever it stands,
  -- has done what clear v and then new v do (where that batch, of one call more, is accepted too)
  pub new_lets_go : (cs ds : List Call) (v : ℕ) → Asks h b (cs ++ New v ∷ ds) → Asks h c (cs ++ Do (Clear v) ∷ New v ∷ ds) → Accepted o → Accepted p → status_at o cs ≡ pos 0
      → SameBut cs [] (Do (Clear v) ∷ []) (New v ∷ ds) o p
  -- 14 is given exactly if no cell is free after that settle, which counts every variable but v: if the batch of the calls before, with clear v
  -- after them, leaves none free
  pub fourteen_exactly : (cs ds : List Call) (v : ℕ) → Asks h b (cs ++ New v ∷ ds) → Asks h c (cs ++ Do (Clear v) ∷ []) → Accepted o → Accepted p
      → (status_at o cs ≡ pos 14) ↔ (p.outcome.head.free ≡ h.sizes.n)
  -- and then v keeps its cell: v's variable, its cell with both fields, and all else, are what the batch of the calls before leaves
  pub fourteen_keeps : (cs : List Call) (v : ℕ) → Asks h b (cs ++ New v ∷ []) → Asks h c cs → Accepted o → Accepted p → status_at o cs ≡ pos 14 → SameBut cs (New v ∷ []) [] [] o p

-- o answered the calls cs, settle and ds; p answered cs, and q, on the rows that p left, ds: o left the head and rows of q, freed what p and q did, and said the same
pub record EndsThere (cs ds : List Call) (o p q : Batched) : Type 0 where
  pub same_head : o.outcome.head ≡ q.outcome.head
  pub same_rows : o.rows ≡ q.rows
  pub counts : o.outcome.count ≡ p.outcome.count + q.outcome.count
  pub before : said cs o.answers ≡ said cs p.answers
  pub after : said ds (drop (2 * length (cs ++ Settle ∷ [])) o.answers) ≡ said ds q.answers

-- of three batches: b, that left o; c, that left p; and on the rows that it left d, that left q
abbrev pub SettleEnds : Head → Batch → Batch → Batch → Batched → Batched → Batched → Type 0
SettleEnds h b c d o p q = (cs ds : List Call) → Asks h b (cs ++ Settle ∷ ds) → Asks h c cs → Asks p.outcome.head d ds → Accepted o → Accepted p → Accepted q → EndsThere cs ds o p q

pub record Demand2 (H : Heaps) : Type 0 where
  pub batch_settles : (h : Head) (r : Lent) (b : Batch) → BatchSettles h r b (hand_in H h r b)
  pub batches_settle : (h : Head) (r : Lent) (b c : Batch) → BatchesSettle h r b c (hand_in H h r b) (hand_in H h r c)
  -- what is said of the settle at a batch's end is said of the call settle: it ends one batch, and another goes on from there
  pub settle_ends : (h : Head) (r : Lent) (b c d : Batch)
      → let p = hand_in H h r c in
      SettleEnds h b c d (hand_in H h r b) p (hand_in H p.outcome.head p.rows d)
  -- the audit says yes exactly for a sound heap
  pub audit_exactly : (h : Head) (r : Lent) → Sized h r → ((H.audit h r).outcome.status ≡ 0) ↔ Sound h r

-- ---- 3. Figures stay hidden, and reads answer as on an endless heap

pub record Demand3 (H : Heaps) : Type 0 where
  -- two runs from fresh heaps of equal sizes, with equal answers rows lent and equal batches but for the figures put:
  -- all answers and memory agree except the figures themselves
  pub figures_hidden : (s : Sizes) (r q : Lent) (bs cs : List Batch) → (H.fresh s r).outcome.status ≡ 0 → (H.fresh s q).outcome.status ≡ 0 → AlikeBatches bs cs
      → ((H.fresh s r).outcome ≡ (H.fresh s q).outcome) × AlikeRows (H.fresh s r).rows (H.fresh s q).rows × AlikeRuns bs (run_of H s r bs) (run_of H s q cs)
  -- every read, and every test for the same cell, answers in each run as on an endless heap that never reclaims,
  -- its calls answered 14 and its refused batches left out
  pub as_endless : (s : Sizes) (r : Lent) (bs : List Batch) → (H.fresh s r).outcome.status ≡ 0
      → AsEndless (but14 (said_in s.m bs (run_of H s r bs))) (endless s.m)

-- ---- what the entry points' contracts promise is enough

-- two heaps that agree in every outcome
pub record Contracts (H G : Heaps) : Type 0 where
  pub fresh_as : (s : Sizes) (r : Lent) → H.fresh s r ≡ G.fresh s r
  pub audit_as : (h : Head) (r : Lent) → H.audit h r ≡ G.audit h r
  pub batch_as : (h : Head) (r : Lent) (ws row : List ℤ) → H.batch h r ws row ≡ G.batch h r ws row
