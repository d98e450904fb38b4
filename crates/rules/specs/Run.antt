-- Any heap as three functions; a run of batches from a fresh heap; two runs equal but for the figures; what an endless heap answers. Assumes nothing.
use Rattle.std.specs.Prelude.{ℕ, ◌≡◌, ◌⊎◌, Bool, true, false, cond, ◌&&◌, List, [], ◌∷◌, ◌++◌, eqb, length, get_or, drop, ℤ, pos, negsuc}
use Rattle.std.proofs.Math.Option.{Option, none, some}
use Rattle.rules.specs.declared.Head.{Head}
use Rattle.rules.specs.declared.Sizes.{Sizes}
use Rattle.rules.specs.declared.Call.{Call}
use Rattle.rules.specs.declared.Call.TheVariants.{New, Do, Settle}
use Rattle.rules.specs.Field.{Signed32}
use Rattle.rules.specs.Call.{calls_in}
use Rattle.rules.specs.Rows.{Lent}
use Rattle.rules.specs.Refusals.{After, Batched, fresh_of, audit_of, batch_of}
use Rattle.rules.specs.Endless.{Endless, endless_step}

-- ---- any heap

-- from the input to what is left
pub record Heaps : Type 0 where
  pub fresh : Sizes → Lent → After
  pub audit : Head → Lent → After
  pub batch : Head → Lent → List ℤ → List ℤ → Batched

-- the heap of document 01: what the entry points' contracts promise
abbrev pub ours : Heaps
ours = record { fresh = fresh_of; audit = audit_of; batch = batch_of }

-- ---- runs

-- a batch as it is handed in: the calls' words, and the answers row lent
pub record Batch : Type 0 where
  pub calls : List ℤ
  pub answers : List ℤ

-- what it leaves
abbrev pub hand_in : Heaps → Head → Lent → Batch → Batched
hand_in H h r b = H.batch h r b.calls b.answers

-- rows touched by nothing else, each head handed on
unfoldable pub run_from : Heaps → Head → Lent → List Batch → List Batched
run_from H h r [] = []
run_from H h r (b ∷ bs) = let o = hand_in H h r b in o ∷ run_from H o.outcome.head o.rows bs

-- from a fresh heap
unfoldable pub run_of : Heaps → Sizes → Lent → List Batch → List Batched
run_of H s r bs = let f = H.fresh s r in run_from H f.outcome.head f.rows bs

-- ---- the same of outcomes, each of which has the contract of its entry point

-- one after the other, each a batch on what the one before left
abbrev pub Came : Head → Lent → List Batch → List Batched → Type 0
Came h r [] [] = Unit {0}
Came h r [] (o ∷ os) = ⊥
Came h r (b ∷ bs) [] = ⊥
Came h r (b ∷ bs) (o ∷ os) = (o ≡ batch_of h r b.calls b.answers) × Came o.outcome.head o.rows bs os

-- f is what a fresh call left that was accepted, and os came after it
pub record Trace (s : Sizes) (r : Lent) (f : After) (bs : List Batch) (os : List Batched) : Type 0 where
  pub made : f ≡ fresh_of s r
  pub taken : f.outcome.status ≡ 0
  pub came : Came f.outcome.head f.rows bs os

-- ---- equal but for the figures

-- the third word after a put's operation number is a figure, any signed 32-bit number
abbrev pub AlikeWord : ℤ → ℤ → ℤ → Type 0
AlikeWord op x y = (x ≡ y) ⊎ ((op ≡ pos 5) × Signed32 x × Signed32 y)

-- equal calls but for the figures put
abbrev pub AlikeCalls : List ℤ → List ℤ → Type 0
AlikeCalls [] vs = [] ≡ vs
AlikeCalls (op ∷ []) vs = op ∷ [] ≡ vs
AlikeCalls (op ∷ a ∷ []) vs = op ∷ a ∷ [] ≡ vs
AlikeCalls (op ∷ a ∷ b ∷ []) vs = op ∷ a ∷ b ∷ [] ≡ vs
AlikeCalls (op ∷ a ∷ b ∷ x ∷ ws) [] = ⊥
AlikeCalls (op ∷ a ∷ b ∷ x ∷ ws) (op' ∷ []) = ⊥
AlikeCalls (op ∷ a ∷ b ∷ x ∷ ws) (op' ∷ a' ∷ []) = ⊥
AlikeCalls (op ∷ a ∷ b ∷ x ∷ ws) (op' ∷ a' ∷ b' ∷ []) = ⊥
AlikeCalls (op ∷ a ∷ b ∷ x ∷ ws) (op' ∷ a' ∷ b' ∷ y ∷ vs) = (op ≡ op') × (a ≡ a') × (b ≡ b') × AlikeWord op x y × AlikeCalls ws vs

-- equal answers rows lent, and equal batches but for the figures put
abbrev pub AlikeBatches : List Batch → List Batch → Type 0
AlikeBatches [] [] = Unit {0}
AlikeBatches [] (c ∷ cs) = ⊥
AlikeBatches (b ∷ bs) [] = ⊥
AlikeBatches (b ∷ bs) (c ∷ cs) = AlikeCalls b.calls c.calls × (b.answers ≡ c.answers) × AlikeBatches bs cs

-- memory agrees except the figures themselves: values may differ only where the kind is 1
pub record AlikeRows (r q : Lent) : Type 0 where
  pub kinds : r.kinds ≡ q.kinds
  pub values_long : length r.values ≡ length q.values
  pub values : (i : ℕ) → (get_or r.kinds i 0 ≡ 1 → ⊥) → get_or r.values i (pos 0) ≡ get_or q.values i (pos 0)
  pub variables : r.variables ≡ q.variables
  pub tables : r.tables ≡ q.tables
  pub log : r.log ≡ q.log
  pub work : r.work ≡ q.work

-- a read with status 0 answers a figure
abbrev pub IsRead : ℤ → ℤ → Type 0
IsRead op status = (op ≡ pos 8) × (status ≡ pos 0)

-- answers agree except the figures themselves: by the calls' words, two words a call; past the last call all
abbrev pub AlikeAnswers : List ℤ → List ℤ → List ℤ → Type 0
AlikeAnswers [] as' bs = as' ≡ bs
AlikeAnswers (op ∷ []) as' bs = as' ≡ bs
AlikeAnswers (op ∷ a ∷ []) as' bs = as' ≡ bs
AlikeAnswers (op ∷ a ∷ b ∷ []) as' bs = as' ≡ bs
AlikeAnswers (op ∷ a ∷ b ∷ c ∷ ws) [] bs = [] ≡ bs
AlikeAnswers (op ∷ a ∷ b ∷ c ∷ ws) (s ∷ []) bs = s ∷ [] ≡ bs
AlikeAnswers (op ∷ a ∷ b ∷ c ∷ ws) (s ∷ x ∷ as') [] = ⊥
AlikeAnswers (op ∷ a ∷ b ∷ c ∷ ws) (s ∷ x ∷ as') (t ∷ []) = ⊥
AlikeAnswers (op ∷ a ∷ b ∷ c ∷ ws) (s ∷ x ∷ as') (t ∷ y ∷ bs) = (s ≡ t) × ((IsRead op s → ⊥) → x ≡ y) × AlikeAnswers ws as' bs

-- one batch of each run: status, head and count, memory, answers; after a refusal the answers rows are equal
pub record AlikeBatched (ws : List ℤ) (o p : Batched) : Type 0 where
  pub outcome : o.outcome ≡ p.outcome
  pub rows : AlikeRows o.rows p.rows
  pub answers : AlikeAnswers ws o.answers p.answers
  pub refused : (o.outcome.status ≡ 0 → ⊥) → o.answers ≡ p.answers

abbrev pub AlikeRuns : List Batch → List Batched → List Batched → Type 0
AlikeRuns [] [] [] = Unit {0}
AlikeRuns [] [] (p ∷ ps) = ⊥
AlikeRuns [] (o ∷ os) ps = ⊥
AlikeRuns (b ∷ bs) [] ps = ⊥
AlikeRuns (b ∷ bs) (o ∷ os) [] = ⊥
AlikeRuns (b ∷ bs) (o ∷ os) (p ∷ ps) = AlikeBatched b.calls o p × AlikeRuns bs os ps

-- ---- as on an endless heap

abbrev pub is_new : Call → Bool
is_new (New v) = true
is_new (Do d) = false
is_new Settle = false

-- a call and the two words of its answer; where the answers row has none, -1, which is no status
pub record Said : Type 0 where
  pub call : Call
  pub status : ℤ
  pub value : ℤ

abbrev pub said : List Call → List ℤ → List Said
said [] row = []
said (c ∷ cs) row = record { call = c; status = get_or row 0 (negsuc 0); value = get_or row 1 (negsuc 0) } ∷ said cs (drop 2 row)

abbrev pub said_by : Option (List Call) → List ℤ → List Said
said_by none row = []
said_by (some cs) row = said cs row

abbrev pub is_fourteen : ℤ → Bool
is_fourteen (pos k) = eqb k 14
is_fourteen (negsuc k) = false

-- a new answered 14 (no other call has that answer)
abbrev pub new_fourteen : Said → Bool
new_fourteen a = is_new a.call && is_fourteen a.status

-- those left out
abbrev pub but14 : List Said → List Said
but14 [] = []
but14 (a ∷ as') = cond (new_fourteen a) (but14 as') (a ∷ but14 as')

-- what was said in a run, refused batches left out
unfoldable pub said_in : ℕ → List Batch → List Batched → List Said
said_in m [] os = []
said_in m (b ∷ bs) [] = []
said_in m (b ∷ bs) (o ∷ os) = cond (eqb o.outcome.status 0) (said_by (calls_in m b.calls) o.answers) [] ++ said_in m bs os

-- the values of settle aren't compared
abbrev pub NotSettle : Call → Type 0
NotSettle (New v) = Unit {0}
NotSettle (Do d) = Unit {0}
NotSettle Settle = ⊥

-- call by call, the answers are those of the endless heap
abbrev pub AsEndless : List Said → Endless → Type 0
AsEndless [] e = Unit {0}
AsEndless (a ∷ as') e =
    (a.status ≡ pos (endless_step a.call e).answer.status)
    × (NotSettle a.call → a.value ≡ (endless_step a.call e).answer.value)
    × AsEndless as' (endless_step a.call e).heap
