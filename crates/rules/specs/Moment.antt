-- Moments inside a batch: the heap after some of its calls, the turns of a settle there, the cells that it frees; structures that point to themselves. Assumes nothing.
use Rattle.std.specs.Prelude.{ℕ, ◌+◌, ◌-◌, ◌<◌, ◌≤◌, ◌≡◌, ◌⊎◌, ◌↔◌, Bool, true, false, cond, List, [], ◌∷◌}
use Rattle.std.proofs.Math.Option.{Option}
use Rattle.rules.specs.declared.Field.{Field}
use Rattle.rules.specs.declared.Field.TheVariants.{Cell, Free}
use Rattle.rules.specs.declared.Head.{Head}
use Rattle.rules.specs.declared.Sizes.{Sizes}
use Rattle.rules.specs.declared.Call.{Call}
use Rattle.rules.specs.Table.{has, count_in}
use Rattle.rules.specs.Heap.{Heap, field}
use Rattle.rules.specs.Settle.{holds, reclaim, replayed, settled_by}
use Rattle.rules.specs.Call.{unless, check}
use Rattle.rules.specs.Step.{wants, counted, step, unfreed}
use Rattle.rules.specs.Rows.{Lent, fields_of, heap_of}
use Rattle.rules.specs.Invariant.{refs, live, lives, count}

-- the heap after these calls, before the settle at the end
unfoldable pub heap_after : Sizes → List Call → Heap → Heap
heap_after s [] h = h
heap_after s (c ∷ cs) h = heap_after s cs (step s c h).heap

-- that moment of a batch on these rows
abbrev pub moment : Head → Lent → List Call → Heap
moment h r cs = heap_after h.sizes cs (unfreed (heap_of h r))

-- ---- the turns of a settle

-- the heap after k turns of h's reclaiming, the holds hs counted
unfoldable pub turns : Sizes → List (Option ℕ) → Heap → ℕ → Heap
turns s hs h k = reclaim s.cap hs k (replayed s.cap h)

-- the cell a is the one that turn k takes: in ZCT, named by none of the holds, and the smallest such; no cell points to it
pub record Taking (s : Sizes) (hs : List (Option ℕ)) (h : Heap) (k a : ℕ) : Type 0 where
  pub in_zct : has a (turns s hs h k).tables.zct ≡ true
  pub unheld : holds a hs ≡ false
  pub smallest : (b : ℕ) → has b (turns s hs h k).tables.zct ≡ true → holds b hs ≡ false → a ≤ b
  pub no_pointer : refs (turns s hs h k).shape.fields a ≡ 0

-- one of its turns takes a
pub record Taken (s : Sizes) (hs : List (Option ℕ)) (h : Heap) (a : ℕ) : Type 0 where
  pub turn : ℕ
  pub within : turn < s.n
  pub taking : Taking s hs h turn a

-- a settle of h that counts the holds hs: it frees a cell in use exactly if one of its turns takes it, which is then followed by the cell that was the first
-- free one; cells that no turn takes keep their fields; afterwards one of the holds names each ZCT cell, a cell not at the cap has its exact number of pointers,
-- and those at the cap are those that the replayed log brings there
pub record SettlesRight (s : Sizes) (hs : List (Option ℕ)) (h : Heap) : Type 0 where
  pub frees_only : (a : ℕ) → live h.shape.fields a ≡ true → (live (settled_by s hs h).shape.fields a ≡ false) ↔ Taken s hs h a
  pub in_order : (k a : ℕ) → k < s.n → Taking s hs h k a → field (settled_by s hs h).shape.fields a 0 ≡ Free (turns s hs h k).first
  pub others_kept : (a f : ℕ) → f < 2 → (Taken s hs h a → ⊥) → field (settled_by s hs h).shape.fields a f ≡ field h.shape.fields a f
  pub frees_all : (a : ℕ) → has a (settled_by s hs h).tables.zct ≡ true → holds a hs ≡ true
  pub exact_below_cap : (a : ℕ) → live (settled_by s hs h).shape.fields a ≡ true
      → (count (settled_by s hs h).tables a ≡ s.cap) ⊎ (count (settled_by s hs h).tables a ≡ refs (settled_by s hs h).shape.fields a)
  pub at_the_cap : (a : ℕ) → (count_in a (settled_by s hs h).tables.mrt ≡ s.cap) ↔ (count_in a (replayed s.cap h).tables.mrt ≡ s.cap)

-- ---- how many cells it frees

-- the cells in use by the rows
abbrev pub lives_in : Lent → ℕ
lives_in r = lives (fields_of r.kinds r.values)

-- a settle frees the cells in use before it, less those in use after it
abbrev pub freed_by : Sizes → List (Option ℕ) → Heap → ℕ
freed_by s hs h = lives h.shape.fields - lives (settled_by s hs h).shape.fields

-- the settle before a call: none where the call is refused by its check or wants no settle
abbrev pub freed_for : Sizes → Call → Heap → ℕ
freed_for s c h = unless (check c h.shape) (λ k. 0) (cond (wants s c h) (freed_by s (counted c h) h) 0)

-- all settles of a batch: those before its calls and the one at its end
abbrev pub freed_in : Sizes → List Call → Heap → ℕ
freed_in s [] h = freed_by s h.shape.variables h
freed_in s (c ∷ cs) h = freed_for s c h + freed_in s cs (step s c h).heap

-- ---- a structure that points to itself

-- one of the cells P points to a
pub record Pointed (fs : List Field) (P : ℕ → Bool) (a : ℕ) : Type 0 where
  pub cell : ℕ
  pub part : ℕ
  pub small : part < 2
  pub among : P cell ≡ true
  pub points : field fs cell part ≡ Cell a

-- the cells P are in use, and each is pointed to from one of them
pub record PointsToItself (fs : List Field) (P : ℕ → Bool) : Type 0 where
  pub in_use : (a : ℕ) → P a ≡ true → live fs a ≡ true
  pub pointed : (a : ℕ) → P a ≡ true → Pointed fs P a
