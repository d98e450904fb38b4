-- The rows are the heap after so many turns, and below low ZCT has only cells that are held.
use Rattle.std.proofs.Common.{ℕ, List}
use mathlib.Core.Option.{Option}
use Rattle.rules.specs.Heap.{Heap}
use Rattle.rules.specs.Whole.{Rows}
use Rattle.tables.specs.Lending.{SameTables}
use Rattle.cells.specs.Lending.{heap_in, SameFields}
use Rattle.cells.specs.Marks.{Marks}
use Rattle.reclaim.proofs.Reclaiming.{TurnsGoing}
use Rattle.reclaim.proofs.reclaim.Given as goal

abbrev pub invariant-loop-turn : goal.invariant-loop-turn
invariant-loop-turn l =
    let i = l.fn in
    record {
      going : (n : ℕ) (hs : List (Option ℕ)) (h : Heap) → Rows n l.cap (heap_in i.fields i.tables) i.at h → Marks n l.work hs
          → TurnsGoing n l.cap hs l._turn (heap_in l.fields l.tables) i.at h l.at l.low;
      same : SameFields i.fields l.fields × SameTables i.tables l.tables;
    }
