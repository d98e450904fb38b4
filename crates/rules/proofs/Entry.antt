-- Rows that pass the checks are those of a heap at a batch's end, and so are the rows that an accepted batch leaves. Assumes nothing.
use Prim.Native.Nat.{ℕ, suc}
use mathlib.Core.Path.{◌≡◌, refl, ap, ◌∙◌}
use mathlib.Core.List.{List, [], ◌∷◌}
use native.Mathlib.Omega.{arith}
use lib.IntN.{ℤ}
use lib.ListN.{length, length-map}
use Rattle.rules.specs.declared.Head.{Head}
use Rattle.rules.specs.declared.Call.{Call}
use Rattle.rules.specs.Call.{AllFit}
use Rattle.rules.specs.Step.{batch}
use Rattle.rules.specs.Rows.{Lent, fields_of, heap_of}
use Rattle.rules.specs.Sound.{Sound, Sized}
use Rattle.rules.specs.Refusals.{cleared, accepted}
use Rattle.rules.specs.Invariant.{Ended}
use Rattle.rules.proofs.Step.{batch_ended}
use Rattle.rules.proofs.Roundtrip.{sized-of_ended, rows-of-heap, head-of-heap}
use Rattle.rules.proofs.Bridge.{Plain, ended_sound, sound_ended}

fields_long : (ks : List ℕ) (vs : List ℤ) → length ks ≡ length vs → length (fields_of ks vs) ≡ length ks
fields_long [] vs e = refl
fields_long (k ∷ ks) [] e = absurd (omega arith)
fields_long (k ∷ ks) (v ∷ vs) e = ap suc (fields_long ks vs (omega arith))

-- soundness does not look at the work row
sound-cleared : {h : Head} {r : Lent} → Sound h r → Sound h (cleared h r)
sound-cleared S = record { cells = S.cells; tables = S.tables; free-list = S.free-list; agree = S.agree; held = S.held; log_zero = S.log_zero }

module _ {h : Head} {r : Lent} (Z : Sized h r) (S : Sound h r) where
  plain : Plain h.sizes (heap_of h r)
  unfolding heap_of
  plain =
      let L = Z.lengths in
      record {
        fields_long = let a = L.for_kinds in let b = L.for_values in fields_long r.kinds r.values (omega arith) ∙ a;
        variables_long = simp length-map L.for_variables;
        log_none = refl;
      }

  pub entry_ended : Ended h.sizes (heap_of h r)
  entry_ended =
      sound_ended h.sizes Z.within.limits (heap_of h r) plain
      (rw (head-of-heap Z, rows-of-heap Z S) (sound-cleared S))

  module _ (cs : List Call) (F : AllFit h.sizes.m cs) where
    pub exit_ended : Ended h.sizes (batch h.sizes cs (heap_of h r)).heap
    exit_ended = batch_ended h.sizes Z.within.limits cs (heap_of h r) entry_ended.inv F

    pub exit_sized : (row : List ℤ) → Sized (accepted h r cs row).outcome.head (accepted h r cs row).rows
    unfolding accepted
    exit_sized row = sized-of_ended Z.within.limits exit_ended

    pub exit_sound : (row : List ℤ) → Sound (accepted h r cs row).outcome.head (accepted h r cs row).rows
    unfolding accepted
    exit_sound row = ended_sound h.sizes Z.within.limits (batch h.sizes cs (heap_of h r)).heap exit_ended
