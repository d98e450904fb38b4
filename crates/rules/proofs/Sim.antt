-- A part of one shape that another has too, through a renaming of its cells: a deed finds the same in both, and leaves them so. Assumes nothing.
use Prim.Native.Nat.{ℕ, ◌<◌}
use mathlib.Core.Path.{◌≡◌, refl, sym, ap, ◌∙◌}
use mathlib.Core.Bool.{Bool, true, false}
use mathlib.Core.Option.{Option, none, some}
use mathlib.Core.List.{List}
use native.Mathlib.Omega.{arith}
use lib.Dec.{eqb, ltb}
use lib.ListN.{length, get_or, set, length-set, get_or-eq_default}
use lib.Seq.{get_or-set_same, get_or-set_other}
use borrow.Author.Tests.{eqb-true, eqb-false, eq-eqb, ne_eqb, ltb-true, ltb-false}
use Rattle.rules.specs.declared.Field.{Field}
use Rattle.rules.specs.declared.Field.TheVariants.{Nothing, Figure, Cell, Free}
use Rattle.rules.specs.declared.Deed.{Deed}
use Rattle.rules.specs.declared.Deed.TheVariants.{Copy, Clear, Link, Put, Blank, Follow, Read, Same}
use Rattle.rules.specs.Heap.{Shape, place, field, store}
use Rattle.rules.specs.Call.{InRange, var, at, is_held, is_cell, no_figure, want, refuses, write, hold, to_cell, target, act, figure_of, same_cell, value}
use Rattle.rules.proofs.Cells.{length-store, field_other, field-same, field_across}
use Rattle.rules.proofs.Calls.{held_11, two_11}

abbrev pub ren : (ℕ → ℕ) → Option ℕ → Option ℕ
ren ρ none = none
ren ρ (some a) = some (ρ a)

abbrev pub ren_f : (ℕ → ℕ) → Field → Field
ren_f ρ Nothing = Nothing
ren_f ρ (Figure x) = Figure x
ren_f ρ (Cell a) = Cell (ρ a)
ren_f ρ (Free a) = Free a

-- a part of a shape: some of its variables and some of its cells, which are there; what the part names is in it
pub record Part (own p : ℕ → Bool) (sh : Shape) : Type 0 where
  pub there : (a : ℕ) → p a ≡ true → place a 1 < length sh.fields
  pub points : (a f b : ℕ) → p a ≡ true → f < 2 → field sh.fields a f ≡ Cell b → p b ≡ true
  pub inside : (v a : ℕ) → own v ≡ true → var sh v ≡ some a → p a ≡ true

-- another shape has that part too, with its cells renamed by ρ
pub record Sim (own p : ℕ → Bool) (ρ : ℕ → ℕ) (sh sh' : Shape) : Type 0 where
  pub many : length sh'.variables ≡ length sh.variables
  pub vars : (v : ℕ) → own v ≡ true → var sh' v ≡ ren ρ (var sh v)
  pub cells : (a f : ℕ) → p a ≡ true → f < 2 → field sh'.fields (ρ a) f ≡ ren_f ρ (field sh.fields a f)
  pub inj : (a b : ℕ) → p a ≡ true → p b ≡ true → ρ a ≡ ρ b → a ≡ b
  pub goes : (a : ℕ) → p a ≡ true → place (ρ a) 1 < length sh'.fields

-- a deed that names variables of the part alone
abbrev pub Own : (ℕ → Bool) → Deed → Type 0
Own own (Copy v w) = (own v ≡ true) × (own w ≡ true)
Own own (Clear v) = own v ≡ true
Own own (Link v f w) = (own v ≡ true) × (own w ≡ true)
Own own (Put v f x) = own v ≡ true
Own own (Blank v f) = own v ≡ true
Own own (Follow v f w) = (own v ≡ true) × (own w ≡ true)
Own own (Read v f) = own v ≡ true
Own own (Same v w) = (own v ≡ true) × (own w ≡ true)

-- ---- what is found through a renaming

held-ren : (ρ : ℕ → ℕ) (o : Option ℕ) → is_held (ren ρ o) ≡ is_held o
held-ren ρ none = refl
held-ren ρ (some a) = refl

cell-ren : (ρ : ℕ → ℕ) (x : Field) → is_cell (ren_f ρ x) ≡ is_cell x
cell-ren ρ Nothing = refl
cell-ren ρ (Figure x) = refl
cell-ren ρ (Cell a) = refl
cell-ren ρ (Free a) = refl

figure-ren : (ρ : ℕ → ℕ) (x : Field) → (no_figure (ren_f ρ x) ≡ no_figure x) × (figure_of (ren_f ρ x) ≡ figure_of x)
figure-ren ρ Nothing = (refl, refl)
figure-ren ρ (Figure x) = (refl, refl)
figure-ren ρ (Cell a) = (refl, refl)
figure-ren ρ (Free a) = (refl, refl)

to_cell-ren : (ρ : ℕ → ℕ) (o : Option ℕ) → to_cell (ren ρ o) ≡ ren_f ρ (to_cell o)
to_cell-ren ρ none = refl
to_cell-ren ρ (some a) = refl

target-ren : (ρ : ℕ → ℕ) (x : Field) → target (ren_f ρ x) ≡ ren ρ (target x)
target-ren ρ Nothing = refl
target-ren ρ (Figure x) = refl
target-ren ρ (Cell a) = refl
target-ren ρ (Free a) = refl

-- ---- another renaming, another part, another shape

-- renamings that agree on the part
pub sim_rename : {own p : ℕ → Bool} {sh sh' : Shape} (ρ σ : ℕ → ℕ) → Part own p sh → ((a : ℕ) → p a ≡ true → σ a ≡ ρ a) → Sim own p ρ sh sh' → Sim own p σ sh sh'
sim_rename {own} {p} {sh} {sh'} ρ σ P e R =
    record {
      many = R.many;
      vars = λ v o. R.vars v o ∙ held (var sh v) (λ a d. P.inside v a o d);
      cells = λ a f i k. rw (e a i) (R.cells a f i k ∙ pointed (field sh.fields a f) (λ b d. P.points a f b i k d));
      inj = λ a b i j d. R.inj a b i j (sym (e a i) ∙ d ∙ e b j);
      goes = λ a i. rw (e a i) (R.goes a i);
    }
  where
    held : (o : Option ℕ) → ((a : ℕ) → o ≡ some a → p a ≡ true) → ren ρ o ≡ ren σ o
    held none i = refl
    held (some a) i = ap some (sym (e a (i a refl)))

    pointed : (x : Field) → ((a : ℕ) → x ≡ Cell a → p a ≡ true) → ren_f ρ x ≡ ren_f σ x
    pointed Nothing i = refl
    pointed (Figure x) i = refl
    pointed (Cell a) i = ap Cell (sym (e a (i a refl)))
    pointed (Free a) i = refl

-- a smaller part, of a shape that has its cells and the variables as they were
pub sim-less : {own p q : ℕ → Bool} {ρ : ℕ → ℕ} {sh k sh' : Shape} → k.variables ≡ sh.variables → ((a : ℕ) → q a ≡ true → p a ≡ true)
    → ((a f : ℕ) → q a ≡ true → f < 2 → field k.fields a f ≡ field sh.fields a f) → Sim own p ρ sh sh' → Sim own q ρ k sh'
unfolding var
sim-less {ρ = ρ} v l f R =
    record {
      many = R.many ∙ ap length (sym v);
      vars = λ w o. R.vars w o ∙ ap (λ (z : List (Option ℕ)). ren ρ (get_or z w none)) (sym v);
      cells = λ a j i k. R.cells a j (l a i) k ∙ ap (ren_f ρ) (sym (f a j i k));
      inj = λ a b i j. R.inj a b (l a i) (l b j);
      goes = λ a i. R.goes a (l a i);
    }

-- a variable set in both
pub sim-hold : {own p : ℕ → Bool} {ρ : ℕ → ℕ} {sh sh' : Shape} → Sim own p ρ sh sh' → (v : ℕ) (o o' : Option ℕ) → o' ≡ ren ρ o → Sim own p ρ (hold sh v o) (hold sh' v o')
unfolding hold var
sim-hold {own} {p} {ρ} {sh} {sh'} R v o o' e =
    record {
      many = simp length-set R.many;
      vars = λ w k. at w k (eqb w v) refl;
      cells = R.cells;
      inj = R.inj;
      goes = R.goes;
    }
  where
    own-place : (q : Bool) → ltb v (length sh.variables) ≡ q → get_or (set sh'.variables v o') v none ≡ ren ρ (get_or (set sh.variables v o) v none)
    own-place true d =
        let i = ltb-true v (length sh.variables) d in
        rw (get_or-set_same sh'.variables v o' none (let m = R.many in omega arith), get_or-set_same sh.variables v o none i) e
    own-place false d =
        let i = ltb-false v (length sh.variables) d in
        rw (
          get_or-eq_default (set sh'.variables v o') none {n = v} (simp length-set (let m = R.many in omega arith)),
          get_or-eq_default (set sh.variables v o) none {n = v} (simp length-set (omega arith)),
        )

    at : (w : ℕ) → own w ≡ true → (q : Bool) → eqb w v ≡ q → get_or (set sh'.variables v o') w none ≡ ren ρ (get_or (set sh.variables v o) w none)
    at w k true d = rw (eqb-true w v d) (own-place (ltb v (length sh.variables)) refl)
    at w k false d = rw (get_or-set_other sh'.variables v w o' none (eqb-false w v d), get_or-set_other sh.variables v w o none (eqb-false w v d)) (R.vars w k)

module _ (m : ℕ) (own p : ℕ → Bool) (ρ : ℕ → ℕ) (sh sh' : Shape) (P : Part own p sh) (R : Sim own p ρ sh sh') where
  pub eqb-ren : (a b : ℕ) → p a ≡ true → p b ≡ true → eqb (ρ a) (ρ b) ≡ eqb a b
  eqb-ren a b i j = go (eqb a b) refl
    where
      go : (q : Bool) → eqb a b ≡ q → eqb (ρ a) (ρ b) ≡ q
      go true e = eq-eqb (ρ a) (ρ b) (ap ρ (eqb-true a b e))
      go false e = ne_eqb (ρ a) (ρ b) (λ d. eqb-false a b e (R.inj a b i j d))

  -- ---- what a deed finds

  held_same : (v : ℕ) → own v ≡ true → is_held (var sh' v) ≡ is_held (var sh v)
  held_same v o = ap is_held (R.vars v o) ∙ held-ren ρ (var sh v)

  pub at-ren : (v f : ℕ) → own v ≡ true → f < 2 → at sh' v f ≡ ren_f ρ (at sh v f)
  unfolding at
  at-ren v f o k = rw (R.vars v o, at) (go (var sh v) refl)
    where
      at_of : List Field → Option ℕ → Field
      at_of fs w = elim w [ none ↦ Nothing | some a ↦ field fs a f ]

      go : (w : Option ℕ) → var sh v ≡ w → at_of sh'.fields (ren ρ w) ≡ ren_f ρ (at_of sh.fields w)
      go none d = refl
      go (some a) d = R.cells a f (P.inside v a o d) k

  pub refuses-same : (d : Deed) → InRange m d → Own own d → refuses d sh' ≡ refuses d sh
  unfolding refuses
  refuses-same (Copy v w) f o = refl
  refuses-same (Clear v) f o = refl
  refuses-same (Link v f w) k o = rw (held_same v o.0, held_same w o.1)
  refuses-same (Put v f x) k o = rw (held_same v o)
  refuses-same (Blank v f) k o = rw (held_same v o)
  refuses-same (Follow v f w) k o = rw (held_same v o.0, at-ren v f o.0 k.1, cell-ren ρ (at sh v f))
  refuses-same (Read v f) k o = rw (held_same v o, at-ren v f o k.1, (figure-ren ρ (at sh v f)).0)
  refuses-same (Same v w) f o = rw (held_same v o.0, held_same w o.1)

  same-ren : (v w : ℕ) → own v ≡ true → own w ≡ true → same_cell (var sh' v) (var sh' w) ≡ same_cell (var sh v) (var sh w)
  same-ren v w o o' = rw (R.vars v o, R.vars w o') (go (var sh v) (var sh w) refl refl)
    where
      go : (x y : Option ℕ) → var sh v ≡ x → var sh w ≡ y → same_cell (ren ρ x) (ren ρ y) ≡ same_cell x y
      go none y d d' = refl
      go (some a) none d d' = refl
      go (some a) (some b) d d' = eqb-ren a b (P.inside v a o d) (P.inside w b o' d')

  pub value_same : (d : Deed) → InRange m d → Own own d → value d sh' ≡ value d sh
  unfolding value
  value_same (Copy v w) f o = refl
  value_same (Clear v) f o = refl
  value_same (Link v f w) k o = refl
  value_same (Put v f x) k o = refl
  value_same (Blank v f) k o = refl
  value_same (Follow v f w) k o = refl
  value_same (Read v f) k o = rw (at-ren v f o k.1, (figure-ren ρ (at sh v f)).1)
  value_same (Same v w) f o = rw (same-ren v w o.0 o.1)

  -- ---- what a deed does

  pub sim-store : (a f : ℕ) (x x' : Field) → f < 2 → p a ≡ true → x' ≡ ren_f ρ x
      → Sim own p ρ (record { fields = store sh.fields a f x; variables = sh.variables }) (record { fields = store sh'.fields (ρ a) f x'; variables = sh'.variables })
  unfolding place var
  sim-store a f x x' k l e =
      record {
        many = R.many;
        vars = R.vars;
        cells = λ b j lb kj. each b j lb kj (eqb b a) refl (eqb j f) refl;
        inj = R.inj;
        goes = λ b i. rw length-store (R.goes b i);
      }
    where
      here : place a f < length sh.fields
      here = let q = P.there a l in omega arith

      there : place (ρ a) f < length sh'.fields
      there = let q = R.goes a l in omega arith

      each : (b j : ℕ) → p b ≡ true → j < 2 → (q : Bool) → eqb b a ≡ q → (r : Bool) → eqb j f ≡ r
          → field (store sh'.fields (ρ a) f x') (ρ b) j ≡ ren_f ρ (field (store sh.fields a f x) b j)
      each b j lb kj true d true d' =
          rw (eqb-true b a d, eqb-true j f d', field-same sh'.fields (ρ a) f x' there, field-same sh.fields a f x here) e
      each b j lb kj true d false d' =
          rw (eqb-true b a d, field_across sh'.fields (ρ a) f j x' k kj (eqb-false j f d'), field_across sh.fields a f j x k kj (eqb-false j f d')) (R.cells a j l kj)
      each b j lb kj false d r d' =
          rw (field_other sh'.fields (ρ a) (ρ b) f j x' (eqb-ren b a lb l ∙ d) k kj, field_other sh.fields a b f j x d k kj) (R.cells b j lb kj)

  sim_write : (v f : ℕ) (x x' : Field) → own v ≡ true → f < 2 → want (is_held (var sh v)) 11 ≡ 0 → x' ≡ ren_f ρ x → Sim own p ρ (write sh v f x) (write sh' v f x')
  unfolding write
  sim_write v f x x' o k c e =
      let w = held_11 (var sh v) c in
      let w' : var sh' v ≡ some (ρ w.0) = R.vars v o ∙ ap (ren ρ) w.1 in
      rw (w.1, w', write) (sim-store w.0 f x x' k (P.inside v w.0 o w.1) e)

  pub sim-act : (d : Deed) → InRange m d → Own own d → refuses d sh ≡ 0 → Sim own p ρ (act d sh) (act d sh')
  unfolding act refuses
  sim-act (Copy v w) f o d = sim-hold R v (var sh w) (var sh' w) (R.vars w o.1)
  sim-act (Clear v) f o d = sim-hold R v none none refl
  sim-act (Link v f w) k o d =
      sim_write v f (to_cell (var sh w)) (to_cell (var sh' w)) o.0 k.1 (two_11 (is_held (var sh v)) (is_held (var sh w)) d).0 (ap to_cell (R.vars w o.1) ∙ to_cell-ren ρ (var sh w))
  sim-act (Put v f x) k o d = sim_write v f (Figure x) (Figure x) o k.1 d refl
  sim-act (Blank v f) k o d = sim_write v f Nothing Nothing o k.1 d refl
  sim-act (Follow v f w) k o d = sim-hold R w (target (at sh v f)) (target (at sh' v f)) (ap target (at-ren v f o.0 k.1) ∙ target-ren ρ (at sh v f))
  sim-act (Read v f) k o d = R
  sim-act (Same v w) f o d = R
