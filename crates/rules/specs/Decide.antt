-- Soundness and sizes are decided: each type below says what is decided, so there is nothing more to believe here. Assumes nothing.
use Rattle.std.specs.Prelude.{ℕ, zero, suc, ◌+◌, ◌*◌, ◌<◌, ◌≤◌, ◌≡◌, refl, Bool, true, false, cond, List, [], ◌∷◌, eqb, leb, ltb, length, get_or, ℤ, pos, negsuc}
use Rattle.std.proofs.Common.{sym, ap, true≢false, ◌∙◌, subst, arith, eqb-true, eq-eqb, ne_eqb, leb-true, leb-false, ltb-true, ltb-false}
use Rattle.std.proofs.lemmas.Bool.{eqb-false}
use Rattle.std.specs.Int.Signed.{mag}
use Rattle.rules.specs.declared.Head.{Head}
use Rattle.rules.specs.declared.Sizes.{Sizes}
use Rattle.rules.specs.Head.{Limits, Within}
use Rattle.rules.specs.Field.{address_of}
use Rattle.rules.specs.Rows.{TableRows, Lent, RowLengths, lengths_of}
use Rattle.rules.specs.Sound.{kind, word, mark, Live, Mark, Word, Words, Variables, CellsSound, ZeroFrom, TableRow, CountsRow, TablesSound, next, FreePath, list_from, times, FreeList, pointers_to, held_among, NotIn, Agree, ZctHeld, Sound, Lengths, Sized}

-- ---- ways to decide

abbrev map_dec : {A B : Type 0} → (A → B) → (B → A) → Dec A → Dec B
map_dec f g (yes a) = yes (f a)
map_dec f g (no d) = no (λ b. d (g b))

-- a part of a whole: its decision, where the whole has it, and how the others are decided once it holds
abbrev need : {P R : Type 0} → Dec P → (R → P) → (P → Dec R) → Dec R
need (yes p) out go = go p
need (no d) out go = no (λ r. d (out r))

abbrev Dec·and : {P Q : Type 0} → Dec P → Dec Q → Dec (P × Q)
Dec·and (yes p) (yes q) = yes (p, q)
Dec·and (yes p) (no d) = no (λ x. d x.1)
Dec·and (no d) q = no (λ x. d x.0)

-- by a test
abbrev by : {P : Type 0} (t : Bool) → (t ≡ true → P) → (t ≡ false → P → ⊥) → Dec P
by true f g = yes (f refl)
by false f g = no (g refl)

abbrev ℕ_discrete : (m n : ℕ) → Dec (m ≡ n)
ℕ_discrete m n = by (eqb m n) (eqb-true m n) (eqb-false m n)

pub not-le : (m n : ℕ) → leb m n ≡ false → m ≤ n → ⊥
not-le m n e h = let w = leb-false m n e in omega arith

abbrev dec_le : (m n : ℕ) → Dec (m ≤ n)
dec_le m n = by (leb m n) (leb-true m n) (not-le m n)

pub not-lt : (m n : ℕ) → ltb m n ≡ false → m < n → ⊥
not-lt m n e h = let w = ltb-false m n e in omega arith

abbrev dec_lt : (m n : ℕ) → Dec (m < n)
dec_lt m n = by (ltb m n) (ltb-true m n) (not-lt m n)

abbrev Bool_discrete : (b : Bool) → Dec (b ≡ true)
Bool_discrete true = yes refl
Bool_discrete false = no (λ e. true≢false (sym e))

pub nought_in : (a : ℕ) → pos a ≡ pos 0 → a ≡ 0
nought_in a e = cc

pub minus_in : (a : ℕ) → negsuc a ≡ negsuc 0 → a ≡ 0
minus_in a e = cc

pub signs_apart : (a b : ℕ) → pos a ≡ negsuc b → ⊥
signs_apart a b e = cc

abbrev nought? : (x : ℤ) → Dec (x ≡ pos 0)
nought? (pos a) = map_dec (ap pos) (nought_in a) (ℕ_discrete a 0)
nought? (negsuc a) = no (λ e. signs_apart 0 a (sym e))

abbrev nothing? : (x : ℤ) → Dec (x ≡ negsuc 0)
nothing? (pos a) = no (λ e. signs_apart a 0 e)
nothing? (negsuc a) = map_dec (ap negsuc) (minus_in a) (ℕ_discrete a 0)

abbrev dec_imp : {P Q : Type 0} → Dec P → Dec Q → Dec (P → Q)
dec_imp p (yes q) = yes (λ h. q)
dec_imp (yes p) (no d) = no (λ f. d (f p))
dec_imp (no d) (no e) = yes (λ p. absurd (d p))

abbrev dec_no : Dec ⊥
dec_no = no (λ x. x)

abbrev dec_not : {P : Type 0} → Dec P → Dec (P → ⊥)
dec_not d = dec_imp d dec_no

-- every number below n
pub all_up-to : (n : ℕ) (P : ℕ → Type 0) → P n → ((i : ℕ) → i < n → P i) → (i : ℕ) → i < suc n → P i
all_up-to n P p a i h = go (ℕ_discrete i n)
  where
    go : Dec (i ≡ n) → P i
    go (yes e) = subst P (sym e) p
    go (no x) = a i (omega arith)

abbrev all_go : (n : ℕ) (P : ℕ → Type 0) → Dec (P n) → Dec ((i : ℕ) → i < n → P i) → Dec ((i : ℕ) → i < suc n → P i)
all_go n P (yes p) (yes a) = yes (all_up-to n P p a)
all_go n P (no x) a = no (λ f. x (f n (omega arith)))
all_go n P (yes p) (no x) = no (λ f. x (λ i h. f i (omega arith)))

abbrev dec_all : (n : ℕ) (P : ℕ → Type 0) → ((i : ℕ) → Dec (P i)) → Dec ((i : ℕ) → i < n → P i)
dec_all zero P d = yes (λ i h. absurd (omega arith))
dec_all (suc n) P d = all_go n P (d n) (dec_all n P d)

-- ---- words and variables

abbrev dec_live : (n : ℕ) (ks : List ℕ) (b : ℕ) → Dec (Live n ks b)
dec_live n ks b =
    need (dec_lt b n) (λ l. l.cell) (λ cell.
    need (dec_not (ℕ_discrete (mark ks b) 3)) (λ l. l.used) (λ used.
    yes (record { cell = cell; used = used })))

abbrev dec_mark : (n : ℕ) (ks : List ℕ) (a f : ℕ) (v : ℤ) → Dec (Mark n ks a f v)
dec_mark n ks a f v =
    need (ℕ_discrete f 0) (λ m. m.first) (λ first.
    need (dec_le (address_of (n + 1) v) n) (λ m. m.next) (λ next.
    need (ℕ_discrete (kind ks a 1) 0) (λ m. m.alone) (λ alone.
    yes (record { first = first; next = next; alone = alone }))))

unfoldable pub dec_word : (n : ℕ) (ks : List ℕ) (a f k : ℕ) (v : ℤ) → Dec (Word n ks a f k v)
unfolding Word
dec_word n ks a f zero v = nought? v
dec_word n ks a f (suc zero) v = dec_lt (mag v) 2147483648
dec_word n ks a f (suc (suc zero)) v = dec_live n ks (address_of n v)
dec_word n ks a f (suc (suc (suc zero))) v = dec_mark n ks a f v
dec_word n ks a f (suc (suc (suc (suc k)))) v = dec_no

abbrev dec_words : (n : ℕ) (ks : List ℕ) (vs : List ℤ) → Dec (Words n ks vs)
dec_words n ks vs = dec_all n _ (λ a. dec_all 2 _ (λ f. dec_word n ks a f (kind ks a f) (word vs a f)))

abbrev dec_variables : (n : ℕ) (ks : List ℕ) (xs : List ℤ) → Dec (Variables n ks xs)
dec_variables n ks xs = dec_all (length xs) _ (λ v. dec_imp (dec_not (nothing? (get_or xs v (pos 0)))) (dec_live n ks (address_of n (get_or xs v (pos 0)))))

abbrev dec_cells : (n : ℕ) (ks : List ℕ) (vs xs : List ℤ) → Dec (CellsSound n ks vs xs)
dec_cells n ks vs xs =
    need (dec_words n ks vs) (λ c. c.words) (λ words.
    need (dec_variables n ks xs) (λ c. c.variables) (λ variables.
    yes (record { words = words; variables = variables })))

-- ---- table rows

abbrev dec_zeros : (row : List ℕ) (from : ℕ) → Dec (ZeroFrom row from)
dec_zeros row from =
    map_dec (λ p j h k. p j k h) (λ z j k h. z j h k)
    (dec_all (length row) (λ j. from ≤ j → get_or row j 0 ≡ 0) (λ j. dec_imp (dec_le from j) (ℕ_discrete (get_or row j 0) 0)))

abbrev dec_ascending : (row : List ℕ) (used : ℕ) → Dec ((j : ℕ) → j + 1 < used → get_or row j 0 < get_or row (j + 1) 0)
dec_ascending row used =
    map_dec (λ p j h. p j (omega arith) h) (λ a j h k. a j k)
    (dec_all used (λ j. j + 1 < used → get_or row j 0 < get_or row (j + 1) 0) (λ j. dec_imp (dec_lt (j + 1) used) (dec_lt (get_or row j 0) (get_or row (j + 1) 0))))

abbrev dec_table : (n : ℕ) (ks row : List ℕ) (used : ℕ) → Dec (TableRow n ks row used)
dec_table n ks row used =
    need (dec_ascending row used) (λ t. t.ascending) (λ ascending.
    need (dec_all used _ (λ j. dec_live n ks (get_or row j 0))) (λ t. t.live) (λ live.
    need (dec_zeros row used) (λ t. t.zeros) (λ zeros.
    yes (record { ascending = ascending; live = live; zeros = zeros }))))

abbrev dec_counts : (cs : List ℕ) (used cap : ℕ) → Dec (CountsRow cs used cap)
dec_counts cs used cap =
    need (dec_all used _ (λ j. Dec·and (dec_le 2 (get_or cs j 0)) (dec_le (get_or cs j 0) cap))) (λ t. t.ranged) (λ ranged.
    need (dec_zeros cs used) (λ t. t.zeros) (λ zeros.
    yes (record { ranged = ranged; zeros = zeros })))

abbrev dec_tables : (h : Head) (ks : List ℕ) (t : TableRows) → Dec (TablesSound h ks t)
dec_tables h ks t =
    need (dec_table h.sizes.n ks t.zct h.zct) (λ s. s.zct_row) (λ zct_row.
    need (dec_table h.sizes.n ks t.mrt h.mrt) (λ s. s.mrt_row) (λ mrt_row.
    need (dec_counts t.counts h.mrt h.sizes.cap) (λ s. s.counts_row) (λ counts_row.
    yes (record { zct_row = zct_row; mrt_row = mrt_row; counts_row = counts_row }))))

-- ---- the free list

-- all that stands in a list, by the numbers below b
total : List ℕ → ℕ → ℕ
total l zero = 0
total l (suc b) = times b l + total l b

total-none : (b : ℕ) → total [] b ≡ 0
unfolding total
total-none zero = refl
total-none (suc b) = let e = total-none b in omega arith

total_skip : (x : ℕ) (l : List ℕ) (b : ℕ) → b ≤ x → total (x ∷ l) b ≡ total l b
unfolding total
total_skip x l zero h = refl
total_skip x l (suc b) h = let e = total_skip x l b (omega arith) in rw (ne_eqb b x (omega arith)) (omega arith)

total-more : (x : ℕ) (l : List ℕ) (b : ℕ) → x < b → total (x ∷ l) b ≡ suc (total l b)
unfolding total
total-more x l zero h = absurd (omega arith)
total-more x l (suc b) h = go (eqb b x) refl (λ k. total-more x l b k)
  where
    go : (q : Bool) → eqb b x ≡ q → (x < b → total (x ∷ l) b ≡ suc (total l b)) → cond q 1 0 + times b l + total (x ∷ l) b ≡ suc (times b l + total l b)
    go true e f = let o = eqb-true b x e in let s = total_skip x l b (omega arith) in omega arith
    go false e f = let s = f (other (eqb-false b x e)) in omega arith
      where
        other : (b ≡ x → ⊥) → x < b
        other d = omega arith

total-most : (l : List ℕ) (b : ℕ) → ((i : ℕ) → i < b → times i l ≤ 1) → total l b ≤ b
unfolding total
total-most l zero f = omega arith
total-most l (suc b) f = let e = total-most l b (λ i h. f i (omega arith)) in let w = f b (omega arith) in omega arith

module _ (n : ℕ) (ks : List ℕ) (vs : List ℤ) where
  abbrev dec_path : (from : ℕ) (l : List ℕ) (to : ℕ) → Dec (FreePath n ks vs from l to)
  dec_path from [] to = ℕ_discrete from to
  dec_path from (x ∷ l) to = Dec·and (ℕ_discrete x from) (Dec·and (dec_lt from n) (Dec·and (ℕ_discrete (mark ks from) 3) (dec_path (next n vs from) l to)))

  -- a list to n is the one that is followed
  pub followed : (from : ℕ) (l : List ℕ) (k : ℕ) → FreePath n ks vs from l n → length l ≤ k → list_from n vs k from ≡ l
  followed from [] zero c h = refl
  followed from [] (suc k) c h = rw (eq-eqb from n c)
  followed from (x ∷ l) zero c h = absurd (omega arith)
  followed from (x ∷ l) (suc k) c h =
      let b = c.1.0 in
      rw (ne_eqb from n (omega arith), c.0, followed (next n vs from) l k c.1.1.1 (omega arith))

  counted : (from : ℕ) (l : List ℕ) → FreePath n ks vs from l n → total l n ≡ length l
  counted from [] c = total-none n
  counted from (x ∷ l) c = let e = counted (next n vs from) l c.1.1.1 in let h = c.1.0 in let o = c.0 in total-more x l n (omega arith) ∙ ap suc e

  only_free : (from : ℕ) (l : List ℕ) (b : ℕ) → FreePath n ks vs from l n → (mark ks b ≡ 3 → ⊥) → times b l ≡ 0
  only_free from [] b c d = refl
  only_free from (x ∷ l) b c d =
      let e = only_free (next n vs from) l b c.1.1.1 d in
      rw (ne_eqb b x (λ o. d (rw (o ∙ c.0) c.1.1.0))) (omega arith)

  module _ (first : ℕ) where
    pub short : (F : FreeList n ks vs first) → length F.list ≤ n
    short F = let e = counted first F.list F.path in let t = total-most F.list n (λ i h. once i h (ℕ_discrete (mark ks i) 3)) in omega arith
      where
        once : (i : ℕ) → i < n → Dec (mark ks i ≡ 3) → times i F.list ≤ 1
        once i h (yes m) = omega (arith, F.once i h m)
        once i h (no d) = omega (arith, only_free first F.list i F.path d)

    abbrev dec_frees : Dec (FreeList n ks vs first)
    dec_frees =
        map_dec (λ p. record { list = list_from n vs n first; path = p.0; once = p.1 })
        (λ F. let e = followed first F.list n F.path (short F) in (rw e F.path, rw e F.once))
        (Dec·and (dec_path first (list_from n vs n first) n)
        (dec_all n (λ b. mark ks b ≡ 3 → times b (list_from n vs n first) ≡ 1) (λ b. dec_imp (ℕ_discrete (mark ks b) 3) (ℕ_discrete (times b (list_from n vs n first)) 1))))

-- ---- counts, pointers and holds

abbrev dec_out : (row : List ℕ) (used a : ℕ) → Dec (NotIn row used a)
dec_out row used a =
    map_dec (λ p j h. p j h.0 h.1) (λ o j h k. o j (h, k))
    (dec_all used (λ j. get_or row j 0 ≡ a → ⊥) (λ j. dec_not (ℕ_discrete (get_or row j 0) a)))

module _ (h : Head) (ks : List ℕ) (t : TableRows) (count : ℕ → ℕ) where
  abbrev dec_apart : Dec ((i j : ℕ) → i < h.zct → j < h.mrt → get_or t.zct i 0 ≡ get_or t.mrt j 0 → ⊥)
  dec_apart =
      map_dec (λ p i j k l. p i k j l) (λ a i k j l. a i j k l)
      (dec_all h.zct (λ i. (j : ℕ) → j < h.mrt → get_or t.zct i 0 ≡ get_or t.mrt j 0 → ⊥) (λ i. dec_all h.mrt _ (λ j. dec_not (ℕ_discrete (get_or t.zct i 0) (get_or t.mrt j 0)))))

  abbrev dec_one : Dec ((a : ℕ) → Live h.sizes.n ks a → NotIn t.zct h.zct a → NotIn t.mrt h.mrt a → count a ≡ 1)
  dec_one =
      map_dec (λ p a l. p a l.cell l) (λ o a k l. o a l)
      (dec_all h.sizes.n (λ a. Live h.sizes.n ks a → NotIn t.zct h.zct a → NotIn t.mrt h.mrt a → count a ≡ 1)
      (λ a. dec_imp (dec_live h.sizes.n ks a) (dec_imp (dec_out t.zct h.zct a) (dec_imp (dec_out t.mrt h.mrt a) (ℕ_discrete (count a) 1)))))

  abbrev dec_exact : Dec ((j : ℕ) → j < h.mrt → get_or t.counts j 0 < h.sizes.cap → count (get_or t.mrt j 0) ≡ get_or t.counts j 0)
  dec_exact =
      dec_all h.mrt (λ j. get_or t.counts j 0 < h.sizes.cap → count (get_or t.mrt j 0) ≡ get_or t.counts j 0)
      (λ j. dec_imp (dec_lt (get_or t.counts j 0) h.sizes.cap) (ℕ_discrete (count (get_or t.mrt j 0)) (get_or t.counts j 0)))

  abbrev dec_agree : Dec (Agree h ks t count)
  dec_agree =
      need dec_apart (λ a. a.apart) (λ apart.
      need dec_one (λ a. a.one) (λ one.
      need (dec_all h.zct _ (λ j. ℕ_discrete (count (get_or t.zct j 0)) 0)) (λ a. a.none) (λ none.
      need dec_exact (λ a. a.exact) (λ exact.
      yes (record { apart = apart; one = one; none = none; exact = exact })))))

abbrev dec_held : (n : ℕ) (xs : List ℤ) (zs : List ℕ) (used : ℕ) → Dec (ZctHeld n xs zs used)
dec_held n xs zs used = dec_all used _ (λ j. Bool_discrete (held_among n xs (get_or zs j 0) (length xs)))

-- ---- the whole

-- is the heap sound?
unfoldable pub sound? : (h : Head) (r : Lent) → Dec (Sound h r)
sound? h r =
    need (dec_cells h.sizes.n r.kinds r.values r.variables) (λ s. s.cells) (λ cells.
    need (dec_tables h r.kinds r.tables) (λ s. s.tables) (λ tables.
    need (dec_frees h.sizes.n r.kinds r.values h.free) (λ s. s.free-list) (λ free-list.
    need (dec_agree h r.kinds r.tables (pointers_to h.sizes.n r.kinds r.values)) (λ s. s.agree) (λ agree.
    need (dec_held h.sizes.n r.variables r.tables.zct h.zct) (λ s. s.held) (λ held.
    need (dec_zeros r.log 0) (λ s. s.log_zero) (λ log_zero.
    yes (record { cells = cells; tables = tables; free-list = free-list; agree = agree; held = held; log_zero = log_zero })))))))

abbrev pub dec_limits : (s : Sizes) → Dec (Limits s)
dec_limits s =
    need (dec_le 1 s.n) (λ l. l.n_least) (λ n_least.
    need (dec_le s.n 1024) (λ l. l.n_most) (λ n_most.
    need (dec_le 1 s.m) (λ l. l.m_least) (λ m_least.
    need (dec_le s.m 64) (λ l. l.m_most) (λ m_most.
    need (dec_le 2 s.l) (λ l. l.l_least) (λ l_least.
    need (dec_le s.l 1024) (λ l. l.l_most) (λ l_most.
    need (dec_le 3 s.cap) (λ l. l.cap_least) (λ cap_least.
    need (dec_le s.cap 255) (λ l. l.cap_most) (λ cap_most.
    yes (record { n_least = n_least; n_most = n_most; m_least = m_least; m_most = m_most; l_least = l_least; l_most = l_most; cap_least = cap_least; cap_most = cap_most })))))))))

abbrev dec_within : (h : Head) → Dec (Within h)
dec_within h =
    need (dec_limits h.sizes) (λ w. w.limits) (λ limits.
    need (dec_le h.free h.sizes.n) (λ w. w.free_most) (λ free_most.
    need (dec_le h.zct h.sizes.n) (λ w. w.zct_most) (λ zct_most.
    need (dec_le h.mrt h.sizes.n) (λ w. w.mrt_most) (λ mrt_most.
    yes (record { limits = limits; free_most = free_most; zct_most = zct_most; mrt_most = mrt_most })))))

abbrev dec_lengths : (s : Sizes) (l : RowLengths) → Dec (Lengths s l)
dec_lengths s l =
    need (ℕ_discrete l.kinds (2 * s.n)) (λ z. z.for_kinds) (λ for_kinds.
    need (ℕ_discrete l.values (2 * s.n)) (λ z. z.for_values) (λ for_values.
    need (ℕ_discrete l.variables s.m) (λ z. z.for_variables) (λ for_variables.
    need (ℕ_discrete l.zct s.n) (λ z. z.for_zct) (λ for_zct.
    need (ℕ_discrete l.mrt s.n) (λ z. z.for_mrt) (λ for_mrt.
    need (ℕ_discrete l.counts s.n) (λ z. z.for_counts) (λ for_counts.
    need (ℕ_discrete l.log (2 * s.l)) (λ z. z.for_log) (λ for_log.
    need (ℕ_discrete l.work s.n) (λ z. z.for_work) (λ for_work.
    yes
    (record {
      for_kinds = for_kinds;
      for_values = for_values;
      for_variables = for_variables;
      for_zct = for_zct;
      for_mrt = for_mrt;
      for_counts = for_counts;
      for_log = for_log;
      for_work = for_work;
    })))))))))

-- are the head's numbers within the limits, and the rows' lengths those that it says?
unfoldable pub sized? : (h : Head) (r : Lent) → Dec (Sized h r)
sized? h r =
    need (dec_within h) (λ z. z.within) (λ within.
    need (dec_lengths h.sizes (lengths_of r)) (λ z. z.lengths) (λ lengths.
    yes (record { within = within; lengths = lengths })))
