-- Cases against the errors that look right, and cases that pin the rules: each error gets one wrong. Assumes nothing.
use Rattle.std.specs.Prelude.{ℕ, zero, suc, ◌+◌, ◌≡◌, List, [], ◌∷◌, ◌++◌, map, ℤ, pos, negsuc, length, get_or, take, replicate}
use Rattle.std.proofs.Math.Option.{Option, none, some}
use Rattle.rules.specs.declared.Field.TheVariants.{Nothing, Free}
use Rattle.rules.specs.declared.Deed.TheVariants.{Copy, Clear, Link, Put, Blank, Follow, Read, Same}
use Rattle.rules.specs.declared.Call.{Call}
use Rattle.rules.specs.declared.Call.TheVariants.{New, Do, Settle}
use Rattle.rules.specs.declared.Sizes.{Sizes}
use Rattle.rules.specs.Head.{sized}
use Rattle.rules.specs.Table.{entry}
use Rattle.rules.specs.Call.{Answer, answer, calls_in}
use Rattle.rules.specs.Step as P

-- n cells, m 3, L 4, cap 3
abbrev sizes : ℕ → Sizes
sizes n = sized n 3 4 3

-- a batch on a fresh heap of n cells
abbrev ends : ℕ → List Call → P.Result
ends n cs = P.batch (sizes n) cs (P.fresh (sizes n))

-- two pointers to cell 1
abbrev two : List Call
two = New 0 ∷ New 1 ∷ Do (Link 0 0 1) ∷ Do (Link 0 1 1) ∷ Settle ∷ []

-- a new into one of the two variables that hold the only cell
abbrev held_twice : List Call
held_twice = New 0 ∷ Do (Copy 1 0) ∷ New 1 ∷ []

pub record LooksRight : Type 0 where
  -- freeing a cell when its count falls to none, without looking at the variables: variable 1 still holds cell 1
  pub held_cells_stay : (ends 4 (New 0 ∷ New 1 ∷ Do (Link 0 0 1) ∷ Do (Blank 0 0) ∷ [])).heap.tables.zct ≡ 0 ∷ 1 ∷ []
  -- logging the create before the destroy when a field is overwritten: a count can then touch the cap and stick
  pub destroyed_then_created : (ends 4 (two ++ (Do (Link 0 0 1) ∷ []))).heap.tables.mrt ≡ entry 1 2 ∷ []
  -- lowering a count from the cap, or dropping it at the cap: of three pointers to cell 1 two go
  pub cap_stays : (ends 4 (two ++ (Do (Link 1 0 1) ∷ Settle ∷ Do (Blank 0 0) ∷ Do (Blank 0 1) ∷ []))).heap.tables.mrt ≡ entry 1 3 ∷ []
  -- entering a second pointer in MRT with 1
  pub second_pointer_is_two : (ends 4 two).heap.tables.mrt ≡ entry 1 2 ∷ []
  -- forgetting that cells reclaimed in the loop bring new cells into ZCT: cell 0 takes cell 1 with it
  pub freeing_goes_on : (ends 4 (New 0 ∷ New 1 ∷ Do (Link 0 0 1) ∷ Do (Clear 0) ∷ Do (Clear 1) ∷ [])).heap.freed ≡ 2
  -- handing out a cell with its old figures in it
  pub new_cells_are_blank : (ends 1 (New 0 ∷ Do (Put 0 1 (pos 7)) ∷ Do (Clear 0) ∷ New 0 ∷ [])).heap.shape.fields ≡ Nothing ∷ Nothing ∷ []
  pub freed_cells_are_blank : (ends 1 (New 0 ∷ Do (Put 0 1 (pos 7)) ∷ Do (Clear 0) ∷ [])).heap.shape.fields ≡ Free 1 ∷ Nothing ∷ []
  -- keeping insertion order in a table: cell 1 comes into ZCT after cells 0 and 2
  pub tables_ascend : (ends 4 (New 0 ∷ New 1 ∷ Do (Link 0 0 1) ∷ New 2 ∷ Settle ∷ Do (Blank 0 0) ∷ [])).heap.tables.zct ≡ 0 ∷ 1 ∷ 2 ∷ []
  -- counting v's own hold in the settle for a new, for lack of a free cell (P2 too) or for room in the log
  pub new_lets_go_of_its_cell : (ends 1 (New 0 ∷ New 0 ∷ New 0 ∷ [])).heap.freed ≡ 2
  pub for_room_too : (ends 8 (New 0 ∷ New 0 ∷ New 0 ∷ New 0 ∷ New 0 ∷ [])).heap.shape.variables ≡ some 3 ∷ none ∷ none ∷ []
  -- leaving out another variable's hold, or clearing v at 14: variable 0 holds the cell too, and both keep it
  pub others_holds_count : (ends 1 held_twice).heap.freed ≡ 0
  pub kept_at_14 : (ends 1 held_twice).heap.shape.variables ≡ some 0 ∷ some 0 ∷ none ∷ []
  -- leaving out a hold in the settle at a batch's end, of the call settle, or before a link: no cell goes that a variable holds
  pub the_end_counts_all : (ends 4 (New 0 ∷ [])).heap.freed ≡ 0
  pub settle_counts_all : (ends 4 (New 0 ∷ Settle ∷ [])).heap.freed ≡ 0
  pub a_link_counts_all : (ends 4 (take 4 two ++ (Do (Link 0 0 0) ∷ []))).heap.freed ≡ 0

-- ---- a definition that is wrong together with its code

-- on a fresh heap of 4 cells: what a batch answers, and what the variables then hold
abbrev said : List Call → List Answer
said cs = (ends 4 cs).answers

abbrev held : List Call → List (Option ℕ)
held cs = (ends 4 cs).heap.shape.variables

-- done, with its value; refused, with its number
abbrev gives : ℕ → Answer
gives x = answer 0 (pos x)

abbrev refused : ℕ → Answer
refused k = answer k (pos 0)

-- the log is empty, and cell 2 is freed by the next settle
abbrev waiting : List Call
waiting = New 0 ∷ New 1 ∷ New 2 ∷ Settle ∷ Do (Clear 2) ∷ []

-- what settle then answers after these calls: 0 where one of them made a settle, else 1
abbrev settle_after : List Call → Answer
settle_after cs = get_or (said (waiting ++ cs ++ (Settle ∷ []))) (5 + length cs) (refused 1)

-- three entries of the four
abbrev three : List Call
three = Do (Link 0 1 1) ∷ Do (Link 1 0 0) ∷ Do (Link 1 1 0) ∷ []

-- all four: cell 0 has a figure and a pointer to cell 1, cell 1 a pointer to cell 0 and nothing
abbrev four : List Call
four = Do (Put 0 0 (pos 7)) ∷ Do (Link 0 1 1) ∷ Do (Link 1 0 0) ∷ Do (Link 0 1 1) ∷ []

-- four words
abbrev words : ℕ → ℤ → ℤ → ℤ → List ℤ
words op a b c = pos op ∷ a ∷ b ∷ c ∷ []

abbrev nought : ℤ
nought = pos 0

-- x in the place of each word that is not named, of each variable, of each field
abbrev unnamed : ℤ → List (List ℤ)
unnamed x =
    words 1 nought x nought ∷ words 1 nought nought x ∷ words 2 nought nought x ∷ words 3 nought x nought ∷ words 3 nought nought x ∷ words 6 nought nought x
    ∷ words 8 nought nought x ∷ words 9 nought nought x ∷ words 10 x nought nought ∷ words 10 nought x nought ∷ words 10 nought nought x ∷ []

abbrev variable : ℤ → List (List ℤ)
variable x =
    words 1 x nought nought ∷ words 2 x nought nought ∷ words 2 nought x nought ∷ words 3 x nought nought ∷ words 4 x nought nought ∷ words 4 nought nought x
    ∷ words 5 x nought nought ∷ words 6 x nought nought ∷ words 7 x nought nought ∷ words 7 nought nought x ∷ words 8 x nought nought ∷ words 9 x nought nought
    ∷ words 9 nought x nought ∷ []

abbrev field_number : ℤ → List (List ℤ)
field_number x = map (λ op. words op nought x nought) (4 ∷ 5 ∷ 6 ∷ 7 ∷ 8 ∷ [])

-- how many of these rows of words are calls over 3 variables
abbrev one : Option (List Call) → ℕ
one none = 0
one (some cs) = 1

abbrev taken : List (List ℤ) → ℕ
taken [] = 0
taken (ws ∷ rows) = one (calls_in 3 ws) + taken rows

-- the words of k settles
abbrev settles : ℕ → List ℤ
settles zero = []
settles (suc k) = pos 10 ∷ nought ∷ nought ∷ nought ∷ settles k

pub record Pinned : Type 0 where
  -- same the wrong way round, or 1 for any two cells, or for one variable alone
  pub same_is_one_cell : said (New 0 ∷ New 1 ∷ Do (Same 0 0) ∷ Do (Same 0 1) ∷ []) ≡ map gives (0 ∷ 0 ∷ 1 ∷ 0 ∷ [])
  pub copied_is_same : said (New 0 ∷ Do (Copy 1 0) ∷ Do (Same 0 1) ∷ []) ≡ map gives (0 ∷ 0 ∷ 1 ∷ [])
  -- copy into w, or not of nothing
  pub copied_into_v : held (New 0 ∷ New 1 ∷ Do (Copy 1 0) ∷ []) ≡ some 0 ∷ some 0 ∷ none ∷ []
  pub nothing_copied : held (New 0 ∷ New 1 ∷ Do (Copy 1 2) ∷ []) ≡ some 0 ∷ none ∷ none ∷ []
  -- follow into v, or along the other field
  pub followed_into_w : held (New 0 ∷ New 1 ∷ Do (Link 0 1 1) ∷ Do (Follow 0 1 2) ∷ []) ≡ some 0 ∷ some 1 ∷ some 1 ∷ []
  -- blank that leaves the figure, or takes the other field's
  pub blank_takes_one : said (New 0 ∷ Do (Put 0 0 (pos 7)) ∷ Do (Put 0 1 (pos 8)) ∷ Do (Blank 0 0) ∷ Do (Read 0 0) ∷ Do (Read 0 1) ∷ [])
      ≡ replicate 4 (gives 0) ++ (refused 15 ∷ gives 8 ∷ [])
  -- settle answering the cells freed so far in the batch
  pub settle_counts_its_own : said (New 0 ∷ New 1 ∷ Do (Clear 0) ∷ Do (Clear 1) ∷ Settle ∷ New 0 ∷ Do (Clear 0) ∷ Settle ∷ [])
      ≡ map gives (0 ∷ 0 ∷ 0 ∷ 0 ∷ 2 ∷ 0 ∷ 0 ∷ 1 ∷ [])
  -- a link from or to nothing taken, or another call without a cell that it needs
  pub cells_needed : said (New 1 ∷ Do (Link 0 0 1) ∷ Do (Link 1 0 0) ∷ Do (Put 0 0 (pos 7)) ∷ Do (Blank 0 0) ∷ Do (Follow 0 0 1) ∷ Do (Read 0 0) ∷ Do (Same 0 1) ∷ Do (Same 1 0) ∷ [])
      ≡ gives 0 ∷ replicate 8 (refused 11)
  -- a value of another call: an address, a figure
  pub no_other_values : said (New 0 ∷ New 1 ∷ Do (Copy 2 1) ∷ Do (Put 0 0 (pos 7)) ∷ Do (Link 0 0 1) ∷ Do (Follow 0 0 2) ∷ Do (Blank 0 0) ∷ Do (Clear 1) ∷ []) ≡ replicate 8 (gives 0)
  -- a link over a figure needing two entries, over a cell one; a settle where the entries left are just enough
  pub link_over_figure_needs_one : settle_after (Do (Put 0 0 (pos 7)) ∷ three ++ (Do (Link 0 0 1) ∷ [])) ≡ gives 1
  pub link_over_cell_needs_two : settle_after (three ++ (Do (Link 0 1 1) ∷ [])) ≡ gives 0
  pub two_are_enough : settle_after (take 2 three ++ (Do (Link 0 1 1) ∷ [])) ≡ gives 1
  -- put and blank needing none over a cell, or one over a figure
  pub put_over_cell_needs_one : settle_after (four ++ (Do (Put 0 1 (pos 8)) ∷ [])) ≡ gives 0
  pub blank_over_cell_needs_one : settle_after (four ++ (Do (Blank 0 1) ∷ [])) ≡ gives 0
  pub over_figure_needs_none : settle_after (four ++ (Do (Put 0 0 (pos 8)) ∷ Do (Blank 0 0) ∷ [])) ≡ gives 1
  -- a settle for room before a call that is refused
  pub refused_makes_no_settle : said (waiting ++ four ++ (Do (Link 0 0 2) ∷ Do (Link 2 0 0) ∷ Do (Follow 0 0 2) ∷ Do (Read 0 1) ∷ Do (Read 1 1) ∷ Settle ∷ []))
      ≡ replicate 9 (gives 0) ++ (refused 11 ∷ refused 11 ∷ refused 12 ∷ refused 13 ∷ refused 15 ∷ gives 1 ∷ [])
  -- the greater of two cells first, or going on from the last one freed: the free list, as three news take it
  pub smaller_first : held (New 0 ∷ New 1 ∷ Do (Clear 0) ∷ Do (Clear 1) ∷ Settle ∷ New 0 ∷ New 1 ∷ New 2 ∷ []) ≡ some 1 ∷ some 0 ∷ some 2 ∷ []
  pub smallest_again : held (New 0 ∷ New 1 ∷ New 2 ∷ Do (Link 1 0 0) ∷ Do (Clear 0) ∷ Do (Clear 1) ∷ Do (Clear 2) ∷ Settle ∷ New 0 ∷ New 1 ∷ New 2 ∷ []) ≡ some 2 ∷ some 0 ∷ some 1 ∷ []
  -- an operation's number or the order of its words mistaken
  pub numbered : calls_in 3 (words 1 (pos 2) nought nought ++ words 2 nought (pos 1) nought ++ words 3 (pos 2) nought nought ++ words 4 nought (pos 1) (pos 2)
      ++ words 5 (pos 2) (pos 1) (negsuc 6) ++ words 6 (pos 2) (pos 1) nought ++ words 7 nought (pos 1) (pos 2) ++ words 8 (pos 2) (pos 1) nought ++ words 9 nought (pos 1) nought ++ settles 1)
      ≡ some (New 2 ∷ Do (Copy 0 1) ∷ Do (Clear 2) ∷ Do (Link 0 1 2) ∷ Do (Put 2 1 (negsuc 6)) ∷ Do (Blank 2 1) ∷ Do (Follow 0 1 2) ∷ Do (Read 2 1) ∷ Do (Same 0 1) ∷ Settle ∷ [])
  -- a word not named taken though it is not 0
  pub unnamed_are_nought : taken (unnamed nought) ≡ 11
  pub no_other_words : taken (unnamed (pos 1) ++ unnamed (negsuc 0)) ≡ 0
  -- a variable or a field out of range taken, or the last one not
  pub last_variable : taken (variable (pos 2)) ≡ 13
  pub no_other_variable : taken (variable (pos 3) ++ variable (negsuc 0)) ≡ 0
  pub last_field : taken (field_number (pos 1)) ≡ 5
  pub no_other_field : taken (field_number (pos 2) ++ field_number (negsuc 0)) ≡ 0
  -- an operation outside 1 to 10
  pub no_other_operation : taken (words 0 nought nought nought ∷ words 11 nought nought nought ∷ (negsuc 1 ∷ nought ∷ nought ∷ nought ∷ []) ∷ []) ≡ 0
  -- 256 calls refused, 257 taken, or a part of a call
  pub calls_256 : calls_in 3 (settles 256) ≡ some (replicate 256 Settle)
  pub not_257 : calls_in 3 (settles 257) ≡ none
  pub whole_calls : taken (take 5 (settles 2) ∷ take 6 (settles 2) ∷ take 7 (settles 2) ∷ []) ≡ 0
