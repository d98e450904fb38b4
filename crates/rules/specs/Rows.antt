-- The rows that are lent: those that a heap is written down as, and the heap that they are read as. Assumes nothing.
use Rattle.std.specs.Prelude.{ℕ, ◌*◌, List, [], ◌∷◌, map, length, take, replicate, ℤ}
use Rattle.rules.specs.declared.Head.{Head}
use Rattle.rules.specs.declared.Used.{Used}
use Rattle.rules.specs.declared.Field.{Field}
use Rattle.rules.specs.declared.Sizes.{Sizes}
use Rattle.rules.specs.Field.{kind_of, value_of, field_of, variable_of, held_of}
use Rattle.rules.specs.Table.{Entry, entry, addresses, counts, pad}
use Rattle.rules.specs.Heap.{Tables, Transaction, allocates, creates, destroys, Heap}

-- the rows of the two tables: addresses of ZCT; addresses of MRT, and the counts beside them
pub record TableRows : Type 0 where
  pub zct : List ℕ
  pub mrt : List ℕ
  pub counts : List ℕ

-- the rows of cells and tables
pub record HeapRows : Type 0 where
  pub kinds : List ℕ
  pub values : List ℤ
  pub tables : TableRows

-- the rows that a call works on, after the settle before it
pub record CallRows : Type 0 where
  pub kinds : List ℕ
  pub values : List ℤ
  pub variables : List ℤ
  pub log : List ℕ

-- the rows that are lent, by their names in document 01's table
pub record Lent : Type 0 where
  pub kinds : List ℕ
  pub values : List ℤ
  pub variables : List ℤ
  pub tables : TableRows
  pub log : List ℕ
  pub work : List ℕ

-- how long the rows are, in elements
pub record RowLengths : Type 0 where
  pub kinds : ℕ
  pub values : ℕ
  pub variables : ℕ
  pub zct : ℕ
  pub mrt : ℕ
  pub counts : ℕ
  pub log : ℕ
  pub work : ℕ

abbrev pub row_lengths : ℕ → ℕ → ℕ → ℕ → ℕ → ℕ → ℕ → ℕ → RowLengths
row_lengths kinds values variables zct mrt counts log work =
    record { kinds = kinds; values = values; variables = variables; zct = zct; mrt = mrt; counts = counts; log = log; work = work }

abbrev pub lengths_of : Lent → RowLengths
lengths_of r =
    let t = r.tables in
    row_lengths (length r.kinds) (length r.values) (length r.variables) (length t.zct) (length t.mrt) (length t.counts) (length r.log) (length r.work)

-- those of the cells and tables among them
abbrev pub heap_rows : Lent → HeapRows
heap_rows r = record { kinds = r.kinds; values = r.values; tables = r.tables }

-- all rows, from those that a call works on, the tables' and the work row
abbrev pub beside : TableRows → List ℕ → CallRows → Lent
beside t work r = record { kinds = r.kinds; values = r.values; variables = r.variables; tables = t; log = r.log; work = work }

-- the rows, one by one
abbrev pub table_rows : List ℕ → List ℕ → List ℕ → TableRows
table_rows zs ms cs = record { zct = zs; mrt = ms; counts = cs }

abbrev pub lent : List ℕ → List ℤ → List ℤ → List ℕ → List ℕ → List ℕ → List ℕ → List ℕ → Lent
lent ks xs vs zs ms cs log work = record { kinds = ks; values = xs; variables = vs; tables = table_rows zs ms cs; log = log; work = work }

-- the log's words: kind (1 allocate, 2 create, 3 destroy) and address of each entry
abbrev pub words : List Transaction → List ℕ
words [] = []
words (allocates a ∷ xs) = 1 ∷ a ∷ words xs
words (creates a ∷ xs) = 2 ∷ a ∷ words xs
words (destroys a ∷ xs) = 3 ∷ a ∷ words xs

-- the rows of a heap; the work row is scratch, and zero when a call has ended
unfoldable pub rows_of : Sizes → Heap → Lent
rows_of s h =
    record {
      kinds = map kind_of h.shape.fields;
      values = map value_of h.shape.fields;
      variables = map variable_of h.shape.variables;
      tables = table_rows (pad s.n h.tables.zct) (pad s.n (addresses h.tables.mrt)) (pad s.n (counts h.tables.mrt));
      log = pad (2 * s.l) (words h.log);
      work = replicate s.n 0;
    }

-- its head
unfoldable pub head_of : Sizes → Heap → Head
head_of s h =
    record {
      sizes = s;
      free = h.first;
      zct = length h.tables.zct;
      mrt = length h.tables.mrt;
    }

-- ---- and back: the heap that the rows of a sound heap are

abbrev pub fields_of : List ℕ → List ℤ → List Field
fields_of [] vs = []
fields_of (k ∷ ks) [] = []
fields_of (k ∷ ks) (v ∷ vs) = field_of k v ∷ fields_of ks vs

abbrev pub entries_of : List ℕ → List ℕ → List Entry
entries_of [] cs = []
entries_of (a ∷ as') [] = []
entries_of (a ∷ as') (c ∷ cs) = entry a c ∷ entries_of as' cs

-- the used parts of the tables' rows
abbrev pub tables_of : TableRows → Used → Tables
tables_of r u = record { zct = take u.zct r.zct; mrt = entries_of (take u.mrt r.mrt) (take u.mrt r.counts) }

-- at a batch's end the log is empty
unfoldable pub heap_of : Head → Lent → Heap
heap_of h r =
    record {
      shape = record { fields = fields_of r.kinds r.values; variables = map held_of r.variables };
      first = h.free;
      tables = tables_of r.tables (record { zct = h.zct; mrt = h.mrt });
      log = [];
      freed = 0;
    }
