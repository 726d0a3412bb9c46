-- What the calls of tables and stores do.
use Rattle.std.specs.Prelude.{not, ◌==◌, nat_le, if◌then◌else◌, ◌≡◌, ℕ, ◌+◌, ◌^◌, List, [], ◌∷◌, ◌++◌, length, Option, Some, None, is_some, Result, Ok, Err, Vec, set, slice_get, filter, Bool}
use Rattle.std.specs.declared.alloc.Global.{Global}
use Rattle.lq_value.specs.Tables.{Table, first_named}
use Rattle.lq_value.specs.declared.scalar.Scalar.{Scalar}
use Rattle.lq_store.specs.Rules.{have_types, are_in_ranges, name_of}
use Rattle.lq_store.specs.declared.error.StoreError.{StoreError}
use Rattle.lq_store.specs.declared.error.StoreError.TheVariants.{Memory, Arity, CellType, CellRange, Full, DuplicateTable, TooMany, UnknownTable}
use Rattle.std.specs.List.{list_any}

-- the refusal of a row of these cells, memory aside
abbrev pub refusal_of : Table → List Scalar → Option StoreError
refusal_of t cells =
    if not (length t.schema.columns == length cells) then Some Arity
    else (if not (have_types t.schema.columns cells) then Some CellType
    else (if not (are_in_ranges t.schema.columns cells) then Some CellRange
    else (if t.next == 2 ^ 64 then Some Full
    else None)))

-- the refusal of a row put into a table of a store, by the table's number, memory aside
abbrev pub refusal_at : Option Table → List Scalar → Option StoreError
refusal_at None cells = Some UnknownTable
refusal_at (Some table) cells = refusal_of table cells

abbrev pub insertion_refusal_of : List Table → ℕ → List Scalar → Option StoreError
insertion_refusal_of tables t cells = refusal_at (slice_get tables t) cells

-- the table with one more row of these cells
abbrev pub with_row : Table → List Scalar → Table
with_row t cells = record t { rows = t.rows ++ (record { number = t.next; cells = cells }) ∷ []; next = t.next + 1 }

-- the refusal that an error stands for, where it is not memory
abbrev pub unless_memory : StoreError → Option StoreError
unless_memory Memory = None
unless_memory error = Some error

-- a push of cells: their row's number, or a refusal that leaves the table and hands the cells back
abbrev pub Pushes : Table → List Scalar → Result ℕ (StoreError × List Scalar) → Table → Type 0
Pushes old cells (Ok number) new = (refusal_of old cells ≡ None) × (number ≡ old.next) × (new ≡ with_row old cells)
Pushes old cells (Err refused) new = (refusal_of old cells ≡ unless_memory refused.0) × (refused.1 ≡ cells) × (new ≡ old)

-- what a push answers, with the cells that it hands back as a list
abbrev pub shown_pushed : Result ℕ (StoreError × Vec Scalar Global) → Result ℕ (StoreError × List Scalar)
shown_pushed (Ok number) = Ok number
shown_pushed (Err refused) = Err (refused.0, refused.1.items)

-- where there is no such table, or this one
abbrev pub InsertsInto : List Table → ℕ → List Scalar → Result ℕ (StoreError × List Scalar) → List Table → Option Table → Type 0
InsertsInto old t cells result new None = (result ≡ Err (UnknownTable, cells)) × (new ≡ old)
InsertsInto old t cells result new (Some table) = (changed : Table) × Pushes table cells result changed × (new ≡ set old t changed)

-- a row put into a table of a store, by the table's number: what the table answers, with the other tables as they were
abbrev pub Inserts : List Table → ℕ → List Scalar → Result ℕ (StoreError × List Scalar) → List Table → Type 0
Inserts old t cells result new = InsertsInto old t cells result new (slice_get old t)

-- whether a number is one of these
abbrev pub is_listed : List ℕ → ℕ → Bool
is_listed numbers number = list_any (λ other. other == number) numbers

-- the rows of a table without those of these numbers
abbrev pub without_rows : Table → List ℕ → Table
without_rows table numbers = record table { rows = filter (λ row. not (is_listed numbers row.number)) table.rows }

-- how many rows have these numbers
abbrev pub count_listed : Table → List ℕ → ℕ
count_listed table numbers = length (filter (λ row. is_listed numbers row.number) table.rows)

-- the refusal of one more table, memory aside
abbrev pub addition_refusal_of : List Table → Table → Option StoreError
addition_refusal_of tables table =
    if is_some (first_named name_of (name_of table) tables) then Some DuplicateTable
    else (if nat_le 64 (length tables) then Some TooMany
    else None)

-- an addition of a table: its number, or a refusal that leaves the store and hands the table back
abbrev pub Adds : List Table → Table → Result ℕ (StoreError × Table) → List Table → Type 0
Adds old table (Ok number) new = (addition_refusal_of old table ≡ None) × (number ≡ length old) × (new ≡ old ++ table ∷ [])
Adds old table (Err refused) new = (addition_refusal_of old table ≡ unless_memory refused.0) × (refused.1 ≡ table) × (new ≡ old)
