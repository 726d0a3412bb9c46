-- What loading a table's file rests on.
use Rattle.std.proofs.Common.{◌≡◌, ◌≤◌, ◌<◌, ◌+◌, ◌==◌, ℕ, zero, suc, false, List, [], length, Option, Some, None, refl, arith}
use Rattle.std.specs.Prelude.{◌≢◌, Result, Ok, Err}
use Rattle.std.proofs.lemmas.Bool.{le-ltb, lt-ltb}
use Rattle.std.proofs.lemmas.Bool.Decides.{nat_tests}
use Rattle.csv.specs.Machine.{Read, next_record}
use Rattle.csv.specs.Reading.{default_config, records, records_from, records_next, strip_bom}
use Rattle.csv.specs.declared.parser.State.{State}
use Rattle.csv.specs.declared.parser.State.TheVariants as st
use Rattle.lq_value.specs.Tables.{Table}
use Rattle.lq_value.specs.declared.scalar.Scalar.{Scalar}
use Rattle.lq_store.specs.Calls.{unless_memory, with_row}
use Rattle.lq_store.specs.declared.error.StoreError.{StoreError}
use Rattle.lq_store.specs.declared.error.StoreError.TheVariants as store
use Rattle.lq_grammar.specs.Script.{without_marks}
use Rattle.lq_load.specs.TableFile.{UnlessMemory, and_then, cells_from, table_limit, table_of, table_of_records, with_record}
use Rattle.lq_load.specs.declared.load_error.LoadError.{LoadError}
use Rattle.lq_load.specs.declared.load_error.LoadError.TheVariants.{Memory, Csv, Header, DuplicateName, Cell, TooLarge}
use Rattle.lq_load.proofs.CellLemmas.{same_length}
use Rattle.lq_load.proofs.MarkLemmas.{strip_bom-without_marks, without_marks-short}

-- what follows from an error's fact follows from it unless the error is memory
pub unless-map : (e : LoadError) (P Q : Type 0) → (P → Q) → UnlessMemory e P → UnlessMemory e Q
unless-map Memory P Q f h = tt
unless-map Csv P Q f h = f h
unless-map Header P Q f h = f h
unless-map DuplicateName P Q f h = f h
unless-map (Cell a b) P Q f h = f h
unless-map TooLarge P Q f h = f h

-- the row of a record whose cells are known
pub with_record-cells : (table : Table) (fields : List (List ℕ)) (cells : Result (List Scalar) LoadError) → length table.schema.columns ≡ length fields → cells_from (table.next + 1) table.schema.columns fields [] ≡ cells
    → with_record table fields ≡ and_then (λ row. Ok (with_row table row)) cells
with_record-cells table fields cells size e = rw (same_length (length table.schema.columns) (length fields) size, e) refl

other_length : (a b : ℕ) → a ≢ b → (a == b) ≡ false
other_length a b e = grind (arith, nat_tests)

pub with_record-other : (table : Table) (fields : List (List ℕ)) → length table.schema.columns ≢ length fields → with_record table fields ≡ Err Csv
with_record-other table fields h = rw (other_length (length table.schema.columns) (length fields) h) refl

-- the one error that means no refusal is memory
pub only_memory : (e : StoreError) → None ≡ unless_memory e → e ≡ store.Memory
only_memory store.Memory h = refl
only_memory store.Arity h = cc
only_memory store.CellType h = cc
only_memory store.CellRange h = cc
only_memory store.Full h = cc
only_memory store.DuplicateTable h = cc
only_memory store.TooMany h = cc
only_memory store.UnknownTable h = cc

-- a file of more than 16 MiB
pub table_of-large : (name bytes : List ℕ) → table_limit < length bytes → table_of name bytes ≡ Err TooLarge
unfolding table_of
table_of-large name bytes h = rw (lt-ltb table_limit (length bytes) h) refl

-- any other file
pub table_of-small : (name bytes : List ℕ) → length bytes ≤ table_limit → table_of name bytes ≡ table_of_records name (records default_config (strip_bom (without_marks bytes)))
unfolding table_of
table_of-small name bytes h = rw (le-ltb table_limit (length bytes) h, strip_bom-without_marks bytes) refl

records_from-few : (turns : ℕ) (state : State) (bytes : List ℕ) → length (records_from default_config turns state bytes) ≤ turns
unfolding records_from
records_from-few zero state bytes = omega arith
records_from-few (suc turns) state bytes = by (next_record default_config state [] [] bytes) (records_from-few turns)
  where
    by : (o : Option Read) → ((s : State) (rest : List ℕ) → length (records_from default_config turns s rest) ≤ turns)
        → length (records_next (records_from default_config turns) o) ≤ suc turns
    by None h = omega arith
    by (Some read) h = let few = h read.1 read.2 in omega arith

-- a file has no more records than bytes, and one
pub records-few : (bytes : List ℕ) → length (records default_config (strip_bom (without_marks bytes))) ≤ length bytes + 1
records-few bytes =
    rw (strip_bom-without_marks bytes)
    (let few = records_from-few (length (without_marks bytes) + 1) st.StartRecord (without_marks bytes) in let short = without_marks-short bytes in omega arith)
