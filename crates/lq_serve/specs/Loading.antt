-- The tables of the files that the program is asked to load, or the line of the first fault among them.
use Rattle.std.specs.Prelude.{◌≡◌, ◌≢◌, ◌+◌, ◌-◌, ◌==◌, ◌∷◌, ◌++◌, if◌then◌else◌, List, [], ℕ, Bool, length, map, nat_eq, take, codes, Option, Some, None, IfSome, Result, Ok, Err, Vec, ⊤}
use Rattle.std.specs.declared.alloc.Global.{Global}
use Rattle.std.specs.Fmt.{decimal}
use Rattle.std.specs.List.{ends_with, list_any}
use Rattle.lq_value.specs.Tables.{Table}
use Rattle.lq_store.specs.Calls.{addition_refusal_of}
use Rattle.lq_store.specs.declared.error.StoreError.{StoreError}
use Rattle.lq_store.specs.declared.error.StoreError.TheVariants as store
use Rattle.lq_grammar.specs.Tokens.{is_name}
use Rattle.lq_serve.specs.Files.{Adds, AddsFront, first_bytes}
use Rattle.lq_load.specs.TableFile.{table_limit, table_of}
use Rattle.lq_serve.specs.declared.file_fault.FileFault.{FileFault}
use Rattle.lq_serve.specs.declared.file_fault.FileFault.TheVariants as fault
use Rattle.lq_serve.specs.declared.files.FileRead.{FileRead}
use Rattle.lq_serve.specs.declared.start_error.StartError.{StartError}
use Rattle.lq_serve.specs.declared.start_error.StartError.TheVariants as start
use Rattle.lq_load.specs.declared.load_error.LoadError.{LoadError}
use Rattle.lq_load.specs.declared.load_error.LoadError.TheVariants as load

-- ---- names

abbrev pub has_slash : List ℕ → Bool
has_slash text = list_any (λ c. c == 47) text

-- what comes after the last slash
abbrev pub without_folders : List ℕ → List ℕ
without_folders [] = []
without_folders (c ∷ rest) = if has_slash (c ∷ rest) then without_folders rest else c ∷ rest

-- a text without the ending `.csv`, where it has one
abbrev pub without_ending : List ℕ → List ℕ
without_ending text = if ends_with nat_eq text (codes ".csv") then take (length text - 4) text else text

-- the name of the table that a file of this name holds
unfoldable pub table_name : List ℕ → List ℕ
table_name file = without_ending (without_folders file)

-- ---- faults

abbrev pub fault_of_load : LoadError → FileFault
fault_of_load load.Memory = fault.Memory
fault_of_load load.Csv = fault.Csv
fault_of_load load.Header = fault.Header
fault_of_load load.DuplicateName = fault.DuplicateName
fault_of_load (load.Cell record_place column_place) = fault.Cell record_place column_place
fault_of_load load.TooLarge = fault.TooLarge

abbrev pub fault_of_store : StoreError → FileFault
fault_of_store store.DuplicateTable = fault.DuplicateTable
fault_of_store store.TooMany = fault.TooMany
fault_of_store _ = fault.Memory

-- the words of a fault
abbrev pub fault_text : FileFault → List ℕ
fault_text fault.Memory = codes "memory"
fault_text fault.Name = codes "name"
fault_text fault.Read = codes "read"
fault_text fault.Csv = codes "csv"
fault_text fault.Header = codes "header"
fault_text fault.DuplicateName = codes "duplicate-name"
fault_text (fault.Cell record_place column_place) = codes "cell " ++ (decimal record_place ++ (codes " " ++ decimal column_place))
fault_text fault.TooLarge = codes "too-large"
fault_text fault.DuplicateTable = codes "duplicate-table"
fault_text fault.TooMany = codes "too-many"
fault_text fault.Toml = codes "toml"
fault_text fault.Shape = codes "shape"
fault_text fault.UnknownName = codes "unknown-name"
fault_text fault.Duplicate = codes "duplicate"
fault_text fault.RuleType = codes "rule-type"
fault_text fault.RuleNotTotal = codes "rule-not-total"
fault_text fault.Role = codes "role"

-- the line that reports a fault of a file or of the role, without a line feed
unfoldable pub fault_line : List ℕ → FileFault → List ℕ
fault_line file found = codes "lq: " ++ (file ++ (codes ": " ++ fault_text found))

-- ---- files

-- a file of those named, and what it gave where it was read: its first bytes, or None where it can't be read
pub record Visit : Type 0 where
  pub file : List ℕ
  pub gave : Option (List ℕ)

-- the most bytes that are read of a file: one more than a table's file may have
abbrev pub read_limit : ℕ
read_limit = table_limit + 1

-- what a read with this limit gave of a file that is known: its first bytes, or nothing where it can't be read
abbrev pub AreFirstBytes : (List ℕ → Option (Option (List ℕ))) → ℕ → List ℕ → Option (List ℕ) → Type 0
AreFirstBytes holds limit file gave = IfSome (holds file) (λ there. gave ≡ first_bytes limit there)

abbrev pub Agrees : (List ℕ → Option (Option (List ℕ))) → Visit → Type 0
Agrees holds visit = AreFirstBytes holds read_limit visit.file visit.gave

abbrev pub AllAgree : (List ℕ → Option (Option (List ℕ))) → List Visit → Type 0
AllAgree holds [] = ⊤
AllAgree holds (visit ∷ rest) = Agrees holds visit × AllAgree holds rest

-- the read of a file: none where its table has no name
abbrev pub readings_of_one : Visit → List FileRead
readings_of_one visit =
    if is_name (table_name visit.file) then record { file = visit.file; limit = read_limit; gave = visit.gave } ∷ [] else []

-- the reads of some files, in order
abbrev pub readings_of : List Visit → List FileRead
readings_of [] = []
readings_of (visit ∷ rest) = readings_of_one visit ++ readings_of rest

abbrev pub table_or_fault : Result Table LoadError → Result Table FileFault
table_or_fault (Ok table) = Ok table
table_or_fault (Err error) = Err (fault_of_load error)

-- the table of this name that means what was read of its file
abbrev pub table_read : List ℕ → Option (List ℕ) → Result Table FileFault
table_read name None = Err fault.Read
table_read name (Some bytes) = table_or_fault (table_of name bytes)

-- the table of a file that was visited
unfoldable pub table_in : Visit → Result Table FileFault
table_in visit = if is_name (table_name visit.file) then table_read (table_name visit.file) visit.gave else Err fault.Name

-- the tables with one more after them
abbrev pub unless_refused : List Table → Table → Option StoreError → Result (List Table) FileFault
unless_refused tables table None = Ok (tables ++ table ∷ [])
unless_refused tables table (Some refusal) = Err (fault_of_store refusal)

abbrev pub with_table : List Table → Result Table FileFault → Result (List Table) FileFault
with_table tables (Ok table) = unless_refused tables table (addition_refusal_of tables table)
with_table tables (Err found) = Err found

-- what follows the tables so far, or the line of the fault of the file at hand
abbrev pub next_or_line : (List Table → Result (List Table) (List ℕ)) → List ℕ → Result (List Table) FileFault → Result (List Table) (List ℕ)
next_or_line rest file (Ok tables) = rest tables
next_or_line rest file (Err found) = Err (fault_line file found)

-- tables with those of some files after them, or the line of the first fault
abbrev pub with_files : List Visit → List Table → Result (List Table) (List ℕ)
with_files [] tables = Ok tables
with_files (visit ∷ rest) tables = next_or_line (with_files rest) visit.file (with_table tables (table_in visit))

-- ---- what comes of the files

-- Every file was visited and fine, these were the reads, and these are the tables.
pub record Loaded (holds : List ℕ → Option (Option (List ℕ))) (before after : Option (List FileRead)) (files : List (List ℕ)) (tables : List Table) : Type 0 where
  pub visits : List Visit
  pub named : map (λ visit. visit.file) visits ≡ files
  pub agree : AllAgree holds visits
  pub read : Adds before after (readings_of visits)
  pub loaded : with_files visits [] ≡ Ok tables

-- Some first files were visited, these were the reads, and the line reports the first fault among them.
pub record Refused (holds : List ℕ → Option (Option (List ℕ))) (before after : Option (List FileRead)) (files : List (List ℕ)) (line : List ℕ) : Type 0 where
  pub visits : List Visit
  pub unseen : List (List ℕ)
  pub named : files ≡ map (λ visit. visit.file) visits ++ unseen
  pub agree : AllAgree holds visits
  pub read : Adds before after (readings_of visits)
  pub refused : with_files visits [] ≡ Err line

-- Some first files were visited, and no other was read: there was no memory to go on.
pub record Abandoned (holds : List ℕ → Option (Option (List ℕ))) (before after : Option (List FileRead)) (files : List (List ℕ)) : Type 0 where
  pub visits : List Visit
  pub unseen : List (List ℕ)
  pub named : files ≡ map (λ visit. visit.file) visits ++ unseen
  pub agree : AllAgree holds visits
  pub read : AddsFront before after (readings_of visits)

-- why there are no tables
abbrev pub RefusedBy : (List ℕ → Option (Option (List ℕ))) → Option (List FileRead) → Option (List FileRead) → List (List ℕ) → StartError → Type 0
RefusedBy holds before after files start.Memory = Abandoned holds before after files
RefusedBy holds before after files (start.Refused line) = Refused holds before after files line

-- an error that reports a file's fault, or the lack of memory
abbrev pub TellsOf : List ℕ → FileFault → StartError → Type 0
TellsOf file found start.Memory = ⊤
TellsOf file found (start.Refused line) = (found ≢ fault.Memory) × (line ≡ fault_line file found)

-- these reads were answered, or there was no memory, and the first of them were
pub record Answered {A : Type 0} (result : Result A FileFault) (before after : Option (List FileRead)) (more : List FileRead) : Type 0 where
  pub all : result ≢ Err fault.Memory → Adds before after more
  pub some : AddsFront before after more

-- a reading gave its bytes, or nothing to read, or there was no memory
abbrev pub GivesBytes : Option (List ℕ) → Result (Vec ℕ Global) FileFault → Type 0
GivesBytes gave (Ok bytes) = gave ≡ Some bytes.items
GivesBytes gave (Err found) = found ≢ fault.Memory → (found ≡ fault.Read) × (gave ≡ None)

-- a call gave what is meant, or there was no memory
abbrev pub GivesTable : Result Table FileFault → Result Table FileFault → Type 0
GivesTable meant (Ok table) = meant ≡ Ok table
GivesTable meant (Err found) = found ≢ fault.Memory → meant ≡ Err found

-- the same of a call that leaves its tables
abbrev pub LeavesTables : {A : Type 0} → Result (List Table) FileFault → Result A FileFault → List Table → Type 0
LeavesTables meant (Ok x) tables = meant ≡ Ok tables
LeavesTables meant (Err found) tables = found ≢ fault.Memory → meant ≡ Err found
