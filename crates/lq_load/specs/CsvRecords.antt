-- A reader of `csv` over bytes, as the list of the records that it has left.
use Rattle.std.specs.Prelude.{◌≡◌, ◌+◌, ◌<◌, ◌∷◌, if◌then◌else◌, List, [], ℕ, Bool, true, false, length, Option, Some, None}
use Rattle.std.specs.Borrow.{Bor}
use Rattle.csv.specs.Machine.{ends_at_end}
use Rattle.csv.specs.Reading.{Ready, default_config, records_from, source_of}
use Rattle.csv.specs.declared.parser.State.{State}
use Rattle.csv.specs.declared.reader.Reader.{Reader}
use Rattle.csv.specs.declared.reader.Trim.TheVariants as trim

-- a reader over bytes
abbrev pub BytesReader : Type 0
BytesReader = Reader (Bor (List ℕ))

-- the bytes that a reader has left, unless it has failed
abbrev pub bytes_left : BytesReader → Option (List ℕ)
bytes_left reader = source_of (λ source. Some source.now) reader

abbrev pub records_of_rest : State → Option (List ℕ) → List (List (List ℕ))
records_of_rest state None = []
records_of_rest state (Some bytes) = records_from default_config (length bytes + 1) state bytes

-- the records that a reader has left
unfoldable pub records_left : BytesReader → List (List (List ℕ))
records_left reader = records_of_rest reader.state (bytes_left reader)

-- a reader with the settings of table files that is between two records
pub record IsReading (reader : BytesReader) : Type 0 where
  pub trim : reader.trim ≡ trim.None
  pub ready : Ready reader
  pub config : reader.config ≡ default_config
  pub between : ends_at_end reader.state ≡ false
  pub known : (bytes : List ℕ) × (bytes_left reader ≡ Some bytes)

-- a read that found a record, with these fields, took it off those left, and else none was left
abbrev pub Reads : BytesReader → BytesReader → List (List ℕ) → Bool → Type 0
Reads old new fields found =
    (records_left old ≡ (if found then fields ∷ records_left new else [])) × (found ≡ true → IsReading new) × (found ≡ true → 0 < length fields)
