-- What a line takes of a reader's bytes.
use Rattle.std.specs.Prelude.{◌≡◌, ◌∷◌, ◌++◌, ◌==◌, ◌<◌, not, List, [], ℕ, Bool, true, false, Option, Some, None, IfSome, length}
use Rattle.std.specs.List.{list_all}
use Rattle.std.specs.Io.KnownBytes.{Consumes, IsAtEnd, Keeps}
use Rattle.lq_command.specs.Inputs.{IsInput}
use Rattle.lq_command.specs.declared.input.Input.{Input}
use Rattle.lq_command.specs.declared.input.Input.TheVariants as input
use Rattle.lq_command.specs.declared.line_reader.LineReader.{LineReader}

-- the reader inside
abbrev pub reader_of : {R : Type 0} → LineReader R → R
reader_of lines = lines.reader

-- whether the end was met, after which it isn't read again
abbrev pub is_ended : {R : Type 0} → LineReader R → Bool
is_ended lines = lines.is_ended

-- the mark, which says whether a line was refused
abbrev pub is_marked : {R : Type 0} → LineReader R → Bool
is_marked lines = lines.is_marked

-- how many inputs were given, the end among them
abbrev pub input_count : {R : Type 0} → LineReader R → ℕ
input_count lines = lines.input_count

-- The next byte was taken; or there is none: the end had been met before, or is met now.
abbrev pub GivesByte : Option (List ℕ) → Option (List ℕ) → Bool → Bool → Option ℕ → Type 0
GivesByte before after was_ended ended (Some byte) = (was_ended ≡ false) × (ended ≡ false) × Consumes before after (byte ∷ [])
GivesByte before after was_ended ended None = (ended ≡ true) × Keeps before after × (was_ended ≡ false → IsAtEnd before)

-- what comes after a line: a line feed, or nothing at the end
abbrev pub ending : Bool → List ℕ
ending true = []
ending false = 10 ∷ []

-- One line was taken, with the line feed after it or at the end, and is given as this.
pub record TakesLine (before after : Option (List ℕ)) (ended : Bool) (given : Input) : Type 0 where
  pub line : List ℕ
  pub unbroken : list_all (λ c. not (c == 10)) line ≡ true
  pub taken : Consumes before after (line ++ ending ended)
  pub last : ended ≡ true → IfSome before (λ all. line ≡ all) × (0 < length line)
  pub is_input : IsInput line given

-- There is no further line, and none was taken: the end had been met before, or was met now, where nothing was left.
pub record TakesNone (before after : Option (List ℕ)) (was_ended ended : Bool) : Type 0 where
  pub ends : ended ≡ true
  pub keeps : Keeps before after
  pub none_left : was_ended ≡ false → IsAtEnd before

-- what reading a line gives of the bytes that are left
abbrev pub Takes : Option (List ℕ) → Option (List ℕ) → Bool → Bool → Input → Type 0
Takes before after was_ended ended input.End = TakesNone before after was_ended ended
Takes before after was_ended ended given = (was_ended ≡ false) × TakesLine before after ended given
