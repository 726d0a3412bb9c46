-- «Output»'s view of a script: its byte order marks, its lines and their sizes.
use Rattle.std.specs.Prelude.{◌≡◌, ◌∷◌, ◌==◌, ◌&&◌, ◌≤◌, if◌then◌else◌, List, [], ℕ, Bool, true, length, nat_le}
use Rattle.std.specs.List.{list_all}

-- a script without the byte order marks at its head, each of which is U+FEFF in UTF-8
abbrev pub without_marks : List ℕ → List ℕ
without_marks (a ∷ b ∷ c ∷ rest) = if a == 0xEF && b == 0xBB && c == 0xBF then without_marks rest else a ∷ b ∷ c ∷ rest
without_marks bytes = bytes

-- a byte put before the first line
abbrev pub onto_first : ℕ → List (List ℕ) → List (List ℕ)
onto_first b [] = (b ∷ []) ∷ []
onto_first b (line ∷ lines) = (b ∷ line) ∷ lines

-- the lines of a script: each is ended by a line feed, but for a last one that isn't empty
abbrev pub lines_of : List ℕ → List (List ℕ)
lines_of [] = []
lines_of (b ∷ bytes) = if b == 10 then [] ∷ lines_of bytes else onto_first b (lines_of bytes)

-- the most bytes of a script, and of a line without its line feed
abbrev pub script_limit : ℕ
script_limit = 1048576

abbrev pub line_limit : ℕ
line_limit = 65536

-- no line of these bytes is longer than the limit
abbrev pub fits : ℕ → List ℕ → Bool
fits limit bytes = list_all (λ line. nat_le (length line) limit) (lines_of bytes)

-- A script is in size by its bytes as they are, the marks among them.
pub record IsInSize (bytes : List ℕ) : Type 0 where
  pub script : length bytes ≤ script_limit
  pub lines : fits line_limit bytes ≡ true

-- the lines that are stepped
abbrev pub stepped_lines : List ℕ → List (List ℕ)
stepped_lines script = lines_of (without_marks script)
