-- The words of a line.
use Rattle.std.specs.Prelude.{◌∷◌, ◌==◌, if◌then◌else◌, List, [], ℕ, Bool, true, false, filter}

-- a byte before the first of some texts
abbrev pub onto_first : ℕ → List (List ℕ) → List (List ℕ)
onto_first c [] = (c ∷ []) ∷ []
onto_first c (piece ∷ pieces) = (c ∷ piece) ∷ pieces

-- what is before, between and after the spaces of a text
abbrev pub pieces_of : List ℕ → List (List ℕ)
pieces_of [] = [] ∷ []
pieces_of (c ∷ cs) = if c == 32 then [] ∷ pieces_of cs else onto_first c (pieces_of cs)

abbrev pub is_some_text : List ℕ → Bool
is_some_text [] = false
is_some_text (c ∷ cs) = true

-- the words of a text, which spaces part
unfoldable pub words_of : List ℕ → List (List ℕ)
words_of text = filter is_some_text (pieces_of text)
