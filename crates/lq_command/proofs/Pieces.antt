-- What stands before the first space of a text is its first piece.
use Rattle.std.proofs.Common.{◌≡◌, ◌≢◌, ◌<◌, ℕ, suc, List, [], ◌∷◌, ◌++◌, false, length, eqb, get_or, filter, ap, refl, arith}
use Rattle.std.proofs.lemmas.Bool.{ne_eqb}
use Rattle.lq_command.specs.Words.{is_some_text, pieces_of, words_of}

-- none of these bytes is a space
abbrev pub LacksSpace : List ℕ → Type 0
LacksSpace bytes = (i : ℕ) → i < length bytes → get_or bytes i 0 ≢ 32

LacksSpace-head : (b : ℕ) (bytes : List ℕ) → LacksSpace (b ∷ bytes) → eqb b 32 ≡ false
LacksSpace-head b bytes lacks = ne_eqb b 32 (lacks 0 (omega arith))

LacksSpace-tail : (b : ℕ) (bytes : List ℕ) → LacksSpace (b ∷ bytes) → LacksSpace bytes
LacksSpace-tail b bytes lacks i below = lacks (suc i) (omega (arith, below))

pieces-split : (word rest : List ℕ) → LacksSpace word → pieces_of (word ++ 32 ∷ rest) ≡ word ∷ pieces_of rest
pieces-split [] rest lacks = refl
pieces-split (b ∷ word) rest lacks = rw (LacksSpace-head b word lacks, pieces-split word rest (LacksSpace-tail b word lacks)) refl

pieces-last : (word : List ℕ) → LacksSpace word → pieces_of word ≡ word ∷ []
pieces-last [] lacks = refl
pieces-last (b ∷ word) lacks = rw (LacksSpace-head b word lacks, pieces-last word (LacksSpace-tail b word lacks)) refl

-- the words of a text are its first piece, unless it is empty, and those after the space
pub words-split : (word rest : List ℕ) → LacksSpace word → words_of (word ++ 32 ∷ rest) ≡ filter is_some_text (word ∷ []) ++ words_of rest
unfolding words_of
words-split [] rest lacks = refl
words-split (b ∷ word) rest lacks = ap (filter is_some_text) (pieces-split (b ∷ word) rest lacks)

pub words-last : (word : List ℕ) → LacksSpace word → words_of word ≡ filter is_some_text (word ∷ [])
unfolding words_of
words-last word lacks = ap (filter is_some_text) (pieces-last word lacks)
