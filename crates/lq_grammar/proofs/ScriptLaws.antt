-- Lemmas on the lines of a script, on their sizes, and on its byte order marks.
use Rattle.std.proofs.Common.{◌≡◌, ◌≢◌, ◌<◌, ℕ, suc, List, [], ◌∷◌, ◌++◌, ◌&&◌, Bool, true, false, length, nat_le, ◌==◌, eqb, get_or, refl, inl, inr, arith}
use Rattle.std.proofs.lemmas.Bool.{ne_eqb, eqb-true, cases_Bool, and_parts}
use Rattle.std.specs.List.{list_all}
use Rattle.lq_grammar.specs.Script.{without_marks, lines_of}

-- none of these bytes is a line feed
abbrev pub LacksFeed : List ℕ → Type 0
LacksFeed bytes = (i : ℕ) → i < length bytes → get_or bytes i 0 ≢ 10

LacksFeed-head : (b : ℕ) (bytes : List ℕ) → LacksFeed (b ∷ bytes) → eqb b 10 ≡ false
LacksFeed-head b bytes lacks = ne_eqb b 10 (lacks 0 (omega arith))

LacksFeed-tail : (b : ℕ) (bytes : List ℕ) → LacksFeed (b ∷ bytes) → LacksFeed bytes
LacksFeed-tail b bytes lacks i below = lacks (suc i) (omega (arith, below))

-- a line that a line feed ends
pub lines_of-split : (line rest : List ℕ) → LacksFeed line → lines_of (line ++ 10 ∷ rest) ≡ line ∷ lines_of rest
lines_of-split [] rest lacks = refl
lines_of-split (b ∷ line) rest lacks = rw (LacksFeed-head b line lacks, lines_of-split line rest (LacksFeed-tail b line lacks)) refl

-- a last line that no line feed ends
pub lines_of-last : (line : List ℕ) → 0 < length line → LacksFeed line → lines_of line ≡ line ∷ []
lines_of-last [] some lacks = let never : ⊥ = omega (arith, some) in absurd never
lines_of-last (b ∷ []) some lacks = rw (LacksFeed-head b [] lacks) refl
lines_of-last (b ∷ c ∷ line) some lacks =
    rw (LacksFeed-head b (c ∷ line) lacks, lines_of-last (c ∷ line) (omega arith) (LacksFeed-tail b (c ∷ line) lacks)) refl

-- bytes that have no line are empty
pub lines_of-none : (bytes : List ℕ) → length bytes ≡ 0 → lines_of bytes ≡ []
lines_of-none [] none = refl
lines_of-none (b ∷ bytes) none = let never : ⊥ = omega (arith, none) in absurd never

-- the first line has at most `room` bytes, and no other more than `limit`
abbrev pub are_within : ℕ → ℕ → List (List ℕ) → Bool
are_within room limit [] = true
are_within room limit (line ∷ lines) = nat_le (length line) room && list_all (λ l. nat_le (length l) limit) lines

abbrev pub fits_from : ℕ → ℕ → List ℕ → Bool
fits_from room limit bytes = are_within room limit (lines_of bytes)

is_mark-parts : (a b c : ℕ) → (a == 0xEF && b == 0xBB && c == 0xBF) ≡ true → (a ≡ 0xEF) × (b ≡ 0xBB) × (c ≡ 0xBF)
is_mark-parts a b c e =
    let outer = and_parts (a == 0xEF && b == 0xBB) (c == 0xBF) e in
    let inner = and_parts (a == 0xEF) (b == 0xBB) outer.0 in
    (eqb-true a 0xEF inner.0, eqb-true b 0xBB inner.1, eqb-true c 0xBF outer.1)

-- what begins with no mark stays as it is
pub without_marks-none : (bytes : List ℕ) → ((rest : List ℕ) → bytes ≢ 0xEF ∷ 0xBB ∷ 0xBF ∷ rest) → without_marks bytes ≡ bytes
without_marks-none [] none = refl
without_marks-none (a ∷ []) none = refl
without_marks-none (a ∷ b ∷ []) none = refl
without_marks-none (a ∷ b ∷ c ∷ rest) none =
    elim (cases_Bool (a == 0xEF && b == 0xBB && c == 0xBF)) [
      | inl is ↦ let parts = is_mark-parts a b c is in
          absurd (none rest (rw (parts.0, parts.1, parts.2) refl))
      | inr is ↦ rw is refl
    ]
