-- Byte order marks at the head of some bytes.
use Rattle.std.proofs.Common.{◌≡◌, ◌≤◌, ◌↔◌, ◌++◌, ◌&&◌, ℕ, suc, Bool, true, false, List, [], ◌∷◌, length, refl, sym, subst, arith, if◌then◌else◌, nat_eq, drop, take}
use Rattle.std.specs.Char.{encode_utf8}
use Rattle.std.specs.Cmp.Lexicographic.{pointwise}
use Rattle.std.specs.Str.{IsUtf8}
use Rattle.std.proofs.lemmas.Bool.{and_parts, eqb-true}
use Rattle.std.proofs.lemmas.Str.{IsUtf8-append, IsUtf8-encode, IsUtf8-past_char}
use Rattle.lq_grammar.specs.Script.{without_marks}

-- the bytes of a byte order mark
abbrev mark : List ℕ
mark = 239 ∷ 187 ∷ 191 ∷ []

all_three : (p q r : Bool) → (p && (q && (r && true))) ≡ true → (p && q && r) ≡ true
all_three true true true e = refl
all_three false q r e = cc
all_three true false r e = cc
all_three true true false e = cc

not_three : (p q r : Bool) → (p && (q && (r && true))) ≡ false → (p && q && r) ≡ false
not_three true true true e = cc
not_three false q r e = refl
not_three true false r e = refl
not_three true true false e = refl

not_one : (p : Bool) → (p && false) ≡ true → ⊥
not_one true e = cc
not_one false e = cc

not_two : (p q : Bool) → (p && (q && false)) ≡ true → ⊥
not_two true q e = not_one q e
not_two false q e = cc

-- a mark at the start is passed over
pub marked : (bytes : List ℕ) → pointwise nat_eq (take 3 bytes) mark ≡ true → (3 ≤ length bytes) × (without_marks (drop 3 bytes) ≡ without_marks bytes)
marked [] e = cc
marked (a ∷ []) e = absurd (not_one (nat_eq a 239) e)
marked (a ∷ b ∷ []) e = absurd (not_two (nat_eq a 239) (nat_eq b 187) e)
marked (a ∷ b ∷ c ∷ rest) e = (omega arith, rw (all_three (nat_eq a 239) (nat_eq b 187) (nat_eq c 191) e) refl)

-- and nothing else is
pub unmarked : (bytes : List ℕ) → pointwise nat_eq (take 3 bytes) mark ≡ false → bytes ≡ without_marks bytes
unmarked [] e = refl
unmarked (a ∷ []) e = refl
unmarked (a ∷ b ∷ []) e = refl
unmarked (a ∷ b ∷ c ∷ rest) e = rw (not_three (nat_eq a 239) (nat_eq b 187) (nat_eq c 191) e) refl

mark-encoded : encode_utf8 65279 ≡ mark
unfolding encode_utf8
mark-encoded = refl

mark-parts : (a b c : ℕ) (rest : List ℕ) → (nat_eq a 239 && nat_eq b 187 && nat_eq c 191) ≡ true → a ∷ b ∷ c ∷ rest ≡ encode_utf8 65279 ++ rest
mark-parts a b c rest e =
    let outer = and_parts (nat_eq a 239 && nat_eq b 187) (nat_eq c 191) e in
    let inner = and_parts (nat_eq a 239) (nat_eq b 187) outer.0 in
    rw (mark-encoded, eqb-true a 239 inner.0, eqb-true b 187 inner.1, eqb-true c 191 outer.1) refl

-- what comes after a mark is text where the whole is
pub marked_text : (bytes : List ℕ) → pointwise nat_eq (take 3 bytes) mark ≡ true → IsUtf8 (drop 3 bytes) ↔ IsUtf8 bytes
marked_text [] e = cc
marked_text (a ∷ []) e = absurd (not_one (nat_eq a 239) e)
marked_text (a ∷ b ∷ []) e = absurd (not_two (nat_eq a 239) (nat_eq b 187) e)
marked_text (a ∷ b ∷ c ∷ rest) e =
    let whole = mark-parts a b c rest (all_three (nat_eq a 239) (nat_eq b 187) (nat_eq c 191) e) in
    (λ text. subst IsUtf8 (sym whole) (IsUtf8-append (encode_utf8 65279) rest (IsUtf8-encode 65279 refl) text), λ text. IsUtf8-past_char (a ∷ b ∷ c ∷ rest) rest 65279 text whole)
