-- Pieces of a text: how far each goes, what is left after it, and which are tokens.
use Rattle.std.proofs.Common.{◌≡◌, ℕ, zero, suc, ◌+◌, ◌≤◌, Bool, true, false, List, [], ◌∷◌, length, take, drop, refl, ap, sym, ◌∙◌, arith, cond, not, ◌&&◌}
use Rattle.std.specs.Prelude.{Option, Some, None, option_and_then, option_map, is_some, sum_by, if◌then◌else◌, ◌==◌}
use Rattle.std.specs.Char.{len_utf8}
use Rattle.std.proofs.lemmas.List.Sums.{sum_by-cons, prefix_len-le-length}
use Rattle.std.proofs.lemmas.Option.{some_pair_parts}
use Rattle.lq_grammar.specs.TextLiterals.{Place, Step, closes, length_from, plain, step}
use Rattle.lq_grammar.specs.Tokens.{Piece, head_of, integer, is_blank, is_digit, one, piece, short_sign, sign, text, tokens_from, two, with_piece, word}
use Rattle.lq_grammar.specs.Words.{continues_name, starts_name}
use Rattle.lq_grammar.specs.declared.token.Kind.{Kind}
use Rattle.lq_grammar.specs.declared.token.Kind.TheVariants as k

-- ---- truth values

pub by_cases : {P : Type 0} (b : Bool) → (b ≡ true → P) → (b ≡ false → P) → P
by_cases true f g = f refl
by_cases false f g = g refl

pub both_left : (a b : Bool) → (a && b) ≡ true → a ≡ true
both_left true b e = refl
both_left false b e = e

pub both_right : (a b : Bool) → (a && b) ≡ true → b ≡ true
both_right true b e = e
both_right false b e = absurd (cc)

-- ---- how far a literal goes

suc_within : (o : Option ℕ) (limit n : ℕ) → ((m : ℕ) → o ≡ Some m → m ≤ limit) → option_map suc o ≡ Some n → n ≤ suc limit
suc_within None limit n within e = absurd (cc)
suc_within (Some m) limit n within e = let is : suc m ≡ n = cc in omega (arith, within m refl)

-- a literal ends within its text
pub length_within : (place : Place) (cs : List ℕ) (n : ℕ) → length_from place cs ≡ Some n → n ≤ length cs
length_within place [] n e = absurd (cc)
length_within place (c ∷ cs) n e = by (λ s m f. length_within s.0 cs m f) (closes place c) (step place c) e
  where
    by : ((s : Step) (m : ℕ) → length_from s.0 cs ≡ Some m → m ≤ length cs) → (b : Bool) (o : Option Step)
        → cond b (Some 1) (option_and_then (λ s. option_map suc (length_from s.0 cs)) o) ≡ Some n → n ≤ suc (length cs)
    by within true o f = let is : 1 ≡ n = cc in omega arith
    by within false None f = absurd (cc)
    by within false (Some s) f = suc_within (length_from s.0 cs) (length cs) n (within s) f

-- ---- how far a piece goes

abbrev pub IsWithin : ℕ → Option Piece → Type 0
IsWithin limit found = (p : Piece) → found ≡ Some p → p.1 ≤ limit

within_some : (limit : ℕ) (q : Piece) → q.1 ≤ limit → IsWithin limit (Some q)
within_some limit q le p e = let is : q.1 ≡ p.1 = (some_pair_parts q.0 p.0 q.1 p.1 e).1 in omega arith

within_none : (limit : ℕ) → IsWithin limit None
within_none limit p e = absurd (cc)

either : (limit : ℕ) (b : Bool) (x y : Option Piece) → IsWithin limit x → IsWithin limit y → IsWithin limit (if b then x else y)
either limit true x y f g = f
either limit false x y f g = g

-- a sign of one character fits in any text, and one of two where a second character is there
one_within : (limit : ℕ) (kind : Kind) → IsWithin limit (one kind)
one_within limit kind = within_some limit (Some kind, 0) (omega arith)

two_within : (cs : List ℕ) (code : ℕ) (kind : Kind) (other : Option Piece) → (0 == code) ≡ false → IsWithin (length cs) other
    → IsWithin (length cs) (if head_of cs == code then two kind else other)
two_within [] code kind other nonzero within = rw nonzero within
two_within (d ∷ cs) code kind other nonzero within = either _ (d == code) _ _ (within_some _ (Some kind, 1) (omega arith)) within

short_sign_within : (c limit : ℕ) → IsWithin limit (short_sign c)
short_sign_within c limit =
    either _ (c == 40) _ _ (one_within _ _)
    (either _ (c == 41) _ _ (one_within _ _)
    (either _ (c == 123) _ _ (one_within _ _)
    (either _ (c == 125) _ _ (one_within _ _)
    (either _ (c == 46) _ _ (one_within _ _)
    (either _ (c == 44) _ _ (one_within _ _)
    (either _ (c == 59) _ _ (one_within _ _)
    (either _ (c == 58) _ _ (one_within _ _)
    (either _ (c == 45) _ _ (one_within _ _)
    (either _ (c == 43) _ _ (one_within _ _)
    (either _ (c == 42) _ _ (one_within _ _)
    (either _ (c == 47) _ _ (one_within _ _)
    (either _ (c == 37) _ _ (one_within _ _) (within_none _)))))))))))))

sign_within : (c : ℕ) (cs : List ℕ) → IsWithin (length cs) (sign c (head_of cs))
sign_within c cs =
    either _ (c == 61) _ _ (two_within cs 62 k.Arrow _ refl (two_within cs 61 k.Equal _ refl (one_within _ _)))
    (either _ (c == 63) _ _ (two_within cs 63 k.Coalesce _ refl (one_within _ _))
    (either _ (c == 33) _ _ (two_within cs 61 k.NotEqual _ refl (one_within _ _))
    (either _ (c == 60) _ _ (two_within cs 61 k.LessOrEqual _ refl (one_within _ _))
    (either _ (c == 62) _ _ (two_within cs 61 k.GreaterOrEqual _ refl (one_within _ _))
    (either _ (c == 38) _ _ (two_within cs 38 k.And _ refl (within_none _))
    (either _ (c == 124) _ _ (two_within cs 124 k.Or _ refl (within_none _)) (short_sign_within c _)))))))

text_within : (cs : List ℕ) → IsWithin (length cs) (text cs)
text_within cs = by (length_from plain cs) (length_within plain cs)
  where
    by : (o : Option ℕ) → ((n : ℕ) → o ≡ Some n → n ≤ length cs) → IsWithin (length cs) (option_map (λ more. (Some k.Text, more)) o)
    by None within = within_none _
    by (Some more) within = within_some _ (Some k.Text, more) (within more refl)

pub piece_within : (c : ℕ) (cs : List ℕ) → IsWithin (length cs) (piece c cs)
unfolding piece
piece_within c cs =
    either _ (is_blank c) _ _ (within_some _ _ (omega arith))
    (either _ (c == 47 && (head_of cs == 47)) _ _ (within_some _ _ (prefix_len-le-length (λ d. not (d == 10)) cs))
    (either _ (starts_name c) _ _ (within_some _ _ (prefix_len-le-length continues_name cs))
    (either _ (is_digit c) _ _ (either _ _ _ _ (within_some _ _ (prefix_len-le-length is_digit cs)) (within_none _))
    (either _ (c == 34) _ _ (text_within cs) (sign_within c cs)))))

-- ---- what is left after a piece

-- the characters of a piece already read are skipped
pub passed : (n place : ℕ) (cs : List ℕ) → n ≤ length cs → tokens_from n place cs ≡ tokens_from 0 (place + sum_by len_utf8 (take n cs)) (drop n cs)
unfolding tokens_from
passed zero place cs within = let e : place + sum_by len_utf8 (take zero cs) ≡ place = omega arith in rw e refl
passed (suc n) place [] within = absurd (omega arith)
passed (suc n) place (c ∷ cs) within =
    let e : place + len_utf8 c + sum_by len_utf8 (take n cs) ≡ place + sum_by len_utf8 (c ∷ take n cs) = omega (arith, sum_by-cons len_utf8 c (take n cs)) in
    passed n (place + len_utf8 c) cs (omega arith) ∙ ap (λ at. tokens_from 0 at (drop n cs)) e

-- the tokens of a text, from the piece at its head
pub turn : (text : List ℕ) (c : ℕ) (cs : List ℕ) (place more : ℕ) (kind : Option Kind) → text ≡ c ∷ cs → piece c cs ≡ Some (kind, more)
    → tokens_from 0 place text ≡ with_piece kind place (place + sum_by len_utf8 (take (suc more) text)) (tokens_from 0 (place + sum_by len_utf8 (take (suc more) text)) (drop (suc more) text))
unfolding tokens_from
turn text c cs place more kind is found =
    let within : more ≤ length cs = piece_within c cs (kind, more) found in
    let e : place + len_utf8 c + sum_by len_utf8 (take more cs) ≡ place + sum_by len_utf8 (c ∷ take more cs) = omega (arith, sum_by-cons len_utf8 c (take more cs)) in
    rw (is, found) (ap (with_piece kind place (place + sum_by len_utf8 (c ∷ take more cs))) (passed more (place + len_utf8 c) cs within ∙ ap (λ at. tokens_from 0 at (drop more cs)) e))

-- ---- which pieces are tokens

-- a piece, if it is one, is a token
abbrev pub IsTokenPiece : Option Piece → Type 0
IsTokenPiece found = (p : Piece) → found ≡ Some p → is_some p.0 ≡ true

some_token : (kind : Kind) (more : ℕ) → IsTokenPiece (Some (Some kind, more))
some_token kind more p e = let is : p.0 ≡ Some kind = sym (some_pair_parts (Some kind) p.0 more p.1 e).0 in rw is refl

no_token : IsTokenPiece None
no_token p e = absurd (cc)

either_token : (b : Bool) (x y : Option Piece) → IsTokenPiece x → IsTokenPiece y → IsTokenPiece (if b then x else y)
either_token true x y left right = left
either_token false x y left right = right

word_is_token : (c : ℕ) (cs : List ℕ) → IsTokenPiece (word c cs)
word_is_token c cs = some_token _ _

integer_is_token : (c : ℕ) (cs : List ℕ) → IsTokenPiece (integer c cs)
integer_is_token c cs = either_token _ _ _ (some_token _ _) no_token

text_is_token : (cs : List ℕ) → IsTokenPiece (text cs)
text_is_token cs = by (length_from plain cs)
  where
    by : (o : Option ℕ) → IsTokenPiece (option_map (λ more. (Some k.Text, more)) o)
    by None = no_token
    by (Some more) = some_token k.Text more

short_sign_is_token : (c : ℕ) → IsTokenPiece (short_sign c)
short_sign_is_token c =
    either_token (c == 40) _ _ (some_token _ _)
    (either_token (c == 41) _ _ (some_token _ _)
    (either_token (c == 123) _ _ (some_token _ _)
    (either_token (c == 125) _ _ (some_token _ _)
    (either_token (c == 46) _ _ (some_token _ _)
    (either_token (c == 44) _ _ (some_token _ _)
    (either_token (c == 59) _ _ (some_token _ _)
    (either_token (c == 58) _ _ (some_token _ _)
    (either_token (c == 45) _ _ (some_token _ _)
    (either_token (c == 43) _ _ (some_token _ _)
    (either_token (c == 42) _ _ (some_token _ _)
    (either_token (c == 47) _ _ (some_token _ _)
    (either_token (c == 37) _ _ (some_token _ _) no_token))))))))))))

sign_is_token : (c d : ℕ) → IsTokenPiece (sign c d)
sign_is_token c d =
    either_token (c == 61) _ _ (either_token (d == 62) _ _ (some_token _ _) (either_token (d == 61) _ _ (some_token _ _) (some_token _ _)))
    (either_token (c == 63) _ _ (either_token (d == 63) _ _ (some_token _ _) (some_token _ _))
    (either_token (c == 33) _ _ (either_token (d == 61) _ _ (some_token _ _) (some_token _ _))
    (either_token (c == 60) _ _ (either_token (d == 61) _ _ (some_token _ _) (some_token _ _))
    (either_token (c == 62) _ _ (either_token (d == 61) _ _ (some_token _ _) (some_token _ _))
    (either_token (c == 38) _ _ (either_token (d == 38) _ _ (some_token _ _) no_token)
    (either_token (c == 124) _ _ (either_token (d == 124) _ _ (some_token _ _) no_token) (short_sign_is_token c)))))))

-- a piece that is neither blank nor a comment
abbrev pub other_piece : ℕ → List ℕ → Option Piece
other_piece c cs = if starts_name c then word c cs else if is_digit c then integer c cs else if c == 34 then text cs else sign c (head_of cs)

pub other_is_token : (c : ℕ) (cs : List ℕ) → IsTokenPiece (other_piece c cs)
other_is_token c cs =
    either_token (starts_name c) _ _ (word_is_token c cs)
    (either_token (is_digit c) _ _ (integer_is_token c cs) (either_token (c == 34) _ _ (text_is_token cs) (sign_is_token c (head_of cs))))

pub piece_is_other : (c : ℕ) (cs : List ℕ) → is_blank c ≡ false → (c == 47) ≡ false → piece c cs ≡ other_piece c cs
unfolding piece
piece_is_other c cs blank slash = rw (blank, slash) refl
