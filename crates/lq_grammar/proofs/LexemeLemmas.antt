-- The token that is taken at the head of a text is the longest lexeme there.
use Rattle.std.proofs.Common.{◌≡◌, ℕ, zero, suc, ◌+◌, ◌-◌, ◌≤◌, ◌<◌, Bool, true, false, List, [], ◌∷◌, ◌++◌, length, take, drop, refl, ap, sym, subst, ◌∙◌, arith, not, ◌&&◌, if◌then◌else◌, length-append, slice_index_or}
use Rattle.std.specs.Prelude.{codes, Option, Some, None, option_map, ◌==◌, nat_le}
use Rattle.std.specs.List.{Contains, list_all, prefix_len}
use Rattle.std.specs.Str.{bytes_eq}
use Rattle.std.proofs.lemmas.List.Sums.{AllPass-from_list_all}
use Rattle.std.proofs.lemmas.Slice.Eq.{bytes_eq-Decides}
use Rattle.std.proofs.lemmas.Bool.{and_parts, eqb-true}
use Rattle.std.proofs.lemmas.Bool.Decides.{nat_tests}
use Rattle.std.proofs.lemmas.List.{append_assoc, length-take-le, take-append-drop}
use Rattle.unicode_ident.proofs.Computing.{unicode_ident}
use Rattle.std.proofs.lemmas.Option.{none-some, same_Some, some_pair_parts}
use Rattle.lq_grammar.specs.Lexemes.{EndsInteger, FaultsWithoutLexeme, IsLexeme, IsSign, IsToken, OpensComment, TakesLongest}
use Rattle.lq_grammar.specs.Lexemes as law
use Rattle.lq_grammar.specs.LexingLaws.{HasLiteral, IsLiteral}
use Rattle.lq_grammar.specs.TextLiterals.{length_from, plain}
use Rattle.lq_grammar.specs.Tokens.{Piece, comment, decimal_value, head_of, integer, is_blank, is_digit, one, piece, short_sign, sign, text, two, word}
use Rattle.lq_grammar.specs.Words.{continues_name, kind_among, kind_of_word, reserved_words, starts_name}
use Rattle.lq_grammar.specs.declared.token.Kind.{Kind}
use Rattle.lq_grammar.specs.declared.token.Kind.TheVariants as k
use Rattle.lq_grammar.proofs.LiteralLemmas.{finds_literals}
use Rattle.lq_grammar.proofs.PieceLaws.{both_left, both_right, by_cases, other_is_token, other_piece, piece_within}

-- ---- characters

-- a digit can't start a name, but may continue one
ten : (d : ℕ) → d < 10 → (starts_name (48 + d) ≡ false) × (continues_name (48 + d) ≡ true)
unfolding starts_name continues_name unicode_ident
ten zero h = (refl, refl)
ten (suc zero) h = (refl, refl)
ten (suc (suc zero)) h = (refl, refl)
ten (suc (suc (suc zero))) h = (refl, refl)
ten (suc (suc (suc (suc zero)))) h = (refl, refl)
ten (suc (suc (suc (suc (suc zero))))) h = (refl, refl)
ten (suc (suc (suc (suc (suc (suc zero)))))) h = (refl, refl)
ten (suc (suc (suc (suc (suc (suc (suc zero))))))) h = (refl, refl)
ten (suc (suc (suc (suc (suc (suc (suc (suc zero)))))))) h = (refl, refl)
ten (suc (suc (suc (suc (suc (suc (suc (suc (suc zero))))))))) h = (refl, refl)
ten (suc (suc (suc (suc (suc (suc (suc (suc (suc (suc d)))))))))) h = absurd (omega arith)

of_digit : (c : ℕ) → is_digit c ≡ true → (starts_name c ≡ false) × (continues_name c ≡ true)
of_digit c h =
    let parts = and_parts (nat_le 48 c) (nat_le c 57) h in
    let least : 48 ≤ c = grind (arith, nat_tests) in
    let most : c ≤ 57 = grind (arith, nat_tests) in
    let is : 48 + (c - 48) ≡ c = omega arith in
    subst (λ (x : ℕ). (starts_name x ≡ false) × (continues_name x ≡ true)) is (ten (c - 48) (omega arith))

no_blank_starts : (starts_name 32 ≡ false) × (starts_name 9 ≡ false) × (starts_name 13 ≡ false) × (starts_name 10 ≡ false)
unfolding starts_name unicode_ident
no_blank_starts = (refl, refl, refl, refl)

no_end_continues : continues_name 0 ≡ false
unfolding continues_name unicode_ident
no_end_continues = refl

no_quote_starts : starts_name 34 ≡ false
unfolding starts_name unicode_ident
no_quote_starts = refl

starts_left_parenthesis : starts_name 40 ≡ false
unfolding starts_name unicode_ident
starts_left_parenthesis = refl

starts_right_parenthesis : starts_name 41 ≡ false
unfolding starts_name unicode_ident
starts_right_parenthesis = refl

starts_left_brace : starts_name 123 ≡ false
unfolding starts_name unicode_ident
starts_left_brace = refl

starts_right_brace : starts_name 125 ≡ false
unfolding starts_name unicode_ident
starts_right_brace = refl

starts_dot : starts_name 46 ≡ false
unfolding starts_name unicode_ident
starts_dot = refl

starts_comma : starts_name 44 ≡ false
unfolding starts_name unicode_ident
starts_comma = refl

starts_semicolon : starts_name 59 ≡ false
unfolding starts_name unicode_ident
starts_semicolon = refl

starts_colon : starts_name 58 ≡ false
unfolding starts_name unicode_ident
starts_colon = refl

starts_minus : starts_name 45 ≡ false
unfolding starts_name unicode_ident
starts_minus = refl

starts_plus : starts_name 43 ≡ false
unfolding starts_name unicode_ident
starts_plus = refl

starts_star : starts_name 42 ≡ false
unfolding starts_name unicode_ident
starts_star = refl

starts_slash : starts_name 47 ≡ false
unfolding starts_name unicode_ident
starts_slash = refl

starts_percent : starts_name 37 ≡ false
unfolding starts_name unicode_ident
starts_percent = refl

starts_assign : starts_name 61 ≡ false
unfolding starts_name unicode_ident
starts_assign = refl

starts_question : starts_name 63 ≡ false
unfolding starts_name unicode_ident
starts_question = refl

starts_not : starts_name 33 ≡ false
unfolding starts_name unicode_ident
starts_not = refl

starts_less : starts_name 60 ≡ false
unfolding starts_name unicode_ident
starts_less = refl

starts_greater : starts_name 62 ≡ false
unfolding starts_name unicode_ident
starts_greater = refl

starts_ampersand : starts_name 38 ≡ false
unfolding starts_name unicode_ident
starts_ampersand = refl

starts_bar : starts_name 124 ≡ false
unfolding starts_name unicode_ident
starts_bar = refl

-- ---- how far characters go

-- such characters before others are among those that are passed
goes_over : (p : ℕ → Bool) (xs ys : List ℕ) → list_all p xs ≡ true → length xs ≤ prefix_len p (xs ++ ys)
goes_over p [] ys h = omega arith
goes_over p (x ∷ xs) ys h =
    let parts = and_parts (p x) (list_all p xs) h in
    let rest = goes_over p xs ys parts.1 in
    rw parts.0 (omega (arith, rest))

abbrev pub Stops : (ℕ → Bool) → List ℕ → Type 0
Stops p [] = Unit {0}
Stops p (y ∷ ys) = p y ≡ false

pub goes_as_far : (p : ℕ → Bool) (xs ys : List ℕ) → list_all p xs ≡ true → Stops p ys → prefix_len p (xs ++ ys) ≡ length xs
goes_as_far p [] [] h stop = refl
goes_as_far p [] (y ∷ ys) h stop = rw stop refl
goes_as_far p (x ∷ xs) ys h stop =
    let parts = and_parts (p x) (list_all p xs) h in
    let rest = goes_as_far p xs ys parts.1 stop in
    rw parts.0 (omega (arith, rest))

all_passed : (p : ℕ → Bool) (xs : List ℕ) → list_all p (take (prefix_len p xs) xs) ≡ true
all_passed p [] = refl
all_passed p (x ∷ xs) =
    by_cases (p x)
    (λ h.
    let next : 1 + prefix_len p xs ≡ suc (prefix_len p xs) = omega arith in
    rw (h, next) (rw h (all_passed p xs)))
    (λ h. rw h refl)

pub take_over : (xs ys : List ℕ) → take (length xs) (xs ++ ys) ≡ xs
take_over [] ys = refl
take_over (x ∷ xs) ys = ap (λ rest. x ∷ rest) (take_over xs ys)

pub drop_over : (xs ys : List ℕ) → drop (length xs) (xs ++ ys) ≡ ys
drop_over [] ys = refl
drop_over (x ∷ xs) ys = drop_over xs ys

-- ---- words

-- whether characters could be a name's
abbrev is_word : List ℕ → Bool
is_word [] = false
is_word (c ∷ cs) = starts_name c && list_all continues_name cs

all_words : list_all (λ w. is_word w.0) reserved_words ≡ true
unfolding starts_name continues_name unicode_ident
all_words = refl

among : (p : List ℕ × Kind → Bool) (words : List (List ℕ × Kind)) (w : List ℕ × Kind) → list_all p words ≡ true → Contains words w → p w ≡ true
among p words w all there = subst (λ (x : List ℕ × Kind). p x ≡ true) there.2 (AllPass-from_list_all p words all there.0 w there.1)

contains_more : (x : List ℕ × Kind) (xs : List (List ℕ × Kind)) (y : List ℕ × Kind) → Contains xs y → Contains (x ∷ xs) y
contains_more x xs y h = (suc h.0, omega (arith, h.1), h.2)

contains_one : {P : Type 0} (x : List ℕ × Kind) (xs : List (List ℕ × Kind)) (y : List ℕ × Kind) → Contains (x ∷ xs) y → (x ≡ y → P) → (Contains xs y → P) → P
contains_one {P} x xs y h f g = by h.0 h.1 h.2 where
  by : (n : ℕ) → n < length (x ∷ xs) → slice_index_or (x ∷ xs) n y ≡ y → P
  by zero within is = f is
  by (suc n) within is = g (n, omega (arith, within), is)

-- a reserved word, or else a name
data Tells (words : List (List ℕ × Kind)) (w : List ℕ) : Kind → Type 0 where
  of_list : (kind : Kind) → Contains words (w, kind) → Tells words w kind
  of_none : ((kind : Kind) → Contains words (w, kind) → ⊥) → Tells words w k.Name

tells : (words : List (List ℕ × Kind)) (w : List ℕ) → Tells words w (kind_among words w)
tells [] w = of_none (λ kind h. absurd (omega (arith, h.1)))
tells (x ∷ words) w = by (tells words w) (bytes_eq w x.0) refl where
  others : (bytes_eq w x.0 ≡ false) → {kind : Kind} → Tells words w kind → Tells (x ∷ words) w kind
  others e (of_list kind h) = of_list kind (contains_more x words (w, kind) h)
  others e (of_none none) =
      of_none (λ kind h. contains_one x words (w, kind) h
      (λ is. let never : true ≡ false = sym ((bytes_eq-Decides w x.0).1 (λ i. (sym is i).0)) ∙ e in absurd (cc)) (none kind))

  by : Tells words w (kind_among words w) → (b : Bool) → bytes_eq w x.0 ≡ b → Tells (x ∷ words) w (if b then x.1 else kind_among words w)
  by rest true e =
      of_list x.1 (subst (λ (v : List ℕ). Contains (x ∷ words) (v, x.1)) (sym ((bytes_eq-Decides w x.0).0 e)) (0, omega arith, refl))
  by rest false e = others e rest

word_lexeme : (c : ℕ) (cs behind : List ℕ) {kind : Kind} → starts_name c ≡ true → list_all continues_name cs ≡ true → Tells reserved_words (c ∷ cs) kind
    → IsLexeme kind (c ∷ cs) behind
word_lexeme c cs behind starts continues (of_list kind h) = law.reserved h
word_lexeme c cs behind starts continues (of_none none) = law.name starts continues none

-- ---- every lexeme is reached

-- a token is found that goes at least as far
record Reaches (found : Option Piece) (many : ℕ) : Type 0 where
  kind : Kind
  more : ℕ
  is : found ≡ Some (Some kind, more)
  far : many ≤ suc more

pub is_other : (c : ℕ) (cs : List ℕ) → is_blank c ≡ false → (c == 47 && (head_of cs == 47)) ≡ false → piece c cs ≡ other_piece c cs
unfolding piece
is_other c cs blank slashes = rw (blank, slashes) refl

differs : (p : ℕ → Bool) (c d : ℕ) → p c ≡ true → p d ≡ false → (c == d) ≡ false
differs p c d passes fails =
    by_cases (c == d)
    (λ e. let never : true ≡ false = sym passes ∙ ap p (eqb-true c d e) ∙ fails in absurd (cc))
    (λ e. e)

starts_no_blank : (c : ℕ) → starts_name c ≡ true → is_blank c ≡ false
starts_no_blank c h =
    rw (
      differs starts_name c 32 h no_blank_starts.0,
      differs starts_name c 9 h no_blank_starts.1,
      differs starts_name c 13 h no_blank_starts.2,
      differs starts_name c 10 h no_blank_starts.3,
    ) refl

no_digits : (is_digit 32 ≡ false) × (is_digit 9 ≡ false) × (is_digit 13 ≡ false) × (is_digit 10 ≡ false)
no_digits = (refl, refl, refl, refl)

digit_no_blank : (c : ℕ) → is_digit c ≡ true → is_blank c ≡ false
digit_no_blank c h =
    rw (differs is_digit c 32 h no_digits.0, differs is_digit c 9 h no_digits.1, differs is_digit c 13 h no_digits.2, differs is_digit c 10 h no_digits.3) refl

word_reached : (c : ℕ) (cs behind : List ℕ) → starts_name c ≡ true → list_all continues_name cs ≡ true → (c == 47 && (head_of (cs ++ behind) == 47)) ≡ false
    → Reaches (piece c (cs ++ behind)) (suc (length cs))
word_reached c cs behind starts continues slashes =
    let far = goes_over continues_name cs behind continues in
    record {
      kind = kind_of_word (c ∷ take (prefix_len continues_name (cs ++ behind)) (cs ++ behind));
      more = prefix_len continues_name (cs ++ behind);
      is = is_other c (cs ++ behind) (starts_no_blank c starts) slashes ∙ (rw starts refl);
      far = omega (arith, far);
    }

no_digit_behind : (behind : List ℕ) → EndsInteger behind → Stops is_digit behind
no_digit_behind [] h = tt
no_digit_behind (d ∷ ds) h =
    by_cases (is_digit d)
    (λ digit. let never : true ≡ false = sym (of_digit d digit).1 ∙ h in absurd (cc))
    (λ other. other)

no_name_behind : (behind : List ℕ) → EndsInteger behind → continues_name (head_of behind) ≡ false
no_name_behind [] h = no_end_continues
no_name_behind (d ∷ ds) h = h

at_most : (n : ℕ) → n ≤ 2147483648 → nat_le n 2147483648 ≡ true
at_most n h = grind (arith, nat_tests)

integer_is : (c : ℕ) (cs behind : List ℕ) → list_all is_digit cs ≡ true → decimal_value (c ∷ cs) ≤ 2147483648 → EndsInteger behind
    → integer c (cs ++ behind) ≡ Some (Some k.Integer, length cs)
integer_is c cs behind digits small ends =
    rw (
      goes_as_far is_digit cs behind digits (no_digit_behind behind ends),
      take_over cs behind,
      drop_over cs behind,
      at_most (decimal_value (c ∷ cs)) small,
      no_name_behind behind ends,
    ) refl

integer_reached : (c : ℕ) (cs behind : List ℕ) → is_digit c ≡ true → list_all is_digit cs ≡ true → decimal_value (c ∷ cs) ≤ 2147483648 → EndsInteger behind
    → (c == 47 && (head_of (cs ++ behind) == 47)) ≡ false → Reaches (piece c (cs ++ behind)) (suc (length cs))
integer_reached c cs behind digit digits small ends slashes =
    record {
      kind = k.Integer;
      more = length cs;
      is = is_other c (cs ++ behind) (digit_no_blank c digit) slashes ∙ (rw ((of_digit c digit).0, digit) (integer_is c cs behind digits small ends));
      far = omega arith;
    }

text_reached : (body spelled behind : List ℕ) → IsLiteral body spelled → Reaches (piece 34 ((body ++ 34 ∷ []) ++ behind)) (suc (length (body ++ 34 ∷ [])))
text_reached body spelled behind h =
    let all : List ℕ = (body ++ 34 ∷ []) ++ behind in
    let found : length_from plain all ≡ Some (length body + 1)
    = (finds_literals all (length body + 1)).1 (record {
      body = body;
      text = spelled;
      behind = behind;
      split = append_assoc body (34 ∷ []) behind;
      counted = refl;
      spelled = h;
    }) in
    record {
      kind = k.Text;
      more = length body + 1;
      is = is_other 34 all refl refl ∙ (rw (no_quote_starts, found) refl);
      far = omega (arith, length-append body (34 ∷ []));
    }

-- whether two slashes are at the head of a text
abbrev slashes : List ℕ → Bool
slashes [] = false
slashes (c ∷ cs) = c == 47 && (head_of cs == 47)

abbrev Reach : List ℕ → ℕ → Type 0
Reach [] many = Unit {0}
Reach (c ∷ cs) many = Reaches (piece c cs) many

sign_reached : {kind : Kind} {cs : List ℕ} → IsSign kind cs → (behind : List ℕ) → slashes (cs ++ behind) ≡ false → Reach (cs ++ behind) (length cs)
sign_reached law.left_parenthesis behind s = record { kind = k.LeftParenthesis; more = 0; is = is_other 40 behind refl refl ∙ (rw starts_left_parenthesis refl); far = omega arith }
sign_reached law.right_parenthesis behind s = record { kind = k.RightParenthesis; more = 0; is = is_other 41 behind refl refl ∙ (rw starts_right_parenthesis refl); far = omega arith }
sign_reached law.left_brace behind s = record { kind = k.LeftBrace; more = 0; is = is_other 123 behind refl refl ∙ (rw starts_left_brace refl); far = omega arith }
sign_reached law.right_brace behind s = record { kind = k.RightBrace; more = 0; is = is_other 125 behind refl refl ∙ (rw starts_right_brace refl); far = omega arith }
sign_reached law.dot behind s = record { kind = k.Dot; more = 0; is = is_other 46 behind refl refl ∙ (rw starts_dot refl); far = omega arith }
sign_reached law.comma behind s = record { kind = k.Comma; more = 0; is = is_other 44 behind refl refl ∙ (rw starts_comma refl); far = omega arith }
sign_reached law.semicolon behind s = record { kind = k.Semicolon; more = 0; is = is_other 59 behind refl refl ∙ (rw starts_semicolon refl); far = omega arith }
sign_reached law.colon behind s = record { kind = k.Colon; more = 0; is = is_other 58 behind refl refl ∙ (rw starts_colon refl); far = omega arith }
sign_reached law.minus behind s = record { kind = k.Minus; more = 0; is = is_other 45 behind refl refl ∙ (rw starts_minus refl); far = omega arith }
sign_reached law.plus behind s = record { kind = k.Plus; more = 0; is = is_other 43 behind refl refl ∙ (rw starts_plus refl); far = omega arith }
sign_reached law.star behind s = record { kind = k.Star; more = 0; is = is_other 42 behind refl refl ∙ (rw starts_star refl); far = omega arith }
sign_reached law.slash behind s = record { kind = k.Slash; more = 0; is = is_other 47 behind refl s ∙ (rw starts_slash refl); far = omega arith }
sign_reached law.percent behind s = record { kind = k.Percent; more = 0; is = is_other 37 behind refl refl ∙ (rw starts_percent refl); far = omega arith }
sign_reached law.arrow behind s = record { kind = k.Arrow; more = 1; is = is_other 61 (62 ∷ behind) refl refl ∙ (rw starts_assign refl); far = omega arith }
sign_reached law.equal behind s = record { kind = k.Equal; more = 1; is = is_other 61 (61 ∷ behind) refl refl ∙ (rw starts_assign refl); far = omega arith }
sign_reached law.assign behind s =
    by_cases (head_of behind == 62)
    (λ e62. record { kind = k.Arrow; more = 1; is = is_other 61 behind refl refl ∙ (rw (starts_assign, e62) refl); far = omega arith })
    (λ e62. by_cases (head_of behind == 61)
    (λ e61. record { kind = k.Equal; more = 1; is = is_other 61 behind refl refl ∙ (rw (starts_assign, e62, e61) refl); far = omega arith })
    (λ e61. record { kind = k.Assign; more = 0; is = is_other 61 behind refl refl ∙ (rw (starts_assign, e62, e61) refl); far = omega arith }))
sign_reached law.coalesce behind s = record { kind = k.Coalesce; more = 1; is = is_other 63 (63 ∷ behind) refl refl ∙ (rw starts_question refl); far = omega arith }
sign_reached law.question behind s =
    by_cases (head_of behind == 63)
    (λ e63. record { kind = k.Coalesce; more = 1; is = is_other 63 behind refl refl ∙ (rw (starts_question, e63) refl); far = omega arith })
    (λ e63. record { kind = k.Question; more = 0; is = is_other 63 behind refl refl ∙ (rw (starts_question, e63) refl); far = omega arith })
sign_reached law.not_equal behind s = record { kind = k.NotEqual; more = 1; is = is_other 33 (61 ∷ behind) refl refl ∙ (rw starts_not refl); far = omega arith }
sign_reached law.not behind s =
    by_cases (head_of behind == 61)
    (λ e61. record { kind = k.NotEqual; more = 1; is = is_other 33 behind refl refl ∙ (rw (starts_not, e61) refl); far = omega arith })
    (λ e61. record { kind = k.Not; more = 0; is = is_other 33 behind refl refl ∙ (rw (starts_not, e61) refl); far = omega arith })
sign_reached law.less_or_equal behind s = record { kind = k.LessOrEqual; more = 1; is = is_other 60 (61 ∷ behind) refl refl ∙ (rw starts_less refl); far = omega arith }
sign_reached law.less behind s =
    by_cases (head_of behind == 61)
    (λ e61. record { kind = k.LessOrEqual; more = 1; is = is_other 60 behind refl refl ∙ (rw (starts_less, e61) refl); far = omega arith })
    (λ e61. record { kind = k.Less; more = 0; is = is_other 60 behind refl refl ∙ (rw (starts_less, e61) refl); far = omega arith })
sign_reached law.greater_or_equal behind s = record { kind = k.GreaterOrEqual; more = 1; is = is_other 62 (61 ∷ behind) refl refl ∙ (rw starts_greater refl); far = omega arith }
sign_reached law.greater behind s =
    by_cases (head_of behind == 61)
    (λ e61. record { kind = k.GreaterOrEqual; more = 1; is = is_other 62 behind refl refl ∙ (rw (starts_greater, e61) refl); far = omega arith })
    (λ e61. record { kind = k.Greater; more = 0; is = is_other 62 behind refl refl ∙ (rw (starts_greater, e61) refl); far = omega arith })
sign_reached law.and behind s = record { kind = k.And; more = 1; is = is_other 38 (38 ∷ behind) refl refl ∙ (rw starts_ampersand refl); far = omega arith }
sign_reached law.or behind s = record { kind = k.Or; more = 1; is = is_other 124 (124 ∷ behind) refl refl ∙ (rw starts_bar refl); far = omega arith }

reserved_reached : (cs behind : List ℕ) → is_word cs ≡ true → slashes (cs ++ behind) ≡ false → Reach (cs ++ behind) (length cs)
reserved_reached [] behind h s = absurd (cc)
reserved_reached (c ∷ cs) behind h s =
    let both = and_parts (starts_name c) (list_all continues_name cs) h in word_reached c cs behind both.0 both.1 s

reached : {kind : Kind} {lexeme behind : List ℕ} → IsLexeme kind lexeme behind → slashes (lexeme ++ behind) ≡ false → Reach (lexeme ++ behind) (length lexeme)
reached (law.reserved {kind = kind} {cs = cs} {behind = behind} h) s =
    reserved_reached cs behind (among (λ w. is_word w.0) reserved_words (cs, kind) all_words h) s
reached (law.name {c = c} {cs = cs} {behind = behind} starts continues none) s = word_reached c cs behind starts continues s
reached (law.integer {c = c} {cs = cs} {behind = behind} digit digits small ends) s = integer_reached c cs behind digit digits small ends s
reached (law.text {body = body} {spelled = spelled} {behind = behind} h) s = text_reached body spelled behind h
reached (law.sign {behind = behind} h) s = sign_reached h behind s

-- ---- every token is spelled

-- a token's kind, and how far it goes
parts : (kind other : Kind) (n more : ℕ) → ◌≡◌ {A = Option Piece} (Some (Some kind, n)) (Some (Some other, more)) → (kind ≡ other) × (n ≡ more)
parts kind other n more e = let both = some_pair_parts (Some kind) (Some other) n more e in (same_Some kind other both.0, both.1)

none_is_none : (kind : Kind) (n more : ℕ) → ◌≡◌ {A = Option Piece} (Some (None, n)) (Some (Some kind, more)) → ⊥
none_is_none kind n more e = none-some kind (some_pair_parts None (Some kind) n more e).0

abbrev Spelled : ℕ → List ℕ → Option Piece → Type 0
Spelled c cs found = (kind : Kind) (more : ℕ) → found ≡ Some (Some kind, more) → IsLexeme kind (c ∷ take more cs) (drop more cs)

choose : (c : ℕ) (cs : List ℕ) (b : Bool) (x y : Option Piece) → (b ≡ true → Spelled c cs x) → (b ≡ false → Spelled c cs y) → Spelled c cs (if b then x else y)
choose c cs true x y f g = f refl
choose c cs false x y f g = g refl

not_found : (c : ℕ) (cs : List ℕ) → Spelled c cs None
not_found c cs kind more e = absurd (cc)

no_token : (c : ℕ) (cs : List ℕ) (n : ℕ) → Spelled c cs (Some (None, n))
no_token c cs n kind more e = absurd (none_is_none kind n more e)

at_one : (c : ℕ) (cs : List ℕ) (a : ℕ) (kind : Kind) → IsSign kind (a ∷ []) → (c == a) ≡ true → Spelled c cs (one kind)
at_one c cs a kind h is other more e =
    let first : c ≡ a = eqb-true c a is in
    let both = parts kind other 0 more e in
    rw (first, ← both.0, ← both.1) (law.sign h)

at_two : (c : ℕ) (cs : List ℕ) (a b : ℕ) (kind : Kind) → IsSign kind (a ∷ b ∷ []) → (0 == b) ≡ false → (c == a) ≡ true → (head_of cs == b) ≡ true
    → Spelled c cs (two kind)
at_two c [] a b kind h never is next other more e = let no : false ≡ true = sym never ∙ next in absurd (cc no)
at_two c (d ∷ ds) a b kind h never is next other more e =
    let first : c ≡ a = eqb-true c a is in
    let second : d ≡ b = eqb-true d b next in
    let both = parts kind other 1 more e in
    rw (first, second, ← both.0, ← both.1) (law.sign h)

short_spelled : (c : ℕ) (cs : List ℕ) → Spelled c cs (short_sign c)
short_spelled c cs =
    choose c cs (c == 40) _ _ (at_one c cs 40 k.LeftParenthesis law.left_parenthesis) (λ e40.
    choose c cs (c == 41) _ _ (at_one c cs 41 k.RightParenthesis law.right_parenthesis) (λ e41.
    choose c cs (c == 123) _ _ (at_one c cs 123 k.LeftBrace law.left_brace) (λ e123.
    choose c cs (c == 125) _ _ (at_one c cs 125 k.RightBrace law.right_brace) (λ e125.
    choose c cs (c == 46) _ _ (at_one c cs 46 k.Dot law.dot) (λ e46.
    choose c cs (c == 44) _ _ (at_one c cs 44 k.Comma law.comma) (λ e44.
    choose c cs (c == 59) _ _ (at_one c cs 59 k.Semicolon law.semicolon) (λ e59.
    choose c cs (c == 58) _ _ (at_one c cs 58 k.Colon law.colon) (λ e58.
    choose c cs (c == 45) _ _ (at_one c cs 45 k.Minus law.minus) (λ e45.
    choose c cs (c == 43) _ _ (at_one c cs 43 k.Plus law.plus) (λ e43.
    choose c cs (c == 42) _ _ (at_one c cs 42 k.Star law.star) (λ e42.
    choose c cs (c == 47) _ _ (at_one c cs 47 k.Slash law.slash) (λ e47.
    choose c cs (c == 37) _ _ (at_one c cs 37 k.Percent law.percent) (λ e37.
    not_found c cs)))))))))))))

sign_spelled : (c : ℕ) (cs : List ℕ) → Spelled c cs (sign c (head_of cs))
sign_spelled c cs =
    choose c cs (c == 61) _ _ (λ is. choose c cs (head_of cs == 62) _ _ (at_two c cs 61 62 k.Arrow law.arrow refl is) (λ e62. choose c cs (head_of cs == 61) _ _ (at_two c cs 61 61 k.Equal law.equal refl is) (λ e61. at_one c cs 61 k.Assign law.assign is))) (λ other61.
    choose c cs (c == 63) _ _ (λ is. choose c cs (head_of cs == 63) _ _ (at_two c cs 63 63 k.Coalesce law.coalesce refl is) (λ e63. at_one c cs 63 k.Question law.question is)) (λ other63.
    choose c cs (c == 33) _ _ (λ is. choose c cs (head_of cs == 61) _ _ (at_two c cs 33 61 k.NotEqual law.not_equal refl is) (λ e61. at_one c cs 33 k.Not law.not is)) (λ other33.
    choose c cs (c == 60) _ _ (λ is. choose c cs (head_of cs == 61) _ _ (at_two c cs 60 61 k.LessOrEqual law.less_or_equal refl is) (λ e61. at_one c cs 60 k.Less law.less is)) (λ other60.
    choose c cs (c == 62) _ _ (λ is. choose c cs (head_of cs == 61) _ _ (at_two c cs 62 61 k.GreaterOrEqual law.greater_or_equal refl is) (λ e61. at_one c cs 62 k.Greater law.greater is)) (λ other62.
    choose c cs (c == 38) _ _ (λ is. choose c cs (head_of cs == 38) _ _ (at_two c cs 38 38 k.And law.and refl is) (λ e38. not_found c cs)) (λ other38.
    choose c cs (c == 124) _ _ (λ is. choose c cs (head_of cs == 124) _ _ (at_two c cs 124 124 k.Or law.or refl is) (λ e124. not_found c cs)) (λ other124.
    short_spelled c cs)))))))

word_spelled : (c : ℕ) (cs : List ℕ) → starts_name c ≡ true → Spelled c cs (word c cs)
word_spelled c cs starts kind more e =
    let n : ℕ = prefix_len continues_name cs in
    let both = parts (kind_of_word (c ∷ take n cs)) kind n more e in
    rw (← both.1) (subst (λ (w : Kind). IsLexeme w (c ∷ take n cs) (drop n cs)) both.0 (word_lexeme c (take n cs) (drop n cs) starts (all_passed continues_name cs) (tells reserved_words (c ∷ take n cs))))

ends_integer : (cs : List ℕ) → not (continues_name (head_of cs)) ≡ true → EndsInteger cs
ends_integer [] h = tt
ends_integer (c ∷ cs) h = by_cases (continues_name c) (λ e. let never : false ≡ true = rw e at h in absurd (cc)) (λ e. e)

is_at_most : (n : ℕ) → nat_le n 2147483648 ≡ true → n ≤ 2147483648
is_at_most n h = grind (arith, nat_tests)

integer_spelled : (c : ℕ) (cs : List ℕ) → is_digit c ≡ true → Spelled c cs (integer c cs)
integer_spelled c cs digit =
    let m : ℕ = prefix_len is_digit cs in
    let small : Bool = nat_le (decimal_value (c ∷ take m cs)) 2147483648 in
    let ends : Bool = not (continues_name (head_of (drop m cs))) in
    choose c cs (small && ends) (Some (Some k.Integer, m)) None
    (λ h kind more e.
    let both = parts k.Integer kind m more e in
    rw (← both.0, ← both.1) (law.integer digit (all_passed is_digit cs) (is_at_most (decimal_value (c ∷ take m cs)) (both_left small ends h))
    (ends_integer (drop m cs) (both_right small ends h))))
    (λ h. not_found c cs)

text_found : (cs : List ℕ) (n : ℕ) → HasLiteral cs n → IsLexeme k.Text (34 ∷ take n cs) (drop n cs)
text_found cs n h =
    let all : cs ≡ (h.body ++ 34 ∷ []) ++ h.behind = h.split ∙ sym (append_assoc h.body (34 ∷ []) h.behind) in
    let count : n ≡ length (h.body ++ 34 ∷ []) = omega (arith, h.counted, length-append h.body (34 ∷ [])) in
    let front : take n cs ≡ h.body ++ 34 ∷ [] = (λ i. take (count i) (all i)) ∙ take_over (h.body ++ 34 ∷ []) h.behind in
    rw front (law.text h.spelled)

text_spelled : (c : ℕ) (cs : List ℕ) → (c == 34) ≡ true → Spelled c cs (text cs)
text_spelled c cs quote = by (length_from plain cs) refl where
  by : (o : Option ℕ) → length_from plain cs ≡ o → Spelled c cs (option_map (λ more. (Some k.Text, more)) o)
  by None is kind more e = absurd (cc)
  by (Some n) is kind more e =
      let first : c ≡ 34 = eqb-true c 34 quote in
      let both = parts k.Text kind n more e in
      rw (first, ← both.0, ← both.1) (text_found cs n ((finds_literals cs n).0 is))

spelled : (c : ℕ) (cs : List ℕ) → Spelled c cs (piece c cs)
unfolding piece
spelled c cs =
    choose c cs (is_blank c) _ _ (λ e. no_token c cs 0)
    (λ e. choose c cs (c == 47 && (head_of cs == 47)) _ _ (λ s. no_token c cs (prefix_len (λ d. not (d == 10)) cs))
    (λ s. choose c cs (starts_name c) _ _ (word_spelled c cs)
    (λ n. choose c cs (is_digit c) _ _ (integer_spelled c cs) (λ d. choose c cs (c == 34) _ _ (text_spelled c cs) (λ q. sign_spelled c cs)))))

-- ---- the laws

comment_found : (c : ℕ) (cs rest : List ℕ) → c ∷ cs ≡ 47 ∷ 47 ∷ rest → piece c cs ≡ Some (comment cs)
unfolding piece
comment_found c cs rest e =
    let first : c ≡ 47 = cc in
    let others : cs ≡ 47 ∷ rest = cc in
    rw (first, others) refl

no_slashes : (c : ℕ) (cs : List ℕ) → (OpensComment (c ∷ cs) → ⊥) → slashes (c ∷ cs) ≡ false
no_slashes c [] h = by_cases (c == 47) (λ e. rw e refl) (λ e. rw e refl)
no_slashes c (d ∷ ds) h =
    by_cases (c == 47 && (d == 47))
    (λ e.
    let first : c ≡ 47 = eqb-true c 47 (both_left (c == 47) (d == 47) e) in
    let second : d ≡ 47 = eqb-true d 47 (both_right (c == 47) (d == 47) e) in
    absurd (h (ds, λ i. first i ∷ second i ∷ ds)))
    (λ e. e)

reached_at : (c : ℕ) (cs : List ℕ) (kind : Kind) (front rest : List ℕ) → (OpensComment (c ∷ cs) → ⊥) → c ∷ cs ≡ front ++ rest → IsLexeme kind front rest
    → Reaches (piece c cs) (length front)
reached_at c cs kind front rest none e h =
    subst (λ (all : List ℕ). Reach all (length front)) (sym e) (reached h (ap slashes (sym e) ∙ no_slashes c cs none))

pub is_longest : (kind : Kind) (c : ℕ) (more rest : List ℕ) → piece c (more ++ rest) ≡ Some (Some kind, length more) → IsToken kind (c ∷ more) rest
is_longest kind c more rest e =
    let none : OpensComment (c ∷ (more ++ rest)) → ⊥ = λ h. none_is_none kind _ (length more) (sym (comment_found c (more ++ rest) h.0 h.1) ∙ e) in
    record {
      spelled = rw (take_over more rest, drop_over more rest) at (spelled c (more ++ rest) kind (length more) e);
      no_comment = none;
      longest = λ other front behind is h.
          let there = reached_at c (more ++ rest) other front behind none is h in
          let both = parts there.kind kind there.more (length more) (sym there.is ∙ e) in
          omega (arith, there.far, both.1);
    }

blank_found : (c : ℕ) (cs : List ℕ) → is_blank c ≡ true → piece c cs ≡ Some (None, 0)
unfolding piece
blank_found c cs h = rw h refl

pub faults_without_lexeme : FaultsWithoutLexeme
faults_without_lexeme c cs = (to, from) where
  no_comment : piece c cs ≡ None → OpensComment (c ∷ cs) → ⊥
  no_comment e h = let never = sym (comment_found c cs h.0 h.1) ∙ e in absurd (cc)

  to : piece c cs ≡ None
      → (is_blank c ≡ false) × (OpensComment (c ∷ cs) → ⊥) × ((kind : Kind) (front rest : List ℕ) → c ∷ cs ≡ front ++ rest → IsLexeme kind front rest → ⊥)
  to e = (
    by_cases (is_blank c) (λ h. let never = sym (blank_found c cs h) ∙ e in absurd (cc)) (λ h. h),
    no_comment e,
    λ kind front rest is h. let there = reached_at c cs kind front rest (no_comment e) is h in let never = sym there.is ∙ e in absurd (cc),
  )

  from : (is_blank c ≡ false) × (OpensComment (c ∷ cs) → ⊥) × ((kind : Kind) (front rest : List ℕ) → c ∷ cs ≡ front ++ rest → IsLexeme kind front rest → ⊥)
      → piece c cs ≡ None
  from h = by (piece c cs) refl where
    by : (o : Option Piece) → piece c cs ≡ o → o ≡ None
    by None e = refl
    by (Some (None, n)) e =
        let never : false ≡ true = other_is_token c cs (None, n) (sym (is_other c cs h.0 (no_slashes c cs h.1)) ∙ e) in absurd (cc)
    by (Some (Some kind, n)) e =
        absurd (h.2 kind (c ∷ take n cs) (drop n cs) (ap (λ all. c ∷ all) (sym (take-append-drop n cs))) (spelled c cs kind n e))

-- ---- one token

-- the kind of a lexeme, by its characters
abbrev kind_in : Option Piece → Option Kind
kind_in None = None
kind_in (Some p) = p.0

abbrev kind_at : List ℕ → Option Kind
kind_at [] = None
kind_at (c ∷ cs) =
    if starts_name c then Some (kind_of_word (c ∷ cs)) else if is_digit c then Some k.Integer else if c == 34 then Some k.Text else kind_in (sign c (head_of cs))

by_word : (w cs : List ℕ) (q kind : Kind) → kind_of_word w ≡ q → ◌≡◌ {A = List ℕ × Kind} (w, q) (cs, kind) → kind_of_word cs ≡ kind
by_word w cs q kind is e = (λ i. kind_of_word ((sym e i).0)) ∙ is ∙ (λ i. (e i).1)

reserved_kind : (cs : List ℕ) (kind : Kind) (n : ℕ) → n < 26 → slice_index_or reserved_words n (cs, kind) ≡ (cs, kind) → kind_of_word cs ≡ kind
reserved_kind cs kind zero within e = by_word (codes "from") cs k.From kind refl e
reserved_kind cs kind (suc zero) within e = by_word (codes "where") cs k.Where kind refl e
reserved_kind cs kind (suc (suc zero)) within e = by_word (codes "select") cs k.Select kind refl e
reserved_kind cs kind (suc (suc (suc zero))) within e = by_word (codes "group") cs k.Group kind refl e
reserved_kind cs kind (suc (suc (suc (suc zero)))) within e = by_word (codes "into") cs k.Into kind refl e
reserved_kind cs kind (suc (suc (suc (suc (suc zero))))) within e = by_word (codes "orderby") cs k.OrderBy kind refl e
reserved_kind cs kind (suc (suc (suc (suc (suc (suc zero)))))) within e = by_word (codes "join") cs k.Join kind refl e
reserved_kind cs kind (suc (suc (suc (suc (suc (suc (suc zero))))))) within e = by_word (codes "let") cs k.Let kind refl e
reserved_kind cs kind (suc (suc (suc (suc (suc (suc (suc (suc zero)))))))) within e = by_word (codes "in") cs k.In kind refl e
reserved_kind cs kind (suc (suc (suc (suc (suc (suc (suc (suc (suc zero))))))))) within e = by_word (codes "on") cs k.On kind refl e
reserved_kind cs kind (suc (suc (suc (suc (suc (suc (suc (suc (suc (suc zero)))))))))) within e = by_word (codes "equals") cs k.Equals kind refl e
reserved_kind cs kind (suc (suc (suc (suc (suc (suc (suc (suc (suc (suc (suc zero))))))))))) within e = by_word (codes "by") cs k.By kind refl e
reserved_kind cs kind (suc (suc (suc (suc (suc (suc (suc (suc (suc (suc (suc (suc zero)))))))))))) within e = by_word (codes "ascending") cs k.Ascending kind refl e
reserved_kind cs kind (suc (suc (suc (suc (suc (suc (suc (suc (suc (suc (suc (suc (suc zero))))))))))))) within e = by_word (codes "descending") cs k.Descending kind refl e
reserved_kind cs kind (suc (suc (suc (suc (suc (suc (suc (suc (suc (suc (suc (suc (suc (suc zero)))))))))))))) within e = by_word (codes "var") cs k.Var kind refl e
reserved_kind cs kind (suc (suc (suc (suc (suc (suc (suc (suc (suc (suc (suc (suc (suc (suc (suc zero))))))))))))))) within e = by_word (codes "run") cs k.Run kind refl e
reserved_kind cs kind (suc (suc (suc (suc (suc (suc (suc (suc (suc (suc (suc (suc (suc (suc (suc (suc zero)))))))))))))))) within e = by_word (codes "as") cs k.As kind refl e
reserved_kind cs kind (suc (suc (suc (suc (suc (suc (suc (suc (suc (suc (suc (suc (suc (suc (suc (suc (suc zero))))))))))))))))) within e = by_word (codes "insert") cs k.Insert kind refl e
reserved_kind cs kind (suc (suc (suc (suc (suc (suc (suc (suc (suc (suc (suc (suc (suc (suc (suc (suc (suc (suc zero)))))))))))))))))) within e = by_word (codes "delete") cs k.Delete kind refl e
reserved_kind cs kind (suc (suc (suc (suc (suc (suc (suc (suc (suc (suc (suc (suc (suc (suc (suc (suc (suc (suc (suc zero))))))))))))))))))) within e = by_word (codes "update") cs k.Update kind refl e
reserved_kind cs kind (suc (suc (suc (suc (suc (suc (suc (suc (suc (suc (suc (suc (suc (suc (suc (suc (suc (suc (suc (suc zero)))))))))))))))))))) within e = by_word (codes "set") cs k.Set kind refl e
reserved_kind cs kind (suc (suc (suc (suc (suc (suc (suc (suc (suc (suc (suc (suc (suc (suc (suc (suc (suc (suc (suc (suc (suc zero))))))))))))))))))))) within e = by_word (codes "new") cs k.New kind refl e
reserved_kind cs kind (suc (suc (suc (suc (suc (suc (suc (suc (suc (suc (suc (suc (suc (suc (suc (suc (suc (suc (suc (suc (suc (suc zero)))))))))))))))))))))) within e = by_word (codes "true") cs k.True kind refl e
reserved_kind cs kind (suc (suc (suc (suc (suc (suc (suc (suc (suc (suc (suc (suc (suc (suc (suc (suc (suc (suc (suc (suc (suc (suc (suc zero))))))))))))))))))))))) within e = by_word (codes "false") cs k.False kind refl e
reserved_kind cs kind (suc (suc (suc (suc (suc (suc (suc (suc (suc (suc (suc (suc (suc (suc (suc (suc (suc (suc (suc (suc (suc (suc (suc (suc zero)))))))))))))))))))))))) within e = by_word (codes "null") cs k.Null kind refl e
reserved_kind cs kind (suc (suc (suc (suc (suc (suc (suc (suc (suc (suc (suc (suc (suc (suc (suc (suc (suc (suc (suc (suc (suc (suc (suc (suc (suc zero))))))))))))))))))))))))) within e = by_word (codes "Host") cs k.Host kind refl e
reserved_kind cs kind (suc (suc (suc (suc (suc (suc (suc (suc (suc (suc (suc (suc (suc (suc (suc (suc (suc (suc (suc (suc (suc (suc (suc (suc (suc (suc n)))))))))))))))))))))))))) within e = absurd (omega arith)

reserved_at : (cs : List ℕ) (kind : Kind) → is_word cs ≡ true → kind_of_word cs ≡ kind → kind_at cs ≡ Some kind
reserved_at [] kind h e = absurd (cc)
reserved_at (c ∷ cs) kind h e = rw (and_parts (starts_name c) (list_all continues_name cs) h).0 (ap Some e)

name_kind : (words : List (List ℕ × Kind)) (w : List ℕ) {kind : Kind} → Tells words w kind → ((other : Kind) → Contains words (w, other) → ⊥) → kind ≡ k.Name
name_kind words w (of_list kind h) none = absurd (none kind h)
name_kind words w (of_none h) none = refl

sign_at : {kind : Kind} {cs : List ℕ} → IsSign kind cs → kind_at cs ≡ Some kind
sign_at law.left_parenthesis = rw starts_left_parenthesis refl
sign_at law.right_parenthesis = rw starts_right_parenthesis refl
sign_at law.left_brace = rw starts_left_brace refl
sign_at law.right_brace = rw starts_right_brace refl
sign_at law.dot = rw starts_dot refl
sign_at law.comma = rw starts_comma refl
sign_at law.semicolon = rw starts_semicolon refl
sign_at law.colon = rw starts_colon refl
sign_at law.minus = rw starts_minus refl
sign_at law.plus = rw starts_plus refl
sign_at law.star = rw starts_star refl
sign_at law.slash = rw starts_slash refl
sign_at law.percent = rw starts_percent refl
sign_at law.assign = rw starts_assign refl
sign_at law.question = rw starts_question refl
sign_at law.not = rw starts_not refl
sign_at law.less = rw starts_less refl
sign_at law.greater = rw starts_greater refl
sign_at law.arrow = rw starts_assign refl
sign_at law.equal = rw starts_assign refl
sign_at law.coalesce = rw starts_question refl
sign_at law.not_equal = rw starts_not refl
sign_at law.less_or_equal = rw starts_less refl
sign_at law.greater_or_equal = rw starts_greater refl
sign_at law.and = rw starts_ampersand refl
sign_at law.or = rw starts_bar refl

lexeme_at : {kind : Kind} {cs behind : List ℕ} → IsLexeme kind cs behind → kind_at cs ≡ Some kind
lexeme_at (law.reserved {kind = kind} {cs = cs} h) =
    reserved_at cs kind (among (λ w. is_word w.0) reserved_words (cs, kind) all_words h) (reserved_kind cs kind h.0 h.1 h.2)
lexeme_at (law.name {c = c} {cs = cs} starts continues none) =
    rw starts (ap Some (name_kind reserved_words (c ∷ cs) (tells reserved_words (c ∷ cs)) (λ kind h. none kind h)))
lexeme_at (law.integer {c = c} digit digits small ends) = rw ((of_digit c digit).0, digit) refl
lexeme_at (law.text h) = rw no_quote_starts refl
lexeme_at (law.sign h) = sign_at h

same_front : (a b x y : List ℕ) → a ++ b ≡ x ++ y → length a ≡ length x → a ≡ x
same_front a b x y e size = sym (take_over a b) ∙ (λ i. take (size i) (e i)) ∙ take_over x y

one_token : (kind other : Kind) (lexeme behind front rest : List ℕ) → lexeme ++ behind ≡ front ++ rest → IsToken kind lexeme behind → IsToken other front rest
    → (kind ≡ other) × (lexeme ≡ front)
one_token kind other lexeme behind front rest e t u =
    let less = t.longest other front rest e u.spelled in
    let more = u.longest kind lexeme behind (sym e) t.spelled in
    let same = same_front lexeme behind front rest e (omega (arith, less, more)) in
    (same_Some kind other (sym (lexeme_at t.spelled) ∙ ap kind_at same ∙ lexeme_at u.spelled), same)

pub is_taken : (kind : Kind) (c : ℕ) (more rest : List ℕ) → IsToken kind (c ∷ more) rest → piece c (more ++ rest) ≡ Some (Some kind, length more)
is_taken kind c more rest t =
    let cs : List ℕ = more ++ rest in
    let there = reached_at c cs kind (c ∷ more) rest t.no_comment refl t.spelled in
    let within : there.more ≤ length cs = piece_within c cs (Some there.kind, there.more) there.is in
    let size = length-take-le there.more cs within in
    let taken : IsToken there.kind (c ∷ take there.more cs) (drop there.more cs)
    = is_longest there.kind c (take there.more cs) (drop there.more cs)
    (ap (piece c) (take-append-drop there.more cs) ∙ there.is ∙ ap (λ n. Some (Some there.kind, n)) (sym size)) in
    let one = one_token there.kind kind (c ∷ take there.more cs) (drop there.more cs) (c ∷ more) rest
    (ap (λ all. c ∷ all) (take-append-drop there.more cs)) taken t in
    let long : suc (length (take there.more cs)) ≡ suc (length more) = ap length one.1 in
    let count : there.more ≡ length more = omega (arith, long, size) in
    there.is ∙ (λ i. Some (Some (one.0 i), count i))

pub takes_longest : TakesLongest
takes_longest kind c more rest = (is_longest kind c more rest, is_taken kind c more rest)
