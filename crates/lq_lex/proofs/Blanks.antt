-- What the scan for a token says of the tokens.
use Rattle.std.proofs.Common.{◌≡◌, ℕ, suc, ◌+◌, ◌≤◌, Bool, true, false, List, [], ◌∷◌, refl, ap, sym, ◌∙◌, arith, not, take, drop, length, get_or}
use Rattle.std.specs.Prelude.{Option, Some, None, option_and_then, option_map, ◌==◌, sum_by, nat_lt, ◌<◌, ◌↔◌}
use Rattle.std.specs.List.{prefix_len}
use Rattle.std.specs.Option.{option_map_or}
use Rattle.std.proofs.lemmas.List.{at_drop_more, at_drop_all}
use Rattle.std.specs.Str.{chars}
use Rattle.std.specs.Char.{len_utf8}
use Rattle.std.proofs.lemmas.Bool.{eqb-true, le-ltb, lt-ltb}
use Rattle.lq_grammar.proofs.PieceLaws.{IsTokenPiece, by_cases, other_is_token, other_piece, piece_is_other}
use Rattle.lq_grammar.specs.Script.{line_limit}
use Rattle.lq_grammar.specs.Tokens.{Piece, piece, tokens_from, tokens_in, tokens_of, is_too_long, with_piece, is_blank}
use Rattle.lq_grammar.specs.declared.token.Token.{Token}
use Rattle.lq_lex.specs.Blank.{step, is_closed, has_no_token}
use Rattle.lq_lex.specs.declared.blank.Scan.{Scan}
use Rattle.lq_lex.specs.declared.blank.Scan.TheVariants as scan

-- whether a text has tokens, and none
abbrev is_nothing : Option (List Token) → Bool
is_nothing None = false
is_nothing (Some []) = true
is_nothing (Some (t ∷ ts)) = false

-- the tokens of what a scan that is here has before it
abbrev left : Scan → ℕ → List ℕ → Option (List Token)
left scan.Between place cs = tokens_from 0 place cs
left scan.Slash place cs = tokens_from 0 place (47 ∷ cs)
left scan.Comment place cs = tokens_from (prefix_len (λ c. not (c == 10)) cs) place cs

token_met : (found : Option Piece) (end : Piece → ℕ) (behind : Piece → Option (List Token)) (place : ℕ) → IsTokenPiece found
    → is_nothing (option_and_then (λ p. with_piece p.0 place (end p) (behind p)) found) ≡ false
token_met None end behind place is = refl
token_met (Some (None, more)) end behind place is = let never : false ≡ true = is (None, more) refl in absurd (cc)
token_met (Some (Some kind, more)) end behind place is =
    let token : Token = record { kind = kind; start = place; end = end (Some kind, more) } in
    let Case : Option (List Token) → Type 0 = λ o. is_nothing (option_map (λ ts. token ∷ ts) o) ≡ false in
    let by : (o : Option (List Token)) → Case o = elim [ None ↦ refl | Some ts ↦ refl ] in
    by (behind (Some kind, more))

other_met : (c : ℕ) (cs : List ℕ) (place : ℕ)
    → is_nothing (option_and_then (λ p. with_piece p.0 place (place + sum_by len_utf8 (c ∷ take p.1 cs)) (tokens_from p.1 (place + len_utf8 c) cs)) (other_piece c cs)) ≡ false
other_met c cs place =
    token_met (other_piece c cs) (λ p. place + sum_by len_utf8 (c ∷ take p.1 cs)) (λ p. tokens_from p.1 (place + len_utf8 c) cs) place (other_is_token c cs)

piece_met : (c : ℕ) (cs : List ℕ) (place : ℕ) → is_blank c ≡ false → (c == 47) ≡ false → is_nothing (tokens_from 0 place (c ∷ cs)) ≡ false
unfolding tokens_from
piece_met c cs place blank slash = rw (piece_is_other c cs blank slash) (other_met c cs place)

scan_tells : (at : Scan) (cs : List ℕ) (place : ℕ) → is_nothing (left at place cs) ≡ has_no_token at cs
unfolding tokens_from piece
scan_tells scan.Between [] place = refl
scan_tells scan.Slash [] place = other_met 47 [] place
scan_tells scan.Comment [] place = refl
scan_tells scan.Between (c ∷ cs) place =
    by_cases (is_blank c)
    (λ blank. rw blank (scan_tells scan.Between cs (place + len_utf8 c)))
    (λ other.
    by_cases (c == 47)
    (λ slash. let e : c ≡ 47 = eqb-true c 47 slash in rw e (scan_tells scan.Slash cs place))
    (λ no_slash.
    let none : has_no_token scan.Between (c ∷ cs) ≡ false = rw (other, no_slash) refl in
    piece_met c cs place other no_slash ∙ sym none))
scan_tells scan.Slash (c ∷ cs) place =
    by_cases (c == 47)
    (λ slash.
    let e : c ≡ 47 = eqb-true c 47 slash in
    let next : 1 + prefix_len (λ d. not (d == 10)) cs ≡ suc (prefix_len (λ d. not (d == 10)) cs) = omega arith in
    rw (e, next) (scan_tells scan.Comment cs (place + len_utf8 47 + len_utf8 c)))
    (λ other. rw other (other_met 47 (c ∷ cs) place))
scan_tells scan.Comment (c ∷ cs) place =
    by_cases (c == 10)
    (λ feed. let e : c ≡ 10 = eqb-true c 10 feed in rw e (scan_tells scan.Between cs (place + len_utf8 10)))
    (λ other.
    let next : 1 + prefix_len (λ d. not (d == 10)) cs ≡ suc (prefix_len (λ d. not (d == 10)) cs) = omega arith in
    rw (other, next) (scan_tells scan.Comment cs (place + len_utf8 c)))

nothing_is : (tokens : Option (List Token)) → is_nothing tokens ≡ true → tokens ≡ Some []
nothing_is None e = absurd (cc)
nothing_is (Some []) e = refl
nothing_is (Some (t ∷ ts)) e = absurd (cc)

-- the line has no token where the scan finds none
pub blank_is : (line : List ℕ) → length line ≤ line_limit → (has_no_token scan.Between (chars line) ≡ true) ↔ (tokens_of line ≡ Some [])
unfolding tokens_of tokens_in is_too_long
blank_is line within =
    let told = scan_tells scan.Between (chars line) 0 in
    let short : nat_lt line_limit (length line) ≡ false = le-ltb line_limit (length line) within in
    rw short ((λ none. nothing_is (tokens_from 0 0 (chars line)) (told ∙ none)), (λ is. sym told ∙ ap is_nothing is))

pub long_is_not_blank : (line : List ℕ) → line_limit < length line → (false ≡ true) ↔ (tokens_of line ≡ Some [])
unfolding tokens_of is_too_long
long_is_not_blank line long =
    let over : nat_lt line_limit (length line) ≡ true = lt-ltb line_limit (length line) long in
    rw over ((λ e. absurd (cc)), (λ e. absurd (cc)))

-- ---- one turn of the loop over the characters

scanned : (at : Scan) (cs : List ℕ) (n c : ℕ) → (n < length cs) × (c ≡ get_or cs n c)
    → has_no_token at (drop n cs) ≡ option_map_or (λ next. has_no_token next (drop (n + 1) cs)) (step at c) false
scanned at cs n c h =
    at_drop_more (has_no_token at) cs n c h.0
    ∙ ap (λ x. option_map_or (λ next. has_no_token next (drop (n + 1) cs)) (step at x) false) (sym h.1)

pub scan_stops : (all : Bool) (at : Scan) (cs : List ℕ) (n c : ℕ) → (n < length cs) × (c ≡ get_or cs n c) → has_no_token at (drop n cs) ≡ all → step at c ≡ None → false ≡ all
scan_stops all at cs n c here so_far none = rw none at (sym (scanned at cs n c here)) ∙ so_far

pub scan_goes : (all : Bool) (at next : Scan) (cs : List ℕ) (n m c : ℕ) → (n < length cs) × (c ≡ get_or cs n c) → has_no_token at (drop n cs) ≡ all
    → step at c ≡ Some next → m ≡ n + 1 → has_no_token next (drop m cs) ≡ all
scan_goes all at next cs n m c here so_far some count = rw (count) (rw some at (sym (scanned at cs n c here)) ∙ so_far)

pub scan_ends : (all : Bool) (at : Scan) (cs : List ℕ) (n : ℕ) → length cs ≤ n → has_no_token at (drop n cs) ≡ all → is_closed at ≡ all
scan_ends all at cs n end so_far = sym (at_drop_all (has_no_token at) cs n end) ∙ so_far
