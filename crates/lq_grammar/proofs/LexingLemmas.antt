-- A line is cut into its pieces.
use Rattle.std.proofs.Common.{◌≡◌, ℕ, zero, suc, ◌+◌, ◌≤◌, true, false, List, [], ◌∷◌, ◌++◌, length, take, drop, refl, ap, sym, ◌∙◌, arith, not, ◌&&◌, length-append, length-drop}
use Rattle.std.specs.Prelude.{Option, Some, None, sum_by, ◌==◌, chars}
use Rattle.std.specs.Char.{len_utf8}
use Rattle.std.specs.List.{prefix_len}
use Rattle.std.proofs.lemmas.Bool.{eqb-true}
use Rattle.std.proofs.lemmas.List.{length-take-le, take-append-drop}
use Rattle.std.proofs.lemmas.List.Sums.{sum_by-cons, sum_by-append}
use Rattle.std.proofs.lemmas.Str.{len_utf8_bounds, length-encode, encodes-chars}
use lib.Utf8.{encodes, encode}
use Rattle.lq_grammar.specs.Lexemes.{CutTheLine, IsCut, IsToken}
use Rattle.lq_grammar.specs.Lexemes as cut
use Rattle.lq_grammar.specs.LexingLaws.{AreInOrder, EndsLine, IsOneLine, LieInOrder}
use Rattle.lq_grammar.specs.Tokens.{Piece, head_of, is_blank, piece, tokens_from, tokens_in, with_piece}
use Rattle.lq_grammar.specs.declared.token.Kind.{Kind}
use Rattle.lq_grammar.specs.declared.token.Token.{Token}
use Rattle.lq_grammar.proofs.LexemeLemmas.{Stops, drop_over, goes_as_far, is_longest, is_other, is_taken, take_over}
use Rattle.lq_grammar.proofs.PieceLaws.{both_left, both_right, by_cases, other_is_token, piece_within, turn}

-- ---- white space and comments

pub one_line : (cs : List ℕ) → IsOneLine (take (prefix_len (λ c. not (c == 10)) cs) cs)
one_line [] = refl
one_line (c ∷ cs) =
    by_cases (c == 10)
    (λ feed. rw feed refl)
    (λ other.
    let next : 1 + prefix_len (λ d. not (d == 10)) cs ≡ suc (prefix_len (λ d. not (d == 10)) cs) = omega arith in
    rw (other, next) (rw other (one_line cs)))

pub ends_line : (cs : List ℕ) → EndsLine (drop (prefix_len (λ c. not (c == 10)) cs) cs)
ends_line [] = tt
ends_line (c ∷ cs) =
    by_cases (c == 10)
    (λ feed. let e : c ≡ 10 = eqb-true c 10 feed in rw e refl)
    (λ other.
    let next : 1 + prefix_len (λ d. not (d == 10)) cs ≡ suc (prefix_len (λ d. not (d == 10)) cs) = omega arith in
    rw (other, next) (ends_line cs))

blank_is : (c : ℕ) (cs : List ℕ) → is_blank c ≡ true → piece c cs ≡ Some (None, 0)
unfolding piece
blank_is c cs blank = rw blank refl

comment_is : (cs : List ℕ) → piece 47 (47 ∷ cs) ≡ Some (None, suc (prefix_len (λ c. not (c == 10)) cs))
unfolding piece
comment_is cs =
    let next : 1 + prefix_len (λ c. not (c == 10)) cs ≡ suc (prefix_len (λ c. not (c == 10)) cs) = omega arith in
    ap (λ n. Some (None, n)) next

-- ---- one piece

abbrev Follow : ℕ → Type 0
Follow n = (place : ℕ) (cs : List ℕ) (tokens : List Token) → length cs ≤ n → tokens_from 0 place cs ≡ Some tokens → IsCut place cs tokens

moved : (place : ℕ) (a b : List ℕ) (tokens : List Token) → a ≡ b → IsCut place a tokens → IsCut place b tokens
moved place a b tokens e h = rw (← e) h

shorter : (m n : ℕ) (cs : List ℕ) → length cs ≤ n → length (drop m cs) ≤ n
shorter m n cs within = omega (arith, length-drop m cs)

after_blank : (n place c : ℕ) (cs : List ℕ) (tokens : List Token) → Follow n → length cs ≤ n → tokens_from 0 place (c ∷ cs) ≡ Some tokens → is_blank c ≡ true → IsCut place (c ∷ cs) tokens
unfolding tokens_from
after_blank n place c cs tokens follow within found blank =
    cut.blank blank (follow (place + len_utf8 c) cs tokens within (rw (blank_is c cs blank) at found))

after_comment : (n place : ℕ) (cs : List ℕ) (tokens : List Token) → Follow n → length cs ≤ n → tokens_from 0 place (47 ∷ 47 ∷ cs) ≡ Some tokens → IsCut place (47 ∷ 47 ∷ cs) tokens
after_comment n place cs tokens follow within found =
    let m : ℕ = prefix_len (λ c. not (c == 10)) cs in
    let step = turn (47 ∷ 47 ∷ cs) 47 (47 ∷ cs) place (suc m) None refl (comment_is cs) in
    let rest : IsCut (place + sum_by len_utf8 (47 ∷ 47 ∷ take m cs)) (drop m cs) tokens = follow _ (drop m cs) tokens (shorter m n cs within) (sym step ∙ found) in
    moved place _ _ tokens (ap (λ more. 47 ∷ 47 ∷ more) (take-append-drop m cs)) (cut.comment (take m cs) (drop m cs) (one_line cs) (ends_line cs) rest)

after_token : (n place c more : ℕ) (kind : Kind) (cs : List ℕ) (tokens : List Token) → Follow n → length cs ≤ n → tokens_from 0 place (c ∷ cs) ≡ Some tokens
    → piece c cs ≡ Some (Some kind, more) → IsCut place (c ∷ cs) tokens
after_token n place c more kind cs tokens follow within found is =
    by (tokens_from 0 end (drop more cs)) refl (sym (turn (c ∷ cs) c cs place more (Some kind) refl is) ∙ found)
  where
    end : ℕ
    end = place + sum_by len_utf8 (c ∷ take more cs)

    longest : piece c (take more cs ++ drop more cs) ≡ Some (Some kind, length (take more cs))
    longest = rw (take-append-drop more cs, length-take-le more cs (piece_within c cs (Some kind, more) is)) is

    by : (behind : Option (List Token)) → tokens_from 0 end (drop more cs) ≡ behind → with_piece (Some kind) place end behind ≡ Some tokens → IsCut place (c ∷ cs) tokens
    by None e f = absurd (cc)
    by (Some others) e f =
        let all : record { kind = kind; start = place; end = end } ∷ others ≡ tokens = cc in
        rw (← all) (moved place _ _ _ (ap (λ rest. c ∷ rest) (take-append-drop more cs)) (cut.token kind c (take more cs) (drop more cs) (is_longest kind c (take more cs) (drop more cs) longest) (follow end (drop more cs) others (shorter more n cs within) e)))

gap : (n place c more : ℕ) (cs : List ℕ) (tokens : List Token) → Follow n → length cs ≤ n → tokens_from 0 place (c ∷ cs) ≡ Some tokens
    → piece c cs ≡ Some (None, more) → IsCut place (c ∷ cs) tokens
gap n place c more cs tokens follow within found is =
    by_cases (is_blank c)
    (λ blank. after_blank n place c cs tokens follow within found blank)
    (λ not_blank. by_cases (c == 47 && (head_of cs == 47)) (λ slashes. slashed cs within found slashes) (λ other. lone not_blank other))
  where
    lone : is_blank c ≡ false → (c == 47 && (head_of cs == 47)) ≡ false → IsCut place (c ∷ cs) tokens
    lone not_blank other = let never : false ≡ true = other_is_token c cs (None, more) (sym (is_other c cs not_blank other) ∙ is) in absurd (cc)

    slashed : (ds : List ℕ) → length ds ≤ n → tokens_from 0 place (c ∷ ds) ≡ Some tokens → (c == 47 && (head_of ds == 47)) ≡ true → IsCut place (c ∷ ds) tokens
    slashed [] le f e = let never : false ≡ true = both_right (c == 47) false e in absurd (cc)
    slashed (d ∷ ds) le f e =
        let first : c ≡ 47 = eqb-true c 47 (both_left (c == 47) (d == 47) e) in
        let second : d ≡ 47 = eqb-true d 47 (both_right (c == 47) (d == 47) e) in
        rw (first, second) (after_comment n place ds tokens follow (omega arith) (rw (first, second) at f))

fault : (place c : ℕ) (cs : List ℕ) → piece c cs ≡ None → tokens_from 0 place (c ∷ cs) ≡ None
unfolding tokens_from
fault place c cs e = rw e refl

one_piece : (n place c : ℕ) (cs : List ℕ) (tokens : List Token) → Follow n → length cs ≤ n → tokens_from 0 place (c ∷ cs) ≡ Some tokens → IsCut place (c ∷ cs) tokens
one_piece n place c cs tokens follow within found = by (piece c cs) refl
  where
    by : (o : Option Piece) → piece c cs ≡ o → IsCut place (c ∷ cs) tokens
    by None e = let never = sym (fault place c cs e) ∙ found in absurd (cc)
    by (Some (None, more)) e = gap n place c more cs tokens follow within found e
    by (Some (Some kind, more)) e = after_token n place c more kind cs tokens follow within found e

-- ---- all pieces

cut_from : (n : ℕ) → Follow n
unfolding tokens_from
cut_from n place [] tokens within found = let none : [] ≡ tokens = cc in rw (← none) cut.end
cut_from zero place (c ∷ cs) tokens within found = absurd (omega arith)
cut_from (suc n) place (c ∷ cs) tokens within found = one_piece n place c cs tokens (cut_from n) (omega arith) found

-- ---- what is cut is read

no_more_feed : (rest : List ℕ) → EndsLine rest → Stops (λ c. not (c == 10)) rest
no_more_feed [] ends = tt
no_more_feed (c ∷ cs) ends = rw ends refl

comment_read : (place : ℕ) (body rest : List ℕ) → IsOneLine body → EndsLine rest
    → tokens_from 0 place (47 ∷ 47 ∷ (body ++ rest)) ≡ tokens_from 0 (place + sum_by len_utf8 (47 ∷ 47 ∷ body)) rest
comment_read place body rest one ends =
    let far = goes_as_far (λ c. not (c == 10)) body rest one (no_more_feed rest ends) in
    let is : piece 47 (47 ∷ (body ++ rest)) ≡ Some (None, suc (length body)) = comment_is (body ++ rest) ∙ ap (λ n. Some (None, suc n)) far in
    rw (take_over body rest, drop_over body rest) at (turn (47 ∷ 47 ∷ (body ++ rest)) 47 (47 ∷ (body ++ rest)) place (suc (length body)) None refl is)

token_read : (place c : ℕ) (kind : Kind) (more rest : List ℕ) → IsToken kind (c ∷ more) rest
    → tokens_from 0 place (c ∷ (more ++ rest))
    ≡ with_piece (Some kind) place (place + sum_by len_utf8 (c ∷ more)) (tokens_from 0 (place + sum_by len_utf8 (c ∷ more)) rest)
token_read place c kind more rest is =
    rw (take_over more rest, drop_over more rest) at (turn (c ∷ (more ++ rest)) c (more ++ rest) place (length more) (Some kind) refl (is_taken kind c more rest is))

blank_read : (place c : ℕ) (rest : List ℕ) → is_blank c ≡ true → tokens_from 0 place (c ∷ rest) ≡ tokens_from 0 (place + len_utf8 c) rest
unfolding tokens_from
blank_read place c rest blank = rw (blank_is c rest blank) refl

end_read : (place : ℕ) → tokens_from 0 place [] ≡ Some []
unfolding tokens_from
end_read place = refl

read : {place : ℕ} {cs : List ℕ} {tokens : List Token} → IsCut place cs tokens → tokens_from 0 place cs ≡ Some tokens
read {place} cut.end = end_read place
read {place} (cut.blank {c = c} {rest = rest} blank behind) = blank_read place c rest blank ∙ read behind
read {place} (cut.comment body rest one ends behind) = comment_read place body rest one ends ∙ read behind
read {place} (cut.token kind c more rest is behind) =
    token_read place c kind more rest is ∙ ap (with_piece (Some kind) place (place + sum_by len_utf8 (c ∷ more))) (read behind)

pub cut_the_line : CutTheLine
unfolding tokens_in
cut_the_line line tokens = (cut_from (length (chars line)) 0 (chars line) tokens (omega arith), read)

-- ---- order

later : (place next end : ℕ) (tokens : List Token) → place ≤ next → AreInOrder next end tokens → AreInOrder place end tokens
later place next end [] le order = omega arith
later place next end (token ∷ tokens) le order = (omega (arith, order.0), order.1, order.2)

wide : (c : ℕ) → 1 ≤ len_utf8 c
wide c = (len_utf8_bounds c).0

in_order : {place : ℕ} {cs : List ℕ} {tokens : List Token} → IsCut place cs tokens → AreInOrder place (place + sum_by len_utf8 cs) tokens
in_order {place} {cs} {tokens} cut.end = omega arith
in_order {place} {cs} {tokens} (cut.blank {c = c} {rest = rest} blank behind) =
    let e : place + len_utf8 c + sum_by len_utf8 rest ≡ place + sum_by len_utf8 (c ∷ rest) = omega (arith, sum_by-cons len_utf8 c rest) in
    later place (place + len_utf8 c) _ tokens (omega arith) (rw (← e) (in_order behind))
in_order {place} {cs} {tokens} (cut.comment body rest one ends behind) =
    let e : place + sum_by len_utf8 (47 ∷ 47 ∷ body) + sum_by len_utf8 rest ≡ place + sum_by len_utf8 ((47 ∷ 47 ∷ body) ++ rest) = omega (arith, sum_by-append len_utf8 (47 ∷ 47 ∷ body) rest) in
    later place (place + sum_by len_utf8 (47 ∷ 47 ∷ body)) _ tokens (omega arith) (rw (← e) (in_order behind))
in_order {place} {cs} (cut.token kind c more rest longest behind) =
    let e : place + sum_by len_utf8 (c ∷ more) + sum_by len_utf8 rest ≡ place + sum_by len_utf8 ((c ∷ more) ++ rest) = omega (arith, sum_by-append len_utf8 (c ∷ more) rest) in
    (omega arith, omega (arith, sum_by-cons len_utf8 c more, wide c), rw (← e) (in_order behind))

width : (cs : List ℕ) → sum_by len_utf8 cs ≡ length (encodes cs)
width [] = refl
width (c ∷ cs) = omega (arith, sum_by-cons len_utf8 c cs, width cs, length-encode c, length-append (encode c) (encodes cs))

pub lie_in_order : LieInOrder
lie_in_order line tokens utf8 found =
    let e : 0 + sum_by len_utf8 (chars line) ≡ length line = omega (arith, width (chars line), ap length (encodes-chars line utf8)) in
    rw (← e) (in_order ((cut_the_line line tokens).0 found))
