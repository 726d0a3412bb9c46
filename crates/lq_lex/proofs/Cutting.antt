-- One turn of the lexer's loop: the tokens found so far, before those of the text that is left.
use Rattle.std.proofs.Common.{◌≡◌, ℕ, suc, ◌+◌, ◌*◌, ◌≤◌, List, [], ◌∷◌, ◌++◌, length, get_or, take, drop, refl, ap, sym, ◌∙◌, append_assoc, append-nil, arith}
use Rattle.std.specs.Prelude.{Option, Some, None, option_map, sum_by}
use Rattle.std.specs.Char.{len_utf8}
use Rattle.std.specs.List.{prefix_len}
use Rattle.std.proofs.lemmas.List.Sums.{sum_by-append, sum_by-le}
use Rattle.std.proofs.lemmas.List.{take-append-drop}
use Rattle.std.proofs.lemmas.Str.{len_utf8_bounds}
use Rattle.lq_grammar.proofs.PieceLaws.{piece_within, turn}
use Rattle.lq_grammar.specs.Tokens.{piece, tokens_from, word, text}
use Rattle.lq_grammar.specs.Words.{continues_name, kind_of_word}
use Rattle.lq_grammar.specs.declared.token.Kind.{Kind}
use Rattle.lq_grammar.specs.declared.token.Token.{Token}

pub piece_fits : (text cs : List ℕ) (c more : ℕ) (kind : Option Kind) → piece c cs ≡ Some (kind, more) → text ≡ c ∷ cs → more + 1 ≤ length text
piece_fits text cs c more kind found is = let within : more ≤ length cs = piece_within c cs (kind, more) found in omega (arith, ap length is)

-- the characters of a piece, from the first
pub taken_from : (text cs : List ℕ) (c n : ℕ) → text ≡ c ∷ cs → take (n + 1) text ≡ c ∷ take n cs
taken_from text cs c n is = let next : n + 1 ≡ suc n = omega arith in rw (next, is) refl

-- the longest word
pub word_is : (text cs : List ℕ) (c more : ℕ) (kind : Kind) → text ≡ c ∷ cs → more ≡ prefix_len continues_name cs → kind ≡ kind_of_word (take (more + 1) text)
    → Some (Some kind, more) ≡ word c cs
word_is text cs c more kind is more_is kind_is =
    let letters : take (more + 1) text ≡ c ∷ take more cs = taken_from text cs c more is in
    ap (λ k. Some (Some k, more)) (kind_is ∙ ap kind_of_word letters) ∙ ap (λ n. Some (Some (kind_of_word (c ∷ take n cs)), n)) more_is

-- ---- the turns

one_more : (tokens : List Token) (token : Token) (left : Option (List Token))
    → option_map (λ more. tokens ++ more) (option_map (λ more. token ∷ more) left) ≡ option_map (λ more. (tokens ++ token ∷ []) ++ more) left
one_more tokens token None = refl
one_more tokens token (Some more) = ap Some (sym (append_assoc tokens (token ∷ []) more))

-- after a token, which is put after those found so far
pub token_found : (all : Option (List Token)) (tokens grown : List Token) (text cs behind : List ℕ) (c start end more : ℕ) (found_kind : Option Kind) (kind : Kind)
    → all ≡ option_map (λ left. tokens ++ left) (tokens_from 0 start text) → piece c cs ≡ Some (found_kind, more) → found_kind ≡ Some kind → text ≡ c ∷ cs
    → behind ≡ drop (more + 1) text → end ≡ start + sum_by len_utf8 (take (more + 1) text) → grown ≡ tokens ++ record { kind = kind; start = start; end = end } ∷ []
    → all ≡ option_map (λ left. grown ++ left) (tokens_from 0 end behind)
token_found all tokens grown text cs behind c start end more found_kind kind so_far found kind_is is behind_is end_is grown_is =
    let next : more + 1 ≡ suc more = omega arith in
    let step = turn text c cs start more (Some kind) is (found ∙ ap (λ k. Some (k, more)) kind_is) in
    let place : start + sum_by len_utf8 (take (suc more) text) ≡ end = ap (λ n. start + sum_by len_utf8 (take n text)) (sym next) ∙ sym end_is in
    let rest : drop (suc more) text ≡ behind = ap (λ n. drop n text) (sym next) ∙ sym behind_is in
    so_far ∙ ap (option_map (λ left. tokens ++ left)) (rw (← place, ← rest) step) ∙ one_more tokens (record { kind = kind; start = start; end = end }) (tokens_from 0 end behind)
    ∙ ap (λ found. option_map (λ left. found ++ left) (tokens_from 0 end behind)) (sym grown_is)

-- after a blank or a comment
pub blank_found : (all : Option (List Token)) (tokens : List Token) (text cs behind : List ℕ) (c start end more : ℕ) (found_kind : Option Kind)
    → all ≡ option_map (λ left. tokens ++ left) (tokens_from 0 start text) → piece c cs ≡ Some (found_kind, more) → found_kind ≡ None → text ≡ c ∷ cs
    → behind ≡ drop (more + 1) text → end ≡ start + sum_by len_utf8 (take (more + 1) text)
    → all ≡ option_map (λ left. tokens ++ left) (tokens_from 0 end behind)
blank_found all tokens text cs behind c start end more found_kind so_far found kind_is is behind_is end_is =
    let next : more + 1 ≡ suc more = omega arith in
    let step = turn text c cs start more None is (found ∙ ap (λ k. Some (k, more)) kind_is) in
    let place : start + sum_by len_utf8 (take (suc more) text) ≡ end = ap (λ n. start + sum_by len_utf8 (take n text)) (sym next) ∙ sym end_is in
    let rest : drop (suc more) text ≡ behind = ap (λ n. drop n text) (sym next) ∙ sym behind_is in
    so_far ∙ ap (option_map (λ left. tokens ++ left)) (rw (← place, ← rest) step)

-- where nothing begins as the text does
pub fault_found : (all : Option (List Token)) (tokens : List Token) (text cs : List ℕ) (c start : ℕ)
    → all ≡ option_map (λ left. tokens ++ left) (tokens_from 0 start text) → piece c cs ≡ None → text ≡ c ∷ cs → all ≡ None
unfolding tokens_from
fault_found all tokens text cs c start so_far fault is = rw (is, fault) at so_far

-- at the end of the text
pub end_found : (all : Option (List Token)) (tokens : List Token) (text : List ℕ) (start : ℕ)
    → all ≡ option_map (λ left. tokens ++ left) (tokens_from 0 start text) → length text ≡ 0 → all ≡ Some tokens
unfolding tokens_from
end_found all tokens [] start so_far none = so_far ∙ ap Some (append-nil tokens)
end_found all tokens (c ∷ cs) start so_far none = absurd (omega arith)

-- a text is as wide as its parts
pub width_split : (text : List ℕ) (n : ℕ) → sum_by len_utf8 (take n text) + sum_by len_utf8 (drop n text) ≡ sum_by len_utf8 text
width_split text n = sym (sum_by-append len_utf8 (take n text) (drop n text)) ∙ ap (sum_by len_utf8) (take-append-drop n text)

pub width_bound : (text : List ℕ) → sum_by len_utf8 text ≤ length text * 4
width_bound text = sum_by-le len_utf8 4 text (λ k d within. (len_utf8_bounds (get_or text k d)).1)
