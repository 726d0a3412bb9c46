-- A name is a word that is not reserved.
use Rattle.std.proofs.Common.{◌≡◌, ℕ, ◌≤◌, ◌<◌, ◌+◌, Bool, true, false, List, [], ◌∷◌, length, get_or, drop, refl, ap, sym, ◌∙◌, not, cond}
use Rattle.std.specs.Prelude.{◌&&◌, IsUtf8, if◌then◌else◌}
use Rattle.std.specs.List.{list_all}
use Rattle.std.specs.Str.{bytes_eq, chars, encode_utf8_all}
use Rattle.std.proofs.lemmas.Bool.Decides.{Decides-like, same_from_decides}
use Rattle.std.proofs.lemmas.List.{at_drop_more, at_drop_all}
use Rattle.std.proofs.lemmas.Slice.Eq.{bytes_eq-Decides}
use Rattle.std.proofs.lemmas.Str.{encodes-chars, is_utf8-from_IsUtf8}
use lib.Utf8.{encode}
use Rattle.lq_grammar.proofs.PieceLaws.{both_left, both_right}
use Rattle.lq_grammar.specs.Tokens.{is_name, is_name_kind, spells_name}
use Rattle.lq_grammar.specs.Words.{kind_among, kind_of_word, reserved_words, starts_name, continues_name}
use Rattle.lq_grammar.specs.declared.token.Kind.{Kind}
use Rattle.lq_lex.specs.Letters.{is_among, is_word_from}

-- ---- reserved words

-- a table of words without names, each of which is as long in bytes as in characters
abbrev is_plain_word : List ℕ × Kind → Bool
is_plain_word word = not (is_name_kind word.1) && (bytes_eq (chars word.0) word.0 && bytes_eq (encode_utf8_all word.0) word.0)

abbrev ArePlain : List (List ℕ × Kind) → Type 0
ArePlain table = list_all is_plain_word table ≡ true

same_bytes : (a b : List ℕ) → bytes_eq a b ≡ true → a ≡ b
same_bytes a b e = (bytes_eq-Decides a b).0 e

-- a text is such a word where its characters are those of the word
same_word : (bytes word : List ℕ) → IsUtf8 bytes → chars word ≡ word → encode_utf8_all word ≡ word → bytes_eq (chars bytes) word ≡ bytes_eq bytes word
same_word bytes word utf8 plain_chars plain_bytes =
    let to : chars bytes ≡ word → bytes ≡ word = λ e. sym (encodes-chars bytes utf8) ∙ ap encode_utf8_all e ∙ plain_bytes in
    let from : bytes ≡ word → chars bytes ≡ word = λ e. ap chars e ∙ plain_chars in
    same_from_decides (bytes_eq (chars bytes) word) (bytes_eq bytes word) (Decides-like (bytes_eq (chars bytes) word) to from (bytes_eq-Decides (chars bytes) word)) (bytes_eq-Decides bytes word)

no_name : (b more : Bool) → (not b && more) ≡ true → b ≡ false
no_name true more e = absurd (cc)
no_name false more e = refl

among : (table : List (List ℕ × Kind)) (bytes : List ℕ) → IsUtf8 bytes → ArePlain table → is_name_kind (kind_among table (chars bytes)) ≡ not (is_among table bytes)
among [] bytes utf8 all = refl
among (word ∷ table) bytes utf8 all =
    let first : is_plain_word word ≡ true = both_left (is_plain_word word) (list_all is_plain_word table) all in
    let others : ArePlain table = both_right (is_plain_word word) (list_all is_plain_word table) all in
    let spelling : (bytes_eq (chars word.0) word.0 && bytes_eq (encode_utf8_all word.0) word.0) ≡ true = both_right (not (is_name_kind word.1)) _ first in
    let kind : is_name_kind word.1 ≡ false = no_name (is_name_kind word.1) _ first in
    let same : bytes_eq (chars bytes) word.0 ≡ bytes_eq bytes word.0 =
    same_word bytes word.0 utf8 (same_bytes _ _ (both_left (bytes_eq (chars word.0) word.0) _ spelling)) (same_bytes _ _ (both_right (bytes_eq (chars word.0) word.0) _ spelling)) in
    let Case : Bool → Type 0 = λ b. is_name_kind (cond b word.1 (kind_among table (chars bytes))) ≡ not (cond b true (is_among table bytes)) in
    let by : (b : Bool) → Case b = elim [ true ↦ kind | false ↦ among table bytes utf8 others ] in
    rw same (by (bytes_eq bytes word.0))

-- ---- names

words_alike : (cs : List ℕ) → is_word_from false cs ≡ list_all continues_name cs
words_alike [] = refl
words_alike (c ∷ cs) = ap (λ b. continues_name c && b) (words_alike cs)

spelled_name : (cs : List ℕ) → spells_name cs ≡ (is_word_from true cs && is_name_kind (kind_of_word cs))
spelled_name [] = refl
spelled_name (c ∷ cs) = ap (λ b. starts_name c && b && is_name_kind (kind_of_word (c ∷ cs))) (sym (words_alike cs))

plain_words : ArePlain reserved_words
unfolding chars encode
plain_words = refl

pub name_is : (text : List ℕ) → IsUtf8 text → is_name text ≡ (is_word_from true (chars text) && not (is_among reserved_words text))
unfolding is_name
name_is text utf8 =
    ap (λ b. b && spells_name (chars text)) (is_utf8-from_IsUtf8 text utf8)
    ∙ spelled_name (chars text)
    ∙ ap (λ b. is_word_from true (chars text) && b) (among reserved_words text utf8 plain_words)

-- ---- one turn of the loop over the characters of a word

turned : (first : Bool) (cs : List ℕ) (n c : ℕ) → (n < length cs) × (c ≡ get_or cs n c)
    → is_word_from first (drop n cs) ≡ ((if first then starts_name c else continues_name c) && is_word_from false (drop (n + 1) cs))
turned first cs n c h =
    at_drop_more (is_word_from first) cs n c h.0
    ∙ ap (λ x. (if first then starts_name x else continues_name x) && is_word_from false (drop (n + 1) cs)) (sym h.1)

pub word_stops : (all first fits : Bool) (cs : List ℕ) (n c : ℕ) → (n < length cs) × (c ≡ get_or cs n c) → is_word_from first (drop n cs) ≡ all
    → fits ≡ (if first then starts_name c else continues_name c) → fits ≡ false → false ≡ all
word_stops all first fits cs n c here so_far test failed = rw (sym test ∙ failed) at (sym (turned first cs n c here)) ∙ so_far

pub word_goes : (all first fits : Bool) (cs : List ℕ) (n m c : ℕ) → (n < length cs) × (c ≡ get_or cs n c) → is_word_from first (drop n cs) ≡ all
    → fits ≡ (if first then starts_name c else continues_name c) → fits ≡ true → m ≡ n + 1 → is_word_from false (drop m cs) ≡ all
word_goes all first fits cs n m c here so_far test passed count = rw count (rw (sym test ∙ passed) at (sym (turned first cs n c here)) ∙ so_far)

pub word_ends : (all first : Bool) (cs : List ℕ) (n : ℕ) → length cs ≤ n → is_word_from first (drop n cs) ≡ all → not first ≡ all
word_ends all first cs n end so_far = sym (at_drop_all (is_word_from first) cs n end) ∙ so_far
