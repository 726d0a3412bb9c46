-- One turn of the loops over the characters of a text literal.
use Rattle.std.proofs.Common.{◌≡◌, ℕ, suc, ◌+◌, ◌≤◌, ◌<◌, true, false, List, [], ◌∷◌, ◌++◌, length, get_or, drop, refl, ap, sym, ◌∙◌, append_assoc, append-nil, arith}
use Rattle.std.specs.Prelude.{Option, Some, None, option_map}
use Rattle.std.specs.Option.{option_map_or}
use Rattle.std.specs.Str.{encode_utf8_all}
use Rattle.std.specs.Char.{encode_utf8}
use Rattle.std.proofs.lemmas.List.{at_drop_more, at_drop_all}
use Rattle.lq_grammar.specs.TextLiterals.{Place, Step, closes, step, step_inside, length_from, spelled_before, spelled_from}

-- ---- one turn of the loop that counts

-- the length of a literal of which so many characters are read
abbrev after : ℕ → Option ℕ → Option ℕ
after read left = option_map (λ n. read + n) left

pub count_closes : (all : Option ℕ) (place : Place) (rest cs : List ℕ) (c read : ℕ) → all ≡ after read (length_from place rest) → rest ≡ c ∷ cs → closes place c ≡ true
    → all ≡ Some (read + 1)
count_closes all place rest cs c read so_far is closed = rw (is, closed) at so_far

pub count_fault : (all : Option ℕ) (place : Place) (rest cs : List ℕ) (c read : ℕ) → all ≡ after read (length_from place rest) → rest ≡ c ∷ cs → closes place c ≡ false
    → step place c ≡ None → all ≡ None
count_fault all place rest cs c read so_far is open_still fault = rw (is, open_still, fault) at so_far

one_more : (read : ℕ) (left : Option ℕ) → after read (option_map suc left) ≡ after (read + 1) left
one_more read None = refl
one_more read (Some n) = ap Some (omega arith)

pub count_goes : (all : Option ℕ) (place : Place) (next : Step) (rest cs : List ℕ) (c read : ℕ) → all ≡ after read (length_from place rest) → rest ≡ c ∷ cs
    → closes place c ≡ false → step place c ≡ Some next → all ≡ after (read + 1) (length_from next.0 cs)
count_goes all place next rest cs c read so_far is open_still goes = rw (is, open_still, goes) at so_far ∙ one_more read (length_from next.0 cs)

pub count_ends : (all : Option ℕ) (place : Place) (rest : List ℕ) (read : ℕ) → all ≡ after read (length_from place rest) → length rest ≡ 0 → all ≡ None
count_ends all place [] read so_far none = so_far
count_ends all place (c ∷ cs) read so_far none = absurd (omega arith)

-- ---- one turn of the loop that spells

spelled : (place : Place) (cs : List ℕ) (n c : ℕ) → (n < length cs) × (c ≡ get_or cs n c)
    → spelled_from place (drop n cs) ≡ option_map_or (λ s. spelled_before s.1 (spelled_from s.0 (drop (n + 1) cs))) (step_inside place c) []
spelled place cs n c h =
    at_drop_more (spelled_from place) cs n c h.0
    ∙ ap (λ x. option_map_or (λ s. spelled_before s.1 (spelled_from s.0 (drop (n + 1) cs))) (step_inside place x) []) (sym h.1)

-- what is spelled so far and what is left make the whole
abbrev pub Makes : List ℕ → List ℕ → Place → List ℕ → Type 0
Makes all text place rest = text ++ encode_utf8_all (spelled_from place rest) ≡ all

pub spelling_stops : (all text : List ℕ) (place : Place) (cs : List ℕ) (n c : ℕ) → (n < length cs) × (c ≡ get_or cs n c) → Makes all text place (drop n cs)
    → step_inside place c ≡ None → text ≡ all
spelling_stops all text place cs n c here so_far none =
    sym (append-nil text) ∙ ap (λ more. text ++ encode_utf8_all more) (sym (rw none at (spelled place cs n c here))) ∙ so_far

pub spelling_ends : (all text : List ℕ) (place : Place) (cs : List ℕ) (n : ℕ) → length cs ≤ n → Makes all text place (drop n cs) → text ≡ all
spelling_ends all text place cs n end so_far =
    sym (append-nil text) ∙ ap (λ more. text ++ encode_utf8_all more) (sym (at_drop_all (spelled_from place) cs n end)) ∙ so_far

pub spelling_goes : (all text : List ℕ) (place next : Place) (cs : List ℕ) (n m c : ℕ) → (n < length cs) × (c ≡ get_or cs n c) → Makes all text place (drop n cs)
    → step_inside place c ≡ Some (next, None) → m ≡ n + 1 → Makes all text next (drop m cs)
spelling_goes all text place next cs n m c here so_far goes count =
    rw count (ap (λ more. text ++ encode_utf8_all more) (sym (rw goes at (spelled place cs n c here))) ∙ so_far)

pub spelling_grows : (all text grown : List ℕ) (place next : Place) (cs : List ℕ) (n m c x : ℕ) → (n < length cs) × (c ≡ get_or cs n c) → Makes all text place (drop n cs)
    → step_inside place c ≡ Some (next, Some x) → m ≡ n + 1 → grown ≡ text ++ encode_utf8 x → Makes all grown next (drop m cs)
spelling_grows all text grown place next cs n m c x here so_far goes count grown_is =
    let rest : List ℕ = encode_utf8_all (spelled_from next (drop (n + 1) cs)) in
    let at_x : text ++ (encode_utf8 x ++ rest) ≡ all = ap (λ more. text ++ encode_utf8_all more) (sym (rw goes at (spelled place cs n c here))) ∙ so_far in
    rw (count, grown_is) (append_assoc text (encode_utf8 x) rest ∙ at_x)
