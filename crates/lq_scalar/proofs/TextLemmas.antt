-- What std's searches find, and how many UTF-16 units it counts, is what the definitions say.
use Rattle.std.proofs.Common.{◌≡◌, ◌+◌, ◌-◌, ◌/◌, ◌%◌, ◌∷◌, [], ◌<◌, ◌≤◌, List, ℕ, ℤ, pos, Bool, true, false, Some, None, Result, Ok, Err, length, drop, get_or, ap, refl, sym, ◌∙◌, arith, if◌then◌else◌, nat_le, nat_lt, SFits, w32}
use Rattle.std.specs.Char.Escape.{encode_utf16}
use Rattle.std.specs.Result.{OkIff, result_ok}
use Rattle.std.proofs.lemmas.Bool.{le-leb, leb-false, leb-true, ltb-false, ltb-true}
use Rattle.std.proofs.lemmas.List.{at_drop_all, at_drop_more}
use Rattle.std.specs.Bool.{MatchBool, one_answer}
use Rattle.std.specs.Str.Pattern.{FindsText, HasMatch}
use Rattle.std.proofs.lemmas.Str.Pattern.{contains_text, ends_text, starts_text}
use Rattle.lq_language.specs.Operations.{has_in, utf16_units}
use Rattle.lq_language.proofs.OperationLaws.{finds_parts}
use Rattle.lq_scalar.specs.Operands.{units_within}

pub contains_is : (r : Bool) (needle text : List ℕ) → MatchBool r (HasMatch (FindsText needle) text) (FindsText needle text None) → r ≡ has_in text needle
contains_is r needle text h = one_answer r (has_in text needle) (contains_text r needle text h) (finds_parts text needle)

pub ruleset searches = (starts_text, ends_text, contains_is)

-- ---- UTF-16 units

-- how many units a character takes
pub units_of_char : (c len : ℕ) → (c < 65536 → len ≡ 1) → (65536 ≤ c → len ≡ 2) → length (encode_utf16 c) ≡ len
units_of_char c len one two = by (nat_lt c 65536) refl where
  by : (b : Bool) → nat_lt c 65536 ≡ b → length (if b then c ∷ [] else (55296 + (c - 65536) / 1024) ∷ (56320 + (c - 65536) % 1024) ∷ []) ≡ len
  by true is = sym (one (ltb-true c 65536 is))
  by false is = sym (two (ltb-false c 65536 is))

units_from : (cs : List ℕ) (n c : ℕ) → (n < length cs) × (c ≡ get_or cs n c) → utf16_units (drop n cs) ≡ length (encode_utf16 c) + utf16_units (drop (n + 1) cs)
units_from cs n c here = at_drop_more utf16_units cs n c here.0 ∙ ap (λ x. length (encode_utf16 x) + utf16_units (drop (n + 1) cs)) (sym here.1)

-- one more character is counted
pub units_go : (all units next len : ℕ) (cs : List ℕ) (n m c : ℕ) → (n < length cs) × (c ≡ get_or cs n c) → units + utf16_units (drop n cs) ≡ all
    → length (encode_utf16 c) ≡ len → next ≡ units + len → m ≡ n + 1 → next + utf16_units (drop m cs) ≡ all
units_go all units next len cs n m c here so_far char sum count =
    ap (λ k. next + utf16_units (drop k cs)) count
    ∙ (let rest = units_from cs n c here in omega (arith, rest, so_far, char, sum))

within : (n : ℕ) → n ≤ 2147483647 → units_within n ≡ Some (pos n)
within n h = ap (λ b. if b then Some (pos n) else None) (le-leb n 2147483647 h)

past : (n : ℕ) → 2147483647 < n → units_within n ≡ None
past n h = by (nat_le n 2147483647) refl where
  by : (b : Bool) → nat_le n 2147483647 ≡ b → (if b then Some (pos n) else None) ≡ None
  by true is = absurd (let low = leb-true n 2147483647 is in omega (arith, low, h))
  by false is = refl

-- the count is past 32 bits
pub units_stop : (all units len : ℕ) (cs : List ℕ) (n c : ℕ) → (n < length cs) × (c ≡ get_or cs n c) → units + utf16_units (drop n cs) ≡ all
    → length (encode_utf16 c) ≡ len → (units + len < 4294967296 → ⊥) → None ≡ units_within all
units_stop all units len cs n c here so_far char over =
    sym (past all (let rest = units_from cs n c here in let above : 4294967296 ≤ units + len = omega (arith, over) in omega (arith, rest, so_far, char, above)))

-- all characters are counted
pub units_end : {E : Type 0} (all units : ℕ) (cs : List ℕ) (n : ℕ) → length cs ≤ n → units + utf16_units (drop n cs) ≡ all
    → (r : Result ℤ E) → OkIff r (SFits w32 (pos units)) (pos units) → result_ok r ≡ units_within all
units_end {E} all units cs n end so_far r is = by r is ∙ ap units_within same where
  same : units ≡ all
  same = let none = at_drop_all utf16_units cs n end in omega (arith, none, so_far)

  by : (o : Result ℤ E) → OkIff o (SFits w32 (pos units)) (pos units) → result_ok o ≡ units_within units
  by (Ok z) h = ap Some h.1 ∙ sym (within units (omega (arith, h.0.sfits)))
  by (Err e) h = sym (past units (above (nat_le units 2147483647) refl)) where
    above : (b : Bool) → nat_le units 2147483647 ≡ b → 2147483647 < units
    above true fits = absurd (h (record { sfits = (let low = leb-true units 2147483647 fits in omega (arith, low)) }))
    above false fits = leb-false units 2147483647 fits
