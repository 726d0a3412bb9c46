-- What is opened after some tokens and then after others, and the limits.
use Rattle.std.proofs.Common.{◌≡◌, ◌∷◌, ◌++◌, ◌+◌, ◌<◌, ◌≤◌, ◌∙◌, List, [], ℕ, Bool, true, false, if◌then◌else◌, Some, None, ap, ap₂, sym, refl, arith, length, drop, get_or}
use Rattle.std.specs.Prelude.{nat_lt}
use Rattle.std.proofs.lemmas.Bool.Decides.{nat_tests}
use Rattle.std.proofs.lemmas.List.{at_drop_more}
use Rattle.lq_machine.specs.Opening.{is_past_opening, opened_behind, opened_from, opening, rank_with, size_with}
use Rattle.lq_grammar.specs.Tokens.{text_of}
use Rattle.lq_machine.specs.declared.session.Definition.{Definition}
use Rattle.lq_grammar.specs.declared.token.Kind.{Kind}
use Rattle.lq_grammar.specs.declared.token.Kind.TheVariants as k
use Rattle.lq_grammar.specs.declared.token.Token.{Token}
use Rattle.lq_machine.specs.declared.session.Opened.{Opened}
use Rattle.lq_machine.proofs.OpenedLaws.{rank_more, size_more}
use Rattle.lq_session.specs.Openings.{opened_with, within_limits}

-- what some queries and others open
pub opened_more : (opened : Opened) (xs ys : List Opened) → opened_with opened (xs ++ ys) ≡ opened_with (opened_with opened xs) ys
opened_more opened xs ys =
    ap₂ (λ (n r : ℕ). let both : Opened = record { size = n; rank = r } in both) (size_more opened.size xs ys) (rank_more opened.rank xs ys)

-- ---- the limits

-- figures that are no more than they may be
pub record IsFair (opened : Opened) : Type 0 where
  pub size : opened.size ≤ 65536
  pub rank : opened.rank ≤ 8

pub fair_from : (opened : Opened) → is_past_opening opened ≡ false → IsFair opened
fair_from opened h = record { size = grind (arith, nat_tests); rank = grind (arith, nat_tests) }

pub within : (opened : Opened) → opened.size ≤ 65536 → opened.rank ≤ 8 → Some opened ≡ within_limits opened
within opened s r = grind (arith, nat_tests)

pub too_large : (opened : Opened) → 65536 < opened.size → None ≡ within_limits opened
too_large opened h = grind (arith, nat_tests)

pub too_high : (opened : Opened) → 8 < opened.rank → None ≡ within_limits opened
too_high opened h = grind (arith, nat_tests)

size_grows : (n : ℕ) (xs : List Opened) → n ≤ size_with n xs
size_grows n [] = omega arith
size_grows n (x ∷ xs) = omega (arith, size_grows (n + x.size) xs)

next_rank : (n m : ℕ) → n ≤ (if nat_lt n m then m else n)
next_rank n m = grind (arith, nat_tests)

rank_grows : (n : ℕ) (xs : List Opened) → n ≤ rank_with n xs
rank_grows n [] = omega arith
rank_grows n (x ∷ xs) = omega (arith, next_rank n (x.rank + 1), rank_grows (if nat_lt n (x.rank + 1) then x.rank + 1 else n) xs)

-- what is past a limit stays so, whatever else is opened
past_stays : (opened : Opened) (xs : List Opened) → is_past_opening opened ≡ true → is_past_opening (opened_with opened xs) ≡ true
past_stays opened xs h = grind (arith, nat_tests, size_grows opened.size xs, rank_grows opened.rank xs)

pub past_from : (opened : Opened) (past : Bool) → None ≡ (if past then None else Some opened) → past ≡ true
past_from opened true h = refl
past_from opened false h = cc

stays_past : (opened : Opened) (xs : List Opened) → None ≡ within_limits opened → None ≡ within_limits (opened_with opened xs)
stays_past opened xs h = rw (past_stays opened xs (past_from opened (is_past_opening opened) h)) refl

pub kept_from : (next opened : Opened) (past : Bool) → Some next ≡ (if past then None else Some opened) → (past ≡ false) × (next ≡ opened)
kept_from next opened true h = cc
kept_from next opened false h = (refl, cc)

-- ---- token by token

module _ (definitions : List Definition) (line : List ℕ) where
  -- tokens that are too many are so whatever they open
  pub many_tokens : (tokens : List Token) → None ≡ within_limits (record { size = length tokens; rank = 0 }) → None ≡ within_limits (opening definitions line tokens)
  many_tokens tokens h = stays_past (record { size = length tokens; rank = 0 }) (opened_from definitions line k.Semicolon tokens) h

  module _ (tokens : List Token) (i : ℕ) (token : Token) (before : Kind) (opened whole : Opened) where
    abbrev opened_there : Opened
    opened_there = opened_with opened (opened_behind definitions before (get_or tokens i token).kind (text_of line (get_or tokens i token)))

    -- what is opened after a token, with what those after it open
    turned : i < length tokens → opened_with opened (opened_from definitions line before (drop i tokens)) ≡ whole
        → opened_with opened_there (opened_from definitions line (get_or tokens i token).kind (drop (i + 1) tokens)) ≡ whole
    turned within rest =
        sym (opened_more opened (opened_behind definitions before (get_or tokens i token).kind (text_of line (get_or tokens i token)))
        (opened_from definitions line (get_or tokens i token).kind (drop (i + 1) tokens)))
        ∙ sym (at_drop_more (λ left. opened_with opened (opened_from definitions line before left)) tokens i token within)
        ∙ rest

    -- a token that goes past a limit
    pub token_past : i < length tokens → opened_with opened (opened_from definitions line before (drop i tokens)) ≡ whole
        → None ≡ within_limits opened_there → None ≡ within_limits whole
    token_past within rest h =
        stays_past opened_there (opened_from definitions line (get_or tokens i token).kind (drop (i + 1) tokens)) h ∙ ap within_limits (turned within rest)

    -- and one that doesn't
    pub token_within : i < length tokens → opened_with opened (opened_from definitions line before (drop i tokens)) ≡ whole
        → (next : Opened) → Some next ≡ within_limits opened_there
        → (is_past_opening next ≡ false) × (opened_with next (opened_from definitions line (get_or tokens i token).kind (drop (i + 1) tokens)) ≡ whole)
    token_within within rest next h =
        let kept : (is_past_opening opened_there ≡ false) × (next ≡ opened_there) = kept_from next opened_there (is_past_opening opened_there) h in (
          ap is_past_opening kept.1 ∙ kept.0,
          ap (λ o. opened_with o (opened_from definitions line (get_or tokens i token).kind (drop (i + 1) tokens))) kept.1 ∙ turned within rest,
        )
