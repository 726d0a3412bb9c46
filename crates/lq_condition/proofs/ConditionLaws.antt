-- What a condition says, form by form.
use Rattle.std.proofs.Common.{◌≡◌, not, List, ℕ, ℤ, Bool, true, false, Option, Some, None, Result, Ok, ap, ◌∙◌, refl, sym, slice_get}
use Rattle.std.proofs.lemmas.Cmp.{int_eq_equiv, nat_list_eq_equiv}
use Rattle.lq_value.specs.declared.scalar.Scalar.{Scalar}
use Rattle.lq_value.specs.declared.scalar.Scalar.TheVariants as scalar
use Rattle.lq_value.specs.declared.value.Fault.{Fault}
use Rattle.lq_value.specs.declared.value.Fault.TheVariants as fault
use Rattle.lq_grammar.specs.declared.syntax.Binary.{Binary}
use Rattle.lq_grammar.specs.declared.syntax.Binary.TheVariants as binary
use Rattle.lq_language.specs.Operations.{on_ok, same_content, truth, truth_of}
use Rattle.lq_language.specs.declared.operation.Op.{Op}
use Rattle.lq_condition.specs.Verdicts.{IsBoth, IsCells, IsEither, IsNot, IsSearch, IsSign, IsTruth, IsTurned, IsValue, Says, both_verdicts, cells_verdict, either_verdict, not_verdict, search_verdict, sign_verdict, truth_verdict, unless_fault, value_verdict, verdict, verdict_step}
use Rattle.lq_condition.specs.declared.condition.Condition.{Condition, fold_out-Condition, map-Condition, out-Condition}
use Rattle.lq_condition.specs.declared.condition.Condition.TheOpen.{Condition-F}
use Rattle.lq_condition.specs.declared.condition.Condition.TheVariants as condition
use Rattle.lq_condition.specs.declared.condition.Condition.TheVariants.{outs-Silent, outs-Constant, outs-Number, outs-Literal, outs-Search, outs-Cells, outs-Truth, outs-HasValue, outs-Not, outs-Both, outs-Either}

abbrev layer_says : Condition-F Condition → Says
layer_says layer = verdict_step (map-Condition Condition Says verdict layer)

verdict_out : (c : Condition) → verdict c ≡ layer_says (out-Condition c)
unfolding verdict
verdict_out c = fold_out-Condition Says verdict_step c

verdict_layer : (c : Condition) (layer : Condition-F Condition) → out-Condition c ≡ layer
    → (cells : List Scalar) → verdict c cells ≡ layer_says layer cells
verdict_layer c layer is cells = ap (λ (says : Says). says cells) (verdict_out c ∙ ap layer_says is)

module _ (cells : List Scalar) where
  pub verdict_silent : verdict condition.Silent cells ≡ None
  verdict_silent = verdict_layer _ _ outs-Silent cells

  pub verdict_constant : (b : Bool) → verdict (condition.Constant b) cells ≡ Some b
  verdict_constant b = verdict_layer _ _ (outs-Constant b) cells

  pub verdict_number : (sign : Binary) (place : ℕ) (n : ℤ)
      → verdict (condition.Number sign place n) cells ≡ sign_verdict sign (slice_get cells place) (scalar.Int n)
  verdict_number sign place n = verdict_layer _ _ (outs-Number sign place n) cells

  pub verdict_literal : (sign : Binary) (place : ℕ) (s : Scalar)
      → verdict (condition.Literal sign place s) cells ≡ sign_verdict sign (slice_get cells place) s
  verdict_literal sign place s = verdict_layer _ _ (outs-Literal sign place s) cells

  pub verdict_search : (op : Op) (place : ℕ) (text : List ℕ)
      → verdict (condition.Search op place text) cells ≡ search_verdict op (slice_get cells place) (scalar.Text text)
  verdict_search op place text = verdict_layer _ _ (outs-Search op place text) cells

  pub verdict_cells : (sign : Binary) (a b : ℕ)
      → verdict (condition.Cells sign a b) cells ≡ cells_verdict sign (slice_get cells a) (slice_get cells b)
  verdict_cells sign a b = verdict_layer _ _ (outs-Cells sign a b) cells

  pub verdict_truth : (place : ℕ) → verdict (condition.Truth place) cells ≡ truth_verdict (slice_get cells place)
  verdict_truth place = verdict_layer _ _ (outs-Truth place) cells

  pub verdict_value : (place : ℕ) → verdict (condition.HasValue place) cells ≡ value_verdict (slice_get cells place)
  verdict_value place = verdict_layer _ _ (outs-HasValue place) cells

  pub verdict_not : (a : Condition) → verdict (condition.Not a) cells ≡ not_verdict (verdict a cells)
  verdict_not a = verdict_layer _ _ (outs-Not a) cells

  pub verdict_both : (a b : Condition)
      → verdict (condition.Both a b) cells ≡ both_verdicts (verdict a cells) (verdict b cells)
  verdict_both a b = verdict_layer _ _ (outs-Both a b) cells

  pub verdict_either : (a b : Condition)
      → verdict (condition.Either a b) cells ≡ either_verdict (verdict a cells) (verdict b cells)
  verdict_either a b = verdict_layer _ _ (outs-Either a b) cells

  -- one step down a chain of `&&`, whose first operand was true
  pub chain_on : (first rest next others : Condition) (said : Option Bool) → verdict first cells ≡ Some true → rest ≡ condition.Both next others
      → both_verdicts (verdict first cells) (verdict rest cells) ≡ said → both_verdicts (verdict next cells) (verdict others cells) ≡ said
  chain_on first rest next others said holds is so_far =
      sym (ap (λ c. verdict c cells) is ∙ verdict_both next others)
      ∙ sym (ap (λ t. both_verdicts t (verdict rest cells)) holds)
      ∙ so_far

pub ruleset verdicts = (verdict_silent, verdict_constant, verdict_number, verdict_literal, verdict_search, verdict_cells, verdict_truth, verdict_value, verdict_not, verdict_both, verdict_either)

-- ---- what a condition is built to say

pub number_sign : (sign : Binary) (place : ℕ) (n : ℤ) (s : Scalar) (c : Condition)
    → c ≡ condition.Number sign place n → s ≡ scalar.Int n → IsSign sign place s c
number_sign sign place n s c is number =
    record {
      at = λ cells.
          ap (λ d. verdict d cells) is ∙ verdict_number cells sign place n ∙ ap (sign_verdict sign (slice_get cells place)) (sym number);
    }

pub literal_sign : (sign : Binary) (place : ℕ) (s : Scalar) → IsSign sign place s (condition.Literal sign place s)
literal_sign sign place s = record { at = λ cells. verdict_literal cells sign place s }

pub search_made : (op : Op) (place : ℕ) (text : List ℕ) → IsSearch op place (scalar.Text text) (condition.Search op place text)
search_made op place text = record { at = λ cells. verdict_search cells op place text }

-- in nothing but a text is anything looked for
no_search : (op : Op) (found : Option Scalar) (s : Scalar) → ((text : List ℕ) → s ≡ scalar.Text text → ⊥) → search_verdict op found s ≡ None
no_search op None s other = refl
no_search op (Some x) (scalar.Text text) other = absurd (other text refl)
no_search op (Some scalar.Null) scalar.Null other = refl
no_search op (Some (scalar.Int n)) scalar.Null other = refl
no_search op (Some (scalar.Bool b)) scalar.Null other = refl
no_search op (Some (scalar.Text t)) scalar.Null other = refl
no_search op (Some scalar.Null) (scalar.Int n) other = refl
no_search op (Some (scalar.Int m)) (scalar.Int n) other = refl
no_search op (Some (scalar.Bool c)) (scalar.Int n) other = refl
no_search op (Some (scalar.Text t)) (scalar.Int n) other = refl
no_search op (Some scalar.Null) (scalar.Bool b) other = refl
no_search op (Some (scalar.Int m)) (scalar.Bool b) other = refl
no_search op (Some (scalar.Bool c)) (scalar.Bool b) other = refl
no_search op (Some (scalar.Text t)) (scalar.Bool b) other = refl

pub search_silent : (op : Op) (place : ℕ) (s : Scalar) → ((text : List ℕ) → s ≡ scalar.Text text → ⊥) → IsSearch op place s condition.Silent
search_silent op place s other = record { at = λ cells. verdict_silent cells ∙ sym (no_search op (slice_get cells place) s other) }

pub cells_made : (sign : Binary) (left right : ℕ) → IsCells sign left right (condition.Cells sign left right)
cells_made sign left right = record { at = λ cells. verdict_cells cells sign left right }

pub truth_made : (place : ℕ) → IsTruth place (condition.Truth place)
truth_made place = record { at = λ cells. verdict_truth cells place }

pub value_made : (place : ℕ) → IsValue place (condition.HasValue place)
value_made place = record { at = λ cells. verdict_value cells place }

pub not_made : (a : Condition) → IsNot a (condition.Not a)
not_made a = record { at = λ cells. verdict_not cells a }

pub not_silent : IsNot condition.Silent condition.Silent
not_silent = record { at = λ cells. verdict_silent cells ∙ sym (ap not_verdict (verdict_silent cells)) }

pub not_constant : (b : Bool) → IsNot (condition.Constant b) (condition.Constant (not b))
not_constant b = record { at = λ cells. verdict_constant cells (not b) ∙ sym (ap not_verdict (verdict_constant cells b)) }

pub both_made : (a b : Condition) → IsBoth a b (condition.Both a b)
both_made a b = record { at = λ cells. verdict_both cells a b }

pub both_true : (b : Condition) → IsBoth (condition.Constant true) b b
both_true b = record { at = λ cells. sym (ap (λ t. both_verdicts t (verdict b cells)) (verdict_constant cells true)) }

pub both_silent : (b : Condition) → IsBoth condition.Silent b condition.Silent
both_silent b =
    record { at = λ cells. verdict_silent cells ∙ sym (ap (λ t. both_verdicts t (verdict b cells)) (verdict_silent cells)) }

-- a chain that goes on: what follows its first operand is one condition with what is behind the chain
both_again : (a b c : Option Bool) → both_verdicts a (both_verdicts b c) ≡ both_verdicts (both_verdicts a b) c
both_again None b c = refl
both_again (Some true) b c = refl
both_again (Some false) b c = refl

pub both_chained : (a b c rest : Condition) → IsBoth b c rest → IsBoth (condition.Both a b) c (condition.Both a rest)
both_chained a b c rest made = record {
  at = λ cells.
      verdict_both cells a rest
      ∙ ap (both_verdicts (verdict a cells)) (made.at cells)
      ∙ both_again (verdict a cells) (verdict b cells) (verdict c cells)
      ∙ sym (ap (λ t. both_verdicts t (verdict c cells)) (verdict_both cells a b));
}

pub either_made : (a b : Condition) → IsEither a b (condition.Either a b)
either_made a b = record { at = λ cells. verdict_either cells a b }

pub either_silent : (b : Condition) → IsEither condition.Silent b condition.Silent
either_silent b =
    record { at = λ cells. verdict_silent cells ∙ sym (ap (λ t. either_verdict t (verdict b cells)) (verdict_silent cells)) }

pub ruleset conditions_made = (number_sign, literal_sign, both_made, both_chained, both_true, both_silent, either_made, either_silent)

pub ruleset searches_made = (search_made, search_silent)

pub ruleset places_made = (cells_made, truth_made, value_made)

pub ruleset opposites_made = (not_made, not_silent, not_constant)

-- ---- signs that are turned

same_turned : (a b : Scalar) → same_content fault.NullReference a b ≡ same_content fault.NullReference b a
same_turned scalar.Null scalar.Null = refl
same_turned scalar.Null (scalar.Int n) = refl
same_turned scalar.Null (scalar.Bool true) = refl
same_turned scalar.Null (scalar.Bool false) = refl
same_turned scalar.Null (scalar.Text t) = refl
same_turned (scalar.Int m) scalar.Null = refl
same_turned (scalar.Int m) (scalar.Int n) = ap (λ (b : Bool). Ok b) (int_eq_equiv.symm m n)
same_turned (scalar.Int m) (scalar.Bool true) = refl
same_turned (scalar.Int m) (scalar.Bool false) = refl
same_turned (scalar.Int m) (scalar.Text t) = refl
same_turned (scalar.Bool true) scalar.Null = refl
same_turned (scalar.Bool true) (scalar.Int n) = refl
same_turned (scalar.Bool true) (scalar.Bool true) = refl
same_turned (scalar.Bool true) (scalar.Bool false) = refl
same_turned (scalar.Bool true) (scalar.Text t) = refl
same_turned (scalar.Bool false) scalar.Null = refl
same_turned (scalar.Bool false) (scalar.Int n) = refl
same_turned (scalar.Bool false) (scalar.Bool true) = refl
same_turned (scalar.Bool false) (scalar.Bool false) = refl
same_turned (scalar.Bool false) (scalar.Text t) = refl
same_turned (scalar.Text s) scalar.Null = refl
same_turned (scalar.Text s) (scalar.Int n) = refl
same_turned (scalar.Text s) (scalar.Bool true) = refl
same_turned (scalar.Text s) (scalar.Bool false) = refl
same_turned (scalar.Text s) (scalar.Text t) = ap (λ (b : Bool). Ok b) (nat_list_eq_equiv.symm s t)

-- what is said where this was found
abbrev said : Result Bool Fault → Option Bool
said found = unless_fault (on_ok (truth fault.NullReference found) (truth_of fault.NullReference))

pub less_turned : IsTurned binary.Less binary.Greater
less_turned = record { at = λ s x. refl }

pub greater_turned : IsTurned binary.Greater binary.Less
greater_turned = record { at = λ s x. refl }

pub at_most_turned : IsTurned binary.LessOrEqual binary.GreaterOrEqual
at_most_turned = record { at = λ s x. refl }

pub at_least_turned : IsTurned binary.GreaterOrEqual binary.LessOrEqual
at_least_turned = record { at = λ s x. refl }

pub equal_turned : IsTurned binary.Equal binary.Equal
equal_turned = record { at = λ s x. ap said (same_turned s x) }

pub not_equal_turned : IsTurned binary.NotEqual binary.NotEqual
not_equal_turned = record { at = λ s x. ap (λ (same : Result Bool Fault). said (on_ok same (λ b. Ok (not b)))) (same_turned s x) }

pub ruleset signs_turned = (less_turned, greater_turned, at_most_turned, at_least_turned, equal_turned, not_equal_turned)
