-- What a rule is on a row, by its evaluation; a total one builds no text.
use Rattle.std.proofs.Common.{◌≡◌, List, ℕ, Bool, true, false, Result, Ok, Err, ap, ◌∙◌, sym, map, arith}
use Rattle.std.proofs.lemmas.List.{map-id}
use Rattle.std.specs.Result.{result_unwrap_or}
use Rattle.lq_value.specs.declared.scalar.Scalar.{Scalar}
use Rattle.lq_value.specs.declared.value.Value.TheVariants.{outs-Row, outs-Scalar}
use Rattle.lq_security.specs.Totality.{is_total}
use Rattle.lq_security.specs.Visible.{is_true, rule_holds, rule_scope, rule_world}
use Rattle.lq_grammar.specs.declared.syntax.Expr.{Expr}
use Rattle.lq_security.proofs.TotalityLaws.{tells_total}
use Rattle.lq_scalar.specs.Shapes.{IsSparing, IsTruth, truth_of_expression}
use Rattle.lq_scalar.specs.Sums.{sums_in}
use Rattle.lq_scalar.specs.declared.error.ScalarError.{ScalarError}
use Rattle.lq_scalar.specs.declared.error.ScalarError.TheVariants as error
use Rattle.lq_scalar.proofs.ShapeLaws.{rule_is}
use Rattle.lq_scalar.proofs.SumLemmas.{total_has_no_sum}

pub ruleset values = (outs-Row, outs-Scalar)

-- what a total rule is found to be is whether it holds
pub rule_decides : (columns : List (List ℕ)) (cells : List Scalar) (user : List ℕ) (rule : Expr) → is_total rule ≡ true → (found : Result Bool ScalarError)
    → IsTruth (truth_of_expression (rule_world columns) (rule_scope cells user) rule) found → IsSparing (sums_in rule) found → result_unwrap_or found false ≡ rule_holds columns rule cells user
rule_decides columns cells user rule total (Ok b) h spares = sym (ap is_true (rule_is columns cells user rule ∙ h))
rule_decides columns cells user rule total (Err (error.Fault f)) h spares = sym (ap is_true (rule_is columns cells user rule ∙ h))
rule_decides columns cells user rule total (Err error.Memory) h spares =
    absurd (let none : sums_in rule ≡ 0 = total_has_no_sum rule ((tells_total rule).0 total) in omega (arith, none, spares))

-- names give themselves
pub names_themselves : (names : List (List ℕ)) → map (λ (name : List ℕ). name) names ≡ names
names_themselves names = map-id names
