-- The rules of policies, prepared for the rows of their tables.
use Rattle.std.specs.Prelude.{◌≡◌, List, [], ℕ, Bool, false, Option, Some, None, map, slice_get}
use Rattle.std.specs.Borrow.{Bor}
use Rattle.std.specs.Option.{option_copied, option_or}
use Rattle.lq_value.specs.declared.scalar.Scalar.{Scalar}
use Rattle.lq_security.specs.Visible.{RowForUser, holds_on, rule_for}
use Rattle.lq_security.specs.declared.policy.Action.{Action}
use Rattle.lq_security.specs.declared.policy.Action.TheVariants as action
use Rattle.lq_security.specs.declared.policy.Policy.{Policy}
use Rattle.lq_security.specs.declared.policy.TablePart.{TablePart}
use Rattle.lq_grammar.specs.declared.syntax.Expr.{Expr}
use Rattle.lq_rule.specs.Deciding.{DecidesAs, decides}
use Rattle.lq_rule.specs.declared.rule.PreparedRule.{PreparedRule}
use Rattle.lq_policy.specs.declared.guard.Guard.{Guard}

-- the columns of the table with this number
abbrev pub columns_of : Option TablePart → List (List ℕ)
columns_of None = []
columns_of (Some part) = part.columns

abbrev pub columns_at : List TablePart → ℕ → List (List ℕ)
columns_at tables table = columns_of (slice_get tables table)

-- a row of the table with this number, for the role of a name
abbrev pub asked_at : List TablePart → ℕ → List Scalar → List ℕ → RowForUser
asked_at tables table cells user = record { user = user; columns = columns_at tables table; cells = cells }

-- whether there is a prepared rule that is true on a row for the role of a name
abbrev pub decides_on : List Scalar → List ℕ → Option PreparedRule → Bool
decides_on cells user None = false
decides_on cells user (Some rule) = decides rule cells user

-- rules that are borrowed
abbrev pub rules_of : List (Option (Bor PreparedRule)) → List (Option PreparedRule)
rules_of rules = map option_copied rules

-- the rule for an action
abbrev pub prepared_for : Action → Guard → Option PreparedRule
prepared_for action.Insert guard = option_or guard.check guard.using
prepared_for act guard = guard.using

abbrev pub rule_in : Action → Option Guard → Option PreparedRule
rule_in act None = None
rule_in act (Some guard) = prepared_for act guard

-- A prepared rule corresponds to a rule; none, to none.
abbrev pub IsPrepared : List (List ℕ) → Option Expr → Option PreparedRule → Type 0
IsPrepared columns None None = Unit {0}
IsPrepared columns None (Some prepared) = ⊥
IsPrepared columns (Some rule) None = ⊥
IsPrepared columns (Some rule) (Some prepared) = DecidesAs columns rule prepared

-- The rules of a policy, prepared for rows with these columns.
pub record Guards (columns : List (List ℕ)) (policy : Policy) (guard : Guard) : Type 0 where
  pub using : IsPrepared columns policy.using guard.using
  pub check : IsPrepared columns policy.check guard.check

-- A policy with its prepared rules.
abbrev pub IsGuarded : List TablePart → Policy → Guard → Type 0
IsGuarded tables policy guard = Guards (columns_at tables policy.table) policy guard

-- The rule of a policy, if there is the policy: on rows of its table it decides as the policy's own.
abbrev pub IsRuleOf : List TablePart → Action → Option Policy → Option PreparedRule → Type 0
IsRuleOf tables act None prepared = Unit {0}
IsRuleOf tables act (Some policy) prepared =
    (cells : List Scalar) (user : List ℕ) → decides_on cells user prepared ≡ holds_on (asked_at tables policy.table cells user) (rule_for act policy)
