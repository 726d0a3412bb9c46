-- The condition that policies keep.
use Rattle.std.specs.Prelude.{◌&&◌, List, Bool, true, Option, Some, None}
use Rattle.std.specs.List.{list_all}
use Rattle.lq_security.specs.Totality.{is_total}
use Rattle.lq_security.specs.declared.policy.Policy.{Policy}
use Rattle.lq_grammar.specs.declared.syntax.Expr.{Expr}

-- a rule that is there is total by its form
abbrev pub is_rule_total : Option Expr → Bool
is_rule_total None = true
is_rule_total (Some rule) = is_total rule

abbrev pub is_policy_total : Policy → Bool
is_policy_total policy = is_rule_total policy.using && is_rule_total policy.check

-- each rule of each policy is total
abbrev pub are_rules_total : List Policy → Bool
are_rules_total policies = list_all is_policy_total policies
