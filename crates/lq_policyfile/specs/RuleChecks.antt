-- Which rules of policies are truth values, and which can't fault.
use Rattle.std.specs.Prelude.{List, [], Bool}
use Rattle.std.specs.List.{list_all}
use Rattle.lq_value.specs.Tables.{Table}
use Rattle.lq_value.specs.declared.table.Column.{Column}
use Rattle.lq_security.specs.Totality.{is_total}
use Rattle.lq_security.specs.TotalityLaws.{rule_names_among}
use Rattle.lq_language.specs.OperandTypes.{is_bool_type}
use Rattle.lq_language.specs.RuleTyping.{rule_type}
use Rattle.lq_language.specs.declared.host_name.HostName.{HostName}
use Rattle.lq_grammar.specs.declared.syntax.Expr.{Expr}
use Rattle.lq_policyfile.specs.Names.{all_pass, columns_of}
use Rattle.lq_policyfile.specs.declared.entry.PolicyEntry.{PolicyEntry}

-- A rule is a truth value over `row`, with these columns, and `user`. No rule spells the name of the one table, which is empty. A rule that asks one
-- of these host predicates may be typed, and is then not total.
abbrev pub is_typed : List HostName → List Column → Expr → Bool
is_typed hosts columns rule = is_bool_type (rule_type rule (rule_names_among hosts [] columns))

abbrev pub is_policy_typed : List Table → List HostName → PolicyEntry → Bool
is_policy_typed tables hosts policy = all_pass (is_typed hosts (columns_of tables policy.table)) policy.rules

abbrev pub are_rules_typed : List Table → List HostName → List PolicyEntry → Bool
are_rules_typed tables hosts policies = list_all (is_policy_typed tables hosts) policies

abbrev pub are_rules_total : List PolicyEntry → Bool
are_rules_total policies = list_all (λ policy. all_pass is_total policy.rules) policies
