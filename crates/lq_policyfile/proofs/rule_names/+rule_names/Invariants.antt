-- What each function of the walk goes down by: the depth of what it looks through, and at one depth the part. The loops go over lists whose rest decides.
use Rattle.std.proofs.Common.{◌≡◌, ◌+◌, ◌*◌, drop}
use Rattle.std.specs.List.{list_all}
use Rattle.lq_policyfile.specs.RuleNames.{argument_knows, clauses_know, continuation_knows, knows}
use Rattle.lq_policyfile.proofs.rule_names.+rule_names.Given as goal

abbrev pub decreases-is_expression_known : goal.decreases-is_expression_known
decreases-is_expression_known l = 8 * goal.size-is_expression_known l

abbrev pub decreases-are_fields_known : goal.decreases-are_fields_known
decreases-are_fields_known l = 8 * goal.size-are_fields_known l + 1

abbrev pub decreases-are_all_known : goal.decreases-are_all_known
decreases-are_all_known l = 8 * goal.size-are_all_known l + 1

abbrev pub decreases-is_argument_known : goal.decreases-is_argument_known
decreases-is_argument_known l = 8 * goal.size-is_argument_known l + 1

abbrev pub decreases-are_arguments_known : goal.decreases-are_arguments_known
decreases-are_arguments_known l = 8 * goal.size-are_arguments_known l + 2

abbrev pub decreases-is_last_known : goal.decreases-is_last_known
decreases-is_last_known l = 8 * goal.size-is_last_known l + 1

abbrev pub decreases-are_keys_known : goal.decreases-are_keys_known
decreases-are_keys_known l = 8 * goal.size-are_keys_known l + 1

abbrev pub decreases-is_join_known : goal.decreases-is_join_known
decreases-is_join_known l = 8 * goal.size-is_join_known l + 1

abbrev pub decreases-is_clause_known : goal.decreases-is_clause_known
decreases-is_clause_known l = 8 * goal.size-is_clause_known l + 2

abbrev pub decreases-is_body_known : goal.decreases-is_body_known
decreases-is_body_known l = 8 * goal.size-is_body_known l + 3

abbrev pub decreases-are_continuations_known : goal.decreases-are_continuations_known
decreases-are_continuations_known l = 8 * goal.size-are_continuations_known l + 4

abbrev pub decreases-is_query_known : goal.decreases-is_query_known
decreases-is_query_known l = 8 * goal.size-is_query_known l + 5

abbrev pub decreases-is_node_known : goal.decreases-is_node_known
decreases-is_node_known l = 8 * goal.size-is_node_known l + 3

abbrev pub invariant-are_all_known-loop-expression : goal.invariant-are_all_known-loop-expression
invariant-are_all_known-loop-expression l =
    list_all (λ expression. knows l.hosts l.columns expression l.hidden) (drop l.expression-index l.expressions)
    ≡ list_all (λ expression. knows l.hosts l.columns expression l.hidden) l.expressions

abbrev pub invariant-are_arguments_known-loop-argument : goal.invariant-are_arguments_known-loop-argument
invariant-are_arguments_known-loop-argument l =
    list_all (argument_knows (knows l.hosts l.columns) l.hidden) (drop l.argument-index l.arguments) ≡ list_all (argument_knows (knows l.hosts l.columns) l.hidden) l.arguments

abbrev pub invariant-is_body_known-loop-clause : goal.invariant-is_body_known-loop-clause
invariant-is_body_known-loop-clause l =
    clauses_know (knows l.hosts l.columns) l.outer l.hidden (drop l.clause-index l.body.clauses) l.body.last
    ≡ clauses_know (knows l.hosts l.columns) l.outer l.fn.hidden l.body.clauses l.body.last

abbrev pub invariant-are_continuations_known-loop-next : goal.invariant-are_continuations_known-loop-next
invariant-are_continuations_known-loop-next l =
    list_all (continuation_knows (knows l.hosts l.columns) l.outer) (drop l.next-index l.continuations) ≡ list_all (continuation_knows (knows l.hosts l.columns) l.outer) l.continuations

abbrev pub invariant-are_fields_known-loop-field : goal.invariant-are_fields_known-loop-field
invariant-are_fields_known-loop-field l =
    list_all (λ field. knows l.hosts l.columns field.value l.hidden) (drop l.field-index l.fields) ≡ list_all (λ field. knows l.hosts l.columns field.value l.hidden) l.fields

abbrev pub invariant-are_keys_known-loop-key : goal.invariant-are_keys_known-loop-key
invariant-are_keys_known-loop-key l =
    list_all (λ key. knows l.hosts l.columns key.value l.hidden) (drop l.key-index l.keys) ≡ list_all (λ key. knows l.hosts l.columns key.value l.hidden) l.keys
