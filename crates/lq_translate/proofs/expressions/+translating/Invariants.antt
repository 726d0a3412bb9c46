-- What each function goes down by: the depth of what it copies, and at one depth the part of a tree that it copies.
use Rattle.std.proofs.Common.{◌≡◌, ◌+◌, ◌*◌, map, max, take}
use Rattle.lq_grammar.specs.declared.syntax.Expr.{size-Expr}
use Rattle.lq_translate.specs.Maps.{map_argument, map_clause, map_field, map_key, map_next}
use Rattle.lq_translate.specs.Translated.{translated}
use Rattle.lq_translate.proofs.expressions.+translating.Given as goal

abbrev pub decreases-translate_expression : goal.decreases-translate_expression
decreases-translate_expression l = 10 * goal.size-translate_expression l

abbrev pub decreases-held : goal.decreases-held
decreases-held l = 10 * goal.size-held l + 1

abbrev pub decreases-join_of : goal.decreases-join_of
decreases-join_of l = 10 * goal.size-join_of l + 2

abbrev pub decreases-keys_of : goal.decreases-keys_of
decreases-keys_of l = 10 * goal.size-keys_of l + 2

abbrev pub decreases-argument_of : goal.decreases-argument_of
decreases-argument_of l = 10 * goal.size-argument_of l + 2

abbrev pub decreases-clause_of : goal.decreases-clause_of
decreases-clause_of l = 10 * goal.size-clause_of l + 3

abbrev pub decreases-last_of : goal.decreases-last_of
decreases-last_of l = 10 * goal.size-last_of l + 3

abbrev pub decreases-clauses_of : goal.decreases-clauses_of
decreases-clauses_of l = 10 * goal.size-clauses_of l + 4

abbrev pub decreases-arguments_of : goal.decreases-arguments_of
decreases-arguments_of l = 10 * goal.size-arguments_of l + 4

abbrev pub decreases-fields_of : goal.decreases-fields_of
decreases-fields_of l = 10 * goal.size-fields_of l + 4

abbrev pub decreases-expressions_of : goal.decreases-expressions_of
decreases-expressions_of l = 10 * goal.size-expressions_of l + 4

abbrev pub decreases-body_of : goal.decreases-body_of
decreases-body_of l = 10 * goal.size-body_of l + 5

abbrev pub decreases-rest_of : goal.decreases-rest_of
decreases-rest_of l = 10 * goal.size-rest_of l + 6

abbrev pub decreases-query_of : goal.decreases-query_of
decreases-query_of l = 10 * goal.size-query_of l + 7

abbrev pub decreases-translate : goal.decreases-translate
decreases-translate l = 10 * goal.size-translate l + 8

abbrev pub decreases-term_of : goal.decreases-term_of
decreases-term_of l = 10 * goal.size-term_of l + 8

abbrev pub decreases-member_of : goal.decreases-member_of
decreases-member_of l = 10 * goal.size-member_of l + 2

abbrev pub decreases-unary_of : goal.decreases-unary_of
decreases-unary_of l = 10 * goal.size-unary_of l + 2

abbrev pub decreases-binary_of : goal.decreases-binary_of
decreases-binary_of l = 10 * max (size-Expr l.left.now) (size-Expr l.right.now) + 2

abbrev pub decreases-and_of : goal.decreases-and_of
decreases-and_of l = 10 * max (size-Expr l.left.now) (size-Expr l.right.now) + 2

abbrev pub decreases-or_of : goal.decreases-or_of
decreases-or_of l = 10 * max (size-Expr l.left.now) (size-Expr l.right.now) + 2

abbrev pub decreases-coalesce_of : goal.decreases-coalesce_of
decreases-coalesce_of l = 10 * max (size-Expr l.left.now) (size-Expr l.right.now) + 2

abbrev pub decreases-conditional_of : goal.decreases-conditional_of
decreases-conditional_of l = 10 * max (size-Expr l.condition.now) (max (size-Expr l.left.now) (size-Expr l.right.now)) + 2

abbrev pub decreases-host_of : goal.decreases-host_of
decreases-host_of l = 10 * goal.size-host_of l + 5

abbrev pub decreases-host_other_of : goal.decreases-host_other_of
decreases-host_other_of l = 10 * goal.size-host_other_of l + 5

abbrev pub decreases-record_of : goal.decreases-record_of
decreases-record_of l = 10 * goal.size-record_of l + 5

abbrev pub decreases-method_of : goal.decreases-method_of
decreases-method_of l = 10 * goal.size-method_of l + 5

abbrev pub decreases-call_of : goal.decreases-call_of
decreases-call_of l = 10 * goal.size-call_of l + 9

-- ---- what is copied so far

abbrev pub invariant-expressions_of-loop-expression : goal.invariant-expressions_of-loop-expression
invariant-expressions_of-loop-expression l = l.terms ≡ map translated (take l.expression-index l.expression-items)

abbrev pub invariant-fields_of-loop-field : goal.invariant-fields_of-loop-field
invariant-fields_of-loop-field l = l.translations ≡ map (map_field translated) (take l.field-index l.field-items)

abbrev pub invariant-arguments_of-loop-argument : goal.invariant-arguments_of-loop-argument
invariant-arguments_of-loop-argument l = l.translations ≡ map (map_argument translated) (take l.argument-index l.argument-items)

abbrev pub invariant-rest_of-loop-next : goal.invariant-rest_of-loop-next
invariant-rest_of-loop-next l = l.translations ≡ map (map_next translated) (take l.next-index l.next-items)

abbrev pub invariant-clauses_of-loop-clause : goal.invariant-clauses_of-loop-clause
invariant-clauses_of-loop-clause l = l.translations ≡ map (map_clause translated) (take l.clause-index l.clause-items)

abbrev pub invariant-keys_of-loop-key : goal.invariant-keys_of-loop-key
invariant-keys_of-loop-key l = l.translations ≡ map (map_key translated) (take l.key-index l.key-items)
