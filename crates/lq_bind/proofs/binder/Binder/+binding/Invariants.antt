-- What each function of the binding goes down by: the depth of what it binds, and at one depth how far the function stands from `term`; and
-- what each loop keeps.
use Rattle.std.proofs.Common.{◌+◌, ◌*◌, max}
use Rattle.lq_language.specs.declared.calls.Term.{size-Term}
use Rattle.lq_tree.specs.Binding.{gather_step, gathered, walked}
use Rattle.lq_bind.specs.Bound.{field_at, operator_at, part_at, sort_key_at}
use Rattle.lq_bind.specs.Frames.{stage_in}
use Rattle.lq_bind.proofs.Weights.{weight, weight_of}
use Rattle.lq_bind.proofs.WalkLemmas.{Walks}
use Rattle.lq_bind.proofs.binder.Binder.+binding.Given as goal

abbrev pub decreases-term : goal.decreases-term
decreases-term l = 32 * goal.size-term l + weight l.self.now.definitions.now

abbrev pub decreases-node : goal.decreases-node
decreases-node l = 32 * goal.size-node l + 31 + weight l.self.now.definitions.now

abbrev pub decreases-name : goal.decreases-name
decreases-name l = 12 + weight l.self.now.definitions.now

abbrev pub decreases-session_name : goal.decreases-session_name
decreases-session_name l = 8 + weight l.self.now.definitions.now

abbrev pub decreases-definition : goal.decreases-definition
decreases-definition l = weight_of l.defined.now + 6 + weight l.self.now.definitions.now

abbrev pub decreases-member : goal.decreases-member
decreases-member l = 32 * goal.size-member l + 5 + weight l.self.now.definitions.now

abbrev pub decreases-host : goal.decreases-host
decreases-host l = 32 * goal.size-host l + 5 + weight l.self.now.definitions.now

abbrev pub decreases-unary : goal.decreases-unary
decreases-unary l = 32 * goal.size-unary l + 5 + weight l.self.now.definitions.now

abbrev pub decreases-new_record : goal.decreases-new_record
decreases-new_record l = 32 * goal.size-new_record l + 8 + weight l.self.now.definitions.now

abbrev pub decreases-fields : goal.decreases-fields
decreases-fields l = 32 * goal.size-fields l + 6 + weight l.self.now.definitions.now

abbrev pub decreases-method : goal.decreases-method
decreases-method l = 32 * goal.size-method l + 12 + weight l.self.now.definitions.now

abbrev pub decreases-search : goal.decreases-search
decreases-search l = 32 * goal.size-search l + 10 + weight l.self.now.definitions.now

abbrev pub decreases-items_method : goal.decreases-items_method
decreases-items_method l = 32 * goal.size-items_method l + 9 + weight l.self.now.definitions.now

abbrev pub decreases-lambda_method : goal.decreases-lambda_method
decreases-lambda_method l = 32 * goal.size-lambda_method l + 5 + weight l.self.now.definitions.now

abbrev pub decreases-call : goal.decreases-call
decreases-call l = 32 * goal.size-call l + 31 + weight l.self.now.definitions.now

abbrev pub decreases-parts : goal.decreases-parts
decreases-parts l = 32 * goal.size-parts l + 28 + weight l.self.now.definitions.now

abbrev pub decreases-body : goal.decreases-body
decreases-body l = 32 * goal.size-body l + 26 + weight l.self.now.definitions.now

abbrev pub decreases-operators : goal.decreases-operators
decreases-operators l = 32 * goal.size-operators l + 24 + weight l.self.now.definitions.now

abbrev pub decreases-operator : goal.decreases-operator
decreases-operator l = 32 * goal.size-operator l + 22 + weight l.self.now.definitions.now

abbrev pub decreases-filter : goal.decreases-filter
decreases-filter l = 32 * goal.size-filter l + 5 + weight l.self.now.definitions.now

abbrev pub decreases-select : goal.decreases-select
decreases-select l = 32 * goal.size-select l + 5 + weight l.self.now.definitions.now

abbrev pub decreases-widen : goal.decreases-widen
decreases-widen l = 32 * goal.size-widen l + 5 + weight l.self.now.definitions.now

abbrev pub decreases-order_by : goal.decreases-order_by
decreases-order_by l = 32 * goal.size-order_by l + 12 + weight l.self.now.definitions.now

abbrev pub decreases-sort_keys : goal.decreases-sort_keys
decreases-sort_keys l = 32 * goal.size-sort_keys l + 10 + weight l.self.now.definitions.now

abbrev pub decreases-element : goal.decreases-element
decreases-element l = 32 * goal.size-element l + 8 + weight l.self.now.definitions.now

abbrev pub decreases-group_by : goal.decreases-group_by
decreases-group_by l = 32 * max (goal.size-group_by l) (size-Term l.key.now) + 10 + weight l.self.now.definitions.now

abbrev pub decreases-expand : goal.decreases-expand
decreases-expand l = 32 * goal.size-expand l + 12 + weight l.self.now.definitions.now

abbrev pub decreases-pair : goal.decreases-pair
decreases-pair l = 32 * goal.size-pair l + 10 + weight l.self.now.definitions.now

abbrev pub decreases-select_many : goal.decreases-select_many
decreases-select_many l = 32 * max (goal.size-select_many l) (size-Term l.source.now) + 20 + weight l.self.now.definitions.now

abbrev pub decreases-join : goal.decreases-join
decreases-join l = 32 * goal.size-join l + 12 + weight l.self.now.definitions.now

abbrev pub decreases-join_keys : goal.decreases-join_keys
decreases-join_keys l = 32 * goal.size-join_keys l + 8 + weight l.self.now.definitions.now

abbrev pub decreases-inner_side : goal.decreases-inner_side
decreases-inner_side l = 32 * goal.size-inner_side l + 10 + weight l.self.now.definitions.now

abbrev pub decreases-operation : goal.decreases-operation
decreases-operation l = 32 * max (size-Term l.left.now) (size-Term l.right.now) + 6 + weight l.self.now.definitions.now

abbrev pub decreases-operation_beside : goal.decreases-operation_beside
decreases-operation_beside l = 32 * size-Term l.right.now + 5 + weight l.self.now.definitions.now

abbrev pub decreases-conditional : goal.decreases-conditional
decreases-conditional l = 32 * max (size-Term l.condition.now) (max (size-Term l.left.now) (size-Term l.right.now)) + 7 + weight l.self.now.definitions.now

abbrev pub decreases-choice : goal.decreases-choice
decreases-choice l = 32 * max (size-Term l.left.now) (size-Term l.right.now) + 6 + weight l.self.now.definitions.now

abbrev pub decreases-choice_beside : goal.decreases-choice_beside
decreases-choice_beside l = 32 * size-Term l.right.now + 5 + weight l.self.now.definitions.now

abbrev pub decreases-method_of : goal.decreases-method_of
decreases-method_of l = 32 * max (goal.size-method_of l) (size-Term l.receiver.now) + 14 + weight l.self.now.definitions.now

-- ---- loops

-- what comes of the items that are left, behind what is in hand, is what comes of all of them
abbrev pub invariant-fields-loop-field : goal.invariant-fields-loop-field
invariant-fields-loop-field l =
    Walks (gather_step (field_at l.fn.self l.fn.frame)) l.fields (gathered (field_at l.fn.self l.fn.frame) l.fields) l.members l.field-index

abbrev pub invariant-sort_keys-loop-key : goal.invariant-sort_keys-loop-key
invariant-sort_keys-loop-key l =
    Walks (gather_step (sort_key_at l.fn.self l.fn.frame)) l.keys (gathered (sort_key_at l.fn.self l.fn.frame) l.keys) l.forms l.key-index

abbrev pub invariant-parts-loop-part : goal.invariant-parts-loop-part
invariant-parts-loop-part l =
    Walks (part_at l.fn.self l.fn.frame) l.parts (walked (part_at l.fn.self l.fn.frame) l.fn.first l.parts) l.items l.part-index

abbrev pub invariant-operators-loop-operator : goal.invariant-operators-loop-operator
invariant-operators-loop-operator l =
    Walks (operator_at l.fn.self l.fn.frame) l.operators (walked (operator_at l.fn.self l.fn.frame) (stage_in l.fn.first) l.operators)
    (stage_in l.pipeline) l.operator-index
