-- Where an item of a list or a part of it is refused, the list is; and a join is its inner side, and what comes of the pairs.
use Rattle.std.proofs.Common.{◌≡◌, rules, List, Option, Some, Err, ap, refl, sym, subst, ◌∙◌, option_and_then}
use Rattle.lq_language.specs.declared.calls.Operator.{Operator}
use Rattle.lq_language.specs.declared.calls.Term.{Term}
use Rattle.lq_tree.specs.Binding.{field_with, gathered, key_with, term_tree, walked}
use Rattle.lq_tree.specs.declared.tree.Tree.{Tree}
use Rattle.lq_bind.specs.Bound.{body_at, field_at, inner_side_at, joined_at, operator_at, part_at, places_at, schemas_in, sort_key_at}
use Rattle.lq_bind.specs.Frames.{GivesStage, pattern_in, stage_in}
use Rattle.lq_bind.specs.Outcomes.{Gives}
use Rattle.lq_bind.specs.declared.pairs.InnerSide.{InnerSide}
use Rattle.lq_bind.specs.declared.variables.Variables.{Variables}
use Rattle.lq_bind.proofs.TermLaws.{join_by_sides}
use Rattle.lq_bind.proofs.WalkLemmas.{gather_stops, stops_beyond, walk_stops}
use Rattle.lq_bind.proofs.binder.Binder.+binding.Goals as goal

pub operators-returns-in_err-next : goal.operators-returns-in_err-next
operators-returns-in_err-next t c =
    let same : c.from_residual.result ≡ Err c.in_err-next.field-0.0 = search rules in
    subst (λ r. GivesStage (walked (operator_at c.args.self.now c.args.frame.now) (stage_in c.args.first) c.args.operators.now) r) (sym same)
    (walk_stops (operator_at c.args.self.now c.args.frame.now) c.args.operators.now _ _ _ _ c.operator-item.is c.loop-operator-test.true
    c.in_err-next.field-0.0 c.in_err-next.ensures c.loop-operator.invariant)

pub parts-returns-in_err-next : goal.parts-returns-in_err-next
parts-returns-in_err-next t c =
    let same : c.from_residual.result ≡ Err c.in_err-next.field-0.0 = search rules in
    subst (λ r. Gives (walked (part_at c.args.self.now c.args.frame.now) c.args.first c.args.parts.now) r) (sym same)
    (walk_stops (part_at c.args.self.now c.args.frame.now) c.args.parts.now _ _ _ _ c.part-item.is c.loop-part-test.true c.in_err-next.field-0.0
    (subst (λ (ops : List (Operator Term)). Gives (body_at c.args.self.now c.args.frame.now c.part-item.result.name ops c.loop-part.items) (Err c.in_err-next.field-0.0))
    c.as_slice.ensures c.in_err-next.ensures)
    c.loop-part.invariant)

pub fields-returns-in_err-value : goal.fields-returns-in_err-value
fields-returns-in_err-value t c =
    let same : c.from_residual.result ≡ Err c.in_err-value.field-0.0 = search rules in
    subst (λ r. Gives (gathered (field_at c.args.self.now c.args.frame.now) c.args.fields.now) r) (sym same)
    (gather_stops (field_at c.args.self.now c.args.frame.now) c.args.fields.now _ _ _ _ c.field-item.is c.loop-field-test.true
    c.in_err-value.field-0.0 (stops_beyond (field_with c.field-item.result.name) _ refl c.in_err-value.field-0.0 c.in_err-value.ensures) c.loop-field.invariant)

pub fields-returns-in_err-member : goal.fields-returns-in_err-member
fields-returns-in_err-member t c =
    let same : c.from_residual-in_err-member.result ≡ Err c.in_err-member.field-0.0 = search rules in
    subst (λ r. Gives (gathered (field_at c.args.self.now c.args.frame.now) c.args.fields.now) r) (sym same)
    (gather_stops (field_at c.args.self.now c.args.frame.now) c.args.fields.now _ _ _ _ c.field-item.is c.loop-field-test.true
    c.in_err-member.field-0.0
    (subst (λ (value : Option Tree). Gives (field_with c.field-item.result.name value) (Err c.in_err-member.field-0.0)) (sym c.in_ok-value.ensures) c.in_err-member.ensures)
    c.loop-field.invariant)

pub sort_keys-returns-in_err-value : goal.sort_keys-returns-in_err-value
sort_keys-returns-in_err-value t c =
    let same : c.from_residual.result ≡ Err c.in_err-value.field-0.0 = search rules in
    subst (λ r. Gives (gathered (sort_key_at c.args.self.now c.args.frame.now) c.args.keys.now) r) (sym same)
    (gather_stops (sort_key_at c.args.self.now c.args.frame.now) c.args.keys.now _ _ _ _ c.key-item.is c.loop-key-test.true
    c.in_err-value.field-0.0 (stops_beyond (key_with c.key-item.result.descending) _ refl c.in_err-value.field-0.0 c.in_err-value.ensures) c.loop-key.invariant)

pub sort_keys-returns-in_err-form : goal.sort_keys-returns-in_err-form
sort_keys-returns-in_err-form t c =
    let same : c.from_residual-in_err-form.result ≡ Err c.in_err-form.field-0.0 = search rules in
    subst (λ r. Gives (gathered (sort_key_at c.args.self.now c.args.frame.now) c.args.keys.now) r) (sym same)
    (gather_stops (sort_key_at c.args.self.now c.args.frame.now) c.args.keys.now _ _ _ _ c.key-item.is c.loop-key-test.true
    c.in_err-form.field-0.0
    (subst (λ (value : Option Tree). Gives (key_with c.key-item.result.descending value) (Err c.in_err-form.field-0.0)) (sym c.in_ok-value.ensures) c.in_err-form.ensures)
    c.loop-key.invariant)

pub operator-returns-in_ok-side-in-Join : goal.operator-returns-in_ok-side-in-Join
operator-returns-in_ok-side-in-Join t c =
    subst (λ stage. GivesStage stage c.join.result)
    (sym (ap (λ (op : Operator Term). operator_at c.args.self.now c.args.frame.now op (stage_in c.args.pipeline)) c.in-Join.is
    ∙ join_by_sides (schemas_in c.args.self.now) (term_tree (schemas_in c.args.self.now)) (places_at c.args.self.now c.args.frame.now) c.in-Join.join c.in-Join.pair
    (stage_in c.args.pipeline)
    ∙ ap (option_and_then (λ (side : InnerSide). joined_at c.args.self.now c.args.frame.now c.in-Join.join c.in-Join.pair (stage_in c.args.pipeline) side))
    (subst (λ (v : Variables). inner_side_at c.args.self.now c.args.frame.now (pattern_in v) c.in-Join.join ≡ Some c.in_ok-side-in-Join.side)
    c.get.ensures c.in_ok-side-in-Join.ensures)))
    c.join.ensures
