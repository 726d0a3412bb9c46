use Rattle.std.proofs.Common.{◌∙◌, ap, sym, filter, length}
use Rattle.std.proofs.lemmas.Iterator.Adapters.{YieldsList-from_vec}
use Rattle.std.proofs.lemmas.Iterator.Consumers.{YieldsList-end}
use Rattle.std.proofs.lemmas.List.{map-id}
use Rattle.lq_value.specs.SameAndOrder.{same_values}
use Rattle.lq_value.specs.declared.value.Value.{Value}
use Rattle.lq_language.specs.Enumerable.{is_among}
use Rattle.lq_operators.specs.Arguments.{is_wanted}
use Rattle.lq_operators.proofs.sets.filter_by_lookup.Goals as goal

pub returns : goal.returns
returns g c =
    let made = c.into_iter-item-iterator.ensures.into_iter_gives in
    let vector = c.into_vec-item-items.ensures in
    let all = YieldsList-end (YieldsList-from_vec {s = c.into_iter-item-iterator.result} c.args.items (made.0 ∙ vector) (made.1
    ∙ c.into_vec-item-items.result.ok.0 ∙ ap length vector))
    c.loop-item.yielded c.loop-item.item-iterator c.loop-item.yielded_by c.next.result c.next.new.self c.in-None.is c.next.ensures.steps in
    c.loop-item.invariant
    ∙ ap (filter (λ (item : Value g.row.R.Denot). is_wanted c.args.wanted (is_among same_values item c.args.others.now))) (sym (map-id c.loop-item.yielded)
    ∙ all.0)
