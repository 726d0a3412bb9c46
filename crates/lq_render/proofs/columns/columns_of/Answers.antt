-- One item more has added its names, and is not to come any more.
use Rattle.std.proofs.Common.{◌+◌, ◌∙◌, List, ℕ, ap, drop, fold, map, sym}
use Rattle.std.proofs.lemmas.List.{at_drop_more}
use Rattle.serde_json.specs.View.{view}
use Rattle.serde_json.specs.declared.value.Value.{Value}
use Rattle.lq_render.specs.Parts.{with_names}
use Rattle.lq_render.proofs.columns.columns_of.Goals as goal

pub loop-item-preserved : goal.loop-item-preserved
loop-item-preserved c =
    let items = c.args.items.now in
    let i = c.loop-item.item-index in
    let found = c.loop-item.found.items in
    let item = c.item-item.result in
    let names_with = λ (values : List Value). fold with_names found (map view values) in
    ap (λ (names : List (List ℕ)). fold with_names names (map view (drop (i + 1) items)))
    (c.in_ok-add_names.ensures ∙ ap (λ (value : Value). with_names found (view value)) c.item-item.is)
    ∙ sym (at_drop_more names_with items i item c.loop-item-test.true)
    ∙ c.loop-item.invariant
