-- What was found is given item by item.
use Rattle.std.proofs.Common.{◌≡◌, ◌∙◌, List, [], reverse, Result, ap, refl, subst, sym}
use Rattle.std.proofs.lemmas.List.{reverse-reverse}
use Rattle.lq_value.specs.declared.value.End.TheVariants as end
use Rattle.lq_value.specs.declared.value.Fault.{Fault}
use Rattle.lq_value.specs.declared.value.Value.{Value}
use Rattle.lq_language.specs.Stream.{Stream}
use Rattle.lq_language.specs.TableRows.{TableRow}
use Rattle.lq_pipeline.specs.Chains.{items_of_result}
use Rattle.lq_pipeline.specs.Places.{Gives}
use Rattle.lq_pipeline.proofs.steps.Opened.answer.Goals as goal

pub returns-in-Err-clause-gives : goal.returns-in-Err-clause-gives
returns-in-Err-clause-gives c =
    λ world f.
    let gives = c.end.ensures.gives world f in
    (gives.0, gives.1, subst (λ (r : Result (Value TableRow) Fault). Gives (items_of_result r) c.end.result gives.0) (sym c.in-Err.is) gives.2)

pub returns-in-Err-items_in-clause-gives : goal.returns-in-Err-items_in-clause-gives
returns-in-Err-items_in-clause-gives c = λ world f. (([], end.Done), refl, ap items_of_result c.in-Ok.is ∙ c.in-Err-items_in.ensures)

pub returns-in-Ok-items_in-clause-gives : goal.returns-in-Ok-items_in-clause-gives
returns-in-Ok-items_in-clause-gives c =
    let e = c.in-Ok-items_in.end in
    let same : (reverse c.reverse.new.self.items, e) ≡ items_of_result c.args.found =
    ap (λ (l : List (Value TableRow)). (reverse l, e)) c.reverse.ensures.items
    ∙ ap (λ (l : List (Value TableRow)). (l, e)) (reverse-reverse c.into_vec-items.result.items)
    ∙ ap (λ (l : List (Value TableRow)). (l, e)) c.into_vec-items.ensures
    ∙ sym (ap items_of_result c.in-Ok.is ∙ c.in-Ok-items_in.ensures) in
    λ world f.
    let gives = c.give.ensures.gives world f in
    (gives.0, gives.1, subst (λ (s : Stream (Value TableRow)). Gives s c.give.result gives.0) same gives.2)
