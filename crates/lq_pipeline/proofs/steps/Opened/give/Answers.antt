-- The last of the items comes next.
use Rattle.std.proofs.Common.{rules, ◌≡◌, ◌∷◌, List, [], reverse, ap, ◌∙◌, refl, subst, sym}
use Rattle.std.proofs.lemmas.List.{reverse-append}
use Rattle.lq_value.specs.declared.value.Value.{Value}
use Rattle.lq_language.specs.TableRows.{TableRow}
use Rattle.lq_pipeline.specs.Places.{Gives}
use Rattle.lq_pipeline.proofs.steps.Opened.give.Goals as goal

pub returns-in-Some-clause-gives : goal.returns-in-Some-clause-gives
returns-in-Some-clause-gives c =
    λ world f. (
      (reverse c.pop.new.self.items, c.args.end),
      refl,
      ap (λ (l : List (Value TableRow)). (reverse l, c.args.end)) c.in-Some.ensures.items
          ∙ ap (λ (l : List (Value TableRow)). (l, c.args.end)) (reverse-append c.pop.new.self.items (c.in-Some.item ∷ [])),
    )

pub returns-clause-gives : goal.returns-clause-gives
returns-clause-gives c =
    let none : c.args.items.items ≡ [] = search rules in
    λ world f.
    let gives = c.end.ensures.gives world f in
    (gives.0, gives.1, subst (λ (l : List (Value TableRow)). Gives (reverse l, c.args.end) c.end.result gives.0) (sym none) gives.2)
