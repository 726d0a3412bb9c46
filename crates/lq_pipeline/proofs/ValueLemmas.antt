-- The items that values are given as.
use Rattle.std.proofs.Common.{◌≡◌, ◌∷◌, List, [], ap, ◌∙◌}
use Rattle.lq_value.specs.declared.scalar.Scalar.{Scalar}
use Rattle.lq_value.specs.declared.value.End.{End}
use Rattle.lq_value.specs.declared.value.End.TheVariants as end
use Rattle.lq_value.specs.declared.value.Value.{Value}
use Rattle.lq_value.specs.declared.value.Value.TheVariants as value
use Rattle.lq_pipeline.specs.Chains.{items_of_layer, items_of_value}

module _ {R : Type 0} where
  pub of_items : (v : Value R) (xs : List (Value R)) (e : End) → v ≡ value.Seq xs e → items_of_value v ≡ (xs, e)
  of_items v xs e is = ap items_of_value is ∙ ap (items_of_layer (value.Seq xs e)) (value.outs-Seq xs e)

  pub of_scalar : (v : Value R) (s : Scalar) → v ≡ value.Scalar s → items_of_value v ≡ (value.Scalar s ∷ [], end.Done)
  of_scalar v s is = ap items_of_value is ∙ ap (items_of_layer (value.Scalar s)) (value.outs-Scalar s)

  pub of_row : (v : Value R) (r : R) → v ≡ value.Row r → items_of_value v ≡ (value.Row r ∷ [], end.Done)
  of_row v r is = ap items_of_value is ∙ ap (items_of_layer (value.Row r)) (value.outs-Row r)

pub ruleset values = (of_items, of_scalar, of_row)
