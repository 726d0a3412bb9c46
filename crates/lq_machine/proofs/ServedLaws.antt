-- Values in JSON, layer by layer; a scalar is served as itself.
use Rattle.std.proofs.Common.{◌≡◌, List, Option, None, Ok, ap, ◌∙◌}
use Rattle.serde_json.specs.Data.{Data}
use Rattle.lq_value.specs.declared.scalar.Scalar.{Scalar}
use Rattle.lq_value.specs.declared.table.Schema.{Schema}
use Rattle.lq_value.specs.declared.ty.Ty.{Ty, fold_out-Ty, map-Ty, out-Ty}
use Rattle.lq_value.specs.declared.value.Fault.{Fault}
use Rattle.lq_value.specs.declared.value.Value.{Value, fold_out-Value, map-Value, out-Value}
use Rattle.lq_value.specs.declared.value.Value.TheVariants as value
use Rattle.lq_value.specs.declared.value.Value.TheVariants.{outs-Scalar}
use Rattle.lq_machine.specs.Served.{data_step, fault_step, item_data, layer_data, nested_fault, scalar_data, served_item, unless_fault}

module _ (R : Type 0) where
  -- a value's nested fault, by those of the values in it
  pub fault_out : (v : Value R) → nested_fault v ≡ fault_step (map-Value R (Value R) (Option Fault) nested_fault (out-Value R v))
  unfolding nested_fault
  fault_out v = fold_out-Value R (Option Fault) fault_step v

  pub scalar_fault : (s : Scalar) → nested_fault {R = R} (value.Scalar s) ≡ None
  scalar_fault s = fault_out (value.Scalar s) ∙ ap (λ layer. fault_step (map-Value R (Value R) (Option Fault) nested_fault layer)) (outs-Scalar s)

module _ {R : Type 0} (schemas : List Schema) (cells_of : R → List Scalar) where
  -- a value's data, by what each type in its type makes of the values in it
  pub item_out : (t : Ty) (v : Value R)
      → item_data schemas cells_of t v ≡ layer_data schemas cells_of (map-Ty Ty (Value R → Data) (item_data schemas cells_of) (out-Ty t)) (out-Value R v)
  unfolding item_data
  item_out t v = ap (λ (f : Value R → Data). f v) (fold_out-Ty (Value R → Data) (data_step schemas cells_of) t)

  pub scalar_item : (t : Ty) (s : Scalar) → item_data schemas cells_of t (value.Scalar s) ≡ scalar_data s
  scalar_item t s = item_out t (value.Scalar s) ∙ ap (layer_data schemas cells_of (map-Ty Ty (Value R → Data) (item_data schemas cells_of) (out-Ty t))) (outs-Scalar s)

  -- a scalar is served as itself, whatever its type
  pub scalar_served : (t : Ty) (s : Scalar) → served_item schemas cells_of t (value.Scalar s) ≡ Ok (scalar_data s)
  scalar_served t s =
      ap (λ (o : Option Fault). unless_fault o (item_data schemas cells_of t (value.Scalar s))) (scalar_fault R s) ∙ ap Ok (scalar_item t s)
