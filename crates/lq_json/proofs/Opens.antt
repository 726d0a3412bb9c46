-- The folds over values, types and shapes, one layer at a time.
use Rattle.std.proofs.Common.{◌≡◌, List, ℕ, Option, ap, ap₂, ◌∙◌, ◌∷◌, [], map, refl, slice_get, sym}
use Rattle.serde_json.specs.Data.{Data, member, object}
use Rattle.lq_value.specs.declared.scalar.Scalar.{Scalar}
use Rattle.lq_value.specs.declared.table.Schema.{Schema}
use Rattle.lq_value.specs.declared.ty.Ty.{Ty, fold_out-Ty, map-Ty, out-Ty}
use Rattle.lq_value.specs.declared.ty.Ty as of_ty
use Rattle.lq_value.specs.declared.ty.Ty.TheVariants as ty
use Rattle.lq_value.specs.declared.ty.Ty.TheVariants.{outs-Rec as outs-ty-Rec}
use Rattle.lq_value.specs.declared.value.Fault.{Fault}
use Rattle.lq_value.specs.declared.value.Value.{Value, map-Value, out-Value}
use Rattle.lq_value.specs.declared.value.Value.TheVariants as value
use Rattle.lq_value.specs.declared.value.Value.TheVariants.{outs-Group, outs-Rec}
use Rattle.lq_machine.specs.Served.{fault_step, first_member, group_members, nested_fault}
use Rattle.lq_value.specs.declared.value.Value as of_value
use Rattle.lq_machine.proofs.ServedLaws.{fault_out}
use Rattle.lq_json.specs.Shapes.{by_step, data_by, fields_by, fields_from, fields_in, layer_by, member_data, shape_of, shape_step}
use Rattle.lq_json.specs.declared.shape.Shape.{Shape, fold_out-Shape, map-Shape, out-Shape}
use Rattle.lq_json.specs.declared.shape.Shape as of_shape
use Rattle.lq_json.specs.declared.shape.Shape.TheVariants as shape
use Rattle.lq_json.specs.declared.shape.Shape.TheVariants.{outs-Group as outs-shape-Group, outs-Rec as outs-shape-Rec}

module _ {R : Type 0} (cells_of : R → List Scalar) where
  pub data_out : (f : Shape) (v : Value R) → data_by cells_of f v ≡ layer_by cells_of (map-Shape Shape (Value R → Data) (data_by cells_of) (out-Shape f)) (out-Value R v)
  unfolding data_by
  data_out f v = ap (λ (g : Value R → Data). g v) (fold_out-Shape (Value R → Data) (by_step cells_of) f)

  -- the members that a shape writes, by the shapes themselves
  pub fields_mapped : (fs : List (List ℕ × (ℕ × Shape))) (ms : List (List ℕ × Value R)) → fields_in (map (λ f. (f.0, (f.1.0, data_by cells_of f.1.1))) fs) ms ≡ fields_by (data_by cells_of) fs ms
  fields_mapped [] ms = refl
  fields_mapped (f ∷ fs) ms = ap (member f.0 (member_data (data_by cells_of f.1.1) (slice_get ms f.1.0))) (fields_mapped fs ms)

  pub record_out : (f : Shape) (v : Value R) (fs : List (List ℕ × (ℕ × Shape))) (ms : List (List ℕ × Value R)) → f ≡ shape.Rec fs → v ≡ value.Rec ms
      → object (fields_by (data_by cells_of) fs ms) ≡ data_by cells_of f v
  record_out f v fs ms f_is v_is =
      ap object (sym (fields_mapped fs ms))
      ∙ sym (ap₂ (data_by cells_of) f_is v_is ∙ data_out (shape.Rec fs) (value.Rec ms)
      ∙ ap₂ (λ layer of_value. layer_by cells_of (map-Shape Shape (Value R → Data) (data_by cells_of) layer) of_value) (outs-shape-Rec fs) (outs-Rec ms))

  pub group_out : (f : Shape) (v : Value R) (of_key of_item : Shape) (key : Value R) (items : List (Value R)) → f ≡ shape.Group of_key of_item → v ≡ value.Group key items
      → object (group_members (data_by cells_of of_key key) (map (data_by cells_of of_item) items)) ≡ data_by cells_of f v
  group_out f v of_key of_item key items f_is v_is =
      sym (ap₂ (data_by cells_of) f_is v_is ∙ data_out (shape.Group of_key of_item) (value.Group key items)
      ∙ ap₂ (λ layer of_value. layer_by cells_of (map-Shape Shape (Value R → Data) (data_by cells_of) layer) of_value) (outs-shape-Group of_key of_item) (outs-Group key items))

-- ---- faults

module _ (R : Type 0) where
  pub record_fault : (v : Value R) (ms : List (List ℕ × Value R)) → v ≡ value.Rec ms → nested_fault v ≡ first_member (map (λ m. (m.0, nested_fault m.1)) ms)
  record_fault v ms h = ap nested_fault h ∙ fault_out R (value.Rec ms) ∙ ap (λ layer. fault_step (map-Value R (Value R) (Option Fault) nested_fault layer)) (outs-Rec ms)

pub shape_out : (schemas : List Schema) (t : Ty) → shape_of schemas t ≡ shape_step schemas (map-Ty Ty Shape (shape_of schemas) (out-Ty t))
unfolding shape_of
shape_out schemas t = fold_out-Ty Shape (shape_step schemas) t

-- the shape of a record type
pub record_shape : (schemas : List Schema) (t : Ty) (ms : List (List ℕ × Ty)) → t ≡ ty.Rec ms
    → shape.Rec (fields_from 0 (map (λ m. (m.0, shape_of schemas m.1)) ms)) ≡ shape_of schemas t
record_shape schemas t ms h = sym (ap (shape_of schemas) h ∙ shape_out schemas (ty.Rec ms) ∙ ap (λ layer. shape_step schemas (map-Ty Ty Shape (shape_of schemas) layer)) (outs-ty-Rec ms))

pub ruleset nested = (fault_out, of_value.the_lemmas)

pub ruleset shaping = (shape_out, of_ty.the_lemmas)

pub ruleset writing = (data_out, of_shape.the_lemmas, of_value.the_lemmas)
