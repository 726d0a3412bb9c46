-- Items that are pushed one by one.
use Rattle.std.proofs.Common.{◌≡◌, ◌∷◌, ◌++◌, ◌∙◌, List, [], true, false, ap, ap₂, append_assoc, refl, subst, sym}
use Rattle.serde_json.specs.Data.{Data}
use Rattle.serde_json.specs.Written.{comma_if, compact_text}
use Rattle.lq_value.specs.declared.scalar.Scalar.{Scalar}
use Rattle.lq_value.specs.declared.table.Schema.{Schema}
use Rattle.lq_value.specs.declared.ty.Ty.{Ty}
use Rattle.lq_value.specs.declared.value.Value.{Value}
use Rattle.lq_machine.specs.Served.{item_data}
use Rattle.lq_json.specs.Items.{Holds, Pushes}
use Rattle.lq_json.specs.Shapes.{data_by, shape_of}
use Rattle.lq_json.specs.Texts.{has_any, items_front, texts}
use Rattle.lq_json.specs.declared.items.ItemsLine.{ItemsLine}
use Rattle.lq_json.specs.declared.pushing.Writing.{Writing}
use Rattle.lq_json.specs.declared.shape.Shape.{Shape}
use Rattle.lq_json.proofs.ShapeLemmas.{shape_makes}
use Rattle.lq_json.proofs.Written.{texts_more}

-- one item more is held
pub holds_more : (old new : ItemsLine) (d : Data) (ds : List Data) → Pushes old new d → Holds old ds → Holds new (ds ++ d ∷ [])
holds_more old new d ds pushes holds = record {
  text =
      pushes.text ∙ ap₂ (λ t b. t ++ (comma_if b ++ compact_text d)) holds.text holds.later ∙ append_assoc items_front (texts false ds) _
      ∙ ap (λ t. items_front ++ t) (texts_more false ds d);
  later = pushes.later ∙ sym (any_more ds);
} where
  any_more : (es : List Data) → has_any (es ++ d ∷ []) ≡ true
  any_more [] = refl
  any_more (e ∷ es) = refl

-- and it is what the type makes of the value
pub more_by_type : {R : Type 0} (cells_of : R → List Scalar) (schemas : List Schema) (t : Ty) (v : Value R) (shape : Shape) (line : ItemsLine) (ds : List Data)
    → shape ≡ shape_of schemas t → Holds line (ds ++ data_by cells_of shape v ∷ []) → Holds line (ds ++ item_data schemas cells_of t v ∷ [])
more_by_type cells_of schemas t v shape line ds is holds =
    subst (λ (d : Data). Holds line (ds ++ d ∷ []))
    (ap (λ (s : Shape). data_by cells_of s v) is ∙ ap (λ (f : Value _ → Data). f v) (shape_makes schemas cells_of t)) holds

-- so it is of what is written
pub written_more : {R : Type 0} (cells_of : R → List Scalar) (schemas : List Schema) (t : Ty) (v : Value R) (old new : Writing) (ds : List Data)
    → Holds old.line ds × (old.shape ≡ shape_of schemas t)
    → ((es : List Data) → Holds old.line es → Holds new.line (es ++ data_by cells_of old.shape v ∷ [])) → new.shape ≡ old.shape
    → Holds new.line (ds ++ item_data schemas cells_of t v ∷ []) × (new.shape ≡ shape_of schemas t)
written_more cells_of schemas t v old new ds has pushes same =
    (more_by_type cells_of schemas t v old.shape new.line ds has.1 (pushes ds has.0), same ∙ has.1)
