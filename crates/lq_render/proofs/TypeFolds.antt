-- The fold over types, one layer at a time.
use Rattle.std.proofs.Common.{◌≡◌, ◌++◌, List, ℕ, Bool, true, ap, ◌∙◌, [], append_assoc, codes, map, slice_get}
use Rattle.lq_value.specs.declared.table.Schema.{Schema}
use Rattle.lq_value.specs.declared.ty.Ty.{Ty, fold_out-Ty, map-Ty, out-Ty}
use Rattle.lq_value.specs.declared.ty.Ty as of_ty
use Rattle.lq_value.specs.declared.ty.Ty.TheOpen.{Ty-F}
use Rattle.lq_value.specs.declared.ty.Ty.TheVariants as ty
use Rattle.lq_value.specs.declared.ty.Ty.TheVariants.{outs-Group, outs-Rec, outs-Row, outs-Seq}
use Rattle.lq_render.specs.Types.{PartText, fields_text, group_text, table_name, type_layer, type_part}

pub type_out : (schemas : List Schema) (t : Ty) (is_part : Bool) → type_part schemas t is_part ≡ type_layer schemas (map-Ty Ty PartText (type_part schemas) (out-Ty t)) is_part
unfolding type_part
type_out schemas t is_part = ap (λ (f : PartText). f is_part) (fold_out-Ty PartText (type_layer schemas) t)

-- the text of a layer whose parts have theirs
abbrev layer_text : List Schema → Bool → Ty-F Ty → List ℕ
layer_text schemas is_part layer = type_layer schemas (map-Ty Ty PartText (type_part schemas) layer) is_part

pub record_part : (schemas : List Schema) (fields : List (List ℕ × Ty)) (is_part : Bool) → type_part schemas (ty.Rec fields) is_part
    ≡ codes "{" ++ (fields_text true (map (λ field. (field.0, type_part schemas field.1)) fields) ++ codes "}")
record_part schemas fields is_part = type_out schemas (ty.Rec fields) is_part ∙ ap (layer_text schemas is_part) (outs-Rec fields)

pub sequence_part : (schemas : List Schema) (item : Ty) (is_part : Bool) → type_part schemas (ty.Seq item) is_part ≡ type_part schemas item true ++ codes "[]"
sequence_part schemas item is_part = type_out schemas (ty.Seq item) is_part ∙ ap (layer_text schemas is_part) (outs-Seq item)

pub group_part : (schemas : List Schema) (key element : Ty) (is_part : Bool) → type_part schemas (ty.Group key element) is_part
    ≡ group_text (type_part schemas key true) (type_part schemas element true) is_part
group_part schemas key element is_part = type_out schemas (ty.Group key element) is_part ∙ ap (layer_text schemas is_part) (outs-Group key element)

pub row_part : (schemas : List Schema) (n : ℕ) (is_part : Bool) → type_part schemas (ty.Row n) is_part ≡ table_name (slice_get schemas n)
row_part schemas n is_part = type_out schemas (ty.Row n) is_part ∙ ap (layer_text schemas is_part) (outs-Row n)

pub ruleset types = (record_part, sequence_part, group_part, row_part, type_out, of_ty.the_lemmas, append_assoc)
