-- How the items and the value of a reply are shown, by the type that it is served by.
use Rattle.std.specs.Prelude.{List, [], ℕ, Option, Some, None, flat_map, option_map}
use Rattle.serde_json.specs.Data.{Data}
use Rattle.lq_value.specs.declared.table.Schema.{Schema}
use Rattle.lq_value.specs.declared.ty.Ty.{Ty, fold-Ty, map-Ty, out-Ty}
use Rattle.lq_value.specs.declared.ty.Ty.TheOpen.{Ty-F}
use Rattle.lq_machine.specs.States.{schemas_of}
use Rattle.lq_render.specs.Parts.{ItemsText, group_text, none_or_first, sequence_text, shown_by_columns, value_text}
use Rattle.lq_render.specs.Types.{member_names}
use Rattle.lq_render.specs.declared.layout.Layout.{Layout}

-- ---- items

-- All of these items: sequences and groups one after another, each with its own items below a line; rows and records as a table, and
-- other items one a line.
abbrev pub shown_layer : List Schema → Ty-F ItemsText → ItemsText
shown_layer schemas (Ty-F.Seq below) indent items = flat_map (sequence_text below indent) items
shown_layer schemas (Ty-F.Group keys below) indent items = flat_map (group_text below indent) items
shown_layer schemas layer indent items = shown_by_columns indent (member_names schemas layer) items

abbrev pub items_layer : List Schema → ℕ → Ty-F ItemsText → ItemsText
items_layer schemas most layer indent items = none_or_first most indent (shown_layer schemas layer indent) items

-- items of a type: the first of them, up to the most rows, and how many more there are; and so at each level
unfoldable pub items_by_type : List Schema → ℕ → Ty → ItemsText
items_by_type schemas most = fold-Ty ItemsText (items_layer schemas most)

-- all of these items of a type
unfoldable pub shown_by_type : List Schema → ℕ → Ty → ItemsText
shown_by_type schemas most ty = shown_layer schemas (map-Ty Ty ItemsText (items_by_type schemas most) (out-Ty ty))

-- items whose type isn't known
abbrev pub untyped_text : ℕ → List Data → List ℕ
untyped_text most items = none_or_first most [] (shown_by_columns [] []) items

-- the items of a reply, which is a sequence
abbrev pub items_of_layer : List Schema → ℕ → Ty-F Ty → List Data → List ℕ
items_of_layer schemas most (Ty-F.Seq item) items = items_by_type schemas most item [] items
items_of_layer schemas most layer items = untyped_text most items

abbrev pub items_text : List Schema → ℕ → Option Ty → List Data → List ℕ
items_text schemas most None items = untyped_text most items
items_text schemas most (Some ty) items = items_of_layer schemas most (out-Ty ty) items

-- ---- values

abbrev pub value_of_layer : List Schema → ℕ → Ty-F Ty → Data → List ℕ
value_of_layer schemas most (Ty-F.Group key element) d = group_text (items_by_type schemas most element) [] d
value_of_layer schemas most layer d = value_text (member_names schemas layer) d

-- the value of a reply: a group, a row or a record as a table of its members, or a value on a line
abbrev pub value_by_type : List Schema → ℕ → Option Ty → Data → List ℕ
value_by_type schemas most None d = value_text [] d
value_by_type schemas most (Some ty) d = value_of_layer schemas most (out-Ty ty) d

-- ---- replies

-- how the items of a reply are shown, and its value
pub record Shape : Type 0 where
  pub items : List Data → List ℕ
  pub value : Data → List ℕ

abbrev pub shape_of : List Schema → ℕ → Option Ty → Shape
shape_of schemas most ty = record { items = items_text schemas most ty; value = value_by_type schemas most ty }

abbrev pub shape_by : Layout → Shape
shape_by layout = shape_of (schemas_of layout.store.now) layout.most_rows (option_map (λ ty. ty.now) layout.ty)
