-- Types as people read them, and the columns that they give a table.
use Rattle.std.specs.Prelude.{◌∷◌, ◌++◌, List, [], ℕ, Bool, true, false, Option, Some, None, codes, if◌then◌else◌, map, slice_get}
use Rattle.lq_value.specs.declared.table.Schema.{Schema}
use Rattle.lq_value.specs.declared.ty.Ty.{Ty, fold-Ty}
use Rattle.lq_value.specs.declared.ty.Ty.TheOpen.{Ty-F}
use Rattle.lq_machine.specs.Served.{columns_in}

abbrev pub table_name : Option Schema → List ℕ
table_name None = []
table_name (Some schema) = schema.name

-- ---- the text of a type

-- Each text is asked for with true where `[]` or ` by` follows, and false elsewhere.
abbrev pub PartText : Type 0
PartText = Bool → List ℕ

abbrev pub field_text : List ℕ × PartText → List ℕ
field_text field = field.0 ++ (codes ": " ++ field.1 false)

-- before each member but the first
abbrev pub separator : Bool → List ℕ
separator is_first = if is_first then [] else codes ", "

abbrev pub fields_text : Bool → List (List ℕ × PartText) → List ℕ
fields_text is_first [] = []
fields_text is_first (field ∷ fields) = separator is_first ++ (field_text field ++ fields_text false fields)

abbrev pub opening : Bool → List ℕ
opening is_part = if is_part then codes "(group of " else codes "group of "

abbrev pub closing : Bool → List ℕ
closing is_part = if is_part then codes ")" else []

-- a group of these elements by this key, in parentheses where something follows
abbrev pub group_text : List ℕ → List ℕ → Bool → List ℕ
group_text key element is_part =
    opening is_part ++ (element ++ (codes " by " ++ (key ++ closing is_part)))

abbrev pub type_layer : List Schema → Ty-F PartText → PartText
type_layer schemas Ty-F.Int is_part = codes "int"
type_layer schemas Ty-F.IntN is_part = codes "int?"
type_layer schemas Ty-F.Bool is_part = codes "bool"
type_layer schemas Ty-F.Str is_part = codes "string"
type_layer schemas Ty-F.Null is_part = codes "null"
type_layer schemas (Ty-F.Row t) is_part = table_name (slice_get schemas t)
type_layer schemas (Ty-F.Rec fields) is_part = codes "{" ++ (fields_text true fields ++ codes "}")
type_layer schemas (Ty-F.Seq item) is_part = item true ++ codes "[]"
type_layer schemas (Ty-F.Group key element) is_part = group_text (key true) (element true) is_part

unfoldable pub type_part : List Schema → Ty → PartText
type_part schemas = fold-Ty PartText (type_layer schemas)

-- the text of a type
abbrev pub type_text : List Schema → Ty → List ℕ
type_text schemas ty = type_part schemas ty false

-- ---- the columns of a type

-- the names of the members of values of a type, in the type's order
abbrev pub member_names : {T : Type 0} → List Schema → Ty-F T → List (List ℕ)
member_names schemas (Ty-F.Row t) = columns_in (slice_get schemas t)
member_names schemas (Ty-F.Rec fields) = map (λ field. field.0) fields
member_names schemas layer = []
