-- Laws of typed forms: each tree that binding gives is one, and evaluation keeps what its forms are typed to give.
use Rattle.std.specs.Prelude.{◌≡◌, ◌∷◌, ◌++◌, List, [], ℕ, Some, Ok, length}
use Rattle.lq_value.specs.declared.table.Schema.{Schema}
use Rattle.lq_value.specs.declared.ty.Ty.TheVariants as ty
use Rattle.lq_value.specs.declared.value.End.{End}
use Rattle.lq_value.specs.declared.value.Fault.{Fault}
use Rattle.lq_value.specs.declared.value.Value.{Value}
use Rattle.lq_value.specs.declared.value.Value.TheVariants as value
use Rattle.lq_machine.specs.DefinitionLaws.{AreDefined}
use Rattle.lq_language.specs.Worlds.{World, known_predicates}
use Rattle.lq_language.specs.OperandMeaning.{stream_of}
use Rattle.lq_language.specs.ValuesOfTypes.{Every, HasCells, HoldsRows, assuming}
use Rattle.lq_language.specs.Operators.{pair}
use Rattle.lq_language.specs.MeaningLaws.{IsValueOf}
use Rattle.lq_language.specs.declared.calls.Call.{Call}
use Rattle.lq_language.specs.declared.calls.Term.{Term}
use Rattle.lq_language.specs.declared.host_name.HostName.{HostName}
use Rattle.lq_machine.specs.declared.session.Definition.{Definition}
use Rattle.lq_grammar.specs.declared.syntax.Expr.{Expr}
use Rattle.lq_translate.specs.Translated.{translated}
use Rattle.lq_tree.specs.Binding.{call_tree, term_tree}
use Rattle.lq_tree.specs.FormMeaning.{Slots, form_meaning}
use Rattle.lq_tree.specs.OperandKinds.{MeetsKinds, Runs}
use Rattle.lq_tree.specs.Places.{Places}
use Rattle.lq_tree.specs.SessionPlaces.{condition_places, statement_places}
use Rattle.lq_tree.specs.TypedForms.{Both, Gives, IsTyped, IsTypedForm, Many, Of, Shape}
use Rattle.lq_tree.specs.declared.tree.Form.{Form}
use Rattle.lq_tree.specs.declared.tree.Tree.{Tree}

module _ {R : Type 0} (world : World R) where
  -- a value is such: of the type, a pair, or a sequence of such items, whatever its ending is
  abbrev pub IsOfShape : Shape → Value R → Type 0
  IsOfShape (Of t) v = IsValueOf world t v
  IsOfShape (Both s t) v = (a : Value R) × (b : Value R) × (v ≡ pair a b) × IsOfShape s a × IsOfShape t b
  IsOfShape (Many s) v = (vs : List (Value R)) × (e : End) × (v ≡ value.Seq vs e) × Every (IsOfShape s) vs

  -- there is one slot for each shape, and its value is such
  abbrev pub AreOfShapes : List Shape → Slots R → Type 0
  AreOfShapes [] [] = Unit {0}
  AreOfShapes (s ∷ shapes) (v ∷ slots) = IsOfShape s v × AreOfShapes shapes slots
  AreOfShapes shapes slots = ⊥

-- ---- binding

-- In slots that hold such, and in further ones, the form of each local name is of the name's type; and that of each name of the session
-- is so in any slots.
pub record AreTyped (schemas : List Schema) (shapes : List Shape) (places : Places) : Type 0 where
  pub depth : length shapes ≡ places.depth
  pub locals : Every (λ place. (more : List Shape) → IsTypedForm schemas (shapes ++ more) place.form (Of place.ty)) places.locals
  pub session : Every (λ place. (slots : List Shape) → IsTypedForm schemas slots (place.form (length slots)) (Of place.known.ty)) places.session

-- the tree of a term is typed, and gives what its type says
abbrev pub TypedTrees : Type 0
TypedTrees =
    (schemas : List Schema) (t : Term) (places : Places) (shapes : List Shape) → AreTyped schemas shapes places → (tree : Tree)
    → term_tree schemas t places ≡ Some tree → IsTypedForm schemas shapes tree.form (Of tree.ty)

-- and so is the tree of the calls of a query
abbrev pub TypedCalls : Type 0
TypedCalls =
    (schemas : List Schema) (c : Call Term) (places : Places) (shapes : List Shape) → AreTyped schemas shapes places → (tree : Tree)
    → call_tree schemas (term_tree schemas) c places ≡ Some tree → IsTypedForm schemas shapes tree.form (Of tree.ty)

-- and that of a whole expression, through the term that it is translated to
abbrev pub TypedExpressions : Type 0
TypedExpressions =
    (schemas : List Schema) (e : Expr) (places : Places) (shapes : List Shape) → AreTyped schemas shapes places → (tree : Tree)
    → term_tree schemas (translated e) places ≡ Some tree → IsTypedForm schemas shapes tree.form (Of tree.ty)

-- the places of a statement are typed, where each named query has a type
abbrev pub PlacesAreTyped : Type 0
PlacesAreTyped =
    (schemas : List Schema) (predicates : List HostName) (definitions : List Definition) → AreDefined schemas predicates definitions
    → AreTyped schemas [] (statement_places schemas predicates definitions)

-- so the tree of a statement's expression is typed, with no slot in use
abbrev pub TypedStatements : Type 0
TypedStatements =
    (schemas : List Schema) (predicates : List HostName) (definitions : List Definition) → AreDefined schemas predicates definitions → (e : Expr) (tree : Tree)
    → term_tree schemas (translated e) (statement_places schemas predicates definitions) ≡ Some tree → IsTypedForm schemas [] tree.form (Of tree.ty)

-- and so is that of a condition, with a row of its table in the first slot
abbrev pub TypedConditions : Type 0
TypedConditions =
    (schemas : List Schema) (predicates : List HostName) (definitions : List Definition) → AreDefined schemas predicates definitions
    → (x : List ℕ) (n : ℕ) (e : Expr) (tree : Tree)
    → term_tree schemas (translated e) (condition_places schemas predicates definitions x n) ≡ Some tree
    → IsTypedForm schemas (Of (ty.Row n) ∷ []) tree.form (Of tree.ty)

-- ---- evaluation

-- where tables have their rows and the slots hold such, a typed form gives a fault, or a value that it is typed to give
abbrev pub KeepsShapes : Type 0 → Type 0
KeepsShapes R =
    (world : World R) → HoldsRows world → (shapes : List Shape) (f : Form) (s : Shape) → IsTypedForm world.schemas shapes f s
    → (slots : Slots R) → AreOfShapes world shapes slots → (v : Value R) → form_meaning world f slots ≡ Ok v → IsOfShape world s v

-- and what it is enumerated as are items that it is typed to give
abbrev pub KeepsItems : Type 0 → Type 0
KeepsItems R =
    (world : World R) → HoldsRows world → (shapes : List Shape) (f : Form) (s : Shape) → IsTyped world.schemas (Gives shapes f s)
    → (slots : Slots R) → AreOfShapes world shapes slots → Every (IsOfShape world s) (stream_of world (form_meaning world f slots)).0

-- and wherever it is run so, each operand that it meets is a fault or of the kind that is asked of it
abbrev pub MeetsOperands : Type 0 → Type 0
MeetsOperands R =
    (world : World R) → HoldsRows world → (shapes : List Shape) (f : Form) (s : Shape) → IsTypedForm world.schemas shapes f s
    → (slots : Slots R) → AreOfShapes world shapes slots → MeetsKinds world (Runs f slots)

-- so is it where the tree of a statement's expression is run
abbrev pub StatementsMeetOperands : Type 0 → Type 0
StatementsMeetOperands R =
    (world : World R) (definitions : List Definition) → HoldsRows world → AreDefined world.schemas (known_predicates world.predicates) definitions
    → (e : Expr) (tree : Tree)
    → term_tree world.schemas (translated e) (statement_places world.schemas (known_predicates world.predicates) definitions) ≡ Some tree
    → MeetsKinds world (Runs tree.form [])

-- and where that of a condition is run on a row with the table's cells
abbrev pub ConditionsMeetOperands : Type 0 → Type 0
ConditionsMeetOperands R =
    (world : World R) (definitions : List Definition) → HoldsRows world → AreDefined world.schemas (known_predicates world.predicates) definitions
    → (x : List ℕ) (n : ℕ) (e : Expr) (tree : Tree)
    → term_tree world.schemas (translated e) (condition_places world.schemas (known_predicates world.predicates) definitions x n) ≡ Some tree
    → (row : R) → HasCells world n row → MeetsKinds world (Runs tree.form (value.Row row ∷ []))

-- what is run so means the same whatever is put where there is no meaning: no arm for an operand of another kind that answers it is reached
abbrev pub KindsSuffice : Type 0 → Type 0
KindsSuffice R =
    (world : World R) (f : Form) (slots : Slots R) → MeetsKinds world (Runs f slots) → (unknown : Fault)
    → form_meaning (assuming unknown world) f slots ≡ form_meaning world f slots
