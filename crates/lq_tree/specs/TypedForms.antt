-- Typing of forms, rule by rule: what the operands of each form are, under what the slots hold and the tables' schemas. Between calls an
-- item may be a nested pair of the values of several range variables, which no expression of the language can give.
use Rattle.std.specs.Prelude.{◌≡◌, ◌∷◌, ◌++◌, List, [], ℕ, Bool, true, false, Some, slice_get}
use Rattle.lq_value.specs.declared.scalar.Scalar.{Scalar}
use Rattle.lq_value.specs.declared.table.Schema.{Schema}
use Rattle.lq_value.specs.declared.ty.Ty.{Ty, out-Ty}
use Rattle.lq_value.specs.declared.ty.Ty.TheOpen.{Ty-F}
use Rattle.lq_value.specs.declared.ty.Ty.TheVariants as ty
use Rattle.lq_host.specs.declared.call.Pick.{Pick}
use Rattle.lq_host.specs.declared.call.Pick.TheVariants as numbers
use Rattle.lq_language.specs.HostNames.{are_int_columns}
use Rattle.lq_language.specs.ValuesOfTypes.{IsScalarOf}
use Rattle.lq_language.specs.Members.{search_named}
use Rattle.lq_language.specs.Operators.{Pattern, One, With, pair_type}
use Rattle.lq_language.specs.Types.{are_join_keys, element_type, is_key, is_sort_key}
use Rattle.lq_language.specs.Names.{column_type}
use Rattle.lq_language.specs.OperandTypes.{coalesced, is_bool, is_number, is_text}
use Rattle.lq_language.specs.Typing.{given_type, simple_type, type_of_choice, type_of_operation}
use Rattle.lq_language.specs.declared.methods.Given.{Given}
use Rattle.lq_language.specs.declared.methods.Simple.{Simple}
use Rattle.lq_language.specs.declared.operation.Op.{Op}
use Rattle.lq_language.specs.declared.operation.Op.TheVariants as op
use Rattle.lq_grammar.specs.declared.syntax.Binary.{Binary}
use Rattle.lq_grammar.specs.declared.syntax.Field.{Field}
use Rattle.lq_grammar.specs.declared.syntax.Picked.{Picked}
use Rattle.lq_grammar.specs.declared.syntax.Picked.TheVariants as names
use Rattle.lq_grammar.specs.declared.syntax.SortKey.{SortKey}
use Rattle.lq_tree.specs.Binding.{is_object, operation_at}
use Rattle.lq_tree.specs.FormMeaning.{name_of_column}
use Rattle.lq_tree.specs.declared.tree.Form.{Form}
use Rattle.lq_tree.specs.declared.tree.Form.TheVariants as form
use Rattle.lq_tree.specs.declared.tree.Joined.{Joined}

-- what a slot holds, or a form gives: a value of a type, a pair, or a sequence of such
pub data Shape : Type 0 where
  Of : Ty → Shape
  Both : Shape → Shape → Shape
  Many : Shape → Shape

-- the type of such values: a pair is a record of two members without names
abbrev pub type_of_shape : Shape → Ty
type_of_shape (Of t) = t
type_of_shape (Both s t) = pair_type (type_of_shape s) (type_of_shape t)
type_of_shape (Many s) = ty.Seq (type_of_shape s)

-- what an item between calls is
abbrev pub shape_of : Pattern → Shape
shape_of (One n t) = Of t
shape_of (With p n t) = Both (shape_of p) (Of t)

-- the slots with one more, and with two
abbrev pub with_slot : List Shape → Shape → List Shape
with_slot slots s = slots ++ s ∷ []

abbrev pub with_slots : List Shape → Shape → Shape → List Shape
with_slots slots s t = slots ++ s ∷ t ∷ []

-- what the second slot of a join's result holds: an inner item, or all that match as one sequence
abbrev pub matched_items : Bool → Ty → Ty
matched_items true t = ty.Seq t
matched_items false t = t

-- columns of a table by their numbers and by their names
abbrev pub ArePicked : List Schema → ℕ → Pick → Picked → Type 0
ArePicked schemas n (numbers.One c) (names.One m) = name_of_column schemas n c ≡ Some m
ArePicked schemas n (numbers.Two c d) (names.Two m k) = (name_of_column schemas n c ≡ Some m) × (name_of_column schemas n d ≡ Some k)
ArePicked schemas n columns named = ⊥

-- What is said of the forms in slots that hold such.
pub data FormClaim : Type 0 where
  -- the form gives such values
  Has : List Shape → Form → Shape → FormClaim
  -- what the form gives is enumerated, and its items are such
  Gives : List Shape → Form → Shape → FormClaim
  -- the members of a record have these names and types
  Members : List Shape → List (Field Form) → List (List ℕ × Ty) → FormClaim
  -- each of these keys is one to sort by
  Sorts : List Shape → List (SortKey Form) → FormClaim

module _ (schemas : List Schema) where
  -- Rule by rule, which of it is so.
  pub data IsTyped : FormClaim → Type 0 where
    -- pairs and sequences are values of a type as well
    by_type : (slots : List Shape) (f : Form) (s : Shape) → IsTyped (Has slots f s) → IsTyped (Has slots f (Of (type_of_shape s)))
    -- what is enumerated: sequences and groups
    by_items : (slots : List Shape) (f : Form) (s : Shape) → IsTyped (Has slots f (Many s)) → IsTyped (Gives slots f s)
    by_elements : (slots : List Shape) (f : Form) (t u : Ty) → IsTyped (Has slots f (Of t)) → element_type (out-Ty t) ≡ Some u → IsTyped (Gives slots f (Of u))
    of_literal : (slots : List Shape) (c : Scalar) (t : Ty) → IsScalarOf (out-Ty t) c → IsTyped (Has slots (form.Literal c) (Of t))
    of_slot : (slots : List Shape) (n : ℕ) (s : Shape) → slice_get slots n ≡ Some s → IsTyped (Has slots (form.Slot n) s)
    of_first : (slots : List Shape) (a : Form) (s t : Shape) → IsTyped (Has slots a (Both s t)) → IsTyped (Has slots (form.First a) s)
    of_second : (slots : List Shape) (a : Form) (s t : Shape) → IsTyped (Has slots a (Both s t)) → IsTyped (Has slots (form.Second a) t)
    of_table : (slots : List Shape) (n : ℕ) (schema : Schema) → slice_get schemas n ≡ Some schema → IsTyped (Has slots (form.Table n) (Of (ty.Seq (ty.Row n))))
    -- a row of the table, and its column of this number, by the column's name
    of_column : (slots : List Shape) (row : Form) (n c : ℕ) (m : List ℕ) (t u : Ty) → IsTyped (Has slots row (Of t)) → out-Ty t ≡ Ty-F.Row n
        → name_of_column schemas n c ≡ Some m → column_type schemas n m ≡ Some u → IsTyped (Has slots (form.Column row n c) (Of u))
    -- a row of the table, and its columns of these numbers, by their names
    of_host : (slots : List Shape) (p : ℕ) (row : Form) (n : ℕ) (columns : Pick) (named : Picked) (t : Ty) → IsTyped (Has slots row (Of t)) → out-Ty t ≡ Ty-F.Row n
        → ArePicked schemas n columns named → are_int_columns schemas n named ≡ true → IsTyped (Has slots (form.Host p row n columns) (Of ty.Bool))
    of_member : (slots : List Shape) (a : Form) (place : ℕ) (t : Ty) (ms : List (List ℕ × Ty)) (m : List ℕ × Ty) → IsTyped (Has slots a (Of t))
        → out-Ty t ≡ Ty-F.Rec ms → slice_get ms place ≡ Some m → IsTyped (Has slots (form.Member a place) (Of m.1))
    of_key : (slots : List Shape) (a : Form) (t k u : Ty) → IsTyped (Has slots a (Of t)) → out-Ty t ≡ Ty-F.Group k u → IsTyped (Has slots (form.Key a) (Of k))
    -- operators and members of scalars
    of_minus : (slots : List Shape) (a : Form) (t : Ty) → IsTyped (Has slots a (Of t)) → is_number (out-Ty t) ≡ true
        → IsTyped (Has slots (form.Unary op.Minus a) (Of t))
    of_not : (slots : List Shape) (a : Form) (t : Ty) → IsTyped (Has slots a (Of t)) → is_bool (out-Ty t) ≡ true
        → IsTyped (Has slots (form.Unary op.Not a) (Of ty.Bool))
    of_has_value : (slots : List Shape) (a : Form) (t : Ty) → IsTyped (Has slots a (Of t)) → out-Ty t ≡ Ty-F.IntN
        → IsTyped (Has slots (form.Unary op.HasValue a) (Of ty.Bool))
    of_value : (slots : List Shape) (a : Form) (t : Ty) → IsTyped (Has slots a (Of t)) → out-Ty t ≡ Ty-F.IntN
        → IsTyped (Has slots (form.Unary op.Value a) (Of ty.Int))
    of_length : (slots : List Shape) (a : Form) (t : Ty) → IsTyped (Has slots a (Of t)) → out-Ty t ≡ Ty-F.Str
        → IsTyped (Has slots (form.Unary op.Length a) (Of ty.Int))
    of_search : (slots : List Shape) (a b : Form) (m : List ℕ) (o : Op) (s t : Ty) → IsTyped (Has slots a (Of s)) → is_text (out-Ty s) ≡ true
        → IsTyped (Has slots b (Of t)) → is_text (out-Ty t) ≡ true → search_named m ≡ Some o → IsTyped (Has slots (form.Binary o a b) (Of ty.Bool))
    -- a sign between scalars; rows, records and groups are asked only whether they are null
    of_sign : (slots : List Shape) (a b : Form) (sign : Binary) (s t r : Ty) → IsTyped (Has slots a (Of s)) → is_object (out-Ty s) ≡ false
        → IsTyped (Has slots b (Of t)) → is_object (out-Ty t) ≡ false → type_of_operation sign (out-Ty s) (out-Ty t) ≡ Some r
        → IsTyped (Has slots (form.Binary (operation_at sign (out-Ty s) (out-Ty t)) a b) (Of r))
    of_is_null : (slots : List Shape) (wanted : Bool) (a : Form) (t : Ty) → IsTyped (Has slots a (Of t)) → is_object (out-Ty t) ≡ true
        → IsTyped (Has slots (form.IsNull wanted a) (Of ty.Bool))
    of_and : (slots : List Shape) (a b : Form) (s t : Ty) → IsTyped (Has slots a (Of s)) → is_bool (out-Ty s) ≡ true → IsTyped (Has slots b (Of t))
        → is_bool (out-Ty t) ≡ true → IsTyped (Has slots (form.And a b) (Of ty.Bool))
    of_or : (slots : List Shape) (a b : Form) (s t : Ty) → IsTyped (Has slots a (Of s)) → is_bool (out-Ty s) ≡ true → IsTyped (Has slots b (Of t))
        → is_bool (out-Ty t) ≡ true → IsTyped (Has slots (form.Or a b) (Of ty.Bool))
    of_coalesce : (slots : List Shape) (a b : Form) (s t r : Ty) → IsTyped (Has slots a (Of s)) → IsTyped (Has slots b (Of t))
        → coalesced (out-Ty s) (out-Ty t) ≡ Some r → IsTyped (Has slots (form.Coalesce a b) (Of r))
    of_conditional : (slots : List Shape) (c a b : Form) (q s t r : Ty) → IsTyped (Has slots c (Of q)) → is_bool (out-Ty q) ≡ true
        → IsTyped (Has slots a (Of s)) → IsTyped (Has slots b (Of t)) → type_of_choice (out-Ty s) (out-Ty t) ≡ Some r
        → IsTyped (Has slots (form.Conditional c a b) (Of r))
    of_record : (slots : List Shape) (fields : List (Field Form)) (ms : List (List ℕ × Ty)) → IsTyped (Members slots fields ms)
        → IsTyped (Has slots (form.Record fields) (Of (ty.Rec ms)))
    no_field : (slots : List Shape) → IsTyped (Members slots [] [])
    one_field : (slots : List Shape) (field : Field Form) (fields : List (Field Form)) (t : Ty) (ms : List (List ℕ × Ty))
        → IsTyped (Has slots field.value (Of t)) → IsTyped (Members slots fields ms) → IsTyped (Members slots (field ∷ fields) ((field.name, t) ∷ ms))
    of_pair : (slots : List Shape) (a b : Form) (s t : Shape) → IsTyped (Has slots a s) → IsTyped (Has slots b t)
        → IsTyped (Has slots (form.Pair a b) (Both s t))
    of_sequence : (slots : List Shape) (a : Form) (s : Shape) → IsTyped (Gives slots a s) → IsTyped (Has slots (form.Sequence a) (Many s))
    -- methods, on items of the type that they name
    of_simple : (slots : List Shape) (method : Simple) (t r : Ty) (a : Form) → IsTyped (Gives slots a (Of t)) → simple_type method t ≡ Some r
        → IsTyped (Has slots (form.Simple method t a) (Of r))
    of_given : (slots : List Shape) (method : Given) (t u r : Ty) (a b : Form) → IsTyped (Gives slots a (Of t)) → IsTyped (Has slots b (Of u))
        → given_type method t (Some u) ≡ Some r → IsTyped (Has slots (form.Given method a b) (Of r))
    -- calls between which items may be pairs; their conditions are truth values, and their keys such as may be compared
    of_where : (slots : List Shape) (c : Ty) (a f : Form) (s : Shape) → IsTyped (Gives slots a s) → IsTyped (Has (with_slot slots s) f (Of c))
        → is_bool (out-Ty c) ≡ true → IsTyped (Has slots (form.Where a f) (Many s))
    of_select : (slots : List Shape) (a f : Form) (s r : Shape) → IsTyped (Gives slots a s) → IsTyped (Has (with_slot slots s) f r)
        → IsTyped (Has slots (form.Select a f) (Many r))
    of_all : (slots : List Shape) (c : Ty) (a f : Form) (s : Shape) → IsTyped (Gives slots a s) → IsTyped (Has (with_slot slots s) f (Of c))
        → is_bool (out-Ty c) ≡ true → IsTyped (Has slots (form.All a f) (Of ty.Bool))
    of_select_many : (slots : List Shape) (a inner result : Form) (s u r : Shape) → IsTyped (Gives slots a s) → IsTyped (Gives (with_slot slots s) inner u)
        → IsTyped (Has (with_slots slots s u) result r) → IsTyped (Has slots (form.SelectMany a inner result) (Many r))
    of_join : (slots : List Shape) (a : Form) (j : Joined Form) (s r : Shape) (u k l : Ty) → IsTyped (Gives slots a s) → IsTyped (Gives slots j.inner (Of u))
        → IsTyped (Has (with_slot slots s) j.outer_key (Of k)) → IsTyped (Has (with_slot slots (Of u)) j.inner_key (Of l))
        → are_join_keys (Some k) (Some l) ≡ true → IsTyped (Has (with_slots slots s (Of (matched_items j.grouped u))) j.result r)
        → IsTyped (Has slots (form.Join a j) (Many r))
    of_order : (slots : List Shape) (a : Form) (ks : List (SortKey Form)) (s : Shape) → IsTyped (Gives slots a s) → IsTyped (Sorts (with_slot slots s) ks)
        → IsTyped (Has slots (form.OrderBy a ks) (Many s))
    no_key : (slots : List Shape) → IsTyped (Sorts slots [])
    one_key : (slots : List Shape) (k : SortKey Form) (ks : List (SortKey Form)) (t : Ty) → IsTyped (Has slots k.value (Of t)) → is_sort_key (Some t) ≡ true
        → IsTyped (Sorts slots ks) → IsTyped (Sorts slots (k ∷ ks))
    of_group : (slots : List Shape) (a key element : Form) (s : Shape) (k e : Ty) → IsTyped (Gives slots a s) → IsTyped (Has (with_slot slots s) key (Of k))
        → is_key k ≡ true → IsTyped (Has (with_slot slots s) element (Of e)) → IsTyped (Has slots (form.GroupBy a key element) (Many (Of (ty.Group k e))))

  -- under slots that hold such, the form gives such values
  abbrev pub IsTypedForm : List Shape → Form → Shape → Type 0
  IsTypedForm slots f s = IsTyped (Has slots f s)
