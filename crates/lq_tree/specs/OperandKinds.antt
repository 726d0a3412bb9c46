-- What kind of values the operands of each form are, decided by the values alone and not by types. Where a form is run as is said here, no
-- arm of `FormMeaning`, or of what it is built from, is reached that is there for an operand of another kind: those that answer what is
-- unknown, and those that don't ask for it, which are named beside the kind that excludes them (`KindLaws`).
use Rattle.std.specs.Prelude.{◌≡◌, ◌∷◌, ◌++◌, ◌&&◌, ◌||◌, List, [], map, ℕ, Bool, true, false, Some, Ok, slice_get}
use Rattle.lq_value.specs.SameAndOrder.{IsKey}
use Rattle.lq_value.specs.declared.scalar.Scalar.{Scalar}
use Rattle.lq_value.specs.declared.scalar.Scalar.TheVariants as scalar
use Rattle.lq_value.specs.declared.ty.Ty.{Ty, out-Ty}
use Rattle.lq_value.specs.declared.ty.Ty.TheOpen.{Ty-F}
use Rattle.lq_value.specs.declared.value.End.{End}
use Rattle.lq_value.specs.declared.value.Value.{Value}
use Rattle.lq_value.specs.declared.value.Value.TheVariants as value
use Rattle.lq_host.specs.declared.call.Pick.{Pick}
use Rattle.lq_host.specs.declared.call.Pick2.{Pick2}
use Rattle.lq_language.specs.Worlds.{World}
use Rattle.lq_language.specs.OperandMeaning.{stream_of}
use Rattle.lq_language.specs.Operators.{pair}
use Rattle.lq_language.specs.Stream.{with_keys}
use Rattle.lq_language.specs.OperandTypes.{is_number as is_number_type}
use Rattle.lq_language.specs.Typing.{has_default}
use Rattle.lq_language.specs.declared.methods.Given.{Given}
use Rattle.lq_language.specs.declared.methods.Given.TheVariants as given
use Rattle.lq_language.specs.declared.methods.Simple.{Simple}
use Rattle.lq_language.specs.declared.methods.Simple.TheVariants as simple
use Rattle.lq_language.specs.declared.operation.Op.{Op}
use Rattle.lq_language.specs.declared.operation.Op.TheVariants as op
use Rattle.lq_grammar.specs.declared.syntax.Field.{Field}
use Rattle.lq_grammar.specs.declared.syntax.SortKey.{SortKey}
use Rattle.lq_tree.specs.FormMeaning.{Slots, arguments_at, form_meaning, matched, name_of_column}
use Rattle.lq_tree.specs.declared.tree.Form.{Form}
use Rattle.lq_tree.specs.declared.tree.Form.TheVariants as form
use Rattle.lq_tree.specs.declared.tree.Joined.{Joined}

-- ---- scalars

-- a number, a text or a truth value; the first two may be null
abbrev pub is_number : Scalar → Bool
is_number (scalar.Int n) = true
is_number scalar.Null = true
is_number s = false

abbrev pub is_text : Scalar → Bool
is_text (scalar.Text t) = true
is_text scalar.Null = true
is_text s = false

abbrev pub is_truth : Scalar → Bool
is_truth (scalar.Bool b) = true
is_truth s = false

-- a number that is there
abbrev pub is_count : Scalar → Bool
is_count (scalar.Int n) = true
is_count s = false

-- whether an operator works on this operand; `of_one` has no other meaning
abbrev pub takes_one : Op → Scalar → Bool
takes_one op.Not s = is_truth s
takes_one op.Minus s = is_number s
takes_one op.HasValue s = is_number s
takes_one op.Value s = is_number s
takes_one op.Length s = is_text s
takes_one other s = false

-- And on these two. Beside null, `<` answers false of any other operand, and `==` does so too: of a truth value, among others.
abbrev pub takes_two : Op → Scalar → Scalar → Bool
takes_two op.Concat a b = is_text a && is_text b
takes_two op.StartsWith a b = is_text a && is_text b
takes_two op.EndsWith a b = is_text a && is_text b
takes_two op.Contains a b = is_text a && is_text b
takes_two op.Equal a b = (is_number a && is_number b) || (is_text a && is_text b) || (is_truth a && is_truth b)
takes_two op.NotEqual a b = (is_number a && is_number b) || (is_text a && is_text b) || (is_truth a && is_truth b)
takes_two op.Multiply a b = is_number a && is_number b
takes_two op.Divide a b = is_number a && is_number b
takes_two op.Remainder a b = is_number a && is_number b
takes_two op.Add a b = is_number a && is_number b
takes_two op.Subtract a b = is_number a && is_number b
takes_two op.Less a b = is_number a && is_number b
takes_two op.Greater a b = is_number a && is_number b
takes_two op.LessOrEqual a b = is_number a && is_number b
takes_two op.GreaterOrEqual a b = is_number a && is_number b
takes_two other a b = false

-- Whether a method may name this type of its items: where a default may be the answer, there is one (`default_layer`), and where the least or
-- greatest number is, it is a type of numbers (`no_number`).
abbrev pub suits : Simple → Ty-F Ty → Bool
suits simple.DefaultIfEmpty layer = has_default layer
suits simple.FirstOrDefault layer = has_default layer
suits simple.SingleOrDefault layer = has_default layer
suits simple.Min layer = is_number_type layer
suits simple.Max layer = is_number_type layer
suits method layer = true

module _ {R : Type 0} where
  -- ---- values

  -- a scalar, and one that passes a test
  abbrev pub IsScalar : Value R → Type 0
  IsScalar v = (s : Scalar) × (v ≡ value.Scalar s)

  abbrev pub IsScalarThat : (Scalar → Bool) → Value R → Type 0
  IsScalarThat test v = (s : Scalar) × (v ≡ value.Scalar s) × (test s ≡ true)

  -- a pair; of anything else the first part and the second are what it is (`first_member`, `second_member`)
  abbrev pub IsPair : Value R → Type 0
  IsPair v = (a : Value R) × (b : Value R) × (v ≡ pair a b)

  -- what has a key (`key_in`)
  abbrev pub IsGroup : Value R → Type 0
  IsGroup v = (key : Value R) × (vs : List (Value R)) × (v ≡ value.Group key vs)

  -- what may be enumerated; anything else is enumerated as no item (`items_of`)
  pub data IsEnumerable (v : Value R) : Type 0 where
    a_sequence : (vs : List (Value R)) (e : End) → v ≡ value.Seq vs e → IsEnumerable v
    a_group : (key : Value R) (vs : List (Value R)) → v ≡ value.Group key vs → IsEnumerable v

  -- what is asked only whether it is null: of a sequence, and of a scalar that isn't null, `is_null_value` says that it isn't
  pub data IsObject (v : Value R) : Type 0 where
    a_row : (r : R) → v ≡ value.Row r → IsObject v
    a_record : (vs : List (List ℕ × Value R)) → v ≡ value.Rec vs → IsObject v
    a_grouped : (key : Value R) (vs : List (Value R)) → v ≡ value.Group key vs → IsObject v
    no_object : v ≡ value.Scalar scalar.Null → IsObject v

  -- a record with a member at this place, or null (`member_at`)
  pub data HasMember (place : ℕ) (v : Value R) : Type 0 where
    a_member : (vs : List (List ℕ × Value R)) (m : List ℕ × Value R) → v ≡ value.Rec vs → slice_get vs place ≡ Some m → HasMember place v
    no_record : v ≡ value.Scalar scalar.Null → HasMember place v

  -- Two keys that may be the same: numbers, texts or truth values; or records, or null beside one, whose members are of the same names, and
  -- such pair by pair. Of two kinds none are (`same_scalars`, `same_layers`).
  pub data MayBeSame : Value R → Value R → Type 0 where
    two_scalars : (v w : Value R) (x y : Scalar) → v ≡ value.Scalar x → w ≡ value.Scalar y → takes_two op.Equal x y ≡ true → MayBeSame v w
    null_before : (v w : Value R) (ms : List (List ℕ × Value R)) → v ≡ value.Scalar scalar.Null → w ≡ value.Rec ms → MayBeSame v w
    null_behind : (v w : Value R) (ms : List (List ℕ × Value R)) → v ≡ value.Rec ms → w ≡ value.Scalar scalar.Null → MayBeSame v w
    two_records : (v w : Value R) (ms ns : List (List ℕ × Value R)) → v ≡ value.Rec ms → w ≡ value.Rec ns
        → map (λ (m : List ℕ × Value R). m.0) ms ≡ map (λ (n : List ℕ × Value R). n.0) ns
        → ((i : ℕ) (m n : List ℕ × Value R) → slice_get ms i ≡ Some m → slice_get ns i ≡ Some n → MayBeSame m.1 n.1) → MayBeSame v w

  -- ---- methods

  -- What a method takes of each item. What isn't a number is left out of a sum (`numbers`), and what isn't a key is the same as nothing
  -- (`same_values`).
  abbrev pub Takes : Simple → Value R → Type 0
  Takes simple.Distinct v = IsKey v
  Takes simple.Sum v = IsScalarThat is_number v
  Takes simple.Min v = IsScalarThat is_number v
  Takes simple.Max v = IsScalarThat is_number v
  Takes method v = Unit {0}

  -- and of two items
  abbrev pub TakesTwo : Simple → Value R → Value R → Type 0
  TakesTwo simple.Distinct v w = MayBeSame v w
  TakesTwo method v w = Unit {0}

  -- of an argument beside each item
  abbrev pub TakesBeside : Given → Value R → Value R → Type 0
  TakesBeside given.Contains w v = MayBeSame w v
  TakesBeside method w v = Unit {0}

  -- of two items of either sequence
  abbrev pub TakesTwoItems : Given → Value R → Value R → Type 0
  TakesTwoItems given.Union v w = MayBeSame v w
  TakesTwoItems given.Intersect v w = MayBeSame v w
  TakesTwoItems given.Except v w = MayBeSame v w
  TakesTwoItems method v w = Unit {0}

  abbrev pub TakesItem : Given → Value R → Type 0
  TakesItem given.Union v = IsKey v
  TakesItem given.Intersect v = IsKey v
  TakesItem given.Except v = IsKey v
  TakesItem given.Contains v = IsKey v
  TakesItem method v = Unit {0}

  -- and of its argument
  abbrev pub TakesArgument : Given → Value R → Type 0
  TakesArgument given.Skip v = IsScalarThat is_count v
  TakesArgument given.Take v = IsScalarThat is_count v
  TakesArgument given.ElementAt v = IsScalarThat is_count v
  TakesArgument given.Contains v = IsKey v
  TakesArgument method v = IsEnumerable v

-- ---- forms

-- what is run in which slots
pub data Run (R : Type 0) : Type 0 where
  Runs : Form → Slots R → Run R
  RunsFields : List (Field Form) → Slots R → Run R
  RunsKeys : List (SortKey Form) → Slots R → Run R

module _ {R : Type 0} (world : World R) where
  -- a row with a cell in the column of this number of the table, or null (`cell_in`)
  pub data HasCell (table c : ℕ) (v : Value R) : Type 0 where
    a_cell : (r : R) (m : List ℕ) (s : Scalar) → v ≡ value.Row r → name_of_column world.schemas table c ≡ Some m → world.cell r m ≡ Some s → HasCell table c v
    no_row : v ≡ value.Scalar scalar.Null → HasCell table c v

  -- a row with an integer in each of these columns of the table, or null (`asked_about`)
  pub data HasArguments (table : ℕ) (columns : Pick) (v : Value R) : Type 0 where
    an_asked : (r : R) (xs : Pick2) → v ≡ value.Row r → arguments_at world table columns r ≡ Some xs → HasArguments table columns v
    none_asked : v ≡ value.Scalar scalar.Null → HasArguments table columns v

  -- what a form gives is a fault, or of this kind
  abbrev pub Finds : Form → Slots R → (Value R → Type 0) → Type 0
  Finds f slots Is = (v : Value R) → form_meaning world f slots ≡ Ok v → Is v

  -- the items that a form is enumerated as, each of which is such
  abbrev pub items_in : Form → Slots R → List (Value R)
  items_in f slots = (stream_of world (form_meaning world f slots)).0

  abbrev pub Among : List (Value R) → Value R → Type 0
  Among vs v = (i : ℕ) × (slice_get vs i ≡ Some v)

  abbrev pub Each : List (Value R) → (Value R → Type 0) → Type 0
  Each vs Is = (v : Value R) → Among vs v → Is v

  -- what a key of the outer items matches in a join
  abbrev pub matches_in : Joined Form → Slots R → Value R → List (Value R)
  matches_in j slots key =
      matched world j.grouped key (with_keys (λ w. form_meaning world j.inner_key (slots ++ w ∷ [])) (stream_of world (form_meaning world j.inner slots))).0

  -- what a sort compares by one key are numbers, texts or truth values: scalars of two kinds are in the order of their kinds (`order_of`)
  abbrev pub SortAlike : List (SortKey Form) → Slots R → Slots R → Type 0
  SortAlike [] slots others = Unit {0}
  SortAlike (k ∷ ks) slots others =
      Finds k.value slots (λ v. Finds k.value others (λ w. (x : Scalar) × (y : Scalar) × (v ≡ value.Scalar x) × (w ≡ value.Scalar y)
      × (takes_two op.Equal x y ≡ true)))
      × SortAlike ks slots others

  -- Each operand of a form is a fault or of the kind that the form works on, and so is each in its operands, and in its lambdas on each
  -- item that they are run on.
  pub data MeetsKinds : Run R → Type 0 where
    at_literal : (c : Scalar) (slots : Slots R) → MeetsKinds (Runs (form.Literal c) slots)
    at_slot : (n : ℕ) (slots : Slots R) (v : Value R) → slice_get slots n ≡ Some v → MeetsKinds (Runs (form.Slot n) slots)
    at_table : (n : ℕ) (slots : Slots R) (rows : List R) → slice_get world.rows n ≡ Some rows → MeetsKinds (Runs (form.Table n) slots)
    at_first : (a : Form) (slots : Slots R) → MeetsKinds (Runs a slots) → Finds a slots IsPair → MeetsKinds (Runs (form.First a) slots)
    at_second : (a : Form) (slots : Slots R) → MeetsKinds (Runs a slots) → Finds a slots IsPair → MeetsKinds (Runs (form.Second a) slots)
    at_column : (a : Form) (table c : ℕ) (slots : Slots R) → MeetsKinds (Runs a slots) → Finds a slots (HasCell table c)
        → MeetsKinds (Runs (form.Column a table c) slots)
    at_host : (p : ℕ) (a : Form) (table : ℕ) (columns : Pick) (slots : Slots R) → MeetsKinds (Runs a slots) → Finds a slots (HasArguments table columns)
        → MeetsKinds (Runs (form.Host p a table columns) slots)
    at_member : (a : Form) (place : ℕ) (slots : Slots R) → MeetsKinds (Runs a slots) → Finds a slots (HasMember place)
        → MeetsKinds (Runs (form.Member a place) slots)
    at_key : (a : Form) (slots : Slots R) → MeetsKinds (Runs a slots) → Finds a slots IsGroup → MeetsKinds (Runs (form.Key a) slots)
    at_one : (o : Op) (a : Form) (slots : Slots R) → MeetsKinds (Runs a slots) → Finds a slots (IsScalarThat (takes_one o))
        → MeetsKinds (Runs (form.Unary o a) slots)
    at_two : (o : Op) (a b : Form) (slots : Slots R) → MeetsKinds (Runs a slots) → MeetsKinds (Runs b slots)
        → Finds a slots (λ v. Finds b slots (λ w. (x : Scalar) × (y : Scalar) × (v ≡ value.Scalar x) × (w ≡ value.Scalar y) × (takes_two o x y ≡ true)))
        → Finds a slots IsScalar → MeetsKinds (Runs (form.Binary o a b) slots)
    at_and : (a b : Form) (slots : Slots R) → MeetsKinds (Runs a slots) → MeetsKinds (Runs b slots) → Finds a slots (IsScalarThat is_truth)
        → Finds b slots (IsScalarThat is_truth) → MeetsKinds (Runs (form.And a b) slots)
    at_or : (a b : Form) (slots : Slots R) → MeetsKinds (Runs a slots) → MeetsKinds (Runs b slots) → Finds a slots (IsScalarThat is_truth)
        → Finds b slots (IsScalarThat is_truth) → MeetsKinds (Runs (form.Or a b) slots)
    at_default : (a b : Form) (slots : Slots R) → MeetsKinds (Runs a slots) → MeetsKinds (Runs b slots) → Finds a slots IsScalar → Finds b slots IsScalar
        → MeetsKinds (Runs (form.Coalesce a b) slots)
    at_choice : (c a b : Form) (slots : Slots R) → MeetsKinds (Runs c slots) → MeetsKinds (Runs a slots) → MeetsKinds (Runs b slots)
        → Finds c slots (IsScalarThat is_truth) → MeetsKinds (Runs (form.Conditional c a b) slots)
    at_null_test : (wanted : Bool) (a : Form) (slots : Slots R) → MeetsKinds (Runs a slots) → Finds a slots IsObject
        → MeetsKinds (Runs (form.IsNull wanted a) slots)
    at_record : (fields : List (Field Form)) (slots : Slots R) → MeetsKinds (RunsFields fields slots) → MeetsKinds (Runs (form.Record fields) slots)
    no_field : (slots : Slots R) → MeetsKinds (RunsFields [] slots)
    one_field : (field : Field Form) (fields : List (Field Form)) (slots : Slots R) → MeetsKinds (Runs field.value slots)
        → MeetsKinds (RunsFields fields slots) → MeetsKinds (RunsFields (field ∷ fields) slots)
    at_pair : (a b : Form) (slots : Slots R) → MeetsKinds (Runs a slots) → MeetsKinds (Runs b slots) → MeetsKinds (Runs (form.Pair a b) slots)
    at_sequence : (a : Form) (slots : Slots R) → MeetsKinds (Runs a slots) → Finds a slots IsEnumerable → MeetsKinds (Runs (form.Sequence a) slots)
    at_simple : (method : Simple) (t : Ty) (a : Form) (slots : Slots R) → MeetsKinds (Runs a slots) → Finds a slots IsEnumerable
        → Each (items_in a slots) (Takes method) → suits method (out-Ty t) ≡ true
        → ((v w : Value R) → Among (items_in a slots) v → Among (items_in a slots) w → TakesTwo method v w) → MeetsKinds (Runs (form.Simple method t a) slots)
    at_given : (method : Given) (a b : Form) (slots : Slots R) → MeetsKinds (Runs a slots) → Finds a slots IsEnumerable
        → Each (items_in a slots) (TakesItem method) → MeetsKinds (Runs b slots) → Finds b slots (TakesArgument method)
        → Each (items_in b slots) (TakesItem method)
        → Finds b slots (λ w. (v : Value R) → Among (items_in a slots) v → TakesBeside method w v)
        → ((v w : Value R) → Among (items_in a slots ++ items_in b slots) v → Among (items_in a slots ++ items_in b slots) w → TakesTwoItems method v w)
        → MeetsKinds (Runs (form.Given method a b) slots)
    -- conditions are truth values
    at_where : (a f : Form) (slots : Slots R) → MeetsKinds (Runs a slots) → Finds a slots IsEnumerable
        → ((v : Value R) → Among (items_in a slots) v → MeetsKinds (Runs f (slots ++ v ∷ [])))
        → Each (items_in a slots) (λ v. Finds f (slots ++ v ∷ []) (IsScalarThat is_truth)) → MeetsKinds (Runs (form.Where a f) slots)
    at_select : (a f : Form) (slots : Slots R) → MeetsKinds (Runs a slots) → Finds a slots IsEnumerable
        → ((v : Value R) → Among (items_in a slots) v → MeetsKinds (Runs f (slots ++ v ∷ []))) → MeetsKinds (Runs (form.Select a f) slots)
    at_all : (a f : Form) (slots : Slots R) → MeetsKinds (Runs a slots) → Finds a slots IsEnumerable
        → ((v : Value R) → Among (items_in a slots) v → MeetsKinds (Runs f (slots ++ v ∷ [])))
        → Each (items_in a slots) (λ v. Finds f (slots ++ v ∷ []) (IsScalarThat is_truth)) → MeetsKinds (Runs (form.All a f) slots)
    at_expansion : (a inner result : Form) (slots : Slots R) → MeetsKinds (Runs a slots) → Finds a slots IsEnumerable
        → ((v : Value R) → Among (items_in a slots) v → MeetsKinds (Runs inner (slots ++ v ∷ []))) → Each (items_in a slots) (λ v. Finds inner (slots ++ v ∷ []) IsEnumerable)
        → ((v w : Value R) → Among (items_in a slots) v → Among (items_in inner (slots ++ v ∷ [])) w → MeetsKinds (Runs result (slots ++ v ∷ w ∷ [])))
        → MeetsKinds (Runs (form.SelectMany a inner result) slots)
    -- keys that are matched and grouped by are such as can be the same (`same_values`)
    at_join : (a : Form) (j : Joined Form) (slots : Slots R) → MeetsKinds (Runs a slots) → Finds a slots IsEnumerable → MeetsKinds (Runs j.inner slots)
        → Finds j.inner slots IsEnumerable → ((v : Value R) → Among (items_in a slots) v → MeetsKinds (Runs j.outer_key (slots ++ v ∷ [])))
        → Each (items_in a slots) (λ v. Finds j.outer_key (slots ++ v ∷ []) IsKey)
        → ((w : Value R) → Among (items_in j.inner slots) w → MeetsKinds (Runs j.inner_key (slots ++ w ∷ [])))
        → Each (items_in j.inner slots) (λ w. Finds j.inner_key (slots ++ w ∷ []) IsKey)
        → ((v w key : Value R) → Among (items_in a slots) v → form_meaning world j.outer_key (slots ++ v ∷ []) ≡ Ok key → Among (matches_in j slots key) w
        → MeetsKinds (Runs j.result (slots ++ v ∷ w ∷ [])))
        → ((v w : Value R) → Among (items_in a slots) v → Among (items_in j.inner slots) w
        → Finds j.outer_key (slots ++ v ∷ []) (λ k. Finds j.inner_key (slots ++ w ∷ []) (MayBeSame k)))
        → MeetsKinds (Runs (form.Join a j) slots)
    at_order : (a : Form) (ks : List (SortKey Form)) (slots : Slots R) → MeetsKinds (Runs a slots) → Finds a slots IsEnumerable
        → ((v : Value R) → Among (items_in a slots) v → MeetsKinds (RunsKeys ks (slots ++ v ∷ [])))
        → ((v w : Value R) → Among (items_in a slots) v → Among (items_in a slots) w → SortAlike ks (slots ++ v ∷ []) (slots ++ w ∷ []))
        → MeetsKinds (Runs (form.OrderBy a ks) slots)
    no_key : (slots : Slots R) → MeetsKinds (RunsKeys [] slots)
    one_key : (k : SortKey Form) (ks : List (SortKey Form)) (slots : Slots R) → MeetsKinds (Runs k.value slots) → Finds k.value slots IsScalar
        → MeetsKinds (RunsKeys ks slots) → MeetsKinds (RunsKeys (k ∷ ks) slots)
    at_grouping : (a key element : Form) (slots : Slots R) → MeetsKinds (Runs a slots) → Finds a slots IsEnumerable
        → ((v : Value R) → Among (items_in a slots) v → MeetsKinds (Runs key (slots ++ v ∷ []))) → Each (items_in a slots) (λ v. Finds key (slots ++ v ∷ []) IsKey)
        → ((v : Value R) → Among (items_in a slots) v → MeetsKinds (Runs element (slots ++ v ∷ [])))
        → ((v w : Value R) → Among (items_in a slots) v → Among (items_in a slots) w
        → Finds key (slots ++ v ∷ []) (λ k. Finds key (slots ++ w ∷ []) (MayBeSame k)))
        → MeetsKinds (Runs (form.GroupBy a key element) slots)
