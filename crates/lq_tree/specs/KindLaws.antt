-- Laws of operands that are of the kind asked of them (`OperandKinds`): what each definition gives that answers for any operand, without
-- asking what kind it is of. Each relation has the cases of the kind alone, so that no operand of the kind meets the answer for another one.
use Rattle.std.specs.Prelude.{◌≡◌, ◌↔◌, ◌∷◌, ◌++◌, ◌&&◌, List, [], ℕ, ℤ, pos, Bool, true, false, Result, Ok, Err}
use Rattle.std.specs.Bool.{beq}
use Rattle.std.specs.Cmp.Lexicographic.{slice_cmp}
use Rattle.std.specs.Ordering.{bool_cmp, int_cmp, int_eq, nat_cmp}
use Rattle.std.specs.Str.{bytes_eq}
use Rattle.std.specs.declared.cmp.Ordering.{Ordering}
use Rattle.std.specs.declared.cmp.Ordering.TheVariants.{Equal, Greater, Less}
use Rattle.lq_value.specs.SameAndOrder.{order_of, same_values}
use Rattle.lq_value.specs.declared.scalar.Scalar.{Scalar}
use Rattle.lq_value.specs.declared.scalar.Scalar.TheVariants as scalar
use Rattle.lq_value.specs.declared.ty.Ty.{Ty, out-Ty}
use Rattle.lq_value.specs.declared.ty.Ty.TheOpen.{Ty-F}
use Rattle.lq_value.specs.declared.value.End.{End}
use Rattle.lq_value.specs.declared.value.End.TheVariants as end
use Rattle.lq_value.specs.declared.value.Fault.{Fault}
use Rattle.lq_value.specs.declared.value.Fault.TheVariants as fault
use Rattle.lq_value.specs.declared.value.Value.{Value, out-Value}
use Rattle.lq_value.specs.declared.value.Value.TheVariants as value
use Rattle.lq_language.specs.Meaning.{default_of, no_number, numbers}
use Rattle.lq_language.specs.OperandMeaning.{items_of}
use Rattle.lq_language.specs.OperationLaws.{Takes}
use Rattle.lq_language.specs.Operations.{ordered_by, same_content}
use Rattle.lq_language.specs.Operators.{first, pair, second}
use Rattle.lq_language.specs.Stream.{Stream}
use Rattle.lq_language.specs.ValuesOfTypes.{Every}
use Rattle.lq_language.specs.Worlds.{World}
use Rattle.lq_language.specs.declared.methods.Given.{Given}
use Rattle.lq_language.specs.declared.methods.Given.TheVariants as given
use Rattle.lq_language.specs.declared.methods.Simple.{Simple}
use Rattle.lq_language.specs.declared.methods.Simple.TheVariants as simple
use Rattle.lq_language.specs.declared.operation.Op.{Op}
use Rattle.lq_language.specs.declared.operation.Op.TheVariants as op
use Rattle.lq_grammar.specs.declared.syntax.SortKey.{SortKey}
use Rattle.lq_tree.specs.FormMeaning.{Slots, form_meaning, is_null_value}
use Rattle.lq_tree.specs.OperandKinds.{Among, Finds, IsEnumerable, IsPair, MayBeSame, MeetsKinds, Runs, SortAlike, items_in, suits, takes_one, takes_two}
use Rattle.lq_tree.specs.OperandKinds as kind
use Rattle.lq_tree.specs.declared.tree.Form.{Form, out-Form}
use Rattle.lq_tree.specs.declared.tree.Form.TheOpen.{Form-F}

-- ---- operators

-- an operator works on one operand, and on two, exactly where the laws of operators say that it takes them
abbrev pub TakesOneAlike : Type 0
TakesOneAlike = (o : Op) (a : Scalar) → (takes_one o a ≡ true) ↔ Takes o (a ∷ [])

abbrev pub TakesTwoAlike : Type 0
TakesTwoAlike = (o : Op) (a b : Scalar) → (takes_two o a b ≡ true) ↔ Takes o (a ∷ b ∷ [])

-- The answer of `<`, or of another order of ints, by its test: no null is less than anything, nor anything than null.
pub data Compares (test : ℤ → ℤ → Bool) : Scalar → Scalar → Bool → Type 0 where
  int_to_int : (m n : ℤ) → Compares test (scalar.Int m) (scalar.Int n) (test m n)
  null_to_int : (n : ℤ) → Compares test scalar.Null (scalar.Int n) false
  int_to_null : (m : ℤ) → Compares test (scalar.Int m) scalar.Null false
  null_to_null : Compares test scalar.Null scalar.Null false

-- on numbers it is one of these
abbrev pub OrdersNumbers : Type 0
OrdersNumbers =
    (unknown : Fault) (test : ℤ → ℤ → Bool) (x y : Scalar) → takes_two op.Less x y ≡ true
    → (b : Bool) × (ordered_by unknown test x y ≡ Ok b) × Compares test x y b

-- What is answered of two scalars of one kind: of two nulls, of null before a number or a text, of null behind one, and of two of them or of
-- two truth values by their contents.
pub data OfOneKind {A : Type 0} (nulls before behind : A) (ints : ℤ → ℤ → A) (truths : Bool → Bool → A) (texts : List ℕ → List ℕ → A) : Scalar → Scalar → A → Type 0 where
  two_nulls : OfOneKind nulls before behind ints truths texts scalar.Null scalar.Null nulls
  null_and_int : (n : ℤ) → OfOneKind nulls before behind ints truths texts scalar.Null (scalar.Int n) before
  null_and_text : (t : List ℕ) → OfOneKind nulls before behind ints truths texts scalar.Null (scalar.Text t) before
  int_and_null : (m : ℤ) → OfOneKind nulls before behind ints truths texts (scalar.Int m) scalar.Null behind
  text_and_null : (s : List ℕ) → OfOneKind nulls before behind ints truths texts (scalar.Text s) scalar.Null behind
  two_ints : (m n : ℤ) → OfOneKind nulls before behind ints truths texts (scalar.Int m) (scalar.Int n) (ints m n)
  two_truths : (b c : Bool) → OfOneKind nulls before behind ints truths texts (scalar.Bool b) (scalar.Bool c) (truths b c)
  two_texts : (s t : List ℕ) → OfOneKind nulls before behind ints truths texts (scalar.Text s) (scalar.Text t) (texts s t)

-- whether they are the same: two nulls are, and null is like no number or text
abbrev pub HaveSameContent : Scalar → Scalar → Bool → Type 0
HaveSameContent = OfOneKind true false false int_eq beq bytes_eq

-- their order: null stands first
abbrev pub StandAs : Scalar → Scalar → Ordering → Type 0
StandAs = OfOneKind Equal Less Greater int_cmp bool_cmp (slice_cmp nat_cmp)

-- on what `==` works on it is one of these
abbrev pub EqualsOneKind : Type 0
EqualsOneKind =
    (unknown : Fault) (x y : Scalar) → takes_two op.Equal x y ≡ true → (b : Bool) × (same_content unknown x y ≡ Ok b) × HaveSameContent x y b

-- what is told of two keys, or of the members of two records
pub data Sameness (R : Type 0) : Type 0 where
  Keys : Value R → Value R → Bool → Sameness R
  Members : List (List ℕ × Value R) → List (List ℕ × Value R) → Bool → Sameness R

module _ {R : Type 0} where
  -- ---- keys

  -- Whether two keys are the same: scalars of one kind by their contents, no record beside null, and records of members of the same names,
  -- in the same order, where the values are the same pair by pair.
  pub data AreSame : Sameness R → Type 0 where
    scalars : (v w : Value R) (x y : Scalar) (b : Bool) → v ≡ value.Scalar x → w ≡ value.Scalar y → HaveSameContent x y b → AreSame (Keys v w b)
    null_before : (v w : Value R) (ms : List (List ℕ × Value R)) → v ≡ value.Scalar scalar.Null → w ≡ value.Rec ms → AreSame (Keys v w false)
    null_behind : (v w : Value R) (ms : List (List ℕ × Value R)) → v ≡ value.Rec ms → w ≡ value.Scalar scalar.Null → AreSame (Keys v w false)
    records : (v w : Value R) (ms ns : List (List ℕ × Value R)) (b : Bool) → v ≡ value.Rec ms → w ≡ value.Rec ns → AreSame (Members ms ns b)
        → AreSame (Keys v w b)
    no_member : AreSame (Members [] [] true)
    one_member : (name : List ℕ) (v w : Value R) (ms ns : List (List ℕ × Value R)) (b c : Bool) → AreSame (Keys v w b) → AreSame (Members ms ns c)
        → AreSame (Members ((name, v) ∷ ms) ((name, w) ∷ ns) (b && c))

  -- ---- what is read of items

  -- the numbers of items, each of which is an int or null
  pub data ReadAs : List (Value R) → List ℤ → Type 0 where
    no_item : ReadAs [] []
    an_int : (n : ℤ) (v : Value R) (vs : List (Value R)) (ns : List ℤ) → v ≡ value.Scalar (scalar.Int n) → ReadAs vs ns → ReadAs (v ∷ vs) (n ∷ ns)
    a_null : (v : Value R) (vs : List (Value R)) (ns : List ℤ) → v ≡ value.Scalar scalar.Null → ReadAs vs ns → ReadAs (v ∷ vs) ns

  -- a sequence is enumerated as its items and its ending, and a group as its items
  pub data EnumeratedAs (v : Value R) : Stream (Value R) → Type 0 where
    of_sequence : (vs : List (Value R)) (e : End) → v ≡ value.Seq vs e → EnumeratedAs v (vs, e)
    of_group : (key : Value R) (vs : List (Value R)) → v ≡ value.Group key vs → EnumeratedAs v (vs, end.Done)

  -- the default of a type that has one: 0, false, or null where it has a place
  pub data IsDefault : Ty-F Ty → Value R → Type 0 where
    zero_of_int : IsDefault Ty-F.Int (value.Scalar (scalar.Int (pos 0)))
    null_of_nullable : IsDefault Ty-F.IntN (value.Scalar scalar.Null)
    false_of_bool : IsDefault Ty-F.Bool (value.Scalar (scalar.Bool false))
    null_of_text : IsDefault Ty-F.Str (value.Scalar scalar.Null)
    null_of_null : IsDefault Ty-F.Null (value.Scalar scalar.Null)
    null_of_row : (n : ℕ) → IsDefault (Ty-F.Row n) (value.Scalar scalar.Null)
    null_of_record : (ms : List (List ℕ × Ty)) → IsDefault (Ty-F.Rec ms) (value.Scalar scalar.Null)

-- what the least and the greatest of no number are
pub data IsOfNoNumber : Ty-F Ty → Result Scalar Fault → Type 0 where
  none_of_int : IsOfNoNumber Ty-F.Int (Err fault.InvalidOperation)
  none_of_nullable : IsOfNoNumber Ty-F.IntN (Ok scalar.Null)

-- ---- what a form is run on

module _ {R : Type 0} (world : World R) where
  -- a form is enumerated as its own items
  abbrev pub IsEnumerated : Form → Slots R → Type 0
  IsEnumerated a slots = Finds world a slots (λ v. EnumeratedAs v (items_of world (out-Value R v)))

  -- the keys of a sort give two scalars each that stand in an order
  abbrev pub KeysStand : List (SortKey Form) → Slots R → Slots R → Type 0
  KeysStand ks slots others =
      Every (λ k. (v w : Value R) → form_meaning world k.value slots ≡ Ok v → form_meaning world k.value others ≡ Ok w
      → (x : Scalar) × (y : Scalar) × (v ≡ value.Scalar x) × (w ≡ value.Scalar y) × StandAs x y (order_of x y)) ks

  -- two keys are compared, and any two of some
  abbrev pub AreCompared : Value R → Value R → Type 0
  AreCompared v w = AreSame (Keys v w (same_values v w))

  abbrev pub AreAllCompared : List (Value R) → Type 0
  AreAllCompared vs = (v w : Value R) → Among world vs v → Among world vs w → AreCompared v w

  -- what a method reads of its items, and what it answers of none
  abbrev pub IsReadBy : Simple → List (Value R) → Type 0
  IsReadBy simple.Distinct vs = AreAllCompared vs
  IsReadBy simple.Sum vs = ReadAs vs (numbers vs)
  IsReadBy simple.Min vs = ReadAs vs (numbers vs)
  IsReadBy simple.Max vs = ReadAs vs (numbers vs)
  IsReadBy method vs = Unit {0}

  abbrev pub IsAnswered : Simple → Ty → Type 0
  IsAnswered simple.DefaultIfEmpty t = IsDefault {R = R} (out-Ty t) (default_of t)
  IsAnswered simple.FirstOrDefault t = IsDefault {R = R} (out-Ty t) (default_of t)
  IsAnswered simple.SingleOrDefault t = IsDefault {R = R} (out-Ty t) (default_of t)
  IsAnswered simple.Min t = IsOfNoNumber (out-Ty t) (no_number t)
  IsAnswered simple.Max t = IsOfNoNumber (out-Ty t) (no_number t)
  IsAnswered method t = Unit {0}

  -- what a method with an argument reads of it, and of the items of both
  abbrev pub IsArgument : Given → List (Value R) → Value R → Type 0
  IsArgument given.Concat vs w = EnumeratedAs w (items_of world (out-Value R w))
  IsArgument given.Union vs w = EnumeratedAs w (items_of world (out-Value R w))
  IsArgument given.Intersect vs w = EnumeratedAs w (items_of world (out-Value R w))
  IsArgument given.Except vs w = EnumeratedAs w (items_of world (out-Value R w))
  IsArgument given.Contains vs w = (v : Value R) → Among world vs v → AreCompared w v
  IsArgument method vs w = Unit {0}

  abbrev pub AreItems : Given → List (Value R) → Type 0
  AreItems given.Union vs = AreAllCompared vs
  AreItems given.Intersect vs = AreAllCompared vs
  AreItems given.Except vs = AreAllCompared vs
  AreItems method vs = Unit {0}

  -- Each operand whose kind the meaning of a form doesn't ask for is one of the cases above.
  abbrev pub IsRunOnKinds : Slots R → Form-F Form → Type 0
  IsRunOnKinds slots (Form-F.First a) = Finds world a slots (λ v. v ≡ pair (first v) (second v))
  IsRunOnKinds slots (Form-F.Second a) = Finds world a slots (λ v. v ≡ pair (first v) (second v))
  IsRunOnKinds slots (Form-F.Unary o a) = Finds world a slots (λ v. (x : Scalar) × (v ≡ value.Scalar x) × Takes o (x ∷ []))
  IsRunOnKinds slots (Form-F.Binary o a b) =
      Finds world a slots (λ v. Finds world b slots (λ w. (x : Scalar) × (y : Scalar) × (v ≡ value.Scalar x) × (w ≡ value.Scalar y) × Takes o (x ∷ y ∷ [])))
  IsRunOnKinds slots (Form-F.Sequence a) = IsEnumerated a slots
  IsRunOnKinds slots (Form-F.Simple method t a) = IsEnumerated a slots × IsReadBy method (items_in world a slots) × IsAnswered method t
  IsRunOnKinds slots (Form-F.Given method a b) =
      IsEnumerated a slots × Finds world b slots (IsArgument method (items_in world a slots)) × AreItems method (items_in world a slots ++ items_in world b slots)
  IsRunOnKinds slots (Form-F.Where a f) = IsEnumerated a slots
  IsRunOnKinds slots (Form-F.Select a f) = IsEnumerated a slots
  IsRunOnKinds slots (Form-F.All a f) = IsEnumerated a slots
  IsRunOnKinds slots (Form-F.SelectMany a inner result) =
      IsEnumerated a slots × ((v : Value R) → Among world (items_in world a slots) v → IsEnumerated inner (slots ++ v ∷ []))
  IsRunOnKinds slots (Form-F.Join a j) =
      IsEnumerated a slots × IsEnumerated j.inner slots
      × ((v w : Value R) → Among world (items_in world a slots) v → Among world (items_in world j.inner slots) w
      → Finds world j.outer_key (slots ++ v ∷ []) (λ k. Finds world j.inner_key (slots ++ w ∷ []) (AreCompared k)))
  IsRunOnKinds slots (Form-F.OrderBy a ks) =
      IsEnumerated a slots
      × ((v w : Value R) → Among world (items_in world a slots) v → Among world (items_in world a slots) w → KeysStand ks (slots ++ v ∷ []) (slots ++ w ∷ []))
  IsRunOnKinds slots (Form-F.GroupBy a key element) =
      IsEnumerated a slots
      × ((v w : Value R) → Among world (items_in world a slots) v → Among world (items_in world a slots) w
      → Finds world key (slots ++ v ∷ []) (λ k. Finds world key (slots ++ w ∷ []) (AreCompared k)))
  IsRunOnKinds slots layer = Unit {0}

-- ---- the laws

-- a pair is that of its first part and its second
abbrev pub PairsHaveParts : Type 0 → Type 0
PairsHaveParts R = (v : Value R) → IsPair v → v ≡ pair (first v) (second v)

-- two keys that may be the same are the same exactly where the relation says so
abbrev pub KeysAreSame : Type 0 → Type 0
KeysAreSame R = (v w : Value R) → MayBeSame v w → AreSame (Keys v w (same_values v w))

-- what a sort compares by each of its keys are two scalars that stand so
abbrev pub SortsOneKind : Type 0 → Type 0
SortsOneKind R =
    (world : World R) (ks : List (SortKey Form)) (slots others : Slots R) → SortAlike world ks slots others → KeysStand world ks slots others

-- of items that Sum, Min or Max takes all numbers are read
abbrev pub NumbersAreRead : Type 0 → Type 0
NumbersAreRead R =
    (vs : List (Value R)) → (Every (kind.Takes simple.Sum) vs → ReadAs vs (numbers vs))
    × (Every (kind.Takes simple.Min) vs → ReadAs vs (numbers vs)) × (Every (kind.Takes simple.Max) vs → ReadAs vs (numbers vs))

-- what may be enumerated has its own items, whichever fault stands where there is no meaning
abbrev pub ItemsAreEnumerated : Type 0 → Type 0
ItemsAreEnumerated R = (world : World R) (v : Value R) → IsEnumerable v → EnumeratedAs v (items_of world (out-Value R v))

-- where a method answers with a default its type has one
abbrev pub DefaultsAreThere : Type 0 → Type 0
DefaultsAreThere R =
    (t : Ty) → (suits simple.DefaultIfEmpty (out-Ty t) ≡ true → IsDefault {R = R} (out-Ty t) (default_of t))
    × (suits simple.FirstOrDefault (out-Ty t) ≡ true → IsDefault {R = R} (out-Ty t) (default_of t))
    × (suits simple.SingleOrDefault (out-Ty t) ≡ true → IsDefault {R = R} (out-Ty t) (default_of t))

-- and where it answers for no number, that is the answer of its type
abbrev pub NoNumbersAreThere : Type 0
NoNumbersAreThere =
    (t : Ty) → (suits simple.Min (out-Ty t) ≡ true → IsOfNoNumber (out-Ty t) (no_number t))
    × (suits simple.Max (out-Ty t) ≡ true → IsOfNoNumber (out-Ty t) (no_number t))

-- null alone is null
abbrev pub NullIsNull : Type 0 → Type 0
NullIsNull R = (world : World R) (v : Value R) → (is_null_value world (out-Value R v) ≡ true) ↔ (v ≡ value.Scalar scalar.Null)

-- so it is wherever a form is run on operands that are of their kinds
abbrev pub RunsOnKinds : Type 0 → Type 0
RunsOnKinds R = (world : World R) (f : Form) (slots : Slots R) → MeetsKinds world (Runs f slots) → IsRunOnKinds world slots (out-Form f)
