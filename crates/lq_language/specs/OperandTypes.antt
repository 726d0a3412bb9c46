-- Types of operands, and the types of what operators and members of scalars give (ECMA-334, expressions).
use Rattle.std.specs.Prelude.{◌==◌, ◌&&◌, if◌then◌else◌, List, ℕ, Bool, true, false, Option, Some, None, codes}
use Rattle.std.specs.Str.{bytes_eq}
use Rattle.lq_value.specs.declared.ty.Ty.{Ty, out-Ty}
use Rattle.lq_value.specs.declared.ty.Ty.TheOpen.{Ty-F}
use Rattle.lq_value.specs.declared.ty.Ty.TheVariants as ty
use Rattle.lq_grammar.specs.declared.syntax.Binary.{Binary}
use Rattle.lq_grammar.specs.declared.syntax.Binary.TheVariants as binary
use Rattle.lq_language.specs.Names.{Names, column_type}

abbrev pub is_number : Ty-F Ty → Bool
is_number Ty-F.Int = true
is_number Ty-F.IntN = true
is_number layer = false

abbrev pub is_int : Ty-F Ty → Bool
is_int Ty-F.Int = true
is_int layer = false

-- types of values that a cell may hold
abbrev pub is_scalar : Ty-F Ty → Bool
is_scalar Ty-F.Int = true
is_scalar Ty-F.IntN = true
is_scalar Ty-F.Bool = true
is_scalar Ty-F.Str = true
is_scalar layer = false

-- whether an operator asks for the order of its operands, or whether they are the same
abbrev pub is_ordering : Binary → Bool
is_ordering binary.Less = true
is_ordering binary.Greater = true
is_ordering binary.LessOrEqual = true
is_ordering binary.GreaterOrEqual = true
is_ordering op = false

abbrev pub is_equality : Binary → Bool
is_equality binary.Equal = true
is_equality binary.NotEqual = true
is_equality op = false

-- whether an operator compares its operands
abbrev pub is_comparison : Binary → Bool
is_comparison binary.Less = true
is_comparison binary.Greater = true
is_comparison binary.LessOrEqual = true
is_comparison binary.GreaterOrEqual = true
is_comparison binary.Equal = true
is_comparison binary.NotEqual = true
is_comparison op = false

-- arithmetic of two ints gives an int, and any other an int?
abbrev pub number_type : Ty-F Ty → Ty-F Ty → Ty
number_type Ty-F.Int Ty-F.Int = ty.Int
number_type s t = ty.IntN

-- what `==` compares: two numbers, truth values or texts; and null with a number, a text, a row or null
abbrev pub are_comparable : Ty-F Ty → Ty-F Ty → Bool
are_comparable Ty-F.Int Ty-F.Int = true
are_comparable Ty-F.Int Ty-F.IntN = true
are_comparable Ty-F.Int Ty-F.Null = true
are_comparable Ty-F.IntN Ty-F.Int = true
are_comparable Ty-F.IntN Ty-F.IntN = true
are_comparable Ty-F.IntN Ty-F.Null = true
are_comparable Ty-F.Bool Ty-F.Bool = true
are_comparable Ty-F.Str Ty-F.Str = true
are_comparable Ty-F.Str Ty-F.Null = true
are_comparable (Ty-F.Row n) Ty-F.Null = true
are_comparable Ty-F.Null Ty-F.Int = true
are_comparable Ty-F.Null Ty-F.IntN = true
are_comparable Ty-F.Null Ty-F.Str = true
are_comparable Ty-F.Null (Ty-F.Row n) = true
are_comparable Ty-F.Null Ty-F.Null = true
are_comparable s t = false

-- texts that `+` joins: two, or one and null
abbrev pub are_joined : Ty-F Ty → Ty-F Ty → Bool
are_joined Ty-F.Str Ty-F.Str = true
are_joined Ty-F.Str Ty-F.Null = true
are_joined Ty-F.Null Ty-F.Str = true
are_joined s t = false

-- the type of `a ?? b`, whose first operand may be null
abbrev pub coalesced : Ty-F Ty → Ty-F Ty → Option Ty
coalesced Ty-F.IntN Ty-F.Int = Some ty.Int
coalesced Ty-F.IntN Ty-F.IntN = Some ty.IntN
coalesced Ty-F.IntN Ty-F.Null = Some ty.IntN
coalesced Ty-F.Str Ty-F.Str = Some ty.Str
coalesced Ty-F.Str Ty-F.Null = Some ty.Str
coalesced s t = None

-- the type of a choice between values of these types: one type of scalars or rows; int? where both are numbers; and with null
-- the other's, if it may be null
abbrev pub choice_type_of_layers : Ty-F Ty → Ty-F Ty → Option Ty
choice_type_of_layers Ty-F.Int Ty-F.Int = Some ty.Int
choice_type_of_layers Ty-F.Int Ty-F.IntN = Some ty.IntN
choice_type_of_layers Ty-F.IntN Ty-F.Int = Some ty.IntN
choice_type_of_layers Ty-F.IntN Ty-F.IntN = Some ty.IntN
choice_type_of_layers Ty-F.IntN Ty-F.Null = Some ty.IntN
choice_type_of_layers Ty-F.Null Ty-F.IntN = Some ty.IntN
choice_type_of_layers Ty-F.Bool Ty-F.Bool = Some ty.Bool
choice_type_of_layers Ty-F.Str Ty-F.Str = Some ty.Str
choice_type_of_layers Ty-F.Str Ty-F.Null = Some ty.Str
choice_type_of_layers Ty-F.Null Ty-F.Str = Some ty.Str
choice_type_of_layers (Ty-F.Row m) (Ty-F.Row n) = if m == n then Some (ty.Row m) else None
choice_type_of_layers (Ty-F.Row n) Ty-F.Null = Some (ty.Row n)
choice_type_of_layers Ty-F.Null (Ty-F.Row n) = Some (ty.Row n)
choice_type_of_layers s t = None

-- ---- the same as a function

abbrev pub row_table : Ty-F Ty → Option ℕ
row_table (Ty-F.Row n) = Some n
row_table layer = None

abbrev pub item_of : Ty-F Ty → Option Ty
item_of (Ty-F.Seq t) = Some t
item_of layer = None

abbrev pub is_bool : Ty-F Ty → Bool
is_bool Ty-F.Bool = true
is_bool layer = false

abbrev pub is_text : Ty-F Ty → Bool
is_text Ty-F.Str = true
is_text layer = false

abbrev pub is_bool_type : Option Ty → Bool
is_bool_type None = false
is_bool_type (Some t) = is_bool (out-Ty t)

-- of truth values alone, there is a truth value
abbrev pub truth_type : Bool → Option Ty
truth_type are_truths = if are_truths then Some ty.Bool else None

-- what an operator gives to two numbers: a truth value where it asks for their order, and else a number
abbrev pub result_type : Binary → Ty-F Ty → Ty-F Ty → Ty
result_type op s t = if is_ordering op then ty.Bool else number_type s t

-- `+` joins texts
abbrev pub joined_type : Binary → Ty-F Ty → Ty-F Ty → Option Ty
joined_type binary.Add s t = if are_joined s t then Some ty.Str else None
joined_type op s t = None

abbrev pub operated_type : Binary → Ty-F Ty → Ty-F Ty → Option Ty
operated_type op s t =
    if is_equality op then truth_type (are_comparable s t)
    else (if is_number s && is_number t then Some (result_type op s t) else joined_type op s t)

-- the type of what two operands that have types give
abbrev pub of_operands : (Ty-F Ty → Ty-F Ty → Option Ty) → Option Ty → Option Ty → Option Ty
of_operands given (Some s) (Some t) = given (out-Ty s) (out-Ty t)
of_operands given s t = None

abbrev pub binary_type : Binary → Option Ty → Option Ty → Option Ty
binary_type op s t = of_operands (operated_type op) s t

abbrev pub if_number : Option Ty → Option Ty
if_number None = None
if_number (Some t) = if is_number (out-Ty t) then Some t else None

abbrev pub choice_type : Bool → Option Ty → Option Ty → Option Ty
choice_type true s t = of_operands choice_type_of_layers s t
choice_type false s t = None

-- the member of this name: a column of a row, or a member of an int? or of a text
abbrev pub member_type : Names → List ℕ → Ty-F Ty → Option Ty
member_type names m (Ty-F.Row n) = column_type names.tables n m
member_type names m Ty-F.IntN = if bytes_eq m (codes "HasValue") then Some ty.Bool else (if bytes_eq m (codes "Value") then Some ty.Int else None)
member_type names m Ty-F.Str = if bytes_eq m (codes "Length") then Some ty.Int else None
member_type names m layer = None

abbrev pub is_text_type : Option Ty → Bool
is_text_type None = false
is_text_type (Some t) = is_text (out-Ty t)
