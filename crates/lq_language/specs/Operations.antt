-- «Scalar meaning» of the operators and members that evaluate all their operands (ECMA-334, arithmetic, relational, equality and
-- logical negation operators; .NET, Nullable<int> and String), a case for each row of their table.
use Rattle.std.specs.Prelude.{◌+◌, ◌∷◌, ◌++◌, ◌&&◌, ◌||◌, if◌then◌else◌, not, List, [], ℕ, ℤ, pos, neg_ℤ, ◌+ℤ◌, ◌-ℤ◌, ◌*ℤ◌, Bool, true, false, Option, Some, None, Result, Ok, Err, length, int_div, int_le, int_lt, int_rem, nat_eq}
use Rattle.std.specs.Char.Escape.{encode_utf16}
use Rattle.std.specs.List.{ends_with, starts_with}
use Rattle.std.specs.Ordering.{int_eq}
use Rattle.std.specs.Str.{bytes_eq, chars}
use Rattle.lq_value.specs.declared.scalar.Scalar.{Scalar}
use Rattle.lq_value.specs.declared.scalar.Scalar.TheVariants as scalar
use Rattle.lq_value.specs.declared.value.Fault.{Fault}
use Rattle.lq_value.specs.declared.value.Fault.TheVariants as fault
use Rattle.lq_language.specs.declared.operation.Op.{Op}
use Rattle.lq_language.specs.declared.operation.Op.TheVariants as op
use Rattle.lq_grammar.specs.declared.syntax.Binary.{Binary}
use Rattle.lq_grammar.specs.declared.syntax.Binary.TheVariants as binary

-- operands are evaluated from left to right, and the first fault is the result
abbrev pub on_ok : {A B : Type 0} → Result A Fault → (A → Result B Fault) → Result B Fault
on_ok (Ok x) next = next x
on_ok (Err f) next = Err f

-- ---- numbers

-- whether an int holds the number
abbrev pub is_int : ℤ → Bool
is_int n = int_le (neg_ℤ (pos 2147483648)) n && int_le n (pos 2147483647)

-- a result that no int holds is an overflow: arithmetic is checked
abbrev pub checked : ℤ → Result Scalar Fault
checked n = if is_int n then Ok (scalar.Int n) else Err fault.Overflow

-- division truncates towards zero
abbrev pub divided : ℤ → ℤ → Result Scalar Fault
divided m n = if int_eq n (pos 0) then Err fault.DivideByZero else checked (int_div m n)

-- a remainder has the dividend's sign; where the quotient is an overflow, so is the remainder
abbrev pub left_over : ℤ → ℤ → Result Scalar Fault
left_over m n = if int_eq n (pos 0) then Err fault.DivideByZero else on_ok (checked (int_div m n)) (λ quotient. Ok (scalar.Int (int_rem m n)))

-- ---- texts, by their bytes in UTF-8

-- whether the text begins with the other, ends with it, or has it anywhere
abbrev pub begins_with : List ℕ → List ℕ → Bool
begins_with text needle = starts_with nat_eq text needle

abbrev pub ends_in : List ℕ → List ℕ → Bool
ends_in text needle = ends_with nat_eq text needle

abbrev pub has_in : List ℕ → List ℕ → Bool
has_in [] needle = begins_with [] needle
has_in (b ∷ bs) needle = begins_with (b ∷ bs) needle || has_in bs needle

-- how many UTF-16 units characters take
abbrev pub utf16_units : List ℕ → ℕ
utf16_units [] = 0
utf16_units (c ∷ cs) = length (encode_utf16 c) + utf16_units cs

-- what a sign between two numbers does
abbrev pub operation_of : Binary → Op
operation_of binary.Multiply = op.Multiply
operation_of binary.Divide = op.Divide
operation_of binary.Remainder = op.Remainder
operation_of binary.Add = op.Add
operation_of binary.Subtract = op.Subtract
operation_of binary.Less = op.Less
operation_of binary.Greater = op.Greater
operation_of binary.LessOrEqual = op.LessOrEqual
operation_of binary.GreaterOrEqual = op.GreaterOrEqual
operation_of binary.Equal = op.Equal
operation_of binary.NotEqual = op.NotEqual

-- ---- what is done to operands; scalars that no typed operator takes give what is unknown

module _ (unknown : Fault) where
  -- the truth value of a condition
  abbrev pub truth_of : Scalar → Result Bool Fault
  truth_of (scalar.Bool b) = Ok b
  truth_of s = Err unknown

  -- arithmetic on two ints
  abbrev pub computed : Op → ℤ → ℤ → Result Scalar Fault
  computed op.Multiply m n = checked (m *ℤ n)
  computed op.Divide m n = divided m n
  computed op.Remainder m n = left_over m n
  computed op.Add m n = checked (m +ℤ n)
  computed op.Subtract m n = checked (m -ℤ n)
  computed other m n = Err unknown

  -- a null operand gives null
  abbrev pub arithmetic : Op → Scalar → Scalar → Result Scalar Fault
  arithmetic o (scalar.Int m) (scalar.Int n) = computed o m n
  arithmetic o (scalar.Int m) scalar.Null = Ok scalar.Null
  arithmetic o scalar.Null (scalar.Int n) = Ok scalar.Null
  arithmetic o scalar.Null scalar.Null = Ok scalar.Null
  arithmetic o a b = Err unknown

  abbrev pub negated : Scalar → Result Scalar Fault
  negated (scalar.Int n) = checked (neg_ℤ n)
  negated scalar.Null = Ok scalar.Null
  negated s = Err unknown

  -- `+` of texts takes null as empty
  abbrev pub joined : Scalar → Scalar → Result Scalar Fault
  joined (scalar.Text s) (scalar.Text t) = Ok (scalar.Text (s ++ t))
  joined (scalar.Text s) scalar.Null = Ok (scalar.Text s)
  joined scalar.Null (scalar.Text t) = Ok (scalar.Text t)
  joined scalar.Null scalar.Null = Ok (scalar.Text [])
  joined a b = Err unknown

  -- `<` of two ints; false where an operand is null
  abbrev pub ordered_by : (ℤ → ℤ → Bool) → Scalar → Scalar → Result Bool Fault
  ordered_by test (scalar.Int m) (scalar.Int n) = Ok (test m n)
  ordered_by test scalar.Null b = Ok false
  ordered_by test a scalar.Null = Ok false
  ordered_by test a b = Err unknown

  -- `==`: true for two nulls and for equal contents
  abbrev pub same_content : Scalar → Scalar → Result Bool Fault
  same_content scalar.Null scalar.Null = Ok true
  same_content (scalar.Int m) (scalar.Int n) = Ok (int_eq m n)
  same_content (scalar.Bool true) (scalar.Bool b) = Ok b
  same_content (scalar.Bool false) (scalar.Bool b) = Ok (not b)
  same_content (scalar.Text s) (scalar.Text t) = Ok (bytes_eq s t)
  same_content scalar.Null b = Ok false
  same_content a scalar.Null = Ok false
  same_content a b = Err unknown

  -- what an operator that compares gives; others don't compare
  abbrev pub compared : Binary → Scalar → Scalar → Result Bool Fault
  compared binary.Less a b = ordered_by int_lt a b
  compared binary.Greater a b = ordered_by int_lt b a
  compared binary.LessOrEqual a b = ordered_by int_le a b
  compared binary.GreaterOrEqual a b = ordered_by int_le b a
  compared binary.Equal a b = same_content a b
  compared binary.NotEqual a b = on_ok (same_content a b) (λ same. Ok (not same))
  compared other a b = Err unknown

  -- whether an int? has a value, and that value
  abbrev pub has_value : Scalar → Result Bool Fault
  has_value (scalar.Int n) = Ok true
  has_value scalar.Null = Ok false
  has_value s = Err unknown

  abbrev pub value_of : Scalar → Result Scalar Fault
  value_of (scalar.Int n) = Ok (scalar.Int n)
  value_of scalar.Null = Err fault.InvalidOperation
  value_of s = Err unknown

  -- `Length` counts UTF-16 units
  abbrev pub length_of : Scalar → Result Scalar Fault
  length_of (scalar.Text s) = checked (pos (utf16_units (chars s)))
  length_of scalar.Null = Err fault.NullReference
  length_of s = Err unknown

  -- text calls: whether a text has another in it
  abbrev pub text_matches : Op → List ℕ → List ℕ → Result Bool Fault
  text_matches op.StartsWith text needle = Ok (begins_with text needle)
  text_matches op.EndsWith text needle = Ok (ends_in text needle)
  text_matches op.Contains text needle = Ok (has_in text needle)
  text_matches other text needle = Err unknown

  -- a null text faults, and so does a null argument
  abbrev pub searched : Op → Scalar → Scalar → Result Bool Fault
  searched o (scalar.Text s) (scalar.Text t) = text_matches o s t
  searched o (scalar.Text s) scalar.Null = Err fault.NullReference
  searched o scalar.Null (scalar.Text t) = Err fault.NullReference
  searched o scalar.Null scalar.Null = Err fault.NullReference
  searched o a b = Err unknown

  abbrev pub truth : Result Bool Fault → Result Scalar Fault
  truth answer = on_ok answer (λ b. Ok (scalar.Bool b))

  -- an operator or member of one operand, and of two
  abbrev pub of_one : Op → Scalar → Result Scalar Fault
  of_one op.Not a = truth (on_ok (truth_of a) (λ b. Ok (not b)))
  of_one op.Minus a = negated a
  of_one op.HasValue a = truth (has_value a)
  of_one op.Value a = value_of a
  of_one op.Length a = length_of a
  of_one other a = Err unknown

  abbrev pub of_two : Op → Scalar → Scalar → Result Scalar Fault
  of_two op.Multiply a b = arithmetic op.Multiply a b
  of_two op.Divide a b = arithmetic op.Divide a b
  of_two op.Remainder a b = arithmetic op.Remainder a b
  of_two op.Add a b = arithmetic op.Add a b
  of_two op.Subtract a b = arithmetic op.Subtract a b
  of_two op.Concat a b = joined a b
  of_two op.Less a b = truth (compared binary.Less a b)
  of_two op.Greater a b = truth (compared binary.Greater a b)
  of_two op.LessOrEqual a b = truth (compared binary.LessOrEqual a b)
  of_two op.GreaterOrEqual a b = truth (compared binary.GreaterOrEqual a b)
  of_two op.Equal a b = truth (compared binary.Equal a b)
  of_two op.NotEqual a b = truth (compared binary.NotEqual a b)
  of_two op.StartsWith a b = truth (searched op.StartsWith a b)
  of_two op.EndsWith a b = truth (searched op.EndsWith a b)
  of_two op.Contains a b = truth (searched op.Contains a b)
  of_two other a b = Err unknown

  -- a member of a scalar, and a search in a text, where there are such
  abbrev pub of_member : Option Op → Scalar → Result Scalar Fault
  of_member (Some o) a = of_one o a
  of_member None a = Err unknown

  abbrev pub of_search : Option Op → Scalar → Scalar → Result Scalar Fault
  of_search (Some o) a b = of_two o a b
  of_search None a b = Err unknown

  -- «Scalar meaning» of one operator or member, on the values of its operands
  abbrev pub applied : Op → List Scalar → Result Scalar Fault
  applied o (a ∷ []) = of_one o a
  applied o (a ∷ b ∷ []) = of_two o a b
  applied o operands = Err unknown
