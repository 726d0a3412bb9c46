-- «Same and order»: which values are one key, by .NET's default equality of ints, truth values, texts and anonymous objects, and
-- which of two scalars comes first, by its default comparer, but texts by their UTF-8 bytes, with no culture.
use Rattle.std.specs.Prelude.{◌≡◌, ◌↔◌, ◌&&◌, List, ℕ, Bool, true, false, Some, slice_get}
use Rattle.std.specs.Bool.{beq}
use Rattle.std.specs.Cmp.{IsTotalOrder}
use Rattle.std.specs.Cmp.Lexicographic.{pointwise, slice_cmp}
use Rattle.std.specs.Ordering.{bool_cmp, int_cmp, int_eq, nat_cmp}
use Rattle.std.specs.Str.{bytes_eq}
use Rattle.std.specs.declared.cmp.Ordering.{Ordering}
use Rattle.std.specs.declared.cmp.Ordering.TheVariants.{Equal}
use Rattle.lq_value.specs.declared.scalar.Scalar.{Scalar}
use Rattle.lq_value.specs.declared.scalar.Scalar.TheVariants as scalar
use Rattle.lq_value.specs.declared.value.Value.{Value, fold-Value, out-Value}
use Rattle.lq_value.specs.declared.value.Value.TheOpen.{Value-F}
use Rattle.lq_value.specs.declared.value.Value.TheVariants as value

-- ---- sameness

-- two scalars are the same where both are null, or both hold one content
abbrev pub same_scalars : Scalar → Scalar → Bool
same_scalars scalar.Null scalar.Null = true
same_scalars (scalar.Int m) (scalar.Int n) = int_eq m n
same_scalars (scalar.Bool b) (scalar.Bool c) = beq b c
same_scalars (scalar.Text t) (scalar.Text u) = bytes_eq t u
same_scalars s t = false

module _ {R : Type 0} where
  -- A member with a test of its value, and another member: they are the same where they are of one name and the value passes.
  abbrev pub tested_member : List ℕ × (Value R → Bool) → List ℕ × Value R → Bool
  tested_member m n = bytes_eq m.0 n.0 && m.1 n.1

  -- Values layer by layer, where each value in the first has become the test of what is the same as it. Two records are the same
  -- where they have as many members, and these are the same pair by pair. Rows, groups and sequences aren't keys, and are the
  -- same as nothing.
  abbrev pub same_layers : Value-F R (Value R → Bool) → Value-F R (Value R) → Bool
  same_layers (Value-F.Scalar s) (Value-F.Scalar t) = same_scalars s t
  same_layers (Value-F.Rec ms) (Value-F.Rec ns) = pointwise tested_member ms ns
  same_layers layer other = false

  abbrev pub same_step : Value-F R (Value R → Bool) → Value R → Bool
  same_step layer other = same_layers layer (out-Value R other)

  -- whether two values are the same
  unfoldable pub same_values : Value R → Value R → Bool
  same_values = fold-Value R (Value R → Bool) same_step

  -- whether two members are of one name and of the same value
  abbrev pub same_member : List ℕ × Value R → List ℕ × Value R → Bool
  same_member m n = bytes_eq m.0 n.0 && same_values m.1 n.1

  -- A key is a scalar, or a record of keys.
  pub data IsKey : Value R → Type 0 where
    by_scalar : (v : Value R) (s : Scalar) → v ≡ value.Scalar s → IsKey v
    by_record : (v : Value R) (ms : List (List ℕ × Value R)) → v ≡ value.Rec ms
        → ((i : ℕ) (m : List ℕ × Value R) → slice_get ms i ≡ Some m → IsKey m.1) → IsKey v

-- two values are the same exactly where they are one key
abbrev pub TellsKeys : Type 0 → Type 0
TellsKeys R = (v w : Value R) → (same_values v w ≡ true) ↔ (IsKey v × (v ≡ w))

-- ---- the order of scalars

-- Null comes before all. Scalars of two kinds, which no typed expression compares, are in the order of their kinds.
abbrev pub kind_of : Scalar → ℕ
kind_of scalar.Null = 0
kind_of (scalar.Int n) = 1
kind_of (scalar.Bool b) = 2
kind_of (scalar.Text t) = 3

-- ints by their size, false before true, texts as the first byte in which they differ says, and else the shorter one first
abbrev pub order_of : Scalar → Scalar → Ordering
order_of (scalar.Int m) (scalar.Int n) = int_cmp m n
order_of (scalar.Bool b) (scalar.Bool c) = bool_cmp b c
order_of (scalar.Text t) (scalar.Text u) = slice_cmp nat_cmp t u
order_of s t = nat_cmp (kind_of s) (kind_of t)

-- the order is total: turning two scalars turns the answer, what is less stays so along a chain, and what is level compares alike
-- with any other
abbrev pub OrdersScalars : Type 0
OrdersScalars = IsTotalOrder order_of

-- two scalars are level exactly where they are one
abbrev pub TellsScalars : Type 0
TellsScalars = (s t : Scalar) → (order_of s t ≡ Equal) ↔ (s ≡ t)
