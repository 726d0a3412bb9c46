-- Laws of the operators and members that evaluate all their operands.
use Rattle.std.specs.Prelude.{◌≡◌, ◌↔◌, ◌⊎◌, ◌<◌, ◌∷◌, ◌++◌, List, [], ℕ, ℤ, pos, negsuc, ◌+ℤ◌, ◌*ℤ◌, int_le, true, Ok, unsigned_abs}
use Rattle.lq_value.specs.declared.scalar.Scalar.{Scalar}
use Rattle.lq_value.specs.declared.scalar.Scalar.TheVariants as scalar
use Rattle.lq_value.specs.declared.value.Fault.{Fault}
use Rattle.lq_language.specs.Operations.{applied, begins_with, divided, ends_in, has_in, left_over}
use Rattle.lq_language.specs.declared.operation.Op.{Op}
use Rattle.lq_language.specs.declared.operation.Op.TheVariants as op

-- ---- which operands are asked for

-- an int or null, a truth value, and a text or null
abbrev pub IsNumber : Scalar → Type 0
IsNumber (scalar.Int n) = Unit {0}
IsNumber scalar.Null = Unit {0}
IsNumber s = ⊥

abbrev pub IsTruth : Scalar → Type 0
IsTruth (scalar.Bool b) = Unit {0}
IsTruth s = ⊥

abbrev pub IsText : Scalar → Type 0
IsText (scalar.Text s) = Unit {0}
IsText scalar.Null = Unit {0}
IsText s = ⊥

-- two numbers, two truth values or two texts
abbrev pub AreOfOneKind : Scalar → Scalar → Type 0
AreOfOneKind a b = (IsNumber a × IsNumber b) ⊎ (IsTruth a × IsTruth b) ⊎ (IsText a × IsText b)

-- The operator or member takes operands of this number and these kinds.
abbrev pub Takes : Op → List Scalar → Type 0
Takes op.Not (a ∷ []) = IsTruth a
Takes op.Minus (a ∷ []) = IsNumber a
Takes op.HasValue (a ∷ []) = IsNumber a
Takes op.Value (a ∷ []) = IsNumber a
Takes op.Length (a ∷ []) = IsText a
Takes op.Multiply (a ∷ b ∷ []) = IsNumber a × IsNumber b
Takes op.Divide (a ∷ b ∷ []) = IsNumber a × IsNumber b
Takes op.Remainder (a ∷ b ∷ []) = IsNumber a × IsNumber b
Takes op.Add (a ∷ b ∷ []) = IsNumber a × IsNumber b
Takes op.Subtract (a ∷ b ∷ []) = IsNumber a × IsNumber b
Takes op.Less (a ∷ b ∷ []) = IsNumber a × IsNumber b
Takes op.Greater (a ∷ b ∷ []) = IsNumber a × IsNumber b
Takes op.LessOrEqual (a ∷ b ∷ []) = IsNumber a × IsNumber b
Takes op.GreaterOrEqual (a ∷ b ∷ []) = IsNumber a × IsNumber b
Takes op.Equal (a ∷ b ∷ []) = AreOfOneKind a b
Takes op.NotEqual (a ∷ b ∷ []) = AreOfOneKind a b
Takes op.Concat (a ∷ b ∷ []) = IsText a × IsText b
Takes op.StartsWith (a ∷ b ∷ []) = IsText a × IsText b
Takes op.EndsWith (a ∷ b ∷ []) = IsText a × IsText b
Takes op.Contains (a ∷ b ∷ []) = IsText a × IsText b
Takes other operands = ⊥

-- ---- the laws

-- on operands that an operator or member takes, its result is the same whatever is used where there is no meaning
abbrev pub IsDecided : Type 0
IsDecided = (o : Op) (operands : List Scalar) → Takes o operands → (f g : Fault) → applied f o operands ≡ applied g o operands

-- a number has the sign of another, or is 0
abbrev pub HasSignOf : ℤ → ℤ → Type 0
HasSignOf (pos m) r = int_le (pos 0) r ≡ true
HasSignOf (negsuc m) r = int_le r (pos 0) ≡ true

-- The quotient and the remainder make up the dividend; the remainder is nearer to 0 than the divisor, and has the dividend's sign.
pub record DividesTowardsZero (m n quotient remainder : ℤ) : Type 0 where
  pub whole : (quotient *ℤ n) +ℤ remainder ≡ m
  pub small : unsigned_abs remainder < unsigned_abs n
  pub signed : HasSignOf m remainder

abbrev pub Divides : Type 0
Divides =
    (m n quotient remainder : ℤ) → divided m n ≡ Ok (scalar.Int quotient) → left_over m n ≡ Ok (scalar.Int remainder) → DividesTowardsZero m n quotient remainder

-- a text begins with another, ends with it, or has it, exactly where it is the other and more after it, before it, or on both sides
abbrev pub FindsPrefixes : Type 0
FindsPrefixes = (text needle : List ℕ) → (begins_with text needle ≡ true) ↔ ((rest : List ℕ) × (text ≡ needle ++ rest))

abbrev pub FindsSuffixes : Type 0
FindsSuffixes = (text needle : List ℕ) → (ends_in text needle ≡ true) ↔ ((front : List ℕ) × (text ≡ front ++ needle))

abbrev pub FindsParts : Type 0
FindsParts = (text needle : List ℕ) → (has_in text needle ≡ true) ↔ ((front : List ℕ) × (rest : List ℕ) × (text ≡ front ++ (needle ++ rest)))
