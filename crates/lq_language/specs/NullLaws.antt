-- Laws of null and of what `==` compares (ECMA-334, nullable value types, lifted operators, string concatenation and equality
-- operators; .NET, Nullable<int> and String).
use Rattle.std.specs.Prelude.{◌≡◌, ◌≢◌, ◌↔◌, ◌∷◌, List, [], ℕ, ℤ, true, false, Ok, Err}
use Rattle.lq_value.specs.declared.scalar.Scalar.{Scalar}
use Rattle.lq_value.specs.declared.scalar.Scalar.TheVariants as scalar
use Rattle.lq_value.specs.declared.value.Fault.{Fault}
use Rattle.lq_value.specs.declared.value.Fault.TheVariants as fault
use Rattle.lq_language.specs.OperationLaws.{AreOfOneKind, IsNumber, IsText}
use Rattle.lq_language.specs.Operations.{applied, operation_of}
use Rattle.lq_language.specs.OperandTypes.{is_comparison, is_ordering}
use Rattle.lq_language.specs.declared.operation.Op.TheVariants as op
use Rattle.lq_grammar.specs.declared.syntax.Binary.{Binary}

-- an int? has a value exactly where it isn't null
abbrev pub HasValueUnlessNull : Type 0
HasValueUnlessNull =
    (unknown : Fault) (s : Scalar) → IsNumber s
    → ((applied unknown op.HasValue (s ∷ []) ≡ Ok (scalar.Bool true)) ↔ (s ≢ scalar.Null))
    × ((applied unknown op.HasValue (s ∷ []) ≡ Ok (scalar.Bool false)) ↔ (s ≡ scalar.Null))

-- this is its value; and null has none, and no length; it is searched for nothing, and no text for it
abbrev pub NullHasNothing : Type 0
NullHasNothing =
    (unknown : Fault) (n : ℤ) (s : Scalar) → IsText s
    → (applied unknown op.Value (scalar.Int n ∷ []) ≡ Ok (scalar.Int n))
    × (applied unknown op.Value (scalar.Null ∷ []) ≡ Err fault.InvalidOperation)
    × (applied unknown op.Length (scalar.Null ∷ []) ≡ Err fault.NullReference)
    × (applied unknown op.StartsWith (scalar.Null ∷ s ∷ []) ≡ Err fault.NullReference)
    × (applied unknown op.EndsWith (scalar.Null ∷ s ∷ []) ≡ Err fault.NullReference)
    × (applied unknown op.Contains (scalar.Null ∷ s ∷ []) ≡ Err fault.NullReference)
    × (applied unknown op.StartsWith (s ∷ scalar.Null ∷ []) ≡ Err fault.NullReference)
    × (applied unknown op.EndsWith (s ∷ scalar.Null ∷ []) ≡ Err fault.NullReference)
    × (applied unknown op.Contains (s ∷ scalar.Null ∷ []) ≡ Err fault.NullReference)

-- `-` before null gives null, and so does arithmetic between null and a number or null, on either side
abbrev pub NullGivesNull : Type 0
NullGivesNull =
    (unknown : Fault)
    → (applied unknown op.Minus (scalar.Null ∷ []) ≡ Ok scalar.Null)
    × ((sign : Binary) → is_comparison sign ≡ false → (s : Scalar) → IsNumber s
    → (applied unknown (operation_of sign) (scalar.Null ∷ s ∷ []) ≡ Ok scalar.Null)
    × (applied unknown (operation_of sign) (s ∷ scalar.Null ∷ []) ≡ Ok scalar.Null))

-- `+` of texts takes null as the empty text
abbrev pub NullIsEmptyText : Type 0
NullIsEmptyText =
    (unknown : Fault) (t : List ℕ)
    → (applied unknown op.Concat (scalar.Text t ∷ scalar.Null ∷ []) ≡ Ok (scalar.Text t))
    × (applied unknown op.Concat (scalar.Null ∷ scalar.Text t ∷ []) ≡ Ok (scalar.Text t))
    × (applied unknown op.Concat (scalar.Null ∷ scalar.Null ∷ []) ≡ Ok (scalar.Text []))

-- two scalars of one kind are the same exactly where both are null, or both hold one content
abbrev pub SameByContent : Type 0
SameByContent =
    (unknown : Fault) (a b : Scalar) → AreOfOneKind a b
    → ((applied unknown op.Equal (a ∷ b ∷ []) ≡ Ok (scalar.Bool true)) ↔ (a ≡ b))
    × ((applied unknown op.Equal (a ∷ b ∷ []) ≡ Ok (scalar.Bool false)) ↔ (a ≢ b))
    × ((applied unknown op.NotEqual (a ∷ b ∷ []) ≡ Ok (scalar.Bool true)) ↔ (a ≢ b))
    × ((applied unknown op.NotEqual (a ∷ b ∷ []) ≡ Ok (scalar.Bool false)) ↔ (a ≡ b))

-- no number comes before null or after it, or is level with it by `<=` and `>=`; nor does null itself
abbrev pub NullHasNoOrder : Type 0
NullHasNoOrder =
    (unknown : Fault) (sign : Binary) → is_ordering sign ≡ true → (s : Scalar) → IsNumber s
    → (applied unknown (operation_of sign) (scalar.Null ∷ s ∷ []) ≡ Ok (scalar.Bool false))
    × (applied unknown (operation_of sign) (s ∷ scalar.Null ∷ []) ≡ Ok (scalar.Bool false))
