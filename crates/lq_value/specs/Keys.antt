-- The key of a value: what is hashed and compared in the value's place.
use Rattle.std.specs.Prelude.{◌≡◌, ◌↔◌, List, [], ◌∷◌, ◌++◌, map, ℕ, true}
use Rattle.lq_value.specs.SameAndOrder.{same_values}
use Rattle.lq_value.specs.KeyTests.{key_is}
use Rattle.lq_value.specs.declared.key.Atom.{Atom}
use Rattle.lq_value.specs.declared.key.Atom.TheVariants as atom
use Rattle.lq_value.specs.declared.key.Key.{Key}
use Rattle.lq_value.specs.declared.key.Key.TheVariants as key
use Rattle.lq_value.specs.declared.scalar.Scalar.{Scalar}
use Rattle.lq_value.specs.declared.scalar.Scalar.TheVariants as scalar
use Rattle.lq_value.specs.declared.ty.Ty.{Ty, out-Ty}
use Rattle.lq_value.specs.declared.ty.Ty.TheOpen.{Ty-F}
use Rattle.lq_value.specs.declared.value.Value.{Value, fold-Value, out-Value}
use Rattle.lq_value.specs.declared.value.Value.TheOpen.{Value-F}
use Rattle.lq_value.specs.declared.value.Value.TheVariants as value

-- lists after one another
abbrev pub flat : {A : Type 0} → List (List A) → List A
flat [] = []
flat (xs ∷ xss) = xs ++ flat xss

abbrev pub key_of_scalar : Scalar → Key
key_of_scalar scalar.Null = key.Null
key_of_scalar (scalar.Int n) = key.Int n
key_of_scalar (scalar.Bool b) = key.Bool b
key_of_scalar (scalar.Text t) = key.Text t

module _ {R : Type 0} where
  -- a scalar is one atom, a record the atoms of its members between two marks; what isn't a key counts as null
  abbrev pub atoms_step : Value-F R (List Atom) → List Atom
  atoms_step (Value-F.Scalar s) = atom.One s ∷ []
  atoms_step (Value-F.Rec ms) = atom.Open ∷ (flat (map (λ m. m.1) ms) ++ atom.Close ∷ [])
  atoms_step layer = atom.One scalar.Null ∷ []

  -- the atoms of a value
  unfoldable pub atoms_of : Value R → List Atom
  atoms_of = fold-Value R (List Atom) atoms_step

  -- the atoms of all members' values, in their order; the names are left out, since they are those of the record's type
  abbrev pub members_atoms : List (List ℕ × Value R) → List Atom
  members_atoms [] = []
  members_atoms (m ∷ ms) = atoms_of m.1 ++ members_atoms ms

  abbrev pub key_of_layer : Value-F R (Value R) → Key
  key_of_layer (Value-F.Scalar s) = key_of_scalar s
  key_of_layer (Value-F.Rec ms) = key.Record (members_atoms ms)
  key_of_layer layer = key.Null

  -- the key of a value
  unfoldable pub key_value : Value R → Key
  key_value v = key_of_layer (out-Value R v)

-- Which scalars are of a key type: ints are of int and int?, null is of int?, of string and of each record type.
abbrev pub IsScalarOfKey : Ty-F Ty → Scalar → Type 0
IsScalarOfKey Ty-F.Int (scalar.Int n) = Unit {0}
IsScalarOfKey Ty-F.IntN (scalar.Int n) = Unit {0}
IsScalarOfKey Ty-F.IntN scalar.Null = Unit {0}
IsScalarOfKey Ty-F.Bool (scalar.Bool b) = Unit {0}
IsScalarOfKey Ty-F.Str (scalar.Text t) = Unit {0}
IsScalarOfKey Ty-F.Str scalar.Null = Unit {0}
IsScalarOfKey (Ty-F.Rec ms) scalar.Null = Unit {0}
IsScalarOfKey layer s = ⊥

module _ {R : Type 0} where
  -- Values of key types, each of the type at its place: a scalar of it, or a record with the type's names and with values of the
  -- types under these, which are key types as well.
  pub data AreOfKeyTypes : List Ty → List (Value R) → Type 0 where
    no_more : AreOfKeyTypes [] []
    scalar_first : (t : Ty) (ts : List Ty) (v : Value R) (vs : List (Value R)) (s : Scalar) → v ≡ value.Scalar s → IsScalarOfKey (out-Ty t) s
        → AreOfKeyTypes ts vs → AreOfKeyTypes (t ∷ ts) (v ∷ vs)
    record_first : (t : Ty) (ts : List Ty) (v : Value R) (vs : List (Value R)) (ms : List (List ℕ × Ty)) (ns : List (List ℕ × Value R))
        → out-Ty t ≡ Ty-F.Rec ms → v ≡ value.Rec ns → map (λ n. n.0) ns ≡ map (λ m. m.0) ms
        → AreOfKeyTypes (map (λ m. m.1) ms) (map (λ n. n.1) ns) → AreOfKeyTypes ts vs → AreOfKeyTypes (t ∷ ts) (v ∷ vs)

  -- A value is of a key type.
  abbrev pub IsOfKeyType : Ty → Value R → Type 0
  IsOfKeyType t v = AreOfKeyTypes (t ∷ []) (v ∷ [])

-- two values of one key type have equal keys exactly where they are the same
abbrev pub KeysTell : Type 0 → Type 0
KeysTell R = (t : Ty) (v w : Value R) → IsOfKeyType t v → IsOfKeyType t w → (key_value v ≡ key_value w) ↔ (same_values v w ≡ true)

-- two keys are equal exactly where they are one
abbrev pub TellsEqualKeys : Type 0
TellsEqualKeys = (k l : Key) → (key_is k l ≡ true) ↔ (k ≡ l)
