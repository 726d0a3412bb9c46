-- Equality and hashing of keys. Two keys are equal exactly where they are one, and equal keys feed a hasher alike.
use Rattle.std.specs.Prelude.{◌≡◌, Bool, true, false}
use Rattle.std.specs.Bool.{Decides}
use Rattle.std.specs.Cmp.Lexicographic.{pointwise, pointwise_decides}
use Rattle.std.specs.Hash.{HashWrites}
use Rattle.std.specs.Hash as fed
use Rattle.std.specs.Ordering.{int_eq}
use Rattle.std.specs.Bool.{beq}
use Rattle.std.specs.Str.{bytes_eq}
use Rattle.std.proofs.Common.{ap, refl}
use Rattle.std.proofs.lemmas.Slice.Eq.{bytes_eq-Decides}
use Rattle.std.specs.Cmp.{booleans_Decides, signed_Decides}
use Rattle.lq_value.specs.SameAndOrder.{same_scalars}
use Rattle.lq_value.specs.declared.key.Atom.{Atom}
use Rattle.lq_value.specs.declared.key.Atom.TheVariants as atom
use Rattle.lq_value.specs.declared.key.Key.{Key}
use Rattle.lq_value.specs.declared.key.Key.TheVariants as key
use Rattle.lq_value.specs.declared.scalar.Scalar.{Scalar}
use Rattle.lq_value.specs.declared.scalar.Scalar.TheVariants as scalar

-- whether two atoms are equal
abbrev pub atom_is : Atom → Atom → Bool
atom_is (atom.One s) (atom.One t) = same_scalars s t
atom_is atom.Open atom.Open = true
atom_is atom.Close atom.Close = true
atom_is a b = false

-- whether two keys are equal
abbrev pub key_is : Key → Key → Bool
key_is key.Null key.Null = true
key_is (key.Int m) (key.Int n) = int_eq m n
key_is (key.Bool b) (key.Bool c) = beq b c
key_is (key.Text t) (key.Text u) = bytes_eq t u
key_is (key.Record xs) (key.Record ys) = pointwise atom_is xs ys
key_is k l = false

-- what a scalar feeds a hasher
abbrev pub scalar_fed : Scalar → HashWrites
scalar_fed scalar.Null = fed.u8 2
scalar_fed (scalar.Int n) = fed.i32 n
scalar_fed (scalar.Bool b) = fed.bool b
scalar_fed (scalar.Text t) = fed.str t

-- what an atom feeds a hasher
abbrev pub atom_fed : Atom → HashWrites
atom_fed (atom.One s) = scalar_fed s
atom_fed atom.Open = fed.u8 3
atom_fed atom.Close = fed.u8 4

-- what a key feeds a hasher
abbrev pub key_fed : Key → HashWrites
key_fed key.Null = fed.u8 2
key_fed (key.Int n) = fed.i32 n
key_fed (key.Bool b) = fed.bool b
key_fed (key.Text t) = fed.str t
key_fed (key.Record xs) = fed.slice atom_fed xs

-- two scalars are the same exactly where they are one
pub scalars_decide : (s t : Scalar) → Decides (same_scalars s t) (s ≡ t)
scalars_decide scalar.Null scalar.Null = (λ h. refl, λ e. refl)
scalars_decide (scalar.Int m) (scalar.Int n) = (λ h. ap scalar.Int ((signed_Decides m n).0 h), λ e. (signed_Decides m n).1 (cc e))
scalars_decide (scalar.Bool b) (scalar.Bool c) = (λ h. ap scalar.Bool ((booleans_Decides b c).0 h), λ e. (booleans_Decides b c).1 (cc e))
scalars_decide (scalar.Text t) (scalar.Text u) = (λ h. ap scalar.Text ((bytes_eq-Decides t u).0 h), λ e. (bytes_eq-Decides t u).1 (cc e))
scalars_decide s t = (λ h. absurd (cc h), λ e. absurd (cc e))

pub atoms_decide : (a b : Atom) → Decides (atom_is a b) (a ≡ b)
atoms_decide (atom.One s) (atom.One t) = (λ h. ap atom.One ((scalars_decide s t).0 h), λ e. (scalars_decide s t).1 (cc e))
atoms_decide atom.Open atom.Open = (λ h. refl, λ e. refl)
atoms_decide atom.Close atom.Close = (λ h. refl, λ e. refl)
atoms_decide a b = (λ h. absurd (cc h), λ e. absurd (cc e))

pub keys_decide : (k l : Key) → Decides (key_is k l) (k ≡ l)
keys_decide key.Null key.Null = (λ h. refl, λ e. refl)
keys_decide (key.Int m) (key.Int n) = (λ h. ap key.Int ((signed_Decides m n).0 h), λ e. (signed_Decides m n).1 (cc e))
keys_decide (key.Bool b) (key.Bool c) = (λ h. ap key.Bool ((booleans_Decides b c).0 h), λ e. (booleans_Decides b c).1 (cc e))
keys_decide (key.Text t) (key.Text u) = (λ h. ap key.Text ((bytes_eq-Decides t u).0 h), λ e. (bytes_eq-Decides t u).1 (cc e))
keys_decide (key.Record xs) (key.Record ys) =
    (λ h. ap key.Record ((pointwise_decides atoms_decide xs ys).0 h), λ e. (pointwise_decides atoms_decide xs ys).1 (cc e))
keys_decide k l = (λ h. absurd (cc h), λ e. absurd (cc e))
