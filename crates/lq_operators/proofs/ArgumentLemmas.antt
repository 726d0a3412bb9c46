-- Of a world the meaning of a method takes only what is put where there is none.
use Rattle.std.proofs.Common.{◌≡◌, [], ℤ, Result, Ok, Err, ap, ◌∙◌, refl, sym}
use Rattle.lq_value.specs.SameAndOrder.{same_values as same_keys}
use Rattle.lq_value.specs.declared.scalar.Scalar.{Scalar}
use Rattle.lq_value.specs.declared.scalar.Scalar.TheVariants as scalar
use Rattle.lq_value.specs.declared.value.End.TheVariants as end
use Rattle.lq_value.specs.declared.value.Fault.{Fault}
use Rattle.lq_value.specs.declared.value.Fault.TheVariants as fault
use Rattle.lq_value.specs.declared.value.Value.{Value, out-Value}
use Rattle.lq_value.specs.declared.value.Value.TheOpen.{Value-F}
use Rattle.lq_language.specs.Enumerable.{as_count, concat, element_at, except, intersect, skip, take_first, union}
use Rattle.lq_language.specs.declared.methods.Given.{Given}
use Rattle.lq_language.specs.declared.methods.Given.TheVariants as of
use Rattle.lq_language.specs.Worlds.{World}
use Rattle.lq_language.specs.OperandMeaning.{items_of, on_scalar, scalar_of, stream_of}
use Rattle.lq_language.specs.Operations.{on_ok}
use Rattle.lq_language.specs.Stream.{Stream}
use Rattle.lq_language.specs.Meaning.{as_sequence, given_meaning, number_of}
use Rattle.lq_operators.specs.Arguments.{nowhere}

module _ {R : Type 0} (world : World R) (null : world.unknown ≡ fault.NullReference) where
  items_anywhere : (layer : Value-F R (Value R)) → items_of nowhere layer ≡ items_of world layer
  items_anywhere (Value-F.Seq xs e) = refl
  items_anywhere (Value-F.Group key xs) = refl
  items_anywhere layer = ap (λ (f : Fault). ([], end.Fault f)) (sym null)

  streams_anywhere : (argument : Result (Value R) Fault) → stream_of nowhere argument ≡ stream_of world argument
  streams_anywhere (Ok v) = items_anywhere (out-Value R v)
  streams_anywhere (Err f) = refl

  scalars_anywhere : (layer : Value-F R (Value R)) → scalar_of nowhere layer ≡ scalar_of world layer
  scalars_anywhere (Value-F.Scalar s) = refl
  scalars_anywhere layer = ap Err (sym null)

  number_anywhere : (s : Scalar) → number_of {R = R} nowhere s ≡ number_of world s
  number_anywhere (scalar.Int n) = refl
  number_anywhere s = ap Err (sym null)

  on_each : (found : Result Scalar Fault) → on_ok found (number_of {R = R} nowhere) ≡ on_ok found (number_of world)
  on_each (Ok s) = number_anywhere s
  on_each (Err f) = refl

  numbers_anywhere : (argument : Result (Value R) Fault) → on_scalar nowhere argument (number_of {R = R} nowhere) ≡ on_scalar world argument (number_of world)
  numbers_anywhere (Ok v) =
      ap (λ (found : Result Scalar Fault). on_ok found (number_of {R = R} nowhere)) (scalars_anywhere (out-Value R v))
      ∙ on_each (scalar_of world (out-Value R v))
  numbers_anywhere (Err f) = refl

  pub given_anywhere : (method : Given) (argument : Result (Value R) Fault) (s : Stream (Value R))
      → given_meaning nowhere method argument s ≡ given_meaning world method argument s
  given_anywhere of.Concat argument s = ap (λ (t : Stream (Value R)). as_sequence (concat s t)) (streams_anywhere argument)
  given_anywhere of.Union argument s = ap (λ (t : Stream (Value R)). as_sequence (union same_keys s t)) (streams_anywhere argument)
  given_anywhere of.Intersect argument s = ap (λ (t : Stream (Value R)). as_sequence (intersect same_keys s t)) (streams_anywhere argument)
  given_anywhere of.Except argument s = ap (λ (t : Stream (Value R)). as_sequence (except same_keys s t)) (streams_anywhere argument)
  given_anywhere of.Skip argument s = ap (λ (found : Result ℤ Fault). on_ok found (λ n. as_sequence (skip (as_count n) s.0 s.1))) (numbers_anywhere argument)
  given_anywhere of.Take argument s =
      ap (λ (found : Result ℤ Fault). on_ok found (λ n. as_sequence (take_first (as_count n) s.0 s.1))) (numbers_anywhere argument)
  given_anywhere of.ElementAt argument s = ap (λ (found : Result ℤ Fault). on_ok found (λ n. element_at n s.0 s.1)) (numbers_anywhere argument)
  given_anywhere of.Contains argument s = refl
