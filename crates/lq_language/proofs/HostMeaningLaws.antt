-- What a host predicate answers about a row that has its arguments: a truth value or a fault, whatever is used where there is no meaning.
use Rattle.std.proofs.Common.{◌≡◌, ℕ, ℤ, List, Bool, true, Option, Some, None, Ok, Err, ap, ap₂, ◌∙◌, sym, refl, true≢false, option_and_then, option_map}
use Rattle.std.proofs.lemmas.Bool.{and_parts}
use Rattle.lq_value.specs.declared.scalar.Scalar.{Scalar}
use Rattle.lq_value.specs.declared.scalar.Scalar.TheVariants as scalar
use Rattle.lq_value.specs.declared.ty.Ty.{Ty, out-Ty}
use Rattle.lq_value.specs.declared.ty.Ty.TheOpen.{Ty-F}
use Rattle.lq_value.specs.declared.value.Fault.{Fault}
use Rattle.lq_value.specs.declared.value.Fault.TheVariants as fault
use Rattle.lq_value.specs.declared.value.Value.{Value, out-Value}
use Rattle.lq_value.specs.declared.value.Value.TheVariants as value
use Rattle.lq_value.specs.declared.value.Value.TheVariants.{outs-Row as outs-value-Row, outs-Scalar}
use Rattle.lq_host.specs.Calls.{number_of}
use Rattle.lq_host.specs.Predicates.{answer_in}
use Rattle.lq_host.specs.declared.call.Pick2.{Pick2}
use Rattle.lq_host.specs.declared.call.Pick2.TheVariants as arguments
use Rattle.lq_language.specs.HostNames.{are_int_columns, is_int_type, predicate_number}
use Rattle.lq_language.specs.Names.{column_type}
use Rattle.lq_language.specs.OperandMeaning.{answer_value, arguments_named, host_answer, host_value, truth_value}
use Rattle.lq_language.specs.OperandTypes.{is_int}
use Rattle.lq_language.specs.ValuesOfTypes.{HasCells, IsScalarOf, assuming}
use Rattle.lq_language.specs.Worlds.{World, known_predicates}
use Rattle.lq_grammar.specs.declared.syntax.Picked.{Picked}
use Rattle.lq_grammar.specs.declared.syntax.Picked.TheVariants as picked

-- ---- arguments

int_there : (layer : Ty-F Ty) (s : Scalar) → is_int layer ≡ true → IsScalarOf layer s → (z : ℤ) × (number_of (Some s) ≡ Some z)
int_there Ty-F.Int (scalar.Int z) h fits = (z, refl)
int_there Ty-F.Int s h fits = absurd fits
int_there layer s h fits = absurd (true≢false (sym h))

module _ {R : Type 0} (world : World R) where
  cell_by : (n : ℕ) (r : R) → HasCells world n r → (c : List ℕ) (o : Option Ty) → column_type world.schemas n c ≡ o → is_int_type o ≡ true
      → (z : ℤ) × (number_of (world.cell r c) ≡ Some z)
  cell_by n r cells c None is h = absurd (true≢false (sym h))
  cell_by n r cells c (Some t) is h =
      let cell = cells.1 c t is in
      let int = int_there (out-Ty t) cell.0 h cell.2 in
      (int.0, ap number_of cell.1 ∙ int.1)

  -- a row has an integer in a column of ints
  integer_there : (n : ℕ) (r : R) → HasCells world n r → (c : List ℕ) → is_int_type (column_type world.schemas n c) ≡ true → (z : ℤ) × (number_of (world.cell r c) ≡ Some z)
  integer_there n r cells c ints = cell_by n r cells c (column_type world.schemas n c) refl ints

  -- and an argument in each of these columns
  pub arguments_there : (n : ℕ) (r : R) → HasCells world n r → (columns : Picked) → are_int_columns world.schemas n columns ≡ true
      → (xs : Pick2) × (arguments_named world columns r ≡ Some xs)
  arguments_there n r cells (picked.One c) ints =
      let z = integer_there n r cells c ints in (arguments.One z.0, ap (option_map arguments.One) z.1)
  arguments_there n r cells (picked.Two c d) ints =
      let parts = and_parts (is_int_type (column_type world.schemas n c)) _ ints in
      let y = integer_there n r cells c parts.0 in
      let z = integer_there n r cells d parts.1 in (
        arguments.Two y.0 z.0,
        ap₂ (λ (a b : Option ℤ). option_and_then (λ x. option_map (arguments.Two x) b) a) y.1 z.1,
      )

  -- ---- answers

  -- the outcome of a predicate that is asked about a value
  pub data IsAnswered (p : List ℕ) (columns : Picked) (v : Value R) : Type 0 where
    answered : (b : Bool) → ((unknown : Fault) → host_value (assuming unknown world) p columns (out-Value R v) ≡ Ok (truth_value b)) → IsAnswered p columns v
    refused : (x : Fault) → ((unknown : Fault) → host_value (assuming unknown world) p columns (out-Value R v) ≡ Err x) → IsAnswered p columns v

  asked_row : (p : List ℕ) (columns : Picked) (k : ℕ) (xs : Pick2) (r : R) → predicate_number (known_predicates world.predicates) p columns ≡ Some k
      → arguments_named world columns r ≡ Some xs → (unknown : Fault)
      → host_value (assuming unknown world) p columns (out-Value R (value.Row r)) ≡ answer_value (assuming unknown world) (answer_in world.predicates k xs)
  asked_row p columns k xs r known there unknown =
      ap (host_value (assuming unknown world) p columns) (outs-value-Row r)
      ∙ ap₂ (host_answer (assuming unknown world)) known there

  row_by : (p : List ℕ) (columns : Picked) (r : R) (o : Option Bool)
      → ((unknown : Fault) → host_value (assuming unknown world) p columns (out-Value R (value.Row r)) ≡ answer_value (assuming unknown world) o)
      → IsAnswered p columns (value.Row r)
  row_by p columns r (Some b) is = answered b is
  row_by p columns r None is = refused fault.ArgumentOutOfRange is

  -- a row is answered by the accepted set, or its arguments are out of range
  pub row_answered : (p : List ℕ) (columns : Picked) (k n : ℕ) (r : R) → predicate_number (known_predicates world.predicates) p columns ≡ Some k
      → are_int_columns world.schemas n columns ≡ true → HasCells world n r → IsAnswered p columns (value.Row r)
  row_answered p columns k n r known ints cells =
      let there = arguments_there n r cells columns ints in
      row_by p columns r (answer_in world.predicates k there.0) (asked_row p columns k there.0 r known there.1)

  -- a null row has no columns
  pub null_answered : (p : List ℕ) (columns : Picked) → IsAnswered p columns (value.Scalar scalar.Null)
  null_answered p columns = refused fault.NullReference (λ unknown. ap (host_value (assuming unknown world) p columns) (outs-Scalar scalar.Null))
