-- What a prepared expression is on a row: a scalar, or a fault.
use Rattle.std.specs.Prelude.{if◌then◌else◌, not, List, ℕ, Bool, true, false, Option, Result, Ok, Err, slice_get}
use Rattle.std.specs.List.{position_from}
use Rattle.std.specs.Str.{bytes_eq}
use Rattle.lq_value.specs.declared.scalar.Scalar.{Scalar}
use Rattle.lq_value.specs.declared.scalar.Scalar.TheVariants as scalar
use Rattle.lq_value.specs.declared.value.Fault.{Fault}
use Rattle.lq_value.specs.declared.value.Fault.TheVariants as fault
use Rattle.lq_language.specs.OperandMeaning.{is_null}
use Rattle.lq_language.specs.Operations.{has_value, of_two, on_ok, operation_of, searched, truth, truth_of}
use Rattle.lq_grammar.specs.declared.syntax.Binary.{Binary}
use Rattle.lq_scalar.specs.Shapes.{scalar_or_fault}
use Rattle.lq_rule.specs.declared.prepared.Prepared.{Prepared, fold-Prepared}
use Rattle.lq_rule.specs.declared.prepared.Prepared.TheOpen.{Prepared-F}

-- what something is on a row with these cells, for the user of this name
abbrev pub RowMeaning : Type 0
RowMeaning = List Scalar → List ℕ → Result Scalar Fault

abbrev pub on_truth : Result Scalar Fault → (Bool → Result Scalar Fault) → Result Scalar Fault
on_truth found next = on_ok (on_ok found (truth_of fault.NullReference)) next

-- what a sign gives to a cell, if it is there, and a literal
abbrev pub with_literal : Binary → Option Scalar → Scalar → Result Scalar Fault
with_literal sign cell s = on_ok (scalar_or_fault cell) (λ x. of_two fault.NullReference (operation_of sign) x s)

abbrev pub reading_step : Prepared-F RowMeaning → RowMeaning
reading_step (Prepared-F.Literal s) cells user = Ok s
reading_step (Prepared-F.Cell place) cells user = scalar_or_fault (slice_get cells place)
reading_step (Prepared-F.Fault f) cells user = Err f
reading_step Prepared-F.User cells user = Ok (scalar.Text user)
reading_step (Prepared-F.Not a) cells user = on_truth (a cells user) (λ b. Ok (scalar.Bool (not b)))
-- the second operand is read only where the first leaves it open
reading_step (Prepared-F.And a b) cells user = on_truth (a cells user) (λ t. if t then b cells user else Ok (scalar.Bool false))
reading_step (Prepared-F.Or a b) cells user = on_truth (a cells user) (λ t. if t then Ok (scalar.Bool true) else b cells user)
reading_step (Prepared-F.Binary sign a b) cells user =
    on_ok (a cells user) (λ x. on_ok (b cells user) (λ y. of_two fault.NullReference (operation_of sign) x y))
reading_step (Prepared-F.WithLiteral sign place s) cells user = with_literal sign (slice_get cells place) s
reading_step (Prepared-F.Coalesce a b) cells user = on_ok (a cells user) (λ x. if is_null x then b cells user else Ok x)
reading_step (Prepared-F.Conditional c a b) cells user = on_truth (c cells user) (λ t. if t then a cells user else b cells user)
reading_step (Prepared-F.HasValue a) cells user = on_ok (a cells user) (λ x. truth fault.NullReference (has_value fault.NullReference x))
reading_step (Prepared-F.Search op a b) cells user =
    on_ok (a cells user) (λ x. on_ok (b cells user) (λ y. truth fault.NullReference (searched fault.NullReference op x y)))

unfoldable pub read : Prepared → RowMeaning
read = fold-Prepared RowMeaning reading_step

-- the place of the first column of this name
abbrev pub place_of : List (List ℕ) → List ℕ → Option ℕ
place_of columns name = position_from (λ column. bytes_eq column name) 0 columns
