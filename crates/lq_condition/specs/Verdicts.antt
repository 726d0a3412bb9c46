-- What a prepared condition says of the cells of a row: whether it is true, or nothing.
use Rattle.std.specs.Prelude.{◌≡◌, if◌then◌else◌, not, List, ℕ, Bool, true, false, Option, Some, None, Result, Ok, Err, slice_get, option_and_then, option_map}
use Rattle.lq_value.specs.declared.scalar.Scalar.{Scalar}
use Rattle.lq_value.specs.declared.scalar.Scalar.TheVariants as scalar
use Rattle.lq_value.specs.declared.value.Fault.{Fault}
use Rattle.lq_value.specs.declared.value.Fault.TheVariants as fault
use Rattle.lq_grammar.specs.declared.syntax.Binary.{Binary}
use Rattle.lq_language.specs.Operations.{has_value, of_two, on_ok, operation_of, searched, truth_of}
use Rattle.lq_language.specs.declared.operation.Op.{Op}
use Rattle.lq_condition.specs.declared.condition.Condition.{Condition, fold-Condition}
use Rattle.lq_condition.specs.declared.condition.Condition.TheOpen.{Condition-F}

-- what is found; where it is a fault, nothing is said
abbrev pub unless_fault : {A : Type 0} → Result A Fault → Option A
unless_fault (Ok x) = Some x
unless_fault (Err f) = None

-- a sign between a cell, if it is there, and a scalar
abbrev pub sign_verdict : Binary → Option Scalar → Scalar → Option Bool
sign_verdict sign (Some x) s =
    unless_fault (on_ok (of_two fault.NullReference (operation_of sign) x s) (truth_of fault.NullReference))
sign_verdict sign None s = None

-- a sign between two scalars, where the second is a cell, if it is there
abbrev pub cells_verdict : Binary → Option Scalar → Option Scalar → Option Bool
cells_verdict sign a (Some y) = sign_verdict sign a y
cells_verdict sign a None = None

-- the truth value that is in a cell, and whether a cell has a value, if it is there
abbrev pub truth_verdict : Option Scalar → Option Bool
truth_verdict (Some x) = unless_fault (truth_of fault.NullReference x)
truth_verdict None = None

abbrev pub value_verdict : Option Scalar → Option Bool
value_verdict (Some x) = unless_fault (has_value fault.NullReference x)
value_verdict None = None

-- a text that is looked for in a cell, if it is there
abbrev pub search_verdict : Op → Option Scalar → Scalar → Option Bool
search_verdict op (Some x) s = unless_fault (searched fault.NullReference op x s)
search_verdict op None s = None

-- `&&` and `||`: the second is asked only where the first leaves the answer open
abbrev pub both_verdicts : Option Bool → Option Bool → Option Bool
both_verdicts a b = option_and_then (λ t. if t then b else Some false) a

abbrev pub either_verdict : Option Bool → Option Bool → Option Bool
either_verdict a b = option_and_then (λ t. if t then Some true else b) a

-- `!`
abbrev pub not_verdict : Option Bool → Option Bool
not_verdict = option_map not

abbrev pub Says : Type 0
Says = List Scalar → Option Bool

abbrev pub verdict_step : Condition-F Says → Says
verdict_step Condition-F.Silent cells = None
verdict_step (Condition-F.Constant b) cells = Some b
verdict_step (Condition-F.Number sign place n) cells = sign_verdict sign (slice_get cells place) (scalar.Int n)
verdict_step (Condition-F.Literal sign place s) cells = sign_verdict sign (slice_get cells place) s
verdict_step (Condition-F.Search op place text) cells = search_verdict op (slice_get cells place) (scalar.Text text)
verdict_step (Condition-F.Cells sign a b) cells = cells_verdict sign (slice_get cells a) (slice_get cells b)
verdict_step (Condition-F.Truth place) cells = truth_verdict (slice_get cells place)
verdict_step (Condition-F.HasValue place) cells = value_verdict (slice_get cells place)
verdict_step (Condition-F.Not a) cells = not_verdict (a cells)
verdict_step (Condition-F.Both a b) cells = both_verdicts (a cells) (b cells)
verdict_step (Condition-F.Either a b) cells = either_verdict (a cells) (b cells)

-- what a condition says of the cells of a row
unfoldable pub verdict : Condition → Says
verdict = fold-Condition Says verdict_step

-- ---- what a condition is built to say

pub record IsSign (sign : Binary) (place : ℕ) (s : Scalar) (c : Condition) : Type 0 where
  pub at : (cells : List Scalar) → verdict c cells ≡ sign_verdict sign (slice_get cells place) s

pub record IsSearch (op : Op) (place : ℕ) (s : Scalar) (c : Condition) : Type 0 where
  pub at : (cells : List Scalar) → verdict c cells ≡ search_verdict op (slice_get cells place) s

pub record IsCells (sign : Binary) (left right : ℕ) (c : Condition) : Type 0 where
  pub at : (cells : List Scalar) → verdict c cells ≡ cells_verdict sign (slice_get cells left) (slice_get cells right)

pub record IsTruth (place : ℕ) (c : Condition) : Type 0 where
  pub at : (cells : List Scalar) → verdict c cells ≡ truth_verdict (slice_get cells place)

pub record IsValue (place : ℕ) (c : Condition) : Type 0 where
  pub at : (cells : List Scalar) → verdict c cells ≡ value_verdict (slice_get cells place)

pub record IsNot (a c : Condition) : Type 0 where
  pub at : (cells : List Scalar) → verdict c cells ≡ not_verdict (verdict a cells)

pub record IsBoth (a b c : Condition) : Type 0 where
  pub at : (cells : List Scalar) → verdict c cells ≡ both_verdicts (verdict a cells) (verdict b cells)

pub record IsEither (a b c : Condition) : Type 0 where
  pub at : (cells : List Scalar) → verdict c cells ≡ either_verdict (verdict a cells) (verdict b cells)

-- ---- a sign says between a scalar and a cell what this one says between the cell and the scalar

pub record IsTurned (sign turned : Binary) : Type 0 where
  pub at : (s x : Scalar) → sign_verdict sign (Some s) x ≡ sign_verdict turned (Some x) s
