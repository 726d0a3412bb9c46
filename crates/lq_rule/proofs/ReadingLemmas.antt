-- What a prepared expression is on a row, form by form.
use Rattle.std.proofs.Common.{◌≡◌, if◌then◌else◌, not, List, ℕ, true, false, Ok, Err, ap, ◌∙◌, slice_get}
use Rattle.lq_value.specs.declared.scalar.Scalar.{Scalar}
use Rattle.lq_value.specs.declared.scalar.Scalar.TheVariants as scalar
use Rattle.lq_value.specs.declared.value.Fault.{Fault}
use Rattle.lq_value.specs.declared.value.Fault.TheVariants as fault
use Rattle.lq_language.specs.OperandMeaning.{is_null}
use Rattle.lq_language.specs.Operations.{has_value, of_two, on_ok, operation_of, searched, truth}
use Rattle.lq_language.specs.declared.operation.Op.{Op}
use Rattle.lq_grammar.specs.declared.syntax.Binary.{Binary}
use Rattle.lq_scalar.specs.Shapes.{scalar_or_fault}
use Rattle.lq_rule.specs.RowMeaning.{RowMeaning, on_truth, read, reading_step, with_literal}
use Rattle.lq_rule.specs.declared.prepared.Prepared.{Prepared, fold_out-Prepared, map-Prepared, out-Prepared}
use Rattle.lq_rule.specs.declared.prepared.Prepared.TheOpen.{Prepared-F}
use Rattle.lq_rule.specs.declared.prepared.Prepared.TheVariants as prepared
use Rattle.lq_rule.specs.declared.prepared.Prepared.TheVariants.{outs-Literal, outs-Cell, outs-Fault, outs-User, outs-Not, outs-And, outs-Or, outs-Binary, outs-WithLiteral, outs-Coalesce, outs-Conditional, outs-HasValue, outs-Search}

-- one layer, over what its parts are
abbrev layer_read : Prepared-F Prepared → RowMeaning
layer_read layer = reading_step (map-Prepared Prepared RowMeaning read layer)

read_out : (p : Prepared) → read p ≡ layer_read (out-Prepared p)
unfolding read
read_out p = fold_out-Prepared RowMeaning reading_step p

-- of the part that has this layer
read_layer : (p : Prepared) (layer : Prepared-F Prepared) → out-Prepared p ≡ layer → (cells : List Scalar) (user : List ℕ) → read p cells user ≡ layer_read layer cells user
read_layer p layer is cells user = ap (λ (r : RowMeaning). r cells user) (read_out p ∙ ap layer_read is)

module _ (cells : List Scalar) (user : List ℕ) where
  pub read_literal : (s : Scalar) → read (prepared.Literal s) cells user ≡ Ok s
  read_literal s = read_layer _ _ (outs-Literal s) cells user

  pub read_cell : (place : ℕ) → read (prepared.Cell place) cells user ≡ scalar_or_fault (slice_get cells place)
  read_cell place = read_layer _ _ (outs-Cell place) cells user

  pub read_fault : (f : Fault) → read (prepared.Fault f) cells user ≡ Err f
  read_fault f = read_layer _ _ (outs-Fault f) cells user

  pub read_user : read prepared.User cells user ≡ Ok (scalar.Text user)
  read_user = read_layer _ _ outs-User cells user

  pub read_not : (a : Prepared) → read (prepared.Not a) cells user ≡ on_truth (read a cells user) (λ b. Ok (scalar.Bool (not b)))
  read_not a = read_layer _ _ (outs-Not a) cells user

  pub read_and : (a b : Prepared) → read (prepared.And a b) cells user ≡ on_truth (read a cells user) (λ t. if t then read b cells user else Ok (scalar.Bool false))
  read_and a b = read_layer _ _ (outs-And a b) cells user

  pub read_or : (a b : Prepared) → read (prepared.Or a b) cells user ≡ on_truth (read a cells user) (λ t. if t then Ok (scalar.Bool true) else read b cells user)
  read_or a b = read_layer _ _ (outs-Or a b) cells user

  pub read_binary : (sign : Binary) (a b : Prepared) → read (prepared.Binary sign a b) cells user
      ≡ on_ok (read a cells user) (λ x. on_ok (read b cells user) (λ y. of_two fault.NullReference (operation_of sign) x y))
  read_binary sign a b = read_layer _ _ (outs-Binary sign a b) cells user

  pub read_with_literal : (sign : Binary) (place : ℕ) (s : Scalar) → read (prepared.WithLiteral sign place s) cells user ≡ with_literal sign (slice_get cells place) s
  read_with_literal sign place s = read_layer _ _ (outs-WithLiteral sign place s) cells user

  pub read_coalesce : (a b : Prepared) → read (prepared.Coalesce a b) cells user ≡ on_ok (read a cells user) (λ x. if is_null x then read b cells user else Ok x)
  read_coalesce a b = read_layer _ _ (outs-Coalesce a b) cells user

  pub read_conditional : (c a b : Prepared) → read (prepared.Conditional c a b) cells user
      ≡ on_truth (read c cells user) (λ t. if t then read a cells user else read b cells user)
  read_conditional c a b = read_layer _ _ (outs-Conditional c a b) cells user

  pub read_has_value : (a : Prepared) → read (prepared.HasValue a) cells user ≡ on_ok (read a cells user) (λ x. truth fault.NullReference (has_value fault.NullReference x))
  read_has_value a = read_layer _ _ (outs-HasValue a) cells user

  pub read_search : (op : Op) (a b : Prepared) → read (prepared.Search op a b) cells user
      ≡ on_ok (read a cells user) (λ x. on_ok (read b cells user) (λ y. truth fault.NullReference (searched fault.NullReference op x y)))
  read_search op a b = read_layer _ _ (outs-Search op a b) cells user

pub ruleset reads = (read_literal, read_cell, read_fault, read_user, read_not, read_and, read_or, read_binary, read_with_literal, read_coalesce, read_conditional, read_has_value, read_search)
