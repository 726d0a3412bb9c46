-- The condition that a tree is says of each row what the tree is, form by form.
use Rattle.std.proofs.Common.{◌≡◌, if◌then◌else◌, List, ℕ, Bool, true, false, Option, Some, None, Result, Ok, Err, ap, ◌∙◌, sym, refl, subst, slice_get}
use Rattle.lq_value.specs.declared.scalar.Scalar.{Scalar}
use Rattle.lq_value.specs.declared.scalar.Scalar.TheVariants as scalar
use Rattle.lq_value.specs.declared.value.Fault.{Fault}
use Rattle.lq_value.specs.declared.value.Fault.TheVariants as fault
use Rattle.lq_language.specs.Operations.{on_ok, searched, truth, truth_of}
use Rattle.lq_language.specs.declared.operation.Op.{Op}
use Rattle.lq_grammar.specs.declared.syntax.Binary.{Binary}
use Rattle.lq_scalar.specs.Shapes.{scalar_or_fault}
use Rattle.lq_condition.specs.Verdicts.{IsBoth, IsEither, IsSearch, IsSign, both_verdicts, either_verdict, search_verdict, sign_verdict, unless_fault, verdict}
use Rattle.lq_condition.specs.declared.condition.Condition.{Condition}
use Rattle.lq_condition.specs.declared.condition.Condition.TheVariants as condition
use Rattle.lq_condition.proofs.ConditionLaws.{verdict_constant, verdict_silent}
use Rattle.lq_rule.specs.Deciding.{Agrees, Meets, truth_read}
use Rattle.lq_rule.specs.RowMeaning.{on_truth, read, with_literal}
use Rattle.lq_rule.specs.declared.prepared.Prepared.{Prepared}
use Rattle.lq_rule.specs.declared.prepared.Prepared.TheVariants as prepared
use Rattle.lq_rule.proofs.ReadingLemmas.{read_and, read_cell, read_literal, read_or, read_search, read_with_literal}

-- the truth value in what is found
abbrev truth_found : Result Scalar Fault → Result Bool Fault
truth_found found = on_ok found (truth_of fault.NullReference)

moved : (said other : Option Bool) (found : Result Bool Fault) → other ≡ said → Meets said found → Meets other found
moved said other found is meets = subst (λ o. Meets o found) (sym is) meets

unless : (found other : Result Bool Fault) → other ≡ found → Meets (unless_fault found) other
unless (Ok b) other is = is
unless (Err f) other is = tt

pub silent_agrees : (tree : Prepared) → Agrees tree condition.Silent
silent_agrees tree = record { at = λ cells user. moved None (verdict condition.Silent cells) (truth_read tree cells user) (verdict_silent cells) tt }

pub constant_agrees : (b : Bool) → Agrees (prepared.Literal (scalar.Bool b)) (condition.Constant b)
constant_agrees b = record {
  at = λ cells user.
      moved (Some b) (verdict (condition.Constant b) cells) (truth_read (prepared.Literal (scalar.Bool b)) cells user) (verdict_constant cells b)
      (ap truth_found (read_literal cells user (scalar.Bool b)));
}

-- ---- a sign between a cell and a literal

sign_meets : (sign : Binary) (cell : Option Scalar) (s : Scalar) → Meets (sign_verdict sign cell s) (truth_found (with_literal sign cell s))
sign_meets sign None s = tt
sign_meets sign (Some x) s = unless _ _ refl

pub sign_agrees : (sign : Binary) (place : ℕ) (s : Scalar) (quick : Condition) → IsSign sign place s quick → Agrees (prepared.WithLiteral sign place s) quick
sign_agrees sign place s quick says = record {
  at = λ cells user.
      moved (sign_verdict sign (slice_get cells place) s) (verdict quick cells) (truth_read (prepared.WithLiteral sign place s) cells user) (says.at cells)
      (subst (λ found. Meets (sign_verdict sign (slice_get cells place) s) (truth_found found)) (sym (read_with_literal cells user sign place s))
      (sign_meets sign (slice_get cells place) s));
}

-- ---- a literal that is looked for in a cell

truth_of_truth : (found : Result Bool Fault) → truth_found (truth fault.NullReference found) ≡ found
truth_of_truth (Ok b) = refl
truth_of_truth (Err f) = refl

-- what a search finds in a cell, if it is there
abbrev found_in : Op → Option Scalar → Scalar → Result Scalar Fault
found_in op cell s = on_ok (scalar_or_fault cell) (λ x. truth fault.NullReference (searched fault.NullReference op x s))

search_meets : (op : Op) (cell : Option Scalar) (s : Scalar) → Meets (search_verdict op cell s) (truth_found (found_in op cell s))
search_meets op None s = tt
search_meets op (Some x) s = unless _ _ (truth_of_truth (searched fault.NullReference op x s))

search_read : (op : Op) (place : ℕ) (s : Scalar) (cells : List Scalar) (user : List ℕ)
    → read (prepared.Search op (prepared.Cell place) (prepared.Literal s)) cells user ≡ found_in op (slice_get cells place) s
search_read op place s cells user =
    read_search cells user op (prepared.Cell place) (prepared.Literal s)
    ∙ ap (λ (needle : Result Scalar Fault). on_ok (read (prepared.Cell place) cells user) (λ x. on_ok needle (λ y. truth fault.NullReference (searched fault.NullReference op x y))))
    (read_literal cells user s)
    ∙ ap (λ (text : Result Scalar Fault). on_ok text (λ x. truth fault.NullReference (searched fault.NullReference op x s))) (read_cell cells user place)

pub search_agrees : (op : Op) (place : ℕ) (s : Scalar) (quick : Condition) → IsSearch op place s quick
    → Agrees (prepared.Search op (prepared.Cell place) (prepared.Literal s)) quick
search_agrees op place s quick says = record {
  at = λ cells user.
      moved (search_verdict op (slice_get cells place) s) (verdict quick cells) (truth_read (prepared.Search op (prepared.Cell place) (prepared.Literal s)) cells user) (says.at cells)
      (subst (λ found. Meets (search_verdict op (slice_get cells place) s) (truth_found found)) (sym (search_read op place s cells user))
      (search_meets op (slice_get cells place) s));
}

-- ---- `&&` and `||`

both_meets : (left right : Option Bool) (a b : Result Scalar Fault) → Meets left (truth_found a) → Meets right (truth_found b)
    → Meets (both_verdicts left right) (truth_found (on_truth a (λ t. if t then b else Ok (scalar.Bool false))))
both_meets None right a b first second = tt
both_meets (Some true) right a b first second =
    subst (λ (m : Result Bool Fault). Meets right (truth_found (on_ok m (λ t. if t then b else Ok (scalar.Bool false))))) (sym first) second
both_meets (Some false) right a b first second =
    ap (λ (m : Result Bool Fault). truth_found (on_ok m (λ t. if t then b else Ok (scalar.Bool false)))) first

either_meets : (left right : Option Bool) (a b : Result Scalar Fault) → Meets left (truth_found a) → Meets right (truth_found b)
    → Meets (either_verdict left right) (truth_found (on_truth a (λ t. if t then Ok (scalar.Bool true) else b)))
either_meets None right a b first second = tt
either_meets (Some true) right a b first second =
    ap (λ (m : Result Bool Fault). truth_found (on_ok m (λ t. if t then Ok (scalar.Bool true) else b))) first
either_meets (Some false) right a b first second =
    subst (λ (m : Result Bool Fault). Meets right (truth_found (on_ok m (λ t. if t then Ok (scalar.Bool true) else b)))) (sym first) second

module _ (a b : Prepared) (left right quick : Condition) where
  pub both_agree : Agrees a left → Agrees b right → IsBoth left right quick → Agrees (prepared.And a b) quick
  both_agree first second says = record {
    at = λ cells user.
        moved (both_verdicts (verdict left cells) (verdict right cells)) (verdict quick cells) (truth_read (prepared.And a b) cells user) (says.at cells)
        (subst (λ found. Meets (both_verdicts (verdict left cells) (verdict right cells)) (truth_found found)) (sym (read_and cells user a b))
        (both_meets (verdict left cells) (verdict right cells) (read a cells user) (read b cells user) (first.at cells user) (second.at cells user)));
  }

  pub either_agrees : Agrees a left → Agrees b right → IsEither left right quick → Agrees (prepared.Or a b) quick
  either_agrees first second says = record {
    at = λ cells user.
        moved (either_verdict (verdict left cells) (verdict right cells)) (verdict quick cells) (truth_read (prepared.Or a b) cells user) (says.at cells)
        (subst (λ found. Meets (either_verdict (verdict left cells) (verdict right cells)) (truth_found found)) (sym (read_or cells user a b))
        (either_meets (verdict left cells) (verdict right cells) (read a cells user) (read b cells user) (first.at cells user) (second.at cells user)));
  }

pub ruleset agreements = (silent_agrees, sign_agrees, both_agree, either_agrees)

pub ruleset constants = (silent_agrees, constant_agrees)

pub ruleset searches = (silent_agrees, search_agrees)
