-- What a prepared rule decides on a row, and that it decides as the rule does.
use Rattle.std.specs.Prelude.{◌≡◌, List, ℕ, Bool, Option, Some, None, Result, Ok, IfSome}
use Rattle.std.specs.Option.{unwrap_or}
use Rattle.lq_value.specs.declared.scalar.Scalar.{Scalar}
use Rattle.lq_value.specs.declared.value.Fault.{Fault}
use Rattle.lq_value.specs.declared.value.Fault.TheVariants as fault
use Rattle.lq_language.specs.Operations.{on_ok, truth_of}
use Rattle.lq_security.specs.Visible.{is_true, rule_holds}
use Rattle.lq_grammar.specs.declared.syntax.Expr.{Expr}
use Rattle.lq_condition.specs.Verdicts.{verdict}
use Rattle.lq_condition.specs.declared.condition.Condition.{Condition}
use Rattle.lq_rule.specs.Ranges.{range_verdict}
use Rattle.lq_rule.specs.RowMeaning.{read}
use Rattle.lq_rule.specs.declared.prepared.Prepared.{Prepared}
use Rattle.lq_rule.specs.declared.ranges.Range.{Range}
use Rattle.lq_rule.specs.declared.rule.PreparedRule.{PreparedRule}

-- the truth value that a tree is on a row, or a fault
abbrev pub truth_read : Prepared → List Scalar → List ℕ → Result Bool Fault
truth_read tree cells user = on_ok (read tree cells user) (truth_of fault.NullReference)

-- where something is said, it is so
abbrev pub Meets : Option Bool → Result Bool Fault → Type 0
Meets said found = IfSome said (λ b. found ≡ Ok b)

-- Where a condition says something of a row, the tree is that truth value on it, for each user; and so for a range.
pub record Agrees (tree : Prepared) (quick : Condition) : Type 0 where
  pub at : (cells : List Scalar) (user : List ℕ) → Meets (verdict quick cells) (truth_read tree cells user)

pub record AgreesWithin (tree : Prepared) (range : Range) : Type 0 where
  pub at : (cells : List Scalar) (user : List ℕ) → Meets (range_verdict range cells) (truth_read tree cells user)

-- what a range says, if there is one
abbrev pub verdict_within : Option Range → List Scalar → Option Bool
verdict_within None cells = None
verdict_within (Some range) cells = range_verdict range cells

-- whether a prepared rule is true on a row with these cells, for the user of this name: as its range says, or else as its condition does, or else
-- as its tree is
unfoldable pub decides : PreparedRule → List Scalar → List ℕ → Bool
decides prepared cells user =
    unwrap_or (verdict_within prepared.range cells)
    (unwrap_or (verdict prepared.quick cells) (is_true (truth_read prepared.tree cells user)))

-- A prepared rule is true on each row on which the rule is, and on no other.
abbrev pub DecidesAs : List (List ℕ) → Expr → PreparedRule → Type 0
DecidesAs columns rule prepared = (cells : List Scalar) (user : List ℕ) → decides prepared cells user ≡ rule_holds columns rule cells user
