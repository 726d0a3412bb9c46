-- A prepared rule decides as the rule that its tree represents.
use Rattle.std.proofs.Common.{◌≡◌, List, ℕ, Bool, true, Option, Some, None, Result, Ok, Err, IfSome, ap, ◌∙◌, sym, refl}
use Rattle.std.specs.Option.{unwrap_or}
use Rattle.lq_value.specs.declared.scalar.Scalar.{Scalar}
use Rattle.lq_value.specs.declared.value.Fault.{Fault}
use Rattle.lq_value.specs.declared.value.Fault.TheVariants as fault
use Rattle.lq_language.specs.Operations.{on_ok, truth_of}
use Rattle.lq_security.specs.Totality.{is_total}
use Rattle.lq_security.specs.Visible.{is_true}
use Rattle.lq_grammar.specs.declared.syntax.Expr.{Expr}
use Rattle.lq_scalar.specs.Referents.{Shape}
use Rattle.lq_scalar.specs.Shapes.{scalar_shape, truth_in}
use Rattle.lq_scalar.proofs.ShapeLaws.{rule_is}
use Rattle.lq_condition.specs.Verdicts.{verdict}
use Rattle.lq_condition.specs.declared.condition.Condition.{Condition}
use Rattle.lq_rule.specs.Deciding.{Agrees, AgreesWithin, DecidesAs, Meets, decides, truth_read, verdict_within}
use Rattle.lq_rule.specs.RowMeaning.{read}
use Rattle.lq_rule.specs.Standing.{StandsFor}
use Rattle.lq_rule.specs.declared.prepared.Prepared.{Prepared}
use Rattle.lq_rule.specs.declared.ranges.Range.{Range}

truth_shown : (r : Result Scalar Fault) → on_ok (scalar_shape {R = List Scalar} r) truth_in ≡ on_ok r (truth_of fault.NullReference)
truth_shown (Ok s) = refl
truth_shown (Err f) = refl

-- what is said is what the tree is
said_or_read : (said : Option Bool) (found : Result Bool Fault) (other : Bool) → Meets said found → other ≡ is_true found → unwrap_or said other ≡ is_true found
said_or_read None found other meets is = is
said_or_read (Some b) found other meets is = sym (ap is_true meets)

within_meets : (tree : Prepared) (range : Option Range) → IfSome range (AgreesWithin tree) → (cells : List Scalar) (user : List ℕ)
    → Meets (verdict_within range cells) (truth_read tree cells user)
within_meets tree None agrees cells user = tt
within_meets tree (Some range) agrees cells user = agrees.at cells user

pub decides_as : (columns : List (List ℕ)) (rule : Expr) (tree : Prepared) (range : Option Range) (quick : Condition)
    → is_total rule ≡ true → StandsFor columns rule tree → IfSome range (AgreesWithin tree) → Agrees tree quick
    → DecidesAs columns rule (record { range = range; quick = quick; tree = tree })
unfolding decides
decides_as columns rule tree range quick total stands within agrees cells user =
    said_or_read (verdict_within range cells) (truth_read tree cells user) _ (within_meets tree range within cells user)
    (said_or_read (verdict quick cells) (truth_read tree cells user) _ (agrees.at cells user) refl)
    ∙ sym (ap is_true (rule_is columns cells user rule
    ∙ ap (λ (o : Result (Shape (List Scalar)) Fault). on_ok o truth_in) (stands.same total cells user)
    ∙ truth_shown (read tree cells user)))
