-- The laws of the rule language: what is typed there has a meaning of its own, a value of its type or a fault.
use Rattle.std.specs.Prelude.{◌≡◌, Ok}
use Rattle.lq_value.specs.declared.ty.Ty.{Ty}
use Rattle.lq_value.specs.declared.value.Fault.{Fault}
use Rattle.lq_value.specs.declared.value.Value.{Value}
use Rattle.lq_language.specs.Worlds.{Scope, World, names_at}
use Rattle.lq_language.specs.RuleMeaning.{rule_meaning}
use Rattle.lq_language.specs.RuleTyping.{HasRuleType}
use Rattle.lq_language.specs.TableRows.{TableRow}
use Rattle.lq_language.specs.ValuesOfTypes.{HoldsRows, IsOf, IsOfScope, assuming}
use Rattle.lq_grammar.specs.declared.syntax.Expr.{Expr}

-- what a typed expression means is the same whatever is used where there is no meaning, and if it is a value, then one of its type
abbrev pub HasRuleMeaning : Type 0
HasRuleMeaning =
    (world : World TableRow) → HoldsRows world → (scope : Scope TableRow) → IsOfScope world scope → (e : Expr) (t : Ty) → HasRuleType (names_at world scope) e t
    → (f g : Fault)
    → (rule_meaning (assuming f world) e scope ≡ rule_meaning (assuming g world) e scope) × ((v : Value TableRow) → rule_meaning (assuming f world) e scope ≡ Ok v → IsOf world t v)
