-- Laws of the types of rules of policies: there is one type at most, the functions find the type that the rules of typing give, and it
-- is the type in the language.
use Rattle.std.specs.Prelude.{◌≡◌, ◌↔◌, Some}
use Rattle.lq_value.specs.declared.ty.Ty.{Ty}
use Rattle.lq_language.specs.ClauseTyping.{expression_type}
use Rattle.lq_language.specs.Names.{Names}
use Rattle.lq_language.specs.RuleTyping.{HasRuleType, rule_type}
use Rattle.lq_grammar.specs.declared.syntax.Expr.{Expr}

-- under given names an expression has at most one type
abbrev pub HasOneRuleType : Type 0
HasOneRuleType = (names : Names) (e : Expr) (s t : Ty) → HasRuleType names e s → HasRuleType names e t → s ≡ t

-- the function finds a type for an expression exactly where the rules give it
abbrev pub FindsRuleTypes : Type 0
FindsRuleTypes = (names : Names) (e : Expr) (t : Ty) → (rule_type e names ≡ Some t) ↔ HasRuleType names e t

-- what has a type in the rule language has it in the whole language
abbrev pub KeepsRuleTypes : Type 0
KeepsRuleTypes = (names : Names) (e : Expr) (t : Ty) → rule_type e names ≡ Some t → expression_type e names ≡ Some t
