-- Laws of typing: there is one type at most, the functions find the type that the rules give,
-- and no type is of more than 4,096 parts.
use Rattle.std.specs.Prelude.{◌≡◌, ◌↔◌, List, ℕ, true, Some}
use Rattle.lq_value.specs.declared.ty.Ty.{Ty}
use Rattle.lq_value.specs.declared.ty.Ty.TheVariants as ty
use Rattle.lq_language.specs.ClauseTyping.{expression_type, query_items}
use Rattle.lq_language.specs.Types.{is_within}
use Rattle.lq_language.specs.Names.{Names, SessionName, local_type, session_name}
use Rattle.lq_language.specs.TypingRules.{HasQueryItems, HasType}
use Rattle.lq_grammar.specs.declared.syntax.Expr.{Expr}
use Rattle.lq_grammar.specs.declared.syntax.Query.{Query}

-- under given names an expression has at most one type
abbrev pub HasOneType : Type 0
HasOneType = (names : Names) (e : Expr) (s t : Ty) → HasType names e s → HasType names e t → s ≡ t

-- and so have the items of a query
abbrev pub GivesOneType : Type 0
GivesOneType = (names : Names) (q : Query Expr) (s t : Ty) → HasQueryItems names q s → HasQueryItems names q t → s ≡ t

-- the function finds a type for an expression exactly where the rules give it
abbrev pub FindsTypes : Type 0
FindsTypes = (names : Names) (e : Expr) (t : Ty) → (expression_type e names ≡ Some t) ↔ HasType names e t

-- and for the items of a query
abbrev pub FindsQueryItems : Type 0
FindsQueryItems = (names : Names) (q : Query Expr) (t : Ty) → (query_items expression_type q names ≡ Some t) ↔ HasQueryItems names q t

-- ---- how large types are

-- each local name has a type of at most 4,096 parts, and each name of the session
pub record AreWithin (names : Names) : Type 0 where
  pub locals : (x : List ℕ) (t : Ty) → local_type x names.locals ≡ Some t → is_within t ≡ true
  pub session : (x : List ℕ) (known : SessionName) → session_name x names.session ≡ Some known → is_within known.ty ≡ true

-- then so has every typed expression, though only records and methods of sequences are asked for it
abbrev pub LimitsTypes : Type 0
LimitsTypes = (names : Names) → AreWithin names → (e : Expr) (t : Ty) → expression_type e names ≡ Some t → is_within t ≡ true

-- and the sequence of a query's items
abbrev pub LimitsItems : Type 0
LimitsItems = (names : Names) → AreWithin names → (q : Query Expr) (t : Ty) → query_items expression_type q names ≡ Some t → is_within (ty.Seq t) ≡ true
