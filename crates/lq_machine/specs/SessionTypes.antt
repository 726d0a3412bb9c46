-- Laws of the types in a session: under definitions as `var` makes them, none is of more than 4,096
-- parts.
use Rattle.std.specs.Prelude.{◌≡◌, List, true, Some}
use Rattle.lq_value.specs.declared.table.Schema.{Schema}
use Rattle.lq_value.specs.declared.ty.Ty.{Ty}
use Rattle.lq_value.specs.declared.ty.Ty.TheVariants as ty
use Rattle.lq_language.specs.ClauseTyping.{expression_type, query_items}
use Rattle.lq_machine.specs.DefinitionLaws.{AreDefined}
use Rattle.lq_machine.specs.Definitions.{known_names, outer_names}
use Rattle.lq_language.specs.Types.{is_within}
use Rattle.lq_language.specs.TypingLaws.{AreWithin}
use Rattle.lq_language.specs.declared.host_name.HostName.{HostName}
use Rattle.lq_machine.specs.declared.session.Definition.{Definition}
use Rattle.lq_grammar.specs.declared.syntax.Expr.{Expr}
use Rattle.lq_grammar.specs.declared.syntax.Query.{Query}

-- the names of a session have types of at most 4,096 parts
abbrev pub LimitsNames : Type 0
LimitsNames =
    (schemas : List Schema) (predicates : List HostName) (definitions : List Definition) → AreDefined schemas predicates definitions
    → AreWithin (outer_names schemas predicates (known_names schemas predicates definitions))

-- and so has every expression that a statement of the session holds, where it has a type
abbrev pub LimitsStatements : Type 0
LimitsStatements =
    (schemas : List Schema) (predicates : List HostName) (definitions : List Definition) → AreDefined schemas predicates definitions
    → (e : Expr) (t : Ty)
    → expression_type e (outer_names schemas predicates (known_names schemas predicates definitions)) ≡ Some t
    → is_within t ≡ true

-- and the sequence of every query's items
abbrev pub LimitsQueries : Type 0
LimitsQueries =
    (schemas : List Schema) (predicates : List HostName) (definitions : List Definition) → AreDefined schemas predicates definitions
    → (q : Query Expr) (t : Ty)
    → query_items expression_type q (outer_names schemas predicates (known_names schemas predicates definitions)) ≡ Some t
    → is_within (ty.Seq t) ≡ true
