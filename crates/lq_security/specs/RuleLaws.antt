-- The law of what a rule of a row policy means: the language's meaning, over the row with its columns' types.
use Rattle.std.specs.Prelude.{◌≡◌, ◌↔◌, ◌∷◌, List, [], map, ℕ, true, Some, Ok, slice_get}
use Rattle.std.specs.List.{Contains, list_all}
use Rattle.lq_value.specs.declared.scalar.Scalar.{Scalar}
use Rattle.lq_value.specs.declared.scalar.Scalar.TheVariants as scalar
use Rattle.lq_value.specs.declared.table.Column.{Column}
use Rattle.lq_value.specs.declared.table.Schema.{Schema}
use Rattle.lq_value.specs.declared.ty.Ty.TheVariants as ty
use Rattle.lq_value.specs.declared.value.Fault.{Fault}
use Rattle.lq_value.specs.declared.value.Value.TheVariants as value
use Rattle.lq_language.specs.ClauseTyping.{expression_type}
use Rattle.lq_language.specs.Worlds.{World}
use Rattle.lq_language.specs.RuleMeaning.{rule_meaning}
use Rattle.lq_language.specs.ValuesOfTypes.{HaveTypes}
use Rattle.lq_security.specs.Totality.{IsTotal}
use Rattle.lq_security.specs.TotalityLaws.{is_held, is_held_rule, rule_names}
use Rattle.lq_language.specs.TableRows.{cell_named}
use Rattle.lq_security.specs.Visible.{HasRule, language_scope, rule_holds, rule_scope, rule_world}
use Rattle.lq_language.specs.Meaning.{expression_meaning}
use Rattle.lq_security.specs.declared.policy.Action.{Action}
use Rattle.lq_security.specs.declared.policy.Policy.{Policy}
use Rattle.lq_security.specs.declared.policy.PolicyParts.{PolicyParts}
use Rattle.lq_security.specs.declared.policy.TablePart.{TablePart}
use Rattle.lq_grammar.specs.declared.syntax.Expr.{Expr}

-- A rule is one for rows of these columns: it is typed as a truth value in the language, it can't fault, and its literals are
-- ints of 32 bits.
pub record IsRuleOver (columns : List Column) (rule : Expr) : Type 0 where
  pub truth : expression_type rule (rule_names [] columns) ≡ Some ty.Bool
  pub total : IsTotal rule
  pub held : is_held_rule rule ≡ true

-- A row is one of these columns: it has a cell of its type under each, and ints are of 32 bits.
pub record IsRowOver (columns : List Column) (cells : List Scalar) : Type 0 where
  pub typed : HaveTypes columns cells
  pub held : list_all is_held cells ≡ true

-- The policies were read for tables with these schemas: each table that they know has one with its columns, and each rule that a policy
-- has for an action is one for rows of the policy's table.
pub record AreReadFor (schemas : List Schema) (parts : PolicyParts) : Type 0 where
  pub tables : (number : ℕ) (part : TablePart) → slice_get parts.tables number ≡ Some part
      → (schema : Schema) × (slice_get schemas number ≡ Some schema) × (part.columns ≡ map (λ column. column.name) schema.columns)
  pub rules : (policy : Policy) → Contains parts.policies policy → (schema : Schema) → slice_get schemas policy.table ≡ Some schema
      → (act : Action) (rule : Expr) → HasRule act policy rule → IsRuleOver schema.columns rule

-- the cells are a row of the table with this number, where there is one
abbrev pub AreCellsOf : List Schema → ℕ → List Scalar → Type 0
AreCellsOf schemas table cells = (schema : Schema) → slice_get schemas table ≡ Some schema → IsRowOver schema.columns cells

-- The world of a rule in the language: a table with these columns. Its rows are out of every rule's reach.
abbrev pub language_world : List Column → Fault → World (List Scalar)
language_world columns unknown = record {
  schemas = record { name = []; columns = columns } ∷ [];
  rows = [] ∷ [];
  predicates = [];
  session = [];
  cell = cell_named (map (λ column. column.name) columns);
  table = λ cells. 0;
  unknown = unknown;
}

-- what the language says of a rule on a row, `row` and `user` being the row and the name of the role, is the truth value
-- that policies are decided by
abbrev pub HoldsAsMeant : Type 0
HoldsAsMeant =
    (columns : List Column) (rule : Expr) → IsRuleOver columns rule → (cells : List Scalar) → IsRowOver columns cells
    → (user : List ℕ) (unknown : Fault)
    → expression_meaning (language_world columns unknown) rule (language_scope cells user)
    ≡ Ok (value.Scalar (scalar.Bool (rule_holds (map (λ column. column.name) columns) rule cells user)))

-- a rule holds on a row exactly where it means the truth value true: one that faults doesn't hold, nor one that means anything else
abbrev pub HoldsWhereTrue : Type 0
HoldsWhereTrue =
    (columns : List (List ℕ)) (rule : Expr) (cells : List Scalar) (user : List ℕ)
    → (rule_holds columns rule cells user ≡ true)
    ↔ (rule_meaning (rule_world columns) rule (rule_scope cells user) ≡ Ok (value.Scalar (scalar.Bool true)))
