-- What statements and lines add to the log of host calls: calls of the host predicates that they name, where they evaluate an expression.
use Rattle.std.proofs.Common.{◌≡◌, ◌∙◌, ◌∷◌, ◌++◌, if◌then◌else◌, List, [], ℕ, Bool, true, false, Some, None, Ok, ap, sym}
use Rattle.lq_value.specs.declared.ty.Ty.{Ty, out-Ty}
use Rattle.lq_host.specs.declared.call.Call.{Call}
use Rattle.lq_grammar.specs.Reading.{Says, reading_of}
use Rattle.lq_grammar.specs.declared.syntax.Expr.{Expr}
use Rattle.lq_grammar.specs.declared.syntax.Statement.{Statement}
use Rattle.lq_grammar.specs.declared.syntax.Statement.TheVariants as statement
use Rattle.lq_language.specs.ClauseTyping.{expression_type}
use Rattle.lq_language.specs.Names.{table_number}
use Rattle.lq_language.specs.OperandTypes.{is_bool, is_scalar}
use Rattle.lq_language.specs.Typing.{converts}
use Rattle.lq_language.specs.declared.rights.Use.{Use}
use Rattle.lq_language.specs.declared.rights.Use.TheVariants as used
use Rattle.lq_security.specs.Rights.{denial}
use Rattle.lq_machine.specs.DefinitionLaws.{AreDefined}
use Rattle.lq_machine.specs.HostCalls.{assignment_named, definition_named, deletion_named, evaluated_named, line_named, named_now, reading_named, value_named}
use Rattle.lq_machine.specs.Opening.{is_past_opening, opening_of}
use Rattle.lq_machine.specs.States.{State, host_names, names_in, schemas_of}
use Rattle.lq_machine.specs.Statements.{is_taken}
use Rattle.lq_machine.specs.declared.session.Opened.{Opened}
use Rattle.lq_tree.specs.declared.tree.Tree.{Tree}
use Rattle.lq_use.specs.FormRights.{form_rights}
use Rattle.lq_run.specs.Calls.{AddsCalls, AddsDeletionCalls}
use Rattle.lq_run.specs.Statements.{condition_in, tree_in}
use Rattle.lq_run.proofs.CallLaws.{called_as}
use Rattle.lq_session.specs.Lines.{OpensWithin}
use Rattle.lq_session.specs.Variables.{variable_type}
use Rattle.lq_session.proofs.ConditionLemmas.{condition_is, uses_same}
use Rattle.lq_session.proofs.VariableLemmas.{type_of, variable_found}

module _ (s : State) where
  -- the calls of a statement that is this one
  pub statement_called : (given same : Statement) (old new : List Call) → given ≡ same → AddsCalls s (evaluated_named s same) old new
      → AddsCalls s (evaluated_named s given) old new
  statement_called given same old new is added = called_as s (evaluated_named s same) (evaluated_named s given) old new (ap (evaluated_named s) (sym is)) added

  module _ (e : Expr) (old new : List Call) where
    -- a definition of a name that isn't taken
    pub defining_called : (name : List ℕ) → is_taken s name ≡ false → AddsCalls s (definition_named s e (expression_type e (names_in s))) old new
        → AddsCalls s (evaluated_named s (statement.Define name e)) old new
    defining_called name free added =
        called_as s (definition_named s e (expression_type e (names_in s))) (evaluated_named s (statement.Define name e)) old new
        (ap (λ (taken : Bool). if taken then [] else definition_named s e (expression_type e (names_in s))) (sym free)) added

    module _ (tree : Tree) (is : tree_in s e ≡ Some tree) where
      -- a scalar that is defined is evaluated
      pub definition_called : is_scalar (out-Ty tree.ty) ≡ true → AddsCalls s (named_now s e) old new
          → AddsCalls s (definition_named s e (expression_type e (names_in s))) old new
      definition_called scalar added =
          called_as s (named_now s e) (definition_named s e (expression_type e (names_in s))) old new
          (sym (ap (definition_named s e) (type_of s e tree is) ∙ ap (λ (b : Bool). if b then named_now s e else []) scalar)) added

      -- and so is one that a variable of this name and type gets
      pub assignment_called : (name : List ℕ) (t : Ty) → variable_type s.definitions name ≡ Some t → converts tree.ty t ≡ true
          → AddsCalls s (named_now s e) old new → AddsCalls s (evaluated_named s (statement.Assign name e)) old new
      assignment_called name t at place added =
          called_as s (named_now s e) (evaluated_named s (statement.Assign name e)) old new
          (sym (ap (assignment_named s e) (variable_found s name t at).1
          ∙ ap (value_named s e t) (type_of s e tree is) ∙ ap (λ (b : Bool). if b then named_now s e else []) place)) added

    -- the condition of a deletion is evaluated where it is a truth value, and the role has a right to the removal and to what the condition uses
    pub deletion_called : (name x : List ℕ) (n : ℕ) → table_number name (schemas_of s.tables) ≡ Some n
        → (tree : Tree) → condition_in s x n e ≡ Some tree → (b : Bool) (t : Ty) → t ≡ tree.ty → b ≡ is_bool (out-Ty t) → b ≡ true
        → AreDefined (schemas_of s.tables) (host_names s) s.definitions → (uses : List Use) → uses ≡ used.Delete n ∷ (form_rights tree.form ++ [])
        → denial s.policies s.role uses ≡ None → AddsDeletionCalls s n tree old new → AddsCalls s (evaluated_named s (statement.Delete name x e)) old new
    deletion_called name x n number tree is b t same tells condition defined uses are allowed added =
        let right = ap (denial s.policies s.role) (sym (uses_same s defined n tree uses are x e is)) ∙ allowed in
        called_as s (deletion_named s x e (Some n)) (evaluated_named s (statement.Delete name x e)) old new (ap (deletion_named s x e) (sym number))
        (added x e is (condition_is s x n e tree is b true t same tells condition, right))

  -- a line names what its statement names, where it is performed
  pub line_called : (line : List ℕ) (given : Statement) → reading_of line ≡ Says given → (opened : Opened)
      → OpensWithin (opening_of s.definitions line) (Ok opened) → (old new : List Call)
      → AddsCalls s (evaluated_named s given) old new → AddsCalls s (line_named s line) old new
  line_called line given says opened opens old new added =
      called_as s (evaluated_named s given) (line_named s line) old new
      (sym (ap (reading_named s (opening_of s.definitions line)) says
      ∙ ap (λ (past : Bool). if past then [] else evaluated_named s given) (sym (ap is_past_opening opens.0) ∙ opens.1))) added
