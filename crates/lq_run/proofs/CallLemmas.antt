-- What statements add to the log of host calls: calls that are allowed, of the host predicates that their expressions name.
use Rattle.std.proofs.Common.{◌≡◌, ◌∷◌, ◌++◌, if◌then◌else◌, List, [], map, ℕ, Bool, true, Some, None, ap, ◌∙◌, sym, refl, append_assoc}
use Rattle.std.specs.List.{list_all}
use Rattle.lq_value.specs.declared.ty.Ty.{out-Ty}
use Rattle.lq_host.specs.declared.call.Call.{Call}
use Rattle.lq_grammar.specs.declared.syntax.Expr.{Expr}
use Rattle.lq_language.specs.Mentions.{Mention, uses_of}
use Rattle.lq_language.specs.TableRows.{TableRow}
use Rattle.lq_language.specs.Types.{has_place, when}
use Rattle.lq_language.specs.Uses.{expression_uses, shown_columns}
use Rattle.lq_language.specs.declared.rights.Use.{Use}
use Rattle.lq_language.specs.declared.rights.Use.TheVariants as used
use Rattle.lq_language.proofs.AlikeStreamLaws.{every_append}
use Rattle.lq_security.specs.Rights.{denial}
use Rattle.lq_machine.specs.DefinitionLaws.{AreDefined}
use Rattle.lq_machine.specs.HostCalls.{IsAllowed, deletion_named, named_if_allowed, named_now, run_named}
use Rattle.lq_machine.specs.Serving.{served_type, used_by}
use Rattle.lq_machine.specs.States.{State, host_names, names_in, schemas_of}
use Rattle.lq_tree.specs.AllowedCalls.{AddsOwnCalls, Tells, is_seen}
use Rattle.lq_tree.specs.UsesOfForms.{form_uses}
use Rattle.lq_tree.specs.declared.tree.Form.{Form}
use Rattle.lq_tree.specs.declared.tree.Tree.{Tree}
use Rattle.lq_tree.proofs.AllowedCallLaws.{allowed_in_condition, allowed_in_statement, named_where_allowed, own_calls_are_allowed}
use Rattle.lq_tree.proofs.SessionPlaceLaws.{uses_of_statements}
use Rattle.lq_use.specs.FormRights.{form_rights}
use Rattle.lq_pull.specs.Views.{row_facts}
use Rattle.lq_run.specs.Calls.{AddsCalls, MayDelete, condition_names}
use Rattle.lq_run.specs.Replies.{IsTreeOf}
use Rattle.lq_run.specs.Statements.{condition_in}
use Rattle.lq_run.proofs.CallLaws.{called_as}
use Rattle.lq_run.proofs.ReplyLemmas.{type_served, used_same}
use Rattle.lq_run.proofs.WorldLemmas.{base}

-- a row is what it tells
tells : (s : State) (r : TableRow) → Tells s row_facts r r
tells s r = record { table = refl; number = refl; cells = refl }

-- lists of rows, each of which is itself
rows_stay : {A : Type 0} (xs : List A) → map (λ x. x) xs ≡ xs
rows_stay [] = refl
rows_stay (x ∷ xs) = ap (λ (rest : List _). x ∷ rest) (rows_stay xs)

lists_stay : {A : Type 0} (lists : List (List A)) → map (map (λ x. x)) lists ≡ lists
lists_stay [] = refl
lists_stay (xs ∷ lists) = λ i. rows_stay xs i ∷ lists_stay lists i

module _ (s : State) where
  -- what is run over the rows that the role sees, with such rows in its slots
  pub rows_called : (f : Form) (rows : List TableRow) → list_all (is_seen s row_facts) rows ≡ true → (old new : List Call)
      → AddsOwnCalls (base s) row_facts f rows old new → AddsCalls s (form_uses f) old new
  rows_called f rows pass old new adds =
      own_calls_are_allowed s row_facts (λ r. r) (tells s) (base s) (lists_stay (base s).rows) refl f rows pass old new adds

  -- and with none
  pub seen_called : (f : Form) (old new : List Call) → AddsOwnCalls (base s) row_facts f [] old new → AddsCalls s (form_uses f) old new
  seen_called f old new adds = rows_called f [] refl old new adds

  -- calls behind calls
  pub called_behind : (named : List Mention) (old log new : List Call) → AddsCalls s named old log → AddsCalls s named log new → AddsCalls s named old new
  called_behind named old log new first more = (
    first.0 ++ more.0,
    more.1 ∙ ap (λ (l : List Call). l ++ more.0) first.1 ∙ append_assoc old first.0 more.0,
    every_append (IsAllowed s named) first.0 more.0 first.2 more.2,
  )

  module _ (defined : AreDefined (schemas_of s.tables) (host_names s) s.definitions) (tree : Tree) (e : Expr) (is : IsTreeOf s e tree) (old new : List Call) where
    -- a tree names what its expression names
    pub expression_called : AddsCalls s (form_uses tree.form) old new → AddsCalls s (expression_uses e (names_in s)) old new
    expression_called added = (added.0, added.1, allowed_in_statement s defined e tree is added.0 added.2)

    -- and where nothing of it is denied, that is what the statement evaluates
    pub run_called : has_place (out-Ty tree.ty) ≡ true → (used : List Use) → used ≡ form_rights tree.form ++ shown_columns (schemas_of s.tables) tree.ty
        → denial s.policies s.role used ≡ None → AddsCalls s (form_uses tree.form) old new
        → AddsCalls s (run_named s e (served_type (names_in s) e)) old new
    run_called placed used uses none added =
        called_as s (expression_uses e (names_in s)) (run_named s e (served_type (names_in s) e)) old new
        (sym (ap (run_named s e) (type_served s e tree is ∙ ap (λ b. when b (Some tree.ty)) placed)
        ∙ named_where_allowed s (used_by (names_in s) e tree.ty) (expression_uses e (names_in s))
        (ap (denial s.policies s.role) (sym (uses ∙ used_same s defined tree placed e is)) ∙ none)))
        (expression_called added)

    -- the same of an expression that is evaluated at once
    pub scalar_called : (used : List Use) → used ≡ form_rights tree.form → denial s.policies s.role used ≡ None → AddsCalls s (form_uses tree.form) old new
        → AddsCalls s (named_now s e) old new
    unfolding form_rights
    scalar_called used uses none added =
        called_as s (expression_uses e (names_in s)) (named_now s e) old new
        (sym (named_where_allowed s (uses_of (expression_uses e (names_in s))) (expression_uses e (names_in s))
        (ap (denial s.policies s.role)
        (sym (uses ∙ ap uses_of (uses_of_statements (schemas_of s.tables) (host_names s) s.definitions defined e tree is))) ∙ none)))
        (expression_called added)

  -- a condition names what its tree names, and all of that is asked where the statement is neither refused nor denied
  pub deletion_called : AreDefined (schemas_of s.tables) (host_names s) s.definitions → (n : ℕ) (tree : Tree) (x : List ℕ) (e : Expr)
      → condition_in s x n e ≡ Some tree → MayDelete s x e n → (old new : List Call) → AddsCalls s (form_uses tree.form) old new
      → AddsCalls s (deletion_named s x e (Some n)) old new
  deletion_called defined n tree x e is may old new added =
      let named = expression_uses e (condition_names s x n) in
      let uses : List Use = used.Delete n ∷ uses_of named in
      called_as s named (deletion_named s x e (Some n)) old new
      (sym (ap (λ (b : Bool). if b then named_if_allowed s uses named else []) may.0 ∙ named_where_allowed s uses named may.1))
      (added.0, added.1, allowed_in_condition s defined x n e tree is added.0 added.2)
