-- The reply that a tree gives is the machine's for each expression that is bound to it; and the reply of one without a tree is a refusal.
use Rattle.std.proofs.Common.{◌≡◌, ◌∙◌, ◌++◌, List, [], ℕ, Bool, true, false, Option, Some, None, Result, Ok, Err, IfOk, ap, sym, refl, codes, option_map, option_and_then}
use Rattle.std.specs.declared.alloc.AllocError.{AllocError}
use Rattle.lq_value.specs.declared.table.Schema.{Schema}
use Rattle.lq_value.specs.declared.ty.Ty.{Ty, out-Ty}
use Rattle.lq_value.specs.declared.ty.Ty.TheOpen.{Ty-F}
use Rattle.lq_value.specs.declared.value.Fault.{Fault}
use Rattle.lq_value.specs.declared.value.Value.{Value}
use Rattle.lq_language.specs.ClauseTyping.{expression_type}
use Rattle.lq_machine.specs.DefinitionLaws.{AreDefined}
use Rattle.lq_language.specs.OperandMeaning.{stream_of}
use Rattle.lq_language.specs.Worlds.{World}
use Rattle.lq_security.specs.Rights.{Denied, denial}
use Rattle.lq_machine.specs.Served.{error_data, line_of, stream_data, value_data}
use Rattle.lq_machine.specs.Serving.{run_denial, run_in, run_reply, served, served_as, served_type, unless_denied, used_by}
use Rattle.lq_machine.specs.States.{State, cells_of, host_names, names_in, schemas_of, world_in}
use Rattle.lq_language.specs.Types.{has_place, if_placed, when}
use Rattle.lq_language.specs.Mentions.{uses_of}
use Rattle.lq_language.specs.Uses.{shown_columns}
use Rattle.lq_language.specs.TableRows.{TableRow}
use Rattle.lq_language.specs.Meaning.{expression_meaning}
use Rattle.lq_language.specs.declared.rights.Use.{Use}
use Rattle.lq_grammar.specs.declared.syntax.Expr.{Expr}
use Rattle.lq_tree.specs.FormMeaning.{form_meaning}
use Rattle.lq_tree.specs.declared.tree.Form.{Form}
use Rattle.lq_tree.specs.declared.tree.Tree.{Tree}
use Rattle.lq_tree.proofs.SessionPlaceLaws.{types_of_statements, uses_of_statements}
use Rattle.lq_use.specs.FormRights.{form_rights}
use Rattle.lq_store.specs.Rules.{IsTable}
use Rattle.lq_language.specs.ValuesOfTypes.{Every}
use Rattle.lq_run.specs.Replies.{IsTreeOf, ServesTree}
use Rattle.lq_run.specs.Statements.{FindsTree, HasRights, tree_in}
use Rattle.lq_run.specs.Stops.{StopsWith}
use Rattle.lq_run.specs.TreeReply.{data_by, tree_data}
use Rattle.lq_run.specs.declared.stop.Stop.{Stop}
use Rattle.lq_run.specs.declared.stop.Stop.TheVariants as stop
use Rattle.lq_run.proofs.WorldLemmas.{base, is_world, means_read, stream_same, tree_means, world}

-- what is answered of a type is so of the tree's
pub told_of : (b answer : Bool) (t u : Ty) → b ≡ has_place (out-Ty t) → t ≡ u → b ≡ answer → has_place (out-Ty u) ≡ answer
told_of b answer t u is same answered = ap (λ (v : Ty). has_place (out-Ty v)) (sym same) ∙ sym is ∙ answered

module _ (s : State) where
  abbrev schemas : List Schema
  schemas = schemas_of s.tables

  -- an expression's type is that of its tree, and it has none where it has no tree
  tree_type : (e : Expr) → option_map (λ tree. tree.ty) (tree_in s e) ≡ expression_type e (names_in s)
  tree_type e = types_of_statements schemas (host_names s) s.definitions e

  -- what is served of a value, by its type
  by_layer : (t : Ty) (layer : Ty-F Ty) (found : Result (Value TableRow) Fault) → out-Ty t ≡ layer
      → data_by cells_of schemas (world s) t layer found ≡ served (world s) (when (has_place layer) (Some t)) found
  by_layer t Ty-F.Null found is = refl
  by_layer t layer found is = sym (ap (λ (l : Ty-F Ty). served_as (world s) t l found) is)

  -- what is served of a form over the tables alone is served where the session's names are known, too
  read_layer : (t : Ty) (f : Form) (layer : Ty-F Ty)
      → data_by cells_of schemas (base s) t layer (form_meaning (base s) f []) ≡ data_by cells_of schemas (world s) t layer (form_meaning (world s) f [])
  read_layer t f Ty-F.Null = refl
  read_layer t f (Ty-F.Seq item) =
      ap (stream_data schemas cells_of item)
      (stream_same (base s) (world_in s).session (form_meaning (base s) f []) ∙ ap (stream_of (world s)) (sym (means_read s f [])))
  read_layer t f layer = ap (value_data schemas cells_of t) (sym (means_read s f []))

  -- the type that an expression is served by
  pub type_served : (e : Expr) (tree : Tree) → IsTreeOf s e tree → served_type (names_in s) e ≡ when (has_place (out-Ty tree.ty)) (Some tree.ty)
  type_served e tree is = sym (ap if_placed (ap (option_map (λ t. t.ty)) (sym is) ∙ tree_type e))

  -- nothing is denied of what can't be in a reply, and nothing of it is served
  pub null_refused : (e : Expr) (tree : Tree) → IsTreeOf s e tree → has_place (out-Ty tree.ty) ≡ false → error_data (codes "type") ≡ run_in s e
  unfolding run_denial run_reply
  null_refused e tree is null =
      ap (λ (o : Option Ty). unless_denied schemas (host_names s) (option_and_then (λ t. denial s.policies s.role (used_by (names_in s) e t)) o)
      (served (world_in s) o (expression_meaning (world_in s) e [])))
      (sym (type_served e tree is ∙ ap (λ b. when b (Some tree.ty)) null))

  -- an expression that has no tree is refused
  no_tree : (e : Expr) → tree_in s e ≡ None → error_data (codes "type") ≡ run_in s e
  unfolding run_denial run_reply
  no_tree e none =
      ap (λ (o : Option Ty). unless_denied schemas (host_names s) (option_and_then (λ t. denial s.policies s.role (used_by (names_in s) e t)) (if_placed o))
      (served (world_in s) (if_placed o) (expression_meaning (world_in s) e [])))
      (ap (option_map (λ t. t.ty)) (sym none) ∙ tree_type e)

  pub untyped_refused : (e : Expr) (why : Stop) → FindsTree (tree_in s e) (Err why) → StopsWith (run_in s e) why
  untyped_refused e (stop.Answer line) refuses = refuses.1 ∙ ap line_of (no_tree e refuses.0)
  untyped_refused e stop.Memory refuses = tt

  module _ (defined : AreDefined schemas (host_names s) s.definitions) (tree : Tree) (placed : has_place (out-Ty tree.ty) ≡ true) where
    -- what a tree uses, and what it shows
    abbrev shown : List Use
    shown = form_rights tree.form ++ shown_columns schemas tree.ty

    -- is what the machine asks for
    pub used_same : (e : Expr) → IsTreeOf s e tree → form_rights tree.form ++ shown_columns schemas tree.ty ≡ used_by (names_in s) e tree.ty
    unfolding form_rights
    used_same e is = ap (λ us. uses_of us ++ shown_columns schemas tree.ty) (uses_of_statements schemas (host_names s) s.definitions defined e tree is)

    -- what is denied of an expression is what is denied of its tree
    denied_same : (e : Expr) → IsTreeOf s e tree
        → denial s.policies s.role (form_rights tree.form ++ shown_columns schemas tree.ty) ≡ run_denial s.policies s.role (names_in s) e
    unfolding run_denial
    denied_same e is =
        ap (denial s.policies s.role) (used_same e is)
        ∙ sym (ap (option_and_then (λ t. denial s.policies s.role (used_by (names_in s) e t))) (type_served e tree is ∙ ap (λ b. when b (Some tree.ty)) placed))

    module _ (used : List Use) (uses : used ≡ form_rights tree.form ++ shown_columns schemas tree.ty) (e : Expr) (is : IsTreeOf s e tree) where
      answer_by : (o : Option Denied) → denial s.policies s.role used ≡ o → unless_denied schemas (host_names s) o (run_reply (names_in s) (world_in s) e) ≡ run_in s e
      answer_by o found =
          ap (λ (d : Option Denied). unless_denied schemas (host_names s) d (run_reply (names_in s) (world_in s) e))
          (sym found ∙ ap (denial s.policies s.role) uses ∙ denied_same e is)

      -- a tree of which nothing is denied is served
      pub allowed_served : (line : List ℕ) → denial s.policies s.role used ≡ None → ServesTree s tree line → line ≡ line_of (run_in s e)
      allowed_served line none serves = serves e is ∙ ap line_of (answer_by None none)

      -- and the first denial of another is the answer
      pub denied_answered : (why : Stop) → HasRights s used (Err why) → StopsWith (run_in s e) why
      denied_answered (stop.Answer line) denied = denied.2 ∙ ap line_of (answer_by (Some denied.0) denied.1)
      denied_answered stop.Memory denied = tt

  module _ (defined : AreDefined schemas (host_names s) s.definitions) where
    -- the reply of the tree is the machine's
    tree_reply : Every IsTable s.tables → (e : Expr) (tree : Tree) → IsTreeOf s e tree → tree_data cells_of schemas (world s) tree ≡ run_reply (names_in s) (world_in s) e
    unfolding run_reply
    tree_reply kept e tree is =
        by_layer tree.ty (out-Ty tree.ty) (form_meaning (world s) tree.form []) refl
        ∙ ap (λ (o : Option Ty). served (world s) o (form_meaning (world s) tree.form [])) (sym (type_served e tree is))
        ∙ ap (served (world s) (served_type (names_in s) e)) (tree_means s kept defined e tree is)
        ∙ ap (λ (w : World TableRow). served w (served_type (names_in s) e) (expression_meaning (world_in s) e [])) (sym (is_world s))

    -- so a run's line is the machine's
    serves_tree : Every IsTable s.tables → (tree : Tree) (line : List ℕ) → line ≡ line_of (tree_data cells_of schemas (base s) tree) → ServesTree s tree line
    serves_tree kept tree line so e is =
        so
        ∙ ap line_of (read_layer tree.ty tree.form (out-Ty tree.ty))
        ∙ ap line_of (tree_reply kept e tree is)

    pub serves_result : (tree : Tree) (result : Result (List ℕ) AllocError) → IfOk result (λ line. line ≡ line_of (tree_data cells_of schemas (base s) tree))
        → IfOk result (λ line. Every IsTable s.tables) → IfOk result (ServesTree s tree)
    serves_result tree (Ok line) so kept = serves_tree kept tree line so
    serves_result tree (Err e) so kept = tt
