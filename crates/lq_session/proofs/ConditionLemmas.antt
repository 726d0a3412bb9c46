-- Conditions on the rows of a table: the tree of one has its type, and uses what it uses.
use Rattle.std.proofs.Common.{◌≡◌, ◌∙◌, ◌∷◌, ◌++◌, List, [], ℕ, Bool, false, Some, None, ap, option_map, sym}
use Rattle.lq_value.specs.declared.ty.Ty.{Ty, out-Ty}
use Rattle.lq_value.specs.declared.ty.Ty.TheVariants as ty
use Rattle.lq_language.specs.ClauseTyping.{expression_type}
use Rattle.lq_machine.specs.DefinitionLaws.{AreDefined}
use Rattle.lq_language.specs.Operators.{One}
use Rattle.lq_machine.specs.States.{State, host_names, names_in, schemas_of}
use Rattle.lq_language.specs.Names.{Names, with_local}
use Rattle.lq_language.specs.OperandTypes.{is_bool, is_bool_type}
use Rattle.lq_language.specs.Mentions.{uses_of}
use Rattle.lq_language.specs.Uses.{expression_uses}
use Rattle.lq_language.specs.declared.rights.Use.{Use}
use Rattle.lq_language.specs.declared.rights.Use.TheVariants as used
use Rattle.lq_grammar.specs.declared.syntax.Expr.{Expr}
use Rattle.lq_translate.specs.Translated.{translated}
use Rattle.lq_translate.proofs.AlikeTermLaws.{terms_typed}
use Rattle.lq_tree.specs.Places.{Places, names_of_places, with_name}
use Rattle.lq_tree.specs.SessionPlaces.{statement_places}
use Rattle.lq_tree.specs.UsesOfForms.{form_uses}
use Rattle.lq_tree.specs.declared.tree.Tree.{Tree}
use Rattle.lq_tree.proofs.NodeUseLaws.{item_unused}
use Rattle.lq_tree.proofs.ScopeLaws.{append_none}
use Rattle.lq_tree.proofs.SessionPlaceLaws.{places_use, statement_names}
use Rattle.lq_tree.proofs.TermTypeLaws.{types_same}
use Rattle.lq_tree.proofs.TermUseLaws.{expression_uses_same}
use Rattle.lq_use.specs.FormRights.{form_rights}
use Rattle.lq_run.specs.Statements.{condition_in}

module _ (s : State) (x : List ℕ) (n : ℕ) (e : Expr) where
  abbrev outside : Places
  outside = statement_places (schemas_of s.tables) (host_names s) s.definitions

  names_there : names_of_places (schemas_of s.tables) (with_name outside x (ty.Row n)) ≡ with_local (names_in s) x (ty.Row n)
  names_there = ap (λ (names : Names). with_local names x (ty.Row n)) (statement_names (schemas_of s.tables) (host_names s) s.definitions)

  -- there is a tree exactly where the condition has a type, which is the tree's
  pub condition_type : option_map (λ tree. tree.ty) (condition_in s x n e) ≡ expression_type e (with_local (names_in s) x (ty.Row n))
  condition_type =
      types_same (schemas_of s.tables) (translated e) (with_name outside x (ty.Row n))
      ∙ terms_typed e (names_of_places (schemas_of s.tables) (with_name outside x (ty.Row n))) ∙ ap (expression_type e) names_there

  -- and the tree uses what the condition uses
  pub condition_uses : AreDefined (schemas_of s.tables) (host_names s) s.definitions → (tree : Tree) → condition_in s x n e ≡ Some tree
      → form_uses tree.form ≡ expression_uses e (with_local (names_in s) x (ty.Row n))
  condition_uses defined tree is =
      expression_uses_same (schemas_of s.tables) e (with_name outside x (ty.Row n))
      (item_unused outside (One x (ty.Row n)) (places_use (schemas_of s.tables) (host_names s) s.definitions defined)) tree is
      ∙ ap (expression_uses e) names_there

  -- so it is a truth value where the tree is one
  pub condition_is : (tree : Tree) → condition_in s x n e ≡ Some tree → (b answer : Bool) (t : Ty) → t ≡ tree.ty → b ≡ is_bool (out-Ty t) → b ≡ answer
      → is_bool_type (expression_type e (with_local (names_in s) x (ty.Row n))) ≡ answer
  condition_is tree is b answer t at tells so =
      ap is_bool_type (sym condition_type ∙ ap (option_map (λ (found : Tree). found.ty)) is) ∙ ap (λ (u : Ty). is_bool (out-Ty u)) (sym at) ∙ sym tells ∙ so

  pub no_condition_type : condition_in s x n e ≡ None → is_bool_type (expression_type e (with_local (names_in s) x (ty.Row n))) ≡ false
  no_condition_type none = ap is_bool_type (sym condition_type ∙ ap (option_map (λ (found : Tree). found.ty)) none)

-- the removal and what the tree uses are what the statement uses
pub uses_same : (s : State) → AreDefined (schemas_of s.tables) (host_names s) s.definitions → (n : ℕ) (tree : Tree) (uses : List Use)
    → uses ≡ used.Delete n ∷ (form_rights tree.form ++ []) → (x : List ℕ) (e : Expr) → condition_in s x n e ≡ Some tree
    → uses ≡ used.Delete n ∷ uses_of (expression_uses e (with_local (names_in s) x (ty.Row n)))
unfolding form_rights
uses_same s defined n tree uses are x e is =
    are ∙ ap (λ (us : List Use). used.Delete n ∷ us) (append_none (form_rights tree.form) ∙ ap uses_of (condition_uses s x n e defined tree is))
