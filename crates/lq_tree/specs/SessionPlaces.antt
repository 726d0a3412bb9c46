-- The places of a session's names: a variable is its value, and a named query the tree of its expression, which is bound where the name is
-- opened, with no local name in scope.
use Rattle.std.specs.Prelude.{◌∷◌, ◌++◌, List, [], map, ℕ, Option, Some, None}
use Rattle.lq_value.specs.declared.scalar.Scalar.TheVariants as scalar
use Rattle.lq_value.specs.declared.table.Schema.{Schema}
use Rattle.lq_value.specs.declared.ty.Ty.TheVariants as ty
use Rattle.lq_machine.specs.Definitions.{known_as}
use Rattle.lq_language.specs.Names.{SessionName}
use Rattle.lq_language.specs.declared.host_name.HostName.{HostName}
use Rattle.lq_machine.specs.declared.session.Defined.{Defined}
use Rattle.lq_machine.specs.declared.session.Defined.TheVariants as of
use Rattle.lq_machine.specs.declared.session.Definition.{Definition}
use Rattle.lq_translate.specs.Translated.{translated}
use Rattle.lq_tree.specs.Binding.{term_tree, tree_of}
use Rattle.lq_tree.specs.Places.{Places, SessionPlace, with_name}
use Rattle.lq_tree.specs.declared.tree.Form.{Form}
use Rattle.lq_tree.specs.declared.tree.Form.TheVariants as form
use Rattle.lq_tree.specs.declared.tree.Tree.{Tree}

-- what is known of places
abbrev pub known_of : List SessionPlace → List SessionName
known_of places = map (λ place. place.known) places

-- no local name, with these predicates, these names of the session and so many slots in use
abbrev pub places_outside : List HostName → List SessionPlace → ℕ → Places
places_outside predicates session depth = record { predicates = predicates; session = session; locals = []; depth = depth }

-- what has no tree is null, as what has no type is
abbrev pub tree_or_null : Option Tree → Tree
tree_or_null None = tree_of ty.Null (form.Literal scalar.Null)
tree_or_null (Some tree) = tree

abbrev pub form_or_null : Option Tree → Form
form_or_null found = (tree_or_null found).form

module _ (schemas : List Schema) (predicates : List HostName) where
  -- the form of a name that was defined where these were known
  abbrev pub defined_form : List SessionPlace → Defined → ℕ → Form
  defined_form earlier (of.Variable t s) depth = form.Literal s
  defined_form earlier (of.Query e opened) depth = form_or_null (term_tree schemas (translated e) (places_outside predicates earlier depth))

  abbrev pub placed_as : List SessionPlace → Definition → SessionPlace
  placed_as earlier d = record { known = known_as schemas predicates (known_of earlier) d.name d.defined; form = defined_form earlier d.defined }

  -- the places of these names after those of the names before them
  abbrev pub placed_after : List SessionPlace → List Definition → List SessionPlace
  placed_after earlier [] = earlier
  placed_after earlier (d ∷ ds) = placed_after (earlier ++ placed_as earlier d ∷ []) ds

  unfoldable pub session_places : List Definition → List SessionPlace
  session_places definitions = placed_after [] definitions

  -- the places of a statement: the names of the session, and no slot in use
  abbrev pub statement_places : List Definition → Places
  statement_places definitions = places_outside predicates (session_places definitions) 0

  -- the places of a condition on rows of the table with this number: those of a statement, and the local name of a row, which is in
  -- the first slot
  abbrev pub condition_places : List Definition → List ℕ → ℕ → Places
  condition_places definitions x n = with_name (statement_places definitions) x (ty.Row n)
