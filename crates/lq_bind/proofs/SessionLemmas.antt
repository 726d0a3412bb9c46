-- What a name of the session stands for: the tree of its first definition, behind the definitions before it.
use Rattle.std.proofs.Common.{◌≡◌, List, ℕ, take, slice_get, Option, Some, None, ap, ◌∙◌, refl, sym, option_and_then, option_map}
use Rattle.lq_value.specs.Tables.{first_named}
use Rattle.lq_value.specs.declared.table.Schema.{Schema}
use Rattle.lq_language.specs.declared.host_name.HostName.{HostName}
use Rattle.lq_machine.specs.declared.session.Defined.{Defined}
use Rattle.lq_machine.specs.declared.session.Defined.TheVariants as of
use Rattle.lq_machine.specs.declared.session.Definition.{Definition}
use Rattle.lq_tree.specs.Binding.{tree_of}
use Rattle.lq_tree.specs.Places.{SessionPlace}
use Rattle.lq_tree.specs.SessionPlaces.{placed_as, session_places}
use Rattle.lq_tree.specs.declared.tree.Tree.{Tree}
use Rattle.lq_tree.proofs.SessionPlaceLaws.{named_tree, place_named, placed_at}
use Rattle.lq_bind.specs.Bound.{defined_before, defined_tree, session_tree}

module _ (schemas : List Schema) (predicates : List HostName) where
  abbrev tree_of_place : ℕ → SessionPlace → Tree
  tree_of_place depth place = tree_of place.known.ty (place.form depth)

  abbrev definition_tree : ℕ → List Definition × Definition → Tree
  definition_tree depth d = defined_tree schemas predicates (session_places schemas predicates d.0) d.1.defined depth

  -- the place of a definition behind others tells its tree
  defined_as : (earlier : List SessionPlace) (name : List ℕ) (d : Defined) (depth : ℕ)
      → tree_of_place depth (placed_as schemas predicates earlier (record { name = name; defined = d })) ≡ defined_tree schemas predicates earlier d depth
  defined_as earlier name (of.Variable t s) depth = refl
  defined_as earlier name (of.Query e opened) depth = named_tree schemas predicates earlier name e opened depth

  at_number : (ds : List Definition) (depth : ℕ) (o : Option ℕ)
      → option_map (tree_of_place depth) (option_and_then (placed_at schemas predicates ds) o)
      ≡ option_map (definition_tree depth) (option_and_then (λ i. option_map (λ (d : Definition). (take i ds, d)) (slice_get ds i)) o)
  at_number ds depth None = refl
  at_number ds depth (Some i) = at (slice_get ds i) where
    at : (o : Option Definition) → option_map (tree_of_place depth) (option_map (placed_as schemas predicates (session_places schemas predicates (take i ds))) o)
        ≡ option_map (definition_tree depth) (option_map (λ (d : Definition). (take i ds, d)) o)
    at None = refl
    at (Some d) = ap Some (defined_as (session_places schemas predicates (take i ds)) d.name d.defined depth)

  session_name : (name : List ℕ) (ds : List Definition) (depth : ℕ)
      → session_tree (session_places schemas predicates ds) name depth ≡ option_map (definition_tree depth) (defined_before name ds)
  session_name name ds depth =
      ap (option_map (tree_of_place depth)) (place_named schemas predicates name ds) ∙ at_number ds depth (first_named (λ (d : Definition). d.name) name ds)

  pub name_missing : (name : List ℕ) (ds : List Definition) (depth : ℕ) → None ≡ defined_before name ds
      → session_tree (session_places schemas predicates ds) name depth ≡ None
  name_missing name ds depth e = session_name name ds depth ∙ sym (ap (option_map (definition_tree depth)) e)

  pub name_placed : (name : List ℕ) (ds earlier : List Definition) (d : Definition) (depth : ℕ)
      → ◌≡◌ {A = Option (List Definition × Definition)} (Some (earlier, d)) (defined_before name ds)
      → session_tree (session_places schemas predicates ds) name depth ≡ Some (defined_tree schemas predicates (session_places schemas predicates earlier) d.defined depth)
  name_placed name ds earlier d depth e = session_name name ds depth ∙ sym (ap (option_map (definition_tree depth)) e)

pub ruleset places = (name_missing, name_placed)
