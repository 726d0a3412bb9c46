-- The trees of a statement, among the tables, the host predicates and the names of the session that it is bound in.
use Rattle.std.specs.Prelude.{List, ℕ, Option}
use Rattle.lq_value.specs.declared.table.Schema.{Schema}
use Rattle.lq_machine.specs.States.{schemas_of}
use Rattle.lq_language.specs.declared.calls.Call.{Call}
use Rattle.lq_language.specs.declared.calls.Term.{Term}
use Rattle.lq_tree.specs.Binding.{call_tree, term_tree}
use Rattle.lq_tree.specs.Places.{Places}
use Rattle.lq_tree.specs.SessionPlaces.{condition_places, statement_places}
use Rattle.lq_tree.specs.declared.tree.Tree.{Tree}
use Rattle.lq_bind.specs.declared.bindings.Scope.{Scope}

module _ (scope : Scope) where
  abbrev schemas : List Schema
  schemas = schemas_of scope.store.now

  abbrev places : Places
  places = statement_places schemas scope.hosts.now scope.definitions.now

  -- the tree of a term
  abbrev pub tree_among : Term → Option Tree
  tree_among term = term_tree schemas term places

  -- of the calls of a query
  abbrev pub query_among : Call Term → Option Tree
  query_among call = call_tree schemas (term_tree schemas) call places

  -- and of a condition on rows of the table with this number, under the name of a row
  abbrev pub condition_among : List ℕ → ℕ → Term → Option Tree
  condition_among row table term = term_tree schemas term (condition_places schemas scope.hosts.now scope.definitions.now row table)
