-- What the tables of a store serve has a meaning.
use Rattle.std.specs.Prelude.{◌≡◌, []}
use Rattle.lq_value.specs.declared.value.Fault.{Fault}
use Rattle.lq_store.specs.Rules.{IsTable}
use Rattle.lq_machine.specs.DefinitionLaws.{AreDefined}
use Rattle.lq_machine.specs.Definitions.{defining}
use Rattle.lq_machine.specs.Serving.{run_denial, run_in, served, served_type, unless_denied}
use Rattle.lq_machine.specs.States.{State, host_names, names_in, schemas_of, seen_by_role, world_by}
use Rattle.lq_language.specs.ValuesOfTypes.{Every}
use Rattle.lq_language.specs.Meaning.{expression_meaning}
use Rattle.lq_grammar.specs.declared.syntax.Expr.{Expr}

-- over tables that a store keeps and names that mean what `var` defined, what a `run` that isn't denied serves is the same whatever
-- is put where an expression has no meaning
abbrev pub ServesStoredMeanings : Type 0
ServesStoredMeanings =
    (s : State) → Every IsTable s.tables → AreDefined (schemas_of s.tables) (host_names s) s.definitions → (e : Expr) (unknown : Fault)
    → let world = defining (world_by unknown (schemas_of s.tables) s.predicates (seen_by_role s)) s.definitions in
    run_in s e ≡ unless_denied (schemas_of s.tables) (host_names s) (run_denial s.policies s.role (names_in s) e)
    (served world (served_type (names_in s) e) (expression_meaning world e []))
