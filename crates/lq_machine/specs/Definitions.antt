-- What the names of a session refer to: variables, and named queries, each of which sees the names that were defined before it and no
-- local name.
use Rattle.std.specs.Prelude.{◌∷◌, ◌++◌, if◌then◌else◌, List, [], ℕ, Option, Some, None}
use Rattle.std.specs.Str.{bytes_eq}
use Rattle.lq_value.specs.declared.table.Schema.{Schema}
use Rattle.lq_value.specs.declared.value.Value.{Value}
use Rattle.lq_value.specs.declared.value.Value.TheVariants as value
use Rattle.lq_language.specs.ClauseTyping.{expression_type}
use Rattle.lq_language.specs.Worlds.{SessionValue, World, known_predicates, or_null, session_names}
use Rattle.lq_language.specs.OperandMeaning.{sequence, stream_of}
use Rattle.lq_language.specs.Names.{Names, SessionName}
use Rattle.lq_language.specs.Uses.{expression_uses}
use Rattle.lq_language.specs.Meaning.{expression_meaning}
use Rattle.lq_language.specs.declared.host_name.HostName.{HostName}
use Rattle.lq_machine.specs.declared.session.Defined.{Defined}
use Rattle.lq_machine.specs.declared.session.Defined.TheVariants as of
use Rattle.lq_machine.specs.declared.session.Definition.{Definition}

-- the definition of this name
abbrev pub definition_of : List ℕ → List Definition → Option Definition
definition_of name [] = None
definition_of name (d ∷ ds) = if bytes_eq d.name name then Some d else definition_of name ds

-- ---- types and uses

-- where no local name is known
abbrev pub outer_names : List Schema → List HostName → List SessionName → Names
outer_names schemas predicates session = record { tables = schemas; predicates = predicates; session = session; locals = [] }

-- a variable uses nothing, and a named query what its expression uses
abbrev pub known_as : List Schema → List HostName → List SessionName → List ℕ → Defined → SessionName
known_as schemas predicates earlier name (of.Variable t s) = record { name = name; ty = t; uses = [] }
known_as schemas predicates earlier name (of.Query e opened) =
    let names = outer_names schemas predicates earlier in
    record { name = name; ty = or_null (expression_type e names); uses = expression_uses e names }

-- what is known after these definitions, of which the oldest comes first
abbrev pub known_after : List Schema → List HostName → List SessionName → List Definition → List SessionName
known_after schemas predicates earlier [] = earlier
known_after schemas predicates earlier (d ∷ ds) =
    known_after schemas predicates (earlier ++ known_as schemas predicates earlier d.name d.defined ∷ []) ds

unfoldable pub known_names : List Schema → List HostName → List Definition → List SessionName
known_names schemas predicates definitions = known_after schemas predicates [] definitions

-- ---- values

module _ {R : Type 0} where
  -- the same tables and predicates, with these names of the session
  abbrev pub with_session : World R → List (SessionValue R) → World R
  with_session world session = record {
    schemas = world.schemas;
    rows = world.rows;
    predicates = world.predicates;
    session = session;
    cell = world.cell;
    table = world.table;
    unknown = world.unknown;
  }

  -- a variable has its value, and a named query the stream of its expression over the rows of the moment
  abbrev pub value_in : World R → Defined → Value R
  value_in world (of.Variable t s) = value.Scalar s
  value_in world (of.Query e opened) = sequence (stream_of world (expression_meaning world e []))

  abbrev pub valued_as : World R → List ℕ → Defined → SessionValue R
  valued_as world name defined = record {
    known = known_as world.schemas (known_predicates world.predicates) (session_names world.session) name defined;
    value = value_in world defined;
  }

  -- a world after these definitions
  abbrev pub world_after : World R → List Definition → World R
  world_after world [] = world
  world_after world (d ∷ ds) = world_after (with_session world (world.session ++ valued_as world d.name d.defined ∷ [])) ds

  unfoldable pub defining : World R → List Definition → World R
  defining world definitions = world_after world definitions
