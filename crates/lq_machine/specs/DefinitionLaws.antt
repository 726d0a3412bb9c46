-- Laws of what the names of a session refer to: each has a value of its type, over whatever rows its tables hold, and every line leaves it so.
use Rattle.std.specs.Prelude.{◌≡◌, ◌∷◌, ◌++◌, List, [], ℕ, None, true, Some}
use Rattle.lq_value.specs.declared.table.Schema.{Schema}
use Rattle.lq_value.specs.declared.ty.Ty.{Ty, out-Ty}
use Rattle.lq_value.specs.declared.ty.Ty.TheVariants as ty
use Rattle.lq_language.specs.ClauseTyping.{expression_type}
use Rattle.lq_machine.specs.Definitions.{defining, known_as, known_names, outer_names}
use Rattle.lq_machine.specs.Machine.{step}
use Rattle.lq_language.specs.Worlds.{World, known_predicates, session_names}
use Rattle.lq_language.specs.ValuesOfTypes.{HoldsRows, IsScalarOf, assuming, Every, IsTypedTable}
use Rattle.lq_language.specs.Names.{SessionName, session_name, table_number}
use Rattle.lq_language.specs.OperandTypes.{is_scalar}
use Rattle.lq_language.specs.declared.host_name.HostName.{HostName}
use Rattle.lq_language.specs.MeaningLaws.{IsSessionOfValues}
use Rattle.lq_machine.specs.declared.session.Defined.{Defined}
use Rattle.lq_machine.specs.declared.session.Defined.TheVariants as of
use Rattle.lq_machine.specs.declared.session.Definition.{Definition}
use Rattle.lq_value.specs.declared.value.Fault.{Fault}
use Rattle.lq_machine.specs.Serving.{run_denial, run_in, served, served_type, unless_denied}
use Rattle.lq_machine.specs.States.{State, host_names, names_in, schemas_of, seen_by_role, world_by}
use Rattle.lq_language.specs.Meaning.{expression_meaning}
use Rattle.lq_grammar.specs.declared.syntax.Expr.{Expr}

-- What a `var` statement may have defined where these names were known: a variable of a scalar's type, with a value of it, or a named query,
-- whose expression is of a sequence's type there.
abbrev pub IsDefined : List Schema → List HostName → List SessionName → Defined → Type 0
IsDefined schemas predicates earlier (of.Variable t s) = (is_scalar (out-Ty t) ≡ true) × IsScalarOf (out-Ty t) s
IsDefined schemas predicates earlier (of.Query e opened) = (item : Ty) × (expression_type e (outer_names schemas predicates earlier) ≡ Some (ty.Seq item))

-- a name that neither a table nor an earlier definition has
abbrev pub IsNew : List Schema → List SessionName → List ℕ → Type 0
IsNew schemas earlier name = (table_number name schemas ≡ None) × (session_name name earlier ≡ None)

-- and so each of these definitions, of which the oldest comes first, each under a new name
abbrev pub AreDefinedAfter : List Schema → List HostName → List SessionName → List Definition → Type 0
AreDefinedAfter schemas predicates earlier [] = Unit {0}
AreDefinedAfter schemas predicates earlier (d ∷ ds) =
    IsDefined schemas predicates earlier d.defined
    × AreDefinedAfter schemas predicates (earlier ++ known_as schemas predicates earlier d.name d.defined ∷ []) ds
    × IsNew schemas earlier d.name

abbrev pub AreDefined : List Schema → List HostName → List Definition → Type 0
AreDefined schemas predicates definitions = AreDefinedAfter schemas predicates [] definitions

-- the names of a session are those that are known of its definitions
abbrev pub NamesAreKnown : Type 0 → Type 0
NamesAreKnown R =
    (world : World R) (definitions : List Definition) → world.session ≡ []
    → session_names (defining world definitions).session ≡ known_names world.schemas (known_predicates world.predicates) definitions

-- where tables have their rows, each name has a value of its type
abbrev pub NamesHaveValues : Type 0 → Type 0
NamesHaveValues R =
    (world : World R) (definitions : List Definition) → HoldsRows world → world.session ≡ []
    → AreDefined world.schemas (known_predicates world.predicates) definitions → IsSessionOfValues (defining world definitions)

-- and the same whatever is used where there is no meaning
abbrev pub NamesHaveMeanings : Type 0 → Type 0
NamesHaveMeanings R =
    (world : World R) (definitions : List Definition) → HoldsRows world → world.session ≡ []
    → AreDefined world.schemas (known_predicates world.predicates) definitions → (unknown : Fault)
    → defining (assuming unknown world) definitions ≡ assuming unknown (defining world definitions)

-- ---- what the machine serves

-- over tables whose cells are of their columns' types, what a `run` serves that isn't denied is the same whatever is used where there is no
-- meaning
abbrev pub ServesMeanings : Type 0
ServesMeanings =
    (s : State) → Every IsTypedTable s.tables → AreDefined (schemas_of s.tables) (host_names s) s.definitions → (e : Expr) (unknown : Fault)
    → let world = defining (world_by unknown (schemas_of s.tables) s.predicates (seen_by_role s)) s.definitions in
    run_in s e ≡ unless_denied (schemas_of s.tables) (host_names s) (run_denial s.policies s.role (names_in s) e)
    (served world (served_type (names_in s) e) (expression_meaning world e []))

-- ---- what the machine keeps

-- over tables whose cells are of their columns' types, the definitions after a line are as `var` makes them where those before it are
abbrev pub KeepsDefined : Type 0
KeepsDefined =
    (s : State) → Every IsTypedTable s.tables → AreDefined (schemas_of s.tables) (host_names s) s.definitions → (line : List ℕ)
    → AreDefined (schemas_of (step s line).1.tables) (host_names (step s line).1) (step s line).1.definitions
