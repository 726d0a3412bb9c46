-- What a session is between two statements, beside the machine's state; and what statements do to it.
use Rattle.std.specs.Prelude.{◌≡◌, ◌∷◌, ◌++◌, if◌then◌else◌, List, [], map, ℕ, Some}
use Rattle.std.specs.Coded.{Coded, Coded-set, codes}
use Rattle.std.specs.Str.{bytes_eq}
use Rattle.lq_value.specs.Tables.{Table}
use Rattle.lq_value.specs.declared.scalar.Scalar.{Scalar}
use Rattle.lq_value.specs.declared.ty.Ty.{Ty, out-Ty}
use Rattle.lq_host.specs.Predicates.{Predicate}
use Rattle.lq_language.specs.ValuesOfTypes.{IsScalarOf}
use Rattle.lq_language.specs.Worlds.{known_predicates}
use Rattle.lq_language.specs.declared.host_name.HostName.{HostName}
use Rattle.lq_security.specs.declared.policy.PolicyParts.{PolicyParts}
use Rattle.lq_machine.specs.Definitions.{definition_of}
use Rattle.lq_machine.specs.States.{State}
use Rattle.lq_machine.specs.declared.session.Defined.{Defined}
use Rattle.lq_machine.specs.declared.session.Defined.TheVariants as of
use Rattle.lq_machine.specs.declared.session.Definition.{Definition}
use Rattle.lq_pull.specs.Views.{Sight}

-- The tables, the policies, the number of the role, and what `var` statements defined, the oldest first. The host predicates stand beside it,
-- since they hold closures; the policies have their names.
pub record SessionState : Type 0 where
  pub tables : List Table
  pub policies : PolicyParts
  pub role : ℕ
  pub definitions : List Definition

-- the machine's state, with these predicates
abbrev pub state_with : List Predicate → SessionState → State
state_with predicates s = record {
  tables = s.tables;
  policies = s.policies;
  predicates = predicates;
  role = s.role;
  definitions = s.definitions;
}

-- the tables, the policies and the role: what queries read of it
abbrev pub sight : SessionState → Sight
sight s = record { tables = s.tables; policies = s.policies; role = s.role }

abbrev pub sight_in : State → Sight
sight_in s = record { tables = s.tables; policies = s.policies; role = s.role }

-- the policies were read for these predicates
abbrev pub AreKnown : List Predicate → SessionState → Type 0
AreKnown predicates s = known_predicates predicates ≡ s.policies.predicates

-- names are known in one way
pub AreKnown-prop : (predicates : List Predicate) (s : SessionState) → IsProp (AreKnown predicates s)
AreKnown-prop predicates s =
    let names : Coded (List HostName) = hlevel codes in Coded-set names (known_predicates predicates) s.policies.predicates

-- this holds of the machine's state with any predicates of the known names
abbrev pub HoldsOf : SessionState → (State → Type 0) → Type 0
HoldsOf s holds = (predicates : List Predicate) → AreKnown predicates s → holds (state_with predicates s)

-- the machine's state without predicates, of which is said what doesn't depend on them
abbrev pub without_hosts : SessionState → State
without_hosts s = state_with [] s

-- ---- definitions

-- one more definition
abbrev pub with_definition : SessionState → List ℕ → Defined → SessionState
with_definition old name defined = record old { definitions = old.definitions ++ (record { name = name; defined = defined }) ∷ [] }

-- a name is that of a variable, and this is a value of the variable's type
abbrev pub IsValueFor : List Definition → List ℕ → Scalar → Type 0
IsValueFor definitions name value =
    (t : Ty) × (old : Scalar) × (definition_of name definitions ≡ Some (record { name = name; defined = of.Variable t old })) × IsScalarOf (out-Ty t) value

-- a variable's new value
abbrev pub renewed : List ℕ → Ty → Scalar → Definition → Definition
renewed name t value d = if bytes_eq d.name name then record { name = name; defined = of.Variable t value } else d

-- the variable of this name, whatever its type is, has a new value, and all else stays
abbrev pub Assigns : SessionState → List ℕ → Scalar → SessionState → Type 0
Assigns old name value new =
    (t : Ty) (before : Scalar) → definition_of name old.definitions ≡ Some (record { name = name; defined = of.Variable t before })
    → new ≡ record old { definitions = map (renewed name t value) old.definitions }

-- a variable with another value of its type; a named query stays
abbrev pub renewed_by : Scalar → Defined → Defined
renewed_by value (of.Variable t old) = of.Variable t value
renewed_by value (of.Query e opened) = of.Query e opened

abbrev pub with_value : Scalar → Definition → Definition
with_value value d = record { name = d.name; defined = renewed_by value d.defined }
