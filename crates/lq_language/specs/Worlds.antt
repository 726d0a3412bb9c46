-- What is read where an expression is: the tables with their rows, the session's names, and the local names with their values.
use Rattle.std.specs.Prelude.{◌∷◌, if◌then◌else◌, List, [], map, ℕ, Option, Some, None, Result}
use Rattle.std.specs.Str.{bytes_eq}
use Rattle.lq_value.specs.declared.scalar.Scalar.{Scalar}
use Rattle.lq_value.specs.declared.table.Schema.{Schema}
use Rattle.lq_value.specs.declared.ty.Ty.{Ty}
use Rattle.lq_value.specs.declared.ty.Ty.TheVariants as ty
use Rattle.lq_value.specs.declared.value.Fault.{Fault}
use Rattle.lq_value.specs.declared.value.Value.{Value}
use Rattle.lq_host.specs.Predicates.{Predicate, arity_of}
use Rattle.lq_language.specs.Stream.{Stream}
use Rattle.lq_language.specs.Names.{Names, SessionName}
use Rattle.lq_language.specs.declared.host_name.HostName.{HostName}

-- a local name with its type and its value
pub record Binding (R : Type 0) : Type 0 where
  pub name : List ℕ
  pub ty : Ty
  pub value : Value R

-- the local names of a place, the innermost first
abbrev pub Scope : Type 0 → Type 0
Scope R = List (Binding R)

-- a name of the session, and what it refers to at a statement
pub record SessionValue (R : Type 0) : Type 0 where
  pub known : SessionName
  pub value : Value R

-- what is read besides local names: the schemas and rows of the tables and the host predicates, by number, what the session's names refer to, and
-- a row's cell by its column's name
pub record World (R : Type 0) : Type 0 where
  pub schemas : List Schema
  pub rows : List (List R)
  pub predicates : List Predicate
  pub session : List (SessionValue R)
  pub cell : R → List ℕ → Option Scalar
  -- the number of the table that a row is of
  pub table : R → ℕ
  -- what is used where an expression has no meaning, since it has no type; nothing that is typed depends on it (MeaningLaws)
  pub unknown : Fault

-- what an expression means in the scope of its place
abbrev pub Meaning : Type 0 → Type 0
Meaning R = Scope R → Result (Value R) Fault

abbrev pub or_null : Option Ty → Ty
or_null None = ty.Null
or_null (Some t) = t

-- predicates by their names and the numbers of their arguments
abbrev pub known_predicates : List Predicate → List HostName
known_predicates predicates = map (λ p. record { name = p.name; arguments = arity_of p.domain }) predicates

module _ {R : Type 0} where
  -- the local name's binding
  abbrev pub binding_of : List ℕ → Scope R → Option (Binding R)
  binding_of name [] = None
  binding_of name (b ∷ bs) = if bytes_eq b.name name then Some b else binding_of name bs

  -- the local names with their types
  abbrev pub typed_locals : Scope R → List (List ℕ × Ty)
  typed_locals scope = map (λ b. (b.name, b.ty)) scope

  -- the names of the session with their types
  abbrev pub session_names : List (SessionValue R) → List SessionName
  session_names session = map (λ s. s.known) session

  abbrev pub names_at : World R → Scope R → Names
  names_at world scope = record {
    tables = world.schemas;
    predicates = known_predicates world.predicates;
    session = session_names world.session;
    locals = typed_locals scope;
  }

  -- `from`: the range variable refers to each item of the source in turn
  abbrev pub bound : List ℕ → Ty → Scope R → Value R → Scope R
  bound name t scope v = record { name = name; ty = t; value = v } ∷ scope

  abbrev pub bound_stream : List ℕ → Ty → Scope R → Stream (Value R) → Stream (Scope R)
  bound_stream name t scope items = (map (bound name t scope) items.0, items.1)
