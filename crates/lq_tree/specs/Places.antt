-- The places of a tree: what each name in scope refers to there, and the form by which its value is reached.
use Rattle.std.specs.Prelude.{◌∷◌, ◌+◌, if◌then◌else◌, List, [], map, ℕ, Option, Some, None}
use Rattle.std.specs.Str.{bytes_eq}
use Rattle.lq_value.specs.declared.table.Schema.{Schema}
use Rattle.lq_value.specs.declared.ty.Ty.{Ty}
use Rattle.lq_language.specs.Operators.{Pattern, One, With}
use Rattle.lq_language.specs.Names.{Names, SessionName}
use Rattle.lq_language.specs.declared.host_name.HostName.{HostName}
use Rattle.lq_tree.specs.declared.tree.Form.{Form}
use Rattle.lq_tree.specs.declared.tree.Form.TheVariants as form

-- a local name with its type, and the form that reaches its value: a slot, or a part of the pairs in one
pub record Place : Type 0 where
  pub name : List ℕ
  pub ty : Ty
  pub form : Form

-- a name of the session, with the form that gives its value where so many slots are in use
pub record SessionPlace : Type 0 where
  pub known : SessionName
  pub form : ℕ → Form

-- the host predicates, by number, the names of the session, the local names, the innermost first, and how many slots are in use
pub record Places : Type 0 where
  pub predicates : List HostName
  pub session : List SessionPlace
  pub locals : List Place
  pub depth : ℕ

-- the place of the session's name
abbrev pub session_place : List ℕ → List SessionPlace → Option SessionPlace
session_place name [] = None
session_place name (place ∷ places) = if bytes_eq place.known.name name then Some place else session_place name places

-- the local name's place
abbrev pub place_of : List ℕ → List Place → Option Place
place_of name [] = None
place_of name (place ∷ places) = if bytes_eq place.name name then Some place else place_of name places

-- the names that typing sees
abbrev pub names_of_places : List Schema → Places → Names
names_of_places schemas places =
    record {
      tables = schemas;
      predicates = places.predicates;
      session = map (λ place. place.known) places.session;
      locals = map (λ place. (place.name, place.ty)) places.locals;
    }

-- the places of an item's names, in front of those around it: this form reaches the item, which is a nested pair
abbrev pub places_of : Pattern → Form → List Place → List Place
places_of (One n t) item places = record { name = n; ty = t; form = item } ∷ places
places_of (With p n t) item places = record { name = n; ty = t; form = form.Second item } ∷ places_of p (form.First item) places

-- one slot more, which holds an item
abbrev pub with_item : Places → Pattern → Places
with_item places p = record {
  predicates = places.predicates;
  session = places.session;
  locals = places_of p (form.Slot places.depth) places.locals;
  depth = places.depth + 1;
}

-- one slot more, which holds the value of one name
abbrev pub with_name : Places → List ℕ → Ty → Places
with_name places n t = with_item places (One n t)
