-- What the values of a TOML tree are read as: None where a value has another shape.
use Rattle.std.specs.Prelude.{◌∷◌, ◌&&◌, if◌then◌else◌, List, [], ℕ, Bool, true, Option, Some, None, option_and_then, option_map}
use Rattle.std.specs.List.{list_any}
use Rattle.std.specs.Str.{bytes_eq}
use Rattle.toml.specs.Data.{Data, Items, no_items, item, Members, no_members, member, as_array, as_str, get_member}

module _ {A : Type 0} (read : Data → Option A) where
  -- each item of an array, in order
  abbrev pub each : Items → Option (List A)
  each no_items = Some []
  each (item d ds) = option_and_then (λ x. option_map (λ xs. x ∷ xs) (each ds)) (read d)

  abbrev pub array_of : Data → Option (List A)
  array_of d = option_and_then each (as_array d)

  -- the value of a key, which has to be there
  abbrev pub required : List ℕ → Members → Option A
  required key ms = option_and_then read (get_member key ms)

  abbrev pub if_there : A → Option Data → Option A
  if_there default None = Some default
  if_there default (Some d) = read d

  -- the value of a key, or this one where the key is absent
  abbrev pub optional : A → List ℕ → Members → Option A
  optional default key ms = if_there default (get_member key ms)

-- a value that passes a test
abbrev pub passing : {A : Type 0} → (A → Bool) → Option A → Option A
passing test None = None
passing test (Some x) = if test x then Some x else None

-- an array of texts
abbrev pub texts : Data → Option (List (List ℕ))
texts = array_of as_str

-- a text that is one of some words
abbrev pub by_text : {A : Type 0} → (List ℕ → Option A) → Data → Option A
by_text read d = option_and_then read (as_str d)

-- the keys are only these
abbrev pub has_only : List (List ℕ) → Members → Bool
has_only keys no_members = true
has_only keys (member key d ms) = list_any (bytes_eq key) keys && has_only keys ms
