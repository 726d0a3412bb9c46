-- What people read of a reply's line.
use Rattle.std.specs.Prelude.{◌++◌, ◌-◌, ◌==◌, ◌&&◌, List, ℕ, Option, Some, None, bytes_eq, codes, if◌then◌else◌, length, option_and_then, option_map, slice_index, take, unwrap_or}
use Rattle.serde_json.specs.Data.{Data, Members, member, no_members, number, object, string}
use Rattle.serde_json.specs.Find.{as_str, as_u64}
use Rattle.serde_json.specs.Read.{read}
use Rattle.serde_json.specs.Written.{has_float}
use Rattle.lq_render.specs.Layouts.{Shape}
use Rattle.lq_render.specs.Parts.{items_in}
use Rattle.lq_render.specs.Sentences.{assigned_text, defined_text, deleted_text, denied_text, ending_text, error_text, fault_text, inserted_text, role_text}

-- ---- replies of one member

-- a reply that names what was defined, assigned or taken
abbrev pub done_reply : List ℕ → List ℕ → Option (List ℕ)
done_reply name text =
    if bytes_eq name (codes "defined") then Some (defined_text text)
    else if bytes_eq name (codes "assigned") then Some (assigned_text text)
    else if bytes_eq name (codes "role") then Some (role_text text)
    else None

-- a reply whose member is a text
abbrev pub word_reply : List ℕ → List ℕ → Option (List ℕ)
word_reply name text =
    if bytes_eq name (codes "fault") then Some (fault_text text)
    else if bytes_eq name (codes "error") then Some (error_text text)
    else done_reply name text

-- a reply whose member is a count
abbrev pub count_reply : List ℕ → ℕ → Option (List ℕ)
count_reply name n =
    if bytes_eq name (codes "inserted") then Some (inserted_text n)
    else if bytes_eq name (codes "deleted") then Some (deleted_text n)
    else None

-- a reply whose member is a text or a count
abbrev pub plain_reply : List ℕ → Data → Option (List ℕ)
plain_reply name (string text) = word_reply name text
plain_reply name (number n) = option_and_then (count_reply name) (as_u64 n)
plain_reply name d = None

abbrev pub sole_reply : Shape → List ℕ → Data → Option (List ℕ)
sole_reply shape name d =
    if bytes_eq name (codes "items") then option_map shape.items (items_in d)
    else if bytes_eq name (codes "value") then Some (shape.value d)
    else plain_reply name d

-- ---- replies of two members

abbrev pub denial : Option (List ℕ) → Option (List ℕ) → Option (List ℕ)
denial (Some rule) (Some used) = Some (denied_text rule used)
denial rule used = None

-- items before a fault
abbrev pub items_and_fault : Shape → Option (List ℕ) → Option (List Data) → Option (List ℕ)
items_and_fault shape (Some fault) (Some items) = Some (shape.items items ++ ending_text fault)
items_and_fault shape fault items = None

abbrev pub pair_reply : Shape → List ℕ × Data → List ℕ × Data → Option (List ℕ)
pair_reply shape first second =
    if bytes_eq first.0 (codes "denied") && bytes_eq second.0 (codes "use") then denial (as_str first.1) (as_str second.1)
    else if bytes_eq first.0 (codes "fault") && bytes_eq second.0 (codes "items") then items_and_fault shape (as_str first.1) (items_in second.1)
    else None

-- ---- lines

-- by the members of a reply, which are in the order of their names
abbrev pub members_reply : Shape → Members → Option (List ℕ)
members_reply shape (member name d no_members) = sole_reply shape name d
members_reply shape (member name d (member other e no_members)) = pair_reply shape (name, d) (other, e)
members_reply shape ms = None

-- the text of a reply; none of what is no reply
abbrev pub text_of_reply : Shape → Data → Option (List ℕ)
text_of_reply shape (object ms) = members_reply shape ms
text_of_reply shape d = None

-- no reply has a float in it
abbrev pub without_floats : Data → Option Data
without_floats d = if has_float d then None else Some d

-- the text of a line, given without its line feed; what is no reply is shown as it is
abbrev pub line_text : Shape → List ℕ → List ℕ
line_text shape text =
    unwrap_or (option_and_then (text_of_reply shape) (option_and_then without_floats (read text))) (text ++ codes "\n")

-- what is shown of bytes that are no UTF-8
abbrev pub bytes_text : List ℕ
bytes_text = codes "the reply is no text in UTF-8\n"

-- a line without the line feed at its end
abbrev pub front_of : List ℕ → List ℕ
front_of line = if slice_index line (length line - 1) == 10 then take (length line - 1) line else line
