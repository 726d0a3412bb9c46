-- What a form needs rights to, and what a reply shows besides what a statement names.
use Rattle.std.specs.Prelude.{◌++◌, List, [], Bool, true, false}
use Rattle.lq_value.specs.declared.table.Schema.{Schema}
use Rattle.lq_value.specs.declared.ty.Ty.{Ty}
use Rattle.lq_language.specs.Mentions.{uses_of}
use Rattle.lq_language.specs.Uses.{shown_columns}
use Rattle.lq_language.specs.declared.rights.Use.{Use}
use Rattle.lq_tree.specs.UsesOfForms.{form_uses}
use Rattle.lq_tree.specs.declared.tree.Joined.{Joined}
use Rattle.lq_tree.specs.declared.tree.Form.{Form}

-- what a form uses, each of which takes a right
unfoldable pub form_rights : Form → List Use
form_rights f = uses_of (form_uses f)

-- the columns of a served type; nothing of one that isn't served
abbrev pub uses_served : Bool → List Schema → Ty → List Use
uses_served true schemas t = shown_columns schemas t
uses_served false schemas t = []

-- both sources and keys of a join, and what comes of each match
abbrev pub join_uses : Joined Form → List Use
join_uses j = form_rights j.inner ++ (form_rights j.outer_key ++ (form_rights j.inner_key ++ form_rights j.result))
