-- What `.names` shows.
use Rattle.std.specs.Prelude.{◌∷◌, List, [], ℕ, Option, Some, None, codes, map}
use Rattle.lq_value.specs.declared.ty.Ty.{Ty}
use Rattle.lq_machine.specs.States.{State, schemas_of}
use Rattle.lq_machine.specs.declared.session.Defined.{Defined}
use Rattle.lq_machine.specs.declared.session.Defined.TheVariants as of
use Rattle.lq_machine.specs.declared.session.Definition.{Definition}
use Rattle.lq_render.specs.Grids.{grid}
use Rattle.lq_render.specs.Types.{type_text}
use Rattle.lq_render.specs.declared.grid.Cell.{Cell}
use Rattle.lq_machine.specs.ServedTypes.{line_type}
use Rattle.lq_prompt.specs.Grids.{joined, word}

abbrev pub stands_for : Defined → List ℕ
stands_for (of.Variable t value) = codes "variable"
stands_for (of.Query x opened) = codes "query"

-- the type by which a name would be served
abbrev pub type_or_none : State → Option Ty → List ℕ
type_or_none s None = codes "none"
type_or_none s (Some ty) = type_text (schemas_of s.tables) ty

abbrev pub type_of_name : State → List ℕ → List ℕ
type_of_name s name = type_or_none s (line_type s (joined (codes "run " ∷ name ∷ codes ";" ∷ [])))

abbrev pub name_row : State → Definition → List Cell
name_row s definition = word definition.name ∷ word (stands_for definition.defined) ∷ word (type_of_name s definition.name) ∷ []

abbrev pub names_text : State → List ℕ
names_text s = grid [] (codes "name" ∷ codes "kind" ∷ codes "type" ∷ []) (map (name_row s) s.definitions)
