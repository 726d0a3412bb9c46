-- Laws of the policies: which rows are visible, in the words of CREATE POLICY.
use Rattle.std.specs.Prelude.{◌≡◌, ◌↔◌, ◌∷◌, ◌++◌, List, [], ℕ, map, length, true, false, Some, None, slice_get}
use Rattle.std.specs.List.{Contains}
use Rattle.lq_value.specs.Tables.{Table}
use Rattle.lq_value.specs.declared.scalar.Scalar.{Scalar}
use Rattle.lq_value.specs.declared.table.Row.{Row}
use Rattle.lq_value.specs.declared.table.Schema.{Schema}
use Rattle.lq_language.specs.ValuesOfTypes.{Every}
use Rattle.lq_security.specs.RuleLaws.{AreCellsOf, AreReadFor, IsRowOver}
use Rattle.lq_language.specs.TableRows.{TableRow, cell_named}
use Rattle.lq_security.specs.Visible.{Applies, GoesBy, HasCell, IsRefusedBy, IsVisible, goes_by, refuser_of, tables_as_seen, visible_to}
use Rattle.lq_security.specs.declared.policy.Action.{Action}
use Rattle.lq_security.specs.declared.policy.Action.TheVariants as action
use Rattle.lq_security.specs.declared.policy.Policy.{Policy}
use Rattle.lq_security.specs.declared.policy.PolicyParts.{PolicyParts}
use Rattle.lq_security.specs.declared.policy.Role.{Role}
use Rattle.lq_security.specs.declared.policy.TablePart.{TablePart}

-- ---- roles

-- the function gives exactly the roles that a role has
abbrev pub TellsMemberships : Type 0
TellsMemberships = (roles : List Role) (role other : ℕ) → Contains (goes_by roles role) other ↔ GoesBy roles role other

-- ---- visible rows

-- under policies that were read for the tables, the function gives exactly the rows that are visible
abbrev pub TellsVisible : Type 0
TellsVisible =
    (schemas : List Schema) (parts : PolicyParts) → AreReadFor schemas parts
    → (role : ℕ) (act : Action) (table : ℕ) (cells : List Scalar) → AreCellsOf schemas table cells
    → (visible_to parts role act table cells ≡ true) ↔ IsVisible schemas parts role act table cells

-- a rule reads the cell under the first column of a name
abbrev pub FindsCells : Type 0
FindsCells = (columns : List (List ℕ)) (cells : List Scalar) (name : List ℕ) (cell : Scalar) → (cell_named columns cells name ≡ Some cell) ↔ HasCell columns cells name cell

-- The second list has those items of the first of which the fact holds, in their order.
pub data Filters {A : Type 0} (Fact : A → Type 0) : List A → List A → Type 0 where
  end : Filters Fact [] []
  keeps : {x : A} {xs ys : List A} → Fact x → Filters Fact xs ys → Filters Fact (x ∷ xs) (x ∷ ys)
  drops : {x : A} {xs ys : List A} → (Fact x → ⊥) → Filters Fact xs ys → Filters Fact (x ∷ xs) ys

-- The rows seen of a table are its visible rows, in order, each with the table's number.
pub record SeesVisible (schemas : List Schema) (parts : PolicyParts) (role number : ℕ) (table : Table) (seen : List TableRow) : Type 0 where
  pub rows : List Row
  pub numbered : seen ≡ map (λ row. record { table = number; row = row }) rows
  pub visible : Filters (λ row. IsVisible schemas parts role action.Select number row.cells) table.rows rows

-- under policies that were read for the tables, these as seen have the visible rows of each table, and there are as many
abbrev pub SeesVisibleRows : Type 0
SeesVisibleRows =
    (parts : PolicyParts) (role number : ℕ) (tables : List Table) (table : Table)
    → AreReadFor (map (λ t. t.schema) tables) parts
    → slice_get tables number ≡ Some table → Every (λ row. IsRowOver table.schema.columns row.cells) table.rows
    → (seen : List TableRow) × (slice_get (tables_as_seen parts role tables) number ≡ Some seen)
    × SeesVisible (map (λ t. t.schema) tables) parts role number table seen

abbrev pub SeesEachTable : Type 0
SeesEachTable = (parts : PolicyParts) (role : ℕ) (tables : List Table) → length (tables_as_seen parts role tables) ≡ length tables

-- ---- new rows

-- under policies that were read for the tables, a new row has no refuser exactly where the role may put it in
abbrev pub AcceptsVisible : Type 0
AcceptsVisible =
    (schemas : List Schema) (parts : PolicyParts) → AreReadFor schemas parts
    → (role table : ℕ) (cells : List Scalar) → AreCellsOf schemas table cells
    → (refuser_of parts role table cells ≡ None) ↔ IsVisible schemas parts role action.Insert table cells

-- where row security is on and the role doesn't bypass it, a new row is refused under exactly the name that the policies give
abbrev pub TellsRefuser : Type 0
TellsRefuser =
    (schemas : List Schema) (parts : PolicyParts) → AreReadFor schemas parts
    → (role table : ℕ) (schema : Schema) (part : TablePart) (asking : Role)
    → slice_get schemas table ≡ Some schema → slice_get parts.tables table ≡ Some part → part.secured ≡ true
    → slice_get parts.roles role ≡ Some asking → asking.bypass ≡ false
    → (cells : List Scalar) → IsRowOver schema.columns cells → (name : List ℕ)
    → (refuser_of parts role table cells ≡ Some name)
    ↔ IsRefusedBy schema.columns parts role table (record { user = asking.name; columns = part.columns; cells = cells }) name

-- ---- what follows for whoever writes policies

-- no permissive policy applies to this role's action on the table
abbrev pub LacksPermission : PolicyParts → ℕ → Action → ℕ → Type 0
LacksPermission parts role act table =
    (policy : Policy) → Contains parts.policies policy → policy.restrictive ≡ false → Applies parts.roles role act table policy → ⊥

-- where row security is on, a role that doesn't bypass it may act on no row of a table without a permissive policy that applies
abbrev pub IsDeniedByDefault : Type 0
IsDeniedByDefault =
    (parts : PolicyParts) (role : ℕ) (act : Action) (table : ℕ) (part : TablePart) (asking : Role) → slice_get parts.tables table ≡ Some part → part.secured ≡ true
    → slice_get parts.roles role ≡ Some asking → asking.bypass ≡ false → LacksPermission parts role act table
    → (cells : List Scalar) → visible_to parts role act table cells ≡ false

-- where row security is on, a role that the policies don't have may act on no row
abbrev pub IsDeniedToStrangers : Type 0
IsDeniedToStrangers =
    (parts : PolicyParts) (role : ℕ) (act : Action) (table : ℕ) (part : TablePart) → slice_get parts.tables table ≡ Some part → part.secured ≡ true
    → ((asking : Role) → slice_get parts.roles role ≡ Some asking → ⊥) → (cells : List Scalar) → visible_to parts role act table cells ≡ false

-- where row security is off, everyone may act on every row
abbrev pub IsOpenWithoutSecurity : Type 0
IsOpenWithoutSecurity =
    (parts : PolicyParts) (role : ℕ) (act : Action) (table : ℕ) (part : TablePart) → slice_get parts.tables table ≡ Some part → part.secured ≡ false
    → (cells : List Scalar) → visible_to parts role act table cells ≡ true

-- a role that bypasses row security may act on every row
abbrev pub IsOpenToBypass : Type 0
IsOpenToBypass =
    (parts : PolicyParts) (role : ℕ) (act : Action) (table : ℕ) (part : TablePart) (asking : Role) → slice_get parts.tables table ≡ Some part
    → slice_get parts.roles role ≡ Some asking → asking.bypass ≡ true → (cells : List Scalar) → visible_to parts role act table cells ≡ true

-- a row that may be removed may be read
abbrev pub ReadsWhatItRemoves : Type 0
ReadsWhatItRemoves =
    (parts : PolicyParts) (role table : ℕ) (cells : List Scalar) → visible_to parts role action.Delete table cells ≡ true → visible_to parts role action.Select table cells ≡ true

-- The second has one policy more than the first, somewhere among the others.
pub record HasOneMore (fewer more : PolicyParts) (policy : Policy) : Type 0 where
  pub front : List Policy
  pub rest : List Policy
  pub roles : more.roles ≡ fewer.roles
  pub tables : more.tables ≡ fewer.tables
  pub without : fewer.policies ≡ front ++ rest
  pub within : more.policies ≡ front ++ policy ∷ rest

-- a row that is visible under one more restrictive policy is visible without it
abbrev pub NarrowsByRestriction : Type 0
NarrowsByRestriction =
    (fewer more : PolicyParts) (policy : Policy) → HasOneMore fewer more policy → policy.restrictive ≡ true → (role : ℕ) (act : Action) (table : ℕ) (cells : List Scalar)
    → visible_to more role act table cells ≡ true → visible_to fewer role act table cells ≡ true

-- a row that is visible stays visible under one more permissive policy
abbrev pub WidensByPermission : Type 0
WidensByPermission =
    (fewer more : PolicyParts) (policy : Policy) → HasOneMore fewer more policy → policy.restrictive ≡ false → (role : ℕ) (act : Action) (table : ℕ) (cells : List Scalar)
    → visible_to fewer role act table cells ≡ true → visible_to more role act table cells ≡ true
