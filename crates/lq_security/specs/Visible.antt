-- «Visible» and «Tables as seen»: which rows a role may see (PostgreSQL, CREATE POLICY).
use Rattle.std.specs.Prelude.{◌≡◌, ◌+◌, ◌∷◌, ◌==◌, ◌&&◌, ◌||◌, not, if◌then◌else◌, ◌≤◌, ◌<◌, ◌≢◌, ◌++◌, length, flat_map, List, [], map, filter, ℕ, Bool, true, false, Option, Some, None, Result, Ok, Err, codes, slice_get}
use Rattle.std.specs.List.{Contains, list_any, list_all, slice_index_or}
use Rattle.std.specs.Str.{bytes_eq}
use Rattle.lq_value.specs.Tables.{Table}
use Rattle.lq_value.specs.declared.scalar.Scalar.{Scalar}
use Rattle.lq_value.specs.declared.scalar.Scalar.TheVariants as scalar
use Rattle.lq_value.specs.declared.table.Column.{Column}
use Rattle.lq_value.specs.declared.table.Row.{Row}
use Rattle.lq_value.specs.declared.table.Schema.{Schema}
use Rattle.lq_value.specs.declared.ty.Ty.TheVariants as ty
use Rattle.lq_value.specs.declared.value.Value.TheVariants as value
use Rattle.lq_value.specs.declared.value.Fault.{Fault}
use Rattle.lq_value.specs.declared.value.Fault.TheVariants as fault
use Rattle.lq_language.specs.TableRows.{TableRow, cell_named}
use Rattle.lq_language.specs.Worlds.{Binding, Scope, World}
use Rattle.lq_language.specs.RuleMeaning.{rule_truth}
use Rattle.lq_language.specs.Meaning.{expression_meaning}
use Rattle.lq_security.specs.declared.policy.Action.{Action}
use Rattle.lq_security.specs.declared.policy.Action.TheVariants as action
use Rattle.lq_security.specs.declared.policy.Policy.{Policy}
use Rattle.lq_security.specs.declared.policy.PolicyParts.{PolicyParts}
use Rattle.lq_security.specs.declared.policy.Role.{Role}
use Rattle.lq_security.specs.declared.policy.TablePart.{TablePart}
use Rattle.lq_grammar.specs.declared.syntax.Expr.{Expr}

-- ---- rules

-- a rule reads the cells of the row at hand, and no table, and asks no host predicate; one without a meaning faults, and so is not true
abbrev pub rule_world : List (List ℕ) → World (List Scalar)
rule_world columns = record { schemas = []; rows = []; predicates = []; session = []; cell = cell_named columns; table = λ cells. 0; unknown = fault.NullReference }

-- the names of a rule: `row`, of the one table that a rule is about, and `user`, which is the name of the role
abbrev pub rule_scope : List Scalar → List ℕ → Scope (List Scalar)
rule_scope cells user =
    record { name = codes "row"; ty = ty.Row 0; value = value.Row cells } ∷ record { name = codes "user"; ty = ty.Str; value = value.Scalar (scalar.Text user) } ∷ []

abbrev pub is_true : Result Bool Fault → Bool
is_true (Ok b) = b
is_true (Err f) = false

-- whether a rule is true on a row of a table for a role
abbrev pub rule_holds : List (List ℕ) → Expr → List Scalar → List ℕ → Bool
rule_holds columns rule cells user = is_true (rule_truth (rule_world columns) rule (rule_scope cells user))

-- ---- roles

-- The roles that a role has, by their numbers: itself, and those that it is a member of, by any chain. Each is a member of
-- roles that come before it; `earlier` holds the roles that those have.
abbrev pub goes_by_after : List (List ℕ) → Role → List ℕ
goes_by_after earlier role = length earlier ∷ flat_map (λ other. slice_index_or earlier other []) role.member_of

abbrev pub memberships_after : List (List ℕ) → List Role → List (List ℕ)
memberships_after earlier [] = earlier
memberships_after earlier (role ∷ roles) = memberships_after (earlier ++ goes_by_after earlier role ∷ []) roles

unfoldable pub goes_by : List Role → ℕ → List ℕ
goes_by roles role = slice_index_or (memberships_after [] roles) role []

abbrev pub is_named : List ℕ → Option Role → Bool
is_named name None = false
is_named name (Some role) = bytes_eq role.name name

-- a list has `public`, or the name of a role that the role has
abbrev pub is_listed : List Role → ℕ → List (List ℕ) → Bool
is_listed roles role to = list_any (λ name. bytes_eq name (codes "public") || list_any (λ n. is_named name (slice_get roles n)) (goes_by roles role)) to

-- ---- policies

abbrev pub is_same_action : Action → Action → Bool
is_same_action action.Select action.Select = true
is_same_action action.Insert action.Insert = true
is_same_action action.Delete action.Delete = true
is_same_action a b = false

-- a policy applies to a role's action on a table
abbrev pub applies : List Role → ℕ → Action → ℕ → Policy → Bool
applies roles role act table policy =
    (policy.table == table) && (policy.for_all || is_same_action policy.action act) && is_listed roles role policy.to

-- the policies that apply, in their order
abbrev pub applying : PolicyParts → ℕ → Action → ℕ → List Policy
applying parts role act table = filter (applies parts.roles role act table) parts.policies

-- a policy's rule for an action: a new row is checked, by the same rule as others where there is none of its own
abbrev pub check_or_using : Option Expr → Option Expr → Option Expr
check_or_using None using = using
check_or_using (Some check) using = Some check

abbrev pub rule_for : Action → Policy → Option Expr
rule_for action.Insert policy = check_or_using policy.check policy.using
rule_for act policy = policy.using

-- a row of a table as rules read it, and the name of the role that asks for it
pub record RowForUser : Type 0 where
  pub user : List ℕ
  pub columns : List (List ℕ)
  pub cells : List Scalar

-- where there is no rule, none holds
abbrev pub holds_on : RowForUser → Option Expr → Bool
holds_on asked None = false
holds_on asked (Some rule) = rule_holds asked.columns rule asked.cells asked.user

-- a permissive policy whose rule is true on the row
abbrev pub permits : Action → RowForUser → Policy → Bool
permits act asked policy = not policy.restrictive && holds_on asked (rule_for act policy)

-- not a restrictive policy whose rule isn't true on the row
abbrev pub allows : Action → RowForUser → Policy → Bool
allows act asked policy = not policy.restrictive || holds_on asked (rule_for act policy)

-- of the policies that apply, some one permits the row, and each one allows it
abbrev pub admit : Action → List Policy → RowForUser → Bool
admit act policies asked = list_any (permits act asked) policies && list_all (allows act asked) policies

abbrev pub admitted_by : PolicyParts → ℕ → ℕ → RowForUser → Action → Bool
admitted_by parts role table asked act = admit act (applying parts role act table) asked

-- who removes a row has to be able to read it, too
abbrev pub admitted_for : PolicyParts → ℕ → Action → ℕ → RowForUser → Bool
admitted_for parts role action.Delete table asked = admitted_by parts role table asked action.Select && admitted_by parts role table asked action.Delete
admitted_for parts role act table asked = admitted_by parts role table asked act

-- a role that bypasses row security is admitted to every row, and one that the policies don't have to none
abbrev pub admitted_to : PolicyParts → ℕ → Action → ℕ → List (List ℕ) → List Scalar → Option Role → Bool
admitted_to parts role act table columns cells None = false
admitted_to parts role act table columns cells (Some asking) =
    asking.bypass || admitted_for parts role act table (record { user = asking.name; columns = columns; cells = cells })

-- every row of a table without row security is visible, and none of a table that the policies don't know
abbrev pub is_admitted : PolicyParts → ℕ → Action → ℕ → List Scalar → Option TablePart → Bool
is_admitted parts role act table cells None = false
is_admitted parts role act table cells (Some part) = not part.secured || admitted_to parts role act table part.columns cells (slice_get parts.roles role)

-- «Visible»: whether a role may do this with the row of a table that has these cells
unfoldable pub visible_to : PolicyParts → ℕ → Action → ℕ → List Scalar → Bool
visible_to parts role act table cells = is_admitted parts role act table cells (slice_get parts.tables table)

-- ---- the name of the rule that refuses a new row

-- the first policy that doesn't allow the row
abbrev pub first_refusing : RowForUser → List Policy → Option (List ℕ)
first_refusing asked [] = None
first_refusing asked (policy ∷ policies) = if allows action.Insert asked policy then first_refusing asked policies else Some policy.name

-- where no policy permits the row, it is refused by default
abbrev pub refuser_among : List Policy → RowForUser → Option (List ℕ)
refuser_among policies asked = if list_any (permits action.Insert asked) policies then first_refusing asked policies else Some (codes "default-deny")

abbrev pub refuser_for : PolicyParts → ℕ → ℕ → List (List ℕ) → List Scalar → Option Role → Option (List ℕ)
refuser_for parts role table columns cells None = Some (codes "default-deny")
refuser_for parts role table columns cells (Some asking) =
    if asking.bypass then None else refuser_among (applying parts role action.Insert table) (record { user = asking.name; columns = columns; cells = cells })

abbrev pub refuser_in : PolicyParts → ℕ → ℕ → List Scalar → Option TablePart → Option (List ℕ)
refuser_in parts role table cells None = Some (codes "default-deny")
refuser_in parts role table cells (Some part) = if part.secured then refuser_for parts role table part.columns cells (slice_get parts.roles role) else None

-- the name of the rule that refuses a new row with these cells; None where the row may be put in
unfoldable pub refuser_of : PolicyParts → ℕ → ℕ → List Scalar → Option (List ℕ)
refuser_of parts role table cells = refuser_in parts role table cells (slice_get parts.tables table)

-- ---- the same as relations, in the words of CREATE POLICY

-- The first column of this name has this cell under it.
pub record HasCell (columns : List (List ℕ)) (cells : List Scalar) (name : List ℕ) (cell : Scalar) : Type 0 where
  pub place : ℕ
  pub column : slice_get columns place ≡ Some name
  pub under : slice_get cells place ≡ Some cell
  pub first : (earlier : ℕ) → slice_get columns earlier ≡ Some name → place ≤ earlier

-- What the names of a rule are in the language: `row` is the row, of the one table that the rule is about, and `user` is the name of
-- the role.
abbrev pub language_scope : List Scalar → List ℕ → Scope (List Scalar)
language_scope cells user =
    let row : Binding (List Scalar) = record { name = codes "row"; ty = ty.Row 0; value = value.Row cells } in
    let name : Binding (List Scalar) = record { name = codes "user"; ty = ty.Str; value = value.Scalar (scalar.Text user) } in
    row ∷ name ∷ []

-- A rule is true on a row of a table with these columns, by the meaning of the language. It reads no other row.
abbrev pub IsTrueOn : List Column → RowForUser → Expr → Type 0
IsTrueOn columns asked rule =
    let schema : Schema = record { name = []; columns = columns } in
    let world : World (List Scalar) = record {
      schemas = schema ∷ [];
      rows = [] ∷ [];
      predicates = [];
      session = [];
      cell = cell_named asked.columns;
      table = λ cells. 0;
      unknown = fault.NullReference;
    } in
    expression_meaning world rule (language_scope asked.cells asked.user) ≡ Ok (value.Scalar (scalar.Bool true))

-- A role has itself, and whatever roles a role that it is a member of has. It is a member of roles that come before it.
pub data GoesBy (roles : List Role) : ℕ → ℕ → Type 0 where
  itself : {role : ℕ} → role < length roles → GoesBy roles role role
  member : {role group other : ℕ} (its : Role) → slice_get roles role ≡ Some its → Contains its.member_of group → group < role
      → GoesBy roles group other → GoesBy roles role other

-- A list has `public`, or the name of a role that the role has.
pub data IsListed (roles : List Role) (role : ℕ) (to : List (List ℕ)) : Type 0 where
  all : Contains to (codes "public") → IsListed roles role to
  named : (number : ℕ) (other : Role) → GoesBy roles role number → slice_get roles number ≡ Some other → Contains to other.name → IsListed roles role to

-- A policy is for an action: for every one, or for this.
pub data IsFor (act : Action) (policy : Policy) : Type 0 where
  every : policy.for_all ≡ true → IsFor act policy
  this : policy.action ≡ act → IsFor act policy

-- A policy applies to a role's action on a table.
pub record Applies (roles : List Role) (role : ℕ) (act : Action) (table : ℕ) (policy : Policy) : Type 0 where
  pub on_table : policy.table ≡ table
  pub for_action : IsFor act policy
  pub to_role : IsListed roles role policy.to

-- A policy's rule for an action: USING for rows that are there, CHECK for a row that is put in, and USING for that, too, where
-- there is no CHECK.
pub data HasRule (act : Action) (policy : Policy) (rule : Expr) : Type 0 where
  using : act ≢ action.Insert → policy.using ≡ Some rule → HasRule act policy rule
  check : act ≡ action.Insert → policy.check ≡ Some rule → HasRule act policy rule
  using_for_check : act ≡ action.Insert → policy.check ≡ None → policy.using ≡ Some rule → HasRule act policy rule

-- A policy's rule for an action is true on a row.
pub record IsSatisfied (columns : List Column) (act : Action) (asked : RowForUser) (policy : Policy) : Type 0 where
  pub rule : Expr
  pub has : HasRule act policy rule
  pub true_on : IsTrueOn columns asked rule

-- Some permissive policy that applies is true on the row, and every restrictive one that applies is.
pub record IsAdmitted (columns : List Column) (parts : PolicyParts) (role : ℕ) (act : Action) (table : ℕ) (asked : RowForUser) : Type 0 where
  pub permitting : Policy
  pub among : Contains parts.policies permitting
  pub permissive : permitting.restrictive ≡ false
  pub applying : Applies parts.roles role act table permitting
  pub permitted : IsSatisfied columns act asked permitting
  pub unrestricted : (policy : Policy) → Contains parts.policies policy → policy.restrictive ≡ true → Applies parts.roles role act table policy
      → IsSatisfied columns act asked policy

-- The policies admit a role to an action on a row. A row that is removed has to be one that may be read, too.
pub data Admits (columns : List Column) (parts : PolicyParts) (role : ℕ) (table : ℕ) (asked : RowForUser) : Action → Type 0 where
  read : IsAdmitted columns parts role action.Select table asked → Admits columns parts role table asked action.Select
  put_in : IsAdmitted columns parts role action.Insert table asked → Admits columns parts role table asked action.Insert
  removed : IsAdmitted columns parts role action.Select table asked → IsAdmitted columns parts role action.Delete table asked
      → Admits columns parts role table asked action.Delete

-- A role may act on a row of one of these tables where the table's row security is off; where the role bypasses row security; or where
-- the policies admit it.
pub data IsVisible (schemas : List Schema) (parts : PolicyParts) (role : ℕ) (act : Action) (table : ℕ) (cells : List Scalar) : Type 0 where
  unsecured : (part : TablePart) → slice_get parts.tables table ≡ Some part → part.secured ≡ false → IsVisible schemas parts role act table cells
  bypassing : (part : TablePart) (asking : Role) → slice_get parts.tables table ≡ Some part → slice_get parts.roles role ≡ Some asking
      → asking.bypass ≡ true → IsVisible schemas parts role act table cells
  admitted : (part : TablePart) (asking : Role) (schema : Schema) → slice_get parts.tables table ≡ Some part
      → slice_get parts.roles role ≡ Some asking → slice_get schemas table ≡ Some schema
      → Admits schema.columns parts role table (record { user = asking.name; columns = part.columns; cells = cells }) act
      → IsVisible schemas parts role act table cells

-- No permissive policy that applies to putting in a row is true on it.
abbrev pub IsUnpermitted : List Column → PolicyParts → ℕ → ℕ → RowForUser → Type 0
IsUnpermitted columns parts role table asked =
    (policy : Policy) → Contains parts.policies policy → policy.restrictive ≡ false → Applies parts.roles role action.Insert table policy
    → IsSatisfied columns action.Insert asked policy → ⊥

-- A restrictive policy that applies to putting in a row isn't true on it, and is the first such policy.
pub record IsFirstRefusing (columns : List Column) (parts : PolicyParts) (role : ℕ) (table : ℕ) (asked : RowForUser) (refusing : Policy) : Type 0 where
  pub front : List Policy
  pub rest : List Policy
  pub split : parts.policies ≡ front ++ refusing ∷ rest
  pub restrictive : refusing.restrictive ≡ true
  pub applying : Applies parts.roles role action.Insert table refusing
  pub unsatisfied : IsSatisfied columns action.Insert asked refusing → ⊥
  pub first : (policy : Policy) → Contains front policy → policy.restrictive ≡ true → Applies parts.roles role action.Insert table policy
      → IsSatisfied columns action.Insert asked policy

-- A new row is refused under this name: by default, where no permissive policy is true on it; else by the first restrictive one
-- that isn't.
pub data IsRefusedBy (columns : List Column) (parts : PolicyParts) (role : ℕ) (table : ℕ) (asked : RowForUser) : List ℕ → Type 0 where
  default : IsUnpermitted columns parts role table asked → IsRefusedBy columns parts role table asked (codes "default-deny")
  restriction : (permitting : Policy) → Contains parts.policies permitting → permitting.restrictive ≡ false
      → Applies parts.roles role action.Insert table permitting → IsSatisfied columns action.Insert asked permitting
      → (refusing : Policy) → IsFirstRefusing columns parts role table asked refusing → IsRefusedBy columns parts role table asked refusing.name

-- ---- tables

-- the rows of a table that a role may see, in order of number
abbrev pub seen_rows : PolicyParts → ℕ → ℕ → List Row → List TableRow
seen_rows parts role table rows = map (λ row. record { table = table; row = row }) (filter (λ row. visible_to parts role action.Select table row.cells) rows)

abbrev pub seen_from : PolicyParts → ℕ → ℕ → List Table → List (List TableRow)
seen_from parts role number [] = []
seen_from parts role number (table ∷ tables) = seen_rows parts role number table.rows ∷ seen_from parts role (number + 1) tables

-- «Tables as seen»: for each table, by number, the rows visible to a role
unfoldable pub tables_as_seen : PolicyParts → ℕ → List Table → List (List TableRow)
tables_as_seen parts role tables = seen_from parts role 0 tables
