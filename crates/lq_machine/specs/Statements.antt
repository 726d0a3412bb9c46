-- What statements other than `run` are answered, and the state after them. What is refused or denied, or faults, leaves the state.
use Rattle.std.specs.Prelude.{◌∷◌, ◌++◌, ◌+◌, ◌^◌, ◌==◌, ◌&&◌, ◌||◌, if◌then◌else◌, not, List, [], filter, map, length, ℕ, Bool, true, false, Option, Some, None, Result, Ok, Err, codes, int_le, is_some, set, slice_get, ℤ}
use Rattle.std.specs.List.{list_all, list_any, zip}
use Rattle.std.specs.Str.{bytes_eq}
use Rattle.serde_json.specs.Data.{Data}
use Rattle.lq_value.specs.Tables.{Table, first_named}
use Rattle.lq_value.specs.declared.scalar.Scalar.{Scalar}
use Rattle.lq_value.specs.declared.scalar.Scalar.TheVariants as scalar
use Rattle.lq_value.specs.declared.table.Column.{Column}
use Rattle.lq_value.specs.declared.table.ColumnType.{ColumnType}
use Rattle.lq_value.specs.declared.table.ColumnType.TheVariants as column
use Rattle.lq_value.specs.declared.table.Row.{Row}
use Rattle.lq_value.specs.declared.ty.Ty.{Ty, out-Ty}
use Rattle.lq_value.specs.declared.ty.Ty.TheOpen.{Ty-F}
use Rattle.lq_value.specs.declared.ty.Ty.TheVariants as ty
use Rattle.lq_value.specs.declared.value.End.{End}
use Rattle.lq_value.specs.declared.value.End.TheVariants as end
use Rattle.lq_value.specs.declared.value.Fault.{Fault}
use Rattle.lq_value.specs.declared.value.Value.{Value, out-Value}
use Rattle.lq_value.specs.declared.value.Value.TheOpen.{Value-F}
use Rattle.lq_value.specs.declared.value.Value.TheVariants as value
use Rattle.lq_language.specs.ClauseTyping.{expression_type}
use Rattle.lq_machine.specs.Definitions.{definition_of}
use Rattle.lq_language.specs.Worlds.{bound}
use Rattle.lq_language.specs.ClauseMeaning.{condition_at}
use Rattle.lq_security.specs.Rights.{Denied, denial}
use Rattle.lq_machine.specs.Served.{assigned_data, defined_data, deleted_data, denied_data, error_data, fault_data, inserted_data, role_data}
use Rattle.lq_machine.specs.States.{State, host_names, names_in, schemas_of, world_in}
use Rattle.lq_language.specs.Stream.{Stream, where_by}
use Rattle.lq_language.specs.Names.{table_number, with_local}
use Rattle.lq_language.specs.OperandTypes.{is_bool_type, is_scalar}
use Rattle.lq_language.specs.Mentions.{uses_of}
use Rattle.lq_language.specs.Uses.{expression_uses}
use Rattle.lq_language.specs.TableRows.{TableRow}
use Rattle.lq_security.specs.Visible.{refuser_of, visible_to}
use Rattle.lq_language.specs.Meaning.{expression_meaning}
use Rattle.lq_language.specs.Typing.{converts}
use Rattle.lq_security.specs.declared.policy.Action.TheVariants as action
use Rattle.lq_language.specs.declared.rights.Use.{Use}
use Rattle.lq_language.specs.declared.rights.Use.TheVariants as used
use Rattle.lq_machine.specs.declared.session.Defined.{Defined}
use Rattle.lq_machine.specs.declared.session.Defined.TheVariants as of
use Rattle.lq_machine.specs.declared.session.Definition.{Definition}
use Rattle.lq_machine.specs.declared.session.Opened.{Opened}
use Rattle.lq_grammar.specs.declared.syntax.Expr.{Expr}

-- a reply, and the state after it
abbrev pub Outcome : Type 0
Outcome = Data × State

-- whether a name is taken by a table, a variable or a named query
abbrev pub is_taken : State → List ℕ → Bool
is_taken s name = is_some (table_number name (schemas_of s.tables)) || is_some (definition_of name s.definitions)

module _ (old : State) where
  abbrev pub refused : List ℕ → Outcome
  refused word = (error_data word, old)

  abbrev pub faulted : Fault → Outcome
  faulted f = (fault_data f, old)

  -- the first of these uses that is denied, or what comes where none is
  abbrev pub allowed_by : Option Denied → Outcome → Outcome
  allowed_by None next = next
  allowed_by (Some denied) next = (denied_data (schemas_of old.tables) (host_names old) denied.rule denied.used, old)

  abbrev pub if_allowed : List Use → Outcome → Outcome
  if_allowed uses next = allowed_by (denial old.policies old.role uses) next

  -- ---- `var`, and assignments

  abbrev pub with_scalar : (Scalar → Outcome) → Value-F TableRow (Value TableRow) → Outcome
  with_scalar next (Value-F.Scalar s) = next s
  with_scalar next layer = refused (codes "type")

  abbrev pub with_value : (Scalar → Outcome) → Result (Value TableRow) Fault → Outcome
  with_value next (Ok v) = with_scalar next (out-Value TableRow v)
  with_value next (Err f) = faulted f

  -- an expression of a scalar's type is evaluated now; its uses are those of its text, as nothing is served
  abbrev pub evaluated : Expr → (Scalar → Outcome) → Outcome
  evaluated e next = if_allowed (uses_of (expression_uses e (names_in old))) (with_value next (expression_meaning (world_in old) e []))

  -- the state with one more definition
  abbrev pub defining_also : List ℕ → Defined → State
  defining_also name defined = record old { definitions = old.definitions ++ (record { name = name; defined = defined }) ∷ [] }

  -- a sequence is stored as its expression, and a scalar as its value; no other value is stored
  abbrev pub defined_as : List ℕ → Opened → Expr → Ty → Ty-F Ty → Outcome
  defined_as name opened e t (Ty-F.Seq item) = (defined_data name, defining_also name (of.Query e opened))
  defined_as name opened e t layer =
      if is_scalar layer then evaluated e (λ s. (defined_data name, defining_also name (of.Variable t s))) else refused (codes "type")

  abbrev pub defined_by : List ℕ → Opened → Expr → Option Ty → Outcome
  defined_by name opened e None = refused (codes "type")
  defined_by name opened e (Some t) = defined_as name opened e t (out-Ty t)

  unfoldable pub defined : List ℕ → Opened → Expr → Outcome
  defined name opened e = if is_taken old name then refused (codes "type") else defined_by name opened e (expression_type e (names_in old))

  -- a variable's new value
  abbrev pub renewed : List ℕ → Ty → Scalar → Definition → Definition
  renewed name t s d = if bytes_eq d.name name then record { name = name; defined = of.Variable t s } else d

  abbrev pub assigning : List ℕ → Ty → Scalar → State
  assigning name t s = record old { definitions = map (renewed name t s) old.definitions }

  -- null is allowed here, and an int in an int?
  abbrev pub assigned_as : List ℕ → Expr → Ty → Option Ty → Outcome
  assigned_as name e t None = refused (codes "type")
  assigned_as name e t (Some u) = if converts u t then evaluated e (λ s. (assigned_data name, assigning name t s)) else refused (codes "type")

  abbrev pub assigned_to : List ℕ → Expr → Defined → Outcome
  assigned_to name e (of.Variable t s) = assigned_as name e t (expression_type e (names_in old))
  assigned_to name e (of.Query query opened) = refused (codes "type")

  abbrev pub assigned_by : List ℕ → Expr → Option Definition → Outcome
  assigned_by name e None = refused (codes "type")
  assigned_by name e (Some d) = assigned_to name e d.defined

  unfoldable pub assigned : List ℕ → Expr → Outcome
  assigned name e = assigned_by name e (definition_of name old.definitions)

  -- ---- `as`

  abbrev pub under_role : List ℕ → Option ℕ → Outcome
  under_role name None = refused (codes "role")
  under_role name (Some role) = (role_data name, record old { role = role })

  unfoldable pub taking_role : List ℕ → Outcome
  taking_role name = under_role name (first_named (λ role. role.name) name old.policies.roles)

  -- ---- changed tables

  abbrev pub with_table : ℕ → Table → State
  with_table n table = record old { tables = set old.tables n table }

  -- ---- `insert`

  -- whether a literal converts to a column's type
  abbrev pub is_of_column : ColumnType → Scalar → Bool
  is_of_column column.Int (scalar.Int n) = true
  is_of_column column.IntN (scalar.Int n) = true
  is_of_column column.IntN scalar.Null = true
  is_of_column column.Bool (scalar.Bool b) = true
  is_of_column column.Str (scalar.Text t) = true
  is_of_column column.Str scalar.Null = true
  is_of_column t s = false

  -- whether a number is within the range of its column
  abbrev pub is_within_range : Option (ℤ × ℤ) → Scalar → Bool
  is_within_range (Some range) (scalar.Int n) = int_le range.0 n && int_le n range.1
  is_within_range range s = true

  -- one literal a column, of its type
  abbrev pub are_of_columns : List Column → List Scalar → Bool
  are_of_columns columns cells = (length columns == length cells) && list_all (λ pair. is_of_column pair.0.ty pair.1) (zip columns cells)

  abbrev pub are_within_ranges : List Column → List Scalar → Bool
  are_within_ranges columns cells = list_all (λ pair. is_within_range pair.0.range pair.1) (zip columns cells)

  -- the row gets the table's next number
  abbrev pub with_row : Table → List Scalar → Table
  with_row table cells = record table { rows = table.rows ++ (record { number = table.next; cells = cells }) ∷ []; next = table.next + 1 }

  abbrev pub row_put_in : ℕ → Table → List Scalar → Outcome
  row_put_in n table cells = if table.next == 2 ^ 64 then refused (codes "full") else (inserted_data, with_table n (with_row table cells))

  -- a rule that refuses the row denies it, as a missing right would
  abbrev pub row_checked : ℕ → Table → List Scalar → Option (List ℕ) → Outcome
  row_checked n table cells None = row_put_in n table cells
  row_checked n table cells (Some rule) = (denied_data (schemas_of old.tables) (host_names old) rule (used.Insert n), old)

  abbrev pub row_within : ℕ → Table → List Scalar → Outcome
  row_within n table cells =
      if are_within_ranges table.schema.columns cells then row_checked n table cells (refuser_of old.policies old.role n cells) else refused (codes "cell")

  abbrev pub row_for : List Scalar → ℕ → Option Table → Outcome
  row_for cells n None = refused (codes "type")
  row_for cells n (Some table) =
      if are_of_columns table.schema.columns cells then if_allowed (used.Insert n ∷ []) (row_within n table cells) else refused (codes "type")

  abbrev pub row_for_named : List Scalar → Option ℕ → Outcome
  row_for_named cells None = refused (codes "type")
  row_for_named cells (Some n) = row_for cells n (slice_get old.tables n)

  unfoldable pub inserted : List ℕ → List Scalar → Outcome
  inserted name cells = row_for_named cells (table_number name (schemas_of old.tables))

  -- ---- `delete`

  -- the rows that the role may remove, in order of number
  abbrev pub removable : ℕ → List Row → List TableRow
  removable n rows = map (λ row. record { table = n; row = row }) (filter (λ row. visible_to old.policies old.role action.Delete n row.cells) rows)

  -- those of them on which the condition is true, up to its first fault; what it queries is as it was before
  abbrev pub removed_items : List ℕ → Expr → ℕ → List Row → Stream TableRow
  removed_items x condition n rows =
      where_by (λ r. condition_at (world_in old) expression_type (expression_meaning (world_in old)) condition (bound x (ty.Row n) [] (value.Row r)))
      (removable n rows) end.Done

  abbrev pub without : List TableRow → Table → Table
  without gone table = record table { rows = filter (λ row. not (list_any (λ r. r.row.number == row.number) gone)) table.rows }

  -- a fault removes nothing
  abbrev pub rows_removed : ℕ → Table → List TableRow → End → Outcome
  rows_removed n table gone end.Done = (deleted_data (length gone), with_table n (without gone table))
  rows_removed n table gone (end.Fault f) = faulted f

  abbrev pub rows_of : List ℕ → Expr → ℕ → Option Table → Outcome
  rows_of x condition n None = refused (codes "type")
  rows_of x condition n (Some table) =
      let names = with_local (names_in old) x (ty.Row n) in
      let gone = removed_items x condition n table.rows in
      if is_bool_type (expression_type condition names)
      then if_allowed (used.Delete n ∷ uses_of (expression_uses condition names)) (rows_removed n table gone.0 gone.1)
      else refused (codes "type")

  abbrev pub rows_of_named : List ℕ → Expr → Option ℕ → Outcome
  rows_of_named x condition None = refused (codes "type")
  rows_of_named x condition (Some n) = rows_of x condition n (slice_get old.tables n)

  unfoldable pub deleted : List ℕ → List ℕ → Expr → Outcome
  deleted name x condition = rows_of_named x condition (table_number name (schemas_of old.tables))
