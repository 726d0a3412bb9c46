-- Host predicates as queries name them: which predicate a name refers to, and the columns of a row that it is asked of.
use Rattle.std.specs.Prelude.{◌==◌, ◌&&◌, if◌then◌else◌, List, ℕ, Bool, false, Option, Some, None, is_some, slice_get, option_and_then, option_map}
use Rattle.lq_value.specs.Tables.{first_named}
use Rattle.lq_value.specs.declared.table.Schema.{Schema}
use Rattle.lq_value.specs.declared.ty.Ty.{Ty, out-Ty}
use Rattle.lq_value.specs.declared.ty.Ty.TheOpen.{Ty-F}
use Rattle.lq_host.specs.declared.call.Pick.{Pick}
use Rattle.lq_host.specs.declared.call.Pick.TheVariants as numbers
use Rattle.lq_language.specs.Names.{Names, column_number, column_type}
use Rattle.lq_language.specs.OperandTypes.{is_int, truth_type}
use Rattle.lq_language.specs.declared.host_name.HostName.{HostName}
use Rattle.lq_grammar.specs.declared.syntax.Picked.{Picked}
use Rattle.lq_grammar.specs.declared.syntax.Picked.TheVariants as picked

-- ---- predicates

-- how many columns there are
abbrev pub count_of : Picked → ℕ
count_of (picked.One c) = 1
count_of (picked.Two c d) = 2

-- whether there is a predicate, which takes so many arguments
abbrev pub takes : ℕ → Option HostName → Bool
takes count None = false
takes count (Some host) = host.arguments == count

abbrev pub if_taking : List HostName → ℕ → ℕ → Option ℕ
if_taking known count p = if takes count (slice_get known p) then Some p else None

-- the number of the predicate of this name, if it takes as many arguments as there are columns
abbrev pub predicate_number : List HostName → List ℕ → Picked → Option ℕ
predicate_number known name columns = option_and_then (if_taking known (count_of columns)) (first_named (λ host. host.name) name known)

-- ---- columns

-- the numbers of these columns
abbrev pub column_numbers : Option Schema → Picked → Option Pick
column_numbers table (picked.One c) = option_map numbers.One (column_number c table)
column_numbers table (picked.Two c d) = option_and_then (λ n. option_map (numbers.Two n) (column_number d table)) (column_number c table)

abbrev pub is_int_type : Option Ty → Bool
is_int_type None = false
is_int_type (Some t) = is_int (out-Ty t)

-- whether the table with this number has these columns, with an int in each cell
abbrev pub are_int_columns : List Schema → ℕ → Picked → Bool
are_int_columns tables t (picked.One c) = is_int_type (column_type tables t c)
are_int_columns tables t (picked.Two c d) = is_int_type (column_type tables t c) && is_int_type (column_type tables t d)

-- ---- types

-- whether what has this type is a row with such columns
abbrev pub layer_has_ints : List Schema → Picked → Ty-F Ty → Bool
layer_has_ints tables columns (Ty-F.Row t) = are_int_columns tables t columns
layer_has_ints tables columns layer = false

abbrev pub has_ints : List Schema → Picked → Option Ty → Bool
has_ints tables columns None = false
has_ints tables columns (Some row) = layer_has_ints tables columns (out-Ty row)

-- the type of the answer of a predicate that is asked of columns of what has this type
abbrev pub host_type : Names → List ℕ → Picked → Option Ty → Option Ty
host_type names p columns row = truth_type (is_some (predicate_number names.predicates p columns) && has_ints names.tables columns row)
