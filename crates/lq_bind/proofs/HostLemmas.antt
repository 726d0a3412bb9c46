-- The columns that a host predicate is asked of: the type of a column's cells is that at its place.
use Rattle.std.proofs.Common.{◌≡◌, List, ℕ, Option, Some, None, ap, ◌∙◌, refl, sym, bytes_eq, option_and_then, option_map, slice_get}
use Rattle.lq_value.specs.Tables.{first_named}
use Rattle.lq_value.specs.declared.table.Column.{Column}
use Rattle.lq_value.specs.declared.table.ColumnType.{ColumnType}
use Rattle.lq_value.specs.declared.table.ColumnType.TheVariants as column
use Rattle.lq_value.specs.declared.ty.Ty.TheVariants.{outs-Bool, outs-Int, outs-IntN, outs-Str}
use Rattle.lq_language.specs.HostNames.{is_int_type}
use Rattle.lq_language.specs.Names.{column_named, type_of_column}
use Rattle.lq_language.specs.OperandTypes.{is_int}
use Rattle.lq_tree.proofs.TypeLaws.{column_first, first_position, get_at}
use Rattle.lq_bind.specs.Hosts.{holds_ints}

-- a column that is found by its name is at its place
cells_at : (columns : List Column) (o : Option ℕ)
    → option_map (λ (d : Column). d.ty) (get_at columns o) ≡ option_and_then (λ n. option_map (λ (d : Column). d.ty) (slice_get columns n)) o
cells_at columns None = refl
cells_at columns (Some n) = refl

pub cells_typed : (name : List ℕ) (columns : List Column) → option_map (λ (d : Column). d.ty) (column_named name columns)
    ≡ option_and_then (λ n. option_map (λ (d : Column). d.ty) (slice_get columns n)) (first_named (λ (d : Column). d.name) name columns)
cells_typed name columns =
    ap (option_map (λ (d : Column). d.ty)) (sym (first_position (λ (d : Column). bytes_eq d.name name) columns ∙ column_first name columns))
    ∙ cells_at columns (first_named (λ (d : Column). d.name) name columns)

-- whether a column's cells are ints
ints_of : (t : ColumnType) → is_int_type (Some (type_of_column t)) ≡ holds_ints (Some t)
ints_of column.Int = ap is_int outs-Int
ints_of column.IntN = ap is_int outs-IntN
ints_of column.Bool = ap is_int outs-Bool
ints_of column.Str = ap is_int outs-Str

pub ints_typed : (o : Option Column) → is_int_type (option_map (λ (d : Column). type_of_column d.ty) o) ≡ holds_ints (option_map (λ (d : Column). d.ty) o)
ints_typed None = refl
ints_typed (Some d) = ints_of d.ty

pub ruleset columns = (cells_typed, ints_typed)
