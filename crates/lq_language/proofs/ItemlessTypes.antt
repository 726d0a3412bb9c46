-- Types of which no value has items.
use Rattle.std.proofs.Common.{◌≡◌, ◌==◌, if◌then◌else◌, List, ℕ, Bool, true, false, Option, Some, None, ap, sym, refl, subst, option_and_then, option_map, slice_get, true≢false}
use Rattle.std.proofs.lemmas.Option.{none-some, same_Some}
use Rattle.lq_value.specs.declared.table.Column.{Column}
use Rattle.lq_value.specs.declared.table.ColumnType.{ColumnType}
use Rattle.lq_value.specs.declared.table.ColumnType.TheVariants as of
use Rattle.lq_value.specs.declared.table.Schema.{Schema}
use Rattle.lq_value.specs.declared.ty.Ty.{Ty, out-Ty}
use Rattle.lq_value.specs.declared.ty.Ty.TheOpen.{Ty-F}
use Rattle.lq_value.specs.declared.ty.Ty.TheVariants as ty
use Rattle.lq_value.specs.declared.ty.Ty.TheVariants.{outs-Bool, outs-Int, outs-IntN, outs-Null, outs-Row, outs-Seq, outs-Str}
use Rattle.lq_language.specs.Names.{column_named, column_type, type_of_column}
use Rattle.lq_language.specs.OperandTypes.{choice_type_of_layers, coalesced, is_number, item_of, number_type}

-- a type without items
abbrev pub HasNoItems : Ty → Type 0
HasNoItems t = item_of (out-Ty t) ≡ None

pub no_items_Int : HasNoItems ty.Int
no_items_Int = ap item_of outs-Int

pub no_items_IntN : HasNoItems ty.IntN
no_items_IntN = ap item_of outs-IntN

pub no_items_Bool : HasNoItems ty.Bool
no_items_Bool = ap item_of outs-Bool

pub no_items_Str : HasNoItems ty.Str
no_items_Str = ap item_of outs-Str

pub no_items_Null : HasNoItems ty.Null
no_items_Null = ap item_of outs-Null

pub no_items_Row : (n : ℕ) → HasNoItems (ty.Row n)
no_items_Row n = ap item_of (outs-Row n)

-- a type that is found has no items where the one that it is has none
pub has_none : (s t : Ty) → HasNoItems s → Some s ≡ Some t → HasNoItems t
has_none s t none h = subst HasNoItems (same_Some s t h) none

pub numbers_have_none : (layer : Ty-F Ty) → is_number layer ≡ true → item_of layer ≡ None
numbers_have_none Ty-F.Int h = refl
numbers_have_none Ty-F.IntN h = refl
numbers_have_none layer h = absurd (true≢false (sym h))

pub number_has_none : (s t : Ty-F Ty) → HasNoItems (number_type s t)
number_has_none Ty-F.Int Ty-F.Int = no_items_Int
number_has_none s t = no_items_IntN

pub coalesced_has_none : (s t : Ty-F Ty) (r : Ty) → coalesced s t ≡ Some r → HasNoItems r
coalesced_has_none Ty-F.IntN Ty-F.Int r h = has_none ty.Int r no_items_Int h
coalesced_has_none Ty-F.IntN Ty-F.IntN r h = has_none ty.IntN r no_items_IntN h
coalesced_has_none Ty-F.IntN Ty-F.Null r h = has_none ty.IntN r no_items_IntN h
coalesced_has_none Ty-F.Str Ty-F.Str r h = has_none ty.Str r no_items_Str h
coalesced_has_none Ty-F.Str Ty-F.Null r h = has_none ty.Str r no_items_Str h
coalesced_has_none s t r h = absurd (none-some r h)

row_has_none : (m : ℕ) (r : Ty) (b : Bool) → (if b then Some (ty.Row m) else None) ≡ Some r → HasNoItems r
row_has_none m r true h = has_none (ty.Row m) r (no_items_Row m) h
row_has_none m r false h = absurd (none-some r h)

pub chosen_has_none : (s t : Ty-F Ty) (r : Ty) → choice_type_of_layers s t ≡ Some r → HasNoItems r
chosen_has_none Ty-F.Int Ty-F.Int r h = has_none ty.Int r no_items_Int h
chosen_has_none Ty-F.Int Ty-F.IntN r h = has_none ty.IntN r no_items_IntN h
chosen_has_none Ty-F.IntN Ty-F.Int r h = has_none ty.IntN r no_items_IntN h
chosen_has_none Ty-F.IntN Ty-F.IntN r h = has_none ty.IntN r no_items_IntN h
chosen_has_none Ty-F.IntN Ty-F.Null r h = has_none ty.IntN r no_items_IntN h
chosen_has_none Ty-F.Null Ty-F.IntN r h = has_none ty.IntN r no_items_IntN h
chosen_has_none Ty-F.Bool Ty-F.Bool r h = has_none ty.Bool r no_items_Bool h
chosen_has_none Ty-F.Str Ty-F.Str r h = has_none ty.Str r no_items_Str h
chosen_has_none Ty-F.Str Ty-F.Null r h = has_none ty.Str r no_items_Str h
chosen_has_none Ty-F.Null Ty-F.Str r h = has_none ty.Str r no_items_Str h
chosen_has_none (Ty-F.Row m) (Ty-F.Row n) r h = row_has_none m r (m == n) h
chosen_has_none (Ty-F.Row n) Ty-F.Null r h = has_none (ty.Row n) r (no_items_Row n) h
chosen_has_none Ty-F.Null (Ty-F.Row n) r h = has_none (ty.Row n) r (no_items_Row n) h
chosen_has_none s t r h = absurd (none-some r h)

-- a column's type is a scalar's

cells_have_none : (c : ColumnType) → HasNoItems (type_of_column c)
cells_have_none of.Int = no_items_Int
cells_have_none of.IntN = no_items_IntN
cells_have_none of.Bool = no_items_Bool
cells_have_none of.Str = no_items_Str

column_has_none : (o : Option Column) (t : Ty) → option_map (λ column. type_of_column column.ty) o ≡ Some t → HasNoItems t
column_has_none None t h = absurd (none-some t h)
column_has_none (Some column) t h = has_none (type_of_column column.ty) t (cells_have_none column.ty) h

columns_have_none : (name : List ℕ) (o : Option Schema) (t : Ty)
    → option_and_then (λ schema. option_map (λ column. type_of_column column.ty) (column_named name schema.columns)) o ≡ Some t → HasNoItems t
columns_have_none name None t h = absurd (none-some t h)
columns_have_none name (Some schema) t h = column_has_none (column_named name schema.columns) t h

pub columns_are_scalars : (tables : List Schema) (n : ℕ) (name : List ℕ) (t : Ty) → column_type tables n name ≡ Some t → HasNoItems t
columns_are_scalars tables n name t h = columns_have_none name (slice_get tables n) t h
