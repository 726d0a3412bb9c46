-- Cells by the places of their columns, where no two columns of a table have the same name.
use Rattle.std.proofs.Common.{◌≡◌, not, List, [], ◌∷◌, map, ℕ, zero, suc, Bool, true, false, Option, Some, None, ap, ◌∙◌, sym, refl, subst, slice_get, true≢false}
use Rattle.std.specs.Prelude.{option_and_then, option_map, if◌then◌else◌}
use Rattle.std.specs.Str.{bytes_eq}
use Rattle.std.proofs.lemmas.Bool.{and_parts}
use Rattle.std.proofs.lemmas.Option.{none-some, same_Some}
use Rattle.std.proofs.lemmas.Slice.Eq.{bytes_eq-Decides}
use Rattle.lq_value.specs.declared.scalar.Scalar.{Scalar}
use Rattle.lq_value.specs.declared.table.Column.{Column}
use Rattle.lq_value.specs.declared.table.Schema.{Schema}
use Rattle.lq_machine.specs.Served.{columns_in}
use Rattle.lq_language.specs.TableRows.{cell_named}
use Rattle.lq_language.specs.Typing.{are_distinct, is_new}
use Rattle.lq_tree.specs.FormMeaning.{column_name, name_of_column}
use Rattle.lq_plan.specs.Worlds.{HaveDistinctColumns}

not_true : (b : Bool) → not b ≡ true → b ≡ false
not_true true h = absurd (true≢false (sym h))
not_true false h = refl

new_to : (n : List ℕ) (ns : List (List ℕ)) (k : ℕ) (name : List ℕ) → is_new n ns ≡ true → slice_get ns k ≡ Some name → bytes_eq n name ≡ false
new_to n [] k name new is = absurd (none-some name is)
new_to n (m ∷ ns) zero name new is =
    subst (λ z. bytes_eq n z ≡ false) (same_Some m name is) (not_true (bytes_eq n m) (and_parts (not (bytes_eq n m)) (is_new n ns) new).0)
new_to n (m ∷ ns) (suc k) name new is = new_to n ns k name (and_parts (not (bytes_eq n m)) (is_new n ns) new).1 is

itself : (n : List ℕ) → bytes_eq n n ≡ true
itself n = (bytes_eq-Decides n n).1 refl

-- the cell under a name is the one at its place
cell_at : (names : List (List ℕ)) (cells : List Scalar) (c : ℕ) (name : List ℕ) → are_distinct names ≡ true → slice_get names c ≡ Some name
    → cell_named names cells name ≡ slice_get cells c
cell_at [] cells c name distinct is = absurd (none-some name is)
cell_at (n ∷ ns) [] c name distinct is = refl
cell_at (n ∷ ns) (x ∷ xs) zero name distinct is =
    ap (λ (b : Bool). if b then Some x else cell_named ns xs name) (subst (λ z. bytes_eq n z ≡ true) (same_Some n name is) (itself n))
cell_at (n ∷ ns) (x ∷ xs) (suc c) name distinct is =
    let parts = and_parts (is_new n ns) (are_distinct ns) distinct in
    ap (λ (b : Bool). if b then Some x else cell_named ns xs name) (new_to n ns c name parts.0 is) ∙ cell_at ns xs c name parts.1 is

named_at : (columns : List Column) (c : ℕ) → option_map (λ (column : Column). column.name) (slice_get columns c) ≡ slice_get (map (λ (column : Column). column.name) columns) c
named_at [] c = refl
named_at (column ∷ columns) zero = refl
named_at (column ∷ columns) (suc c) = named_at columns c

abbrev name_in : ℕ → Option Schema → Option (List ℕ)
name_in c found = option_and_then (column_name c) found

found_by : (schemas : List Schema) (t c : ℕ) (name : List ℕ) (cells : List Scalar) (found : Option Schema) → HaveDistinctColumns schemas → slice_get schemas t ≡ found
    → name_of_column schemas t c ≡ Some name → cell_named (columns_in found) cells name ≡ slice_get cells c
found_by schemas t c name cells None distinct is named =
    absurd (none-some name (sym (ap (name_in c) is) ∙ named))
found_by schemas t c name cells (Some schema) distinct is named =
    cell_at (map (λ (column : Column). column.name) schema.columns) cells c name (distinct t schema is)
    (sym (named_at schema.columns c) ∙ sym (ap (name_in c) is) ∙ named)

pub cell_found : (schemas : List Schema) (t row c : ℕ) (name : List ℕ) (cells : List Scalar) → HaveDistinctColumns schemas → row ≡ t → name_of_column schemas t c ≡ Some name
    → cell_named (columns_in (slice_get schemas row)) cells name ≡ slice_get cells c
cell_found schemas t row c name cells distinct same named =
    ap (λ n. cell_named (columns_in (slice_get schemas n)) cells name) same ∙ found_by schemas t c name cells (slice_get schemas t) distinct refl named
