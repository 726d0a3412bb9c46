-- The row of a table that has a number, from the table's rows.
use Rattle.std.proofs.Common.{◌≡◌, ◌∙◌, ◌==◌, List, ℕ, Option, Some, None, ap, sym, option_map, option_and_then, slice_get}
use Rattle.std.specs.Prelude.{find}
use Rattle.std.proofs.lemmas.Option.{none-some, same_Some}
use Rattle.lq_value.specs.Tables.{Table}
use Rattle.lq_value.specs.declared.table.Row.{Row}
use Rattle.lq_audit.specs.Disclosure.{row_numbered}

found_in : (number : ℕ) (rows : List Row) (o : Option Table) → option_map (λ t. t.rows) o ≡ Some rows
    → find (λ row. row.number == number) rows ≡ option_and_then (λ t. find (λ row. row.number == number) t.rows) o
found_in number rows None is = absurd (none-some rows is)
found_in number rows (Some t) is = ap (find (λ row. row.number == number)) (sym (same_Some t.rows rows is))

pub row_there : (tables : List Table) (table number : ℕ) (rows : List Row) (found : Option Row) → option_map (λ t. t.rows) (slice_get tables table) ≡ Some rows
    → found ≡ find (λ row. row.number == number) rows → found ≡ row_numbered tables table number
row_there tables table number rows found is same = same ∙ found_in number rows (slice_get tables table) is
