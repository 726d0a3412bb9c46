-- The tables of a store have columns of different names.
use Rattle.std.proofs.Common.{◌≡◌, ◌&&◌, ◌||◌, ◌∙◌, ◌∷◌, not, List, [], map, ℕ, zero, suc, Bool, true, false, ap, refl, subst, sym}
use Rattle.std.specs.List.{list_all, list_any}
use Rattle.std.specs.Str.{bytes_eq}
use Rattle.std.proofs.lemmas.Bool.{and_parts}
use Rattle.std.proofs.lemmas.Option.{none-some, same_Some}
use Rattle.std.specs.Prelude.{nat_le, length}
use Rattle.lq_value.specs.Tables.{Table}
use Rattle.lq_value.specs.declared.table.Column.{Column}
use Rattle.lq_value.specs.declared.table.Schema.{Schema}
use Rattle.lq_store.specs.Rules.{IsTable, is_fair_range, keeps_rules}
use Rattle.lq_store.specs.Rules.{are_distinct as keep_distinct}
use Rattle.lq_language.specs.ValuesOfTypes.{Every}
use Rattle.lq_machine.specs.States.{schemas_of}
use Rattle.lq_language.specs.Typing.{are_distinct, is_new}
use Rattle.lq_plan.specs.Worlds.{HaveDistinctColumns, schemas_in}
use Rattle.lq_plan.specs.declared.tables.TableRows.{TableRows}
use Rattle.lq_pull.specs.declared.readers.Reader.{Reader}

both_true : (a b : Bool) → a ≡ true → b ≡ true → (a && b) ≡ true
both_true a b first second = ap (λ x. x && b) first ∙ second

neither : (a x y : Bool) → x ≡ not y → (not a && x) ≡ not (a || y)
neither true x y same = refl
neither false x y same = same

new_is : (n : List ℕ) (ns : List (List ℕ)) → is_new n ns ≡ not (list_any (bytes_eq n) ns)
new_is n [] = refl
new_is n (m ∷ ns) = neither (bytes_eq n m) (is_new n ns) (list_any (bytes_eq n) ns) (new_is n ns)

distinct : (names : List (List ℕ)) → keep_distinct names ≡ true → are_distinct names ≡ true
distinct [] kept = refl
distinct (n ∷ ns) kept =
    let parts = and_parts (not (list_any (bytes_eq n) ns)) (keep_distinct ns) kept in
    both_true (is_new n ns) (are_distinct ns) (new_is n ns ∙ parts.0) (distinct ns parts.1)

every_mapped : {A B : Type 0} (Q : B → Type 0) (f : A → B) (xs : List A) → Every (λ x. Q (f x)) xs → Every Q (map f xs)
every_mapped Q f [] h k y is = absurd (none-some y is)
every_mapped Q f (x ∷ xs) h zero y is = subst Q (same_Some (f x) y is) (h zero x refl)
every_mapped Q f (x ∷ xs) h (suc k) y is = every_mapped Q f xs (λ j z e. h (suc j) z e) k y is

abbrev Distinct : Schema → Type 0
Distinct schema = are_distinct (map (λ (column : Column). column.name) schema.columns) ≡ true

schema_distinct : (schema : Schema) → keeps_rules schema ≡ true → Distinct schema
schema_distinct schema kept =
    let many = nat_le 1 (length schema.columns) && nat_le (length schema.columns) 100 in
    let names = map (λ (column : Column). column.name) schema.columns in
    let fair = list_all (λ (column : Column). is_fair_range column.ty column.range) schema.columns in
    distinct names (and_parts many (keep_distinct names) (and_parts (many && keep_distinct names) fair kept).0).1

-- so have those with the rows that are seen
pub seen_distinct : (store : List Table) (tables : List (TableRows Reader)) → schemas_in tables ≡ schemas_of store → Every IsTable store
    → HaveDistinctColumns (schemas_in tables)
seen_distinct store tables same kept =
    subst (Every Distinct) (sym same)
    (every_mapped Distinct (λ (t : Table). t.schema) store (λ k table is. schema_distinct table.schema (kept k table is).rules))
