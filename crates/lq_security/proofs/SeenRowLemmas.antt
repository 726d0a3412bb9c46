-- Proofs of the laws of what a rule reads of a row, and of tables as seen.
use Rattle.std.proofs.Common.{◌≡◌, ◌≢◌, ◌↔◌, ◌+◌, if◌then◌else◌, ◌∷◌, List, [], ℕ, suc, zero, Bool, true, false, Some, filter, length, map, slice_get, bytes_eq, ap, ◌∙◌, sym, refl, subst, inl, inr, arith}
use Rattle.std.proofs.lemmas.Bool.{cases_Bool}
use Rattle.std.proofs.lemmas.Option.{none-some, same_Some}
use Rattle.std.proofs.lemmas.Slice.Eq.{bytes_eq-Decides}
use Rattle.lq_value.specs.Tables.{Table}
use Rattle.lq_value.specs.declared.scalar.Scalar.{Scalar}
use Rattle.lq_value.specs.declared.table.Row.{Row}
use Rattle.lq_value.specs.declared.table.Schema.{Schema}
use Rattle.lq_language.proofs.ItemLaws.{first_of, others_of}
use Rattle.lq_security.proofs.ReadPolicies.{tells_visible}
use Rattle.lq_language.specs.ValuesOfTypes.{Every}
use Rattle.lq_security.specs.RuleLaws.{IsRowOver}
use Rattle.lq_security.specs.PolicyLaws.{FindsCells, Filters, end, keeps, drops, SeesEachTable, SeesVisibleRows}
use Rattle.lq_language.specs.TableRows.{cell_named}
use Rattle.lq_security.specs.Visible.{HasCell, IsVisible, seen_from, seen_rows, tables_as_seen, visible_to}
use Rattle.lq_security.specs.declared.policy.Action.TheVariants as action
use Rattle.lq_security.specs.declared.policy.PolicyParts.{PolicyParts}

-- ---- cells by their names

cell_where_found : (columns : List (List ℕ)) (cells : List Scalar) (name : List ℕ) (cell : Scalar) → cell_named columns cells name ≡ Some cell → HasCell columns cells name cell
cell_where_found [] cells name cell h = absurd (cc)
cell_where_found (column ∷ columns) [] name cell h = absurd (cc)
cell_where_found (column ∷ columns) (c ∷ cells) name cell h = by (bytes_eq column name) refl (cell_where_found columns cells name cell) h where
  later : column ≢ name → HasCell columns cells name cell → HasCell (column ∷ columns) (c ∷ cells) name cell
  later other has = record {
    place = suc has.place;
    column = has.column;
    under = has.under;
    first = elim [
      | zero ↦ λ is. absurd (other (same_Some _ _ is))
      | suc earlier ↦ λ is. let le = has.first earlier is in omega (arith, le)
    ];
  }

  by : (same : Bool) → bytes_eq column name ≡ same → (cell_named columns cells name ≡ Some cell → HasCell columns cells name cell)
      → (if same then Some c else cell_named columns cells name) ≡ Some cell → HasCell (column ∷ columns) (c ∷ cells) name cell
  by true same rest is = record { place = zero; column = ap Some ((bytes_eq-Decides column name).0 same); under = is; first = λ earlier here. omega arith }
  by false differs rest is = later (λ e. let same : bytes_eq column name ≡ true = (bytes_eq-Decides column name).1 e in absurd (cc)) (rest is)

found_where_cell : (columns : List (List ℕ)) (cells : List Scalar) (name : List ℕ) (cell : Scalar) → HasCell columns cells name cell → cell_named columns cells name ≡ Some cell
found_where_cell [] cells name cell has = absurd (none-some name has.column)
found_where_cell (column ∷ columns) [] name cell has = absurd (none-some cell has.under)
found_where_cell (column ∷ columns) (c ∷ cells) name cell has = by has.place refl (found_where_cell columns cells name cell) where
  rest : (place : ℕ) → has.place ≡ suc place → HasCell columns cells name cell
  rest place is = record {
    place = place;
    column = ap (slice_get (column ∷ columns)) (sym is) ∙ has.column;
    under = ap (slice_get (c ∷ cells)) (sym is) ∙ has.under;
    first = λ earlier here. let le = has.first (suc earlier) here in omega (arith, le, is);
  }

  by : (place : ℕ) → has.place ≡ place → (HasCell columns cells name cell → cell_named columns cells name ≡ Some cell) → cell_named (column ∷ columns) (c ∷ cells) name ≡ Some cell
  by zero is found =
      let here : column ≡ name = same_Some _ _ (ap (slice_get (column ∷ columns)) (sym is) ∙ has.column) in
      rw ((bytes_eq-Decides column name).1 here) (ap (slice_get (c ∷ cells)) (sym is) ∙ has.under)
  by (suc place) is found =
      elim (cases_Bool (bytes_eq column name)) [
        | inl same ↦ absurd (let le = has.first zero (ap Some ((bytes_eq-Decides column name).0 same)) in omega (arith, le, is))
        | inr differs ↦ rw differs (found (rest place is))
      ]

pub finds_cells : FindsCells
finds_cells columns cells name cell = (cell_where_found columns cells name cell, found_where_cell columns cells name cell)

-- ---- tables as seen

filtered : {A : Type 0} (Given Fact : A → Type 0) (test : A → Bool) → ((x : A) → Given x → (test x ≡ true) ↔ Fact x) → (xs : List A) → Every Given xs → Filters Fact xs (filter test xs)
filtered Given Fact test tells [] given = end
filtered Given Fact test tells (x ∷ xs) given = by (test x) refl (filtered Given Fact test tells xs (others_of Given x xs given)) where
  by : (b : Bool) → test x ≡ b → Filters Fact xs (filter test xs) → Filters Fact (x ∷ xs) (if b then x ∷ filter test xs else filter test xs)
  by true is rest = keeps ((tells x (first_of Given x xs given)).0 is) rest
  by false isnt rest = drops (λ fact. let is : test x ≡ true = (tells x (first_of Given x xs given)).1 fact in absurd (cc)) rest

seen_at : (parts : PolicyParts) (role first number : ℕ) (tables : List Table) (table : Table) → slice_get tables number ≡ Some table
    → slice_get (seen_from parts role first tables) number ≡ Some (seen_rows parts role (first + number) table.rows)
seen_at parts role first number [] table is = absurd (cc)
seen_at parts role first zero (t ∷ tables) table is =
    ap (λ (u : Table). Some (seen_rows parts role first u.rows)) (same_Some _ _ is) ∙ ap (λ (n : ℕ). Some (seen_rows parts role n table.rows)) (omega arith)
seen_at parts role first (suc number) (t ∷ tables) table is =
    seen_at parts role (first + 1) number tables table is ∙ ap (λ (n : ℕ). Some (seen_rows parts role n table.rows)) (omega arith)

-- the schema at the place of a table
schema_at : (tables : List Table) (number : ℕ) (table : Table) → slice_get tables number ≡ Some table → slice_get (map (λ t. t.schema) tables) number ≡ Some table.schema
schema_at [] number table is = absurd (cc)
schema_at (t ∷ tables) zero table is = ap (λ (u : Table). Some u.schema) (same_Some _ _ is)
schema_at (t ∷ tables) (suc number) table is = schema_at tables number table is

pub sees_visible_rows : SeesVisibleRows
unfolding tables_as_seen
sees_visible_rows parts role number tables table read is rows = (
  seen_rows parts role number table.rows,
  seen_at parts role 0 number tables table is ∙ ap (λ (n : ℕ). Some (seen_rows parts role n table.rows)) (omega arith),
  record {
    rows = filter (λ row. visible_to parts role action.Select number row.cells) table.rows;
    numbered = refl;
    visible = filtered (λ row. IsRowOver table.schema.columns row.cells) (λ row. IsVisible schemas parts role action.Select number row.cells) (λ row. visible_to parts role action.Select number row.cells) tells table.rows rows;
  },
) where
  schemas : List Schema
  schemas = map (λ t. t.schema) tables

  tells : (row : Row) → IsRowOver table.schema.columns row.cells → (visible_to parts role action.Select number row.cells ≡ true) ↔ IsVisible schemas parts role action.Select number row.cells
  tells row fits =
      tells_visible schemas parts read role action.Select number row.cells
      (λ schema at. subst (λ (s : Schema). IsRowOver s.columns row.cells) (same_Some _ _ (sym (schema_at tables number table is) ∙ at)) fits)

as_many : (parts : PolicyParts) (role first : ℕ) (tables : List Table) → length (seen_from parts role first tables) ≡ length tables
as_many parts role first [] = refl
as_many parts role first (t ∷ tables) = ap (λ (n : ℕ). suc n) (as_many parts role (first + 1) tables)

pub sees_each_table : SeesEachTable
unfolding tables_as_seen
sees_each_table parts role tables = as_many parts role 0 tables
