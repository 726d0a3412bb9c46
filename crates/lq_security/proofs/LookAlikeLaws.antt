-- States that look the same to their role, and what statements make of them.
use Rattle.std.proofs.Common.{◌≡◌, ◌∷◌, ◌++◌, ◌+◌, if◌then◌else◌, List, [], filter, map, ℕ, zero, suc, Bool, true, false, not, Option, Some, None, ap, ◌∙◌, sym, refl, arith, option_map, set, slice_get}
use Rattle.std.proofs.lemmas.Bool.{and_parts}
use Rattle.std.proofs.lemmas.List.{map-append}
use Rattle.std.proofs.lemmas.List.Elements.{filter-append}
use Rattle.lq_value.specs.Tables.{Table}
use Rattle.lq_value.specs.declared.scalar.Scalar.{Scalar}
use Rattle.lq_value.specs.declared.table.Row.{Row}
use Rattle.lq_language.specs.TableRows.{TableRow}
use Rattle.lq_security.specs.Visible.{is_admitted, admitted_for, admitted_to, seen_from, seen_rows, tables_as_seen, visible_to}
use Rattle.lq_security.specs.declared.policy.Action.TheVariants as action
use Rattle.lq_security.specs.declared.policy.PolicyParts.{PolicyParts}
use Rattle.lq_security.specs.declared.policy.Role.{Role}
use Rattle.lq_security.specs.declared.policy.TablePart.{TablePart}
use Rattle.std.specs.Prelude.{◌||◌}

-- ---- lists with an item changed

pub map_set : {A B : Type 0} (f : A → B) (xs : List A) (n : ℕ) (x : A) → map f (set xs n x) ≡ set (map f xs) n (f x)
map_set f [] n x = refl
map_set f (y ∷ ys) zero x = refl
map_set f (y ∷ ys) (suc n) x = ap (λ more. f y ∷ more) (map_set f ys n x)

-- ---- tables as seen

module _ (parts : PolicyParts) (role : ℕ) where
  -- the rows of a table that the role may read
  abbrev rows_seen : ℕ → Table → List TableRow
  rows_seen n table = seen_rows parts role n table.rows

  set_from : (first : ℕ) (tables : List Table) (n : ℕ) (table : Table)
      → seen_from parts role first (set tables n table) ≡ set (seen_from parts role first tables) n (rows_seen (first + n) table)
  set_from first [] n table = refl
  set_from first (t ∷ tables) zero table =
      ap (λ (k : ℕ). seen_rows parts role k table.rows ∷ seen_from parts role (first + 1) tables) (omega arith)
  set_from first (t ∷ tables) (suc n) table =
      ap (λ (more : List (List TableRow)). seen_rows parts role first t.rows ∷ more)
      (set_from (first + 1) tables n table
      ∙ ap (λ (k : ℕ). set (seen_from parts role (first + 1) tables) n (rows_seen k table)) (omega arith))

  pub set_seen : (tables : List Table) (n : ℕ) (table : Table) → tables_as_seen parts role (set tables n table) ≡ set (tables_as_seen parts role tables) n (rows_seen n table)
  unfolding tables_as_seen
  set_seen tables n table =
      set_from 0 tables n table ∙ ap (λ (k : ℕ). set (seen_from parts role 0 tables) n (rows_seen k table)) (omega arith)

  seen_there : (first : ℕ) (tables : List Table) (n : ℕ)
      → slice_get (seen_from parts role first tables) n ≡ option_map (λ table. rows_seen (first + n) table) (slice_get tables n)
  seen_there first [] n = refl
  seen_there first (t ∷ tables) zero = ap (λ (k : ℕ). Some (seen_rows parts role k t.rows)) (omega arith)
  seen_there first (t ∷ tables) (suc n) =
      seen_there (first + 1) tables n ∙ ap (λ (k : ℕ). option_map (λ (table : Table). rows_seen k table) (slice_get tables n)) (omega arith)

  pub seen_of : (tables : List Table) (n : ℕ) (table : Table) → slice_get tables n ≡ Some table → slice_get (tables_as_seen parts role tables) n ≡ Some (rows_seen n table)
  unfolding tables_as_seen
  seen_of tables n table is =
      seen_there 0 tables n ∙ ap (λ (k : ℕ). option_map (λ (t : Table). rows_seen k t) (slice_get tables n)) (omega arith)
      ∙ ap (option_map (λ (t : Table). rows_seen n t)) is

  -- ---- rows that are removed

  -- who may remove a row may read it
  admitted_reads : (table : ℕ) (cells : List Scalar) (columns : List (List ℕ)) (o : Option Role) → admitted_to parts role action.Delete table columns cells o ≡ true
      → admitted_to parts role action.Select table columns cells o ≡ true
  admitted_reads table cells columns None h = h
  admitted_reads table cells columns (Some asking) h = by asking.bypass h where
    by : (b : Bool) → (b || admitted_for parts role action.Delete table (record { user = asking.name; columns = columns; cells = cells })) ≡ true
        → (b || admitted_for parts role action.Select table (record { user = asking.name; columns = columns; cells = cells })) ≡ true
    by true g = refl
    by false g = (and_parts _ _ g).0

  part_reads : (table : ℕ) (cells : List Scalar) (o : Option TablePart) → is_admitted parts role action.Delete table cells o ≡ true
      → is_admitted parts role action.Select table cells o ≡ true
  part_reads table cells None h = h
  part_reads table cells (Some part) h = by part.secured h where
    by : (b : Bool) → (not b || admitted_to parts role action.Delete table part.columns cells (slice_get parts.roles role)) ≡ true
        → (not b || admitted_to parts role action.Select table part.columns cells (slice_get parts.roles role)) ≡ true
    by true g = admitted_reads table cells part.columns (slice_get parts.roles role) g
    by false g = refl

  pub removable_is_seen : (table : ℕ) (cells : List Scalar) → visible_to parts role action.Delete table cells ≡ true → visible_to parts role action.Select table cells ≡ true
  unfolding visible_to
  removable_is_seen table cells h = part_reads table cells (slice_get parts.tables table) h

  -- so the rows that it may remove are found among those that it sees
  pub removable_seen : (n : ℕ) (rows : List Row)
      → map (λ row. record { table = n; row = row }) (filter (λ row. visible_to parts role action.Delete n row.cells) rows)
      ≡ filter (λ r. visible_to parts role action.Delete n r.row.cells) (seen_rows parts role n rows)
  removable_seen n [] = refl
  removable_seen n (row ∷ rows) =
      by (visible_to parts role action.Delete n row.cells) (visible_to parts role action.Select n row.cells) refl (removable_is_seen n row.cells) (removable_seen n rows)
    where
      this : TableRow
      this = record { table = n; row = row }

      Rest : Type 0
      Rest =
          map (λ r. record { table = n; row = r }) (filter (λ r. visible_to parts role action.Delete n r.cells) rows)
          ≡ filter (λ r. visible_to parts role action.Delete n r.row.cells) (seen_rows parts role n rows)

      mine : List TableRow
      mine = map (λ r. record { table = n; row = r }) (filter (λ r. visible_to parts role action.Delete n r.cells) rows)

      theirs : List TableRow → List TableRow
      theirs seen = filter (λ r. visible_to parts role action.Delete n r.row.cells) seen

      by : (d s : Bool) → visible_to parts role action.Delete n row.cells ≡ d → (d ≡ true → s ≡ true) → Rest
          → map (λ r. record { table = n; row = r }) (if d then row ∷ filter (λ r. visible_to parts role action.Delete n r.cells) rows else filter (λ r. visible_to parts role action.Delete n r.cells) rows)
          ≡ theirs (map (λ r. record { table = n; row = r }) (if s then row ∷ filter (λ r. visible_to parts role action.Select n r.cells) rows else filter (λ r. visible_to parts role action.Select n r.cells) rows))
      by true true is reads rest = ap (λ more. this ∷ more) rest ∙ sym (ap (λ (b : Bool). if b then this ∷ theirs (seen_rows parts role n rows) else theirs (seen_rows parts role n rows)) is)
      by true false is reads rest = absurd (let seen : false ≡ true = reads refl in cc)
      by false true is reads rest = rest ∙ sym (ap (λ (b : Bool). if b then this ∷ theirs (seen_rows parts role n rows) else theirs (seen_rows parts role n rows)) is)
      by false false is reads rest = rest

  -- of rows that stay and rows that are new, the role sees those that it saw and may see
  pub seen_append : (n : ℕ) (rows more : List Row) → seen_rows parts role n (rows ++ more) ≡ seen_rows parts role n rows ++ seen_rows parts role n more
  seen_append n rows more =
      ap (map (λ row. record { table = n; row = row })) (filter-append (λ row. visible_to parts role action.Select n row.cells) rows more)
      ∙ map-append (λ row. record { table = n; row = row }) (filter (λ row. visible_to parts role action.Select n row.cells) rows)
      (filter (λ row. visible_to parts role action.Select n row.cells) more)

  pub seen_filter : (n : ℕ) (stays : Row → Bool) (rows : List Row) → seen_rows parts role n (filter stays rows) ≡ filter (λ r. stays r.row) (seen_rows parts role n rows)
  seen_filter n stays [] = refl
  seen_filter n stays (row ∷ rows) = by (stays row) (visible_to parts role action.Select n row.cells) refl refl (seen_filter n stays rows) where
    this : TableRow
    this = record { table = n; row = row }

    seen : Row → Bool
    seen r = visible_to parts role action.Select n r.cells

    rows_of : List Row → List TableRow
    rows_of rs = map (λ r. record { table = n; row = r }) rs

    kept : List TableRow → List TableRow
    kept rs = filter (λ r. stays r.row) rs

    by : (k s : Bool) → stays row ≡ k → seen row ≡ s → rows_of (filter seen (filter stays rows)) ≡ kept (rows_of (filter seen rows))
        → rows_of (filter seen (if k then row ∷ filter stays rows else filter stays rows)) ≡ kept (rows_of (if s then row ∷ filter seen rows else filter seen rows))
    by true true k_is s_is rest =
        ap (λ (b : Bool). rows_of (if b then row ∷ filter seen (filter stays rows) else filter seen (filter stays rows))) s_is
        ∙ ap (λ more. this ∷ more) rest
        ∙ sym (ap (λ (b : Bool). if b then this ∷ kept (rows_of (filter seen rows)) else kept (rows_of (filter seen rows))) k_is)
    by true false k_is s_is rest = ap (λ (b : Bool). rows_of (if b then row ∷ filter seen (filter stays rows) else filter seen (filter stays rows))) s_is ∙ rest
    by false true k_is s_is rest = rest ∙ sym (ap (λ (b : Bool). if b then this ∷ kept (rows_of (filter seen rows)) else kept (rows_of (filter seen rows))) k_is)
    by false false k_is s_is rest = rest
