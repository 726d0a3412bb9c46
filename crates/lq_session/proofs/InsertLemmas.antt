-- Why a table would not take a row, in the words of the machine, and the tables with one row more.
use Rattle.std.proofs.Common.{◌≡◌, ◌∙◌, ◌∷◌, ◌&&◌, ◌==◌, ◌^◌, if◌then◌else◌, not, List, [], ℕ, Bool, true, false, Option, Some, None, Ok, Err, ap, sym, refl, length, set, slice_get, subst, codes, true≢false}
use Rattle.std.specs.List.{list_all, zip}
use Rattle.std.proofs.lemmas.List.{set-get_or}
use Rattle.std.proofs.lemmas.Option.{get_or_from_slice_get}
use Rattle.lq_value.specs.Tables.{Table}
use Rattle.lq_value.specs.declared.scalar.Scalar.{Scalar}
use Rattle.lq_value.specs.declared.scalar.Scalar.TheVariants as scalar
use Rattle.lq_value.specs.declared.table.Column.{Column}
use Rattle.lq_value.specs.declared.table.ColumnType.{ColumnType}
use Rattle.lq_value.specs.declared.table.ColumnType.TheVariants as column
use Rattle.lq_store.specs.Calls.{Inserts, InsertsInto, insertion_refusal_of, refusal_at}
use Rattle.lq_store.specs.Rules.{are_in_ranges, have_types, is_in_range, is_of_type}
use Rattle.lq_store.specs.declared.error.StoreError.{StoreError}
use Rattle.lq_store.specs.declared.error.StoreError.TheVariants.{Arity, CellType, CellRange, Full}
use Rattle.lq_security.specs.Rights.{Denied, denial}
use Rattle.lq_security.specs.Visible.{refuser_of}
use Rattle.lq_machine.specs.Served.{denied_data, error_data, inserted_data, line_of}
use Rattle.lq_machine.specs.States.{State, host_names, schemas_of}
use Rattle.lq_machine.specs.Statements.{Outcome, allowed_by, are_of_columns, are_within_ranges, if_allowed, inserted, is_of_column, is_within_range, refused, row_checked, row_for, row_for_named, row_within, with_row, with_table}
use Rattle.lq_language.specs.Names.{table_number}
use Rattle.lq_language.specs.declared.rights.Use.TheVariants as used
use Rattle.lq_run.specs.Statements.{HasRights}
use Rattle.lq_run.specs.Stops.{Stops, StopsWith}
use Rattle.lq_run.specs.declared.stop.Stop.{Stop}
use Rattle.lq_run.proofs.StopLaws.{same_stop, stops_denied, stops_with}
use Rattle.lq_session.specs.Performed.{Performs}
use Rattle.lq_session.specs.Rows.{ChecksRow, is_full, is_typed, is_within}

-- ---- the rules of tables are those of the machine

module _ (s : State) where
  same_type : (t : ColumnType) (cell : Scalar) → is_of_type t cell ≡ is_of_column s t cell
  same_type column.Int (scalar.Int n) = refl
  same_type column.IntN (scalar.Int n) = refl
  same_type column.IntN scalar.Null = refl
  same_type column.Bool (scalar.Bool b) = refl
  same_type column.Str (scalar.Text text) = refl
  same_type column.Str scalar.Null = refl
  same_type t cell = refl

  same_range : (range : Option _) (cell : Scalar) → is_in_range range cell ≡ is_within_range s range cell
  same_range (Some range) (scalar.Int n) = refl
  same_range range cell = refl

  module _ (columns : List Column) (cells : List Scalar) where
    types_same : ((length columns == length cells) && have_types columns cells) ≡ are_of_columns s columns cells
    types_same i = (length columns == length cells) && list_all (λ pair. same_type pair.0.ty pair.1 i) (zip columns cells)

    ranges_same : are_in_ranges columns cells ≡ are_within_ranges s columns cells
    ranges_same i = list_all (λ pair. same_range pair.0.range pair.1 i) (zip columns cells)

-- ---- what a table says of a row

abbrev by_parts : Bool → Bool → Bool → Bool → Option StoreError
by_parts many typed within full =
    if not many then Some Arity
    else (if not typed then Some CellType
    else (if not within then Some CellRange
    else (if full then Some Full
    else None)))

typed_part : (a b c d : Bool) → is_typed (by_parts a b c d) ≡ (a && b)
typed_part false b c d = refl
typed_part true false c d = refl
typed_part true true false d = refl
typed_part true true true false = refl
typed_part true true true true = refl

within_part : (a b c d : Bool) → is_typed (by_parts a b c d) ≡ true → is_within (by_parts a b c d) ≡ c
within_part false b c d typed = absurd (true≢false (sym typed))
within_part true false c d typed = absurd (true≢false (sym typed))
within_part true true false d typed = refl
within_part true true true false typed = refl
within_part true true true true typed = refl

full_part : (a b c d : Bool) → is_typed (by_parts a b c d) ≡ true → is_within (by_parts a b c d) ≡ true → is_full (by_parts a b c d) ≡ d
full_part false b c d typed within = absurd (true≢false (sym typed))
full_part true false c d typed within = absurd (true≢false (sym typed))
full_part true true false d typed within = absurd (true≢false (sym within))
full_part true true true false typed within = refl
full_part true true true true typed within = refl

-- ---- the parts of an insertion, one after the other

module _ (s : State) (name : List ℕ) (cells : List Scalar) (n : ℕ) (table : Table) (number : table_number name (schemas_of s.tables) ≡ Some n)
    (at : slice_get s.tables n ≡ Some table) (says : Option StoreError) (told : says ≡ insertion_refusal_of s.tables n cells) where
  parts : says ≡ by_parts (length table.schema.columns == length cells) (have_types table.schema.columns cells) (are_in_ranges table.schema.columns cells) (table.next == 2 ^ 64)
  parts = told ∙ ap (λ (o : Option Table). refusal_at o cells) at

  abbrev by_types : Bool → Outcome
  by_types b = if b then if_allowed s (used.Insert n ∷ []) (row_within s n table cells) else refused s (codes "type")

  of_types : (b : Bool) → is_typed says ≡ b → inserted s name cells ≡ by_types b
  unfolding inserted
  of_types b is =
      ap (row_for_named s cells) number ∙ ap (row_for s cells n) at
      ∙ ap by_types (sym (types_same s table.schema.columns cells)
      ∙ sym (typed_part (length table.schema.columns == length cells) (have_types table.schema.columns cells) (are_in_ranges table.schema.columns cells) (table.next == 2 ^ 64))
      ∙ ap is_typed (sym parts) ∙ is)

  pub untyped : (why : Stop) → is_typed says ≡ false → StopsWith (error_data (codes "type")) why → Stops s (inserted s name cells) why
  untyped why isnt so = stops_with s (error_data (codes "type")) (inserted s name cells) why (of_types false isnt) so

  module _ (typed : is_typed says ≡ true) where
    pub unallowed : (why : Stop) → HasRights s (used.Insert n ∷ []) (Err why) → Stops s (inserted s name cells) why
    unallowed why denied =
        same_stop s (inserted s name cells) (if_allowed s (used.Insert n ∷ []) (row_within s n table cells)) why (of_types true typed)
        (stops_denied s (used.Insert n ∷ []) why (row_within s n table cells) denied)

    module _ (allowed : denial s.policies s.role (used.Insert n ∷ []) ≡ None) where
      abbrev by_ranges : Bool → Outcome
      by_ranges b = if b then row_checked s n table cells (refuser_of s.policies s.role n cells) else refused s (codes "cell")

      of_ranges : (b : Bool) → is_within says ≡ b → inserted s name cells ≡ by_ranges b
      of_ranges b is =
          of_types true typed ∙ ap (λ (o : Option Denied). allowed_by s o (row_within s n table cells)) allowed
          ∙ ap by_ranges (sym (ranges_same s table.schema.columns cells)
          ∙ sym (within_part (length table.schema.columns == length cells) (have_types table.schema.columns cells) (are_in_ranges table.schema.columns cells) (table.next == 2 ^ 64)
          (ap is_typed (sym parts) ∙ typed))
          ∙ ap is_within (sym parts) ∙ is)

      pub outside : (why : Stop) → is_within says ≡ false → StopsWith (error_data (codes "cell")) why → Stops s (inserted s name cells) why
      outside why isnt so = stops_with s (error_data (codes "cell")) (inserted s name cells) why (of_ranges false isnt) so

      module _ (within : is_within says ≡ true) where
        pub kept_out : (why : Stop) → ChecksRow s n cells (Err why) → Stops s (inserted s name cells) why
        kept_out why checks =
            same_stop s (inserted s name cells) (row_checked s n table cells (refuser_of s.policies s.role n cells)) why (of_ranges true within) (checks table)

        module _ (passed : refuser_of s.policies s.role n cells ≡ None) where
          abbrev by_room : Bool → Outcome
          by_room full = if full then refused s (codes "full") else (inserted_data, with_table s n (with_row s table cells))

          of_room : (b : Bool) → is_full says ≡ b → inserted s name cells ≡ by_room b
          of_room b is =
              of_ranges true within ∙ ap (row_checked s n table cells) passed
              ∙ ap by_room (sym (full_part (length table.schema.columns == length cells) (have_types table.schema.columns cells)
              (are_in_ranges table.schema.columns cells) (table.next == 2 ^ 64) (ap is_typed (sym parts) ∙ typed) (ap is_within (sym parts) ∙ within))
              ∙ ap is_full (sym parts) ∙ is)

          pub full : (why : Stop) → is_full says ≡ true → StopsWith (error_data (codes "full")) why → Stops s (inserted s name cells) why
          full why is so = stops_with s (error_data (codes "full")) (inserted s name cells) why (of_room true is) so

          -- the row is put in
          pub put : (line : List ℕ) (row : ℕ) (tables : List Table) (new : State) → is_full says ≡ false → line ≡ line_of inserted_data
              → Inserts s.tables n cells (Ok row) tables → new ≡ record s { tables = tables } → Performs (inserted s name cells) s (Ok line) new
          put line row tables new room so inserts is =
              let into : InsertsInto s.tables n cells (Ok row) tables (Some table) =
              subst (λ (o : Option Table). InsertsInto s.tables n cells (Ok row) tables o) at inserts in
              let there : tables ≡ set s.tables n (with_row s table cells) = into.2 ∙ ap (set s.tables n) into.1.2 in (
                so ∙ ap (λ (o : Outcome). line_of o.0) (sym (of_room false room)),
                is ∙ ap (λ (ts : List Table). let after : State = record s { tables = ts } in after) there ∙ ap (λ (o : Outcome). o.1) (sym (of_room false room)),
              )

-- what is there is put where it is
same_there : {A : Type 0} (xs : List A) (n : ℕ) (x : A) → slice_get xs n ≡ Some x → set xs n x ≡ xs
same_there xs n x is = ap (set xs n) (sym (get_or_from_slice_get xs n x x is)) ∙ set-get_or xs n x

-- a row that isn't put in leaves the tables
pub stays : (old new : List Table) (n : ℕ) (cells : List Scalar) (refused : StoreError × List Scalar) (table : Table) → slice_get old n ≡ Some table
    → Inserts old n cells (Err refused) new → new ≡ old
stays old new n cells refused table at inserts =
    let into : InsertsInto old n cells (Err refused) new (Some table) = subst (λ (o : Option Table). InsertsInto old n cells (Err refused) new o) at inserts in
    into.2 ∙ ap (set old n) into.1.2 ∙ same_there old n table at

-- the rule that keeps a row out
pub keeps_out : (s : State) (n : ℕ) (cells : List Scalar) (rule : List ℕ) (why : Stop) → refuser_of s.policies s.role n cells ≡ Some rule
    → StopsWith (denied_data (schemas_of s.tables) (host_names s) rule (used.Insert n)) why → ChecksRow s n cells (Err why)
keeps_out s n cells rule why is so table =
    stops_with s (denied_data (schemas_of s.tables) (host_names s) rule (used.Insert n)) (row_checked s n table cells (refuser_of s.policies s.role n cells)) why
    (ap (row_checked s n table cells) is) so
