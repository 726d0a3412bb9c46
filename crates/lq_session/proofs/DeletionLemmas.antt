-- The rows that are removed by their numbers are those that the machine removes.
use Rattle.std.proofs.Common.{◌≡◌, ◌∙◌, ◌∷◌, ◌++◌, ◌||◌, ◌==◌, not, List, [], ℕ, Bool, true, false, if◌then◌else◌, codes, None, Err, Ok, filter, map, length, Option, Some, IfSome, ap, refl, set, subst, sym, slice_get}
use Rattle.std.proofs.lemmas.List.{length-map}
use Rattle.std.specs.List.{list_any}
use Rattle.lq_value.specs.Tables.{Table}
use Rattle.lq_value.specs.declared.ty.Ty.{Ty, out-Ty}
use Rattle.lq_value.specs.declared.ty.Ty.TheVariants as ty
use Rattle.lq_value.specs.declared.value.End.{End}
use Rattle.lq_value.specs.declared.value.End.TheVariants as end
use Rattle.lq_value.specs.declared.value.Fault.{Fault}
use Rattle.lq_store.specs.Calls.{count_listed, is_listed, without_rows}
use Rattle.lq_host.specs.Predicates.{Predicate}
use Rattle.lq_security.specs.Rights.{Denied, denial}
use Rattle.lq_machine.specs.DefinitionLaws.{AreDefined}
use Rattle.lq_machine.specs.Served.{deleted_data, error_data, fault_data, line_of}
use Rattle.lq_machine.specs.States.{State, host_names, names_in, schemas_of}
use Rattle.lq_machine.specs.Statements.{Outcome, allowed_by, removed_items, deleted, if_allowed, refused, rows_of, rows_of_named, rows_removed, with_table, without}
use Rattle.lq_language.specs.ClauseTyping.{expression_type}
use Rattle.lq_language.specs.Names.{Names, table_number, with_local}
use Rattle.lq_language.specs.OperandTypes.{is_bool, is_bool_type}
use Rattle.lq_language.specs.Mentions.{uses_of}
use Rattle.lq_language.specs.Uses.{expression_uses}
use Rattle.lq_language.specs.TableRows.{TableRow}
use Rattle.lq_language.specs.declared.rights.Use.{Use}
use Rattle.lq_language.specs.declared.rights.Use.TheVariants as used
use Rattle.lq_grammar.specs.declared.syntax.Expr.{Expr}
use Rattle.lq_run.specs.States.{SessionState, state_with}
use Rattle.lq_run.specs.Statements.{FindsTree, HasRights, condition_in}
use Rattle.lq_run.specs.Stops.{Stops, StopsWith}
use Rattle.lq_run.specs.declared.stop.Stop.{Stop}
use Rattle.lq_run.proofs.StopLaws.{same_stop, stops_denied, stops_refused, stops_with}
use Rattle.lq_use.specs.FormRights.{form_rights}
use Rattle.lq_tree.specs.declared.tree.Tree.{Tree}
use Rattle.lq_session.specs.Performed.{Performs}
use Rattle.lq_session.proofs.ConditionLemmas.{condition_is, no_condition_type, uses_same}

-- a number is one of those of some rows exactly where one of the rows has it
listed_rows : (k : ℕ) (gone : List TableRow) → is_listed (map (λ r. r.row.number) gone) k ≡ list_any (λ r. r.row.number == k) gone
listed_rows k [] = refl
listed_rows k (r ∷ gone) = ap (λ (rest : Bool). (r.row.number == k) || rest) (listed_rows k gone)

-- the table without the rows of these numbers is the table without the rows
pub without_same : (s : State) (table : Table) (gone : List TableRow) → without_rows table (map (λ r. r.row.number) gone) ≡ without s gone table
without_same s table gone i = record table { rows = filter (λ row. not (listed_rows row.number gone i)) table.rows }

module _ (s : State) (n : ℕ) (table : Table) (gone : List TableRow) (ending : End) where
  -- the rows are removed by their numbers, where these come to their end
  removes : (line numbers : List ℕ) (k count : ℕ) (new : State) → slice_get s.tables n ≡ Some table → ending ≡ end.Done
      → numbers ≡ map (λ r. r.row.number) gone → k ≡ length numbers → line ≡ line_of (deleted_data k)
      → IfSome (slice_get s.tables n) (λ t. (count ≡ count_listed t numbers) × (new ≡ record s { tables = set s.tables n (without_rows t numbers) }))
      → (line ≡ line_of (rows_removed s n table gone ending).0) × (new ≡ (rows_removed s n table gone ending).1)
  removes line numbers k count new at is are many so removed =
      let gone_there : (count ≡ count_listed table numbers) × (new ≡ record s { tables = set s.tables n (without_rows table numbers) }) =
      subst (λ (o : Option Table). IfSome o (λ t. (count ≡ count_listed t numbers) × (new ≡ record s { tables = set s.tables n (without_rows t numbers) }))) at removed in
      subst (λ (e : End). (line ≡ line_of (rows_removed s n table gone e).0) × (new ≡ (rows_removed s n table gone e).1)) (sym is) (
        so ∙ ap (λ (m : ℕ). line_of (deleted_data m)) (many ∙ ap length are ∙ length-map gone (λ (r : TableRow). r.row.number)),
        gone_there.1 ∙ ap (λ (ns : List ℕ). with_table s n (without_rows table ns)) are ∙ ap (with_table s n) (without_same s table gone),
      )

-- what is removed of a session's tables is removed of the machine's
pub removed_with : (predicates : List Predicate) (old new : SessionState) (n count : ℕ) (numbers : List ℕ) (o : Option Table)
    → IfSome o (λ t. (count ≡ count_listed t numbers) × (new ≡ record old { tables = set old.tables n (without_rows t numbers) }))
    → IfSome o (λ t. (count ≡ count_listed t numbers)
    × (state_with predicates new ≡ state_with predicates (record old { tables = set old.tables n (without_rows t numbers) })))
removed_with predicates old new n count numbers None gone = gone
removed_with predicates old new n count numbers (Some t) gone = (gone.0, ap (state_with predicates) gone.1)

-- and the session knows the same host predicates after it
pub kept_hosts : (old new : SessionState) (n count : ℕ) (numbers : List ℕ) (table : Table) → slice_get old.tables n ≡ Some table
    → IfSome (slice_get old.tables n) (λ t. (count ≡ count_listed t numbers) × (new ≡ record old { tables = set old.tables n (without_rows t numbers) }))
    → new.policies.predicates ≡ old.policies.predicates
kept_hosts old new n count numbers table at gone =
    let there : (count ≡ count_listed table numbers) × (new ≡ record old { tables = set old.tables n (without_rows table numbers) }) =
    subst (λ (o : Option Table). IfSome o (λ t. (count ≡ count_listed t numbers) × (new ≡ record old { tables = set old.tables n (without_rows t numbers) })))
    at gone in
    ap (λ (s : SessionState). s.policies.predicates) there.1

-- ---- the parts of a deletion, one after the other

module _ (s : State) (name x : List ℕ) (e : Expr) (n : ℕ) (table : Table) (number : table_number name (schemas_of s.tables) ≡ Some n)
    (at : slice_get s.tables n ≡ Some table) where
  abbrev names : Names
  names = with_local (names_in s) x (ty.Row n)

  abbrev by_type : Bool → Outcome
  by_type b =
      if b
      then if_allowed s (used.Delete n ∷ uses_of (expression_uses e names)) (rows_removed s n table (removed_items s x e n table.rows).0 (removed_items s x e n table.rows).1)
      else refused s (codes "type")

  of_type : (b : Bool) → is_bool_type (expression_type e (with_local (names_in s) x (ty.Row n))) ≡ b → deleted s name x e ≡ by_type b
  unfolding deleted
  of_type b is = ap (rows_of_named s x e) number ∙ ap (rows_of s x e n) at ∙ ap by_type is

  pub untyped : (why : Stop) → FindsTree (condition_in s x n e) (Err why) → Stops s (deleted s name x e) why
  untyped why refuses =
      stops_refused s (codes "type") (condition_in s x n e ≡ None) (deleted s name x e) why (λ none. of_type false (no_condition_type s x n e none)) refuses

  module _ (tree : Tree) (is : condition_in s x n e ≡ Some tree) (b : Bool) (t : Ty) (same : t ≡ tree.ty) (tells : b ≡ is_bool (out-Ty t)) where
    pub no_condition : (why : Stop) → b ≡ false → StopsWith (error_data (codes "type")) why → Stops s (deleted s name x e) why
    no_condition why isnt so =
        stops_with s (error_data (codes "type")) (deleted s name x e) why (of_type false (condition_is s x n e tree is b false t same tells isnt)) so

    module _ (condition : b ≡ true) (defined : AreDefined (schemas_of s.tables) (host_names s) s.definitions) (uses : List Use)
        (are : uses ≡ used.Delete n ∷ (form_rights tree.form ++ [])) where
      allowed_as : deleted s name x e ≡ if_allowed s uses (rows_removed s n table (removed_items s x e n table.rows).0 (removed_items s x e n table.rows).1)
      allowed_as =
          of_type true (condition_is s x n e tree is b true t same tells condition)
          ∙ ap (λ (us : List Use). if_allowed s us (rows_removed s n table (removed_items s x e n table.rows).0 (removed_items s x e n table.rows).1))
          (sym (uses_same s defined n tree uses are x e is))

      pub unallowed : (why : Stop) → HasRights s uses (Err why) → Stops s (deleted s name x e) why
      unallowed why denied =
          same_stop s (deleted s name x e) (if_allowed s uses (rows_removed s n table (removed_items s x e n table.rows).0 (removed_items s x e n table.rows).1)) why allowed_as
          (stops_denied s uses why (rows_removed s n table (removed_items s x e n table.rows).0 (removed_items s x e n table.rows).1) denied)

      module _ (allowed : denial s.policies s.role uses ≡ None) where
        removed_as : deleted s name x e ≡ rows_removed s n table (removed_items s x e n table.rows).0 (removed_items s x e n table.rows).1
        removed_as =
            allowed_as
            ∙ ap (λ (o : Option Denied). allowed_by s o (rows_removed s n table (removed_items s x e n table.rows).0 (removed_items s x e n table.rows).1)) allowed

        -- a fault removes nothing
        pub faults : (f : Fault) (why : Stop) → (removed_items s x e n table.rows).1 ≡ end.Fault f → StopsWith (fault_data f) why → Stops s (deleted s name x e) why
        faults f why met so =
            stops_with s (fault_data f) (deleted s name x e) why (removed_as ∙ ap (rows_removed s n table (removed_items s x e n table.rows).0) met) so

        pub removed : (line numbers : List ℕ) (k count : ℕ) (new : State) → (removed_items s x e n table.rows).1 ≡ end.Done
            → numbers ≡ map (λ r. r.row.number) (removed_items s x e n table.rows).0 → k ≡ length numbers → line ≡ line_of (deleted_data k)
            → IfSome (slice_get s.tables n) (λ t. (count ≡ count_listed t numbers) × (new ≡ record s { tables = set s.tables n (without_rows t numbers) }))
            → Performs (deleted s name x e) s (Ok line) new
        removed line numbers k count new done are_numbers many so gone =
            let both = removes s n table (removed_items s x e n table.rows).0 (removed_items s x e n table.rows).1 line numbers k count new at done are_numbers many so gone in
            (both.0 ∙ ap (λ (o : Outcome). line_of o.0) (sym removed_as), both.1 ∙ ap (λ (o : Outcome). o.1) (sym removed_as))
