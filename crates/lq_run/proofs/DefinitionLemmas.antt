-- The definitions of a state, as an assignment and changes of its tables leave them.
use Rattle.std.proofs.Common.{◌≡◌, ◌∙◌, ◌∷◌, ◌++◌, ◌<◌, if◌then◌else◌, arith, get_or, length, List, [], map, ℕ, zero, suc, Bool, true, false, Option, Some, None, IfSome, Result, Ok, Err, ap, sym, refl, subst, bytes_eq, option_and_then, option_map, set, slice_get}
use Rattle.std.specs.List.{position_from}
use Rattle.std.proofs.lemmas.Option.{get_or_from_slice_get, none-some, same_Some, slice_get_within}
use Rattle.lq_value.specs.Tables.{Table, first_named}
use Rattle.lq_value.specs.declared.scalar.Scalar.{Scalar}
use Rattle.lq_value.specs.declared.table.Schema.{Schema}
use Rattle.lq_value.specs.declared.ty.Ty.{Ty}
use Rattle.lq_store.specs.Calls.{Inserts, InsertsInto, Pushes, count_listed, without_rows}
use Rattle.lq_store.specs.declared.error.StoreError.{StoreError}
use Rattle.lq_language.specs.declared.host_name.HostName.{HostName}
use Rattle.lq_machine.specs.DefinitionLaws.{AreDefined, AreDefinedAfter, IsDefined, IsNew}
use Rattle.lq_machine.specs.Definitions.{definition_of, known_as, known_names}
use Rattle.lq_machine.specs.States.{State, schemas_of}
use Rattle.lq_machine.specs.Statements.{renewed as renewed_in}
use Rattle.lq_language.specs.Names.{SessionName}
use Rattle.lq_machine.specs.declared.session.Defined.TheVariants as of
use Rattle.lq_machine.specs.declared.session.Definition.{Definition}
use Rattle.lq_machine.proofs.KeptDefinitionLaws.{defined_behind, known_name, known_now, others_stay, renewed_after}
use Rattle.lq_tree.proofs.TypeLaws.{later}
use Rattle.lq_run.specs.States.{Assigns, IsValueFor, SessionState, renewed, with_value, without_hosts}

-- ---- assignments

module _ (name : List ℕ) where
  abbrev named : Definition → Bool
  named d = bytes_eq d.name name

  there_later : (x : Definition) (ds : List Definition) (o : Option ℕ) → option_and_then (slice_get (x ∷ ds)) (option_map suc o) ≡ option_and_then (slice_get ds) o
  there_later x ds None = refl
  there_later x ds (Some i) = refl

  -- the definition of a name is at the first place of the name
  definition_there : (ds : List Definition) → definition_of name ds ≡ option_and_then (slice_get ds) (first_named (λ d. d.name) name ds)
  definition_there [] = refl
  definition_there (x ∷ ds) = by (bytes_eq x.name name) (definition_there ds) where
    by : (b : Bool) → definition_of name ds ≡ option_and_then (slice_get ds) (position_from named 0 ds)
        → (if b then Some x else definition_of name ds) ≡ option_and_then (slice_get (x ∷ ds)) (if b then Some 0 else position_from named 1 ds)
    by true rest = refl
    by false rest = rest ∙ sym (there_later x ds (position_from named 0 ds)) ∙ ap (option_and_then (slice_get (x ∷ ds))) (sym (later named 0 ds))

  module _ (t : Ty) (value : Scalar) (old : State) (schemas : List Schema) (predicates : List HostName) where
    abbrev renewal : Definition
    renewal = record { name = name; defined = of.Variable t value }

    -- the first definition of the name is the only one
    in_place : (earlier : List SessionName) (ds : List Definition) → AreDefinedAfter schemas predicates earlier ds → (i : ℕ) → position_from named 0 ds ≡ Some i
        → map (renewed_in old name t value) ds ≡ set ds i renewal
    in_place earlier [] all i at = absurd (none-some i at)
    in_place earlier (x ∷ ds) all i at =
        by (bytes_eq x.name name) refl at (in_place (earlier ++ known_as schemas predicates earlier x.name x.defined ∷ []) ds all.1)
      where
        over : (o : Option ℕ) → ((j : ℕ) → o ≡ Some j → map (renewed_in old name t value) ds ≡ set ds j renewal) → option_map suc o ≡ Some i
            → x ∷ map (renewed_in old name t value) ds ≡ set (x ∷ ds) i renewal
        over None rest h = absurd (none-some i h)
        over (Some j) rest h = ap (λ (more : List Definition). x ∷ more) (rest j refl) ∙ ap (λ (k : ℕ). set (x ∷ ds) k renewal) (same_Some (suc j) i h)

        by : (b : Bool) → bytes_eq x.name name ≡ b → (if b then Some 0 else position_from named 1 ds) ≡ Some i
            → ((j : ℕ) → position_from named 0 ds ≡ Some j → map (renewed_in old name t value) ds ≡ set ds j renewal)
            → (if b then renewal else x) ∷ map (renewed_in old name t value) ds ≡ set (x ∷ ds) i renewal
        by true same h rest =
            ap (λ (more : List Definition). renewal ∷ more)
            (others_stay name schemas predicates t value old (earlier ++ known_as schemas predicates earlier x.name x.defined ∷ []) ds all.1
            (known_now name earlier (known_as schemas predicates earlier x.name x.defined)
            (ap (λ (n : List ℕ). bytes_eq n name) (known_name schemas predicates earlier x.name x.defined) ∙ same)))
            ∙ ap (λ (k : ℕ). set (x ∷ ds) k renewal) (same_Some 0 i h)
        by false same h rest = over (position_from named 0 ds) rest (sym (later named 0 ds) ∙ h)

module _ (s : SessionState) (defined : AreDefined (schemas_of s.tables) s.policies.predicates s.definitions) (name : List ℕ) (value : Scalar) where
  -- the variable is at the first place of its name
  module _ (for : IsValueFor s.definitions name value) (i : ℕ) (at : first_named (λ d. d.name) name s.definitions ≡ Some i) where
    abbrev before : Definition
    before = record { name = name; defined = of.Variable for.0 for.1 }

    variable_there : slice_get s.definitions i ≡ Some (record { name = name; defined = of.Variable for.0 for.1 })
    variable_there = sym (definition_there name s.definitions ∙ ap (option_and_then (slice_get s.definitions)) at) ∙ for.2

    pub place_within : i < length s.definitions
    place_within = slice_get_within s.definitions i before variable_there

    module _ (d : Definition) (read : d ≡ get_or s.definitions i d) (definitions : List Definition) (is : definitions ≡ set s.definitions i (with_value value d)) where
      -- with its new value there, each of its name is renewed
      renewed_there : definitions ≡ map (renewed name for.0 value) s.definitions
      renewed_there =
          is
          ∙ ap (λ (e : Definition). set s.definitions i (with_value value e)) (read ∙ get_or_from_slice_get s.definitions i before d variable_there)
          ∙ sym (in_place name for.0 value (without_hosts s) (schemas_of s.tables) s.policies.predicates [] s.definitions defined i at)

      -- the variable of the name has its new value, and all else stays
      pub assigns : Assigns s name value (record s { definitions = definitions })
      assigns t old found =
          let same : of.Variable for.0 for.1 ≡ of.Variable t old = ap (λ (e : Definition). e.defined) (same_Some before _ (sym for.2 ∙ found)) in
          let typed : for.0 ≡ t = cc in
          ap (λ (ds : List Definition). let new : SessionState = record s { definitions = ds } in new) renewed_there
          ∙ ap (λ (u : Ty). let new : SessionState = record s { definitions = map (renewed name u value) s.definitions } in new) typed

      -- and the definitions are as `var` makes them
      pub assigned_defined : AreDefined (schemas_of s.tables) s.policies.predicates definitions
      assigned_defined =
          subst (λ (ds : List Definition). AreDefined (schemas_of s.tables) s.policies.predicates ds) (sym renewed_there)
          (renewed_after name (schemas_of s.tables) s.policies.predicates for.0 value (without_hosts s) [] s.definitions defined before for.1 for.2 refl for.3)

  -- a variable has a place
  pub nowhere : (after : SessionState) → first_named (λ d. d.name) name s.definitions ≡ None → Assigns s name value after
  nowhere after at t before found =
      absurd (none-some (record { name = name; defined = of.Variable t before })
      (sym (ap (option_and_then (slice_get s.definitions)) at) ∙ sym (definition_there name s.definitions) ∙ found))

-- ---- one more definition

-- a definition under a new name, after others
pub also_defined : (schemas : List Schema) (predicates : List HostName) (ds definitions : List Definition) (d : Definition) → AreDefined schemas predicates ds
    → IsDefined schemas predicates (known_names schemas predicates ds) d.defined → IsNew schemas (known_names schemas predicates ds) d.name
    → definitions ≡ ds ++ d ∷ [] → AreDefined schemas predicates definitions
unfolding known_names
also_defined schemas predicates ds definitions d all is new so =
    subst (λ (given : List Definition). AreDefined schemas predicates given) (sym so) (defined_behind schemas predicates [] ds d all is new)

-- ---- changed tables

-- a table with other rows has its schema
pub schemas_set : (tables : List Table) (n : ℕ) (table next : Table) → slice_get tables n ≡ Some table → next.schema ≡ table.schema
    → schemas_of (set tables n next) ≡ schemas_of tables
schemas_set [] n table next there same = refl
schemas_set (t ∷ tables) zero table next there same =
    ap (λ (x : Schema). x ∷ schemas_of tables) (same ∙ ap (λ (u : Table). u.schema) (sym (same_Some t table there)))
schemas_set (t ∷ tables) (suc n) table next there same = ap (λ (more : List Schema). t.schema ∷ more) (schemas_set tables n table next there same)

pushed_schema : (table changed : Table) (cells : List Scalar) (result : Result ℕ (StoreError × List Scalar)) → Pushes table cells result changed
    → changed.schema ≡ table.schema
pushed_schema table changed cells (Ok number) pushes = ap (λ (u : Table). u.schema) pushes.2
pushed_schema table changed cells (Err refused) pushes = ap (λ (u : Table). u.schema) pushes.2

inserted_schemas : (old new : List Table) (t : ℕ) (cells : List Scalar) (result : Result ℕ (StoreError × List Scalar)) (o : Option Table) → slice_get old t ≡ o
    → InsertsInto old t cells result new o → schemas_of new ≡ schemas_of old
inserted_schemas old new t cells result None there inserts = ap schemas_of inserts.1
inserted_schemas old new t cells result (Some table) there inserts =
    ap schemas_of inserts.2 ∙ schemas_set old t table inserts.0 there (pushed_schema table inserts.0 cells result inserts.1)

-- the definitions stay as they are over tables with one more row
pub inserted_defined : (predicates : List HostName) (old new : List Table) (t : ℕ) (cells : List Scalar) (result : Result ℕ (StoreError × List Scalar))
    (definitions : List Definition) → Inserts old t cells result new → AreDefined (schemas_of old) predicates definitions
    → AreDefined (schemas_of new) predicates definitions
inserted_defined predicates old new t cells result definitions inserts defined =
    subst (λ (schemas : List Schema). AreDefined schemas predicates definitions) (sym (inserted_schemas old new t cells result (slice_get old t) refl inserts)) defined

-- and over tables with other rows
set_defined : (predicates : List HostName) (old new : List Table) (t : ℕ) (table next : Table) (definitions : List Definition) → slice_get old t ≡ Some table
    → next.schema ≡ table.schema → new ≡ set old t next → AreDefined (schemas_of old) predicates definitions → AreDefined (schemas_of new) predicates definitions
set_defined predicates old new t table next definitions there same is defined =
    subst (λ (schemas : List Schema). AreDefined schemas predicates definitions) (sym (ap schemas_of is ∙ schemas_set old t table next there same)) defined

table_there : (tables : List Table) (t : ℕ) → t < length tables → (table : Table) × (slice_get tables t ≡ Some table)
table_there [] t below = absurd (omega (arith, below))
table_there (x ∷ xs) zero below = (x, refl)
table_there (x ∷ xs) (suc t) below = table_there xs t (omega (arith, below))

pub removed_defined : (predicates : List HostName) (old new : List Table) (t : ℕ) (numbers : List ℕ) (count : ℕ) (definitions : List Definition) → t < length old
    → IfSome (slice_get old t) (λ table. (count ≡ count_listed table numbers) × (new ≡ set old t (without_rows table numbers)))
    → AreDefined (schemas_of old) predicates definitions → AreDefined (schemas_of new) predicates definitions
removed_defined predicates old new t numbers count definitions below removed defined =
    let found = table_there old t below in
    let given : (count ≡ count_listed found.0 numbers) × (new ≡ set old t (without_rows found.0 numbers)) =
    subst (λ (o : Option Table). IfSome o (λ table. (count ≡ count_listed table numbers) × (new ≡ set old t (without_rows table numbers)))) found.1 removed in
    set_defined predicates old new t found.0 (without_rows found.0 numbers) definitions found.1 refl given.1 defined
