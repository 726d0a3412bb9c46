-- Every statement leaves definitions as `var` makes them.
use Rattle.std.proofs.Common.{◌≡◌, ◌∷◌, ◌++◌, ◌^◌, ◌==◌, if◌then◌else◌, List, [], map, ℕ, zero, suc, Bool, true, false, Option, Some, None, Result, Ok, Err, ap, ◌∙◌, sym, refl, subst, bytes_eq, codes, option_map, set, slice_get, true≢false}
use Rattle.std.specs.Prelude.{is_some, ◌||◌}
use Rattle.std.proofs.lemmas.Option.{none-some, same_Some, slice_get-map}
use Rattle.std.proofs.lemmas.Slice.Eq.{bytes_eq-Decides}
use Rattle.lq_value.specs.Tables.{Table, first_named}
use Rattle.lq_value.specs.declared.scalar.Scalar.{Scalar}
use Rattle.lq_value.specs.declared.scalar.Scalar.TheVariants as scalar
use Rattle.lq_value.specs.declared.table.Schema.{Schema}
use Rattle.lq_value.specs.declared.ty.Ty.{Ty, out-Ty}
use Rattle.lq_value.specs.declared.ty.Ty.TheOpen.{Ty-F}
use Rattle.lq_value.specs.declared.ty.Ty.TheVariants as ty
use Rattle.lq_value.specs.declared.value.End.{End}
use Rattle.lq_value.specs.declared.value.End.TheVariants as end
use Rattle.lq_value.specs.declared.value.Fault.{Fault}
use Rattle.lq_value.specs.declared.value.Value.{Value, out-Value}
use Rattle.lq_value.specs.declared.value.Value.TheOpen.{Value-F}
use Rattle.lq_value.specs.declared.value.Value.TheVariants.{outs-Scalar}
use Rattle.lq_host.specs.Predicates.{Predicate}
use Rattle.lq_language.specs.ClauseTyping.{expression_type}
use Rattle.lq_machine.specs.DefinitionLaws.{AreDefined, AreDefinedAfter, IsDefined, IsNew, KeepsDefined}
use Rattle.lq_machine.specs.Definitions.{definition_of, known_after, known_as, known_names}
use Rattle.lq_machine.specs.Machine.{perform, step, step_by}
use Rattle.lq_language.specs.ValuesOfTypes.{Every, IsScalarOf, IsTypedTable}
use Rattle.lq_machine.specs.Opening.{is_past_opening, opening_of}
use Rattle.lq_grammar.specs.Reading.{Reading, Nothing, Says, IsNoSyntax, IsTooDeep, reading_of}
use Rattle.lq_security.specs.Rights.{Denied, denial}
use Rattle.lq_machine.specs.Served.{assigned_data, defined_data}
use Rattle.lq_machine.specs.Statements.{Outcome, allowed_by, are_of_columns, are_within_ranges, assigned, assigned_as, assigned_by, assigned_to, assigning, removed_items, defined, defined_as, defined_by, defining_also, deleted, evaluated, inserted, is_taken, refused, renewed, row_checked, row_for, row_for_named, rows_of, rows_of_named, rows_removed, taking_role, under_role, with_row, with_scalar, with_table, with_value, without}
use Rattle.lq_machine.specs.States.{State, host_names, names_in, schemas_of, world_in}
use Rattle.lq_language.specs.Types.{same_types}
use Rattle.lq_language.specs.Names.{SessionName, session_name, table_number, with_local}
use Rattle.lq_language.specs.OperandTypes.{is_bool_type, is_scalar}
use Rattle.lq_language.specs.Mentions.{uses_of}
use Rattle.lq_language.specs.Uses.{expression_uses}
use Rattle.lq_language.specs.Worlds.{known_predicates}
use Rattle.lq_language.specs.TableRows.{TableRow}
use Rattle.lq_security.specs.Visible.{refuser_of}
use Rattle.lq_language.specs.Meaning.{expression_meaning}
use Rattle.lq_language.specs.MeaningLaws.{IsValueOf}
use Rattle.lq_language.specs.Typing.{converts, widens}
use Rattle.lq_language.specs.declared.host_name.HostName.{HostName}
use Rattle.lq_language.specs.declared.rights.Use.TheVariants as used
use Rattle.lq_machine.specs.declared.session.Defined.{Defined}
use Rattle.lq_machine.specs.declared.session.Defined.TheVariants as of
use Rattle.lq_machine.specs.declared.session.Definition.{Definition}
use Rattle.lq_machine.specs.declared.session.Opened.{Opened}
use Rattle.lq_grammar.specs.declared.syntax.Expr.{Expr}
use Rattle.lq_grammar.specs.declared.syntax.Statement.{Statement}
use Rattle.lq_grammar.specs.declared.syntax.Statement.TheVariants as statement
use Rattle.lq_security.proofs.LookAlikeLaws.{map_set}
use Rattle.lq_machine.proofs.MachineMeaningLaws.{agrees}
use Rattle.lq_language.proofs.SameTypeLaws.{same_type}
use Rattle.lq_language.proofs.TypingLaws.{is_of_layer, type_with}
use Rattle.lq_language.proofs.ValueLaws.{is_plain, plain_value, scalar_plain}

-- ---- names

-- what is known of a definition has its name
pub known_name : (schemas : List Schema) (predicates : List HostName) (earlier : List SessionName) (name : List ℕ) (defined : Defined)
    → (known_as schemas predicates earlier name defined).name ≡ name
known_name schemas predicates earlier name (of.Variable t s) = refl
known_name schemas predicates earlier name (of.Query e opened) = refl

module _ (name : List ℕ) where
  -- one more name
  unknown_still : (names : List SessionName) (k : SessionName) → session_name name names ≡ None → bytes_eq k.name name ≡ false
      → session_name name (names ++ k ∷ []) ≡ None
  unknown_still [] k none other = ap (λ (b : Bool). if b then Some k else None) other
  unknown_still (x ∷ xs) k none other = by (bytes_eq x.name name) none (λ h. unknown_still xs k h other) where
    by : (b : Bool) → (if b then Some x else session_name name xs) ≡ None → (session_name name xs ≡ None → session_name name (xs ++ k ∷ []) ≡ None)
        → (if b then Some x else session_name name (xs ++ k ∷ [])) ≡ None
    by true h rest = absurd (none-some x (sym h))
    by false h rest = rest h

  known_still : (names more : List SessionName) → is_some (session_name name names) ≡ true → is_some (session_name name (names ++ more)) ≡ true
  known_still [] more is = absurd (true≢false (sym is))
  known_still (x ∷ xs) more is = by (bytes_eq x.name name) is (known_still xs more) where
    by : (b : Bool) → is_some (if b then Some x else session_name name xs) ≡ true
        → (is_some (session_name name xs) ≡ true → is_some (session_name name (xs ++ more)) ≡ true) → is_some (if b then Some x else session_name name (xs ++ more)) ≡ true
    by true h rest = refl
    by false h rest = rest h

  pub known_now : (names : List SessionName) (k : SessionName) → bytes_eq k.name name ≡ true → is_some (session_name name (names ++ k ∷ [])) ≡ true
  known_now [] k is = ap (λ (b : Bool). is_some (if b then Some k else None)) is
  known_now (x ∷ xs) k is = by (bytes_eq x.name name) (known_now xs k is) where
    by : (b : Bool) → is_some (session_name name (xs ++ k ∷ [])) ≡ true → is_some (if b then Some x else session_name name (xs ++ k ∷ [])) ≡ true
    by true rest = refl
    by false rest = rest

  module _ (schemas : List Schema) (predicates : List HostName) where
    -- a name that no definition has isn't known
    pub unknown_name : (earlier : List SessionName) (ds : List Definition) → session_name name earlier ≡ None → definition_of name ds ≡ None
        → session_name name (known_after schemas predicates earlier ds) ≡ None
    unknown_name earlier [] none other = none
    unknown_name earlier (d ∷ ds) none other =
        by (bytes_eq d.name name) refl other (unknown_name (earlier ++ known_as schemas predicates earlier d.name d.defined ∷ []) ds)
      where
        later : List SessionName
        later = earlier ++ known_as schemas predicates earlier d.name d.defined ∷ []

        by : (b : Bool) → bytes_eq d.name name ≡ b → (if b then Some d else definition_of name ds) ≡ None
            → (session_name name later ≡ None → definition_of name ds ≡ None → session_name name (known_after schemas predicates later ds) ≡ None)
            → session_name name (known_after schemas predicates later ds) ≡ None
        by true is h rest = absurd (none-some d (sym h))
        by false is h rest =
            rest (unknown_still earlier (known_as schemas predicates earlier d.name d.defined) none
            (ap (λ (n : List ℕ). bytes_eq n name) (known_name schemas predicates earlier d.name d.defined) ∙ is)) h

    -- ---- a variable's new value

    module _ (t : Ty) (s : Scalar) (old : State) where
      -- nothing after a definition of the name is renewed
      pub others_stay : (earlier : List SessionName) (ds : List Definition) → AreDefinedAfter schemas predicates earlier ds → is_some (session_name name earlier) ≡ true
          → map (renewed old name t s) ds ≡ ds
      others_stay earlier [] all known = refl
      others_stay earlier (d ∷ ds) all known =
          by (bytes_eq d.name name) refl
          (others_stay (earlier ++ known_as schemas predicates earlier d.name d.defined ∷ []) ds all.1
          (known_still earlier (known_as schemas predicates earlier d.name d.defined ∷ []) known))
        where
          by : (b : Bool) → bytes_eq d.name name ≡ b → map (renewed old name t s) ds ≡ ds
              → (if b then record { name = name; defined = of.Variable t s } else d) ∷ map (renewed old name t s) ds ≡ d ∷ ds
          by true is rest =
              absurd (true≢false (sym known ∙ ap (λ (n : List ℕ). is_some (session_name n earlier)) (sym ((bytes_eq-Decides d.name name).0 is)) ∙ ap is_some all.2.1))
          by false is rest = ap (λ (more : List Definition). d ∷ more) rest

      -- a variable keeps its name and its type, and so what is known after it
      pub renewed_after : (earlier : List SessionName) (ds : List Definition) → AreDefinedAfter schemas predicates earlier ds → (d : Definition) (before : Scalar)
          → definition_of name ds ≡ Some d → d.defined ≡ of.Variable t before → IsScalarOf (out-Ty t) s
          → AreDefinedAfter schemas predicates earlier (map (renewed old name t s) ds)
      renewed_after earlier [] all d before found is fits = absurd (none-some d found)
      renewed_after earlier (x ∷ ds) all d before found is fits =
          by (bytes_eq x.name name) refl found (λ h. renewed_after (earlier ++ known_as schemas predicates earlier x.name x.defined ∷ []) ds all.1 d before h is fits)
        where
          later : List SessionName
          later = earlier ++ known_as schemas predicates earlier x.name x.defined ∷ []

          next : List Definition
          next = map (renewed old name t s) ds

          -- the first of the name is renewed alone
          stays : bytes_eq x.name name ≡ true → ds ≡ next
          stays same =
              sym (others_stay later ds all.1
              (known_now earlier (known_as schemas predicates earlier x.name x.defined)
              (ap (λ (n : List ℕ). bytes_eq n name) (known_name schemas predicates earlier x.name x.defined) ∙ same)))

          by : (b : Bool) → bytes_eq x.name name ≡ b → (if b then Some x else definition_of name ds) ≡ Some d
              → (definition_of name ds ≡ Some d → AreDefinedAfter schemas predicates later next)
              → AreDefinedAfter schemas predicates earlier ((if b then record { name = name; defined = of.Variable t s } else x) ∷ next)
          by true same h rest =
              let named : x.name ≡ name = (bytes_eq-Decides x.name name).0 same in
              let defined_so : x.defined ≡ of.Variable t before = ap (λ (y : Definition). y.defined) (same_Some x d h) ∙ is in
              let known_so : known_as schemas predicates earlier x.name x.defined ≡ known_as schemas predicates earlier name (of.Variable t s) =
              λ i. known_as schemas predicates earlier (named i) (defined_so i) in (
                ((subst (λ (y : Defined). IsDefined schemas predicates earlier y) defined_so all.0).0, fits),
                subst (λ (k : SessionName). AreDefinedAfter schemas predicates (earlier ++ k ∷ []) next) known_so
                    (subst (λ (more : List Definition). AreDefinedAfter schemas predicates later more) (stays same) all.1),
                subst (λ (n : List ℕ). IsNew schemas earlier n) named all.2,
              )
          by false same h rest = (all.0, rest h, all.2)

      -- a variable's type is that of a scalar
      pub variable_scalar : (earlier : List SessionName) (ds : List Definition) → AreDefinedAfter schemas predicates earlier ds → (d : Definition) (before : Scalar)
          → definition_of name ds ≡ Some d → d.defined ≡ of.Variable t before → is_scalar (out-Ty t) ≡ true
      variable_scalar earlier [] all d before found is = absurd (none-some d found)
      variable_scalar earlier (x ∷ ds) all d before found is =
          by (bytes_eq x.name name) found (λ h. variable_scalar (earlier ++ known_as schemas predicates earlier x.name x.defined ∷ []) ds all.1 d before h is)
        where
          by : (b : Bool) → (if b then Some x else definition_of name ds) ≡ Some d → (definition_of name ds ≡ Some d → is_scalar (out-Ty t) ≡ true)
              → is_scalar (out-Ty t) ≡ true
          by true h rest =
              (subst (λ (y : Defined). IsDefined schemas predicates earlier y) (ap (λ (y : Definition). y.defined) (same_Some x d h) ∙ is) all.0).0
          by false h rest = rest h

-- ---- one more definition

pub defined_behind : (schemas : List Schema) (predicates : List HostName) (earlier : List SessionName) (ds : List Definition) (d : Definition)
    → AreDefinedAfter schemas predicates earlier ds → IsDefined schemas predicates (known_after schemas predicates earlier ds) d.defined
    → IsNew schemas (known_after schemas predicates earlier ds) d.name → AreDefinedAfter schemas predicates earlier (ds ++ d ∷ [])
defined_behind schemas predicates earlier [] d all is new = (is, tt, new)
defined_behind schemas predicates earlier (x ∷ ds) d all is new =
    (all.0, defined_behind schemas predicates (earlier ++ known_as schemas predicates earlier x.name x.defined ∷ []) ds d all.1 is new, all.2)

-- ---- types that a scalar's value has

-- the values of one type have a place where the other type is
pub record HasPlaceAt (x y : Ty-F Ty) : Type 0 where
  pub plain : is_plain x ≡ true
  pub fits : (s : Scalar) → IsScalarOf x s → IsScalarOf y s

int_widens : (s : Scalar) → IsScalarOf Ty-F.Int s → IsScalarOf Ty-F.IntN s
int_widens (scalar.Int n) fits = tt
int_widens s fits = absurd fits

null_widens : (y : Ty-F Ty) → is_scalar y ≡ true → widens Ty-F.Null y ≡ true → (s : Scalar) → IsScalarOf Ty-F.Null s → IsScalarOf y s
null_widens Ty-F.IntN is h scalar.Null fits = tt
null_widens Ty-F.Str is h scalar.Null fits = tt
null_widens (Ty-F.Row n) is h scalar.Null fits = absurd (true≢false (sym is))
null_widens (Ty-F.Rec ms) is h scalar.Null fits = absurd (true≢false (sym is))
null_widens y is h scalar.Null fits = absurd (true≢false (sym h))
null_widens y is h s fits = absurd fits

widened : (x y : Ty-F Ty) → is_scalar y ≡ true → widens x y ≡ true → HasPlaceAt x y
widened Ty-F.Int Ty-F.IntN is h = record { plain = refl; fits = int_widens }
widened Ty-F.Null y is h = record { plain = refl; fits = null_widens y is h }
widened x y is h = absurd (true≢false (sym h))

pub converted : (u t : Ty) → is_scalar (out-Ty t) ≡ true → converts u t ≡ true → HasPlaceAt (out-Ty u) (out-Ty t)
converted u t is h = by (same_types u t) refl h where
  by : (b : Bool) → same_types u t ≡ b → (b || widens (out-Ty u) (out-Ty t)) ≡ true → HasPlaceAt (out-Ty u) (out-Ty t)
  by true same g =
      subst (λ (v : Ty). HasPlaceAt (out-Ty u) (out-Ty v)) (same_type u t same)
      (record { plain = scalar_plain (out-Ty u) (subst (λ (v : Ty). is_scalar (out-Ty v) ≡ true) (sym (same_type u t same)) is); fits = λ s fits. fits })
  by false same g = widened (out-Ty u) (out-Ty t) is g

-- ---- what statements leave

-- the same schemas, the same predicates and the same definitions
pub record LeavesNames (old : State) (x : Outcome) : Type 0 where
  pub schemas : schemas_of x.1.tables ≡ schemas_of old.tables
  pub predicates : x.1.predicates ≡ old.predicates
  pub definitions : x.1.definitions ≡ old.definitions

set_there : {A : Type 0} (xs : List A) (n : ℕ) (x : A) → slice_get xs n ≡ Some x → set xs n x ≡ xs
set_there [] n x h = refl
set_there (y ∷ ys) zero x h = ap (λ (z : _). z ∷ ys) (sym (same_Some y x h))
set_there (y ∷ ys) (suc n) x h = ap (λ (more : List _). y ∷ more) (set_there ys n x h)

module _ (old : State) where
  pub if_leaves : (b : Bool) (x y : Outcome) → LeavesNames old x → LeavesNames old y → LeavesNames old (if b then x else y)
  if_leaves true x y first second = first
  if_leaves false x y first second = second

  -- where the state is the old one
  pub old_leaves : (x : Outcome) → x.1 ≡ old → LeavesNames old x
  old_leaves x is = record {
    schemas = ap (λ (s : State). schemas_of s.tables) is;
    predicates = ap (λ (s : State). s.predicates) is;
    definitions = ap (λ (s : State). s.definitions) is;
  }

  pub refused_leaves : (word : List ℕ) → LeavesNames old (refused old word)
  refused_leaves word = record { schemas = refl; predicates = refl; definitions = refl }

  allowed_leaves : (o : Option Denied) (x : Outcome) → LeavesNames old x → LeavesNames old (allowed_by old o x)
  allowed_leaves None x leaves = leaves
  allowed_leaves (Some denied) x leaves = record { schemas = refl; predicates = refl; definitions = refl }

  under_leaves : (name : List ℕ) (o : Option ℕ) → LeavesNames old (under_role old name o)
  under_leaves name None = refused_leaves (codes "role")
  under_leaves name (Some role) = record { schemas = refl; predicates = refl; definitions = refl }

  pub taking_leaves : (name : List ℕ) → LeavesNames old (taking_role old name)
  unfolding taking_role
  taking_leaves name = under_leaves name (first_named (λ role. role.name) name old.policies.roles)

  -- a table with other rows has its schema
  pub table_leaves : (n : ℕ) (table next : Table) → slice_get old.tables n ≡ Some table → next.schema ≡ table.schema
      → schemas_of (with_table old n next).tables ≡ schemas_of old.tables
  table_leaves n table next is same =
      map_set (λ (u : Table). u.schema) old.tables n next ∙ ap (λ (x : Schema). set (schemas_of old.tables) n x) same
      ∙ set_there (schemas_of old.tables) n table.schema (slice_get-map (λ (u : Table). u.schema) old.tables n ∙ ap (option_map (λ (u : Table). u.schema)) is)

  checked_leaves : (n : ℕ) (table : Table) → slice_get old.tables n ≡ Some table → (cells : List Scalar) (o : Option (List ℕ))
      → LeavesNames old (row_checked old n table cells o)
  checked_leaves n table is cells None =
      if_leaves (table.next == 2 ^ 64) _ _ (refused_leaves (codes "full"))
      (record { schemas = table_leaves n table (with_row old table cells) is refl; predicates = refl; definitions = refl })
  checked_leaves n table is cells (Some rule) = record { schemas = refl; predicates = refl; definitions = refl }

  for_leaves : (cells : List Scalar) (n : ℕ) (o : Option Table) → slice_get old.tables n ≡ o → LeavesNames old (row_for old cells n o)
  for_leaves cells n None is = refused_leaves (codes "type")
  for_leaves cells n (Some table) is =
      if_leaves (are_of_columns old table.schema.columns cells) _ _
      (allowed_leaves (denial old.policies old.role (used.Insert n ∷ [])) _
      (if_leaves (are_within_ranges old table.schema.columns cells) _ _ (checked_leaves n table is cells (refuser_of old.policies old.role n cells))
      (refused_leaves (codes "cell"))))
      (refused_leaves (codes "type"))

  for_named_leaves : (cells : List Scalar) (o : Option ℕ) → LeavesNames old (row_for_named old cells o)
  for_named_leaves cells None = refused_leaves (codes "type")
  for_named_leaves cells (Some n) = for_leaves cells n (slice_get old.tables n) refl

  pub inserted_leaves : (name : List ℕ) (cells : List Scalar) → LeavesNames old (inserted old name cells)
  unfolding inserted
  inserted_leaves name cells = for_named_leaves cells (table_number name (schemas_of old.tables))

  removed_leaves : (n : ℕ) (table : Table) → slice_get old.tables n ≡ Some table → (gone : List TableRow) (e : End)
      → LeavesNames old (rows_removed old n table gone e)
  removed_leaves n table is gone end.Done = record { schemas = table_leaves n table (without old gone table) is refl; predicates = refl; definitions = refl }
  removed_leaves n table is gone (end.Fault f) = record { schemas = refl; predicates = refl; definitions = refl }

  rows_leave : (x : List ℕ) (e : Expr) (n : ℕ) (o : Option Table) → slice_get old.tables n ≡ o → LeavesNames old (rows_of old x e n o)
  rows_leave x e n None is = refused_leaves (codes "type")
  rows_leave x e n (Some table) is =
      if_leaves (is_bool_type (expression_type e (with_local (names_in old) x (ty.Row n)))) _ _
      (allowed_leaves (denial old.policies old.role (used.Delete n ∷ uses_of (expression_uses e (with_local (names_in old) x (ty.Row n))))) _
      (removed_leaves n table is (removed_items old x e n table.rows).0 (removed_items old x e n table.rows).1))
      (refused_leaves (codes "type"))

  named_rows_leave : (x : List ℕ) (e : Expr) (o : Option ℕ) → LeavesNames old (rows_of_named old x e o)
  named_rows_leave x e None = refused_leaves (codes "type")
  named_rows_leave x e (Some n) = rows_leave x e n (slice_get old.tables n) refl

  pub deleted_leaves : (name x : List ℕ) (e : Expr) → LeavesNames old (deleted old name x e)
  unfolding deleted
  deleted_leaves name x e = named_rows_leave x e (table_number name (schemas_of old.tables))

-- ---- what statements keep

-- the definitions of a state are as `var` makes them
abbrev pub IsKept : Outcome → Type 0
IsKept x = AreDefined (schemas_of x.1.tables) (host_names x.1) x.1.definitions

pub if_kept : (b : Bool) (x y : Outcome) → IsKept x → IsKept y → IsKept (if b then x else y)
if_kept true x y first second = first
if_kept false x y first second = second

module _ (old : State) (typed : Every IsTypedTable old.tables) (all : AreDefined (schemas_of old.tables) (host_names old) old.definitions) where
  pub leaving_kept : (x : Outcome) → LeavesNames old x → IsKept x
  leaving_kept x leaves =
      subst (λ (ds : List Definition). AreDefined (schemas_of x.1.tables) (host_names x.1) ds) (sym leaves.definitions)
      (subst (λ (predicates : List Predicate). AreDefined (schemas_of x.1.tables) (known_predicates predicates) old.definitions) (sym leaves.predicates)
      (subst (λ (schemas : List Schema). AreDefined schemas (host_names old) old.definitions) (sym leaves.schemas) all))

  allowed_kept : (o : Option Denied) (x : Outcome) → IsKept x → IsKept (allowed_by old o x)
  allowed_kept None x kept = kept
  allowed_kept (Some denied) x kept = all

  -- a value of a type that scalars alone have is a scalar of it
  scalar_kept : (u : Ty) (next : Scalar → Outcome) → ((s : Scalar) → IsScalarOf (out-Ty u) s → IsKept (next s)) → (layer : Value-F TableRow (Value TableRow)) (there : Scalar)
      → IsScalarOf (out-Ty u) there → layer ≡ Value-F.Scalar there → IsKept (with_scalar old next layer)
  scalar_kept u next kept (Value-F.Scalar s) there fits is = let same : there ≡ s = cc in kept s (subst (λ (r : Scalar). IsScalarOf (out-Ty u) r) same fits)
  scalar_kept u next kept layer there fits is = all

  pub evaluated_kept : (e : Expr) (u : Ty) → expression_type e (names_in old) ≡ Some u → is_plain (out-Ty u) ≡ true → (next : Scalar → Outcome)
      → ((s : Scalar) → IsScalarOf (out-Ty u) s → IsKept (next s)) → IsKept (evaluated old e next)
  evaluated_kept e u is plain next kept =
      allowed_kept (denial old.policies old.role (uses_of (expression_uses e (names_in old)))) (with_value old next (expression_meaning (world_in old) e []))
      (by (expression_meaning (world_in old) e []) (agrees old typed all (world_in old).unknown e u is).1)
    where
      by : (m : Result (Value TableRow) Fault) → ((v : Value TableRow) → m ≡ Ok v → IsValueOf (world_in old) u v) → IsKept (with_value old next m)
      by (Err f) fits = all
      by (Ok v) fits =
          let found = plain_value (world_in old) u v plain (fits v refl) in
          scalar_kept u next kept (out-Value TableRow v) found.0 found.2 (ap (out-Value TableRow) found.1 ∙ outs-Scalar found.0)

  -- ---- `var`

  also_kept : (name : List ℕ) (new : Defined) → is_taken old name ≡ false
      → IsDefined (schemas_of old.tables) (host_names old) (known_names (schemas_of old.tables) (host_names old) old.definitions) new
      → AreDefined (schemas_of old.tables) (host_names old) (old.definitions ++ (record { name = name; defined = new }) ∷ [])
  unfolding known_names
  also_kept name new free is =
      defined_behind (schemas_of old.tables) (host_names old) [] old.definitions (record { name = name; defined = new }) all is (by (table_number name (schemas_of old.tables)) (definition_of name old.definitions) refl refl free)
    where
      by : (o : Option ℕ) (p : Option Definition) → table_number name (schemas_of old.tables) ≡ o → definition_of name old.definitions ≡ p → (is_some o || is_some p) ≡ false
          → IsNew (schemas_of old.tables) (known_after (schemas_of old.tables) (host_names old) [] old.definitions) name
      by None None table definition h = (table, unknown_name name (schemas_of old.tables) (host_names old) [] old.definitions refl definition)
      by None (Some d) table definition h = absurd (true≢false h)
      by (Some n) p table definition h = absurd (true≢false h)

  as_kept : (name : List ℕ) (opened : Opened) (e : Expr) (t : Ty) (layer : Ty-F Ty) → is_taken old name ≡ false → expression_type e (names_in old) ≡ Some t → out-Ty t ≡ layer
      → IsKept (defined_as old name opened e t layer)
  as_kept name opened e t (Ty-F.Seq item) free is at = also_kept name (of.Query e opened) free (item, is ∙ ap Some (is_of_layer t ∙ ap type_with at))
  as_kept name opened e t layer free is at = by (is_scalar layer) refl where
    by : (b : Bool) → is_scalar layer ≡ b
        → IsKept (if b then evaluated old e (λ s. (defined_data name, defining_also old name (of.Variable t s))) else refused old (codes "type"))
    by true scalar_so =
        let so : is_scalar (out-Ty t) ≡ true = ap is_scalar at ∙ scalar_so in
        evaluated_kept e t is (scalar_plain (out-Ty t) so) (λ s. (defined_data name, defining_also old name (of.Variable t s)))
        (λ s fits. also_kept name (of.Variable t s) free (so, fits))
    by false other = all

  by_kept : (name : List ℕ) (opened : Opened) (e : Expr) (o : Option Ty) → is_taken old name ≡ false → expression_type e (names_in old) ≡ o
      → IsKept (defined_by old name opened e o)
  by_kept name opened e None free is = all
  by_kept name opened e (Some t) free is = as_kept name opened e t (out-Ty t) free is refl

  pub defined_kept : (name : List ℕ) (opened : Opened) (e : Expr) → IsKept (defined old name opened e)
  unfolding defined
  defined_kept name opened e = by (is_taken old name) refl where
    by : (b : Bool) → is_taken old name ≡ b → IsKept (if b then refused old (codes "type") else defined_by old name opened e (expression_type e (names_in old)))
    by true taken = all
    by false free = by_kept name opened e (expression_type e (names_in old)) free refl

  -- ---- assignments

  assigned_as_kept : (name : List ℕ) (e : Expr) (t : Ty) (before : Scalar) (d : Definition) → definition_of name old.definitions ≡ Some d → d.defined ≡ of.Variable t before
      → (o : Option Ty) → expression_type e (names_in old) ≡ o → IsKept (assigned_as old name e t o)
  assigned_as_kept name e t before d found is None typed_so = all
  assigned_as_kept name e t before d found is (Some u) typed_so = by (converts u t) refl where
    by : (b : Bool) → converts u t ≡ b → IsKept (if b then evaluated old e (λ s. (assigned_data name, assigning old name t s)) else refused old (codes "type"))
    by true converts_so =
        let place = converted u t (variable_scalar name (schemas_of old.tables) (host_names old) t before old [] old.definitions all d before found is) converts_so in
        evaluated_kept e u typed_so place.plain (λ s. (assigned_data name, assigning old name t s))
        (λ s fits. renewed_after name (schemas_of old.tables) (host_names old) t s old [] old.definitions all d before found is (place.fits s fits))
    by false other = all

  assigned_to_kept : (name : List ℕ) (e : Expr) (d : Definition) → definition_of name old.definitions ≡ Some d → (x : Defined) → d.defined ≡ x
      → IsKept (assigned_to old name e x)
  assigned_to_kept name e d found (of.Variable t s) is = assigned_as_kept name e t s d found is (expression_type e (names_in old)) refl
  assigned_to_kept name e d found (of.Query query opened) is = all

  assigned_by_kept : (name : List ℕ) (e : Expr) (o : Option Definition) → definition_of name old.definitions ≡ o → IsKept (assigned_by old name e o)
  assigned_by_kept name e None found = all
  assigned_by_kept name e (Some d) found = assigned_to_kept name e d found d.defined refl

  pub assigned_kept : (name : List ℕ) (e : Expr) → IsKept (assigned old name e)
  unfolding assigned
  assigned_kept name e = assigned_by_kept name e (definition_of name old.definitions) refl

  -- ---- the machine

  pub performed_kept : (opened : Opened) (s : Statement) → IsKept (perform old opened s)
  performed_kept opened (statement.Run x) = all
  performed_kept opened (statement.Define name x) = defined_kept name opened x
  performed_kept opened (statement.Assign name x) = assigned_kept name x
  performed_kept opened (statement.As name) = leaving_kept (taking_role old name) (taking_leaves old name)
  performed_kept opened (statement.Insert name cells) = leaving_kept (inserted old name cells) (inserted_leaves old name cells)
  performed_kept opened (statement.Delete name row x) = leaving_kept (deleted old name row x) (deleted_leaves old name row x)

  step_kept : (opened : Opened) (r : Reading Statement)
      → AreDefined (schemas_of (step_by old opened r).1.tables) (host_names (step_by old opened r).1) (step_by old opened r).1.definitions
  step_kept opened Nothing = all
  step_kept opened (Says s) = if_kept (is_past_opening opened) (refused old (codes "too-deep")) (perform old opened s) all (performed_kept opened s)
  step_kept opened IsNoSyntax = all
  step_kept opened IsTooDeep = all

pub keeps_defined : KeepsDefined
unfolding step
keeps_defined s typed all line = step_kept s typed all (opening_of s.definitions line) (reading_of line)
