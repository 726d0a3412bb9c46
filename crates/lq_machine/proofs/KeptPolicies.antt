-- No line changes the policies, a table's schema or the host predicates.
use Rattle.std.proofs.Common.{◌≡◌, ◌∷◌, ◌==◌, ◌^◌, if◌then◌else◌, List, [], ℕ, Bool, true, false, Option, Some, None, Result, Ok, Err, ap, codes, refl, slice_get, subst, sym, ◌∙◌}
use Rattle.lq_value.specs.Tables.{Table, first_named}
use Rattle.lq_value.specs.declared.scalar.Scalar.{Scalar}
use Rattle.lq_value.specs.declared.table.Schema.{Schema}
use Rattle.lq_value.specs.declared.ty.Ty.{Ty, out-Ty}
use Rattle.lq_value.specs.declared.ty.Ty.TheOpen.{Ty-F}
use Rattle.lq_value.specs.declared.ty.Ty.TheVariants as ty
use Rattle.lq_value.specs.declared.value.End.{End}
use Rattle.lq_value.specs.declared.value.End.TheVariants as end
use Rattle.lq_value.specs.declared.value.Fault.{Fault}
use Rattle.lq_value.specs.declared.value.Value.{Value, out-Value}
use Rattle.lq_value.specs.declared.value.Value.TheOpen.{Value-F}
use Rattle.lq_language.specs.ClauseTyping.{expression_type}
use Rattle.lq_language.specs.Meaning.{expression_meaning}
use Rattle.lq_language.specs.Names.{table_number, with_local}
use Rattle.lq_language.specs.OperandTypes.{is_bool_type, is_scalar}
use Rattle.lq_language.specs.TableRows.{TableRow}
use Rattle.lq_language.specs.Typing.{converts}
use Rattle.lq_language.specs.Mentions.{uses_of}
use Rattle.lq_language.specs.Uses.{expression_uses}
use Rattle.lq_language.specs.declared.rights.Use.TheVariants as used
use Rattle.lq_machine.specs.Definitions.{definition_of}
use Rattle.lq_host.specs.declared.call.Call.{Call}
use Rattle.lq_machine.specs.Machine.{Reply, perform, step, step_by}
use Rattle.lq_machine.specs.Opening.{is_past_opening, opening_of}
use Rattle.lq_machine.specs.Served.{assigned_data, defined_data}
use Rattle.lq_machine.specs.Output.{Answers, as_machine, no_memory}
use Rattle.lq_machine.specs.SessionLaws.{KeepsPolicies, StayReadForTables}
use Rattle.lq_machine.specs.Statements.{Outcome, allowed_by, are_of_columns, are_within_ranges, assigned, assigned_as, assigned_by, assigned_to, assigning, removed_items, defined, defined_as, defined_by, defining_also, deleted, evaluated, inserted, is_taken, refused, row_checked, row_for, row_for_named, rows_of, rows_of_named, rows_removed, taking_role, under_role, with_row, with_scalar, with_value, without}
use Rattle.lq_machine.specs.States.{State, names_in, schemas_of, world_in}
use Rattle.lq_machine.specs.declared.session.Defined.{Defined}
use Rattle.lq_machine.specs.declared.session.Defined.TheVariants as of
use Rattle.lq_machine.specs.declared.session.Definition.{Definition}
use Rattle.lq_machine.specs.declared.session.Opened.{Opened}
use Rattle.lq_grammar.specs.Reading.{Reading, Nothing, Says, IsNoSyntax, IsTooDeep, reading_of}
use Rattle.lq_grammar.specs.declared.syntax.Expr.{Expr}
use Rattle.lq_grammar.specs.declared.syntax.Statement.{Statement}
use Rattle.lq_grammar.specs.declared.syntax.Statement.TheVariants as statement
use Rattle.lq_security.specs.Rights.{Denied, denial}
use Rattle.lq_security.specs.RuleLaws.{AreReadFor}
use Rattle.lq_security.specs.Visible.{refuser_of}
use Rattle.lq_security.specs.declared.policy.PolicyParts.{PolicyParts}
use Rattle.lq_machine.proofs.KeptDefinitionLaws.{table_leaves}

module _ (old : State) where
  -- the state of an outcome has the policies, the schemas and the predicates of the old one
  abbrev Keeps : Outcome → Type 0
  Keeps x = (x.1.policies ≡ old.policies) × (schemas_of x.1.tables ≡ schemas_of old.tables) × (x.1.predicates ≡ old.predicates)

  if_keeps : (b : Bool) (x y : Outcome) → Keeps x → Keeps y → Keeps (if b then x else y)
  if_keeps true x y first second = first
  if_keeps false x y first second = second

  refused_keeps : (word : List ℕ) → Keeps (refused old word)
  refused_keeps word = (refl, refl, refl)

  allowed_keeps : (o : Option Denied) (x : Outcome) → Keeps x → Keeps (allowed_by old o x)
  allowed_keeps None x keeps = keeps
  allowed_keeps (Some denied) x keeps = (refl, refl, refl)

  -- ---- `var`, and assignments

  scalar_keeps : (next : Scalar → Outcome) → ((s : Scalar) → Keeps (next s)) → (layer : Value-F TableRow (Value TableRow)) → Keeps (with_scalar old next layer)
  scalar_keeps next keeps (Value-F.Scalar s) = keeps s
  scalar_keeps next keeps layer = (refl, refl, refl)

  value_keeps : (next : Scalar → Outcome) → ((s : Scalar) → Keeps (next s)) → (m : Result (Value TableRow) Fault) → Keeps (with_value old next m)
  value_keeps next keeps (Ok v) = scalar_keeps next keeps (out-Value TableRow v)
  value_keeps next keeps (Err f) = (refl, refl, refl)

  evaluated_keeps : (e : Expr) (next : Scalar → Outcome) → ((s : Scalar) → Keeps (next s)) → Keeps (evaluated old e next)
  evaluated_keeps e next keeps =
      allowed_keeps (denial old.policies old.role (uses_of (expression_uses e (names_in old)))) _ (value_keeps next keeps (expression_meaning (world_in old) e []))

  as_keeps : (name : List ℕ) (opened : Opened) (e : Expr) (t : Ty) (layer : Ty-F Ty) → Keeps (defined_as old name opened e t layer)
  as_keeps name opened e t (Ty-F.Seq item) = (refl, refl, refl)
  as_keeps name opened e t layer =
      if_keeps (is_scalar layer) (evaluated old e (λ s. (defined_data name, defining_also old name (of.Variable t s)))) (refused old (codes "type"))
      (evaluated_keeps e (λ s. (defined_data name, defining_also old name (of.Variable t s))) (λ s. (refl, refl, refl))) (refl, refl, refl)

  by_keeps : (name : List ℕ) (opened : Opened) (e : Expr) (o : Option Ty) → Keeps (defined_by old name opened e o)
  by_keeps name opened e None = (refl, refl, refl)
  by_keeps name opened e (Some t) = as_keeps name opened e t (out-Ty t)

  defined_keeps : (name : List ℕ) (opened : Opened) (e : Expr) → Keeps (defined old name opened e)
  unfolding defined
  defined_keeps name opened e =
      if_keeps (is_taken old name) (refused old (codes "type")) (defined_by old name opened e (expression_type e (names_in old))) (refl, refl, refl)
      (by_keeps name opened e (expression_type e (names_in old)))

  assigned_as_keeps : (name : List ℕ) (e : Expr) (t : Ty) (o : Option Ty) → Keeps (assigned_as old name e t o)
  assigned_as_keeps name e t None = (refl, refl, refl)
  assigned_as_keeps name e t (Some u) =
      if_keeps (converts u t) (evaluated old e (λ s. (assigned_data name, assigning old name t s))) (refused old (codes "type"))
      (evaluated_keeps e (λ s. (assigned_data name, assigning old name t s)) (λ s. (refl, refl, refl))) (refl, refl, refl)

  assigned_to_keeps : (name : List ℕ) (e : Expr) (d : Defined) → Keeps (assigned_to old name e d)
  assigned_to_keeps name e (of.Variable t s) = assigned_as_keeps name e t (expression_type e (names_in old))
  assigned_to_keeps name e (of.Query query opened) = (refl, refl, refl)

  assigned_by_keeps : (name : List ℕ) (e : Expr) (o : Option Definition) → Keeps (assigned_by old name e o)
  assigned_by_keeps name e None = (refl, refl, refl)
  assigned_by_keeps name e (Some d) = assigned_to_keeps name e d.defined

  assigned_keeps : (name : List ℕ) (e : Expr) → Keeps (assigned old name e)
  unfolding assigned
  assigned_keeps name e = assigned_by_keeps name e (definition_of name old.definitions)

  -- ---- `as`

  under_keeps : (name : List ℕ) (o : Option ℕ) → Keeps (under_role old name o)
  under_keeps name None = (refl, refl, refl)
  under_keeps name (Some role) = (refl, refl, refl)

  taking_keeps : (name : List ℕ) → Keeps (taking_role old name)
  unfolding taking_role
  taking_keeps name = under_keeps name (first_named (λ role. role.name) name old.policies.roles)

  -- ---- `insert`

  checked_keeps : (n : ℕ) (table : Table) → slice_get old.tables n ≡ Some table → (cells : List Scalar) (o : Option (List ℕ)) → Keeps (row_checked old n table cells o)
  checked_keeps n table at cells None =
      if_keeps (table.next == 2 ^ 64) _ _ (refused_keeps (codes "full")) (refl, table_leaves old n table (with_row old table cells) at refl, refl)
  checked_keeps n table at cells (Some rule) = (refl, refl, refl)

  for_keeps : (cells : List Scalar) (n : ℕ) (o : Option Table) → slice_get old.tables n ≡ o → Keeps (row_for old cells n o)
  for_keeps cells n None at = (refl, refl, refl)
  for_keeps cells n (Some table) at =
      if_keeps (are_of_columns old table.schema.columns cells) _ _
      (allowed_keeps (denial old.policies old.role (used.Insert n ∷ [])) _
      (if_keeps (are_within_ranges old table.schema.columns cells) _ _ (checked_keeps n table at cells (refuser_of old.policies old.role n cells))
      (refused_keeps (codes "cell"))))
      (refused_keeps (codes "type"))

  for_named_keeps : (cells : List Scalar) (o : Option ℕ) → Keeps (row_for_named old cells o)
  for_named_keeps cells None = (refl, refl, refl)
  for_named_keeps cells (Some n) = for_keeps cells n (slice_get old.tables n) refl

  inserted_keeps : (name : List ℕ) (cells : List Scalar) → Keeps (inserted old name cells)
  unfolding inserted
  inserted_keeps name cells = for_named_keeps cells (table_number name (schemas_of old.tables))

  -- ---- `delete`

  removed_keeps : (n : ℕ) (table : Table) → slice_get old.tables n ≡ Some table → (gone : List TableRow) (e : End) → Keeps (rows_removed old n table gone e)
  removed_keeps n table at gone end.Done = (refl, table_leaves old n table (without old gone table) at refl, refl)
  removed_keeps n table at gone (end.Fault f) = (refl, refl, refl)

  rows_keep : (x : List ℕ) (e : Expr) (n : ℕ) (o : Option Table) → slice_get old.tables n ≡ o → Keeps (rows_of old x e n o)
  rows_keep x e n None at = (refl, refl, refl)
  rows_keep x e n (Some table) at =
      if_keeps (is_bool_type (expression_type e (with_local (names_in old) x (ty.Row n)))) _ _
      (allowed_keeps (denial old.policies old.role (used.Delete n ∷ uses_of (expression_uses e (with_local (names_in old) x (ty.Row n))))) _
      (removed_keeps n table at (removed_items old x e n table.rows).0 (removed_items old x e n table.rows).1))
      (refused_keeps (codes "type"))

  named_rows_keep : (x : List ℕ) (e : Expr) (o : Option ℕ) → Keeps (rows_of_named old x e o)
  named_rows_keep x e None = (refl, refl, refl)
  named_rows_keep x e (Some n) = rows_keep x e n (slice_get old.tables n) refl

  deleted_keeps : (name x : List ℕ) (e : Expr) → Keeps (deleted old name x e)
  unfolding deleted
  deleted_keeps name x e = named_rows_keep x e (table_number name (schemas_of old.tables))

  -- ---- the machine

  performed_keeps : (opened : Opened) (s : Statement) → Keeps (perform old opened s)
  performed_keeps opened (statement.Run x) = (refl, refl, refl)
  performed_keeps opened (statement.Define name x) = defined_keeps name opened x
  performed_keeps opened (statement.Assign name x) = assigned_keeps name x
  performed_keeps opened (statement.As name) = taking_keeps name
  performed_keeps opened (statement.Insert name cells) = inserted_keeps name cells
  performed_keeps opened (statement.Delete name row x) = deleted_keeps name row x

  read_keeps : (opened : Opened) (r : Reading Statement)
      → ((step_by old opened r).1.policies ≡ old.policies) × (schemas_of (step_by old opened r).1.tables ≡ schemas_of old.tables)
      × ((step_by old opened r).1.predicates ≡ old.predicates)
  read_keeps opened Nothing = (refl, refl, refl)
  read_keeps opened (Says s) = if_keeps (is_past_opening opened) (refused old (codes "too-deep")) (perform old opened s) (refl, refl, refl) (performed_keeps opened s)
  read_keeps opened IsNoSyntax = (refl, refl, refl)
  read_keeps opened IsTooDeep = (refl, refl, refl)

pub keeps_policies : KeepsPolicies
unfolding step
keeps_policies old line = read_keeps old (opening_of old.definitions line) (reading_of line)

-- ---- over a script

stays_after : (old new : State) (line : List ℕ) (reply : Reply) (calls : List Call) → Answers old line reply calls new
    → (new.policies ≡ old.policies) × (schemas_of new.tables ≡ schemas_of old.tables)
stays_after old new line reply calls (as_machine steps allowed) =
    let same : new ≡ (step old line).1 = ap (λ (p : Reply × State). p.1) steps in
    let keeps = keeps_policies old line in
    (ap (λ (s : State). s.policies) same ∙ keeps.0, ap (λ (s : State). schemas_of s.tables) same ∙ keeps.1)
stays_after old new line reply calls (no_memory some is stays allowed) =
    (ap (λ (s : State). s.policies) stays, ap (λ (s : State). schemas_of s.tables) stays)

read_after : (old new : State) → (new.policies ≡ old.policies) × (schemas_of new.tables ≡ schemas_of old.tables) → AreReadFor (schemas_of old.tables) old.policies
    → AreReadFor (schemas_of new.tables) new.policies
read_after old new same read =
    subst (λ (parts : PolicyParts). AreReadFor (schemas_of new.tables) parts) (sym same.0)
    (subst (λ (schemas : List Schema). AreReadFor schemas old.policies) (sym same.1) read)

pub stay_read : StayReadForTables
stay_read old new [] [] calls stays read = subst (λ (s : State). AreReadFor (schemas_of s.tables) s.policies) (sym stays.0) read
stay_read old new [] (reply ∷ replies) calls stays read = absurd stays
stay_read old new (line ∷ lines) [] calls runs read = absurd runs
stay_read old new (line ∷ lines) (reply ∷ replies) calls runs read =
    stay_read runs.0 new lines replies runs.2 runs.5 (read_after old runs.0 (stays_after old runs.0 line reply runs.1 runs.4) read)
