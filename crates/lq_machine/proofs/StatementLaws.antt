-- What a statement's outcome is, case by case, for crates that perform statements.
use Rattle.std.proofs.Common.{◌≡◌, ◌∷◌, ◌==◌, ◌^◌, if◌then◌else◌, List, [], ℕ, Bool, true, false, Option, Some, None, Result, Ok, Err, ap, ◌∙◌, sym, codes, length, slice_get, true≢false}
use Rattle.std.proofs.lemmas.Option.{none-some}
use Rattle.lq_value.specs.Tables.{Table, first_named}
use Rattle.lq_value.specs.declared.scalar.Scalar.{Scalar}
use Rattle.lq_value.specs.declared.ty.Ty.{Ty, out-Ty}
use Rattle.lq_value.specs.declared.ty.Ty.TheOpen.{Ty-F}
use Rattle.lq_value.specs.declared.ty.Ty.TheVariants as ty
use Rattle.lq_value.specs.declared.value.End.TheVariants as end
use Rattle.lq_value.specs.declared.value.Fault.{Fault}
use Rattle.lq_value.specs.declared.value.Value.{Value}
use Rattle.lq_value.specs.declared.value.Value.TheOpen.{Value-F}
use Rattle.lq_value.specs.declared.value.Value.TheVariants as value
use Rattle.lq_value.specs.declared.value.Value.TheVariants.{outs-Scalar}
use Rattle.lq_language.specs.ClauseTyping.{expression_type}
use Rattle.lq_machine.specs.Definitions.{definition_of}
use Rattle.lq_security.specs.Rights.{Denied, denial}
use Rattle.lq_machine.specs.Served.{assigned_data, defined_data, deleted_data, denied_data, inserted_data, role_data}
use Rattle.lq_machine.specs.Statements.{Outcome, allowed_by, are_of_columns, are_within_ranges, assigned, assigned_as, assigned_by, assigned_to, assigning, removed_items, defined, defined_as, defined_by, defining_also, deleted, evaluated, faulted, inserted, is_taken, refused, row_checked, row_for, row_for_named, row_within, rows_of, rows_of_named, rows_removed, taking_role, under_role, with_row, with_scalar, with_table, with_value, without}
use Rattle.lq_machine.specs.States.{State, host_names, names_in, schemas_of, world_in}
use Rattle.lq_language.specs.Names.{Names, table_number, with_local}
use Rattle.lq_language.specs.OperandTypes.{is_bool_type, is_scalar, item_of}
use Rattle.lq_language.specs.Mentions.{uses_of}
use Rattle.lq_language.specs.Uses.{expression_uses}
use Rattle.lq_language.specs.TableRows.{TableRow}
use Rattle.lq_security.specs.Visible.{refuser_of}
use Rattle.lq_language.specs.Meaning.{expression_meaning}
use Rattle.lq_language.specs.Typing.{converts}
use Rattle.lq_language.specs.declared.rights.Use.TheVariants as used
use Rattle.lq_machine.specs.declared.session.Defined.{Defined}
use Rattle.lq_machine.specs.declared.session.Defined.TheVariants as of
use Rattle.lq_machine.specs.declared.session.Definition.{Definition}
use Rattle.lq_machine.specs.declared.session.Opened.{Opened}
use Rattle.lq_grammar.specs.declared.syntax.Expr.{Expr}

-- one of two outcomes
first_of : (b : Bool) (x y : Outcome) → b ≡ true → (if b then x else y) ≡ x
first_of b x y is = ap (λ (c : Bool). if c then x else y) is

second_of : (b : Bool) (x y : Outcome) → b ≡ false → (if b then x else y) ≡ y
second_of b x y is = ap (λ (c : Bool). if c then x else y) is

module _ (old : State) where
  -- what is denied leaves the state
  abbrev pub denied : Denied → Outcome
  denied d = (denied_data (schemas_of old.tables) (host_names old) d.rule d.used, old)

  -- ---- an expression that is evaluated

  module _ (e : Expr) (next : Scalar → Outcome) where
    abbrev denial_of : Option Denied
    denial_of = denial old.policies old.role (uses_of (expression_uses e (names_in old)))

    pub evaluated_denied : (d : Denied) → denial old.policies old.role (uses_of (expression_uses e (names_in old))) ≡ Some d → evaluated old e next ≡ denied d
    evaluated_denied d is = ap (λ (o : Option Denied). allowed_by old o (with_value old next (expression_meaning (world_in old) e []))) is

    evaluated_as : (m : Result (Value TableRow) Fault) → denial old.policies old.role (uses_of (expression_uses e (names_in old))) ≡ None → expression_meaning (world_in old) e [] ≡ m
        → evaluated old e next ≡ with_value old next m
    evaluated_as m allowed is =
        ap (λ (o : Option Denied). allowed_by old o (with_value old next (expression_meaning (world_in old) e []))) allowed ∙ ap (with_value old next) is

    pub evaluated_fault : (f : Fault) → denial old.policies old.role (uses_of (expression_uses e (names_in old))) ≡ None → expression_meaning (world_in old) e [] ≡ Err f
        → evaluated old e next ≡ faulted old f
    evaluated_fault f allowed is = evaluated_as (Err f) allowed is

    pub evaluated_scalar : (s : Scalar) → denial old.policies old.role (uses_of (expression_uses e (names_in old))) ≡ None
        → expression_meaning (world_in old) e [] ≡ Ok (value.Scalar s) → evaluated old e next ≡ next s
    evaluated_scalar s allowed is =
        evaluated_as (Ok (value.Scalar s)) allowed is ∙ ap (λ (layer : Value-F TableRow (Value TableRow)). with_scalar old next layer) (outs-Scalar s)

  -- ---- `var`

  module _ (name : List ℕ) (opened : Opened) (e : Expr) where
    pub defined_taken : is_taken old name ≡ true → defined old name opened e ≡ refused old (codes "type")
    unfolding defined
    defined_taken is = first_of (is_taken old name) _ _ is

    typed_as : (o : Option Ty) → is_taken old name ≡ false → expression_type e (names_in old) ≡ o → defined old name opened e ≡ defined_by old name opened e o
    unfolding defined
    typed_as o free is = second_of (is_taken old name) _ _ free ∙ ap (defined_by old name opened e) is

    pub defined_untyped : is_taken old name ≡ false → expression_type e (names_in old) ≡ None → defined old name opened e ≡ refused old (codes "type")
    defined_untyped free is = typed_as None free is

    module _ (t : Ty) (free : is_taken old name ≡ false) (is : expression_type e (names_in old) ≡ Some t) where
      -- a sequence is stored as its expression
      pub defined_query : (item : Ty) → out-Ty t ≡ Ty-F.Seq item → defined old name opened e ≡ (defined_data name, defining_also old name (of.Query e opened))
      defined_query item at = typed_as (Some t) free is ∙ ap (λ (layer : Ty-F Ty). defined_as old name opened e t layer) at

      other_layer : (layer : Ty-F Ty) → item_of layer ≡ None → is_scalar layer ≡ false → defined_as old name opened e t layer ≡ refused old (codes "type")
      other_layer (Ty-F.Seq item) none other = absurd (none-some item (sym none))
      other_layer layer none other =
          second_of (is_scalar layer) (evaluated old e (λ s. (defined_data name, defining_also old name (of.Variable t s)))) (refused old (codes "type")) other

      -- neither a sequence nor a scalar
      pub defined_other : item_of (out-Ty t) ≡ None → is_scalar (out-Ty t) ≡ false → defined old name opened e ≡ refused old (codes "type")
      defined_other none other = typed_as (Some t) free is ∙ other_layer (out-Ty t) none other

      scalar_layer : (layer : Ty-F Ty) → is_scalar layer ≡ true
          → defined_as old name opened e t layer ≡ evaluated old e (λ s. (defined_data name, defining_also old name (of.Variable t s)))
      scalar_layer (Ty-F.Seq item) so = absurd (true≢false (sym so))
      scalar_layer layer so =
          first_of (is_scalar layer) (evaluated old e (λ s. (defined_data name, defining_also old name (of.Variable t s)))) (refused old (codes "type")) so

      module _ (scalar : is_scalar (out-Ty t) ≡ true) where
        pub evaluates : defined old name opened e ≡ evaluated old e (λ s. (defined_data name, defining_also old name (of.Variable t s)))
        evaluates = typed_as (Some t) free is ∙ scalar_layer (out-Ty t) scalar

        pub defined_denied : (d : Denied) → denial old.policies old.role (uses_of (expression_uses e (names_in old))) ≡ Some d → defined old name opened e ≡ denied d
        defined_denied d denies = evaluates ∙ evaluated_denied e _ d denies

        pub defined_fault : (f : Fault) → denial old.policies old.role (uses_of (expression_uses e (names_in old))) ≡ None → expression_meaning (world_in old) e [] ≡ Err f
            → defined old name opened e ≡ faulted old f
        defined_fault f allowed means = evaluates ∙ evaluated_fault e _ f allowed means

        -- a scalar is stored as its value
        pub defined_scalar : (s : Scalar) → denial old.policies old.role (uses_of (expression_uses e (names_in old))) ≡ None
            → expression_meaning (world_in old) e [] ≡ Ok (value.Scalar s) → defined old name opened e ≡ (defined_data name, defining_also old name (of.Variable t s))
        defined_scalar s allowed means = evaluates ∙ evaluated_scalar e _ s allowed means

  -- ---- assignments

  module _ (name : List ℕ) (e : Expr) where
    pub assigned_unknown : definition_of name old.definitions ≡ None → assigned old name e ≡ refused old (codes "type")
    unfolding assigned
    assigned_unknown is = ap (assigned_by old name e) is

    module _ (d : Definition) (found : definition_of name old.definitions ≡ Some d) where
      assigned_defined : (x : Defined) → d.defined ≡ x → assigned old name e ≡ assigned_to old name e x
      unfolding assigned
      assigned_defined x is = ap (assigned_by old name e) found ∙ ap (assigned_to old name e) is

      pub assigned_query : (query : Expr) (opened : Opened) → d.defined ≡ of.Query query opened → assigned old name e ≡ refused old (codes "type")
      assigned_query query opened is = assigned_defined (of.Query query opened) is

      module _ (t : Ty) (before : Scalar) (variable : d.defined ≡ of.Variable t before) where
        assigned_typed : (o : Option Ty) → expression_type e (names_in old) ≡ o → assigned old name e ≡ assigned_as old name e t o
        assigned_typed o is = assigned_defined (of.Variable t before) variable ∙ ap (assigned_as old name e t) is

        pub assigned_untyped : expression_type e (names_in old) ≡ None → assigned old name e ≡ refused old (codes "type")
        assigned_untyped is = assigned_typed None is

        module _ (u : Ty) (is : expression_type e (names_in old) ≡ Some u) where
          pub assigned_other : converts u t ≡ false → assigned old name e ≡ refused old (codes "type")
          assigned_other isnt = assigned_typed (Some u) is ∙ second_of (converts u t) _ _ isnt

          module _ (place : converts u t ≡ true) where
            pub assigns : assigned old name e ≡ evaluated old e (λ s. (assigned_data name, assigning old name t s))
            assigns = assigned_typed (Some u) is ∙ first_of (converts u t) _ _ place

            pub assigned_denied : (by : Denied) → denial old.policies old.role (uses_of (expression_uses e (names_in old))) ≡ Some by → assigned old name e ≡ denied by
            assigned_denied by denies = assigns ∙ evaluated_denied e _ by denies

            pub assigned_fault : (f : Fault) → denial old.policies old.role (uses_of (expression_uses e (names_in old))) ≡ None → expression_meaning (world_in old) e [] ≡ Err f
                → assigned old name e ≡ faulted old f
            assigned_fault f allowed means = assigns ∙ evaluated_fault e _ f allowed means

            pub assigned_scalar : (s : Scalar) → denial old.policies old.role (uses_of (expression_uses e (names_in old))) ≡ None
                → expression_meaning (world_in old) e [] ≡ Ok (value.Scalar s) → assigned old name e ≡ (assigned_data name, assigning old name t s)
            assigned_scalar s allowed means = assigns ∙ evaluated_scalar e _ s allowed means

  -- ---- `as`

  pub role_unknown : (name : List ℕ) → first_named (λ role. role.name) name old.policies.roles ≡ None → taking_role old name ≡ refused old (codes "role")
  unfolding taking_role
  role_unknown name is = ap (under_role old name) is

  pub role_taken : (name : List ℕ) (n : ℕ) → first_named (λ role. role.name) name old.policies.roles ≡ Some n
      → taking_role old name ≡ (role_data name, record old { role = n })
  unfolding taking_role
  role_taken name n is = ap (under_role old name) is

  -- ---- `insert`

  module _ (name : List ℕ) (cells : List Scalar) where
    pub inserted_nowhere : table_number name (schemas_of old.tables) ≡ None → inserted old name cells ≡ refused old (codes "type")
    unfolding inserted
    inserted_nowhere is = ap (row_for_named old cells) is

    module _ (n : ℕ) (table : Table) (number : table_number name (schemas_of old.tables) ≡ Some n) (at : slice_get old.tables n ≡ Some table) where
      inserted_for : inserted old name cells ≡ row_for old cells n (Some table)
      unfolding inserted
      inserted_for = ap (row_for_named old cells) number ∙ ap (row_for old cells n) at

      pub inserted_untyped : are_of_columns old table.schema.columns cells ≡ false → inserted old name cells ≡ refused old (codes "type")
      inserted_untyped isnt = inserted_for ∙ second_of (are_of_columns old table.schema.columns cells) _ _ isnt

      module _ (are : are_of_columns old table.schema.columns cells ≡ true) where
        abbrev row_by : Option Denied → Outcome
        row_by o = allowed_by old o (row_within old n table cells)

        inserted_by : (o : Option Denied) → denial old.policies old.role (used.Insert n ∷ []) ≡ o → inserted old name cells ≡ row_by o
        inserted_by o is = inserted_for ∙ first_of (are_of_columns old table.schema.columns cells) _ _ are ∙ ap row_by is

        pub inserted_denied : (d : Denied) → denial old.policies old.role (used.Insert n ∷ []) ≡ Some d → inserted old name cells ≡ denied d
        inserted_denied d denies = inserted_by (Some d) denies

        module _ (allowed : denial old.policies old.role (used.Insert n ∷ []) ≡ None) where
          pub inserted_outside : are_within_ranges old table.schema.columns cells ≡ false → inserted old name cells ≡ refused old (codes "cell")
          inserted_outside isnt = inserted_by None allowed ∙ second_of (are_within_ranges old table.schema.columns cells) _ _ isnt

          module _ (within : are_within_ranges old table.schema.columns cells ≡ true) where
            inserted_checked : (o : Option (List ℕ)) → refuser_of old.policies old.role n cells ≡ o → inserted old name cells ≡ row_checked old n table cells o
            inserted_checked o is =
                inserted_by None allowed ∙ first_of (are_within_ranges old table.schema.columns cells) _ _ within ∙ ap (row_checked old n table cells) is

            -- a rule that refuses the row denies it
            pub inserted_refused : (rule : List ℕ) → refuser_of old.policies old.role n cells ≡ Some rule
                → inserted old name cells ≡ (denied_data (schemas_of old.tables) (host_names old) rule (used.Insert n), old)
            inserted_refused rule is = inserted_checked (Some rule) is

            pub inserted_full : refuser_of old.policies old.role n cells ≡ None → (table.next == 2 ^ 64) ≡ true → inserted old name cells ≡ refused old (codes "full")
            inserted_full passes is = inserted_checked None passes ∙ first_of (table.next == 2 ^ 64) _ _ is

            pub inserted_row : refuser_of old.policies old.role n cells ≡ None → (table.next == 2 ^ 64) ≡ false
                → inserted old name cells ≡ (inserted_data, with_table old n (with_row old table cells))
            inserted_row passes is = inserted_checked None passes ∙ second_of (table.next == 2 ^ 64) _ _ is

  -- ---- `delete`

  module _ (name x : List ℕ) (e : Expr) where
    pub deleted_nowhere : table_number name (schemas_of old.tables) ≡ None → deleted old name x e ≡ refused old (codes "type")
    unfolding deleted
    deleted_nowhere is = ap (rows_of_named old x e) is

    module _ (n : ℕ) (table : Table) (number : table_number name (schemas_of old.tables) ≡ Some n) (at : slice_get old.tables n ≡ Some table) where
      -- the names that the condition knows
      abbrev names_at_row : Names
      names_at_row = with_local (names_in old) x (ty.Row n)

      deleted_of : deleted old name x e ≡ rows_of old x e n (Some table)
      unfolding deleted
      deleted_of = ap (rows_of_named old x e) number ∙ ap (rows_of old x e n) at

      pub deleted_untyped : is_bool_type (expression_type e names_at_row) ≡ false → deleted old name x e ≡ refused old (codes "type")
      deleted_untyped isnt = deleted_of ∙ second_of (is_bool_type (expression_type e names_at_row)) _ _ isnt

      module _ (is_condition : is_bool_type (expression_type e names_at_row) ≡ true) where
        abbrev rows_by : Option Denied → Outcome
        rows_by o = allowed_by old o (rows_removed old n table (removed_items old x e n table.rows).0 (removed_items old x e n table.rows).1)

        deleted_by : (o : Option Denied) → denial old.policies old.role (used.Delete n ∷ uses_of (expression_uses e names_at_row)) ≡ o → deleted old name x e ≡ rows_by o
        deleted_by o is = deleted_of ∙ first_of (is_bool_type (expression_type e names_at_row)) _ _ is_condition ∙ ap rows_by is

        pub deleted_denied : (d : Denied) → denial old.policies old.role (used.Delete n ∷ uses_of (expression_uses e names_at_row)) ≡ Some d → deleted old name x e ≡ denied d
        deleted_denied d denies = deleted_by (Some d) denies

        -- a fault removes nothing
        pub deleted_fault : (f : Fault) → denial old.policies old.role (used.Delete n ∷ uses_of (expression_uses e names_at_row)) ≡ None
            → (removed_items old x e n table.rows).1 ≡ end.Fault f → deleted old name x e ≡ faulted old f
        deleted_fault f allowed is = deleted_by None allowed ∙ ap (rows_removed old n table (removed_items old x e n table.rows).0) is

        pub deleted_rows : (gone : List TableRow) → denial old.policies old.role (used.Delete n ∷ uses_of (expression_uses e names_at_row)) ≡ None
            → removed_items old x e n table.rows ≡ (gone, end.Done) → deleted old name x e ≡ (deleted_data (length gone), with_table old n (without old gone table))
        deleted_rows gone allowed is = deleted_by None allowed ∙ ap (λ (s : List TableRow × _). rows_removed old n table s.0 s.1) is

pub ruleset of_definitions = (defined_taken, defined_untyped, defined_query, defined_other, defined_denied, defined_fault, defined_scalar)

pub ruleset of_assignments = (assigned_unknown, assigned_query, assigned_untyped, assigned_other, assigned_denied, assigned_fault, assigned_scalar)

pub ruleset of_roles = (role_unknown, role_taken)

pub ruleset of_inserts = (inserted_nowhere, inserted_untyped, inserted_denied, inserted_outside, inserted_refused, inserted_full, inserted_row)

pub ruleset of_deletes = (deleted_nowhere, deleted_untyped, deleted_denied, deleted_fault, deleted_rows)
