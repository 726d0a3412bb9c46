-- Names that statements define, and variables that they assign to.
use Rattle.std.proofs.Common.{◌≡◌, ◌∙◌, ◌∷◌, ◌||◌, List, [], ℕ, Bool, true, false, Option, Some, None, Ok, Err, ap, sym, refl, is_some, option_and_then, option_map, bytes_eq, if◌then◌else◌, codes, true≢false}
use Rattle.std.proofs.lemmas.Slice.Eq.{bytes_eq-Decides}
use Rattle.std.proofs.lemmas.Option.{none-some, same_Some}
use Rattle.lq_value.specs.declared.scalar.Scalar.{Scalar}
use Rattle.lq_value.specs.declared.ty.Ty.{Ty, out-Ty}
use Rattle.lq_value.specs.declared.ty.Ty.TheOpen.{Ty-F}
use Rattle.lq_value.specs.declared.ty.Ty.TheVariants as ty
use Rattle.lq_value.specs.declared.ty.Ty.TheVariants.{outs-Seq}
use Rattle.lq_language.specs.ClauseTyping.{expression_type}
use Rattle.lq_machine.specs.DefinitionLaws.{IsNew}
use Rattle.lq_machine.specs.Definitions.{definition_of, known_after, known_names}
use Rattle.lq_machine.specs.Served.{assigned_data, defined_data, error_data, line_of}
use Rattle.lq_machine.specs.States.{State, host_names, names_in, schemas_of}
use Rattle.lq_machine.specs.Statements.{Outcome, assigned, assigning, defined, defined_as, defined_by, defining_also, evaluated, is_taken, refused}
use Rattle.lq_language.specs.Names.{table_number}
use Rattle.lq_language.specs.OperandTypes.{is_scalar, item_of}
use Rattle.lq_language.specs.Typing.{converts}
use Rattle.lq_machine.specs.declared.session.Defined.{Defined}
use Rattle.lq_machine.specs.declared.session.Defined.TheVariants as of
use Rattle.lq_machine.specs.declared.session.Definition.{Definition}
use Rattle.lq_machine.specs.declared.session.Opened.{Opened}
use Rattle.lq_grammar.specs.declared.syntax.Expr.{Expr}
use Rattle.lq_machine.proofs.KeptDefinitionLaws.{converted, unknown_name}
use Rattle.lq_machine.proofs.StatementLaws.{assigned_other, assigned_query, assigned_unknown, assigned_untyped, assigns, defined_taken, defined_untyped}
use Rattle.lq_language.proofs.ValueLaws.{is_plain}
use Rattle.lq_tree.specs.declared.tree.Tree.{Tree}
use Rattle.lq_tree.proofs.SessionPlaceLaws.{types_of_statements}
use Rattle.lq_run.specs.States.{IsValueFor}
use Rattle.lq_run.specs.Statements.{EvaluatesTree, FindsTree, is_of_scalars, tree_in}
use Rattle.lq_run.specs.Stops.{Stops, StopsWith}
use Rattle.lq_run.specs.declared.stop.Stop.{Stop}
use Rattle.lq_run.proofs.StopLaws.{same_stop, stops_refused, stops_with}
use Rattle.lq_session.specs.Performed.{Performs}
use Rattle.lq_session.specs.Variables.{DefinesBy, type_if_variable, variable_type}

-- ---- names

module _ (s : State) (name : List ℕ) where
  -- a name that isn't taken is new
  new_by : (o : Option ℕ) (p : Option Definition) → table_number name (schemas_of s.tables) ≡ o → definition_of name s.definitions ≡ p → (is_some o || is_some p) ≡ false
      → IsNew (schemas_of s.tables) (known_after (schemas_of s.tables) (host_names s) [] s.definitions) name
  new_by None None table definition free = (table, unknown_name name (schemas_of s.tables) (host_names s) [] s.definitions refl definition)
  new_by None (Some d) table definition free = absurd (true≢false free)
  new_by (Some n) p table definition free = absurd (true≢false free)

  pub is_new : is_taken s name ≡ false → IsNew (schemas_of s.tables) (known_names (schemas_of s.tables) (host_names s) s.definitions) name
  unfolding known_names
  is_new free = new_by (table_number name (schemas_of s.tables)) (definition_of name s.definitions) refl refl free

-- ---- types

module _ (s : State) (e : Expr) where
  -- an expression has a tree exactly where it has a type, which is the tree's
  pub no_type : tree_in s e ≡ None → expression_type e (names_in s) ≡ None
  no_type none = sym (types_of_statements (schemas_of s.tables) (host_names s) s.definitions e) ∙ ap (option_map (λ (tree : Tree). tree.ty)) none

  pub type_of : (tree : Tree) → tree_in s e ≡ Some tree → expression_type e (names_in s) ≡ Some tree.ty
  type_of tree is = sym (types_of_statements (schemas_of s.tables) (host_names s) s.definitions e) ∙ ap (option_map (λ (t : Tree). t.ty)) is

-- ---- names that are taken

module _ (s : State) (name : List ℕ) (o : Option ℕ) (found : o ≡ table_number name (schemas_of s.tables)) where
  pub taken_by_table : (b : Bool) → b ≡ is_some o → b ≡ true → b ≡ is_taken s name
  taken_by_table b tells is_there =
      is_there ∙ ap (λ (table : Bool). table || is_some (definition_of name s.definitions)) (sym is_there ∙ tells ∙ ap is_some found)

  pub taken_by_definition : (t b : Bool) (d : Option Definition) → t ≡ is_some o → t ≡ false → d ≡ definition_of name s.definitions → b ≡ is_some d → b ≡ is_taken s name
  taken_by_definition t b d tells is_not there is =
      is ∙ ap is_some there
      ∙ ap (λ (table : Bool). table || is_some (definition_of name s.definitions)) (sym is_not ∙ tells ∙ ap is_some found)

-- what is computed from a value is there exactly where the value is
pub there_too : {A B : Type 0} (f : A → B) (o : Option A) → is_some o ≡ is_some (option_map f o)
there_too f None = refl
there_too f (Some x) = refl

-- ---- definitions

module _ (s : State) (name : List ℕ) (opened : Opened) (e : Expr) where
  pub taken : (why : Stop) → is_taken s name ≡ true → StopsWith (error_data (codes "type")) why → Stops s (defined s name opened e) why
  taken why is so = stops_with s (error_data (codes "type")) (defined s name opened e) why (defined_taken s name opened e is) so

  module _ (free : is_taken s name ≡ false) where
    pub untyped : (why : Stop) → FindsTree (tree_in s e) (Err why) → Stops s (defined s name opened e) why
    untyped why refuses =
        stops_refused s (codes "type") (tree_in s e ≡ None) (defined s name opened e) why (λ none. defined_untyped s name opened e free (no_type s e none)) refuses

    module _ (tree : Tree) (is : tree_in s e ≡ Some tree) where
      defined_of : defined s name opened e ≡ defined_as s name opened e tree.ty (out-Ty tree.ty)
      unfolding defined
      defined_of =
          ap (λ (b : Bool). if b then refused s (codes "type") else defined_by s name opened e (expression_type e (names_in s))) free
          ∙ ap (defined_by s name opened e) (type_of s e tree is)

      pub undefined : (why : Stop) → DefinesBy s opened e tree (Err why) → Stops s (defined s name opened e) why
      undefined why stops = same_stop s (defined s name opened e) (defined_as s name opened e tree.ty (out-Ty tree.ty)) why defined_of (stops name)

      pub defines : (line : List ℕ) (new : State) (given : Defined) → DefinesBy s opened e tree (Ok given) → line ≡ line_of (defined_data name)
          → new ≡ defining_also s name given → Performs (defined s name opened e) s (Ok line) new
      defines line new given by so is =
          let same = sym (defined_of ∙ by.1 name) in (so ∙ ap (λ (o : Outcome). line_of o.0) same, is ∙ ap (λ (o : Outcome). o.1) same)

-- what an expression is defined as that has this tree
module _ (s : State) (opened : Opened) (e : Expr) (tree : Tree) (is : tree_in s e ≡ Some tree) where
  pub defines_query : (item : Ty) → tree.ty ≡ ty.Seq item → DefinesBy s opened e tree (Ok (of.Query e opened))
  defines_query item at = (
    (item, type_of s e tree is ∙ ap Some at),
    λ name. ap (λ (layer : Ty-F Ty). defined_as s name opened e tree.ty layer) (ap out-Ty at ∙ outs-Seq item),
  )

  scalar_as : (name : List ℕ) (layer : Ty-F Ty) → is_scalar layer ≡ true
      → defined_as s name opened e tree.ty layer ≡ evaluated s e (λ v. (defined_data name, defining_also s name (of.Variable tree.ty v)))
  scalar_as name (Ty-F.Seq item) so = absurd (true≢false (sym so))
  scalar_as name layer so =
      ap (λ (b : Bool). if b then evaluated s e (λ v. (defined_data name, defining_also s name (of.Variable tree.ty v))) else refused s (codes "type")) so

  module _ (scalar : is_scalar (out-Ty tree.ty) ≡ true) where
    pub defines_variable : (v : Scalar) → EvaluatesTree s tree (Ok v) → DefinesBy s opened e tree (Ok (of.Variable tree.ty v))
    defines_variable v evaluates = (
      (scalar, (evaluates e is).1),
      λ name. scalar_as name (out-Ty tree.ty) scalar ∙ (evaluates e is).0 (λ w. (defined_data name, defining_also s name (of.Variable tree.ty w))),
    )

    pub unevaluated : (why : Stop) → EvaluatesTree s tree (Err why) → DefinesBy s opened e tree (Err why)
    unevaluated why evaluates name =
        same_stop s (defined_as s name opened e tree.ty (out-Ty tree.ty)) (evaluated s e (λ v. (defined_data name, defining_also s name (of.Variable tree.ty v)))) why
        (scalar_as name (out-Ty tree.ty) scalar) (evaluates e is (λ v. (defined_data name, defining_also s name (of.Variable tree.ty v))))

  other_as : (name : List ℕ) (layer : Ty-F Ty) → item_of layer ≡ None → is_scalar layer ≡ false → defined_as s name opened e tree.ty layer ≡ refused s (codes "type")
  other_as name (Ty-F.Seq item) none other = absurd (none-some item (sym none))
  other_as name layer none other =
      ap (λ (b : Bool). if b then evaluated s e (λ v. (defined_data name, defining_also s name (of.Variable tree.ty v))) else refused s (codes "type")) other

  pub defines_nothing : (why : Stop) → item_of (out-Ty tree.ty) ≡ None → is_scalar (out-Ty tree.ty) ≡ false → StopsWith (error_data (codes "type")) why
      → DefinesBy s opened e tree (Err why)
  defines_nothing why none other so name =
      stops_with s (error_data (codes "type")) (defined_as s name opened e tree.ty (out-Ty tree.ty)) why (other_as name (out-Ty tree.ty) none other) so

-- ---- the variable of a name

plain_scalars : (layer : Ty-F Ty) → is_plain layer ≡ true → is_of_scalars layer ≡ true
plain_scalars Ty-F.Int h = refl
plain_scalars Ty-F.IntN h = refl
plain_scalars Ty-F.Bool h = refl
plain_scalars Ty-F.Str h = refl
plain_scalars Ty-F.Null h = refl
plain_scalars layer h = absurd (true≢false (sym h))

definition_named : (name : List ℕ) (ds : List Definition) (d : Definition) → definition_of name ds ≡ Some d → d.name ≡ name
definition_named name [] d is = absurd (none-some d is)
definition_named name (x ∷ ds) d is = by (bytes_eq x.name name) refl is (definition_named name ds d) where
  by : (b : Bool) → bytes_eq x.name name ≡ b → (if b then Some x else definition_of name ds) ≡ Some d → (definition_of name ds ≡ Some d → d.name ≡ name) → d.name ≡ name
  by true same h rest = sym (ap (λ (y : Definition). y.name) (same_Some x d h)) ∙ (bytes_eq-Decides x.name name).0 same
  by false same h rest = rest h

module _ (s : State) (name : List ℕ) where
  variable_by : (t : Ty) (o : Option Definition) → definition_of name s.definitions ≡ o → option_and_then (λ d. type_if_variable d.defined) o ≡ Some t
      → (before : Scalar) × (definition_of name s.definitions ≡ Some (record { name = name; defined = of.Variable t before }))
  variable_by t None found is = absurd (none-some t is)
  variable_by t (Some d) found is = by d.defined refl is where
    by : (x : Defined) → d.defined ≡ x → type_if_variable x ≡ Some t → (before : Scalar) × (definition_of name s.definitions ≡ Some (record { name = name; defined = of.Variable t before }))
    by (of.Variable u before) at h = (
      before,
      found ∙ (λ i. let there : Definition = record { name = definition_named name s.definitions d found i; defined = at i } in Some there)
          ∙ ap (λ (v : Ty). let there : Definition = record { name = name; defined = of.Variable v before } in Some there) (same_Some u t h),
    )
    by (of.Query e opened) at h = absurd (none-some t h)

  pub variable_found : (t : Ty) → variable_type s.definitions name ≡ Some t
      → (before : Scalar) × (definition_of name s.definitions ≡ Some (record { name = name; defined = of.Variable t before }))
  variable_found t is = variable_by t (definition_of name s.definitions) refl is

  module _ (e : Expr) where
    unassigned_by : (o : Option Definition) → definition_of name s.definitions ≡ o → option_and_then (λ d. type_if_variable d.defined) o ≡ None
        → assigned s name e ≡ refused s (codes "type")
    unassigned_by None found is = assigned_unknown s name e found
    unassigned_by (Some d) found is = by d.defined refl is where
      by : (x : Defined) → d.defined ≡ x → type_if_variable x ≡ None → assigned s name e ≡ refused s (codes "type")
      by (of.Variable u before) at h = absurd (none-some u (sym h))
      by (of.Query query opened) at h = assigned_query s name e d found query opened at

    -- no variable has the name
    pub unassigned : (why : Stop) → variable_type s.definitions name ≡ None → StopsWith (error_data (codes "type")) why → Stops s (assigned s name e) why
    unassigned why is so =
        stops_with s (error_data (codes "type")) (assigned s name e) why (unassigned_by (definition_of name s.definitions) refl is) so

    module _ (t : Ty) (is : variable_type s.definitions name ≡ Some t) where
      abbrev variable : Definition
      variable = record { name = name; defined = of.Variable t (variable_found t is).0 }

      -- and where one has, the expression may have no type
      pub untyped_value : (why : Stop) → FindsTree (tree_in s e) (Err why) → Stops s (assigned s name e) why
      untyped_value why refuses =
          stops_refused s (codes "type") (tree_in s e ≡ None) (assigned s name e) why
          (λ none. assigned_untyped s name e variable (variable_found t is).1 t (variable_found t is).0 refl (no_type s e none)) refuses

      module _ (tree : Tree) (bound : tree_in s e ≡ Some tree) where
        -- or one that doesn't convert
        pub other_value : (why : Stop) → converts tree.ty t ≡ false → StopsWith (error_data (codes "type")) why → Stops s (assigned s name e) why
        other_value why other so =
            stops_with s (error_data (codes "type")) (assigned s name e) why
            (assigned_other s name e variable (variable_found t is).1 t (variable_found t is).0 refl tree.ty (type_of s e tree bound) other) so

        module _ (place : converts tree.ty t ≡ true) where
          -- the expression is evaluated, and the variable has its value
          assigned_of : assigned s name e ≡ evaluated s e (λ v. (assigned_data name, assigning s name t v))
          assigned_of = assigns s name e variable (variable_found t is).1 t (variable_found t is).0 refl tree.ty (type_of s e tree bound) place

          pub no_value : (why : Stop) → EvaluatesTree s tree (Err why) → Stops s (assigned s name e) why
          no_value why evaluates =
              same_stop s (assigned s name e) (evaluated s e (λ v. (assigned_data name, assigning s name t v))) why assigned_of
              (evaluates e bound (λ v. (assigned_data name, assigning s name t v)))

          module _ (scalar : is_scalar (out-Ty t) ≡ true) where
            -- it is a scalar that is assigned
            pub assigns_scalar : is_of_scalars (out-Ty tree.ty) ≡ true
            assigns_scalar = plain_scalars (out-Ty tree.ty) (converted tree.ty t scalar place).plain

            module _ (v : Scalar) (evaluates : EvaluatesTree s tree (Ok v)) where
              -- and one of the variable's type
              pub value_for : IsValueFor s.definitions name v
              value_for = (t, (variable_found t is).0, (variable_found t is).1, (converted tree.ty t scalar place).fits v (evaluates e bound).1)

              pub assigns_value : (line : List ℕ) (new : State) → line ≡ line_of (assigned_data name) → new ≡ assigning s name t v
                  → Performs (assigned s name e) s (Ok line) new
              assigns_value line new so gives =
                  let same = sym (assigned_of ∙ (evaluates e bound).0 (λ w. (assigned_data name, assigning s name t w))) in
                  (so ∙ ap (λ (o : Outcome). line_of o.0) same, gives ∙ ap (λ (o : Outcome). o.1) same)
