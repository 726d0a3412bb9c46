-- Statements over states that look the same: the same replies, and states that look the same again.
use Rattle.std.proofs.Common.{◌≡◌, ◌∷◌, ◌++◌, ◌+◌, ◌^◌, ◌==◌, if◌then◌else◌, List, [], filter, map, ℕ, Bool, true, false, not, Option, Some, None, Result, Ok, Err, ap, ap₂, ◌∙◌, sym, refl, subst, codes, option_map, set, slice_get}
use Rattle.std.specs.Prelude.{is_some, ◌||◌}
use Rattle.std.proofs.lemmas.Option.{none-some, same_Some, slice_get-map}
use Rattle.std.specs.List.{list_any}
use Rattle.serde_json.specs.Data.{Data}
use Rattle.lq_value.specs.Tables.{Table, first_named}
use Rattle.lq_value.specs.declared.scalar.Scalar.{Scalar}
use Rattle.lq_value.specs.declared.table.Schema.{Schema}
use Rattle.lq_value.specs.declared.ty.Ty.{Ty, out-Ty}
use Rattle.lq_value.specs.declared.ty.Ty.TheOpen.{Ty-F}
use Rattle.lq_value.specs.declared.ty.Ty.TheVariants as ty
use Rattle.lq_value.specs.declared.value.End.{End}
use Rattle.lq_value.specs.declared.value.End.TheVariants as end
use Rattle.lq_value.specs.declared.value.Fault.{Fault}
use Rattle.lq_value.specs.declared.value.Value.{Value, out-Value}
use Rattle.lq_value.specs.declared.value.Value.TheOpen.{Value-F}
use Rattle.lq_value.specs.declared.value.Value.TheVariants as value
use Rattle.lq_language.specs.ClauseTyping.{expression_type}
use Rattle.lq_machine.specs.Definitions.{defining, definition_of, known_names, outer_names}
use Rattle.lq_language.specs.Worlds.{World, bound, known_predicates}
use Rattle.lq_language.specs.ClauseMeaning.{condition_at}
use Rattle.lq_security.specs.Rights.{Denied, denial}
use Rattle.lq_machine.specs.Served.{denied_data, assigned_data, defined_data}
use Rattle.lq_machine.specs.SessionLaws.{LooksSame, NumberAlike}
use Rattle.lq_machine.specs.Statements.{Outcome, allowed_by, are_of_columns, are_within_ranges, assigned, assigned_as, assigned_by, assigned_to, assigning, removed_items, defined, defined_as, defined_by, defining_also, deleted, evaluated, if_allowed, inserted, is_taken, refused, renewed, row_checked, row_for, row_for_named, row_put_in, row_within, rows_of, rows_of_named, rows_removed, taking_role, under_role, with_row, with_scalar, with_table, with_value, without}
use Rattle.lq_machine.specs.States.{State, names_in, schemas_of, world_in, world_of}
use Rattle.lq_language.specs.Stream.{Stream, where_by}
use Rattle.lq_language.specs.Names.{Names, table_number, with_local}
use Rattle.lq_language.specs.OperandTypes.{is_bool_type, is_scalar}
use Rattle.lq_language.specs.Mentions.{uses_of}
use Rattle.lq_language.specs.Uses.{expression_uses}
use Rattle.lq_language.specs.TableRows.{TableRow}
use Rattle.lq_security.specs.Visible.{refuser_of, seen_rows, visible_to}
use Rattle.lq_language.specs.Meaning.{expression_meaning}
use Rattle.lq_language.specs.Typing.{converts}
use Rattle.lq_security.specs.declared.policy.Action.TheVariants as action
use Rattle.lq_security.specs.declared.policy.PolicyParts.{PolicyParts}
use Rattle.lq_language.specs.declared.rights.Use.{Use}
use Rattle.lq_language.specs.declared.rights.Use.TheVariants as used
use Rattle.lq_machine.specs.declared.session.Defined.{Defined}
use Rattle.lq_machine.specs.declared.session.Defined.TheVariants as of
use Rattle.lq_machine.specs.declared.session.Definition.{Definition}
use Rattle.lq_machine.specs.declared.session.Opened.{Opened}
use Rattle.lq_grammar.specs.declared.syntax.Expr.{Expr}
use Rattle.lq_security.proofs.LookAlikeLaws.{map_set, removable_seen, seen_append, seen_filter, seen_of, set_seen}

module _ (a b : State) (same : LooksSame a b) where
  -- the same reply, and states that look the same
  pub record Alike (x y : Outcome) : Type 0 where
    pub reply : x.0 ≡ y.0
    pub looks : LooksSame x.1 y.1
    pub numbers : NumberAlike a b → NumberAlike x.1 y.1

  pub names_alike : names_in a ≡ names_in b
  names_alike =
      λ i. outer_names (same.schemas i) (known_predicates (same.predicates i)) (known_names (same.schemas i) (known_predicates (same.predicates i)) (same.definitions i))

  pub world_alike : world_in a ≡ world_in b
  world_alike = λ i. defining (world_of (same.schemas i) (same.predicates i) (same.seen i)) (same.definitions i)

  -- ---- what every statement is made of

  pub stays : (d e : Data) → d ≡ e → Alike (d, a) (e, b)
  stays d e is = record { reply = is; looks = same; numbers = λ n. n }

  pub refused_alike : (word : List ℕ) → Alike (refused a word) (refused b word)
  refused_alike word = stays _ _ refl

  pub if_alike : (c d : Bool) (x y v w : Outcome) → c ≡ d → Alike x y → Alike v w → Alike (if c then x else v) (if d then y else w)
  if_alike c d x y v w is first second = subst (λ (e : Bool). Alike (if c then x else v) (if e then y else w)) is (by c) where
    by : (e : Bool) → Alike (if e then x else v) (if e then y else w)
    by true = first
    by false = second

  allowed_alike : (o : Option Denied) (x y : Outcome) → Alike x y → Alike (allowed_by a o x) (allowed_by b o y)
  allowed_alike None x y h = h
  allowed_alike (Some denied) x y h = stays _ _ (λ i. denied_data (same.schemas i) (known_predicates (same.predicates i)) denied.rule denied.used)

  if_allowed_alike : (us vs : List Use) (x y : Outcome) → us ≡ vs → Alike x y → Alike (if_allowed a us x) (if_allowed b vs y)
  if_allowed_alike us vs x y is h =
      subst (λ (o : Option Denied). Alike (if_allowed a us x) (allowed_by b o y)) (λ i. denial (same.policies i) (same.role i) (is i))
      (allowed_alike (denial a.policies a.role us) x y h)

  scalar_alike : (f g : Scalar → Outcome) → ((s : Scalar) → Alike (f s) (g s)) → (layer : Value-F TableRow (Value TableRow))
      → Alike (with_scalar a f layer) (with_scalar b g layer)
  scalar_alike f g h (Value-F.Scalar s) = h s
  scalar_alike f g h layer = refused_alike (codes "type")

  value_alike : (f g : Scalar → Outcome) → ((s : Scalar) → Alike (f s) (g s)) → (m : Result (Value TableRow) Fault) → Alike (with_value a f m) (with_value b g m)
  value_alike f g h (Ok v) = scalar_alike f g h (out-Value TableRow v)
  value_alike f g h (Err fault) = stays _ _ refl

  evaluated_alike : (e : Expr) (f g : Scalar → Outcome) → ((s : Scalar) → Alike (f s) (g s)) → Alike (evaluated a e f) (evaluated b e g)
  evaluated_alike e f g h =
      if_allowed_alike _ _ _ _ (ap (λ (names : Names). uses_of (expression_uses e names)) names_alike)
      (subst (λ (m : Result (Value TableRow) Fault). Alike (with_value a f (expression_meaning (world_in a) e [])) (with_value b g m))
      (ap (λ (w : World TableRow). expression_meaning w e []) world_alike) (value_alike f g h (expression_meaning (world_in a) e [])))

  -- ---- `var` and assignments

  defining_alike : (name : List ℕ) (d : Defined) → LooksSame (defining_also a name d) (defining_also b name d)
  defining_alike name d = record {
    role = same.role;
    policies = same.policies;
    predicates = same.predicates;
    definitions = ap (λ (ds : List Definition). ds ++ (record { name = name; defined = d }) ∷ []) same.definitions;
    schemas = same.schemas;
    seen = same.seen;
  }

  as_alike : (name : List ℕ) (opened : Opened) (e : Expr) (t : Ty) (layer : Ty-F Ty) → Alike (defined_as a name opened e t layer) (defined_as b name opened e t layer)
  as_alike name opened e t (Ty-F.Seq item) = record { reply = refl; looks = defining_alike name (of.Query e opened); numbers = λ n. n }
  as_alike name opened e t layer =
      if_alike (is_scalar layer) (is_scalar layer) _ _ _ _ refl
      (evaluated_alike e (λ s. (defined_data name, defining_also a name (of.Variable t s))) (λ s. (defined_data name, defining_also b name (of.Variable t s)))
      (λ s. record { reply = refl; looks = defining_alike name (of.Variable t s); numbers = λ n. n })) (refused_alike (codes "type"))

  by_alike : (name : List ℕ) (opened : Opened) (e : Expr) (o : Option Ty) → Alike (defined_by a name opened e o) (defined_by b name opened e o)
  by_alike name opened e None = refused_alike (codes "type")
  by_alike name opened e (Some t) = as_alike name opened e t (out-Ty t)

  pub defined_alike : (name : List ℕ) (opened : Opened) (e : Expr) → Alike (defined a name opened e) (defined b name opened e)
  unfolding defined
  defined_alike name opened e =
      if_alike (is_taken a name) (is_taken b name) _ _ _ _ (λ i. is_some (table_number name (same.schemas i)) || is_some (definition_of name (same.definitions i)))
      (refused_alike (codes "type"))
      (subst (λ (o : Option Ty). Alike (defined_by a name opened e (expression_type e (names_in a))) (defined_by b name opened e o))
      (ap (expression_type e) names_alike) (by_alike name opened e (expression_type e (names_in a))))

  assigning_alike : (name : List ℕ) (t : Ty) (s : Scalar) → LooksSame (assigning a name t s) (assigning b name t s)
  assigning_alike name t s = record {
    role = same.role;
    policies = same.policies;
    predicates = same.predicates;
    definitions = ap (map (renewed a name t s)) same.definitions;
    schemas = same.schemas;
    seen = same.seen;
  }

  assigned_as_alike : (name : List ℕ) (e : Expr) (t : Ty) (o : Option Ty) → Alike (assigned_as a name e t o) (assigned_as b name e t o)
  assigned_as_alike name e t None = refused_alike (codes "type")
  assigned_as_alike name e t (Some u) =
      if_alike (converts u t) (converts u t) _ _ _ _ refl
      (evaluated_alike e (λ s. (assigned_data name, assigning a name t s)) (λ s. (assigned_data name, assigning b name t s))
      (λ s. record { reply = refl; looks = assigning_alike name t s; numbers = λ n. n })) (refused_alike (codes "type"))

  assigned_to_alike : (name : List ℕ) (e : Expr) (d : Defined) → Alike (assigned_to a name e d) (assigned_to b name e d)
  assigned_to_alike name e (of.Variable t s) =
      subst (λ (o : Option Ty). Alike (assigned_as a name e t (expression_type e (names_in a))) (assigned_as b name e t o)) (ap (expression_type e) names_alike)
      (assigned_as_alike name e t (expression_type e (names_in a)))
  assigned_to_alike name e (of.Query query opened) = refused_alike (codes "type")

  assigned_by_alike : (name : List ℕ) (e : Expr) (o : Option Definition) → Alike (assigned_by a name e o) (assigned_by b name e o)
  assigned_by_alike name e None = refused_alike (codes "type")
  assigned_by_alike name e (Some d) = assigned_to_alike name e d.defined

  pub assigned_alike : (name : List ℕ) (e : Expr) → Alike (assigned a name e) (assigned b name e)
  unfolding assigned
  assigned_alike name e =
      subst (λ (o : Option Definition). Alike (assigned_by a name e (definition_of name a.definitions)) (assigned_by b name e o)) (ap (definition_of name) same.definitions)
      (assigned_by_alike name e (definition_of name a.definitions))

  -- ---- `as`, whose replies are the same

  role_by : (name : List ℕ) (o : Option ℕ) → (under_role a name o).0 ≡ (under_role b name o).0
  role_by name None = refl
  role_by name (Some role) = refl

  pub role_alike : (name : List ℕ) → (taking_role a name).0 ≡ (taking_role b name).0
  unfolding taking_role
  role_alike name =
      role_by name (first_named (λ role. role.name) name a.policies.roles)
      ∙ ap (λ (parts : PolicyParts). (under_role b name (first_named (λ role. role.name) name parts.roles)).0) same.policies

  -- ---- tables of the same number

  -- none in both, or two with one schema
  pub data AreTables (n : ℕ) : Type 0 where
    none : slice_get a.tables n ≡ None → slice_get b.tables n ≡ None → AreTables n
    two : (s t : Table) → slice_get a.tables n ≡ Some s → slice_get b.tables n ≡ Some t → s.schema ≡ t.schema → AreTables n

  schemas_at : (n : ℕ) → option_map (λ (t : Table). t.schema) (slice_get a.tables n) ≡ option_map (λ (t : Table). t.schema) (slice_get b.tables n)
  schemas_at n =
      sym (slice_get-map (λ (t : Table). t.schema) a.tables n) ∙ ap (λ (schemas : List Schema). slice_get schemas n) same.schemas
      ∙ slice_get-map (λ (t : Table). t.schema) b.tables n

  pub are_tables : (n : ℕ) → AreTables n
  are_tables n = by (slice_get a.tables n) (slice_get b.tables n) refl refl (schemas_at n) where
    by : (o p : Option Table) → slice_get a.tables n ≡ o → slice_get b.tables n ≡ p → option_map (λ (t : Table). t.schema) o ≡ option_map (λ (t : Table). t.schema) p
        → AreTables n
    by None None is so h = none is so
    by None (Some t) is so h = absurd (none-some _ h)
    by (Some s) None is so h = absurd (none-some _ (sym h))
    by (Some s) (Some t) is so h = two s t is so (same_Some _ _ h)

  rows_alike : (n : ℕ) (s t : Table) → slice_get a.tables n ≡ Some s → slice_get b.tables n ≡ Some t
      → seen_rows a.policies a.role n s.rows ≡ seen_rows b.policies b.role n t.rows
  rows_alike n s t is so =
      same_Some _ _ (sym (seen_of a.policies a.role a.tables n s is) ∙ ap (λ (seen : List (List TableRow)). slice_get seen n) same.seen
      ∙ seen_of b.policies b.role b.tables n t so)

  next_alike : NumberAlike a b → (n : ℕ) (s t : Table) → slice_get a.tables n ≡ Some s → slice_get b.tables n ≡ Some t → s.next ≡ t.next
  next_alike numbers n s t is so =
      same_Some _ _ (sym (slice_get-map (λ (u : Table). u.next) a.tables n ∙ ap (option_map (λ (u : Table). u.next)) is)
      ∙ ap (λ (nexts : List ℕ). slice_get nexts n) numbers ∙ slice_get-map (λ (u : Table). u.next) b.tables n ∙ ap (option_map (λ (u : Table). u.next)) so)

  table_alike : (n : ℕ) (s t : Table) → s.schema ≡ t.schema → seen_rows a.policies a.role n s.rows ≡ seen_rows b.policies b.role n t.rows
      → LooksSame (with_table a n s) (with_table b n t)
  table_alike n s t schema rows = record {
    role = same.role;
    policies = same.policies;
    predicates = same.predicates;
    definitions = same.definitions;
    schemas =
        map_set (λ (u : Table). u.schema) a.tables n s ∙ ap₂ (λ (schemas : List Schema) (x : Schema). set schemas n x) same.schemas schema
        ∙ sym (map_set (λ (u : Table). u.schema) b.tables n t);
    seen =
        set_seen a.policies a.role a.tables n s ∙ ap₂ (λ (seen : List (List TableRow)) (x : List TableRow). set seen n x) same.seen rows
        ∙ sym (set_seen b.policies b.role b.tables n t);
  }

  numbers_alike : (n : ℕ) (s t : Table) → s.next ≡ t.next → NumberAlike a b → NumberAlike (with_table a n s) (with_table b n t)
  numbers_alike n s t next numbers =
      map_set (λ (u : Table). u.next) a.tables n s ∙ ap₂ (λ (nexts : List ℕ) (x : ℕ). set nexts n x) numbers next
      ∙ sym (map_set (λ (u : Table). u.next) b.tables n t)

  -- ---- `insert`

  module _ (n : ℕ) (s t : Table) (is : slice_get a.tables n ≡ Some s) (so : slice_get b.tables n ≡ Some t) (schema : s.schema ≡ t.schema) where
    put_alike : NumberAlike a b → (cells : List Scalar) → Alike (row_put_in a n s cells) (row_put_in b n t cells)
    put_alike numbers cells =
        if_alike (s.next == 2 ^ 64) (t.next == 2 ^ 64) _ _ _ _ (ap (λ (k : ℕ). k == 2 ^ 64) next) (refused_alike (codes "full"))
        (record {
          reply = refl;
          looks =
              table_alike n (with_row a s cells) (with_row b t cells) schema
              (seen_append a.policies a.role n s.rows ((record { number = s.next; cells = cells }) ∷ [])
              ∙ ap₂ (λ (xs ys : List TableRow). xs ++ ys) (rows_alike n s t is so)
              (λ i. seen_rows (same.policies i) (same.role i) n ((record { number = next i; cells = cells }) ∷ []))
              ∙ sym (seen_append b.policies b.role n t.rows ((record { number = t.next; cells = cells }) ∷ [])));
          numbers = numbers_alike n (with_row a s cells) (with_row b t cells) (ap (λ (k : ℕ). k + 1) next);
        })
      where
        next : s.next ≡ t.next
        next = next_alike numbers n s t is so

    checked_alike : NumberAlike a b → (cells : List Scalar) (o : Option (List ℕ)) → Alike (row_checked a n s cells o) (row_checked b n t cells o)
    checked_alike numbers cells None = put_alike numbers cells
    checked_alike numbers cells (Some rule) = stays _ _ (λ i. denied_data (same.schemas i) (known_predicates (same.predicates i)) rule (used.Insert n))

    within_alike : NumberAlike a b → (cells : List Scalar) → Alike (row_within a n s cells) (row_within b n t cells)
    within_alike numbers cells =
        if_alike (are_within_ranges a s.schema.columns cells) (are_within_ranges b t.schema.columns cells) _ _ _ _
        (ap (λ (x : Schema). are_within_ranges a x.columns cells) schema)
        (subst (λ (o : Option (List ℕ)). Alike (row_checked a n s cells (refuser_of a.policies a.role n cells)) (row_checked b n t cells o))
        (λ i. refuser_of (same.policies i) (same.role i) n cells) (checked_alike numbers cells (refuser_of a.policies a.role n cells)))
        (refused_alike (codes "cell"))

    for_alike : NumberAlike a b → (cells : List Scalar) → Alike (row_for a cells n (Some s)) (row_for b cells n (Some t))
    for_alike numbers cells =
        if_alike (are_of_columns a s.schema.columns cells) (are_of_columns b t.schema.columns cells) _ _ _ _
        (ap (λ (x : Schema). are_of_columns a x.columns cells) schema)
        (if_allowed_alike _ _ _ _ refl (within_alike numbers cells)) (refused_alike (codes "type"))

    -- ---- `delete`

    chosen_alike : (x : List ℕ) (e : Expr) → removed_items a x e n s.rows ≡ removed_items b x e n t.rows
    chosen_alike x e =
        ap₂ (λ (w : World TableRow) (rows : List TableRow). picked w rows) world_alike
        (removable_seen a.policies a.role n s.rows
        ∙ (λ i. filter (λ r. visible_to (same.policies i) (same.role i) action.Delete n r.row.cells) (rows_alike n s t is so i))
        ∙ sym (removable_seen b.policies b.role n t.rows))
      where
        picked : World TableRow → List TableRow → Stream TableRow
        picked w rows =
            where_by (λ r. condition_at w expression_type (expression_meaning w) e (bound x (ty.Row n) [] (value.Row r))) rows end.Done

    removed_alike : (gone : List TableRow) (e : End) → Alike (rows_removed a n s gone e) (rows_removed b n t gone e)
    removed_alike gone end.Done = record {
      reply = refl;
      looks =
          table_alike n (without a gone s) (without b gone t) schema
          (seen_filter a.policies a.role n (λ row. not (list_any (λ (r : TableRow). r.row.number == row.number) gone)) s.rows
          ∙ ap (filter (λ (q : TableRow). not (list_any (λ (r : TableRow). r.row.number == q.row.number) gone))) (rows_alike n s t is so)
          ∙ sym (seen_filter b.policies b.role n (λ row. not (list_any (λ (r : TableRow). r.row.number == row.number) gone)) t.rows));
      numbers = λ numbers. numbers_alike n (without a gone s) (without b gone t) (next_alike numbers n s t is so) numbers;
    }
    removed_alike gone (end.Fault f) = stays _ _ refl

    gone_alike : (g h : Stream TableRow) → g ≡ h → Alike (rows_removed a n s g.0 g.1) (rows_removed b n t h.0 h.1)
    gone_alike g h same_rows = subst (λ (k : Stream TableRow). Alike (rows_removed a n s g.0 g.1) (rows_removed b n t k.0 k.1)) same_rows (removed_alike g.0 g.1)

    rows_of_alike : (x : List ℕ) (e : Expr) → Alike (rows_of a x e n (Some s)) (rows_of b x e n (Some t))
    rows_of_alike x e =
        if_alike (is_bool_type (expression_type e (with_local (names_in a) x (ty.Row n)))) (is_bool_type (expression_type e (with_local (names_in b) x (ty.Row n)))) _ _ _ _
        (ap (λ (names : Names). is_bool_type (expression_type e (with_local names x (ty.Row n)))) names_alike)
        (if_allowed_alike _ _ _ _ (ap (λ (names : Names). used.Delete n ∷ uses_of (expression_uses e (with_local names x (ty.Row n)))) names_alike)
        (gone_alike _ _ (chosen_alike x e)))
        (refused_alike (codes "type"))

  named_alike : (cells : List Scalar) → NumberAlike a b → (o : Option ℕ) → Alike (row_for_named a cells o) (row_for_named b cells o)
  named_alike cells numbers None = refused_alike (codes "type")
  named_alike cells numbers (Some n) = by (are_tables n) where
    by : AreTables n → Alike (row_for a cells n (slice_get a.tables n)) (row_for b cells n (slice_get b.tables n))
    by (none is so) =
        subst (λ (o : Option Table). Alike (row_for a cells n o) (row_for b cells n (slice_get b.tables n))) (sym is)
        (subst (λ (o : Option Table). Alike (refused a (codes "type")) (row_for b cells n o)) (sym so) (refused_alike (codes "type")))
    by (two s t is so schema) =
        subst (λ (o : Option Table). Alike (row_for a cells n o) (row_for b cells n (slice_get b.tables n))) (sym is)
        (subst (λ (o : Option Table). Alike (row_for a cells n (Some s)) (row_for b cells n o)) (sym so) (for_alike n s t is so schema numbers cells))

  pub inserted_alike : (name : List ℕ) (cells : List Scalar) → NumberAlike a b → Alike (inserted a name cells) (inserted b name cells)
  unfolding inserted
  inserted_alike name cells numbers =
      subst (λ (o : Option ℕ). Alike (row_for_named a cells (table_number name (schemas_of a.tables))) (row_for_named b cells o)) (ap (table_number name) same.schemas)
      (named_alike cells numbers (table_number name (schemas_of a.tables)))

  rows_named_alike : (x : List ℕ) (e : Expr) (o : Option ℕ) → Alike (rows_of_named a x e o) (rows_of_named b x e o)
  rows_named_alike x e None = refused_alike (codes "type")
  rows_named_alike x e (Some n) = by (are_tables n) where
    by : AreTables n → Alike (rows_of a x e n (slice_get a.tables n)) (rows_of b x e n (slice_get b.tables n))
    by (none is so) =
        subst (λ (o : Option Table). Alike (rows_of a x e n o) (rows_of b x e n (slice_get b.tables n))) (sym is)
        (subst (λ (o : Option Table). Alike (refused a (codes "type")) (rows_of b x e n o)) (sym so) (refused_alike (codes "type")))
    by (two s t is so schema) =
        subst (λ (o : Option Table). Alike (rows_of a x e n o) (rows_of b x e n (slice_get b.tables n))) (sym is)
        (subst (λ (o : Option Table). Alike (rows_of a x e n (Some s)) (rows_of b x e n o)) (sym so) (rows_of_alike n s t is so schema x e))

  pub deleted_alike : (name x : List ℕ) (e : Expr) → Alike (deleted a name x e) (deleted b name x e)
  unfolding deleted
  deleted_alike name x e =
      subst (λ (o : Option ℕ). Alike (rows_of_named a x e (table_number name (schemas_of a.tables))) (rows_of_named b x e o)) (ap (table_number name) same.schemas)
      (rows_named_alike x e (table_number name (schemas_of a.tables)))
