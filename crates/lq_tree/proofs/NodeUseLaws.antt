-- The tree of a node uses what the node uses, in the same order, if the same is so of the expressions in it.
use Rattle.std.proofs.Common.{◌≡◌, ◌∷◌, ◌++◌, if◌then◌else◌, List, [], map, flat_map, ℕ, Bool, true, false, Option, Some, None, ap, ap₂, ◌∙◌, sym, refl, subst, true≢false, option_and_then, option_map, slice_get}
use Rattle.std.proofs.lemmas.Option.{none-some, option_and_then_some, same_Some}
use Rattle.lq_value.specs.declared.scalar.Scalar.TheVariants as scalar
use Rattle.lq_value.specs.declared.table.Schema.{Schema}
use Rattle.lq_value.specs.declared.ty.Ty.{Ty, out-Ty}
use Rattle.lq_value.specs.declared.ty.Ty.TheOpen.{Ty-F}
use Rattle.lq_language.specs.ClauseTyping.{source_type}
use Rattle.lq_language.specs.EnumerableCalls.{EnumerableCall, By, Plain, With, enumerable_call, method_with_lambda, method_with_value, simple_method}
use Rattle.lq_host.specs.declared.call.Pick.{Pick}
use Rattle.lq_language.specs.HostNames.{column_numbers}
use Rattle.lq_language.specs.Maps.{map_field}
use Rattle.lq_language.specs.OperandMeaning.{equality_truth}
use Rattle.lq_language.specs.ValuesOfTypes.{Every}
use Rattle.lq_language.specs.Members.{search_named, sole_argument}
use Rattle.lq_language.specs.Operations.{operation_of}
use Rattle.lq_language.specs.Operators.{Pattern, One, With as Pair}
use Rattle.lq_language.specs.Types.{element_type, is_fresh, is_within}
use Rattle.lq_language.specs.Names.{Names, table_number, with_local, SessionName, column_number}
use Rattle.lq_language.specs.OperandTypes.{coalesced, is_bool, is_equality, is_number, is_text}
use Rattle.lq_language.specs.Uses.{argument_uses, host_named, host_uses, member_uses, name_uses, node_uses, under, global_uses}
use Rattle.lq_language.specs.Meaning.{is_sequence_layer}
use Rattle.lq_language.specs.Typing.{given_type, simple_type, through_type, type_of_choice, type_of_operation}
use Rattle.lq_language.specs.declared.operation.Op.TheVariants as op
use Rattle.lq_language.specs.Mentions.{Mention, Column}
use Rattle.lq_grammar.specs.declared.syntax.Argument.{Argument}
use Rattle.lq_grammar.specs.declared.syntax.Argument.TheVariants as argument
use Rattle.lq_grammar.specs.declared.syntax.Binary.{Binary}
use Rattle.lq_grammar.specs.declared.syntax.Field.{Field}
use Rattle.lq_grammar.specs.declared.syntax.Node.{Node}
use Rattle.lq_grammar.specs.declared.syntax.Node.TheVariants as node
use Rattle.lq_grammar.specs.declared.syntax.Picked.{Picked}
use Rattle.lq_grammar.specs.declared.syntax.Unary.{Unary}
use Rattle.lq_grammar.specs.declared.syntax.Unary.TheVariants as unary
use Rattle.lq_language.proofs.ItemLaws.{every_more}
use Rattle.lq_language.proofs.FindingLaws.{map_by, when_by}
use Rattle.lq_tree.specs.Binding.{Binds, and_tree, binary_form, binary_tree, called_tree, coalesce_tree, conditional_tree, enumerable_tree, field_tree, fields_tree, form_of_field, gathered, host_tree, is_literal, is_object, lambda_tree, member_layer, member_tree, name_tree, node_tree, of_two_trees, operation_at, or_tree, placed_tree, record_tree, search_form, search_tree, settled_form, settled_tree, tested_first, tested_second, unary_tree, within_tree, global_tree}
use Rattle.lq_tree.specs.Places.{Place, Places, names_of_places, place_of, places_of, with_item, with_name, session_place}
use Rattle.lq_tree.specs.UsesOfForms.{UseWhatIsKnown, form_uses}
use Rattle.lq_tree.specs.declared.tree.Form.{Form, out-Form}
use Rattle.lq_tree.specs.declared.tree.Form.TheOpen.{Form-F}
use Rattle.lq_tree.specs.declared.tree.Form.TheVariants as form
use Rattle.lq_tree.specs.declared.tree.Tree.{Tree}
use Rattle.lq_tree.proofs.FormUseLaws.{of_and, of_binary, of_coalesce, of_column, of_conditional, of_first, of_given, of_host, of_is_null, of_key, of_literal, of_member, of_or, of_pair, of_record, of_second, of_sequence, of_simple, of_slot, of_table, of_unary, uses_at}
use Rattle.lq_tree.proofs.HostTrees.{asked_by}
use Rattle.lq_tree.proofs.MemberTrees.{Member, a_column, a_key, a_member, has_value, its_length, its_value, member_by}
use Rattle.lq_tree.proofs.MethodForms.{method_form_uses}
use Rattle.lq_tree.proofs.ScopeLaws.{append_none}
use Rattle.lq_tree.proofs.TypeLaws.{local_place, place_holds, place_known, session_place_holds, type_found}
use Rattle.lq_tree.proofs.WalkLaws.{gathered_all, traversed}

-- ---- forms

-- a sequence in its own form uses what it used
pub settled_used : (t : Ty) (f : Form) → form_uses (settled_form t f) ≡ form_uses f
settled_used t f = by (is_sequence_layer (out-Ty t)) where
  by : (b : Bool) → form_uses (if b then form.Sequence f else f) ≡ form_uses f
  by true = of_sequence f
  by false = refl

literal_used : (f : Form) (layer : Form-F Form) → out-Form f ≡ layer → is_literal layer ≡ true → form_uses f ≡ []
literal_used f (Form-F.Literal s) is h = uses_at f is
literal_used f layer is h = absurd (true≢false (sym h))

-- the operand beside a null one: the other is a literal, or both are evaluated
first_used : (a b : Form) → form_uses (tested_first a b) ≡ form_uses a ++ form_uses b
first_used a b = by (is_literal (out-Form b)) refl where
  by : (c : Bool) → is_literal (out-Form b) ≡ c → form_uses (if c then a else form.First (form.Pair a b)) ≡ form_uses a ++ form_uses b
  by true h = sym (ap (λ us. form_uses a ++ us) (literal_used b (out-Form b) refl h) ∙ append_none (form_uses a))
  by false h = of_first (form.Pair a b) ∙ of_pair a b

second_used : (a b : Form) → form_uses (tested_second a b) ≡ form_uses a ++ form_uses b
second_used a b = by (is_literal (out-Form a)) refl where
  by : (c : Bool) → is_literal (out-Form a) ≡ c → form_uses (if c then b else form.Second (form.Pair a b)) ≡ form_uses a ++ form_uses b
  by true h = sym (ap (λ us. us ++ form_uses b) (literal_used a (out-Form a) refl h))
  by false h = of_second (form.Pair a b) ∙ of_pair a b

binary_used : (sign : Binary) (a b : Tree) → form_uses (binary_form sign a b) ≡ form_uses a.form ++ form_uses b.form
binary_used sign a b = by (is_equality sign) (is_object (out-Ty a.ty)) (is_object (out-Ty b.ty)) where
  by : (c d e : Bool)
      → form_uses (if c then (if d then form.IsNull (equality_truth sign true) (tested_first a.form b.form)
      else (if e then form.IsNull (equality_truth sign true) (tested_second a.form b.form) else form.Binary (operation_of sign) a.form b.form))
      else form.Binary (operation_at sign (out-Ty a.ty) (out-Ty b.ty)) a.form b.form) ≡ form_uses a.form ++ form_uses b.form
  by true true e = of_is_null _ (tested_first a.form b.form) ∙ first_used a.form b.form
  by true false true = of_is_null _ (tested_second a.form b.form) ∙ second_used a.form b.form
  by true false false = of_binary (operation_of sign) a.form b.form
  by false d e = of_binary (operation_at sign (out-Ty a.ty) (out-Ty b.ty)) a.form b.form

-- ---- names

-- one slot more: the parts of what is in it use nothing
places_unused : (p : Pattern) (item : Form) (places : List Place) → form_uses item ≡ [] → Every (λ place. form_uses place.form ≡ []) places
    → Every (λ place. form_uses place.form ≡ []) (places_of p item places)
places_unused (One n t) item places h nothing =
    every_more (λ place. form_uses place.form ≡ []) (record { name = n; ty = t; form = item }) places h nothing
places_unused (Pair p n t) item places h nothing =
    every_more (λ place. form_uses place.form ≡ []) (record { name = n; ty = t; form = form.Second item }) (places_of p (form.First item) places)
    (of_second item ∙ h) (places_unused p (form.First item) places (of_first item ∙ h) nothing)

pub item_unused : (places : Places) (p : Pattern) → UseWhatIsKnown places → UseWhatIsKnown (with_item places p)
item_unused places p nothing =
    record { locals = places_unused p (form.Slot places.depth) places.locals (of_slot places.depth) nothing.locals; session = nothing.session }

module _ (schemas : List Schema) where
  global_used : (x : List ℕ) (places : Places) → Every (λ place. (depth : ℕ) → form_uses (place.form depth) ≡ place.known.uses) places.session
      → (o : Option ℕ) (r : Tree) → global_tree schemas places x o ≡ Some r → form_uses r.form ≡ global_uses (names_of_places schemas places) x o
  global_used x places known (Some n) r h =
      subst (λ (t : Tree). form_uses t.form ≡ global_uses (names_of_places schemas places) x (Some n)) (same_Some _ r h) (of_table n)
  global_used x places known None r h =
      map_by _ (session_place x places.session) r h
      (λ place there is. subst (λ (t : Tree). form_uses t.form ≡ global_uses (names_of_places schemas places) x None) is
      (session_place_holds {P = λ q. (depth : ℕ) → form_uses (q.form depth) ≡ q.known.uses} x places.session known place there places.depth
      ∙ ap (λ (o : Option SessionName). under o (λ s. s.uses)) (sym (place_known x places.session ∙ ap (option_map (λ p. p.known)) there))))

  name_used : (x : List ℕ) (places : Places) (o : Option Place) → ((place : Place) → o ≡ Some place → form_uses place.form ≡ [])
      → Every (λ place. (depth : ℕ) → form_uses (place.form depth) ≡ place.known.uses) places.session → (r : Tree)
      → name_tree schemas places x o ≡ Some r → form_uses r.form ≡ name_uses (option_map (λ place. place.ty) o) x (names_of_places schemas places)
  name_used x places (Some place) nothing known r h = subst (λ (t : Tree). form_uses t.form ≡ []) (same_Some _ r h) (nothing place refl)
  name_used x places None nothing known r h = global_used x places known (table_number x schemas) r h

  -- ---- members

  -- a member that isn't a column
  plain_used : (a f : Form) → form_uses f ≡ form_uses a → form_uses f ≡ form_uses a ++ []
  plain_used a f same = same ∙ sym (append_none (form_uses a))

  layer_used : (names : Names) → names.tables ≡ schemas → (m : List ℕ) (a : Form) (layer : Ty-F Ty) (r : Tree) → Member schemas m a layer r
      → form_uses r.form ≡ form_uses a ++ member_uses names m layer
  layer_used names tables m a _ _ (a_column n c schema column there named at) =
      of_column a n c
      ∙ ap (λ us. form_uses a ++ us)
      (sym (ap (λ (ts : List Schema). under (column_number m (slice_get ts n)) (λ k. Column n k ∷ [])) tables
      ∙ ap (λ (o : Option Schema). under (column_number m o) (λ k. Column n k ∷ [])) there
      ∙ ap (λ (o : Option ℕ). under o (λ k. Column n k ∷ [])) named))
  layer_used names tables m a _ _ (a_member ms place member named there) = plain_used a (form.Member a place) (of_member a place)
  layer_used names tables m a _ _ (a_key k t) = plain_used a (form.Key a) (of_key a)
  layer_used names tables m a _ _ (has_value named) = plain_used a (form.Unary op.HasValue a) (of_unary op.HasValue a)
  layer_used names tables m a _ _ (its_value named) = plain_used a (form.Unary op.Value a) (of_unary op.Value a)
  layer_used names tables m a _ _ (its_length named) = plain_used a (form.Unary op.Length a) (of_unary op.Length a)

  member_used : (places : Places) (m : List ℕ) (a r : Tree) → member_tree schemas m a ≡ Some r
      → form_uses r.form ≡ form_uses a.form ++ member_uses (names_of_places schemas places) m (out-Ty a.ty)
  member_used places m a r h =
      map_by settled_tree (member_layer schemas m a.form (out-Ty a.ty)) r h
      (λ found there is. subst (λ (x : Tree). form_uses x.form ≡ form_uses a.form ++ member_uses (names_of_places schemas places) m (out-Ty a.ty)) is
      (settled_used found.ty found.form ∙ layer_used (names_of_places schemas places) refl m a.form (out-Ty a.ty) found
      (member_by schemas m a.form (out-Ty a.ty) found there)))

  module _ {X : Type 0} (tree : X → Binds) (typed : X → Names → Option Ty) (uses : X → Names → List Mention)
      (alike : (x : X) (places : Places) → type_found (tree x places) ≡ typed x (names_of_places schemas places))
      (used : (x : X) (places : Places) → UseWhatIsKnown places → (r : Tree) → tree x places ≡ Some r → form_uses r.form ≡ uses x (names_of_places schemas places))
      (places : Places) (nothing : UseWhatIsKnown places) where
    abbrev names : Names
    names = names_of_places schemas places

    abbrev Uses : List Mention → Tree → Type 0
    Uses us r = form_uses r.form ≡ us

    here : (x : X) (r : Tree) → tree x places ≡ Some r → Uses (uses x names) r
    here x r h = used x places nothing r h

    type_at : (x : X) (r : Tree) → tree x places ≡ Some r → typed x names ≡ Some r.ty
    type_at x r h = sym (alike x places) ∙ ap type_found h

    -- ---- operators

    unary_used : (sign : Unary) (a r : Tree) → unary_tree sign a ≡ Some r → form_uses r.form ≡ form_uses a.form
    unary_used unary.Minus a r h =
        when_by (is_number (out-Ty a.ty)) _ r h (λ number is. subst (Uses (form_uses a.form)) (same_Some _ r is) (of_unary op.Minus a.form))
    unary_used unary.Not a r h = when_by (is_bool (out-Ty a.ty)) _ r h (λ truth is. subst (Uses (form_uses a.form)) (same_Some _ r is) (of_unary op.Not a.form))

    two_used : (given : Tree → Tree → Option Tree) → ((x y r : Tree) → given x y ≡ Some r → form_uses r.form ≡ form_uses x.form ++ form_uses y.form)
        → (a b : X) (r : Tree) → of_two_trees given (tree a places) (tree b places) ≡ Some r → Uses (uses a names ++ uses b names) r
    two_used given gives a b r h =
        option_and_then_some _ (tree a places) r h
        (λ x x_there found. option_and_then_some (given x) (tree b places) r found
        (λ y y_there made. gives x y r made ∙ ap₂ (λ us vs. us ++ vs) (here a x x_there) (here b y y_there)))

    binary_gives : (sign : Binary) (x y r : Tree) → binary_tree sign x y ≡ Some r → form_uses r.form ≡ form_uses x.form ++ form_uses y.form
    binary_gives sign x y r h =
        map_by _ (type_of_operation sign (out-Ty x.ty) (out-Ty y.ty)) r h
        (λ t typed is. subst (Uses (form_uses x.form ++ form_uses y.form)) is (binary_used sign x y))

    and_gives : (x y r : Tree) → and_tree x y ≡ Some r → form_uses r.form ≡ form_uses x.form ++ form_uses y.form
    and_gives x y r h = when_by _ _ r h (λ truths is. subst (Uses (form_uses x.form ++ form_uses y.form)) (same_Some _ r is) (of_and x.form y.form))

    or_gives : (x y r : Tree) → or_tree x y ≡ Some r → form_uses r.form ≡ form_uses x.form ++ form_uses y.form
    or_gives x y r h = when_by _ _ r h (λ truths is. subst (Uses (form_uses x.form ++ form_uses y.form)) (same_Some _ r is) (of_or x.form y.form))

    coalesce_gives : (x y r : Tree) → coalesce_tree x y ≡ Some r → form_uses r.form ≡ form_uses x.form ++ form_uses y.form
    coalesce_gives x y r h =
        map_by _ (coalesced (out-Ty x.ty) (out-Ty y.ty)) r h
        (λ t typed is. subst (Uses (form_uses x.form ++ form_uses y.form)) is (of_coalesce x.form y.form))

    choice_gives : (c x y r : Tree) → conditional_tree c x y ≡ Some r → form_uses r.form ≡ form_uses c.form ++ (form_uses x.form ++ form_uses y.form)
    choice_gives c x y r h =
        when_by (is_bool (out-Ty c.ty)) _ r h
        (λ truth found. map_by _ (type_of_choice (out-Ty x.ty) (out-Ty y.ty)) r found
        (λ t typed is. subst (Uses (form_uses c.form ++ (form_uses x.form ++ form_uses y.form))) is (of_conditional c.form x.form y.form)))

    choice_used : (c a b : X) (r : Tree) → node_tree schemas tree (node.Conditional c a b) places ≡ Some r
        → Uses (uses c names ++ (uses a names ++ uses b names)) r
    choice_used c a b r h =
        option_and_then_some _ (tree c places) r h
        (λ z z_there found. option_and_then_some _ (tree a places) r found
        (λ x x_there rest. option_and_then_some _ (tree b places) r rest
        (λ y y_there made. choice_gives z x y r made
        ∙ (λ i. here c z z_there i ++ (here a x x_there i ++ here b y y_there i)))))

    -- ---- records

    fields_used : (fields : List (Field X)) (ts : List (Field Tree)) → traversed (field_tree schemas tree places) fields ≡ Some ts
        → flat_map (λ (field : Field Tree). form_uses field.value.form) ts ≡ flat_map (λ field. uses field.value names) fields
    fields_used [] ts h = subst (λ (us : List (Field Tree)). flat_map (λ field. form_uses field.value.form) us ≡ []) (same_Some [] ts h) refl
    fields_used (field ∷ fields) ts h =
        option_and_then_some _ (field_tree schemas tree places field) ts h
        (λ y y_there made. map_by _ (traversed (field_tree schemas tree places) fields) ts made
        (λ us us_there is. subst (λ (ws : List (Field Tree)). flat_map (λ w. form_uses w.value.form) ws
        ≡ uses field.value names ++ flat_map (λ f. uses f.value names) fields) is
        (ap₂ (λ vs ws. vs ++ ws)
        (map_by _ (option_and_then placed_tree (tree field.value places)) y y_there
        (λ found found_there same. subst (λ (w : Field Tree). form_uses w.value.form ≡ uses field.value names) same
        (option_and_then_some placed_tree (tree field.value places) found found_there
        (λ first bound placed. when_by _ _ found placed
        (λ has_place first_is. subst (Uses (uses field.value names)) (same_Some first found first_is) (here field.value first bound))))))
        (fields_used fields us us_there))))

    forms_used : (ts : List (Field Tree)) → flat_map (λ (f : Field (List Mention)). f.value) (map (map_field form_uses) (map form_of_field ts))
        ≡ flat_map (λ (field : Field Tree). form_uses field.value.form) ts
    forms_used [] = refl
    forms_used (t ∷ ts) = ap (λ us. form_uses t.value.form ++ us) (forms_used ts)

    record_used : (fields : List (Field X)) (r : Tree) → record_tree schemas tree fields places ≡ Some r → Uses (flat_map (λ field. uses field.value names) fields) r
    record_used fields r h =
        when_by _ _ r h
        (λ distinct found. option_and_then_some within_tree _ r found
        (λ made made_there within. when_by (is_within made.ty) _ r within
        (λ limited same. map_by fields_tree (gathered (field_tree schemas tree places) fields) made made_there
        (λ ts there is. subst (Uses (flat_map (λ field. uses field.value names) fields)) (is ∙ same_Some made r same)
        (of_record (map form_of_field ts) ∙ forms_used ts
        ∙ fields_used fields ts (sym (gathered_all (field_tree schemas tree places) fields) ∙ there))))))

    -- ---- methods

    abbrev all_arguments : Option Ty → List (Argument X) → List Mention
    all_arguments item arguments = flat_map (argument_uses typed uses names item) arguments

    -- the one argument of a search
    sole_used : (item : Option Ty) (arguments : List (Argument X)) (x : X) → sole_argument arguments ≡ Some x → all_arguments item arguments ≡ uses x names
    sole_used item [] x h = absurd (none-some x h)
    sole_used item (argument.Value y ∷ []) x h = append_none (uses y names) ∙ ap (λ (z : X). uses z names) (same_Some y x h)
    sole_used item (argument.Lambda n y ∷ []) x h = absurd (none-some x h)
    sole_used item (argument.Value y ∷ z ∷ arguments) x h = absurd (none-some x h)
    sole_used item (argument.Lambda n y ∷ z ∷ arguments) x h = absurd (none-some x h)

    search_used : (m : List ℕ) (arguments : List (Argument X)) (item : Option Ty) (a r : Tree) → search_tree schemas tree m arguments a places ≡ Some r
        → Uses (form_uses a.form ++ all_arguments item arguments) r
    search_used m arguments item a r h =
        option_and_then_some _ (search_named m) r h
        (λ o named found. option_and_then_some (search_form o a) (option_and_then (λ x. tree x places) (sole_argument arguments)) r found
        (λ b b_there made. option_and_then_some _ (sole_argument arguments) b b_there
        (λ x x_there bound. when_by (is_text (out-Ty b.ty)) _ r made
        (λ text is. subst (Uses (form_uses a.form ++ all_arguments item arguments)) (same_Some _ r is)
        (of_binary o a.form b.form ∙ ap (λ us. form_uses a.form ++ us) (here x b bound ∙ sym (sole_used item arguments x x_there)))))))

    -- what a method's argument uses, where its items are of this type
    abbrev call_uses : Ty → EnumerableCall X → List Mention
    call_uses t (Plain method) = []
    call_uses t (With method x) = uses x names
    call_uses t (By method n body) = uses body (with_local names n t)

    enumerable_used : (a : Form) (t : Ty) (call : EnumerableCall X) (r : Tree) → enumerable_tree schemas tree places a t call ≡ Some r
        → Uses (form_uses a ++ call_uses t call) r
    enumerable_used a t (Plain method) r h =
        map_by _ (simple_type method t) r h
        (λ u gives is. subst (Uses (form_uses a ++ [])) is (of_simple method t a ∙ sym (append_none (form_uses a))))
    enumerable_used a t (With method x) r h =
        option_and_then_some _ (tree x places) r h
        (λ b bound made. map_by _ (given_type method t (Some b.ty)) r made
        (λ u gives is. subst (Uses (form_uses a ++ uses x names)) is (of_given method a b.form ∙ ap (λ us. form_uses a ++ us) (here x b bound))))
    enumerable_used a t (By method n body) r h =
        option_and_then_some _ (lambda_tree schemas tree places t n body) r h
        (λ f bound made. map_by _ (through_type method t (Some f.ty)) r made
        (λ u gives is. when_by (is_fresh names n) (tree body (with_name places n t)) f bound
        (λ fresh there. subst (Uses (form_uses a ++ uses body (with_local names n t))) is
        (method_form_uses method t f.ty a f.form ∙ ap (λ us. form_uses a ++ us) (used body (with_name places n t) (item_unused places (One n t) nothing) f there)))))

    -- the arguments of a method of what is enumerated
    arguments_used : (m : List ℕ) (arguments : List (Argument X)) (t : Ty) (call : EnumerableCall X) → enumerable_call m arguments ≡ Some call
        → all_arguments (Some t) arguments ≡ call_uses t call
    arguments_used m [] t call h = map_by _ (simple_method m) call h (λ method named is. ap (call_uses t) is)
    arguments_used m (argument.Value x ∷ []) t call h =
        map_by _ (method_with_value m) call h (λ method named is. append_none (uses x names) ∙ ap (call_uses t) is)
    arguments_used m (argument.Lambda n x ∷ []) t call h =
        map_by _ (method_with_lambda m) call h (λ method named is. append_none (uses x (with_local names n t)) ∙ ap (call_uses t) is)
    arguments_used m (argument.Value x ∷ y ∷ arguments) t call h = absurd (none-some call h)
    arguments_used m (argument.Lambda n x ∷ y ∷ arguments) t call h = absurd (none-some call h)

    called_used : (m : List ℕ) (arguments : List (Argument X)) (item : Option Ty) (a r : Tree) → item ≡ element_type (out-Ty a.ty)
        → option_map settled_tree (called_tree schemas tree (enumerable_call m arguments) a places) ≡ Some r
        → Uses (form_uses a.form ++ all_arguments item arguments) r
    called_used m arguments item a r same h =
        map_by settled_tree (called_tree schemas tree (enumerable_call m arguments) a places) r h
        (λ found bound is. option_and_then_some within_tree _ found bound
        (λ made made_bound within. when_by (is_within made.ty) _ found within
        (λ limited made_is. option_and_then_some _ (element_type (out-Ty a.ty)) made made_bound
        (λ t element given. option_and_then_some (enumerable_tree schemas tree places a.form t) (enumerable_call m arguments) made given
        (λ call there tree_there. subst (Uses (form_uses a.form ++ all_arguments item arguments)) is
        (settled_used found.ty found.form
        ∙ ap (λ (x : Tree). form_uses x.form) (sym (same_Some made found made_is))
        ∙ enumerable_used a.form t call made tree_there
        ∙ ap (λ us. form_uses a.form ++ us)
        (sym (ap (λ (o : Option Ty). all_arguments o arguments) (same ∙ element) ∙ arguments_used m arguments t call there))))))))

    method_used : (a : X) (m : List ℕ) (arguments : List (Argument X)) (found r : Tree) → tree a places ≡ Some found → (c : Bool)
        → (if c then search_tree schemas tree m arguments found places
        else option_map settled_tree (called_tree schemas tree (enumerable_call m arguments) found places)) ≡ Some r
        → Uses (uses a names ++ all_arguments (source_type typed a names) arguments) r
    method_used a m arguments found r bound true h =
        search_used m arguments (source_type typed a names) found r h
        ∙ ap (λ us. us ++ all_arguments (source_type typed a names) arguments) (here a found bound)
    method_used a m arguments found r bound false h =
        called_used m arguments (source_type typed a names) found r (ap (option_and_then (λ t. element_type (out-Ty t))) (type_at a found bound)) h
        ∙ ap (λ us. us ++ all_arguments (source_type typed a names) arguments) (here a found bound)

    -- ---- host predicates

    host_used : (p : List ℕ) (row : X) (columns : Picked) (found r : Tree) → tree row places ≡ Some found
        → host_tree schemas places.predicates p columns found ≡ Some r → Uses (node_uses typed uses (node.Host p row columns) names) r
    host_used p row columns found r bound h =
        asked_by schemas places.predicates p columns found r h
        (λ k n numbered known is ints there named same. subst (Uses (node_uses typed uses (node.Host p row columns) names)) same
        (of_host k found.form n numbered ∙ ap (λ us. host_named k n us numbered) (here row found bound)
        ∙ sym (ap (λ (o : Option Ty). under o (λ t. host_uses names p columns (uses row names) (out-Ty t))) (type_at row found bound)
        ∙ ap (host_uses names p columns (uses row names)) is
        ∙ ap (λ (o : Option ℕ). under o (λ q. under (column_numbers (slice_get schemas n) columns) (host_named q n (uses row names)))) known
        ∙ ap (λ (o : Option Pick). under o (host_named k n (uses row names))) there)))

    -- ---- any node

    pub node_used : (n : Node X) (r : Tree) → node_tree schemas tree n places ≡ Some r → Uses (node_uses typed uses n names) r
    node_used (node.Integer n) r h = subst (Uses []) (same_Some _ r h) (of_literal (scalar.Int n))
    node_used (node.Text t) r h = subst (Uses []) (same_Some _ r h) (of_literal (scalar.Text t))
    node_used (node.Bool b) r h = subst (Uses []) (same_Some _ r h) (of_literal (scalar.Bool b))
    node_used node.Null r h = subst (Uses []) (same_Some _ r h) (of_literal scalar.Null)
    node_used (node.Name x) r h =
        name_used x places (place_of x places.locals) (place_holds {P = λ q. form_uses q.form ≡ []} x places.locals nothing.locals) nothing.session r h
        ∙ ap (λ (o : Option Ty). name_uses o x names) (sym (local_place x places.locals))
    node_used (node.Member a m) r h =
        option_and_then_some (member_tree schemas m) (tree a places) r h
        (λ found bound made. member_used places m found r made
        ∙ (λ i. here a found bound i ++ under (sym (type_at a found bound) i) (λ t. member_uses names m (out-Ty t))))
    node_used (node.Unary sign a) r h =
        option_and_then_some (unary_tree sign) (tree a places) r h (λ found bound made. unary_used sign found r made ∙ here a found bound)
    node_used (node.Binary sign a b) r h = two_used (binary_tree sign) (binary_gives sign) a b r h
    node_used (node.And a b) r h = two_used and_tree and_gives a b r h
    node_used (node.Or a b) r h = two_used or_tree or_gives a b r h
    node_used (node.Coalesce a b) r h = two_used coalesce_tree coalesce_gives a b r h
    node_used (node.Conditional c a b) r h = choice_used c a b r h
    node_used (node.Host p row columns) r h =
        option_and_then_some (host_tree schemas places.predicates p columns) (tree row places) r h (λ found bound made. host_used p row columns found r bound made)
    node_used (node.HostOther p xs) r h = absurd (none-some r h)
    node_used (node.New fields) r h = record_used fields r h
    node_used (node.Method a m arguments) r h =
        option_and_then_some _ (tree a places) r h (λ found bound made. method_used a m arguments found r bound (is_text (out-Ty found.ty)) made)
