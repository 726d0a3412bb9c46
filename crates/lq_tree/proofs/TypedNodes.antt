-- The tree of a node is typed, if the same is so of the expressions in it.
use Rattle.std.proofs.Common.{◌≡◌, ◌∷◌, ◌++◌, ◌+◌, ◌&&◌, if◌then◌else◌, List, [], map, length, ℕ, Bool, true, false, Option, Some, None, ap, ◌∙◌, sym, refl, subst, true≢false, option_and_then, option_map, slice_get}
use Rattle.std.proofs.lemmas.Bool.{and_parts}
use Rattle.std.proofs.lemmas.Option.{none-some, option_and_then_some, same_Some}
use Rattle.lq_value.specs.declared.scalar.Scalar.TheVariants as scalar
use Rattle.lq_value.specs.declared.table.Schema.{Schema}
use Rattle.lq_value.specs.declared.ty.Ty.{Ty, out-Ty}
use Rattle.lq_value.specs.declared.ty.Ty.TheOpen.{Ty-F}
use Rattle.lq_value.specs.declared.ty.Ty.TheVariants as ty
use Rattle.lq_value.specs.declared.ty.Ty.TheVariants.{outs-Bool, outs-Int, outs-Null, outs-Str}
use Rattle.lq_language.specs.EnumerableCalls.{EnumerableCall, By, Plain, With, enumerable_call}
use Rattle.lq_language.specs.OperandMeaning.{equality_truth}
use Rattle.lq_language.specs.ValuesOfTypes.{Every, IsScalarOf}
use Rattle.lq_language.specs.Members.{search_named, sole_argument}
use Rattle.lq_language.specs.Operations.{operation_of}
use Rattle.lq_language.specs.Operators.{Pattern, One, With as Pair}
use Rattle.lq_language.specs.Types.{element_type, is_fresh, is_within}
use Rattle.lq_language.specs.Names.{table_number, type_of_column}
use Rattle.lq_language.specs.OperandTypes.{coalesced, is_bool, is_equality, is_number, is_text}
use Rattle.lq_language.specs.Meaning.{is_sequence_layer}
use Rattle.lq_language.specs.Typing.{given_type, simple_type, through_type, type_of_choice, type_of_operation}
use Rattle.lq_language.specs.declared.operation.Op.{Op}
use Rattle.lq_grammar.specs.declared.syntax.Argument.{Argument}
use Rattle.lq_grammar.specs.declared.syntax.Binary.{Binary}
use Rattle.lq_grammar.specs.declared.syntax.Binary.TheVariants as binary
use Rattle.lq_grammar.specs.declared.syntax.Field.{Field}
use Rattle.lq_grammar.specs.declared.syntax.Node.{Node}
use Rattle.lq_grammar.specs.declared.syntax.Node.TheVariants as node
use Rattle.lq_grammar.specs.declared.syntax.Unary.{Unary}
use Rattle.lq_grammar.specs.declared.syntax.Unary.TheVariants as unary
use Rattle.lq_language.proofs.ItemLaws.{every_more, table_there}
use Rattle.lq_language.proofs.FindingLaws.{map_by, when_by}
use Rattle.lq_language.proofs.TypingLaws.{is_of_layer, type_with}
use Rattle.lq_language.proofs.ValueLaws.{is_plain}
use Rattle.lq_tree.specs.Binding.{Binds, and_tree, binary_form, binary_tree, called_tree, coalesce_tree, conditional_tree, enumerable_tree, field_tree, fields_tree, form_of_field, gathered, global_tree, host_tree, is_literal, is_object, lambda_tree, member_layer, member_tree, name_tree, node_tree, of_two_trees, operation_at, or_tree, placed_tree, record_tree, search_form, search_tree, settled_tree, tested_first, tested_second, type_of_field, unary_tree, within_tree}
use Rattle.lq_tree.specs.Places.{Place, Places, names_of_places, place_of, places_of, session_place, with_item, with_name}
use Rattle.lq_tree.specs.TypedForms.{Both, Gives, IsTyped, IsTypedForm, Many, Members, Of, Shape, shape_of, with_slot}
use Rattle.lq_tree.specs.TypedForms as rule
use Rattle.lq_tree.specs.TypedFormLaws.{AreTyped}
use Rattle.lq_tree.specs.declared.tree.Form.{Form, out-Form}
use Rattle.lq_tree.specs.declared.tree.Form.TheVariants as form
use Rattle.lq_tree.specs.declared.tree.Tree.{Tree}
use Rattle.lq_tree.proofs.HostTrees.{asked_by}
use Rattle.lq_tree.proofs.MemberTrees.{Member, a_column, a_key, a_member, column_known, has_value, its_length, its_value, member_by}
use Rattle.lq_tree.proofs.MethodForms.{method_form_typed}
use Rattle.lq_tree.proofs.OperandLemmas.{computed_plain, type_of_computed, type_of_equality}
use Rattle.lq_tree.proofs.ScopeLaws.{append_behind, append_none, at_end, length_one_more}
use Rattle.lq_tree.proofs.TypeLaws.{place_holds, session_place_holds}
use Rattle.lq_tree.proofs.WalkLaws.{gathered_all, traversed}

-- ---- which operator a sign is

operation_same : (sign : Binary) (k l : Ty-F Ty) → is_equality sign ≡ true → operation_at sign k l ≡ operation_of sign
operation_same binary.Add k l h = absurd (true≢false (sym h))
operation_same sign k l h = refl

plain_no_object : (layer : Ty-F Ty) → is_plain layer ≡ true → is_object layer ≡ false
plain_no_object (Ty-F.Row n) h = absurd (true≢false (sym h))
plain_no_object (Ty-F.Rec ms) h = absurd (true≢false (sym h))
plain_no_object (Ty-F.Group k t) h = absurd (true≢false (sym h))
plain_no_object layer h = refl

-- what is computed has operands that are scalars
no_object : (sign : Binary) (k l : Ty-F Ty) (r : Ty) → is_equality sign ≡ false → type_of_operation sign k l ≡ Some r
    → (is_object k ≡ false) × (is_object l ≡ false)
no_object sign k l r other h =
    let plain = computed_plain sign k l r (type_of_computed sign k l r other h) in (plain_no_object k plain.0, plain_no_object l plain.1)

module _ (schemas : List Schema) where
  abbrev pub Typed : List Shape → Form → Shape → Type 0
  Typed = IsTypedForm schemas

  -- a tree gives what its type says
  abbrev pub IsTypedTree : List Shape → Tree → Type 0
  IsTypedTree shapes r = Typed shapes r.form (Of r.ty)

  -- ---- forms

  settled_by : (shapes : List Shape) (t : Ty) (f : Form) → Typed shapes f (Of t) → (layer : Ty-F Ty) → out-Ty t ≡ layer
      → Typed shapes (if is_sequence_layer layer then form.Sequence f else f) (Of t)
  settled_by shapes t f h (Ty-F.Seq u) is =
      subst (λ (x : Ty). Typed shapes (form.Sequence f) (Of x)) (sym (is_of_layer t ∙ ap type_with is))
      (rule.by_type shapes (form.Sequence f) (Many (Of u)) (rule.of_sequence shapes f (Of u) (rule.by_elements shapes f t u h (ap element_type is))))
  settled_by shapes t f h layer is = h

  pub settled_typed : (shapes : List Shape) (tree : Tree) → IsTypedTree shapes tree → IsTypedTree shapes (settled_tree tree)
  settled_typed shapes tree h = settled_by shapes tree.ty tree.form h (out-Ty tree.ty) refl

  first_typed : (shapes : List Shape) (a b : Form) (s t : Ty) → Typed shapes a (Of s) → Typed shapes b (Of t) → Typed shapes (tested_first a b) (Of s)
  first_typed shapes a b s t h k = by (is_literal (out-Form b)) where
    by : (c : Bool) → Typed shapes (if c then a else form.First (form.Pair a b)) (Of s)
    by true = h
    by false = rule.of_first shapes (form.Pair a b) (Of s) (Of t) (rule.of_pair shapes a b (Of s) (Of t) h k)

  second_typed : (shapes : List Shape) (a b : Form) (s t : Ty) → Typed shapes a (Of s) → Typed shapes b (Of t) → Typed shapes (tested_second a b) (Of t)
  second_typed shapes a b s t h k = by (is_literal (out-Form a)) where
    by : (c : Bool) → Typed shapes (if c then b else form.Second (form.Pair a b)) (Of t)
    by true = k
    by false = rule.of_second shapes (form.Pair a b) (Of s) (Of t) (rule.of_pair shapes a b (Of s) (Of t) h k)

  binary_typed : (shapes : List Shape) (sign : Binary) (a b : Tree) (r : Ty) → IsTypedTree shapes a → IsTypedTree shapes b
      → type_of_operation sign (out-Ty a.ty) (out-Ty b.ty) ≡ Some r → Typed shapes (binary_form sign a b) (Of r)
  binary_typed shapes sign a b r h k found =
      by (is_equality sign) (is_object (out-Ty a.ty)) (is_object (out-Ty b.ty)) refl refl refl
    where
      by : (c d e : Bool) → is_equality sign ≡ c → is_object (out-Ty a.ty) ≡ d → is_object (out-Ty b.ty) ≡ e
          → Typed shapes (if c then (if d then form.IsNull (equality_truth sign true) (tested_first a.form b.form)
          else (if e then form.IsNull (equality_truth sign true) (tested_second a.form b.form) else form.Binary (operation_of sign) a.form b.form))
          else form.Binary (operation_at sign (out-Ty a.ty) (out-Ty b.ty)) a.form b.form) (Of r)
      by true true e c_is d_is e_is =
          subst (λ (t : Ty). Typed shapes (form.IsNull (equality_truth sign true) (tested_first a.form b.form)) (Of t))
          (type_of_equality sign (out-Ty a.ty) (out-Ty b.ty) r c_is found).1
          (rule.of_is_null shapes (equality_truth sign true) (tested_first a.form b.form) a.ty (first_typed shapes a.form b.form a.ty b.ty h k) d_is)
      by true false true c_is d_is e_is =
          subst (λ (t : Ty). Typed shapes (form.IsNull (equality_truth sign true) (tested_second a.form b.form)) (Of t))
          (type_of_equality sign (out-Ty a.ty) (out-Ty b.ty) r c_is found).1
          (rule.of_is_null shapes (equality_truth sign true) (tested_second a.form b.form) b.ty (second_typed shapes a.form b.form a.ty b.ty h k) e_is)
      by true false false c_is d_is e_is =
          subst (λ (o : Op). Typed shapes (form.Binary o a.form b.form) (Of r)) (operation_same sign (out-Ty a.ty) (out-Ty b.ty) c_is)
          (rule.of_sign shapes a.form b.form sign a.ty b.ty r h d_is k e_is found)
      by false d e c_is d_is e_is =
          let none = no_object sign (out-Ty a.ty) (out-Ty b.ty) r c_is found in
          rule.of_sign shapes a.form b.form sign a.ty b.ty r h none.0 k none.1 found

  -- ---- places

  -- the form of a name in slots that hold such, and in further ones
  abbrev pub Stays : List Shape → Place → Type 0
  Stays shapes place = (more : List Shape) → Typed (shapes ++ more) place.form (Of place.ty)

  item_places : (shapes : List Shape) (p : Pattern) (item : Form) (places : List Place) → ((more : List Shape) → Typed (shapes ++ more) item (shape_of p))
      → Every (Stays shapes) places → Every (Stays shapes) (places_of p item places)
  item_places shapes (One n t) item places h rest = every_more (Stays shapes) (record { name = n; ty = t; form = item }) places h rest
  item_places shapes (Pair p n t) item places h rest =
      every_more (Stays shapes) (record { name = n; ty = t; form = form.Second item }) (places_of p (form.First item) places)
      (λ more. rule.of_second (shapes ++ more) item (shape_of p) (Of t) (h more))
      (item_places shapes p (form.First item) places (λ more. rule.of_first (shapes ++ more) item (shape_of p) (Of t) (h more)) rest)

  -- the slot that comes next
  pub slot_typed : (shapes : List Shape) (n : ℕ) (s : Shape) (more : List Shape) → length shapes ≡ n → Typed (with_slot shapes s ++ more) (form.Slot n) s
  slot_typed shapes n s more is =
      rule.of_slot (with_slot shapes s ++ more) n s
      (subst (λ (k : ℕ). slice_get (with_slot shapes s ++ more) k ≡ Some s) is (at_end shapes s more))

  pub item_typed : (shapes : List Shape) (places : Places) (p : Pattern) → AreTyped schemas shapes places
      → AreTyped schemas (with_slot shapes (shape_of p)) (with_item places p)
  item_typed shapes places p known = record {
    depth = length_one_more shapes (shape_of p) ∙ ap (λ n. n + 1) known.depth;
    locals = item_places (with_slot shapes (shape_of p)) p (form.Slot places.depth) places.locals
        (λ more. slot_typed shapes places.depth (shape_of p) more known.depth)
        (λ k place there more. subst (λ (x : List Shape). Typed x place.form (Of place.ty)) (sym (append_behind shapes (shape_of p ∷ []) more))
        (known.locals k place there (shape_of p ∷ more)));
    session = known.session;
  }

  -- ---- members

  layer_typed : (shapes : List Shape) (m : List ℕ) (t : Ty) (layer : Ty-F Ty) (a : Form) (r : Tree) → out-Ty t ≡ layer → Typed shapes a (Of t)
      → Member schemas m a layer r → IsTypedTree shapes r
  layer_typed shapes m t _ a _ is h (a_column n c schema column there named at) =
      let known = column_known schemas m n c schema column there named at in
      rule.of_column shapes a n c m t (type_of_column column.ty) h is known.0 known.1
  layer_typed shapes m t _ a _ is h (a_member ms place member named there) = rule.of_member shapes a place t ms member h is there
  layer_typed shapes m t _ a _ is h (a_key k u) = rule.of_key shapes a t k u h is
  layer_typed shapes m t _ a _ is h (has_value named) = rule.of_has_value shapes a t h is
  layer_typed shapes m t _ a _ is h (its_value named) = rule.of_value shapes a t h is
  layer_typed shapes m t _ a _ is h (its_length named) = rule.of_length shapes a t h is

  member_typed : (shapes : List Shape) (m : List ℕ) (a r : Tree) → IsTypedTree shapes a → member_tree schemas m a ≡ Some r → IsTypedTree shapes r
  member_typed shapes m a r h found =
      map_by settled_tree (member_layer schemas m a.form (out-Ty a.ty)) r found
      (λ x there is. subst (IsTypedTree shapes) is (settled_typed shapes x (layer_typed shapes m a.ty (out-Ty a.ty) a.form x refl h (member_by schemas m a.form (out-Ty a.ty) x there))))

  -- ---- operators

  unary_typed : (shapes : List Shape) (sign : Unary) (a r : Tree) → IsTypedTree shapes a → unary_tree sign a ≡ Some r → IsTypedTree shapes r
  unary_typed shapes unary.Minus a r h found =
      when_by (is_number (out-Ty a.ty)) _ r found (λ number is. subst (IsTypedTree shapes) (same_Some _ r is) (rule.of_minus shapes a.form a.ty h number))
  unary_typed shapes unary.Not a r h found =
      when_by (is_bool (out-Ty a.ty)) _ r found (λ truth is. subst (IsTypedTree shapes) (same_Some _ r is) (rule.of_not shapes a.form a.ty h truth))

  -- what two typed operands give
  abbrev Joins : List Shape → (Tree → Tree → Option Tree) → Type 0
  Joins shapes given = (x y r : Tree) → IsTypedTree shapes x → IsTypedTree shapes y → given x y ≡ Some r → IsTypedTree shapes r

  binary_joins : (shapes : List Shape) (sign : Binary) → Joins shapes (binary_tree sign)
  binary_joins shapes sign x y r h k found =
      map_by _ (type_of_operation sign (out-Ty x.ty) (out-Ty y.ty)) r found
      (λ t typed is. subst (IsTypedTree shapes) is (binary_typed shapes sign x y t h k typed))

  and_joins : (shapes : List Shape) → Joins shapes and_tree
  and_joins shapes x y r h k found =
      when_by (is_bool (out-Ty x.ty) && is_bool (out-Ty y.ty)) _ r found
      (λ truths is. let are = and_parts (is_bool (out-Ty x.ty)) (is_bool (out-Ty y.ty)) truths in
      subst (IsTypedTree shapes) (same_Some _ r is) (rule.of_and shapes x.form y.form x.ty y.ty h are.0 k are.1))

  or_joins : (shapes : List Shape) → Joins shapes or_tree
  or_joins shapes x y r h k found =
      when_by (is_bool (out-Ty x.ty) && is_bool (out-Ty y.ty)) _ r found
      (λ truths is. let are = and_parts (is_bool (out-Ty x.ty)) (is_bool (out-Ty y.ty)) truths in
      subst (IsTypedTree shapes) (same_Some _ r is) (rule.of_or shapes x.form y.form x.ty y.ty h are.0 k are.1))

  coalesce_joins : (shapes : List Shape) → Joins shapes coalesce_tree
  coalesce_joins shapes x y r h k found =
      map_by _ (coalesced (out-Ty x.ty) (out-Ty y.ty)) r found
      (λ t typed is. subst (IsTypedTree shapes) is (rule.of_coalesce shapes x.form y.form x.ty y.ty t h k typed))

  choice_joins : (shapes : List Shape) (c : Tree) → IsTypedTree shapes c → Joins shapes (conditional_tree c)
  choice_joins shapes c g x y r h k found =
      when_by (is_bool (out-Ty c.ty)) _ r found
      (λ truth more. map_by _ (type_of_choice (out-Ty x.ty) (out-Ty y.ty)) r more
      (λ t typed is. subst (IsTypedTree shapes) is (rule.of_conditional shapes c.form x.form y.form c.ty x.ty y.ty t g truth h k typed)))

  module _ {X : Type 0} (tree : X → Binds)
      (typed : (x : X) (places : Places) (shapes : List Shape) → AreTyped schemas shapes places → (r : Tree) → tree x places ≡ Some r → IsTypedTree shapes r)
      (places : Places) (shapes : List Shape) (known : AreTyped schemas shapes places) where
    here : (x : X) (r : Tree) → tree x places ≡ Some r → IsTypedTree shapes r
    here x r h = typed x places shapes known r h

    -- ---- names

    global_typed : (x : List ℕ) (o : Option ℕ) → table_number x schemas ≡ o → (r : Tree) → global_tree schemas places x o ≡ Some r → IsTypedTree shapes r
    global_typed x (Some n) is r h =
        let there = table_there x schemas n is in
        subst (IsTypedTree shapes) (same_Some _ r h) (rule.of_table shapes n there.0 there.1)
    global_typed x None is r h =
        map_by _ (session_place x places.session) r h
        (λ place there same. subst (IsTypedTree shapes) same
        (subst (λ (n : ℕ). Typed shapes (place.form n) (Of place.known.ty)) known.depth
        (session_place_holds {P = λ q. (slots : List Shape) → Typed slots (q.form (length slots)) (Of q.known.ty)} x places.session known.session place there shapes)))

    name_typed : (x : List ℕ) (o : Option Place) → place_of x places.locals ≡ o → (r : Tree) → name_tree schemas places x o ≡ Some r → IsTypedTree shapes r
    name_typed x (Some place) is r h =
        subst (IsTypedTree shapes) (same_Some _ r h)
        (subst (λ (s : List Shape). Typed s place.form (Of place.ty)) (append_none shapes)
        (place_holds {P = Stays shapes} x places.locals known.locals place is []))
    name_typed x None is r h = global_typed x (table_number x schemas) refl r h

    -- ---- operators

    two_typed : (given : Tree → Tree → Option Tree) → Joins shapes given → (a b : X) (r : Tree) → of_two_trees given (tree a places) (tree b places) ≡ Some r
        → IsTypedTree shapes r
    two_typed given joins a b r h =
        option_and_then_some _ (tree a places) r h
        (λ x x_there found. option_and_then_some (given x) (tree b places) r found
        (λ y y_there made. joins x y r (here a x x_there) (here b y y_there) made))

    -- ---- records

    fields_typed : (fields : List (Field X)) (ts : List (Field Tree)) → traversed (field_tree schemas tree places) fields ≡ Some ts
        → IsTyped schemas (Members shapes (map form_of_field ts) (map type_of_field ts))
    fields_typed [] ts h =
        subst (λ (us : List (Field Tree)). IsTyped schemas (Members shapes (map form_of_field us) (map type_of_field us))) (same_Some [] ts h) (rule.no_field shapes)
    fields_typed (field ∷ fields) ts h =
        option_and_then_some _ (field_tree schemas tree places field) ts h
        (λ y y_there made. map_by _ (traversed (field_tree schemas tree places) fields) ts made
        (λ us us_there is. subst (λ (ws : List (Field Tree)). IsTyped schemas (Members shapes (map form_of_field ws) (map type_of_field ws))) is
        (rule.one_field shapes (form_of_field y) (map form_of_field us) y.value.ty (map type_of_field us)
        (map_by _ (option_and_then placed_tree (tree field.value places)) y y_there
        (λ found found_there same. subst (λ (w : Field Tree). IsTypedTree shapes w.value) same
        (option_and_then_some placed_tree (tree field.value places) found found_there
        (λ first bound placed. when_by _ _ found placed
        (λ has_place first_is. subst (IsTypedTree shapes) (same_Some first found first_is) (here field.value first bound))))))
        (fields_typed fields us us_there))))

    record_typed : (fields : List (Field X)) (r : Tree) → record_tree schemas tree fields places ≡ Some r → IsTypedTree shapes r
    record_typed fields r h =
        when_by _ _ r h
        (λ distinct found. option_and_then_some within_tree _ r found
        (λ made made_there within. when_by (is_within made.ty) _ r within
        (λ limited same. map_by fields_tree (gathered (field_tree schemas tree places) fields) made made_there
        (λ ts there is. subst (IsTypedTree shapes) (is ∙ same_Some made r same)
        (rule.of_record shapes (map form_of_field ts) (map type_of_field ts)
        (fields_typed fields ts (sym (gathered_all (field_tree schemas tree places) fields) ∙ there)))))))

    -- ---- methods

    search_typed : (m : List ℕ) (arguments : List (Argument X)) (a r : Tree) → IsTypedTree shapes a → is_text (out-Ty a.ty) ≡ true
        → search_tree schemas tree m arguments a places ≡ Some r → IsTypedTree shapes r
    search_typed m arguments a r a_typed a_text h =
        option_and_then_some _ (search_named m) r h
        (λ o named found. option_and_then_some (search_form o a) (option_and_then (λ x. tree x places) (sole_argument arguments)) r found
        (λ b b_there made. option_and_then_some _ (sole_argument arguments) b b_there
        (λ x x_there bound. when_by (is_text (out-Ty b.ty)) _ r made
        (λ text is. subst (IsTypedTree shapes) (same_Some _ r is)
        (rule.of_search shapes a.form b.form m o a.ty b.ty a_typed a_text (here x b bound) text named)))))

    enumerable_typed : (a : Form) (t : Ty) (call : EnumerableCall X) (r : Tree) → IsTyped schemas (Gives shapes a (Of t))
        → enumerable_tree schemas tree places a t call ≡ Some r → IsTypedTree shapes r
    enumerable_typed a t (Plain method) r items h =
        map_by _ (simple_type method t) r h (λ u gives is. subst (IsTypedTree shapes) is (rule.of_simple shapes method t u a items gives))
    enumerable_typed a t (With method x) r items h =
        option_and_then_some _ (tree x places) r h
        (λ b bound made. map_by _ (given_type method t (Some b.ty)) r made
        (λ u gives is. subst (IsTypedTree shapes) is (rule.of_given shapes method t b.ty u a b.form items (here x b bound) gives)))
    enumerable_typed a t (By method n body) r items h =
        option_and_then_some _ (lambda_tree schemas tree places t n body) r h
        (λ f bound made. map_by _ (through_type method t (Some f.ty)) r made
        (λ u gives is. when_by (is_fresh (names_of_places schemas places) n) (tree body (with_name places n t)) f bound
        (λ fresh there. subst (IsTypedTree shapes) is
        (method_form_typed schemas shapes method t f.ty u a f.form items
        (typed body (with_name places n t) (with_slot shapes (Of t)) (item_typed shapes places (One n t) known) f there) gives))))

    called_typed : (call : Option (EnumerableCall X)) (a r : Tree) → IsTypedTree shapes a
        → option_map settled_tree (called_tree schemas tree call a places) ≡ Some r → IsTypedTree shapes r
    called_typed call a r a_typed h =
        map_by settled_tree (called_tree schemas tree call a places) r h
        (λ found bound is. option_and_then_some within_tree _ found bound
        (λ made made_bound within. when_by (is_within made.ty) _ found within
        (λ limited made_is. option_and_then_some _ (element_type (out-Ty a.ty)) made made_bound
        (λ t element given. option_and_then_some (enumerable_tree schemas tree places a.form t) call made given
        (λ method there tree_there. subst (IsTypedTree shapes) is
        (settled_typed shapes found
        (subst (IsTypedTree shapes) (same_Some made found made_is)
        (enumerable_typed a.form t method made (rule.by_elements shapes a.form a.ty t a_typed element) tree_there))))))))

    method_typed : (m : List ℕ) (arguments : List (Argument X)) (a r : Tree) → IsTypedTree shapes a → (c : Bool) → is_text (out-Ty a.ty) ≡ c
        → (if c then search_tree schemas tree m arguments a places
        else option_map settled_tree (called_tree schemas tree (enumerable_call m arguments) a places)) ≡ Some r → IsTypedTree shapes r
    method_typed m arguments a r a_typed true is h = search_typed m arguments a r a_typed is h
    method_typed m arguments a r a_typed false is h = called_typed (enumerable_call m arguments) a r a_typed h

    -- ---- any node

    pub node_typed : (n : Node X) (r : Tree) → node_tree schemas tree n places ≡ Some r → IsTypedTree shapes r
    node_typed (node.Integer n) r h =
        subst (IsTypedTree shapes) (same_Some _ r h)
        (rule.of_literal shapes (scalar.Int n) ty.Int (subst (λ (l : Ty-F Ty). IsScalarOf l (scalar.Int n)) (sym outs-Int) tt))
    node_typed (node.Text t) r h =
        subst (IsTypedTree shapes) (same_Some _ r h)
        (rule.of_literal shapes (scalar.Text t) ty.Str (subst (λ (l : Ty-F Ty). IsScalarOf l (scalar.Text t)) (sym outs-Str) tt))
    node_typed (node.Bool b) r h =
        subst (IsTypedTree shapes) (same_Some _ r h)
        (rule.of_literal shapes (scalar.Bool b) ty.Bool (subst (λ (l : Ty-F Ty). IsScalarOf l (scalar.Bool b)) (sym outs-Bool) tt))
    node_typed node.Null r h =
        subst (IsTypedTree shapes) (same_Some _ r h)
        (rule.of_literal shapes scalar.Null ty.Null (subst (λ (l : Ty-F Ty). IsScalarOf l scalar.Null) (sym outs-Null) tt))
    node_typed (node.Name x) r h = name_typed x (place_of x places.locals) refl r h
    node_typed (node.Member a m) r h =
        option_and_then_some (member_tree schemas m) (tree a places) r h (λ found bound made. member_typed shapes m found r (here a found bound) made)
    node_typed (node.Unary sign a) r h =
        option_and_then_some (unary_tree sign) (tree a places) r h (λ found bound made. unary_typed shapes sign found r (here a found bound) made)
    node_typed (node.Binary sign a b) r h = two_typed (binary_tree sign) (binary_joins shapes sign) a b r h
    node_typed (node.And a b) r h = two_typed and_tree (and_joins shapes) a b r h
    node_typed (node.Or a b) r h = two_typed or_tree (or_joins shapes) a b r h
    node_typed (node.Coalesce a b) r h = two_typed coalesce_tree (coalesce_joins shapes) a b r h
    node_typed (node.Conditional c a b) r h =
        option_and_then_some _ (tree c places) r h
        (λ z z_there found. two_typed (conditional_tree z) (choice_joins shapes z (here c z z_there)) a b r found)
    node_typed (node.Host p row columns) r h =
        option_and_then_some (host_tree schemas places.predicates p columns) (tree row places) r h
        (λ found bound made. asked_by schemas places.predicates p columns found r made
        (λ k n numbered number is ints there named same. subst (IsTypedTree shapes) same
        (rule.of_host shapes k found.form n numbered columns found.ty (here row found bound) is named ints)))
    node_typed (node.HostOther p xs) r h = absurd (none-some r h)
    node_typed (node.New fields) r h = record_typed fields r h
    node_typed (node.Method a m arguments) r h =
        option_and_then_some _ (tree a places) r h
        (λ found bound made. method_typed m arguments found r (here a found bound) (is_text (out-Ty found.ty)) refl made)
