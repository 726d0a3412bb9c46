-- The tree of the calls of a query is typed, if the same is so of the expressions in them.
use Rattle.std.proofs.Common.{◌≡◌, ◌∷◌, ◌+◌, List, [], ℕ, Bool, true, Option, Some, None, ap, ◌∙◌, sym, refl, subst, option_and_then, option_map}
use Rattle.std.proofs.lemmas.Option.{none-some, option_and_then_some, same_Some}
use Rattle.std.specs.List.{fold}
use Rattle.std.specs.Prelude.{is_some}
use Rattle.lq_value.specs.declared.table.Schema.{Schema}
use Rattle.lq_value.specs.declared.ty.Ty.{Ty, out-Ty}
use Rattle.lq_value.specs.declared.ty.Ty.TheVariants as ty
use Rattle.lq_value.specs.declared.ty.Ty.TheVariants.{outs-Seq}
use Rattle.lq_language.specs.ClauseTyping.{joined_name}
use Rattle.lq_language.specs.Operators.{Pattern, One, With, pair_type, pattern_type}
use Rattle.lq_language.specs.Types.{are_join_keys, element_type, has_place, is_fresh, is_key, is_sort_key, is_within, when}
use Rattle.lq_language.specs.OperandTypes.{is_bool}
use Rattle.lq_language.specs.declared.calls.Call.{Call}
use Rattle.lq_language.specs.declared.calls.Operator.{Operator}
use Rattle.lq_language.specs.declared.calls.Operator.TheVariants as operator
use Rattle.lq_language.specs.declared.calls.Paired.{Paired}
use Rattle.lq_language.specs.declared.calls.Paired.TheVariants as paired
use Rattle.lq_language.specs.declared.calls.Part.{Part}
use Rattle.lq_grammar.specs.declared.syntax.Join.{Join}
use Rattle.lq_grammar.specs.declared.syntax.SortKey.{SortKey}
use Rattle.lq_language.proofs.FindingLaws.{map_by, when_by}
use Rattle.lq_tree.specs.Binding.{Binds, PipelineForm, body_tree, call_items_tree, call_tree, element_tree, expanded_stage, gathered, grouped_stage, if_fresh, inner_stage, items_of_pipeline, items_of_tree, joined_stage, key_tree, keyed_tree, keys_of, join_keys, matched_stage, matched_type, operator_stage, paired_stage, part_tree, placed_tree, query_tree, sequence_tree, sortable_tree, source_tree, pipeline_of, walk_step, walked}
use Rattle.lq_tree.specs.Places.{Places, names_of_places, with_item, with_name}
use Rattle.lq_tree.specs.TypedForms.{Both, Gives, IsTyped, Many, Of, Shape, Sorts, matched_items, shape_of, type_of_shape, with_slot, with_slots}
use Rattle.lq_tree.specs.TypedForms as rule
use Rattle.lq_tree.specs.TypedFormLaws.{AreTyped}
use Rattle.lq_tree.specs.declared.tree.Form.{Form}
use Rattle.lq_tree.specs.declared.tree.Form.TheVariants as form
use Rattle.lq_tree.specs.declared.tree.Tree.{Tree}
use Rattle.lq_tree.proofs.ScopeLaws.{append_behind, append_none, length_one_more}
use Rattle.lq_tree.proofs.TypedNodes.{IsTypedTree, Typed, item_typed, slot_typed}
use Rattle.lq_tree.proofs.WalkLaws.{gathered_all, traversed, walk_none}

-- what passes a test, and what was there
passed_by : {P : Type 0} (test : Tree → Bool) (o : Option Tree) (found : Tree) → option_and_then (λ x. when (test x) (Some x)) o ≡ Some found
    → (o ≡ Some found → test found ≡ true → P) → P
passed_by test o found h next =
    option_and_then_some _ o found h
    (λ x there passed. when_by (test x) (Some x) found passed
    (λ passes same. next (there ∙ same) (sym (ap test (same_Some x found same)) ∙ passes)))

-- the type of an item between calls
items_type : (p : Pattern) → type_of_shape (shape_of p) ≡ pattern_type p
items_type (One n t) = refl
items_type (With p n t) = ap (λ s. pair_type s t) (items_type p)

module _ (schemas : List Schema) {X : Type 0} (tree : X → Binds)
    (typed : (x : X) (places : Places) (shapes : List Shape) → AreTyped schemas shapes places → (r : Tree) → tree x places ≡ Some r → IsTypedTree schemas shapes r)
    (places : Places) (shapes : List Shape) (known : AreTyped schemas shapes places) where
  abbrev Is : List Shape → Form → Shape → Type 0
  Is = Typed schemas

  abbrev Items : List Shape → Form → Shape → Type 0
  Items s f t = IsTyped schemas (Gives s f t)

  at_item : (p : Pattern) (x : X) (r : Tree) → tree x (with_item places p) ≡ Some r → IsTypedTree schemas (with_slot shapes (shape_of p)) r
  at_item p x r h = typed x (with_item places p) (with_slot shapes (shape_of p)) (item_typed schemas shapes places p known) r h

  -- what is in front of a call: its items are such as its pattern says
  abbrev pub Stands : PipelineForm → Type 0
  Stands stage = Items shapes stage.form (shape_of stage.pattern) × Is shapes stage.form (Of (ty.Seq (pattern_type stage.pattern)))

  -- a form that gives a sequence of such items
  stands_by : (p : Pattern) (f : Form) → Is shapes f (Many (shape_of p)) → Stands (pipeline_of p f)
  stands_by p f h = (
    rule.by_items shapes f (shape_of p) h,
    subst (λ (t : Ty). Is shapes f (Of (ty.Seq t))) (items_type p) (rule.by_type shapes f (Many (shape_of p)) h),
  )

  from : (made next : PipelineForm) → made ≡ next → Stands made → Stands next
  from made next is = subst Stands is

  -- the items of a source
  source_items : (inside : List Shape) (o : Option Tree) (items : Tree) → ((r : Tree) → o ≡ Some r → IsTypedTree schemas inside r)
      → option_and_then items_of_tree o ≡ Some items → Items inside items.form (Of items.ty)
  source_items inside o items have h =
      option_and_then_some items_of_tree o items h
      (λ x there found. map_by _ (element_type (out-Ty x.ty)) items found
      (λ t element is. subst (λ (r : Tree). Items inside r.form (Of r.ty)) is (rule.by_elements inside x.form x.ty t (have x there) element)))

  -- ---- calls that pair items

  -- two slots more
  abbrev two : Pattern → Ty → List Shape
  two p t = with_slots shapes (shape_of p) (Of t)

  two_slots : (p : Pattern) (t : Ty) → with_slot (with_slot shapes (shape_of p)) (Of t) ≡ two p t
  two_slots p t = append_behind shapes (shape_of p ∷ []) (Of t ∷ [])

  paired_typed : (p : Pattern) (n : List ℕ) (t : Ty) (result : Paired X) (made : PipelineForm) → paired_stage schemas tree places p n t result ≡ Some made
      → Is (two p t) made.form (shape_of made.pattern)
  paired_typed p n t paired.Pair made h =
      subst (λ (s : PipelineForm). Is (two p t) s.form (shape_of s.pattern)) (same_Some _ made h)
      (rule.of_pair (two p t) (form.Slot places.depth) (form.Slot (places.depth + 1)) (shape_of p) (Of t)
      (subst (λ (s : List Shape). Is s (form.Slot places.depth) (shape_of p)) (two_slots p t)
      (slot_typed schemas shapes places.depth (shape_of p) (Of t ∷ []) known.depth))
      (subst (λ (s : List Shape). Is s (form.Slot (places.depth + 1)) (Of t)) (append_none (with_slot (with_slot shapes (shape_of p)) (Of t)) ∙ two_slots p t)
      (slot_typed schemas (with_slot shapes (shape_of p)) (places.depth + 1) (Of t) []
      (length_one_more shapes (shape_of p) ∙ ap (λ k. k + 1) known.depth))))
  paired_typed p n t (paired.Value v) made h =
      map_by _ (option_and_then placed_tree (tree v (with_name (with_item places p) n t))) made h
      (λ found there is. passed_by (λ x. has_place (out-Ty x.ty)) (tree v (with_name (with_item places p) n t)) found there
      (λ bound placed. subst (λ (s : PipelineForm). Is (two p t) s.form (shape_of s.pattern)) is
      (subst (λ (s : List Shape). IsTypedTree schemas s found) (two_slots p t)
      (typed v (with_name (with_item places p) n t) (with_slot (with_slot shapes (shape_of p)) (Of t))
      (item_typed schemas (with_slot shapes (shape_of p)) (with_item places p) (One n t) (item_typed schemas shapes places p known)) found bound))))

  many_typed : (n : List ℕ) (f : X) (result : Paired X) (stage next : PipelineForm) → operator_stage schemas tree places (operator.SelectMany n f result) stage ≡ Some next
      → Stands stage → Stands next
  many_typed n f result stage next h stands =
      option_and_then_some (expanded_stage schemas tree places n result stage)
      (if_fresh schemas tree places stage.pattern n (source_tree schemas tree f (with_item places stage.pattern))) next h
      (λ inner there found. when_by _ _ inner there
      (λ fresh source. map_by _ (paired_stage schemas tree places stage.pattern n inner.ty result) next found
      (λ made made_there is. from _ next is
      (stands_by made.pattern (form.SelectMany stage.form inner.form made.form)
      (rule.of_select_many shapes stage.form inner.form made.form (shape_of stage.pattern) (Of inner.ty) (shape_of made.pattern) stands.0
      (source_items (with_slot shapes (shape_of stage.pattern)) (tree f (with_item places stage.pattern)) inner (at_item stage.pattern f) source)
      (paired_typed stage.pattern n inner.ty result made made_there))))))

  -- what is in the second slot of a join's result
  matched_is : (p : Pattern) (into : Option (List ℕ)) (u t : Ty) → matched_type schemas tree places p into u ≡ Some t → matched_items (is_some into) u ≡ t
  matched_is p None u t h = same_Some u t h
  matched_is p (Some g) u t h = when_by _ _ t h (λ fresh is. same_Some (ty.Seq u) t is)

  join_typed : (j : Join X) (result : Paired X) (stage next : PipelineForm) → operator_stage schemas tree places (operator.Join j result) stage ≡ Some next
      → Stands stage → Stands next
  join_typed j result stage next h stands =
      option_and_then_some (inner_stage schemas tree places j result stage) (if_fresh schemas tree places stage.pattern j.name (source_tree schemas tree j.source places)) next h
      (λ inner there found. option_and_then_some (matched_stage schemas tree places j result stage inner) (join_keys schemas tree places stage.pattern j inner.ty) next found
      (λ keys keys_there rest. option_and_then_some (joined_stage schemas tree places j result stage inner.form keys)
      (matched_type schemas tree places stage.pattern j.into inner.ty) next rest
      (λ t match_there last. map_by _ (paired_stage schemas tree places stage.pattern (joined_name j) t result) next last
      (λ made made_there is. option_and_then_some _ (tree j.outer_key (with_item places stage.pattern)) keys keys_there
      (λ a a_there more. option_and_then_some (keys_of schemas tree a) (tree j.inner_key (with_name places j.name inner.ty)) keys more
      (λ b b_there given. when_by (are_join_keys (Some a.ty) (Some b.ty)) _ keys given
      (λ comparable same. when_by _ _ inner there
      (λ fresh source. from _ next is
      (stands_by made.pattern _
      (rule.of_join shapes stage.form _ (shape_of stage.pattern) (shape_of made.pattern) inner.ty a.ty b.ty stands.0
      (source_items shapes (tree j.source places) inner (typed j.source places shapes known) source)
      (subst (λ (k : Form × Form). Is (with_slot shapes (shape_of stage.pattern)) k.0 (Of a.ty)) (same_Some _ keys same) (at_item stage.pattern j.outer_key a a_there))
      (subst (λ (k : Form × Form). Is (with_slot shapes (Of inner.ty)) k.1 (Of b.ty)) (same_Some _ keys same)
      (typed j.inner_key (with_name places j.name inner.ty) (with_slot shapes (Of inner.ty)) (item_typed schemas shapes places (One j.name inner.ty) known) b b_there))
      comparable
      (subst (λ (u : Ty). Is (two stage.pattern u) made.form (shape_of made.pattern)) (sym (matched_is stage.pattern j.into inner.ty t match_there))
      (paired_typed stage.pattern (joined_name j) t result made made_there))))))))))))

  -- ---- keys

  keys_typed : (p : Pattern) (ks : List (SortKey X)) (keys : List (SortKey Form)) → traversed (key_tree schemas tree (with_item places p)) ks ≡ Some keys
      → IsTyped schemas (Sorts (with_slot shapes (shape_of p)) keys)
  keys_typed p [] keys h =
      subst (λ (found : List (SortKey Form)). IsTyped schemas (Sorts (with_slot shapes (shape_of p)) found)) (same_Some [] keys h)
      (rule.no_key (with_slot shapes (shape_of p)))
  keys_typed p (k ∷ ks) keys h =
      option_and_then_some _ (key_tree schemas tree (with_item places p) k) keys h
      (λ y y_there made. map_by _ (traversed (key_tree schemas tree (with_item places p)) ks) keys made
      (λ ys ys_there is. map_by _ (option_and_then sortable_tree (tree k.value (with_item places p))) y y_there
      (λ found there same. passed_by (λ x. is_sort_key (Some x.ty)) (tree k.value (with_item places p)) found there
      (λ bound sortable. subst (λ (all : List (SortKey Form)). IsTyped schemas (Sorts (with_slot shapes (shape_of p)) all)) is
      (rule.one_key (with_slot shapes (shape_of p)) y ys found.ty
      (subst (λ (z : SortKey Form). Is (with_slot shapes (shape_of p)) z.value (Of found.ty)) same (at_item p k.value found bound)) sortable
      (keys_typed p ks ys ys_there))))))

  -- ---- groups

  element_typed : (p : Pattern) (element : Option X) (r : Tree) → element_tree schemas tree places p element ≡ Some r
      → IsTypedTree schemas (with_slot shapes (shape_of p)) r
  element_typed p None r h =
      subst (IsTypedTree schemas (with_slot shapes (shape_of p))) (same_Some _ r h)
      (subst (λ (t : Ty). Is (with_slot shapes (shape_of p)) (form.Slot places.depth) (Of t)) (items_type p)
      (rule.by_type (with_slot shapes (shape_of p)) (form.Slot places.depth) (shape_of p)
      (subst (λ (s : List Shape). Is s (form.Slot places.depth) (shape_of p)) (append_none (with_slot shapes (shape_of p)))
      (slot_typed schemas shapes places.depth (shape_of p) [] known.depth))))
  element_typed p (Some v) r h = at_item p v r h

  group_typed : (key : X) (element : Option X) (stage next : PipelineForm) → operator_stage schemas tree places (operator.GroupBy key element) stage ≡ Some next
      → Stands stage → Stands next
  group_typed key element stage next h stands =
      option_and_then_some (grouped_stage schemas tree places element stage) (option_and_then keyed_tree (tree key (with_item places stage.pattern))) next h
      (λ k k_there found. map_by _ (option_and_then placed_tree (element_tree schemas tree places stage.pattern element)) next found
      (λ e e_there is. passed_by (λ x. is_key x.ty) (tree key (with_item places stage.pattern)) k k_there
      (λ k_bound k_key. passed_by (λ x. has_place (out-Ty x.ty)) (element_tree schemas tree places stage.pattern element) e e_there
      (λ e_bound placed. from _ next is
      (stands_by (One [] (ty.Group k.ty e.ty)) (form.GroupBy stage.form k.form e.form)
      (rule.of_group shapes stage.form k.form e.form (shape_of stage.pattern) k.ty e.ty stands.0 (at_item stage.pattern key k k_bound) k_key
      (element_typed stage.pattern element e e_bound)))))))

  -- ---- a call, and calls in turn

  operator_typed : (op : Operator X) (stage next : PipelineForm) → operator_stage schemas tree places op stage ≡ Some next → Stands stage → Stands next
  operator_typed (operator.Where c) stage next h stands =
      map_by _ (option_and_then _ (tree c (with_item places stage.pattern))) next h
      (λ found there is. passed_by (λ x. is_bool (out-Ty x.ty)) (tree c (with_item places stage.pattern)) found there
      (λ bound truth. from _ next is
      (stands_by stage.pattern _
      (rule.of_where shapes found.ty stage.form found.form (shape_of stage.pattern) stands.0 (at_item stage.pattern c found bound) truth))))
  operator_typed (operator.Select v) stage next h stands =
      map_by _ (option_and_then placed_tree (tree v (with_item places stage.pattern))) next h
      (λ found there is. passed_by (λ x. has_place (out-Ty x.ty)) (tree v (with_item places stage.pattern)) found there
      (λ bound placed. from _ next is
      (stands_by (One [] found.ty) _
      (rule.of_select shapes stage.form found.form (shape_of stage.pattern) (Of found.ty) stands.0 (at_item stage.pattern v found bound)))))
  operator_typed (operator.Let n f) stage next h stands =
      map_by _ (if_fresh schemas tree places stage.pattern n (option_and_then placed_tree (tree f (with_item places stage.pattern)))) next h
      (λ found fresh_there is. when_by _ _ found fresh_there
      (λ fresh there. passed_by (λ x. has_place (out-Ty x.ty)) (tree f (with_item places stage.pattern)) found there
      (λ bound placed. from _ next is
      (stands_by (With stage.pattern n found.ty) _
      (rule.of_select shapes stage.form (form.Pair (form.Slot places.depth) found.form) (shape_of stage.pattern)
      (Both (shape_of stage.pattern) (Of found.ty)) stands.0
      (rule.of_pair (with_slot shapes (shape_of stage.pattern)) (form.Slot places.depth) found.form (shape_of stage.pattern) (Of found.ty)
      (subst (λ (s : List Shape). Is s (form.Slot places.depth) (shape_of stage.pattern)) (append_none (with_slot shapes (shape_of stage.pattern)))
      (slot_typed schemas shapes places.depth (shape_of stage.pattern) [] known.depth)) (at_item stage.pattern f found bound)))))))
  operator_typed (operator.SelectMany n f result) stage next h stands = many_typed n f result stage next h stands
  operator_typed (operator.Join j result) stage next h stands = join_typed j result stage next h stands
  operator_typed (operator.OrderBy ks) stage next h stands =
      map_by _ (gathered (key_tree schemas tree (with_item places stage.pattern)) ks) next h
      (λ keys there is. from _ next is
      (stands_by stage.pattern (form.OrderBy stage.form keys)
      (rule.of_order shapes stage.form keys (shape_of stage.pattern) stands.0
      (keys_typed stage.pattern ks keys (sym (gathered_all (key_tree schemas tree (with_item places stage.pattern)) ks) ∙ there)))))
  operator_typed (operator.GroupBy key element) stage next h stands = group_typed key element stage next h stands

  operators_typed : (ops : List (Operator X)) (stage last : PipelineForm) → fold (walk_step (operator_stage schemas tree places)) (Some stage) ops ≡ Some last
      → Stands stage → Stands last
  operators_typed [] stage last h stands = subst Stands (same_Some stage last h) stands
  operators_typed (op ∷ ops) stage last h stands = by (operator_stage schemas tree places op stage) refl h (λ next. operators_typed ops next last) where
    Rest : Option PipelineForm → Type 0
    Rest o = fold (walk_step (operator_stage schemas tree places)) o ops ≡ Some last

    by : (o : Option PipelineForm) → operator_stage schemas tree places op stage ≡ o → Rest o → ((next : PipelineForm) → Rest (Some next) → Stands next → Stands last)
        → Stands last
    by None there found rest = absurd (none-some last (sym (walk_none (operator_stage schemas tree places) ops) ∙ found))
    by (Some next) there found rest = rest next found (operator_typed op stage next there stands)

  -- ---- bodies, and what follows

  -- the form gives the items of a query as a sequence
  abbrev GivesAll : Tree → Type 0
  GivesAll items = Is shapes items.form (Of (ty.Seq items.ty))

  body_typed : (n : List ℕ) (ops : List (Operator X)) (items r : Tree) → body_tree schemas tree places n ops items ≡ Some r → GivesAll items → GivesAll r
  body_typed n ops items r h given =
      when_by (is_fresh (names_of_places schemas places) n) _ r h
      (λ fresh found. option_and_then_some items_of_pipeline (walked (operator_stage schemas tree places) (pipeline_of (One n items.ty) items.form) ops) r found
      (λ stage there more. when_by (has_place (out-Ty (pattern_type stage.pattern))) _ r more
      (λ placed rest. when_by (is_within (ty.Seq (pattern_type stage.pattern))) _ r rest
      (λ within same. subst GivesAll (same_Some _ r same)
      (operators_typed ops (pipeline_of (One n items.ty) items.form) stage there
      (rule.by_elements shapes items.form (ty.Seq items.ty) items.ty given (ap element_type (outs-Seq items.ty)), given)).1))))

  parts_typed : (rest : List (Part X)) (items last : Tree) → fold (walk_step (part_tree schemas tree places)) (Some items) rest ≡ Some last
      → GivesAll items → GivesAll last
  parts_typed [] items last h given = subst GivesAll (same_Some items last h) given
  parts_typed (part ∷ rest) items last h given = by (part_tree schemas tree places part items) refl h (λ next. parts_typed rest next last) where
    Rest : Option Tree → Type 0
    Rest o = fold (walk_step (part_tree schemas tree places)) o rest ≡ Some last

    by : (o : Option Tree) → part_tree schemas tree places part items ≡ o → Rest o → ((next : Tree) → Rest (Some next) → GivesAll next → GivesAll last)
        → GivesAll last
    by None there found more = absurd (none-some last (sym (walk_none (part_tree schemas tree places) rest) ∙ found))
    by (Some next) there found more = more next found (body_typed part.name part.operators items next there given)

  pub call_typed : (c : Call X) (r : Tree) → call_tree schemas tree c places ≡ Some r → IsTypedTree schemas shapes r
  unfolding call_tree
  call_typed c r h =
      map_by (query_tree schemas tree) (call_items_tree schemas tree c places) r h
      (λ all all_there is. option_and_then_some (λ items. walked (part_tree schemas tree places) items c.rest)
      (option_and_then (body_tree schemas tree places c.name c.operators) (option_map (sequence_tree schemas tree) (source_tree schemas tree c.source places))) all all_there
      (λ items items_there walk. option_and_then_some (body_tree schemas tree places c.name c.operators)
      (option_map (sequence_tree schemas tree) (source_tree schemas tree c.source places)) items items_there
      (λ sequence sequence_there body. map_by (sequence_tree schemas tree) (source_tree schemas tree c.source places) sequence sequence_there
      (λ source source_there same. subst (IsTypedTree schemas shapes) is
      (parts_typed c.rest items all walk
      (body_typed c.name c.operators sequence items body
      (subst GivesAll same
      (rule.by_type shapes (form.Sequence source.form) (Many (Of source.ty))
      (rule.of_sequence shapes source.form (Of source.ty)
      (source_items shapes (tree c.source places) source (typed c.source places shapes known) source_there))))))))))
