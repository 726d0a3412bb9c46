-- The tree of the calls of a query uses what the calls use, in the same order, if the same is so of the expressions in them.
use Rattle.std.proofs.Common.{◌≡◌, ◌∷◌, ◌++◌, ◌+◌, List, [], map, flat_map, ℕ, Bool, true, Option, Some, None, ap, ap₂, ◌∙◌, sym, refl, subst, option_and_then, option_map}
use Rattle.std.proofs.lemmas.Option.{none-some, option_and_then_some, same_Some}
use Rattle.std.specs.List.{fold}
use Rattle.lq_value.specs.declared.table.Schema.{Schema}
use Rattle.lq_value.specs.declared.ty.Ty.{Ty, out-Ty}
use Rattle.lq_value.specs.declared.ty.Ty.TheVariants as ty
use Rattle.lq_language.specs.ClauseTyping.{are_join_keys, element_type, from_type, has_place, is_fresh, is_key, is_sort_key, is_within, join_type, joined_name, matched_type as matched, source_type, when}
use Rattle.lq_language.specs.Operators.{Pattern, One, With, names_of, operators_items, pattern_type, sole_pattern}
use Rattle.lq_language.specs.Names.{Names, with_local}
use Rattle.lq_language.specs.OperandTypes.{is_bool}
use Rattle.lq_language.specs.Uses.{under}
use Rattle.lq_language.specs.UsesOfCalls.{call_uses, element_uses, operator_uses, operators_uses, paired_uses, parts_uses}
use Rattle.lq_language.specs.declared.calls.Call.{Call}
use Rattle.lq_language.specs.declared.calls.Operator.{Operator}
use Rattle.lq_language.specs.declared.calls.Operator.TheVariants as operator
use Rattle.lq_language.specs.declared.calls.Paired.{Paired}
use Rattle.lq_language.specs.declared.calls.Paired.TheVariants as paired
use Rattle.lq_language.specs.declared.calls.Part.{Part}
use Rattle.lq_language.specs.Mentions.{Mention}
use Rattle.lq_grammar.specs.declared.syntax.Join.{Join}
use Rattle.lq_grammar.specs.declared.syntax.SortKey.{SortKey}
use Rattle.lq_language.specs.Maps.{map_key}
use Rattle.lq_language.proofs.FindingLaws.{map_by, when_by}
use Rattle.lq_tree.specs.Binding.{Binds, PipelineForm, body_tree, call_items_tree, call_tree, element_tree, expanded_stage, grouped_stage, if_fresh, inner_stage, items_of_pipeline, items_of_tree, joined_stage, key_tree, keyed_tree, keys_of, join_keys, matched_stage, matched_type, operator_stage, paired_stage, part_tree, placed_tree, query_tree, sequence_tree, sortable_tree, source_tree, pipeline_of, walk_step, walked, gathered}
use Rattle.lq_tree.specs.Places.{Places, names_of_places, with_item, with_name}
use Rattle.lq_tree.specs.UsesOfForms.{UseWhatIsKnown, form_uses}
use Rattle.lq_tree.specs.declared.tree.Form.{Form}
use Rattle.lq_tree.specs.declared.tree.Form.TheVariants as form
use Rattle.lq_tree.specs.declared.tree.Tree.{Tree}
use Rattle.lq_tree.proofs.CallTypes.{body_found, fresh_found, matched_found, names_alike, operator_found, pattern_found, source_at_item, source_found}
use Rattle.lq_tree.proofs.FormUseLaws.{of_group, of_join, of_order, of_pair, of_select, of_select_many, of_sequence, of_slot, of_where}
use Rattle.lq_tree.proofs.NodeUseLaws.{item_unused}
use Rattle.lq_tree.proofs.ScopeLaws.{append_behind, append_none}
use Rattle.lq_tree.proofs.TypeLaws.{type_found}
use Rattle.lq_tree.proofs.WalkLaws.{gathered_all, traversed, walk_none}

-- what passes a test is what was there
kept_by : (test : Tree → Bool) (o : Option Tree) (found : Tree) → option_and_then (λ x. when (test x) (Some x)) o ≡ Some found → o ≡ Some found
kept_by test o found h = option_and_then_some _ o found h (λ x there passed. when_by (test x) (Some x) found passed (λ passes same. there ∙ same))

module _ (schemas : List Schema) {X : Type 0} (tree : X → Binds) (typed : X → Names → Option Ty) (uses : X → Names → List Mention)
    (alike : (x : X) (places : Places) → type_found (tree x places) ≡ typed x (names_of_places schemas places))
    (used : (x : X) (places : Places) → UseWhatIsKnown places → (r : Tree) → tree x places ≡ Some r → form_uses r.form ≡ uses x (names_of_places schemas places))
    (places : Places) (nothing : UseWhatIsKnown places) where
  abbrev names : Names
  names = names_of_places schemas places

  at_item : (p : Pattern) (x : X) (r : Tree) → tree x (with_item places p) ≡ Some r → form_uses r.form ≡ uses x (names_of names p)
  at_item p x r h = used x (with_item places p) (item_unused places p nothing) r h ∙ ap (uses x) (names_alike schemas places p)

  at_pair : (p : Pattern) (n : List ℕ) (t : Ty) (x : X) (r : Tree) → tree x (with_name (with_item places p) n t) ≡ Some r
      → form_uses r.form ≡ uses x (names_of names (With p n t))
  at_pair p n t x r h =
      used x (with_name (with_item places p) n t) (item_unused (with_item places p) (One n t) (item_unused places p nothing)) r h
      ∙ ap (λ (ns : Names). uses x (with_local ns n t)) (names_alike schemas places p)

  -- what comes after a call uses what came before it, and this
  abbrev Behind : List Mention → PipelineForm → PipelineForm → Type 0
  Behind us stage next = form_uses next.form ≡ form_uses stage.form ++ us

  -- ---- calls that pair items

  paired_made : (p : Pattern) (n : List ℕ) (t : Ty) (result : Paired X) (made : PipelineForm) → paired_stage schemas tree places p n t result ≡ Some made
      → form_uses made.form ≡ paired_uses typed uses names p n result t
  paired_made p n t paired.Pair made h =
      subst (λ (s : PipelineForm). form_uses s.form ≡ []) (same_Some _ made h)
      (of_pair (form.Slot places.depth) (form.Slot (places.depth + 1)) ∙ (λ i. of_slot places.depth i ++ of_slot (places.depth + 1) i))
  paired_made p n t (paired.Value v) made h =
      map_by _ (option_and_then placed_tree (tree v (with_name (with_item places p) n t))) made h
      (λ found there is. subst (λ (s : PipelineForm). form_uses s.form ≡ uses v (names_of names (With p n t))) is
      (at_pair p n t v found (kept_by (λ x. has_place (out-Ty x.ty)) _ found there)))

  -- the form of a source's items
  items_used : (us : List Mention) (o : Option Tree) (items : Tree) → ((r : Tree) → o ≡ Some r → form_uses r.form ≡ us)
      → option_and_then items_of_tree o ≡ Some items → form_uses items.form ≡ us
  items_used us o items have h =
      option_and_then_some items_of_tree o items h
      (λ x there found. map_by _ (element_type (out-Ty x.ty)) items found (λ t element is. subst (λ (r : Tree). form_uses r.form ≡ us) is (have x there)))

  many_used : (n : List ℕ) (f : X) (result : Paired X) (stage next : PipelineForm) → operator_stage schemas tree places (operator.SelectMany n f result) stage ≡ Some next
      → Behind (operator_uses typed uses names (operator.SelectMany n f result) stage.pattern) stage next
  many_used n f result stage next h =
      option_and_then_some (expanded_stage schemas tree places n result stage)
      (if_fresh schemas tree places stage.pattern n (source_tree schemas tree f (with_item places stage.pattern))) next h
      (λ inner there found. when_by _ _ inner there
      (λ fresh source. map_by _ (paired_stage schemas tree places stage.pattern n inner.ty result) next found
      (λ made made_there is. subst (Behind (operator_uses typed uses names (operator.SelectMany n f result) stage.pattern) stage) is
      (of_select_many stage.form inner.form made.form
      ∙ ap₂ (λ us vs. form_uses stage.form ++ (us ++ vs))
      (items_used (uses f (names_of names stage.pattern)) (tree f (with_item places stage.pattern)) inner (at_item stage.pattern f) source)
      (paired_made stage.pattern n inner.ty result made made_there
      ∙ sym (ap (λ (o : Option Ty). under o (paired_uses typed uses names stage.pattern n result)) (ranged inner there)))))))
    where
      ranged : (inner : Tree) → if_fresh schemas tree places stage.pattern n (source_tree schemas tree f (with_item places stage.pattern)) ≡ Some inner
          → from_type typed n f (names_of names stage.pattern) ≡ Some inner.ty
      ranged inner there =
          sym (fresh_found schemas tree typed alike places stage.pattern n (source_tree schemas tree f (with_item places stage.pattern))
          ∙ ap (when (is_fresh (names_of names stage.pattern) n)) (source_at_item schemas tree typed alike places stage.pattern f))
          ∙ ap type_found there

  join_used : (j : Join X) (result : Paired X) (stage next : PipelineForm) → operator_stage schemas tree places (operator.Join j result) stage ≡ Some next
      → Behind (operator_uses typed uses names (operator.Join j result) stage.pattern) stage next
  join_used j result stage next h =
      option_and_then_some (inner_stage schemas tree places j result stage) (if_fresh schemas tree places stage.pattern j.name (source_tree schemas tree j.source places)) next h
      (λ inner there found. option_and_then_some (matched_stage schemas tree places j result stage inner) (join_keys schemas tree places stage.pattern j inner.ty) next found
      (λ keys keys_there rest. option_and_then_some (joined_stage schemas tree places j result stage inner.form keys)
      (matched_type schemas tree places stage.pattern j.into inner.ty) next rest
      (λ t match_there last. map_by _ (paired_stage schemas tree places stage.pattern (joined_name j) t result) next last
      (λ made made_there is. option_and_then_some _ (tree j.outer_key (with_item places stage.pattern)) keys keys_there
      (λ a a_there more. option_and_then_some (keys_of schemas tree a) (tree j.inner_key (with_name places j.name inner.ty)) keys more
      (λ b b_there given. when_by (are_join_keys (Some a.ty) (Some b.ty)) _ keys given
      (λ comparable same. when_by _ _ inner there
      (λ fresh source. subst (Behind (operator_uses typed uses names (operator.Join j result) stage.pattern) stage) is
      (of_join stage.form _
      ∙ ap₂ (λ us vs. form_uses stage.form ++ (us ++ vs))
      (ap₂ (λ us vs. us ++ vs) (items_used (uses j.source names) (tree j.source places) inner (used j.source places nothing) source)
      (ap₂ (λ us vs. us ++ vs) (ap (λ (k : Form × Form). form_uses k.0) (sym (same_Some _ keys same)) ∙ at_item stage.pattern j.outer_key a a_there)
      (ap (λ (k : Form × Form). form_uses k.1) (sym (same_Some _ keys same))
      ∙ used j.inner_key (with_name places j.name inner.ty) (item_unused places (One j.name inner.ty) nothing) b b_there
      ∙ sym (ap (λ (o : Option Ty). under o (λ u. uses j.inner_key (with_local names j.name u))) (inner_type inner source)))))
      (paired_made stage.pattern (joined_name j) t result made made_there
      ∙ sym (ap (λ (o : Option Ty). under o (paired_uses typed uses names stage.pattern (joined_name j) result))
      (join_typed inner t a b there a_there b_there comparable match_there))))))))))))
    where
      inner_type : (inner : Tree) → source_tree schemas tree j.source places ≡ Some inner → source_type typed j.source names ≡ Some inner.ty
      inner_type inner source = sym (source_found schemas tree typed alike places j.source) ∙ ap type_found source

      join_typed : (inner : Tree) (t : Ty) (a b : Tree) → if_fresh schemas tree places stage.pattern j.name (source_tree schemas tree j.source places) ≡ Some inner
          → tree j.outer_key (with_item places stage.pattern) ≡ Some a → tree j.inner_key (with_name places j.name inner.ty) ≡ Some b
          → are_join_keys (Some a.ty) (Some b.ty) ≡ true → matched_type schemas tree places stage.pattern j.into inner.ty ≡ Some t
          → join_type typed names j (names_of names stage.pattern) ≡ Some t
      join_typed inner t a b there a_there b_there comparable match_there =
          ap (λ (o : Option Ty). option_and_then (λ u. when (are_join_keys (typed j.outer_key (names_of names stage.pattern))
          (typed j.inner_key (with_local names j.name u))) (matched typed (names_of names stage.pattern) j.into u)) o)
          (sym (fresh_found schemas tree typed alike places stage.pattern j.name (source_tree schemas tree j.source places)
          ∙ ap (when (is_fresh (names_of names stage.pattern) j.name)) (source_found schemas tree typed alike places j.source))
          ∙ ap type_found there)
          ∙ (λ i. when (are_join_keys (outer_typed a a_there i) (inner_typed inner b b_there i)) (matched typed (names_of names stage.pattern) j.into inner.ty))
          ∙ ap (λ (c : Bool). when c (matched typed (names_of names stage.pattern) j.into inner.ty)) comparable
          ∙ sym (matched_found schemas tree typed alike places stage.pattern j.into inner.ty)
          ∙ match_there
        where
          outer_typed : (a : Tree) → tree j.outer_key (with_item places stage.pattern) ≡ Some a → typed j.outer_key (names_of names stage.pattern) ≡ Some a.ty
          outer_typed a h =
              ap (typed j.outer_key) (sym (names_alike schemas places stage.pattern)) ∙ sym (alike j.outer_key (with_item places stage.pattern)) ∙ ap type_found h

          inner_typed : (inner b : Tree) → tree j.inner_key (with_name places j.name inner.ty) ≡ Some b
              → typed j.inner_key (with_local names j.name inner.ty) ≡ Some b.ty
          inner_typed inner b h = sym (alike j.inner_key (with_name places j.name inner.ty)) ∙ ap type_found h

  -- ---- keys

  keys_used : (p : Pattern) (ks : List (SortKey X)) (keys : List (SortKey Form)) → traversed (key_tree schemas tree (with_item places p)) ks ≡ Some keys
      → flat_map (λ (k : SortKey (List Mention)). k.value) (map (map_key form_uses) keys) ≡ flat_map (λ k. uses k.value (names_of names p)) ks
  keys_used p [] keys h =
      subst (λ (found : List (SortKey Form)). flat_map (λ (k : SortKey (List Mention)). k.value) (map (map_key form_uses) found) ≡ []) (same_Some [] keys h) refl
  keys_used p (k ∷ ks) keys h =
      option_and_then_some _ (key_tree schemas tree (with_item places p) k) keys h
      (λ y y_there made. map_by _ (traversed (key_tree schemas tree (with_item places p)) ks) keys made
      (λ ys ys_there is. subst (λ (found : List (SortKey Form)). flat_map (λ (z : SortKey (List Mention)). z.value) (map (map_key form_uses) found)
      ≡ uses k.value (names_of names p) ++ flat_map (λ z. uses z.value (names_of names p)) ks) is
      (ap₂ (λ us vs. us ++ vs)
      (map_by _ (option_and_then sortable_tree (tree k.value (with_item places p))) y y_there
      (λ found there same. subst (λ (z : SortKey Form). form_uses z.value ≡ uses k.value (names_of names p)) same
      (at_item p k.value found (kept_by (λ x. is_sort_key (Some x.ty)) _ found there))))
      (keys_used p ks ys ys_there))))

  -- ---- groups

  element_used : (p : Pattern) (element : Option X) (r : Tree) → element_tree schemas tree places p element ≡ Some r
      → form_uses r.form ≡ element_uses typed uses (names_of names p) element
  element_used p None r h = subst (λ (x : Tree). form_uses x.form ≡ []) (same_Some _ r h) (of_slot places.depth)
  element_used p (Some v) r h = at_item p v r h

  group_used : (key : X) (element : Option X) (stage next : PipelineForm) → operator_stage schemas tree places (operator.GroupBy key element) stage ≡ Some next
      → Behind (operator_uses typed uses names (operator.GroupBy key element) stage.pattern) stage next
  group_used key element stage next h =
      option_and_then_some (grouped_stage schemas tree places element stage) (option_and_then keyed_tree (tree key (with_item places stage.pattern))) next h
      (λ k k_there found. map_by _ (option_and_then placed_tree (element_tree schemas tree places stage.pattern element)) next found
      (λ e e_there is. subst (Behind (operator_uses typed uses names (operator.GroupBy key element) stage.pattern) stage) is
      (of_group stage.form k.form e.form
      ∙ ap₂ (λ us vs. form_uses stage.form ++ (us ++ vs))
      (element_used stage.pattern element e (kept_by (λ x. has_place (out-Ty x.ty)) _ e e_there))
      (at_item stage.pattern key k (kept_by (λ x. is_key x.ty) _ k k_there)))))

  -- ---- a call, and calls in turn

  operator_used : (op : Operator X) (stage next : PipelineForm) → operator_stage schemas tree places op stage ≡ Some next
      → Behind (operator_uses typed uses names op stage.pattern) stage next
  operator_used (operator.Where c) stage next h =
      map_by _ (option_and_then _ (tree c (with_item places stage.pattern))) next h
      (λ found there is. subst (Behind (uses c (names_of names stage.pattern)) stage) is
      (of_where stage.form found.form
      ∙ ap (λ us. form_uses stage.form ++ us) (at_item stage.pattern c found (kept_by (λ x. is_bool (out-Ty x.ty)) _ found there))))
  operator_used (operator.Select v) stage next h =
      map_by _ (option_and_then placed_tree (tree v (with_item places stage.pattern))) next h
      (λ found there is. subst (Behind (uses v (names_of names stage.pattern)) stage) is
      (of_select stage.form found.form
      ∙ ap (λ us. form_uses stage.form ++ us) (at_item stage.pattern v found (kept_by (λ x. has_place (out-Ty x.ty)) _ found there))))
  operator_used (operator.Let n f) stage next h =
      map_by _ (if_fresh schemas tree places stage.pattern n (option_and_then placed_tree (tree f (with_item places stage.pattern)))) next h
      (λ found fresh_there is. when_by _ _ found fresh_there
      (λ fresh there. subst (Behind (uses f (names_of names stage.pattern)) stage) is
      (of_select stage.form (form.Pair (form.Slot places.depth) found.form)
      ∙ ap (λ us. form_uses stage.form ++ us)
      (of_pair (form.Slot places.depth) found.form ∙ ap (λ us. us ++ form_uses found.form) (of_slot places.depth)
      ∙ at_item stage.pattern f found (kept_by (λ x. has_place (out-Ty x.ty)) _ found there)))))
  operator_used (operator.SelectMany n f result) stage next h = many_used n f result stage next h
  operator_used (operator.Join j result) stage next h = join_used j result stage next h
  operator_used (operator.OrderBy ks) stage next h =
      map_by _ (gathered (key_tree schemas tree (with_item places stage.pattern)) ks) next h
      (λ keys there is. subst (Behind (operator_uses typed uses names (operator.OrderBy ks) stage.pattern) stage) is
      (of_order stage.form keys
      ∙ ap (λ us. form_uses stage.form ++ us)
      (keys_used stage.pattern ks keys (sym (gathered_all (key_tree schemas tree (with_item places stage.pattern)) ks) ∙ there))))
  operator_used (operator.GroupBy key element) stage next h = group_used key element stage next h

  operators_used : (ops : List (Operator X)) (stage last : PipelineForm) → fold (walk_step (operator_stage schemas tree places)) (Some stage) ops ≡ Some last
      → Behind (operators_uses typed uses names ops stage.pattern) stage last
  operators_used [] stage last h = subst (Behind [] stage) (same_Some stage last h) (sym (append_none (form_uses stage.form)))
  operators_used (op ∷ ops) stage last h = by (operator_stage schemas tree places op stage) refl h (λ next. operators_used ops next last) where
    Rest : Option PipelineForm → Type 0
    Rest o = fold (walk_step (operator_stage schemas tree places)) o ops ≡ Some last

    by : (o : Option PipelineForm) → operator_stage schemas tree places op stage ≡ o → Rest o
        → ((next : PipelineForm) → Rest (Some next) → Behind (operators_uses typed uses names ops next.pattern) next last)
        → Behind (operators_uses typed uses names (op ∷ ops) stage.pattern) stage last
    by None there found rest = absurd (none-some last (sym (walk_none (operator_stage schemas tree places) ops) ∙ found))
    by (Some next) there found rest =
        rest next found
        ∙ ap (λ us. us ++ operators_uses typed uses names ops next.pattern) (operator_used op stage next there)
        ∙ append_behind (form_uses stage.form) (operator_uses typed uses names op stage.pattern) (operators_uses typed uses names ops next.pattern)
        ∙ ap (λ (o : Option Pattern). form_uses stage.form ++ (operator_uses typed uses names op stage.pattern ++ under o (operators_uses typed uses names ops)))
        (sym (sym (operator_found schemas tree typed alike places op stage) ∙ ap pattern_found there))

  -- ---- bodies, and what follows

  -- a body over items, and what follows it
  body_used : (n : List ℕ) (ops : List (Operator X)) (items r : Tree) (rest : Ty → List Mention) → body_tree schemas tree places n ops items ≡ Some r
      → form_uses r.form ++ rest r.ty
      ≡ form_uses items.form ++ under (sole_pattern typed names n items.ty)
      (λ p. operators_uses typed uses names ops p ++ under (operators_items typed names ops p) rest)
  body_used n ops items r rest h =
      when_by (is_fresh names n) _ r h
      (λ fresh found. option_and_then_some items_of_pipeline (walked (operator_stage schemas tree places) (pipeline_of (One n items.ty) items.form) ops) r found
      (λ stage there given. when_by (has_place (out-Ty (pattern_type stage.pattern))) _ r given
      (λ placed more. when_by (is_within (ty.Seq (pattern_type stage.pattern))) _ r more
      (λ within same. ap (λ (x : Tree). form_uses x.form ++ rest r.ty) (sym (same_Some _ r same))
      ∙ ap (λ us. us ++ rest r.ty) (operators_used ops (pipeline_of (One n items.ty) items.form) stage there)
      ∙ append_behind (form_uses items.form) (operators_uses typed uses names ops (One n items.ty)) (rest r.ty)
      ∙ ap (λ us. form_uses items.form ++ us)
      (sym (ap (λ (o : Option Pattern). under o (λ p. operators_uses typed uses names ops p ++ under (operators_items typed names ops p) rest)) (sole fresh)
      ∙ ap (λ (o : Option Ty). operators_uses typed uses names ops (One n items.ty) ++ under o rest) (typed_so fresh)))))))
    where
      sole : is_fresh names n ≡ true → sole_pattern typed names n items.ty ≡ Some (One n items.ty)
      sole fresh = ap (λ (b : Bool). when b (Some (One n items.ty))) fresh

      typed_so : is_fresh names n ≡ true → operators_items typed names ops (One n items.ty) ≡ Some r.ty
      typed_so fresh =
          sym (body_found schemas tree typed alike places n ops items ∙ ap (option_and_then (operators_items typed names ops)) (sole fresh)) ∙ ap type_found h

  parts_used : (rest : List (Part X)) (items last : Tree) → fold (walk_step (part_tree schemas tree places)) (Some items) rest ≡ Some last
      → form_uses last.form ≡ form_uses items.form ++ parts_uses typed uses names rest items.ty
  parts_used [] items last h =
      subst (λ (x : Tree). form_uses x.form ≡ form_uses items.form ++ []) (same_Some items last h) (sym (append_none (form_uses items.form)))
  parts_used (part ∷ rest) items last h = by (part_tree schemas tree places part items) refl h (λ next. parts_used rest next last) where
    Rest : Option Tree → Type 0
    Rest o = fold (walk_step (part_tree schemas tree places)) o rest ≡ Some last

    by : (o : Option Tree) → part_tree schemas tree places part items ≡ o → Rest o
        → ((next : Tree) → Rest (Some next) → form_uses last.form ≡ form_uses next.form ++ parts_uses typed uses names rest next.ty)
        → form_uses last.form ≡ form_uses items.form ++ parts_uses typed uses names (part ∷ rest) items.ty
    by None there found more = absurd (none-some last (sym (walk_none (part_tree schemas tree places) rest) ∙ found))
    by (Some next) there found more =
        more next found ∙ body_used part.name part.operators items next (parts_uses typed uses names rest) there

  pub call_used : (c : Call X) (r : Tree) → call_tree schemas tree c places ≡ Some r → form_uses r.form ≡ call_uses typed uses c names
  unfolding call_tree call_uses
  call_used c r h =
      map_by (query_tree schemas tree) (call_items_tree schemas tree c places) r h
      (λ all all_there is. option_and_then_some (λ items. walked (part_tree schemas tree places) items c.rest)
      (option_and_then (body_tree schemas tree places c.name c.operators) (option_map (sequence_tree schemas tree) (source_tree schemas tree c.source places))) all all_there
      (λ items items_there walk. option_and_then_some (body_tree schemas tree places c.name c.operators)
      (option_map (sequence_tree schemas tree) (source_tree schemas tree c.source places)) items items_there
      (λ sequence sequence_there body. map_by (sequence_tree schemas tree) (source_tree schemas tree c.source places) sequence sequence_there
      (λ source source_there same. subst (λ (x : Tree). form_uses x.form ≡ call_uses typed uses c names) is
      (parts_used c.rest items all walk
      ∙ body_used c.name c.operators sequence items (parts_uses typed uses names c.rest) body
      ∙ (λ i. (ap (λ (x : Tree). form_uses x.form) (sym same) ∙ of_sequence source.form
      ∙ items_used (uses c.source names) (tree c.source places) source (used c.source places nothing) source_there) i
      ++ behind c (ap (λ (x : Tree). x.ty) (sym same) i))
      ∙ sym (ap (λ (o : Option Ty). uses c.source names ++ under o (behind c))
      (sym (source_found schemas tree typed alike places c.source) ∙ ap type_found source_there)))))))
    where
      -- what is used after the source, where its items are of this type
      behind : Call X → Ty → List Mention
      behind d t =
          under (sole_pattern typed names d.name t)
          (λ p. operators_uses typed uses names d.operators p ++ under (operators_items typed names d.operators p) (parts_uses typed uses names d.rest))
