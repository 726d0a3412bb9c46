-- The tree of the calls of a query is the sequence of their stream, call by call, if the trees of the expressions in them mean what those
-- mean.
use Rattle.std.proofs.Common.{◌≡◌, ◌∷◌, ◌++◌, ◌+◌, List, [], map, ℕ, Bool, true, Option, Some, None, Result, Ok, ap, ap₂, ◌∙◌, sym, refl, subst, option_and_then}
use Rattle.std.proofs.lemmas.Option.{none-some, option_and_then_some, same_Some}
use Rattle.std.specs.List.{fold}
use Rattle.std.specs.Prelude.{is_some}
use Rattle.lq_value.specs.SameAndOrder.{same_values as same_keys}
use Rattle.lq_value.specs.declared.scalar.Scalar.{Scalar}
use Rattle.lq_value.specs.declared.ty.Ty.{Ty, out-Ty}
use Rattle.lq_value.specs.declared.ty.Ty.TheVariants as ty
use Rattle.lq_value.specs.declared.ty.Ty.TheVariants.{outs-Group}
use Rattle.lq_value.specs.declared.value.End.{End}
use Rattle.lq_value.specs.declared.value.End.TheVariants as end
use Rattle.lq_value.specs.declared.value.Fault.{Fault}
use Rattle.lq_value.specs.declared.value.Value.{Value}
use Rattle.lq_value.specs.declared.value.Value.TheVariants as value
use Rattle.lq_language.specs.Arrangement.{Keyed, all_of, arranged, keyed, order_by, with_key}
use Rattle.lq_language.specs.ClauseTyping.{element_type, has_place, is_fresh, is_key, is_within, joined_name, when}
use Rattle.lq_language.specs.Maps.{map_key}
use Rattle.lq_language.specs.Worlds.{Meaning, Scope, World, bound, names_at, or_null}
use Rattle.lq_language.specs.OperandMeaning.{on_scalar, sequence, stream_of}
use Rattle.lq_language.specs.ClauseMeaning.{as_group, condition_at, inner_items, item_type_at, joined_type, joined_values, matches, sort_key_at}
use Rattle.lq_language.specs.ValuesOfTypes.{Every, HoldsRows}
use Rattle.lq_language.specs.Operations.{on_ok}
use Rattle.lq_language.specs.Operators.{Pattern, One, With, bind, call_meaning, element_at, lambda, names_of, operator_meaning, operators_items, operators_meaning, operators_type_at, pair, parts_meaning, pattern_after, pattern_behind, pattern_type, result_of, unnamed}
use Rattle.lq_language.specs.Stream.{Stream, both, expand_by, join_by, on_value, select_by, where_by, with_keys}
use Rattle.lq_language.specs.Names.{Names}
use Rattle.lq_language.specs.OperandTypes.{is_scalar}
use Rattle.lq_language.specs.Meaning.{as_sequence}
use Rattle.lq_language.specs.MeaningLaws.{IsValueOf, by_group}
use Rattle.lq_language.specs.declared.calls.Call.{Call}
use Rattle.lq_language.specs.declared.calls.Operator.{Operator}
use Rattle.lq_language.specs.declared.calls.Operator.TheVariants as operator
use Rattle.lq_language.specs.declared.calls.Paired.{Paired}
use Rattle.lq_language.specs.declared.calls.Paired.TheVariants as paired
use Rattle.lq_language.specs.declared.calls.Part.{Part}
use Rattle.lq_grammar.specs.declared.syntax.Join.{Join}
use Rattle.lq_grammar.specs.declared.syntax.SortKey.{SortKey}
use Rattle.lq_language.proofs.AlikeStreamLaws.{Agree, Alike, KeysAlike, Pair, agree_ok, both_agree, expand_alike, group_alike, join_alike, on_ok_agree, order_alike, select_alike, where_alike}
use Rattle.lq_language.proofs.MatchLaws.{every_match}
use Rattle.lq_language.proofs.ItemLaws.{every_more, every_none, first_of, others_of}
use Rattle.lq_language.proofs.FindingLaws.{map_by, when_by}
use Rattle.lq_language.proofs.TypedMethodLaws.{scalar_after, stream_alike, truth_same}
use Rattle.lq_language.proofs.TypingLaws.{is_truth}
use Rattle.lq_language.proofs.ValueLaws.{gets_ok, scalar_plain, sequence_is}
use Rattle.lq_tree.specs.Binding.{Binds, PipelineForm, body_tree, call_items_tree, call_tree, condition_tree, element_tree, expanded_stage, gathered, grouped_stage, group_stage, if_fresh, inner_stage, items_of_pipeline, items_of_tree, join_keys, join_stage, joined_form, joined_stage, key_tree, keyed_tree, keys_of, let_stage, matched_stage, matched_type, operator_stage, order_stage, paired_stage, part_tree, placed_tree, query_tree, select_many_stage, select_stage, sequence_tree, sortable_tree, source_tree, pipeline_of, tree_of, walk_step, walked, where_stage}
use Rattle.lq_tree.specs.FormMeaning.{Means, Slots, form_meaning, is_true, matched, sort_key}
use Rattle.lq_tree.specs.Places.{Places, names_of_places, with_item, with_name}
use Rattle.lq_tree.specs.declared.tree.Form.{Form}
use Rattle.lq_tree.specs.declared.tree.Form.TheVariants as form
use Rattle.lq_tree.specs.declared.tree.Tree.{Tree}
use Rattle.lq_tree.proofs.CallTypes.{at_item, body_found, operator_found, pattern_found}
use Rattle.lq_tree.proofs.FormSteps.{meaning_at, stream_sequence}
use Rattle.lq_tree.proofs.MeansMembers.{same_agree}
use Rattle.lq_tree.proofs.Patterns.{behind_after}
use Rattle.lq_tree.proofs.ScopeLaws.{IsItem, Stands, append_behind, item_stands, item_value, slot_means, slot_reached, types_at}
use Rattle.lq_tree.proofs.TypeLaws.{type_found}
use Rattle.lq_tree.proofs.WalkLaws.{gathered_all, traversed, walk_none}

placed_same : (o : Option Tree) (r : Tree) → option_and_then placed_tree o ≡ Some r → o ≡ Some r
placed_same o r h = option_and_then_some placed_tree o r h (λ x there found. when_by _ (Some x) r found (λ placed is. there ∙ is))

module _ {R : Type 0} (world : World R) (holds : HoldsRows world) {X : Type 0} (tree : X → Binds) (typed : X → Names → Option Ty) (meant : X → Meaning R)
    (alike : (x : X) (places : Places) → type_found (tree x places) ≡ typed x (names_of_places world.schemas places))
    (means : (x : X) (slots : Slots R) (places : Places) (scope : Scope R) → Stands world slots places scope → (r : Tree) → tree x places ≡ Some r
    → Agree (IsValueOf world r.ty) (form_meaning world r.form slots) (meant x scope))
    (slots : Slots R) (places : Places) (scope : Scope R) (at : Stands world slots places scope) where
  abbrev Val : Ty → Value R → Type 0
  Val = IsValueOf world

  abbrev Item : Pattern → Value R → Type 0
  Item = IsItem world

  abbrev mean : Form → Result (Value R) Fault
  mean f = form_meaning world f slots

  -- what a form means where an item is in one slot more
  abbrev mean_at : Form → Value R → Result (Value R) Fault
  mean_at f v = form_meaning world f (slots ++ v ∷ [])

  in_item : (x : X) (p : Pattern) (r : Tree) → tree x (with_item places p) ≡ Some r → (v : Value R) → Item p v → Agree (Val r.ty) (mean_at r.form v)
      (meant x (bind p scope v))
  in_item x p r h v item = means x (slots ++ v ∷ []) (with_item places p) (bind p scope v) (item_stands world slots places scope p v at item) r h

  -- ---- streams of forms

  -- a stage's form gives this stream, of items of its pattern
  abbrev Gives : PipelineForm → Stream (Value R) → Type 0
  Gives stage s = (mean stage.form ≡ Ok (sequence s)) × Every (Item stage.pattern) s.0

  stream_back : (stage : PipelineForm) (s : Stream (Value R)) → Gives stage s → Alike (Item stage.pattern) (stream_of world (mean stage.form)) s
  stream_back stage s gives =
      let same = ap (stream_of world) gives.0 ∙ stream_sequence world s in (same, subst (λ (z : Stream (Value R)). Every (Item stage.pattern) z.0) (sym same) gives.1)

  gives_by : (p : Pattern) (f : Form) (z s : Stream (Value R)) → mean f ≡ as_sequence z → Alike (Item p) z s → Gives (pipeline_of p f) s
  gives_by p f z s is all = (is ∙ ap as_sequence all.0, subst (λ (y : Stream (Value R)). Every (Item p) y.0) all.0 all.1)

  to_stage : (n : PipelineForm) (next : PipelineForm) (s : Stream (Value R)) → n ≡ next → Gives n s → Gives next s
  to_stage n next s is = subst (λ (x : PipelineForm). Gives x s) is

  -- ---- calls with one lambda

  where_means : (c : X) (stage next : PipelineForm) (s : Stream (Value R)) → where_stage world.schemas tree places c stage ≡ Some next → Gives stage s
      → Gives next (where_by (λ v. condition_at world typed meant c (bind stage.pattern scope v)) s.0 s.1)
  where_means c stage next s h gives =
      map_by _ _ next h
      (λ x found is. option_and_then_some condition_tree _ x found
      (λ y bound truth. when_by _ (Some y) x truth
      (λ bool same. to_stage _ next _ is
      (gives_by stage.pattern (form.Where stage.form x.form) _ _ (meaning_at world slots _ (form.outs-Where stage.form x.form))
      (where_alike (Item stage.pattern) (λ v. is_true world (form_meaning world x.form) (slots ++ v ∷ [])) (λ v. condition_at world typed meant c
      (bind stage.pattern scope v))
      (λ v item. truth_same world world.unknown world.unknown (mean_at x.form v) (meant c (bind stage.pattern scope v))
      (subst (λ (t : Ty). Agree (Val t) (mean_at x.form v) (meant c (bind stage.pattern scope v))) (ap (λ (z : Tree). z.ty) (sym (same_Some y x same))
      ∙ is_truth y.ty bool)
      (in_item c stage.pattern x (bound ∙ same) v item)))
      (stream_of world (mean stage.form)) s (stream_back stage s gives))))))

  select_means : (x : X) (stage next : PipelineForm) (s : Stream (Value R)) → select_stage world.schemas tree places x stage ≡ Some next → Gives stage s
      → Gives next (select_by (lambda world typed meant scope stage.pattern x) s.0 s.1)
  select_means x stage next s h gives =
      map_by _ _ next h
      (λ r found is. to_stage _ next _ is
      (gives_by (unnamed r.ty) (form.Select stage.form r.form) _ _ (meaning_at world slots _ (form.outs-Select stage.form r.form))
      (select_alike (Item stage.pattern) (Val r.ty) (mean_at r.form) (λ v. meant x (bind stage.pattern scope v)) (λ v item. in_item x stage.pattern r
      (placed_same _ r found) v item)
      (stream_of world (mean stage.form)) s (stream_back stage s gives))))

  -- a pair of what is in the item's slot and what a form means
  pair_item : (p : Pattern) (n : List ℕ) (x : X) (r : Tree) → tree x (with_item places p) ≡ Some r → (v : Value R) → Item p v
      → Agree (Item (With p n r.ty)) (mean_at (form.Pair (form.Slot places.depth) r.form) v) (on_ok (meant x (bind p scope v)) (λ w. Ok (pair v w)))
  pair_item p n x r bound v item =
      let is = meaning_at world (slots ++ v ∷ []) _ (form.outs-Pair (form.Slot places.depth) r.form)
      ∙ ap (λ (o : Result (Value R) Fault). on_ok o (λ a. on_ok (mean_at r.form v) (λ b. Ok (pair a b)))) (slot_means world slots places scope v at) in
      let all = on_ok_agree (Val r.ty) (Item (With p n r.ty)) (λ w. Ok (pair v w)) (λ w. Ok (pair v w))
      (λ w fits. agree_ok (Item (With p n r.ty)) (pair v w) (v, w, refl, item, fits)) (mean_at r.form v) (meant x (bind p scope v))
      (in_item x p r bound v item) in
      (is ∙ all.0, λ u u_is. all.1 u (sym is ∙ u_is))

  let_means : (n : List ℕ) (x : X) (stage next : PipelineForm) (s : Stream (Value R)) → let_stage world.schemas tree places n x stage ≡ Some next → Gives stage s
      → Gives next (select_by (λ v. on_ok (lambda world typed meant scope stage.pattern x v) (λ w. Ok (pair v w))) s.0 s.1)
  let_means n x stage next s h gives =
      map_by _ _ next h
      (λ r found is. when_by _ _ r found
      (λ fresh placed. to_stage _ next _ is
      (gives_by (With stage.pattern n r.ty) (form.Select stage.form (form.Pair (form.Slot places.depth) r.form)) _ _
      (meaning_at world slots _ (form.outs-Select stage.form (form.Pair (form.Slot places.depth) r.form)))
      (select_alike (Item stage.pattern) (Item (With stage.pattern n r.ty)) (mean_at (form.Pair (form.Slot places.depth) r.form))
      (λ v. on_ok (meant x (bind stage.pattern scope v)) (λ w. Ok (pair v w)))
      (λ v item. pair_item stage.pattern n x r (placed_same _ r placed) v item) (stream_of world (mean stage.form)) s (stream_back stage s gives)))))

  -- ---- types under an item's names

  under_item : (x : X) (p : Pattern) (r : Tree) → tree x (with_item places p) ≡ Some r → typed x (names_of (names_at world scope) p) ≡ Some r.ty
  under_item x p r h =
      ap (λ (ns : Names). typed x (names_of ns p)) (types_at world slots places scope at) ∙ sym (at_item world.schemas tree typed alike places p x)
      ∙ ap type_found h

  at_place : (x : X) (r : Tree) → tree x places ≡ Some r → typed x (names_at world scope) ≡ Some r.ty
  at_place x r h = ap (typed x) (types_at world slots places scope at) ∙ sym (alike x places) ∙ ap type_found h

  -- a source: the tree that it is bound to, and the type of its items
  source_by : {P : Type 0} (x : X) (inside : Places) (items : Tree) → source_tree world.schemas tree x inside ≡ Some items
      → ((y : Tree) → tree x inside ≡ Some y → element_type (out-Ty y.ty) ≡ Some items.ty → y.form ≡ items.form → P) → P
  source_by x inside items h next =
      option_and_then_some items_of_tree (tree x inside) items h
      (λ y bound found. map_by _ (element_type (out-Ty y.ty)) items found
      (λ t element is. next y bound (element ∙ ap (λ (z : Tree). Some z.ty) is) (ap (λ (z : Tree). z.form) is)))

  element_of_type : (o : Option Ty) (s t : Ty) → o ≡ Some s → element_type (out-Ty s) ≡ Some t → or_null (option_and_then (λ u. element_type (out-Ty u)) o) ≡ t
  element_of_type o s t is element = ap (λ (q : Option Ty). or_null (option_and_then (λ u. element_type (out-Ty u)) q)) is ∙ ap or_null element

  -- ---- calls that pair items

  -- two items that are in two slots more
  both_slots : (v w : Value R) → slots ++ v ∷ w ∷ [] ≡ (slots ++ v ∷ []) ++ w ∷ []
  both_slots v w = sym (append_behind slots (v ∷ []) (w ∷ []))

  pair_means : (p : Pattern) (n : List ℕ) (t : Ty) (result : Paired X) (made : PipelineForm) → paired_stage world.schemas tree places p n t result ≡ Some made
      → (v : Value R) → Item p v → (w : Value R) → Val t w → Agree (Item made.pattern) (form_meaning world made.form (slots ++ v ∷ w ∷ []))
      (result_of world typed meant scope p n t result v w)
  pair_means p n t paired.Pair made h v item w fits =
      subst (λ (x : PipelineForm). Agree (Item x.pattern) (form_meaning world x.form (slots ++ v ∷ w ∷ [])) (Ok (pair v w))) (same_Some _ made h)
      (is, λ u u_is. (agree_ok (Item (With p n t)) (pair v w) (v, w, refl, item, fits)).1 u (sym is ∙ u_is))
    where
      first_slot : form_meaning world (form.Slot places.depth) (slots ++ v ∷ w ∷ []) ≡ Ok v
      first_slot = ap (form_meaning world (form.Slot places.depth)) (both_slots v w) ∙ slot_reached world slots places.depth v at.1.0 (w ∷ [])

      second_slot : form_meaning world (form.Slot (places.depth + 1)) (slots ++ v ∷ w ∷ []) ≡ Ok w
      second_slot =
          ap (form_meaning world (form.Slot (places.depth + 1))) (both_slots v w)
          ∙ slot_means world (slots ++ v ∷ []) (with_item places p) (bind p scope v) w (item_stands world slots places scope p v at item)

      is : form_meaning world (form.Pair (form.Slot places.depth) (form.Slot (places.depth + 1))) (slots ++ v ∷ w ∷ []) ≡ Ok (pair v w)
      is =
          meaning_at world (slots ++ v ∷ w ∷ []) _ (form.outs-Pair (form.Slot places.depth) (form.Slot (places.depth + 1)))
          ∙ ap₂ (λ (k l : Result (Value R) Fault). on_ok k (λ a. on_ok l (λ b. Ok (pair a b)))) first_slot second_slot
  pair_means p n t (paired.Value x) made h v item w fits =
      map_by _ _ made h
      (λ r found is. subst (λ (y : PipelineForm). Agree (Item y.pattern) (form_meaning world y.form (slots ++ v ∷ w ∷ [])) (result_of world typed meant scope p n t
      (paired.Value x) v w)) is
      (subst (λ (z : Slots R). Agree (Val r.ty) (form_meaning world r.form z) (result_of world typed meant scope p n t (paired.Value x) v w))
      (sym (both_slots v w))
      (means x ((slots ++ v ∷ []) ++ w ∷ []) (with_name (with_item places p) n t) (bind (One n t) (bind p scope v) w)
      (item_stands world (slots ++ v ∷ []) (with_item places p) (bind p scope v) (One n t) w (item_stands world slots places scope p v at item) fits) r
      (placed_same _ r found))))

  select_many_means : (n : List ℕ) (x : X) (result : Paired X) (stage next : PipelineForm) (s : Stream (Value R))
      → select_many_stage world.schemas tree places n x result stage ≡ Some next → Gives stage s
      → Gives next (operator_meaning world typed meant scope (operator.SelectMany n x result) stage.pattern s)
  select_many_means n x result stage next s h gives =
      option_and_then_some (expanded_stage world.schemas tree places n result stage) (if_fresh world.schemas tree places stage.pattern n
      (source_tree world.schemas tree x (with_item places stage.pattern))) next h
      (λ inner found made. when_by _ _ inner found
      (λ fresh source. source_by x (with_item places stage.pattern) inner source
      (λ y bound element y_form. map_by _ (paired_stage world.schemas tree places stage.pattern n inner.ty result) next made
      (λ pairs pairs_there is. to_stage _ next _ is
      (subst (λ (t : Ty). Gives (pipeline_of pairs.pattern (form.SelectMany stage.form inner.form pairs.form))
      (expand_by (λ v. stream_of world (lambda world typed meant scope stage.pattern x v)) (result_of world typed meant scope stage.pattern n t result) s.0
      s.1))
      (sym (element_of_type (typed x (names_of (names_at world scope) stage.pattern)) y.ty inner.ty (under_item x stage.pattern y bound) element))
      (gives_by pairs.pattern (form.SelectMany stage.form inner.form pairs.form) _ _
      (meaning_at world slots _ (form.outs-SelectMany stage.form inner.form pairs.form))
      (expand_alike (Item stage.pattern) (Val inner.ty) (Item pairs.pattern) (λ v. stream_of world (mean_at inner.form v))
      (λ v. stream_of world (meant x (bind stage.pattern scope v)))
      (λ v w. form_meaning world pairs.form (slots ++ v ∷ w ∷ [])) (result_of world typed meant scope stage.pattern n inner.ty result)
      (λ v item. stream_alike world world.unknown world.unknown y.ty inner.ty element (mean_at inner.form v) (meant x (bind stage.pattern scope v))
      (subst (λ (f : Form). Agree (Val y.ty) (mean_at f v) (meant x (bind stage.pattern scope v))) y_form (in_item x stage.pattern y bound v item)))
      (λ v item w fits. pair_means stage.pattern n inner.ty result pairs pairs_there v item w fits)
      (stream_of world (mean stage.form)) s (stream_back stage s gives))))))))

  -- ---- joins

  -- what matches is as the type of the name says
  finds : (into : Option (List ℕ)) (p : Pattern) (k t u : Ty) → matched_type world.schemas tree places p into t ≡ Some u
      → (key : Value R) (qs : List (Value R × Value R)) → Every (Pair (Val k) (Val t)) qs
      → (matched world (is_some into) key qs ≡ joined_values world typed meant into key qs) × Every (Val u) (matched world (is_some into) key qs)
  finds None p k t u h key qs ps = (refl, subst (λ (x : Ty). Every (Val x) (matches key qs)) (same_Some t u h) (every_match (Val k) (Val t) key qs ps))
  finds (Some g) p k t u h key qs ps =
      when_by _ _ u h
      (λ fresh is. (
        refl,
        subst (λ (x : Ty). Every (Val x) (value.Seq (matches key qs) end.Done ∷ [])) (same_Some (ty.Seq t) u is)
            (every_more (Val (ty.Seq t)) (value.Seq (matches key qs) end.Done) [] (sequence_is world t (matches key qs, end.Done)
            (every_match (Val k) (Val t) key qs ps)) (every_none (Val (ty.Seq t)))),
      ))

  joined_is : (into : Option (List ℕ)) (p : Pattern) (t u : Ty) → matched_type world.schemas tree places p into t ≡ Some u
      → joined_type world typed meant into t ≡ u
  joined_is None p t u h = same_Some t u h
  joined_is (Some g) p t u h = when_by _ _ u h (λ fresh is. same_Some _ u is)

  -- the inner items with their keys
  keyed_means : (j : Join X) (y b : Tree) (t : Ty) (f : Form) → tree j.source places ≡ Some y → element_type (out-Ty y.ty) ≡ Some t → y.form ≡ f
      → tree j.inner_key (with_name places j.name t) ≡ Some b
      → Alike (Pair (Val b.ty) (Val t)) (with_keys (mean_at b.form) (stream_of world (mean f))) (inner_items world typed meant scope j)
  keyed_means j y b t f source element y_form key =
      subst (λ (u : Ty). Alike (Pair (Val b.ty) (Val t)) (with_keys (mean_at b.form) (stream_of world (mean f)))
      (with_keys (λ v. meant j.inner_key (bound_at u v)) (stream_of world (meant j.source scope))))
      (sym (element_of_type (typed j.source (names_at world scope)) y.ty t (at_place j.source y source) element))
      (select_alike (Val t) (Pair (Val b.ty) (Val t)) (λ v. both (mean_at b.form v) (Ok v)) (λ v. both (meant j.inner_key (bound_at t v)) (Ok v))
      (λ v fits. both_agree (Val b.ty) (Val t) _ _ _ _
      (means j.inner_key (slots ++ v ∷ []) (with_name places j.name t) (bound_at t v) (item_stands world slots places scope (One j.name t) v at fits) b key)
      (agree_ok (Val t) v fits))
      (stream_of world (mean f)) (stream_of world (meant j.source scope))
      (stream_alike world world.unknown world.unknown y.ty t element (mean f) (meant j.source scope)
      (subst (λ (g : Form). Agree (Val y.ty) (mean g) (meant j.source scope)) y_form (means j.source slots places scope at y source))))
    where
      bound_at : Ty → Value R → Scope R
      bound_at u v = bound j.name u scope v

  join_pieces : (j : Join X) (result : Paired X) (stage : PipelineForm) (s : Stream (Value R)) (inner y a b : Tree) (t : Ty) (pairs : PipelineForm) → Gives stage s
      → tree j.source places ≡ Some y
      → element_type (out-Ty y.ty) ≡ Some inner.ty → y.form ≡ inner.form → tree j.outer_key (with_item places stage.pattern) ≡ Some a
      → tree j.inner_key (with_name places j.name inner.ty) ≡ Some b
      → matched_type world.schemas tree places stage.pattern j.into inner.ty ≡ Some t → paired_stage world.schemas tree places stage.pattern
      (joined_name j) t result ≡ Some pairs
      → Gives (pipeline_of pairs.pattern (joined_form world.schemas tree stage.form inner.form (a.form, b.form) (is_some j.into) pairs.form))
      (operator_meaning world typed meant scope (operator.Join j result) stage.pattern s)
  join_pieces j result stage s inner y a b t pairs gives bound element y_form outer_bound inner_bound into pairs_there =
      subst (λ (u : Ty). Gives (pipeline_of pairs.pattern joined)
      (join_by (inner_items world typed meant scope j) (lambda world typed meant scope stage.pattern j.outer_key) (joined_values world typed meant j.into)
      (result_of world typed meant scope stage.pattern (joined_name j) u result) s.0 s.1))
      (sym (ap (joined_type world typed meant j.into) (element_of_type (typed j.source (names_at world scope)) y.ty inner.ty
      (at_place j.source y bound) element)
      ∙ joined_is j.into stage.pattern inner.ty t into))
      (gives_by pairs.pattern joined _ _ (meaning_at world slots _ (form.outs-Join stage.form _))
      (join_alike (Item stage.pattern) (Val t) (Item pairs.pattern) (Val a.ty) (Pair (Val b.ty) (Val inner.ty)) (mean_at a.form)
      (λ v. meant j.outer_key (bind stage.pattern scope v))
      (matched world (is_some j.into)) (joined_values world typed meant j.into) (λ v w. form_meaning world pairs.form (slots ++ v ∷ w ∷ []))
      (result_of world typed meant scope stage.pattern (joined_name j) t result) (λ v item. in_item j.outer_key stage.pattern a outer_bound v item)
      (λ key qs ps. finds j.into stage.pattern b.ty inner.ty t into key qs ps) (λ v item w fits. pair_means stage.pattern (joined_name j) t result pairs
      pairs_there v item w fits)
      (with_keys (mean_at b.form) (stream_of world (mean inner.form))) (inner_items world typed meant scope j)
      (keyed_means j y b inner.ty inner.form bound element y_form inner_bound)
      (stream_of world (mean stage.form)) s (stream_back stage s gives)))
    where
      joined : Form
      joined = joined_form world.schemas tree stage.form inner.form (a.form, b.form) (is_some j.into) pairs.form

  join_means : (j : Join X) (result : Paired X) (stage next : PipelineForm) (s : Stream (Value R)) → join_stage world.schemas tree places j result stage ≡ Some next
      → Gives stage s
      → Gives next (operator_meaning world typed meant scope (operator.Join j result) stage.pattern s)
  join_means j result stage next s h gives =
      option_and_then_some (inner_stage world.schemas tree places j result stage) (if_fresh world.schemas tree places stage.pattern j.name
      (source_tree world.schemas tree j.source places)) next h
      (λ inner found made. when_by _ _ inner found
      (λ fresh source. source_by j.source places inner source
      (λ y bound element y_form. option_and_then_some (matched_stage world.schemas tree places j result stage inner)
      (join_keys world.schemas tree places stage.pattern j inner.ty) next made
      (λ keys keys_there behind. option_and_then_some _ (tree j.outer_key (with_item places stage.pattern)) keys keys_there
      (λ a outer_bound keyed. option_and_then_some (keys_of world.schemas tree a) (tree j.inner_key (with_name places j.name inner.ty)) keys keyed
      (λ b inner_bound are. when_by _ _ keys are
      (λ are_keys keys_are. option_and_then_some (joined_stage world.schemas tree places j result stage inner.form keys)
      (matched_type world.schemas tree places stage.pattern j.into inner.ty) next behind
      (λ t into last. map_by _ (paired_stage world.schemas tree places stage.pattern (joined_name j) t result) next last
      (λ pairs pairs_there is. to_stage _ next _ is
      (subst (λ (k : Form × Form). Gives (pipeline_of pairs.pattern (joined_form world.schemas tree stage.form inner.form k (is_some j.into) pairs.form))
      (operator_meaning world typed meant scope (operator.Join j result) stage.pattern s)) (same_Some _ keys keys_are)
      (join_pieces j result stage s inner y a b t pairs gives bound element y_form outer_bound inner_bound into pairs_there)))))))))))

  -- ---- order

  abbrev key_at : Pattern → SortKey X → Value R → Result Scalar Fault
  key_at p k v = sort_key_at world typed meant k (bind p scope v)

  abbrev form_key : SortKey Form → SortKey (Means R)
  form_key = map_key (form_meaning world)

  all_same : (p : Pattern) (f g : Value R → Result Scalar Fault) → ((v : Value R) → Item p v → f v ≡ g v) → (xs : List (Value R)) → Every (Item p) xs
      → all_of f xs ≡ all_of g xs
  all_same p f g same [] ps = refl
  all_same p f g same (x ∷ xs) ps =
      ap₂ (λ (o : Result Scalar Fault) (q : Result (List Scalar) Fault). on_ok o (λ y. on_ok q (λ ys. Ok (y ∷ ys)))) (same x (first_of (Item p) x xs ps))
      (all_same p f g same xs (others_of (Item p) x xs ps))

  -- what keys that are bound have to do with those that they are bound from
  abbrev KeysSame : Pattern → List (SortKey X) → List (SortKey Form) → Type 0
  KeysSame p ks fs =
      ((xs : List (Value R)) → Every (Item p) xs → keyed (sort_key world slots) (map form_key fs) xs ≡ keyed (key_at p) ks xs)
      × (map (λ (k : SortKey (Means R)). k.descending) (map form_key fs) ≡ map (λ (k : SortKey X). k.descending) ks)

  one_key : (p : Pattern) (k : SortKey X) (ks : List (SortKey X)) (r : Tree) (fs : List (SortKey Form)) → tree k.value (with_item places p) ≡ Some r
      → is_scalar (out-Ty r.ty) ≡ true → KeysSame p ks fs
      → KeysSame p (k ∷ ks) (record { value = r.form; descending = k.descending } ∷ fs)
  one_key p k ks r fs bound scalar rest = (
    λ xs ps. ap₂ (λ (o : Result (List Scalar) Fault) (q : Result (List (Keyed (Value R))) Fault). on_ok o (λ ls. on_ok q (λ rows. Ok (with_key ls rows))))
        (all_same p (λ v. on_scalar world (mean_at r.form v) (λ s. Ok s)) (key_at p k)
        (λ v item. scalar_after world world.unknown world.unknown (λ o q. o ≡ q) (λ x. refl) r.ty (scalar_plain (out-Ty r.ty) scalar) (λ s. Ok s) (λ s. Ok s)
        (λ s fits. refl) (mean_at r.form v)
        (meant k.value (bind p scope v)) (in_item k.value p r bound v item)) xs ps) (rest.0 xs ps),
    ap (λ ds. k.descending ∷ ds) rest.1,
  )

  keys_same : (p : Pattern) (ks : List (SortKey X)) (fs : List (SortKey Form)) → traversed (key_tree world.schemas tree (with_item places p)) ks ≡ Some fs
      → KeysSame p ks fs
  keys_same p [] fs h = subst (KeysSame p []) (same_Some [] fs h) ((λ xs ps. refl), refl)
  keys_same p (k ∷ ks) fs h =
      option_and_then_some _ (key_tree world.schemas tree (with_item places p) k) fs h
      (λ y y_there made. map_by _ (traversed (key_tree world.schemas tree (with_item places p)) ks) fs made
      (λ gs gs_there is. subst (KeysSame p (k ∷ ks)) is
      (map_by _ (option_and_then sortable_tree (tree k.value (with_item places p))) y y_there
      (λ r found same. subst (λ (z : SortKey Form). KeysSame p (k ∷ ks) (z ∷ gs)) same
      (option_and_then_some sortable_tree (tree k.value (with_item places p)) r found
      (λ z bound sorts. when_by _ (Some z) r sorts
      (λ scalar z_is. one_key p k ks r gs (bound ∙ z_is) (subst (λ (w : Tree). is_scalar (out-Ty w.ty) ≡ true) (same_Some z r z_is) scalar)
      (keys_same p ks gs gs_there))))))))

  keys_self : (p : Pattern) (ks : List (SortKey X)) → KeysAlike (Item p) (key_at p) (key_at p) ks
  keys_self p [] = tt
  keys_self p (k ∷ ks) = ((λ x item. refl), keys_self p ks)

  sorted_same : (p : Pattern) (ks : List (SortKey X)) (fs : List (SortKey Form)) → KeysSame p ks fs → (xs : List (Value R)) (e : End) → Every (Item p) xs
      → order_by (λ k. k.descending) (sort_key world slots) (map form_key fs) xs e ≡ order_by (λ k. k.descending) (key_at p) ks xs e
  sorted_same p ks fs same xs end.Done ps =
      ap₂ (λ (o : Result (List (Keyed (Value R))) Fault) (ds : List Bool). on_value o (λ rows. (map (λ row. row.1) (arranged ds rows), end.Done)))
      (same.0 xs ps) same.1
  sorted_same p ks fs same xs (end.Fault f) ps = refl

  order_means : (ks : List (SortKey X)) (stage next : PipelineForm) (s : Stream (Value R)) → order_stage world.schemas tree places ks stage ≡ Some next → Gives stage s
      → Gives next (operator_meaning world typed meant scope (operator.OrderBy ks) stage.pattern s)
  order_means ks stage next s h gives =
      map_by _ (gathered (key_tree world.schemas tree (with_item places stage.pattern)) ks) next h
      (λ fs there is. to_stage _ next _ is
      (let keys = keys_same stage.pattern ks fs (sym (gathered_all (key_tree world.schemas tree (with_item places stage.pattern)) ks) ∙ there) in
      let items = stream_back stage s gives in
      let self = order_alike (Item stage.pattern) (λ (k : SortKey X). k.descending) (key_at stage.pattern) (key_at stage.pattern) ks
      (keys_self stage.pattern ks) s s (refl, gives.1) in (
        meaning_at world slots _ (form.outs-OrderBy stage.form fs)
            ∙ ap (λ (z : Stream (Value R)). as_sequence (order_by (λ k. k.descending) (sort_key world slots) (map form_key fs) z.0 z.1)) items.0
            ∙ ap as_sequence (sorted_same stage.pattern ks fs keys s.0 s.1 gives.1),
        self.1,
      )))

  -- ---- groups

  element_means : (p : Pattern) (element : Option X) (r : Tree) → element_tree world.schemas tree places p element ≡ Some r → (v : Value R) → Item p v
      → Agree (Val r.ty) (mean_at r.form v) (element_at world typed meant scope p element v)
  element_means p None r h v item =
      subst (λ (z : Tree). Agree (Val z.ty) (mean_at z.form v) (Ok v)) (same_Some _ r h)
      (same_agree world (slots ++ v ∷ []) (pattern_type p) _ _ (slot_means world slots places scope v at) (agree_ok (Val (pattern_type p)) v
      (item_value world p v item)))
  element_means p (Some x) r h v item = in_item x p r h v item

  group_means : (key : X) (element : Option X) (stage next : PipelineForm) (s : Stream (Value R)) → group_stage world.schemas tree places key element stage
      ≡ Some next → Gives stage s
      → Gives next (operator_meaning world typed meant scope (operator.GroupBy key element) stage.pattern s)
  group_means key element stage next s h gives =
      option_and_then_some (grouped_stage world.schemas tree places element stage) (option_and_then keyed_tree (tree key (with_item places stage.pattern)))
      next h
      (λ k key_there made. option_and_then_some keyed_tree (tree key (with_item places stage.pattern)) k key_there
      (λ z bound is_one. when_by (is_key z.ty) (Some z) k is_one
      (λ one same. map_by _ (option_and_then placed_tree (element_tree world.schemas tree places stage.pattern element)) next made
      (λ r found is. to_stage _ next _ is
      (gives_by (unnamed (ty.Group k.ty r.ty)) (form.GroupBy stage.form k.form r.form) _ _ (meaning_at world slots _ (form.outs-GroupBy stage.form k.form r.form))
      (group_alike (Item stage.pattern) (Val k.ty) (Val r.ty) (Val (ty.Group k.ty r.ty)) same_keys (mean_at k.form)
      (λ v. meant key (bind stage.pattern scope v)) (mean_at r.form)
      (element_at world typed meant scope stage.pattern element) as_group (λ v item. in_item key stage.pattern k (bound ∙ same) v item)
      (λ v item. element_means stage.pattern element r (placed_same _ r found) v item)
      (λ x vs x_fits vs_fit. by_group (ty.Group k.ty r.ty) k.ty r.ty x vs (outs-Group k.ty r.ty) x_fits vs_fit) (stream_of world (mean stage.form)) s
      (stream_back stage s gives)))))))

  -- ---- calls in turn

  operator_means : (op : Operator X) (stage next : PipelineForm) (s : Stream (Value R)) → operator_stage world.schemas tree places op stage ≡ Some next → Gives stage s
      → Gives next (operator_meaning world typed meant scope op stage.pattern s)
  operator_means (operator.Where c) stage next s h gives = where_means c stage next s h gives
  operator_means (operator.Select x) stage next s h gives = select_means x stage next s h gives
  operator_means (operator.Let n x) stage next s h gives = let_means n x stage next s h gives
  operator_means (operator.SelectMany n x result) stage next s h gives = select_many_means n x result stage next s h gives
  operator_means (operator.Join j result) stage next s h gives = join_means j result stage next s h gives
  operator_means (operator.OrderBy ks) stage next s h gives = order_means ks stage next s h gives
  operator_means (operator.GroupBy key element) stage next s h gives = group_means key element stage next s h gives

  pattern_is : (op : Operator X) (stage next : PipelineForm) → operator_stage world.schemas tree places op stage ≡ Some next
      → pattern_behind world typed meant scope op stage.pattern ≡ next.pattern
  pattern_is op stage next h =
      behind_after world typed meant scope op stage.pattern next.pattern
      (ap (λ (ns : Names). pattern_after typed ns op stage.pattern) (types_at world slots places scope at)
      ∙ sym (operator_found world.schemas tree typed alike places op stage) ∙ ap pattern_found h)

  operators_means : (ops : List (Operator X)) (stage next : PipelineForm) (s : Stream (Value R)) → walked (operator_stage world.schemas tree places) stage ops
      ≡ Some next → Gives stage s
      → Gives next (operators_meaning world typed meant scope ops stage.pattern s)
  operators_means [] stage next s h gives = to_stage stage next s (same_Some stage next h) gives
  operators_means (op ∷ ops) stage next s h gives = by (operator_stage world.schemas tree places op stage) refl h (operators_means ops) where
    by : (o : Option PipelineForm) → operator_stage world.schemas tree places op stage ≡ o → fold (walk_step (operator_stage world.schemas tree places)) o ops
        ≡ Some next
        → ((mid last : PipelineForm) (z : Stream (Value R)) → walked (operator_stage world.schemas tree places) mid ops ≡ Some last → Gives mid z
        → Gives last (operators_meaning world typed meant scope ops mid.pattern z))
        → Gives next (operators_meaning world typed meant scope (op ∷ ops) stage.pattern s)
    by None is found rest = absurd (none-some next (sym (walk_none (operator_stage world.schemas tree places) ops) ∙ found))
    by (Some mid) is found rest =
        subst (λ (p : Pattern). Gives next (operators_meaning world typed meant scope ops p (operator_meaning world typed meant scope op stage.pattern s)))
        (sym (pattern_is op stage mid is))
        (rest mid next (operator_meaning world typed meant scope op stage.pattern s) found (operator_means op stage mid s is gives))

  -- ---- bodies, and what follows by `into`

  -- a form gives this stream, of items of its type
  abbrev GivesItems : Tree → Stream (Value R) → Type 0
  GivesItems items s = (mean items.form ≡ Ok (sequence s)) × Every (Val items.ty) s.0

  body_means : (n : List ℕ) (ops : List (Operator X)) (items r : Tree) (s : Stream (Value R)) → body_tree world.schemas tree places n ops items ≡ Some r
      → GivesItems items s
      → GivesItems r (operators_meaning world typed meant scope ops (One n items.ty) s) × (operators_type_at world typed meant scope ops n items.ty ≡ r.ty)
  body_means n ops items r s h gives =
      when_by (is_fresh (names_of_places world.schemas places) n) _ r h
      (λ fresh found. option_and_then_some items_of_pipeline (walked (operator_stage world.schemas tree places) (pipeline_of (One n items.ty) items.form) ops) r found
      (λ stage there ended. when_by (has_place (out-Ty (pattern_type stage.pattern)))
      (when (is_within (ty.Seq (pattern_type stage.pattern))) (Some (tree_of (pattern_type stage.pattern) stage.form))) r ended
      (λ placed last. when_by (is_within (ty.Seq (pattern_type stage.pattern))) (Some (tree_of (pattern_type stage.pattern) stage.form)) r last
      (λ within is. (
        subst (λ (z : Tree). GivesItems z (operators_meaning world typed meant scope ops (One n items.ty) s)) (same_Some _ r is)
            (let all = operators_means ops (pipeline_of (One n items.ty) items.form) stage s there gives in (
              all.0,
              λ k x at_k. item_value world stage.pattern x
                  (all.1 k x at_k),
            )),
        typed_body fresh,
      )))))
    where
      typed_body : is_fresh (names_of_places world.schemas places) n ≡ true → operators_type_at world typed meant scope ops n items.ty ≡ r.ty
      typed_body fresh =
          ap or_null
          (ap (λ (ns : Names). operators_items typed ns ops (One n items.ty)) (types_at world slots places scope at)
          ∙ sym (ap (λ (b : Bool). option_and_then (operators_items typed (names_of_places world.schemas places) ops) (when b (Some (One n items.ty)))) fresh)
          ∙ sym (body_found world.schemas tree typed alike places n ops items) ∙ ap type_found h)

  parts_means : (rest : List (Part X)) (items r : Tree) (s : Stream (Value R)) → walked (part_tree world.schemas tree places) items rest ≡ Some r
      → GivesItems items s
      → GivesItems r (parts_meaning world typed meant scope rest items.ty s)
  parts_means [] items r s h gives = subst (λ (z : Tree). GivesItems z s) (same_Some items r h) gives
  parts_means (part ∷ rest) items r s h gives = by (part_tree world.schemas tree places part items) refl h (parts_means rest) where
    by : (o : Option Tree) → part_tree world.schemas tree places part items ≡ o → fold (walk_step (part_tree world.schemas tree places)) o rest ≡ Some r
        → ((mid last : Tree) (z : Stream (Value R)) → walked (part_tree world.schemas tree places) mid rest ≡ Some last → GivesItems mid z
        → GivesItems last (parts_meaning world typed meant scope rest mid.ty z))
        → GivesItems r (parts_meaning world typed meant scope (part ∷ rest) items.ty s)
    by None is found more = absurd (none-some r (sym (walk_none (part_tree world.schemas tree places) rest) ∙ found))
    by (Some mid) is found more =
        let body = body_means part.name part.operators items mid s is gives in
        subst (λ (t : Ty). GivesItems r (parts_meaning world typed meant scope rest t (operators_meaning world typed meant scope part.operators
        (One part.name items.ty) s))) (sym body.1)
        (more mid r (operators_meaning world typed meant scope part.operators (One part.name items.ty) s) found body.0)

  -- ---- a query

  source_means : (c : Call X) (source : Tree) → source_tree world.schemas tree c.source places ≡ Some source
      → GivesItems (sequence_tree world.schemas tree source) (stream_of world (meant c.source scope)) × (item_type_at world typed meant c.source scope
      ≡ source.ty)
  source_means c source h =
      source_by c.source places source h
      (λ y bound element y_form.
      let items =
      stream_alike world world.unknown world.unknown y.ty source.ty element (mean source.form) (meant c.source scope)
      (subst (λ (f : Form). Agree (Val y.ty) (mean f) (meant c.source scope)) y_form (means c.source slots places scope at y bound)) in (
        (
          meaning_at world slots _ (form.outs-Sequence source.form) ∙ ap as_sequence items.0,
          subst (λ (z : Stream (Value R)). Every (Val source.ty) z.0) items.0
              items.1,
        ),
        element_of_type (typed c.source (names_at world scope)) y.ty source.ty (at_place c.source y bound) element,
      ))

  pub items_means : (c : Call X) (r : Tree) → call_items_tree world.schemas tree c places ≡ Some r → GivesItems r (call_meaning world typed meant c scope)
  unfolding call_meaning
  items_means c r h =
      option_and_then_some _ _ r h
      (λ mid body_there rest_there. option_and_then_some (body_tree world.schemas tree places c.name c.operators) _ mid body_there
      (λ items sequence_there body. map_by (sequence_tree world.schemas tree) (source_tree world.schemas tree c.source places) items sequence_there
      (λ source source_there is.
      let start = source_means c source source_there in
      let first =
      body_means c.name c.operators items mid (stream_of world (meant c.source scope)) body
      (subst (λ (z : Tree). GivesItems z (stream_of world (meant c.source scope))) is start.0) in
      let t_is : item_type_at world typed meant c.source scope ≡ items.ty = start.1 ∙ ap (λ (z : Tree). z.ty) is in
      subst (λ (t : Ty). GivesItems r (parts_meaning world typed meant scope c.rest (operators_type_at world typed meant scope c.operators c.name t)
      (operators_meaning world typed meant scope c.operators (One c.name t) (stream_of world (meant c.source scope))))) (sym t_is)
      (subst (λ (t : Ty). GivesItems r (parts_meaning world typed meant scope c.rest t (operators_meaning world typed meant scope c.operators
      (One c.name items.ty) (stream_of world (meant c.source scope)))))
      (sym first.1) (parts_means c.rest mid r _ rest_there first.0)))))

  pub call_means : (c : Call X) (r : Tree) → call_tree world.schemas tree c places ≡ Some r → Agree (Val r.ty) (mean r.form)
      (Ok (sequence (call_meaning world typed meant c scope)))
  unfolding call_tree
  call_means c r h =
      map_by (query_tree world.schemas tree) (call_items_tree world.schemas tree c places) r h
      (λ items there is.
      let gives = items_means c items there in
      subst (λ (z : Tree). Agree (Val z.ty) (mean z.form) (Ok (sequence (call_meaning world typed meant c scope)))) is
      (same_agree world slots (ty.Seq items.ty) _ _ gives.0 (
        refl,
        gets_ok world (ty.Seq items.ty) (sequence (call_meaning world typed meant c scope)) (sequence_is world items.ty
            (call_meaning world typed meant c scope) gives.1),
      )))
