-- The calls of a query have a tree exactly where their items have a type, and the tree's type is that of their sequence, if the same is so
-- of the expressions in them.
use Rattle.std.proofs.Common.{◌≡◌, ◌∷◌, ◌&&◌, List, [], map, ℕ, Bool, true, false, Option, Some, None, ap, ap₂, ◌∙◌, sym, refl, option_and_then, option_map}
use Rattle.std.specs.List.{fold}
use Rattle.lq_value.specs.declared.table.Schema.{Schema}
use Rattle.lq_value.specs.declared.ty.Ty.{Ty, out-Ty}
use Rattle.lq_value.specs.declared.ty.Ty.TheVariants as ty
use Rattle.lq_language.specs.ClauseTyping.{are_join_keys, are_sort_keys, element_type, group_type, has_place, if_key, if_placed, if_within, is_fresh, is_key, is_sort_key, is_within, join_type, joined_name, matched_type as matched, source_type, when}
use Rattle.lq_language.specs.Operators.{Pattern, One, With, call_items, element_of, locals_of, names_of, operators_items, operators_type, paired_pattern, parts_items, pattern_after, pattern_type, sole_pattern, unnamed}
use Rattle.lq_language.specs.Names.{Names, with_local}
use Rattle.lq_language.specs.OperandTypes.{is_bool, is_bool_type}
use Rattle.lq_language.specs.declared.calls.Call.{Call}
use Rattle.lq_language.specs.declared.calls.Operator.{Operator}
use Rattle.lq_language.specs.declared.calls.Operator.TheVariants as operator
use Rattle.lq_language.specs.declared.calls.Paired.{Paired}
use Rattle.lq_language.specs.declared.calls.Paired.TheVariants as paired
use Rattle.lq_language.specs.declared.calls.Part.{Part}
use Rattle.lq_grammar.specs.declared.syntax.Join.{Join}
use Rattle.lq_grammar.specs.declared.syntax.SortKey.{SortKey}
use Rattle.lq_tree.specs.Binding.{Binds, PipelineForm, body_tree, call_items_tree, call_tree, condition_tree, element_tree, expanded_stage, group_stage, grouped_stage, if_fresh, inner_stage, items_of_pipeline, items_of_tree, join_stage, joined_stage, key_tree, keyed_tree, keys_of, matched_stage, matched_type, operator_stage, paired_stage, part_tree, placed_tree, query_tree, sequence_tree, sortable_tree, source_tree, pipeline_of, tree_of, walk_step, walked}
use Rattle.lq_tree.specs.Places.{Place, Places, names_of_places, places_of, with_item, with_name}
use Rattle.lq_tree.specs.declared.tree.Form.{Form}
use Rattle.lq_tree.specs.declared.tree.Form.TheVariants as form
use Rattle.lq_tree.specs.declared.tree.Tree.{Tree}
use Rattle.lq_tree.proofs.TypeLaws.{map_then, map_two, map_when, placed_found, type_found}
use Rattle.lq_tree.proofs.WalkLaws.{gathered_all, traversed, walk_none}

-- ---- names

locals_alike : (p : Pattern) (item : Form) (places : List Place)
    → locals_of p (map (λ place. (place.name, place.ty)) places) ≡ map (λ place. (place.name, place.ty)) (places_of p item places)
locals_alike (One n t) item places = refl
locals_alike (With p n t) item places = ap (λ locals. (n, t) ∷ locals) (locals_alike p (form.First item) places)

-- the names that typing sees where an item is in one slot more
pub names_alike : (schemas : List Schema) (places : Places) (p : Pattern) → names_of_places schemas (with_item places p)
    ≡ names_of (names_of_places schemas places) p
names_alike schemas places p =
    ap (λ (locals : List (List ℕ × Ty)). record { tables = schemas; predicates = places.predicates; session = map (λ place. place.known) places.session; locals = locals }) (sym (locals_alike p (form.Slot places.depth) places.locals))

-- what a stage's items represent
abbrev pub pattern_found : Option PipelineForm → Option Pattern
pattern_found found = option_map (λ stage. stage.pattern) found

-- ---- pieces

condition_found : (o : Option Tree) (p : Pattern) (f : Tree → Form)
    → pattern_found (option_map (λ found. pipeline_of p (f found)) (option_and_then condition_tree o)) ≡ when (is_bool_type (type_found o)) (Some p)
condition_found None p f = refl
condition_found (Some x) p f = by (is_bool (out-Ty x.ty)) where
  by : (b : Bool) → pattern_found (option_map (λ found. pipeline_of p (f found)) (when b (Some x))) ≡ when b (Some p)
  by true = refl
  by false = refl

-- a stage whose pattern follows from a type
made_found : (o : Option Tree) (g : Ty → Pattern) (f : Tree → Form) → pattern_found (option_map (λ found. pipeline_of (g found.ty) (f found)) o)
    ≡ option_map g (type_found o)
made_found None g f = refl
made_found (Some x) g f = refl

items_found : (o : Option Tree) → type_found (option_and_then items_of_tree o) ≡ option_and_then (λ t. element_type (out-Ty t)) (type_found o)
items_found None = refl
items_found (Some x) = by (element_type (out-Ty x.ty)) where
  by : (p : Option Ty) → type_found (option_map (λ t. tree_of t x.form) p) ≡ p
  by None = refl
  by (Some t) = refl

key_found : (o : Option Tree) → type_found (option_and_then keyed_tree o) ≡ if_key (type_found o)
key_found o = map_then (λ found. found.ty) (λ found. found.ty) keyed_tree (λ t. when (is_key t) (Some t)) (λ x. map_when (λ found. found.ty) (is_key x.ty)
    (Some x)) o

module _ (schemas : List Schema) {X : Type 0} (tree : X → Binds) (typed : X → Names → Option Ty)
    (alike : (x : X) (places : Places) → type_found (tree x places) ≡ typed x (names_of_places schemas places)) where
  abbrev names : Places → Names
  names places = names_of_places schemas places

  -- under an item's names
  pub at_item : (places : Places) (p : Pattern) (x : X) → type_found (tree x (with_item places p)) ≡ typed x (names_of (names places) p)
  at_item places p x = alike x (with_item places p) ∙ ap (typed x) (names_alike schemas places p)

  pub at_pair : (places : Places) (p : Pattern) (n : List ℕ) (t : Ty) (x : X) → type_found (tree x (with_name (with_item places p) n t))
      ≡ typed x (names_of (names places) (With p n t))
  at_pair places p n t x = alike x (with_name (with_item places p) n t) ∙ ap (λ (ns : Names). typed x (with_local ns n t)) (names_alike schemas places p)

  pub source_found : (places : Places) (x : X) → type_found (source_tree schemas tree x places) ≡ source_type typed x (names places)
  source_found places x = items_found (tree x places) ∙ ap (option_and_then (λ t. element_type (out-Ty t))) (alike x places)

  pub source_at_item : (places : Places) (p : Pattern) (x : X) → type_found (source_tree schemas tree x (with_item places p))
      ≡ source_type typed x (names_of (names places) p)
  source_at_item places p x = items_found (tree x (with_item places p)) ∙ ap (option_and_then (λ t. element_type (out-Ty t))) (at_item places p x)

  pub fresh_found : (places : Places) (p : Pattern) (n : List ℕ) (o : Option Tree)
      → type_found (if_fresh schemas tree places p n o) ≡ when (is_fresh (names_of (names places) p) n) (type_found o)
  fresh_found places p n o =
      map_when (λ found. found.ty) (is_fresh (names (with_item places p)) n) o ∙ ap (λ (ns : Names). when (is_fresh ns n) (type_found o))
      (names_alike schemas places p)

  -- ---- calls that pair items

  pub paired_found : (places : Places) (p : Pattern) (n : List ℕ) (t : Ty) (result : Paired X)
      → pattern_found (paired_stage schemas tree places p n t result) ≡ paired_pattern typed (names places) p n result t
  paired_found places p n t paired.Pair = refl
  paired_found places p n t (paired.Value v) =
      made_found (option_and_then placed_tree (tree v (with_name (with_item places p) n t))) unnamed (λ found. found.form)
      ∙ ap (option_map unnamed) (placed_found (tree v (with_name (with_item places p) n t)) ∙ ap if_placed (at_pair places p n t v))

  abbrev PairedAt : Places → Pattern → List ℕ → Paired X → Ty → Option Pattern
  PairedAt places p n result t = paired_pattern typed (names places) p n result t

  expanded_found : (places : Places) (n : List ℕ) (result : Paired X) (stage : PipelineForm) (o : Option Tree)
      → pattern_found (option_and_then (expanded_stage schemas tree places n result stage) o) ≡ option_and_then (PairedAt places stage.pattern n result)
      (type_found o)
  expanded_found places n result stage o =
      map_then (λ s. s.pattern) (λ found. found.ty) (expanded_stage schemas tree places n result stage) (PairedAt places stage.pattern n result)
      (λ inner. map_two (λ s. s.pattern) (λ (made : PipelineForm). pipeline_of made.pattern (form.SelectMany stage.form inner.form made.form))
      (paired_stage schemas tree places stage.pattern n inner.ty result)
      ∙ paired_found places stage.pattern n inner.ty result) o

  keys_by : (o p : Option Tree) (next : Form × Form → Option PipelineForm) (found : Option Pattern)
      → ((keys : Form × Form) → pattern_found (next keys) ≡ found)
      → pattern_found (option_and_then next (option_and_then (λ x. option_and_then (keys_of schemas tree x) p) o))
      ≡ when (are_join_keys (type_found o) (type_found p)) found
  keys_by (Some x) (Some y) next found same = by (are_join_keys (Some x.ty) (Some y.ty)) where
    by : (c : Bool) → pattern_found (option_and_then next (when c (Some (x.form, y.form)))) ≡ when c found
    by true = same (x.form, y.form)
    by false = refl
  keys_by (Some x) None next found same = refl
  keys_by None None next found same = refl
  keys_by None (Some y) next found same = refl

  joined_found : (places : Places) (j : Join X) (result : Paired X) (stage : PipelineForm) (inner : Form) (keys : Form × Form) (o : Option Ty)
      → pattern_found (option_and_then (joined_stage schemas tree places j result stage inner keys) o)
      ≡ option_and_then (PairedAt places stage.pattern (joined_name j) result) o
  joined_found places j result stage inner keys None = refl
  joined_found places j result stage inner keys (Some t) =
      map_two (λ s. s.pattern) _ (paired_stage schemas tree places stage.pattern (joined_name j) t result) ∙ paired_found places stage.pattern
      (joined_name j) t result

  pub matched_found : (places : Places) (p : Pattern) (into : Option (List ℕ)) (t : Ty) → matched_type schemas tree places p into t
      ≡ matched typed (names_of (names places) p) into t
  matched_found places p None t = refl
  matched_found places p (Some g) t = ap (λ (ns : Names). when (is_fresh ns g) (Some (ty.Seq t))) (names_alike schemas places p)

  then_when : {A B : Type 0} (next : A → Option B) (b : Bool) (o : Option A) → when b (option_and_then next o) ≡ option_and_then next (when b o)
  then_when next true o = refl
  then_when next false o = refl

  inner_found : (places : Places) (j : Join X) (result : Paired X) (stage : PipelineForm) (inner : Tree)
      → pattern_found (inner_stage schemas tree places j result stage inner)
      ≡ option_and_then (PairedAt places stage.pattern (joined_name j) result)
      (when (are_join_keys (typed j.outer_key (names_of (names places) stage.pattern)) (typed j.inner_key (with_local (names places) j.name inner.ty)))
      (matched typed (names_of (names places) stage.pattern) j.into inner.ty))
  inner_found places j result stage inner =
      keys_by (tree j.outer_key (with_item places stage.pattern)) (tree j.inner_key (with_name places j.name inner.ty))
      (matched_stage schemas tree places j result stage inner)
      (option_and_then (PairedAt places stage.pattern (joined_name j) result) (matched typed (names_of (names places) stage.pattern) j.into inner.ty))
      (λ keys. joined_found places j result stage inner.form keys (matched_type schemas tree places stage.pattern j.into inner.ty)
      ∙ ap (option_and_then (PairedAt places stage.pattern (joined_name j) result)) (matched_found places stage.pattern j.into inner.ty))
      ∙ ap₂ (λ (s t : Option Ty). when (are_join_keys s t) (option_and_then (PairedAt places stage.pattern (joined_name j) result)
      (matched typed (names_of (names places) stage.pattern) j.into inner.ty)))
      (at_item places stage.pattern j.outer_key) (alike j.inner_key (with_name places j.name inner.ty))
      ∙ then_when (PairedAt places stage.pattern (joined_name j) result) _ (matched typed (names_of (names places) stage.pattern) j.into inner.ty)

  then_then : {A B C : Type 0} (f : B → Option C) (g : A → Option B) (o : Option A) → option_and_then (λ x. option_and_then f (g x)) o
      ≡ option_and_then f (option_and_then g o)
  then_then f g None = refl
  then_then f g (Some x) = refl

  join_found : (places : Places) (j : Join X) (result : Paired X) (stage : PipelineForm)
      → pattern_found (join_stage schemas tree places j result stage)
      ≡ option_and_then (PairedAt places stage.pattern (joined_name j) result) (join_type typed (names places) j (names_of (names places) stage.pattern))
  join_found places j result stage =
      map_then (λ s. s.pattern) (λ found. found.ty) (inner_stage schemas tree places j result stage) (λ t. option_and_then (PairedAt places stage.pattern
      (joined_name j) result) (matched_at t))
      (inner_found places j result stage) (if_fresh schemas tree places stage.pattern j.name (source_tree schemas tree j.source places))
      ∙ ap (option_and_then (λ t. option_and_then (PairedAt places stage.pattern (joined_name j) result) (matched_at t)))
      (fresh_found places stage.pattern j.name (source_tree schemas tree j.source places)
      ∙ ap (when (is_fresh (names_of (names places) stage.pattern) j.name)) (source_found places j.source))
      ∙ then_then {A = Ty} (PairedAt places stage.pattern (joined_name j) result) matched_at
      (when (is_fresh (names_of (names places) stage.pattern) j.name) (source_type typed j.source (names places)))
    where
      matched_at : Ty → Option Ty
      matched_at t =
          when (are_join_keys (typed j.outer_key (names_of (names places) stage.pattern)) (typed j.inner_key (with_local (names places) j.name t)))
          (matched typed (names_of (names places) stage.pattern) j.into t)

  -- ---- keys

  sorts_by : (places : Places) (ks : List (SortKey X)) (b : Bool) (k : SortKey X) (x : Tree) (p : Pattern) (f : List (SortKey Form) → Form)
      → pattern_found (option_map (λ keys. pipeline_of p (f keys)) (option_and_then (λ (y : SortKey Form). option_map (λ ys. y ∷ ys)
      (traversed (key_tree schemas tree places) ks))
      (option_map (λ found. record { value = found.form; descending = k.descending }) (when b (Some x)))))
      ≡ when b (pattern_found (option_map (λ keys. pipeline_of p (f (record { value = x.form; descending = k.descending } ∷ keys)))
      (traversed (key_tree schemas tree places) ks)))
  sorts_by places ks true k x p f = map_in (traversed (key_tree schemas tree places) ks) where
    map_in : (o : Option (List (SortKey Form)))
        → pattern_found (option_map (λ keys. pipeline_of p (f keys)) (option_map (λ ys. record { value = x.form; descending = k.descending } ∷ ys) o))
        ≡ pattern_found (option_map (λ keys. pipeline_of p (f (record { value = x.form; descending = k.descending } ∷ keys))) o)
    map_in None = refl
    map_in (Some ys) = refl
  sorts_by places ks false k x p f = refl

  when_both : {A : Type 0} (b c : Bool) (o : Option A) → when b (when c o) ≡ when (b && c) o
  when_both true c o = refl
  when_both false c o = refl

  sorts_found : (places : Places) (ks : List (SortKey X)) (p : Pattern) (f : List (SortKey Form) → Form) (ns : Names) → ((x : X) → type_found (tree x places)
      ≡ typed x ns)
      → pattern_found (option_map (λ keys. pipeline_of p (f keys)) (traversed (key_tree schemas tree places) ks)) ≡ when (are_sort_keys typed ks ns) (Some p)
  sorts_found places [] p f ns same = refl
  sorts_found places (k ∷ ks) p f ns same =
      by (tree k.value places) (λ g. sorts_found places ks p g ns same)
      ∙ ap (λ (o : Option Ty). when (is_sort_key o && are_sort_keys typed ks ns) (Some p)) (same k.value)
    where
      by : (o : Option Tree)
          → ((g : List (SortKey Form) → Form) → pattern_found (option_map (λ keys. pipeline_of p (g keys)) (traversed (key_tree schemas tree places) ks))
          ≡ when (are_sort_keys typed ks ns) (Some p))
          → pattern_found (option_map (λ keys. pipeline_of p (f keys)) (option_and_then (λ (y : SortKey Form). option_map (λ ys. y ∷ ys)
          (traversed (key_tree schemas tree places) ks))
          (option_map (λ found. record { value = found.form; descending = k.descending }) (option_and_then sortable_tree o))))
          ≡ when (is_sort_key (type_found o) && are_sort_keys typed ks ns) (Some p)
      by None rest = refl
      by (Some x) rest =
          sorts_by places ks (is_sort_key (Some x.ty)) k x p f
          ∙ ap (when (is_sort_key (Some x.ty))) (rest (λ keys. f (record { value = x.form; descending = k.descending } ∷ keys)))
          ∙ when_both (is_sort_key (Some x.ty)) (are_sort_keys typed ks ns) (Some p)

  -- ---- groups

  element_found : (places : Places) (p : Pattern) (element : Option X) → type_found (element_tree schemas tree places p element)
      ≡ element_of typed (names places) p element
  element_found places p None = refl
  element_found places p (Some v) = at_item places p v

  group_found : (places : Places) (key : X) (element : Option X) (stage : PipelineForm)
      → pattern_found (group_stage schemas tree places key element stage)
      ≡ option_map unnamed (group_type typed (typed key (names_of (names places) stage.pattern)) (element_of typed (names places) stage.pattern element))
  group_found places key element stage =
      map_then (λ s. s.pattern) (λ found. found.ty) (grouped_stage schemas tree places element stage)
      (λ k. option_map unnamed (option_map (ty.Group k) (if_placed (element_of typed (names places) stage.pattern element))))
      (λ k. made_found (option_and_then placed_tree (element_tree schemas tree places stage.pattern element)) (λ t. unnamed (ty.Group k.ty t)) _
      ∙ ap (option_map (λ t. unnamed (ty.Group k.ty t))) (placed_found (element_tree schemas tree places stage.pattern element)
      ∙ ap if_placed (element_found places stage.pattern element))
      ∙ sym (map_two unnamed (ty.Group k.ty) (if_placed (element_of typed (names places) stage.pattern element))))
      (option_and_then keyed_tree (tree key (with_item places stage.pattern)))
      ∙ ap (option_and_then _) (key_found (tree key (with_item places stage.pattern)) ∙ ap if_key (at_item places stage.pattern key))
      ∙ group_by (if_key (typed key (names_of (names places) stage.pattern))) (if_placed (element_of typed (names places) stage.pattern element))
    where
      group_by : (o e : Option Ty) → option_and_then (λ k. option_map unnamed (option_map (ty.Group k) e)) o
          ≡ option_map unnamed (option_and_then (λ k. option_map (ty.Group k) e) o)
      group_by None e = refl
      group_by (Some k) e = refl

  -- ---- a call, and calls in turn

  pub operator_found : (places : Places) (op : Operator X) (stage : PipelineForm)
      → pattern_found (operator_stage schemas tree places op stage) ≡ pattern_after typed (names places) op stage.pattern
  operator_found places (operator.Where c) stage =
      condition_found (tree c (with_item places stage.pattern)) stage.pattern _ ∙ ap (λ (o : Option Ty). when (is_bool_type o) (Some stage.pattern))
      (at_item places stage.pattern c)
  operator_found places (operator.Select v) stage =
      made_found (option_and_then placed_tree (tree v (with_item places stage.pattern))) unnamed _
      ∙ ap (option_map unnamed) (placed_found (tree v (with_item places stage.pattern)) ∙ ap if_placed (at_item places stage.pattern v))
  operator_found places (operator.Let n v) stage =
      made_found (if_fresh schemas tree places stage.pattern n (option_and_then placed_tree (tree v (with_item places stage.pattern)))) (With stage.pattern n) _
      ∙ ap (option_map (With stage.pattern n)) (fresh_found places stage.pattern n (option_and_then placed_tree (tree v (with_item places stage.pattern)))
      ∙ ap (when (is_fresh (names_of (names places) stage.pattern) n)) (placed_found (tree v (with_item places stage.pattern))
      ∙ ap if_placed (at_item places stage.pattern v)))
  operator_found places (operator.SelectMany n v result) stage =
      expanded_found places n result stage (if_fresh schemas tree places stage.pattern n (source_tree schemas tree v (with_item places stage.pattern)))
      ∙ ap (option_and_then (PairedAt places stage.pattern n result)) (fresh_found places stage.pattern n (source_tree schemas tree v
      (with_item places stage.pattern))
      ∙ ap (when (is_fresh (names_of (names places) stage.pattern) n)) (source_at_item places stage.pattern v))
  operator_found places (operator.Join j result) stage = join_found places j result stage
  operator_found places (operator.OrderBy ks) stage =
      ap (λ (o : Option (List (SortKey Form))). pattern_found (option_map (λ keys. pipeline_of stage.pattern (form.OrderBy stage.form keys)) o))
      (gathered_all (key_tree schemas tree (with_item places stage.pattern)) ks)
      ∙ sorts_found (with_item places stage.pattern) ks stage.pattern (form.OrderBy stage.form) (names_of (names places) stage.pattern)
      (at_item places stage.pattern)
  operator_found places (operator.GroupBy key element) stage = group_found places key element stage

  abbrev ended : Option PipelineForm → Option Ty
  ended found = option_and_then (λ (stage : PipelineForm). if_placed (Some (pattern_type stage.pattern))) found

  pub operators_found : (places : Places) (ops : List (Operator X)) (o : Option PipelineForm)
      → ended (fold (walk_step (operator_stage schemas tree places)) o ops) ≡ option_and_then (operators_type typed (names places) ops) (pattern_found o)
  operators_found places [] None = refl
  operators_found places [] (Some stage) = refl
  operators_found places (op ∷ ops) None = ap ended (walk_none (operator_stage schemas tree places) ops)
  operators_found places (op ∷ ops) (Some stage) =
      operators_found places ops (operator_stage schemas tree places op stage) ∙ ap (option_and_then (operators_type typed (names places) ops))
      (operator_found places op stage)

  ended_within : (o : Option PipelineForm) → type_found (option_and_then items_of_pipeline o) ≡ if_within typed (ended o)
  ended_within None = refl
  ended_within (Some stage) = by (has_place (out-Ty (pattern_type stage.pattern))) where
    by : (b : Bool)
        → type_found (when b (when (is_within (ty.Seq (pattern_type stage.pattern))) (Some (tree_of (pattern_type stage.pattern) stage.form))))
        ≡ option_and_then (λ t. when (is_within (ty.Seq t)) (Some t)) (when b (Some (pattern_type stage.pattern)))
    by true = map_when (λ found. found.ty) (is_within (ty.Seq (pattern_type stage.pattern))) (Some (tree_of (pattern_type stage.pattern) stage.form))
    by false = refl

  pub body_found : (places : Places) (n : List ℕ) (ops : List (Operator X)) (items : Tree)
      → type_found (body_tree schemas tree places n ops items) ≡ option_and_then (operators_items typed (names places) ops)
      (sole_pattern typed (names places) n items.ty)
  body_found places n ops items =
      map_when (λ found. found.ty) (is_fresh (names places) n) (option_and_then items_of_pipeline (walked (operator_stage schemas tree places)
      (pipeline_of (One n items.ty) items.form) ops))
      ∙ ap (when (is_fresh (names places) n)) (ended_within (walked (operator_stage schemas tree places) (pipeline_of (One n items.ty) items.form) ops)
      ∙ ap (if_within typed) (operators_found places ops (Some (pipeline_of (One n items.ty) items.form))))
      ∙ then_when (operators_items typed (names places) ops) (is_fresh (names places) n) (Some (One n items.ty))

  pub parts_found : (places : Places) (rest : List (Part X)) (o : Option Tree)
      → type_found (fold (walk_step (part_tree schemas tree places)) o rest) ≡ option_and_then (parts_items typed (names places) rest) (type_found o)
  parts_found places [] None = refl
  parts_found places [] (Some items) = refl
  parts_found places (part ∷ rest) None = ap type_found (walk_none (part_tree schemas tree places) rest)
  parts_found places (part ∷ rest) (Some items) =
      parts_found places rest (part_tree schemas tree places part items) ∙ ap (option_and_then (parts_items typed (names places) rest))
      (body_found places part.name part.operators items)

  abbrev through_parts : Places → Call X → Option Tree → Option Tree
  through_parts places c o = option_and_then (λ items. walked (part_tree schemas tree places) items c.rest) o

  parts_from : (places : Places) (c : Call X) (o : Option Tree) → type_found (through_parts places c o)
      ≡ option_and_then (parts_items typed (names places) c.rest) (type_found o)
  parts_from places c None = refl
  parts_from places c (Some items) = parts_found places c.rest (Some items)

  call_by : (places : Places) (c : Call X) (o : Option Tree)
      → type_found (through_parts places c (option_and_then (body_tree schemas tree places c.name c.operators) (option_map (sequence_tree schemas tree) o)))
      ≡ option_and_then (λ t. option_and_then (parts_items typed (names places) c.rest) (option_and_then (operators_items typed (names places) c.operators)
      (sole_pattern typed (names places) c.name t)))
      (type_found o)
  call_by places c None = refl
  call_by places c (Some items) =
      parts_from places c (body_tree schemas tree places c.name c.operators (sequence_tree schemas tree items))
      ∙ ap (option_and_then (parts_items typed (names places) c.rest)) (body_found places c.name c.operators (sequence_tree schemas tree items))

  pub items_typed : (c : Call X) (places : Places) → type_found (call_items_tree schemas tree c places) ≡ call_items typed c (names places)
  unfolding call_items
  items_typed c places =
      call_by places c (source_tree schemas tree c.source places)
      ∙ ap (option_and_then (λ t. option_and_then (parts_items typed (names places) c.rest)
      (option_and_then (operators_items typed (names places) c.operators) (sole_pattern typed (names places) c.name t))))
      (source_found places c.source)

  query_found : (o : Option Tree) → type_found (option_map (query_tree schemas tree) o) ≡ option_map ty.Seq (type_found o)
  query_found None = refl
  query_found (Some items) = refl

  pub call_found : (c : Call X) (places : Places) → type_found (call_tree schemas tree c places) ≡ option_map ty.Seq (call_items typed c (names places))
  unfolding call_tree
  call_found c places = query_found (call_items_tree schemas tree c places) ∙ ap (option_map ty.Seq) (items_typed c places)
