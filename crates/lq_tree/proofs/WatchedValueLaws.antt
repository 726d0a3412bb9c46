-- Values whose rows pass a test: layer by layer, and as values over the rows that pass. What comes of watched values one by one is watched.
use Rattle.std.proofs.Common.{◌≡◌, ◌∷◌, ◌++◌, ◌&&◌, List, [], map, ℕ, zero, suc, Bool, true, false, Some, Result, Ok, Err, ap, ◌∙◌, sym, refl, subst, slice_get}
use Rattle.std.specs.Cmp.{first_so, second_so}
use Rattle.std.specs.List.{list_all}
use Rattle.std.proofs.lemmas.List.Folds.{list_all-append, list_all-map}
use Rattle.std.proofs.lemmas.Option.{none-some, same_Some}
use Rattle.lq_value.specs.declared.scalar.Scalar.{Scalar}
use Rattle.lq_value.specs.declared.value.End.{End}
use Rattle.lq_value.specs.declared.value.End.TheVariants as end
use Rattle.lq_value.specs.declared.value.Fault.{Fault}
use Rattle.lq_value.specs.declared.value.Value.{Value, fold_out-Value, map-Value, out-Value, roll-Value}
use Rattle.lq_value.specs.declared.value.Value.TheOpen.{Value-F}
use Rattle.lq_value.specs.declared.value.Value.TheVariants as value
use Rattle.lq_value.specs.declared.value.Value.TheVariants.{outs-Row, outs-Scalar, outs-Seq}
use Rattle.lq_value.specs.declared.value.Value.TheViews.{out-roll-Value, roll-out-Value}
use Rattle.lq_language.specs.OperandMeaning.{items_of, sequence, stream_of}
use Rattle.lq_language.specs.Stream.{Stream, each, item_where, one, select_by, then_ending, where_by}
use Rattle.lq_language.specs.Worlds.{World}
use Rattle.lq_tree.specs.Rows.{mapped}
use Rattle.lq_tree.specs.Watches.{Watch, has_watched_result, has_watched_rows, have_watched_rows, watched_step}
use Rattle.lq_tree.proofs.MappedValueLaws.{Such, mapped_layer, mapped_member, mapped_out, of_every, plain}

-- ---- truth values and lists

pub both_so : (s t : Bool) → s ≡ true → t ≡ true → (s && t) ≡ true
both_so s t h k = ap (λ b. b && t) h ∙ k

module _ {A : Type 0} (q : A → Bool) where
  pub all_append : (xs ys : List A) → list_all q xs ≡ true → list_all q ys ≡ true → list_all q (xs ++ ys) ≡ true
  all_append xs ys h k = list_all-append q xs ys ∙ both_so (list_all q xs) (list_all q ys) h k

  pub all_one : (x : A) → q x ≡ true → list_all q (x ∷ []) ≡ true
  all_one x h = both_so (q x) true h refl

  pub all_before : (xs ys : List A) → list_all q (xs ++ ys) ≡ true → list_all q xs ≡ true
  all_before xs ys h = first_so (list_all q xs) (list_all q ys) (sym (list_all-append q xs ys) ∙ h)

  pub all_behind : (xs ys : List A) → list_all q (xs ++ ys) ≡ true → list_all q ys ≡ true
  all_behind xs ys h = second_so (list_all q xs) (list_all q ys) (sym (list_all-append q xs ys) ∙ h)

  pub all_at : (xs : List A) (k : ℕ) (x : A) → list_all q xs ≡ true → slice_get xs k ≡ Some x → q x ≡ true
  all_at [] k x h is = absurd (none-some x is)
  all_at (y ∷ xs) zero x h is = subst (λ z. q z ≡ true) (same_Some y x is) (first_so (q y) (list_all q xs) h)
  all_at (y ∷ xs) (suc k) x h is = all_at xs k x (second_so (q y) (list_all q xs) h) is

  pub all_places : (xs : List A) → ((k : ℕ) (x : A) → slice_get xs k ≡ Some x → q x ≡ true) → list_all q xs ≡ true
  all_places [] h = refl
  all_places (x ∷ xs) h = both_so (q x) (list_all q xs) (h zero x refl) (all_places xs (λ k y is. h (suc k) y is))

  pub then_all : (xs : List A) (e : End) (rest : Stream A) → list_all q xs ≡ true → list_all q rest.0 ≡ true
      → list_all q (then_ending xs e rest).0 ≡ true
  then_all xs end.Done rest h k = all_append xs rest.0 h k
  then_all xs (end.Fault f) rest h k = h

-- what comes of items that pass a test, each with items that pass another
pub each_all : {A B : Type 0} (p : A → Bool) (q : B → Bool) (f : A → Stream B) → ((x : A) → p x ≡ true → list_all q (f x).0 ≡ true)
    → (xs : List A) (e : End)
    → list_all p xs ≡ true → list_all q (each f xs e).0 ≡ true
each_all p q f h [] e k = refl
each_all p q f h (x ∷ xs) e k =
    then_all q (f x).0 (f x).1 (each f xs e) (h x (first_so (p x) (list_all p xs) k)) (each_all p q f h xs e (second_so (p x) (list_all p xs) k))

-- ---- layers

module _ {R : Type 0} (w : Watch R) where
  abbrev W : Value R → Bool
  W = has_watched_rows w

  abbrev pub layer_watched : Value-F R (Value R) → Bool
  layer_watched layer = watched_step w (map-Value R (Value R) Bool (has_watched_rows w) layer)

  pub watched_out : (v : Value R) → has_watched_rows w v ≡ layer_watched (out-Value R v)
  unfolding has_watched_rows
  watched_out v = fold_out-Value R Bool (watched_step w) v

  pub watched_at : (v : Value R) (layer : Value-F R (Value R)) → out-Value R v ≡ layer → has_watched_rows w v ≡ layer_watched layer
  watched_at v layer h = watched_out v ∙ ap layer_watched h

  pub scalar_watched : (s : Scalar) → has_watched_rows w (value.Scalar s) ≡ true
  scalar_watched s = watched_at (value.Scalar s) (Value-F.Scalar s) (outs-Scalar s)

  pub row_watched : (r : R) → has_watched_rows w (value.Row r) ≡ w.row r
  row_watched r = watched_at (value.Row r) (Value-F.Row r) (outs-Row r)

  -- a row that is a watched value passes
  pub row_passes : (v : Value R) (r : R) → v ≡ value.Row r → has_watched_rows w v ≡ true → w.row r ≡ true
  row_passes v r is h = sym (row_watched r) ∙ ap W (sym is) ∙ h

  -- and one that passes is a watched value
  pub passing_row : (v : Value R) (r : R) → v ≡ value.Row r → w.row r ≡ true → has_watched_rows w v ≡ true
  passing_row v r is h = ap W is ∙ row_watched r ∙ h

  items_watched : (vs : List (Value R)) → list_all (λ b. b) (map W vs) ≡ have_watched_rows w vs
  items_watched vs = list_all-map (λ b. b) W vs

  pub sequence_watched : (s : Stream (Value R)) → have_watched_rows w s.0 ≡ true → has_watched_rows w (sequence s) ≡ true
  sequence_watched s h = watched_at (sequence s) (Value-F.Seq s.0 s.1) (outs-Seq s.0 s.1) ∙ items_watched s.0 ∙ h

  layer_items : (world : World R) (layer : Value-F R (Value R)) → layer_watched layer ≡ true → have_watched_rows w (items_of world layer).0 ≡ true
  layer_items world (Value-F.Seq vs e) h = sym (items_watched vs) ∙ h
  layer_items world (Value-F.Group key vs) h = sym (items_watched vs) ∙ second_so (W key) (list_all (λ b. b) (map W vs)) h
  layer_items world (Value-F.Scalar s) h = refl
  layer_items world (Value-F.Row r) h = refl
  layer_items world (Value-F.Rec members) h = refl

  -- what a watched value is enumerated as
  pub items_pass : (world : World R) (found : Result (Value R) Fault) → has_watched_result w found ≡ true
      → have_watched_rows w (stream_of world found).0 ≡ true
  items_pass world (Ok v) h = layer_items world (out-Value R v) (sym (watched_out v) ∙ h)
  items_pass world (Err f) h = refl

  pub rows_pass : (rows : List R) → list_all w.row rows ≡ true → have_watched_rows w (map value.Row rows) ≡ true
  rows_pass [] h = refl
  rows_pass (r ∷ rows) h =
      both_so (W (value.Row r)) (have_watched_rows w (map value.Row rows)) (row_watched r ∙ first_so (w.row r) (list_all w.row rows) h)
      (rows_pass rows (second_so (w.row r) (list_all w.row rows) h))

  -- ---- slots

  -- one slot more
  pub slot_more : (slots more : List (Value R)) (v : Value R) → more ≡ slots ++ v ∷ [] → have_watched_rows w slots ≡ true
      → has_watched_rows w v ≡ true
      → have_watched_rows w more ≡ true
  slot_more slots more v is h k = ap (have_watched_rows w) is ∙ all_append W slots (v ∷ []) h (all_one W v k)

  -- ---- conditions and lambdas

  where_one : (v : Value R) → has_watched_rows w v ≡ true → (o : Result Bool Fault) → have_watched_rows w (item_where o v).0 ≡ true
  where_one v h (Ok true) = all_one W v h
  where_one v h (Ok false) = refl
  where_one v h (Err f) = refl

  pub where_pass : (condition : Value R → Result Bool Fault) (vs : List (Value R)) (e : End) → have_watched_rows w vs ≡ true
      → have_watched_rows w (where_by condition vs e).0 ≡ true
  where_pass condition vs e h = each_all W W (λ v. item_where (condition v) v) (λ v k. where_one v k (condition v)) vs e h

  pub one_pass : (o : Result (Value R) Fault) → has_watched_result w o ≡ true → have_watched_rows w (one o).0 ≡ true
  one_pass (Ok v) h = all_one W v h
  one_pass (Err f) h = refl

  pub select_pass : (f : Value R → Result (Value R) Fault) → ((v : Value R) → has_watched_rows w v ≡ true → has_watched_result w (f v) ≡ true)
      → (vs : List (Value R)) (e : End) → have_watched_rows w vs ≡ true → have_watched_rows w (select_by f vs e).0 ≡ true
  select_pass f h vs e k = each_all W W (λ v. one (f v)) (λ v l. one_pass (f v) (h v l)) vs e k

-- ---- values over the rows that pass

module _ {R : Type 0} (w : Watch R) where
  -- a row that passes
  abbrev pub Passing : Type 0
  Passing = (r : R) × (w.row r ≡ true)

  abbrev pub bare : Passing → R
  bare p = p.0

  -- a value is one over such rows
  abbrev pub IsOver : Value R → Type 0
  IsOver v = (u : Value Passing) × (mapped bare u ≡ v)

  abbrev V : Value R → Bool
  V = has_watched_rows w

  abbrev Goes : Value R → Type 0
  Goes v = has_watched_rows w v ≡ true → IsOver v

  abbrev values_in : List (Such Goes) → List (Value R)
  values_in zs = map (λ (z : Such Goes). z.0) zs

  abbrev members_in : List (List ℕ × Such Goes) → List (List ℕ × Value R)
  members_in members = map (λ (n : List ℕ × Such Goes). (n.0, n.1.0)) members

  abbrev members_watched : List (List ℕ × Such Goes) → Bool
  members_watched members = list_all (λ (n : List ℕ × Bool). n.1) (map (λ (n : List ℕ × Value R). (n.0, V n.1)) (members_in members))

  abbrev items_in : List (Such Goes) → Bool
  items_in zs = list_all (λ b. b) (map V (values_in zs))

  items_over : (zs : List (Such Goes)) → items_in zs ≡ true → (us : List (Value Passing)) × (map (mapped bare) us ≡ values_in zs)
  items_over [] h = ([], refl)
  items_over (z ∷ zs) h =
      let here = z.1 (first_so (V z.0) (items_in zs) h) in
      let others = items_over zs (second_so (V z.0) (items_in zs) h) in
      (here.0 ∷ others.0, λ i. here.1 i ∷ others.1 i)

  members_over : (ns : List (List ℕ × Such Goes)) → members_watched ns ≡ true
      → (us : List (List ℕ × Value Passing)) × (map (mapped_member bare) us ≡ members_in ns)
  members_over [] h = ([], refl)
  members_over (n ∷ ns) h =
      let here = n.1.1 (first_so (V n.1.0) (members_watched ns) h) in
      let others = members_over ns (second_so (V n.1.0) (members_watched ns) h) in
      ((n.0, here.0) ∷ others.0, λ i. (n.0, here.1 i) ∷ others.1 i)

  layer_over : (y : Value-F R (Such Goes)) → layer_watched w (plain Goes y) ≡ true
      → (z : Value-F Passing (Value Passing)) × (mapped_layer bare z ≡ plain Goes y)
  layer_over (Value-F.Scalar s) h = (Value-F.Scalar s, refl)
  layer_over (Value-F.Row r) h = (Value-F.Row (r, h), refl)
  layer_over (Value-F.Rec ns) h = let us = members_over ns h in (Value-F.Rec us.0, λ i. Value-F.Rec (us.1 i))
  layer_over (Value-F.Group key zs) h =
      let k = key.1 (first_so (V key.0) (items_in zs) h) in
      let us = items_over zs (second_so (V key.0) (items_in zs) h) in
      (Value-F.Group k.0 us.0, λ i. Value-F.Group (k.1 i) (us.1 i))
  layer_over (Value-F.Seq zs e) h = let us = items_over zs h in (Value-F.Seq us.0 e, λ i. Value-F.Seq (us.1 i) e)

  rolled_over : (y : Value-F R (Such Goes)) → Goes (roll-Value R (plain Goes y))
  rolled_over y h =
      let v = roll-Value R (plain Goes y) in
      let layer = layer_over y (sym (watched_at w v (plain Goes y) (out-roll-Value R (plain Goes y))) ∙ h) in
      let u = roll-Value Passing layer.0 in (
        u,
        sym (roll-out-Value R (mapped bare u)) ∙ ap (roll-Value R)
            (mapped_out bare u ∙ ap (mapped_layer bare) (out-roll-Value Passing layer.0) ∙ layer.1),
      )

  -- a watched value is one over the rows that pass
  pub value_over : (v : Value R) → has_watched_rows w v ≡ true → IsOver v
  value_over v = of_every Goes rolled_over v

  pub values_over : (vs : List (Value R)) → have_watched_rows w vs ≡ true → (us : List (Value Passing)) × (map (mapped bare) us ≡ vs)
  values_over [] h = ([], refl)
  values_over (v ∷ vs) h =
      let here = value_over v (first_so (V v) (have_watched_rows w vs) h) in
      let others = values_over vs (second_so (V v) (have_watched_rows w vs) h) in
      (here.0 ∷ others.0, λ i. here.1 i ∷ others.1 i)

  -- ---- and back

  abbrev Comes : Value Passing → Type 0
  Comes u = has_watched_rows w (mapped bare u) ≡ true

  abbrev come : List (Such Comes) → Bool
  come zs = list_all (λ b. b) (map V (map (mapped bare) (map (λ (z : Such Comes). z.0) zs)))

  abbrev members_come : List (List ℕ × Such Comes) → Bool
  members_come ns =
      list_all (λ (n : List ℕ × Bool). n.1) (map (λ (n : List ℕ × Value R). (n.0, V n.1))
      (map (mapped_member bare) (map (λ (n : List ℕ × Such Comes). (n.0, n.1.0)) ns)))

  items_come : (zs : List (Such Comes)) → come zs ≡ true
  items_come [] = refl
  items_come (z ∷ zs) = both_so (V (mapped bare z.0)) (come zs) z.1 (items_come zs)

  all_members_come : (ns : List (List ℕ × Such Comes)) → members_come ns ≡ true
  all_members_come [] = refl
  all_members_come (n ∷ ns) = both_so (V (mapped bare n.1.0)) (members_come ns) n.1.1 (all_members_come ns)

  layer_comes : (y : Value-F Passing (Such Comes)) → layer_watched w (mapped_layer bare (plain Comes y)) ≡ true
  layer_comes (Value-F.Scalar s) = refl
  layer_comes (Value-F.Row p) = p.1
  layer_comes (Value-F.Rec ns) = all_members_come ns
  layer_comes (Value-F.Group key zs) = both_so (V (mapped bare key.0)) (come zs) key.1 (items_come zs)
  layer_comes (Value-F.Seq zs e) = items_come zs

  rolled_comes : (y : Value-F Passing (Such Comes)) → Comes (roll-Value Passing (plain Comes y))
  rolled_comes y =
      let u = roll-Value Passing (plain Comes y) in
      watched_at w (mapped bare u) (mapped_layer bare (plain Comes y))
      (mapped_out bare u ∙ ap (mapped_layer bare) (out-roll-Value Passing (plain Comes y)))
      ∙ layer_comes y

  -- a value over the rows that pass is watched
  pub over_watched : (u : Value Passing) → has_watched_rows w (mapped bare u) ≡ true
  over_watched u = of_every Comes rolled_comes u
