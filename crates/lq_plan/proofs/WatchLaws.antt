-- The rows in what is pulled pass a watch's test where those of the base do, and the watch covers what stands above the base.
use Rattle.std.proofs.Common.{◌≡◌, ◌∷◌, ◌&&◌, if◌then◌else◌, List, [], ℕ, zero, suc, ℤ, Bool, true, false, Option, Some, None, IfSome, map, filter, reverse, ap, ◌∙◌, sym, subst, refl, option_and_then, option_map}
use Rattle.std.specs.Cmp.{first_so, second_so}
use Rattle.std.proofs.lemmas.Option.{none-some}
use Rattle.lq_value.specs.declared.scalar.Scalar.{Scalar}
use Rattle.lq_value.specs.declared.value.End.{End}
use Rattle.lq_value.specs.declared.value.Value.{Value}
use Rattle.lq_value.specs.declared.value.Value.TheVariants as value
use Rattle.lq_host.specs.Calls.{arguments_at as arguments_of, number_at, number_of}
use Rattle.lq_host.specs.declared.call.Pick.{Pick}
use Rattle.lq_host.specs.declared.call.Pick.TheVariants as numbers
use Rattle.lq_host.specs.declared.call.Pick2.{Pick2}
use Rattle.lq_host.specs.declared.call.Pick2.TheVariants as arguments
use Rattle.lq_host.specs.Predicates.{Predicate}
use Rattle.lq_language.specs.Enumerable.{take_first}
use Rattle.lq_language.specs.OperandMeaning.{stream_of}
use Rattle.lq_language.specs.Stream.{Stream}
use Rattle.lq_language.specs.Worlds.{World}
use Rattle.lq_tree.specs.FormMeaning.{Slots, arguments_in, form_meaning, is_true, name_of_column, numbered_cell, with_item}
use Rattle.lq_tree.specs.Watches.{Watch, has_watched_rows, have_watched_rows, is_covered, is_covered_above}
use Rattle.lq_tree.specs.declared.tree.Form.{Form, ind-Form, map-Form, roll-Form}
use Rattle.lq_tree.specs.declared.tree.Form.TheOpen.{Form-F}
use Rattle.lq_tree.proofs.CoveredLaws.{above_roll}
use Rattle.lq_tree.proofs.WatchLaws.{item_flows, stream_passes}
use Rattle.lq_tree.proofs.WatchedValueLaws.{all_append, all_before, all_behind, all_one, both_so, each_all, select_pass, where_pass}
use Rattle.lq_plan.specs.declared.bases.Base.{Base}
use Rattle.lq_plan.specs.Counts.{read_first}
use Rattle.lq_plan.specs.PlannedRows.{is_kept_by, kept_stream, row_verdict}
use Rattle.lq_plan.specs.Prepared.{IsPlanned}
use Rattle.lq_plan.specs.Pulling.{base_stream, item_at, rest_behind, stream_behind, through_select, through_stage, through_where}
use Rattle.lq_plan.specs.Watching.{is_covered_pipe, is_covered_stage}
use Rattle.lq_plan.specs.Worlds.{HaveDistinctColumns, cell_of, schemas_in, world_of}
use Rattle.lq_plan.specs.declared.pipes.Pipe.{Pipe}
use Rattle.lq_plan.specs.declared.plans.Plan.{Plan}
use Rattle.lq_plan.specs.declared.stages.Stage.{Stage}
use Rattle.lq_plan.specs.declared.stages.Stage.TheVariants as stage
use Rattle.lq_plan.specs.declared.tables.TableRows.{TableRows}
use Rattle.lq_plan.proofs.CellLemmas.{cell_found}
use Rattle.lq_plan.proofs.PlanLaws.{rest_kept}
use Rattle.lq_plan.proofs.PullLaws.{roll_item}

-- ---- the arguments of a row of the table

module _ {R S : Type 0} (table_of : R → ℕ) (shown : R → List Scalar) (left : S → List R) (predicates : List Predicate) (tables : List (TableRows S))
    (distinct : HaveDistinctColumns (schemas_in tables)) where
  abbrev W : World R
  W = world_of table_of shown left predicates tables

  named_number : (t c : ℕ) (r : R) (z : ℤ) (o : Option (List ℕ)) → table_of r ≡ t → name_of_column (schemas_in tables) t c ≡ o
      → number_of (option_and_then (cell_of table_of shown tables r) o) ≡ Some z → number_at (shown r) c ≡ Some z
  named_number t c r z None own is h = absurd (none-some z h)
  named_number t c r z (Some name) own is h = ap number_of (sym (cell_found (schemas_in tables) t (table_of r) c name (shown r) distinct own is)) ∙ h

  -- the number under the name of a column is the one at its place
  number_there : (t c : ℕ) (r : R) (z : ℤ) → table_of r ≡ t → number_of (numbered_cell W t r c) ≡ Some z → number_at (shown r) c ≡ Some z
  number_there t c r z own h = named_number t c r z (name_of_column (schemas_in tables) t c) own refl h

  one_there : (t c : ℕ) (r : R) (xs : Pick2) → table_of r ≡ t → (o : Option ℤ) → number_of (numbered_cell W t r c) ≡ o
      → option_map arguments.One o ≡ Some xs → option_map arguments.One (number_at (shown r) c) ≡ Some xs
  one_there t c r xs own None is h = absurd (none-some xs h)
  one_there t c r xs own (Some z) is h = ap (option_map arguments.One) (number_there t c r z own is) ∙ h

  second_there : (t d : ℕ) (r : R) (x : ℤ) (xs : Pick2) → table_of r ≡ t → (o : Option ℤ) → number_of (numbered_cell W t r d) ≡ o
      → option_map (arguments.Two x) o ≡ Some xs → option_map (arguments.Two x) (number_at (shown r) d) ≡ Some xs
  second_there t d r x xs own None is h = absurd (none-some xs h)
  second_there t d r x xs own (Some y) is h = ap (option_map (arguments.Two x)) (number_there t d r y own is) ∙ h

  two_there : (t c d : ℕ) (r : R) (xs : Pick2) → table_of r ≡ t → (o : Option ℤ) → number_of (numbered_cell W t r c) ≡ o
      → option_and_then (λ x. option_map (arguments.Two x) (number_of (numbered_cell W t r d))) o ≡ Some xs
      → option_and_then (λ x. option_map (arguments.Two x) (number_at (shown r) d)) (number_at (shown r) c) ≡ Some xs
  two_there t c d r xs own None is h = absurd (none-some xs h)
  two_there t c d r xs own (Some x) is h =
      ap (option_and_then (λ x. option_map (arguments.Two x) (number_at (shown r) d))) (number_there t c r x own is)
      ∙ second_there t d r x xs own (number_of (numbered_cell W t r d)) refl h

  -- the arguments of a row of the table are its cells at the columns' places
  pub arguments_there : (t : ℕ) (columns : Pick) (r : R) (xs : Pick2) → table_of r ≡ t → arguments_in W t columns r ≡ Some xs
      → arguments_of (shown r) columns ≡ Some xs
  arguments_there t (numbers.One c) r xs own h = one_there t c r xs own (number_of (numbered_cell W t r c)) refl h
  arguments_there t (numbers.Two c d) r xs own h = two_there t c d r xs own (number_of (numbered_cell W t r c)) refl h

  -- the same of arguments that were read, if there are any
  pub cells_there : (t : ℕ) (columns : Pick) (r : R) (o : Option Pick2) → table_of r ≡ t → o ≡ arguments_in W t columns r
      → IfSome o (λ xs. (table_of r ≡ t) × (arguments_of (shown r) columns ≡ Some xs))
  cells_there t columns r (Some xs) own is = (own, arguments_there t columns r xs own (sym is))
  cells_there t columns r None own is = tt

-- ---- items

module _ {R : Type 0} (world : World R) (w : Watch R) (slots : Slots R) (passes : have_watched_rows w slots ≡ true) where
  abbrev P : Value R → Bool
  P = has_watched_rows w

  where_passes : (f : Form) (s : Stream (Value R)) → have_watched_rows w s.0 ≡ true → have_watched_rows w (through_where world slots f s).0 ≡ true
  where_passes f s h = where_pass w (λ v. is_true world (form_meaning world f) (with_item world slots v)) s.0 s.1 h

  select_passes : (f : Form) (s : Stream (Value R)) → is_covered world w f ≡ true → have_watched_rows w s.0 ≡ true
      → have_watched_rows w (through_select world slots f s).0 ≡ true
  select_passes f s c h =
      select_pass w (λ v. form_meaning world f (with_item world slots v)) (λ v k. item_flows world w f slots v c passes k) s.0 s.1 h

  -- what comes of items at a stage
  pub stage_passes : (st : Stage) (s : Stream (Value R)) → is_covered_stage world w st ≡ true → have_watched_rows w s.0 ≡ true
      → have_watched_rows w (through_stage world slots st s).0 ≡ true
  stage_passes stage.Plain s c h = h
  stage_passes (stage.Where f) s c h = where_passes f.now s h
  stage_passes (stage.Select f) s c h = select_passes f.now s c h

  abbrev A : Form → Bool
  A = is_covered_above world w

  abbrev Passes : Form → Type 0
  Passes f = is_covered_above world w f ≡ true → (x : Value R) → has_watched_rows w x ≡ true → have_watched_rows w (item_at world slots f x).0 ≡ true

  abbrev Such : Type 0
  Such = (f : Form) × Passes f

  abbrev plain : Form-F Such → Form-F Form
  plain layer = map-Form Such Form (λ z. z.0) layer

  rolled_passes : (y : Form-F Such) → Passes (roll-Form (plain y))
  rolled_passes (Form-F.Where a f) h x k =
      let parts : (A a.0 && is_covered world w f.0) ≡ true = sym (above_roll world w (Form-F.Where a.0 f.0)) ∙ h in
      ap (λ (s : Stream (Value R)). have_watched_rows w s.0) (roll_item world slots (Form-F.Where a.0 f.0) x)
      ∙ where_passes f.0 (item_at world slots a.0 x) (a.1 (first_so (A a.0) (is_covered world w f.0) parts) x k)
  rolled_passes (Form-F.Select a f) h x k =
      let parts : (A a.0 && is_covered world w f.0) ≡ true = sym (above_roll world w (Form-F.Select a.0 f.0)) ∙ h in
      ap (λ (s : Stream (Value R)). have_watched_rows w s.0) (roll_item world slots (Form-F.Select a.0 f.0) x)
      ∙ select_passes f.0 (item_at world slots a.0 x) (second_so (A a.0) (is_covered world w f.0) parts)
      (a.1 (first_so (A a.0) (is_covered world w f.0) parts) x k)
  rolled_passes (Form-F.Sequence a) h x k =
      ap (λ (s : Stream (Value R)). have_watched_rows w s.0) (roll_item world slots (Form-F.Sequence a.0) x)
      ∙ a.1 (sym (above_roll world w (Form-F.Sequence a.0)) ∙ h) x k
  rolled_passes layer h x k =
      ap (λ (s : Stream (Value R)). have_watched_rows w s.0) (roll_item world slots (plain layer) x) ∙ all_one P x k

  -- what an item of a base becomes at a form
  pub item_passes : (f : Form) → is_covered_above world w f ≡ true → (x : Value R) → has_watched_rows w x ≡ true
      → have_watched_rows w (item_at world slots f x).0 ≡ true
  item_passes f = ind-Form Passes (λ x y e. subst (λ (d : Form-F Form). Passes (roll-Form d)) e (rolled_passes y)) f

  -- and behind it at a stage
  pub comes_passing : (st : Stage) (source : Form) → is_covered_stage world w st ≡ true → is_covered_above world w source ≡ true → (x : Value R)
      → has_watched_rows w x ≡ true → have_watched_rows w (through_stage world slots st (item_at world slots source x)).0 ≡ true
  comes_passing st source c above x k = stage_passes st (item_at world slots source x) c (item_passes source above x k)

  -- all items of a source behind a stage
  pub all_pass : (st : Stage) (source : Form) → is_covered world w source ≡ true → is_covered_stage world w st ≡ true
      → have_watched_rows w (stream_behind world slots st source).0 ≡ true
  all_pass st source covered c =
      stage_passes st (stream_of world (form_meaning world source slots)) c (stream_passes world w source slots _ refl covered passes)

-- ---- bases

module _ {R : Type 0} (w : Watch R) where
  kept_if : (r : R) (rows kept : List R) (b : Bool) → have_watched_rows w (map value.Row (r ∷ rows)) ≡ true → have_watched_rows w (map value.Row kept) ≡ true
      → have_watched_rows w (map value.Row (if b then r ∷ kept else kept)) ≡ true
  kept_if r rows kept true h k =
      both_so (has_watched_rows w (value.Row r)) (have_watched_rows w (map value.Row kept))
      (first_so (has_watched_rows w (value.Row r)) (have_watched_rows w (map value.Row rows)) h) k
  kept_if r rows kept false h k = k

  filtered_pass : (p : R → Bool) (rows : List R) → have_watched_rows w (map value.Row rows) ≡ true
      → have_watched_rows w (map value.Row (filter p rows)) ≡ true
  filtered_pass p [] h = refl
  filtered_pass p (r ∷ rows) h =
      kept_if r rows (filter p rows) (p r) h
      (filtered_pass p rows (second_so (has_watched_rows w (value.Row r)) (have_watched_rows w (map value.Row rows)) h))

  module _ (table_of : R → ℕ) (shown : R → List Scalar) (plan : Plan) where
    -- the items that a plan leaves of a base
    pub kept_pass : {S : Type 0} → (b : Base R S) → have_watched_rows w (base_stream b).0 ≡ true → have_watched_rows w (kept_stream table_of shown plan b).0 ≡ true
    kept_pass b h =
        all_append (has_watched_rows w) (map value.Row (filter (λ r. is_kept_by (row_verdict table_of shown plan r)) b.rows)) (reverse b.items.items)
        (filtered_pass (λ r. is_kept_by (row_verdict table_of shown plan r)) b.rows
        (all_before (has_watched_rows w) (map value.Row b.rows) (reverse b.items.items) h))
        (all_behind (has_watched_rows w) (map value.Row b.rows) (reverse b.items.items) h)

  -- the first items of a stream
  taken_pass : (n : ℕ) (vs : List (Value R)) (e : End) → have_watched_rows w vs ≡ true → have_watched_rows w (take_first n vs e).0 ≡ true
  taken_pass zero vs e h = refl
  taken_pass (suc n) [] e h = refl
  taken_pass (suc n) (v ∷ vs) e h =
      both_so (has_watched_rows w v) (have_watched_rows w (take_first n vs e).0) (first_so (has_watched_rows w v) (have_watched_rows w vs) h)
      (taken_pass n vs e (second_so (has_watched_rows w v) (have_watched_rows w vs) h))

  pub read_passes : (limit : Option ℕ) (s : Stream (Value R)) → have_watched_rows w s.0 ≡ true → have_watched_rows w (read_first limit s).0 ≡ true
  read_passes None s h = h
  read_passes (Some n) s h = taken_pass n s.0 s.1 h

-- ---- pipes

module _ {R : Type 0} (table_of : R → ℕ) (shown : R → List Scalar) (world : World R) (w : Watch R) (slots : Slots R) (pipe : Pipe)
    (covered : is_covered_pipe world w slots pipe ≡ true) where
  abbrev above : Bool
  above = is_covered_above world w pipe.source.now

  pub stage_covered : is_covered_stage world w pipe.stage ≡ true
  stage_covered = first_so (is_covered_stage world w pipe.stage) (above && have_watched_rows w slots) covered

  others_covered : (is_covered_above world w pipe.source.now && have_watched_rows w slots) ≡ true
  others_covered = second_so (is_covered_stage world w pipe.stage) (above && have_watched_rows w slots) covered

  pub source_covered : is_covered_above world w pipe.source.now ≡ true
  source_covered = first_so above (have_watched_rows w slots) others_covered

  pub slots_pass : have_watched_rows w slots ≡ true
  slots_pass = second_so above (have_watched_rows w slots) others_covered

  -- what is left of a pipe's items
  pub left_passes : {S : Type 0} → (b : Base R S) → IsPlanned table_of shown world slots pipe.stage pipe.source.now pipe.plan
      → have_watched_rows w (kept_stream table_of shown pipe.plan b).0 ≡ true
      → have_watched_rows w (rest_behind world slots pipe.stage pipe.source.now b).0 ≡ true
  left_passes b planned h =
      ap (λ (s : Stream (Value R)). have_watched_rows w s.0) (rest_kept table_of shown world slots pipe.stage pipe.source.now pipe.plan planned b)
      ∙ each_all (has_watched_rows w) (has_watched_rows w) (λ x. through_stage world slots pipe.stage (item_at world slots pipe.source.now x))
      (comes_passing world w slots slots_pass pipe.stage pipe.source.now stage_covered source_covered)
      (kept_stream table_of shown pipe.plan b).0 (kept_stream table_of shown pipe.plan b).1 h
