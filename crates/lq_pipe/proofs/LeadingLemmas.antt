-- The first items of an order, as the items that are ordered are pulled; and bases that have only the first items of their forms.
use Rattle.std.proofs.Common.{◌≡◌, ◌∷◌, ◌++◌, ◌<◌, List, [], ℕ, zero, suc, Bool, true, Option, Some, None, Result, Ok, Err, IfOk, ap, ◌∙◌, sym, refl, subst, append-nil, map, take}
use Rattle.std.proofs.lemmas.List.{map-append}
use Rattle.lq_value.specs.declared.scalar.Scalar.{Scalar}
use Rattle.lq_value.specs.declared.value.End.{End}
use Rattle.lq_value.specs.declared.value.End.TheVariants as end
use Rattle.lq_value.specs.declared.value.Fault.{Fault}
use Rattle.lq_value.specs.declared.value.Value.{Value}
use Rattle.lq_value.specs.declared.value.Value.TheVariants as value
use Rattle.lq_language.specs.Arrangement.{Keyed, arranged}
use Rattle.lq_language.specs.Enumerable.{in_front, take_first}
use Rattle.lq_language.specs.OperandMeaning.{stream_of}
use Rattle.lq_language.specs.Stream.{Stream, each, item_where, one, select_by, then_ending, then_stream}
use Rattle.lq_language.specs.Worlds.{World}
use Rattle.lq_grammar.specs.declared.syntax.SortKey.{SortKey}
use Rattle.lq_operators.specs.Leading.{HasLeading}
use Rattle.lq_operators.specs.declared.leading.Leading.{Leading}
use Rattle.lq_tree.specs.FormMeaning.{Slots, form_meaning, is_true, with_item}
use Rattle.lq_tree.specs.Watches.{Watch, have_watched_rows, is_covered}
use Rattle.lq_tree.specs.declared.tree.Form.{Form}
use Rattle.lq_tree.specs.declared.tree.Form.TheVariants as form
use Rattle.lq_tree.proofs.WatchLaws.{stream_passes}
use Rattle.lq_plan.specs.Counts.{read_first}
use Rattle.lq_plan.specs.Leading.{AddsByKeys, HasKeys, HaveKeys, forms_of}
use Rattle.lq_plan.specs.PlannedRows.{row_verdict}
use Rattle.lq_plan.specs.Prepared.{IsPlanned}
use Rattle.lq_plan.specs.Pulling.{base_stream, item_at, items_at, last, rest_behind, stream_behind, through_select, through_stage, through_where}
use Rattle.lq_plan.specs.Stages.{IsStageOver, is_base}
use Rattle.lq_plan.specs.declared.bases.Base.{Base}
use Rattle.lq_plan.specs.declared.pipes.Pipe.{Pipe}
use Rattle.lq_plan.specs.declared.stages.Stage.{Stage}
use Rattle.lq_plan.specs.declared.stages.Stage.TheVariants as stage
use Rattle.lq_plan.proofs.LeadingLaws.{all_behind, order_leads, order_stops}
use Rattle.lq_plan.proofs.PlanLaws.{row_says}
use Rattle.lq_plan.proofs.PullLaws.{base_item, each_each, each_one, stage_item, stage_items}
use Rattle.lq_plan.proofs.WatchLaws.{read_passes}
use Rattle.lq_pipe.specs.Leading.{Leads, LeadsOn, limit_below}
use Rattle.lq_pipe.proofs.PullLaws.{comes, drained_on}

-- what is so where there is a result is so of what follows from it
pub so_if_ok : {A E : Type 0} (r : Result A E) (P Q : A → Type 0) → ((x : A) → P x → Q x) → IfOk r P → IfOk r Q
so_if_ok (Ok x) P Q follows p = follows x p
so_if_ok (Err e) P Q follows p = p

-- ---- as items are pulled

module _ {R : Type 0} (world : World R) (slots : Slots R) (keys : List Form) where
  pub leads_with : (old new : Leading (Value R)) (x : Value R) → AddsByKeys world slots keys old x new
      → LeadsOn world slots keys old (x ∷ [], end.Done) (Some end.Done) new
  leads_with old new x adds ds n left all h =
      let same : old.directions ≡ ds = h.are.1 in
      record {
        rows = h.rows ++ (adds.0, x) ∷ [];
        have = all_behind (λ row. HasKeys world slots keys row.1 row.0) h.rows (adds.0, x) h.have adds.1;
        are =
            subst (λ d. HasLeading d n (h.rows ++ (adds.0, x) ∷ []) new) same
            (adds.2 n h.rows (subst (λ d. HasLeading d n h.rows old) (sym same) h.are));
        goes =
            drained_on (then_stream (x ∷ [], end.Done) left) left all x (map (λ row. row.1) h.rows) (map (λ row. row.1) (h.rows ++ (adds.0, x) ∷ [])) refl
            (map-append (λ (row : Keyed (Value R)). row.1) h.rows ((adds.0, x) ∷ [])) h.goes;
      }

module _ {R : Type 0} (world : World R) (slots : Slots R) (keys : List Form) (ds : List Bool) (n : ℕ) where
  pub leads_begin : (leading : Leading (Value R)) (left all : Stream (Value R)) → HasLeading ds n [] leading → left ≡ all
      → Leads world slots keys ds n leading left all
  leads_begin leading left all none is = record { rows = []; have = tt; are = none; goes = is }

  -- what was pulled is what comes first of the items that are left
  pub leads_pulled : (old new : Leading (Value R)) (made before left all : Stream (Value R)) (next : Option End) → before ≡ then_stream made left
      → LeadsOn world slots keys old made next new → next ≡ Some end.Done → Leads world slots keys ds n old before all → Leads world slots keys ds n new left all
  leads_pulled old new made before left all next is on so h =
      subst (λ o. LeadsOn world slots keys old made o new) so on ds n left all
      (subst (λ (s : Stream (Value R)). Leads world slots keys ds n old s all) is h)

  pub leads_stopped : (old new : Leading (Value R)) (made before left all : Stream (Value R)) (next : Option End) (f : Fault) → before ≡ then_stream made left
      → LeadsOn world slots keys old made next new → next ≡ Some (end.Fault f) → Leads world slots keys ds n old before all
      → Leads world slots keys ds n new ([], end.Fault f) all
  leads_stopped old new made before left all next f is on so h =
      subst (λ o. LeadsOn world slots keys old made o new) so on ds n left all
      (subst (λ (s : Stream (Value R)). Leads world slots keys ds n old s all) is h)

  pub leads_ended : (leading : Leading (Value R)) (before all : Stream (Value R)) (e : End) → before ≡ ([], e)
      → Leads world slots keys ds n leading before all → Leads world slots keys ds n leading ([], e) all
  leads_ended leading before all e is h = subst (λ (s : Stream (Value R)). Leads world slots keys ds n leading s all) is h

-- ---- the first items of an order

module _ {R : Type 0} (world : World R) (slots : Slots R) where
  abbrev items : Form → Stream (Value R)
  items f = stream_of world (form_meaning world f slots)

  rows_all : (rows : List (Keyed (Value R))) (e : End) (all : Stream (Value R)) → then_ending (map (λ row. row.1) rows) end.Done ([], e) ≡ all
      → (map (λ row. row.1) rows, e) ≡ all
  rows_all rows e all goes = ap (λ l. (l, e)) (sym (append-nil (map (λ row. row.1) rows))) ∙ goes

  ordered_as : (f a : Form) (ks : List (SortKey Form)) (l : Option ℕ) (n : ℕ) (s : Stream (Value R)) → f ≡ form.OrderBy a ks → l ≡ Some n
      → s ≡ read_first (Some n) (items (form.OrderBy a ks)) → s ≡ read_first l (items f)
  ordered_as f a ks l n s is few h = h ∙ sym (λ i. read_first (few i) (items (is i)))

  -- the first ones of all items are those that are kept
  pub sorted_first : (f a : Form) (ks : List (SortKey Form)) (l : Option ℕ) (n : ℕ) → f ≡ form.OrderBy a ks → l ≡ Some n
      → (bodies : List Form) (ds : List Bool) (leading : Leading (Value R)) (e : End) (all : Stream (Value R)) (found : List (Value R))
      → bodies ≡ forms_of ks → ds ≡ map (λ k. k.descending) ks → all ≡ items a → e ≡ end.Done → Leads world slots bodies ds n leading ([], e) all
      → ((d : List Bool) (m : ℕ) (rows : List (Keyed (Value R))) → HasLeading d m rows leading → found ≡ take m (map (λ row. row.1) (arranged d rows)))
      → (found, end.Done) ≡ read_first l (items f)
  sorted_first f a ks l n f_is few bodies ds leading e all found bodies_are ds_are is done h gives =
      ordered_as f a ks l n (found, end.Done) f_is few
      (order_leads world slots a ks n h.rows all found is
      (ap (λ d. (map (λ row. row.1) h.rows, d)) (sym done) ∙ rows_all h.rows e all h.goes)
      (subst (λ l. HaveKeys world slots l h.rows) bodies_are h.have)
      (gives ds n h.rows h.are ∙ ap (λ d. take n (map (λ row. row.1) (arranged d h.rows))) ds_are))

  pub sorted_stops : (f a : Form) (ks : List (SortKey Form)) (l : Option ℕ) (n : ℕ) → f ≡ form.OrderBy a ks → l ≡ Some n → 0 < n
      → (bodies : List Form) (ds : List Bool) (leading : Leading (Value R)) (e : End) (fault : Fault) (all : Stream (Value R)) (found : List (Value R))
      → all ≡ items a → e ≡ end.Fault fault → found ≡ [] → Leads world slots bodies ds n leading ([], e) all
      → (found, end.Fault fault) ≡ read_first l (items f)
  sorted_stops f a ks l n f_is few some bodies ds leading e fault all found is stops none h =
      ordered_as f a ks l n (found, end.Fault fault) f_is few
      (order_stops world slots a ks n all (map (λ row. row.1) h.rows) fault found is
      (ap (λ d. (map (λ row. row.1) h.rows, d)) (sym stops) ∙ rows_all h.rows e all h.goes) none some)

-- ---- the first items of streams

take_twice : {A : Type 0} (n : ℕ) (xs : List A) (e : End) → take_first n (take_first n xs e).0 (take_first n xs e).1 ≡ take_first n xs e
take_twice zero xs e = refl
take_twice (suc n) [] e = refl
take_twice (suc n) (x ∷ xs) e = ap (in_front x) (take_twice n xs e)

read_twice : {A : Type 0} (l : Option ℕ) (s : Stream A) → read_first l (read_first l s) ≡ read_first l s
read_twice (Some n) s = take_twice n s.0 s.1
read_twice None s = refl

module _ {A B : Type 0} (g : A → Result B Fault) where
  first_by : (n : ℕ) (m : Result B Fault) (xs : List A) (e : End)
      → take_first n (select_by g xs e).0 (select_by g xs e).1 ≡ select_by g (take_first n xs e).0 (take_first n xs e).1
      → take_first (suc n) (then_stream (one m) (select_by g xs e)).0 (then_stream (one m) (select_by g xs e)).1
      ≡ then_stream (one m) (select_by g (take_first n xs e).0 (take_first n xs e).1)
  first_by n (Ok v) xs e rest = ap (in_front v) rest
  first_by n (Err f) xs e rest = refl

  select_first : (n : ℕ) (xs : List A) (e : End)
      → take_first n (select_by g xs e).0 (select_by g xs e).1 ≡ select_by g (take_first n xs e).0 (take_first n xs e).1
  select_first zero xs e = refl
  select_first (suc n) [] e = refl
  select_first (suc n) (x ∷ xs) e = first_by n (g x) xs e (select_first n xs e)

  -- the first ones of what a lambda gives of items are what it gives of the first ones
  select_read : (l : Option ℕ) (s : Stream A) → read_first l (select_by g s.0 s.1) ≡ select_by g (read_first l s).0 (read_first l s).1
  select_read (Some n) s = select_first n s.0 s.1
  select_read None s = refl

-- ---- what is pulled of a source

module _ {R : Type 0} (table_of : R → ℕ) (shown : R → List Scalar) (world : World R) (slots : Slots R) (pipe : Pipe) where
  -- of a row that passes the row comes
  pub row_comes : (r : R) → IsPlanned table_of shown world slots pipe.stage pipe.source.now pipe.plan → pipe.stage ≡ stage.Plain
      → row_verdict table_of shown pipe.plan r ≡ Some true → comes table_of shown world slots pipe (value.Row r) ≡ (value.Row r ∷ [], end.Done)
  row_comes r planned plain passes =
      row_says table_of shown world slots pipe.stage pipe.source.now pipe.plan planned r true passes
      ∙ ap (λ st. last world slots st (value.Row r)) plain

-- ---- bases that have the first items of their forms

module _ {R : Type 0} (world : World R) (slots : Slots R) where
  -- what comes first of the first items is what comes first of all, where a condition may drop none of them
  behind_first : (st : Stage) (l : Option ℕ) (s t : Stream (Value R)) → read_first (limit_below st l) s ≡ read_first (limit_below st l) t
      → read_first l (through_stage world slots st s) ≡ read_first l (through_stage world slots st t)
  behind_first stage.Plain l s t h = h
  behind_first (stage.Where c) l s t h = ap (λ (u : Stream (Value R)). read_first l (through_where world slots c.now u)) h
  behind_first (stage.Select c) l s t h =
      select_read (λ v. form_meaning world c.now (with_item world slots v)) l s
      ∙ ap (λ (u : Stream (Value R)). through_select world slots c.now u) h
      ∙ sym (select_read (λ v. form_meaning world c.now (with_item world slots v)) l t)

  through_each : (st : Stage) (a : Form) (s : Stream (Value R))
      → each (λ x. through_stage world slots st (item_at world slots a x)) s.0 s.1 ≡ through_stage world slots st (items_at world slots a s)
  through_each stage.Plain a s = refl
  through_each (stage.Where c) a s =
      sym (each_each (λ v. item_where (is_true world (form_meaning world c.now) (with_item world slots v)) v) (item_at world slots a) s.0 s.1)
  through_each (stage.Select c) a s = sym (each_each (λ v. one (form_meaning world c.now (with_item world slots v))) (item_at world slots a) s.0 s.1)

  module _ {S : Type 0} (l : Option ℕ) (f : Form) (b : Base R S) where
    -- the base has what comes first of a form's items, up to the limit
    abbrev pub HasFirst : Type 0
    HasFirst = read_first l (items_at world slots f (base_stream b)) ≡ read_first l (items world slots f)

  -- so it is of the items behind a stage
  pub left_first : {S : Type 0} → (st : Stage) (l below : Option ℕ) (a : Form) (b : Base R S) → below ≡ limit_below st l → HasFirst below a b
      → read_first l (rest_behind world slots st a b) ≡ read_first l (stream_behind world slots st a)
  left_first st l below a b is h =
      ap (read_first l) (through_each st a (base_stream b))
      ∙ behind_first st l (items_at world slots a (base_stream b)) (items world slots a) (subst (λ k. HasFirst k a b) is h)

  pub first_stage : {S : Type 0} → (st : Stage) (l below : Option ℕ) (f a : Form) (b : Base R S) → IsStageOver f st a → below ≡ limit_below st l
      → HasFirst below a b → HasFirst l f b
  first_stage st l below f a b is below_is h =
      ap (read_first l) (λ i. each (λ x. stage_item world slots st f a x is i) (base_stream b).0 (base_stream b).1)
      ∙ left_first st l below a b below_is h ∙ ap (read_first l) (stage_items world slots st f a is)

  at_base : {S : Type 0} → (f : Form) (b : Base R S) → is_base f ≡ true → items_at world slots f (base_stream b) ≡ base_stream b
  at_base f b base = each_one (item_at world slots f) (λ x. base_item world slots f x base) (base_stream b).0 (base_stream b).1

  pub first_base : {S : Type 0} → (l : Option ℕ) (f : Form) (b : Base R S) → is_base f ≡ true → base_stream b ≡ items world slots f → HasFirst l f b
  first_base l f b base is = ap (read_first l) (at_base f b base ∙ is)

  pub first_found : {S : Type 0} → (l : Option ℕ) (f : Form) (b : Base R S) (s : Stream (Value R)) → is_base f ≡ true → base_stream b ≡ s
      → s ≡ read_first l (items world slots f) → HasFirst l f b
  first_found l f b s base is first = ap (read_first l) (at_base f b base ∙ is ∙ first) ∙ read_twice l (items world slots f)

  -- such items pass where those of the form do
  pub first_pass : {S : Type 0} → (w : Watch R) (f : Form) (l : Option ℕ) (b : Base R S) (s : Stream (Value R)) → base_stream b ≡ s
      → s ≡ read_first l (items world slots f) → is_covered world w f ≡ true → have_watched_rows w slots ≡ true → have_watched_rows w (base_stream b).0 ≡ true
  first_pass w f l b s is first covered passes =
      ap (λ (t : Stream (Value R)). have_watched_rows w t.0) (is ∙ first)
      ∙ read_passes w l (items world slots f) (stream_passes world w f slots _ refl covered passes)

pub ruleset opens_first = (first_stage, first_base, first_found)
