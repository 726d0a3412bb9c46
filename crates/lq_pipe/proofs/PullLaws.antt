-- Loops that pull items one by one.
use Rattle.std.proofs.Common.{◌≡◌, ◌∷◌, ◌++◌, ◌<◌, List, [], ℕ, zero, suc, Bor, Option, Some, None, IfOk, true, Result, Ok, Err, ap, ◌∙◌, sym, refl, subst, append_assoc, append-nil, length, arith}
use Rattle.std.proofs.lemmas.Option.{none-some, same_Some}
use Rattle.lq_value.specs.declared.scalar.Scalar.{Scalar}
use Rattle.lq_value.specs.declared.value.End.{End}
use Rattle.lq_value.specs.declared.value.End.TheVariants as end
use Rattle.lq_value.specs.declared.value.Fault.{Fault}
use Rattle.lq_value.specs.declared.value.Value.{Value}
use Rattle.lq_value.specs.declared.value.Value.TheVariants as value
use Rattle.lq_language.specs.Enumerable.{in_front}
use Rattle.lq_language.specs.Stream.{Stream, each, one, select_by, then_ending, then_stream}
use Rattle.lq_language.specs.Worlds.{World}
use Rattle.lq_tree.specs.FormMeaning.{Slots}
use Rattle.lq_tree.specs.declared.tree.Form.{Form}
use Rattle.lq_plan.specs.declared.bases.Base.{Base}
use Rattle.lq_plan.specs.Counts.{is_zero, one_less, read_first}
use Rattle.lq_plan.specs.Pipes.{items_left}
use Rattle.lq_plan.specs.PlannedRows.{kept_stream, row_cell, row_verdict}
use Rattle.lq_plan.specs.Prepared.{IsPlanned}
use Rattle.lq_plan.specs.Pulling.{item_at, last, through_stage}
use Rattle.lq_plan.specs.declared.pipes.Pipe.{Pipe}
use Rattle.lq_plan.specs.declared.stages.Stage.TheVariants as stage
use Rattle.lq_plan.proofs.PlanLaws.{planned_cell, rest_kept, row_here}
use Rattle.lq_plan.proofs.PullLaws.{item_given, left_opened}
use Rattle.lq_language.proofs.StreamLaws.{then_assoc}
use Rattle.lq_pipe.specs.Steps.{GivesStep, Steps}

-- what was made of the items before, with what comes of those that are left
module _ {A B : Type 0} (f : A → Stream B) where
  abbrev pub Comes : Stream A → Stream B → List B → Type 0
  Comes left all made = then_ending made end.Done (each f left.0 left.1) ≡ all

  at_front : (old new : Stream A) (x : A) (all : Stream B) (made : List B) → old ≡ in_front x new → Comes old all made
      → then_ending made end.Done (then_stream (f x) (each f new.0 new.1)) ≡ all
  at_front old new x all made is comes = ap (λ (s : Stream A). then_ending made end.Done (each f s.0 s.1)) (sym is) ∙ comes

  pub comes_on : (old new : Stream A) (x : A) (all : Stream B) (made more vs : List B) → old ≡ in_front x new → f x ≡ (vs, end.Done) → more ≡ made ++ vs
      → Comes old all made → Comes new all more
  comes_on old new x all made more vs is gives more_is comes =
      ap (λ l. then_ending l end.Done (each f new.0 new.1)) more_is
      ∙ sym (then_assoc made end.Done vs end.Done (each f new.0 new.1))
      ∙ ap (λ (s : Stream B). then_ending made end.Done (then_stream s (each f new.0 new.1))) (sym gives)
      ∙ at_front old new x all made is comes

  pub comes_stopped : (old new : Stream A) (x : A) (all : Stream B) (made more vs : List B) (g : Fault) → old ≡ in_front x new → f x ≡ (vs, end.Fault g)
      → more ≡ made ++ vs → Comes old all made → (more, end.Fault g) ≡ all
  comes_stopped old new x all made more vs g is gives more_is comes =
      ap (λ l. (l, end.Fault g)) more_is
      ∙ ap (λ (s : Stream B). then_ending made end.Done (then_stream s (each f new.0 new.1))) (sym gives)
      ∙ at_front old new x all made is comes

  pub comes_begins : (left all : Stream A) (made : List B) → made ≡ [] → left ≡ all → Comes left (each f all.0 all.1) made
  comes_begins left all made none is =
      ap (λ l. then_ending l end.Done (each f left.0 left.1)) none ∙ ap (λ (s : Stream A). each f s.0 s.1) is

  pub comes_ended : (old : Stream A) (all : Stream B) (made : List B) (e : End) → old ≡ ([], e) → Comes old all made → (made, e) ≡ all
  comes_ended old all made e is comes =
      ap (λ l. (l, e)) (sym (append-nil made)) ∙ ap (λ (s : Stream A). then_ending made end.Done (each f s.0 s.1)) (sym is) ∙ comes

-- the same of items that are kept as they are
module _ {A : Type 0} where
  pub drained_on : (old new all : Stream A) (x : A) (made more : List A) → old ≡ in_front x new → more ≡ made ++ x ∷ []
      → then_ending made end.Done old ≡ all → then_ending more end.Done new ≡ all
  drained_on old new all x made more is more_is goes =
      ap (λ l. (l ++ new.0, new.1)) more_is ∙ ap (λ l. (l, new.1)) (append_assoc made (x ∷ []) new.0)
      ∙ ap (λ (s : Stream A). then_ending made end.Done s) (sym is) ∙ goes

  pub drained_ended : (old all : Stream A) (made : List A) (e : End) → old ≡ ([], e) → then_ending made end.Done old ≡ all → (made, e) ≡ all
  drained_ended old all made e is goes =
      ap (λ l. (l, e)) (sym (append-nil made)) ∙ ap (λ (s : Stream A). then_ending made end.Done s) (sym is) ∙ goes

  read_at : (l less : Option ℕ) (x : A) (s : Stream A) → one_less l ≡ Some less → read_first l (in_front x s) ≡ in_front x (read_first less s)
  read_at (Some zero) less x s is = absurd (none-some less is)
  read_at (Some (suc n)) less x s is = ap (λ k. in_front x (read_first k s)) (same_Some (Some n) less is)
  read_at None less x s is = ap (λ k. in_front x (read_first k s)) (same_Some None less is)

  read_end : (l less : Option ℕ) (e : End) → one_less l ≡ Some less → read_first {A = A} l ([], e) ≡ ([], e)
  read_end (Some zero) less e is = absurd (none-some less is)
  read_end (Some (suc n)) less e is = refl
  read_end None less e is = refl

  read_none : (l : Option ℕ) (s : Stream A) → one_less l ≡ None → read_first l s ≡ ([], end.Done)
  read_none (Some zero) s is = refl
  read_none (Some (suc n)) s is = absurd (none-some (Some n) (sym is))
  read_none None s is = absurd (none-some None (sym is))

  -- the items so far, and those that are left up to a limit
  pub begins_read : (left all : Stream A) (made : List A) (l : Option ℕ) → made ≡ [] → read_first l left ≡ read_first l all
      → then_ending made end.Done (read_first l left) ≡ read_first l all
  begins_read left all made l none is = ap (λ m. then_ending m end.Done (read_first l left)) none ∙ is

  pub read_on : (old new all : Stream A) (x : A) (made more : List A) (l less : Option ℕ) → old ≡ in_front x new → more ≡ made ++ x ∷ [] → one_less l ≡ Some less
      → then_ending made end.Done (read_first l old) ≡ all → then_ending more end.Done (read_first less new) ≡ all
  read_on old new all x made more l less is more_is counts goes =
      drained_on (read_first l old) (read_first less new) all x made more (ap (read_first l) is ∙ read_at l less x new counts) more_is goes

  pub read_ended : (old all : Stream A) (made : List A) (e : End) (l less : Option ℕ) → old ≡ ([], e) → one_less l ≡ Some less
      → then_ending made end.Done (read_first l old) ≡ all → (made, e) ≡ all
  read_ended old all made e l less is counts goes = drained_ended (read_first l old) all made e (ap (read_first l) is ∙ read_end l less e counts) goes

  pub read_whole : (old all : Stream A) (made : List A) (l : Option ℕ) → one_less l ≡ None → then_ending made end.Done (read_first l old) ≡ all → (made, end.Done) ≡ all
  read_whole old all made l none goes = drained_ended (read_first l old) all made end.Done (read_none l old none) goes

  pub reads_none : (made : List A) (all : Stream A) (l : Option ℕ) → made ≡ [] → is_zero l ≡ true → (made, end.Done) ≡ read_first l all
  reads_none made all (Some zero) none at = ap (λ m. (m, end.Done)) none
  reads_none made all (Some (suc n)) none at = absurd (cc)
  reads_none made all None none at = absurd (cc)

  pub fewer : (old new : Stream A) (x : A) → old ≡ in_front x new → length new.0 < length old.0
  fewer old new x is = let same : length old.0 ≡ suc (length new.0) = ap (λ (s : Stream A). length s.0) is in omega (arith, same)

-- the same of one thing that is made of each item
module _ {A B : Type 0} (g : A → Result B Fault) where
  pub selects_begin : (left all : Stream A) (made : List B) → made ≡ [] → left ≡ all
      → then_ending made end.Done (select_by g left.0 left.1) ≡ select_by g all.0 all.1
  selects_begin left all made none is = comes_begins (λ x. one (g x)) left all made none is

  pub selects_on : (old new : Stream A) (x : A) (v : B) (all : Stream B) (made more : List B) → old ≡ in_front x new → Ok v ≡ g x → more ≡ made ++ v ∷ []
      → then_ending made end.Done (select_by g old.0 old.1) ≡ all → then_ending more end.Done (select_by g new.0 new.1) ≡ all
  selects_on old new x v all made more is gives more_is goes =
      comes_on (λ x. one (g x)) old new x all made more (v ∷ []) is (ap one (sym gives)) more_is goes

  pub selects_stopped : (old new : Stream A) (x : A) (f : Fault) (all : Stream B) (made : List B) → old ≡ in_front x new → Err f ≡ g x
      → then_ending made end.Done (select_by g old.0 old.1) ≡ all → (made, end.Fault f) ≡ all
  selects_stopped old new x f all made is gives goes =
      comes_stopped (λ x. one (g x)) old new x all made made [] f is (ap one (sym gives)) (sym (append-nil made)) goes

  pub selects_ended : (old : Stream A) (e : End) (all : Stream B) (made : List B) → old ≡ ([], e)
      → then_ending made end.Done (select_by g old.0 old.1) ≡ all → (made, e) ≡ all
  selects_ended old e all made is goes = comes_ended (λ x. one (g x)) old all made e is goes

-- ---- what is pulled by a plan

module _ {R : Type 0} (table_of : R → ℕ) (shown : R → List Scalar) (world : World R) (slots : Slots R) (pipe : Pipe) where
  -- what comes of an item of the base
  abbrev pub comes : Value R → Stream (Value R)
  comes x = through_stage world slots pipe.stage (item_at world slots pipe.source.now x)

  pub pulled : {S : Type 0} → (old new : Base R S) (x : Value R) → IsPlanned table_of shown world slots pipe.stage pipe.source.now pipe.plan
      → kept_stream table_of shown pipe.plan old ≡ in_front x (kept_stream table_of shown pipe.plan new)
      → items_left world slots pipe old ≡ then_stream (comes x) (items_left world slots pipe new)
  pulled old new x planned is =
      rest_kept table_of shown world slots pipe.stage pipe.source.now pipe.plan planned old
      ∙ ap (λ (s : Stream (Value R)). each comes s.0 s.1) is
      ∙ ap (then_stream (comes x)) (sym (rest_kept table_of shown world slots pipe.stage pipe.source.now pipe.plan planned new))

  pub next_item : {S : Type 0} → (start old new : Base R S) (x v : Value R) → IsPlanned table_of shown world slots pipe.stage pipe.source.now pipe.plan
      → items_left world slots pipe old ≡ items_left world slots pipe start
      → kept_stream table_of shown pipe.plan old ≡ in_front x (kept_stream table_of shown pipe.plan new)
      → (v ∷ [], end.Done) ≡ comes x → items_left world slots pipe start ≡ in_front v (items_left world slots pipe new)
  next_item start old new x v planned same is gives =
      sym same ∙ pulled old new x planned is ∙ ap (λ (s : Stream (Value R)). then_stream s (items_left world slots pipe new)) (sym gives)

  pub next_dropped : {S : Type 0} → (start old new : Base R S) (x : Value R) → IsPlanned table_of shown world slots pipe.stage pipe.source.now pipe.plan
      → items_left world slots pipe old ≡ items_left world slots pipe start
      → kept_stream table_of shown pipe.plan old ≡ in_front x (kept_stream table_of shown pipe.plan new)
      → ◌≡◌ {A = Stream (Value R)} ([], end.Done) (comes x) → items_left world slots pipe new ≡ items_left world slots pipe start
  next_dropped start old new x planned same is gives =
      sym (sym same ∙ pulled old new x planned is ∙ ap (λ (s : Stream (Value R)). then_stream s (items_left world slots pipe new)) (sym gives))

  pub next_fault : {S : Type 0} → (start old new : Base R S) (x : Value R) (f : Fault) → IsPlanned table_of shown world slots pipe.stage pipe.source.now pipe.plan
      → items_left world slots pipe old ≡ items_left world slots pipe start
      → kept_stream table_of shown pipe.plan old ≡ in_front x (kept_stream table_of shown pipe.plan new)
      → ◌≡◌ {A = Stream (Value R)} ([], end.Fault f) (comes x) → ◌≡◌ {A = Stream (Value R)} (items_left world slots pipe start) ([], end.Fault f)
  next_fault start old new x f planned same is gives =
      sym same ∙ pulled old new x planned is ∙ ap (λ (s : Stream (Value R)). then_stream s (items_left world slots pipe new)) (sym gives)

  pub next_ended : {S : Type 0} → (start old : Base R S) (e : End) → IsPlanned table_of shown world slots pipe.stage pipe.source.now pipe.plan
      → items_left world slots pipe old ≡ items_left world slots pipe start → kept_stream table_of shown pipe.plan old ≡ ([], e)
      → ◌≡◌ {A = Stream (Value R)} (items_left world slots pipe start) ([], e)
  next_ended start old e planned same is =
      sym same ∙ rest_kept table_of shown world slots pipe.stage pipe.source.now pipe.plan planned old ∙ ap (λ (s : Stream (Value R)). each comes s.0 s.1) is

  -- what comes of an item settles the step
  pub next_given : {S E : Type 0} → (start old new : Base R S) (x : Value R) (answer : Result (Result (Value R) End) E)
      → IsPlanned table_of shown world slots pipe.stage pipe.source.now pipe.plan → items_left world slots pipe old ≡ items_left world slots pipe start
      → kept_stream table_of shown pipe.plan old ≡ in_front x (kept_stream table_of shown pipe.plan new)
      → IfOk answer (GivesStep (comes x)) → IfOk answer (λ step. Steps (items_left world slots pipe start) step (items_left world slots pipe new))
  next_given start old new x (Ok (Ok v)) planned same is gives = next_item start old new x v planned same is (sym gives)
  next_given start old new x (Ok (Err (end.Fault f))) planned same is gives = next_fault start old new x f planned same is (sym gives)
  next_given start old new x (Ok (Err end.Done)) planned same is gives = absurd gives
  next_given start old new x (Err e) planned same is gives = tt

  -- the cell that was planned is what the lambda gives of a row that passes
  pub row_selected : (body : Bor Form) (r : R) (s s' : Scalar) → pipe.stage ≡ stage.Select body → IsPlanned table_of shown world slots pipe.stage pipe.source.now pipe.plan
      → row_verdict table_of shown pipe.plan r ≡ Some true
      → row_cell table_of shown pipe.plan r ≡ Some s → s' ≡ s → ◌≡◌ {A = Stream (Value R)} (last world slots pipe.stage (value.Row r)) (value.Scalar s' ∷ [], end.Done)
  row_selected body r s s' is planned passes cell same =
      ap (λ k. last world slots k (value.Row r)) is
      ∙ ap (λ (m : Result (Value R) Fault). then_stream (one m) ([], end.Done))
      (planned_cell table_of shown world slots body pipe.source.now pipe.plan r s (subst (λ k. IsPlanned table_of shown world slots k pipe.source.now pipe.plan) is planned) (row_here table_of shown pipe.plan r true passes) cell)
      ∙ ap (λ (x : Scalar). (value.Scalar x ∷ [], end.Done)) (sym same)

pub ruleset next_steps = (next_item, next_dropped, next_fault, next_ended, fewer)

pub ruleset reads = (left_opened, reads_none, begins_read, read_on, read_ended, read_whole, fewer)

pub ruleset expands = (left_opened, comes_begins, comes_on, comes_stopped, comes_ended)

pub ruleset selects = (left_opened, selects_begin, selects_on, selects_stopped, selects_ended, fewer)

pub ruleset row_gives = (row_selected, item_given)
