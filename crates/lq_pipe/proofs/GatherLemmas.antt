-- First items and groups that are gathered as items are pulled.
use Rattle.std.proofs.Common.{◌≡◌, ◌∷◌, ◌++◌, List, [], ℕ, Bor, true, Some, Result, Ok, Err, IfOk, ap, ◌∙◌, sym, refl, subst, append-nil}
use Rattle.std.specs.Cmp.{first_so}
use Rattle.lq_value.specs.SameAndOrder.{same_values}
use Rattle.lq_value.specs.declared.scalar.Scalar.{Scalar}
use Rattle.lq_value.specs.declared.value.End.{End}
use Rattle.lq_value.specs.declared.value.End.TheVariants as end
use Rattle.lq_value.specs.declared.value.Fault.{Fault}
use Rattle.lq_value.specs.declared.value.Value.{Value}
use Rattle.lq_value.specs.declared.value.Value.TheVariants as value
use Rattle.lq_language.specs.Enumerable.{in_front}
use Rattle.lq_language.specs.OperandMeaning.{sequence}
use Rattle.lq_language.specs.Stream.{Stream, both, first_keys, one, then_ending, then_stream}
use Rattle.lq_language.specs.Worlds.{World}
use Rattle.lq_language.proofs.StreamLaws.{then_assoc}
use Rattle.lq_tree.specs.FormMeaning.{Slots, form_meaning, with_item}
use Rattle.lq_host.specs.declared.call.Call.{Call}
use Rattle.lq_tree.specs.Watches.{HasGrown, RowFacts, Watch, has_watched_rows, have_watched_rows}
use Rattle.lq_tree.specs.declared.tree.Form.{Form}
use Rattle.lq_tree.proofs.LogLaws.{front_passes}
use Rattle.lq_plan.specs.PlannedRows.{kept_stream, row_cell, row_verdict}
use Rattle.lq_plan.specs.Prepared.{IsPlanned, SelectsScalar}
use Rattle.lq_plan.specs.Pulling.{item_at, last, through_stage}
use Rattle.lq_plan.specs.Watching.{is_covered_pipe}
use Rattle.lq_plan.specs.declared.bases.Base.{Base}
use Rattle.lq_plan.specs.declared.pipes.Pipe.{Pipe}
use Rattle.lq_plan.proofs.PlanLaws.{item_planned, row_here}
use Rattle.lq_plan.proofs.PullLaws.{cell_given, cell_last, each_then}
use Rattle.lq_plan.proofs.WatchLaws.{comes_passing, slots_pass, source_covered, stage_covered}
use Rattle.lq_pipe.specs.Gathering.{AddsPairs, Gathers}
use Rattle.lq_pipe.specs.Items.{keys_and_elements}
use Rattle.lq_pipe.specs.Steps.{GivesStep}
use Rattle.lq_pipe.proofs.LogLemmas.{Covers, Keeps, asked, took}

-- ---- what is gathered

module _ {A B : Type 0} (of : List A → B) where
  -- what was gathered is that of the things so far, and those that are left come behind these
  pub record Gathered (now : B) (left all : Stream A) : Type 0 where
    pub done : List A
    pub is : now ≡ of done
    pub goes : then_ending done end.Done left ≡ all

  -- it comes to this, and so it ends
  abbrev pub Comes : B → End → Stream A → Type 0
  Comes now e all = (now ≡ of all.0) × (e ≡ all.1)

  pub gathered_begins : (left all : Stream A) (now : B) → now ≡ of [] → left ≡ all → Gathered now left all
  gathered_begins left all now none is = record { done = []; is = none; goes = is }

  -- more of it comes
  pub gathered_on : (old made new all : Stream A) (now more : B) → old ≡ then_stream made new → Gathers of now more made end.Done → Gathered now old all
      → Gathered more new all
  gathered_on old made new all now more is adds h =
      record {
        done = h.done ++ made.0;
        is = adds.1 h.done h.is;
        goes = sym (then_assoc h.done end.Done made.0 end.Done new)
            ∙ ap (λ (e : End). then_ending h.done end.Done (then_ending made.0 e new)) (sym adds.0)
            ∙ ap (λ (s : Stream A). then_ending h.done end.Done s) (sym is) ∙ h.goes;
      }

  comes_by : (now : B) (done : List A) (e : End) (all : Stream A) → now ≡ of done → (done, e) ≡ all → Comes now e all
  comes_by now done e all is ends = (is ∙ ap (λ (s : Stream A). of s.0) ends, ap (λ (s : Stream A). s.1) ends)

  -- what comes ends in a fault
  pub gathered_stopped : (old made new all : Stream A) (now more : B) (f : Fault) → old ≡ then_stream made new → Gathers of now more made (end.Fault f)
      → Gathered now old all → Comes more (end.Fault f) all
  gathered_stopped old made new all now more f is adds h =
      comes_by more (h.done ++ made.0) (end.Fault f) all (adds.1 h.done h.is)
      (ap (λ (e : End). then_ending h.done end.Done (then_ending made.0 e new)) (sym adds.0)
      ∙ ap (λ (s : Stream A). then_ending h.done end.Done s) (sym is) ∙ h.goes)

  -- no more comes
  pub gathered_ended : (old all : Stream A) (now : B) (e : End) → old ≡ ([], e) → Gathered now old all → Comes now e all
  gathered_ended old all now e is h =
      comes_by now h.done e all h.is
      (ap (λ (l : List A). (l, e)) (sym (append-nil h.done)) ∙ ap (λ (s : Stream A). then_ending h.done end.Done s) (sym is) ∙ h.goes)

  -- nothing comes
  pub gathers_none : (now : B) (made : Stream A) (e : End) → made ≡ ([], e) → Gathers of now now made e
  gathers_none now made e is =
      subst (λ (s : Stream A). Gathers of now now s e) (sym is) (refl, λ done now_is. now_is ∙ ap of (sym (append-nil done)))

  -- the same of a stream that is this one
  pub gathers_as : {E : Type 0} (now more : B) (s made : Stream A) (answer : Result End E) → made ≡ s → IfOk answer (Gathers of now more s)
      → IfOk answer (Gathers of now more made)
  gathers_as now more s made answer is h = subst (λ (t : Stream A). IfOk answer (Gathers of now more t)) (sym is) h

-- what is answered of first items
pub firsts_answered : {R : Type 0} → (now found : List (Value R)) (e : End) (all : Stream (Value R)) → found ≡ now → Comes (first_keys same_values) now e all
    → ◌≡◌ {A = Result (Value R) Fault} (Ok (sequence (first_keys same_values all.0, all.1))) (Ok (value.Seq found e))
firsts_answered now found e all found_is h = λ i. Ok (value.Seq (sym (found_is ∙ h.0) i) (sym h.1 i))

-- ---- the keys of items, and their elements

module _ {R : Type 0} (world : World R) (slots : Slots R) (key : Form) (element : Bor Form) where
  abbrev pairs : Stream (Value R) → Stream (Value R × Value R)
  pairs = keys_and_elements world slots key (Some element)

  -- those of a stream and of what comes behind it
  pub pairs_then : (old made new : Stream (Value R)) → old ≡ then_stream made new → pairs old ≡ then_stream (pairs made) (pairs new)
  pairs_then old made new is =
      ap pairs is ∙ each_then (λ x. one (both (form_meaning world key (with_item world slots x)) (form_meaning world element.now (with_item world slots x)))) made.0 made.1 new

  pub pairs_as : (s t : Stream (Value R)) → s ≡ t → pairs s ≡ pairs t
  pairs_as s t is = ap pairs is

  pub pairs_end : (now : List (Value R × List (Value R))) (made : Stream (Value R)) (e : End) → GivesStep made (Err e) → AddsPairs now now (pairs made) e
  pairs_end now made (end.Fault f) is = gathers_none _ now (pairs made) (end.Fault f) (ap pairs is)
  pairs_end now made end.Done is = absurd is

  pub pairs_none : (now : List (Value R × List (Value R))) (made : Stream (Value R)) (e : End) → ([], e) ≡ made → AddsPairs now now (pairs made) e
  pairs_none now made e is = gathers_none _ now (pairs made) e (ap pairs (sym is))

-- ---- what a plan gives of rows and items

module _ {R : Type 0} (table_of : R → ℕ) (shown : R → List Scalar) (world : World R) (slots : Slots R) (pipe : Pipe) where
  -- the scalar that the stage gives of an item is what comes of one that goes through no other stage
  pub scalar_comes : (x : Value R) (s : Scalar) (v : Value R) → SelectsScalar world slots pipe.stage x s → item_at world slots pipe.source.now x ≡ (x ∷ [], end.Done)
      → v ≡ value.Scalar s → ◌≡◌ {A = Stream (Value R)} (v ∷ [], end.Done) (through_stage world slots pipe.stage (item_at world slots pipe.source.now x))
  scalar_comes x s v gives bare is =
      ap (λ (y : Value R). (y ∷ [], end.Done)) is ∙ sym (cell_given world slots pipe.stage x s gives) ∙ ap (through_stage world slots pipe.stage) (sym bare)

  -- the cell that was planned is what comes of a row that passes
  pub cell_comes : (r : R) (cell : Bor Scalar) → IsPlanned table_of shown world slots pipe.stage pipe.source.now pipe.plan
      → row_verdict table_of shown pipe.plan r ≡ Some true → Some cell.now ≡ row_cell table_of shown pipe.plan r
      → ◌≡◌ {A = Stream (Value R)} (last world slots pipe.stage (value.Row r)) (value.Scalar cell.now ∷ [], end.Done)
  cell_comes r cell planned passes is =
      cell_last world slots pipe.stage (value.Row r) cell.now
      (item_planned table_of shown world slots pipe.stage pipe.source.now pipe.plan r (Some cell) planned (row_here table_of shown pipe.plan r true passes) is)

  -- what comes of a watched item is watched
  pub came_watched : (w : Watch R) (x v : Value R) → is_covered_pipe world w slots pipe ≡ true → has_watched_rows w x ≡ true
      → ◌≡◌ {A = Stream (Value R)} (v ∷ [], end.Done) (through_stage world slots pipe.stage (item_at world slots pipe.source.now x)) → has_watched_rows w v ≡ true
  came_watched w x v covered passes is =
      first_so (has_watched_rows w v) true
      (ap (λ (s : Stream (Value R)). have_watched_rows w s.0) is
      ∙ comes_passing world w slots (slots_pass table_of shown world w slots pipe covered) pipe.stage pipe.source.now (stage_covered table_of shown world w slots pipe covered)
      (source_covered table_of shown world w slots pipe covered) x passes)

-- ---- calls

module _ {R S : Type 0} (world : World R) (facts : RowFacts R) (table_of : R → ℕ) (shown : R → List Scalar) (slots : Slots R) (pipe : Pipe)
    (P : Watch R → Type 0) (into : (w : Watch R) → P w → Covers world slots pipe w) where
  -- an item is taken, and more is asked for it than the pipe asks
  pub took_asked : (log more further : List Call) (old new : Base R S) (x : Value R) → Keeps world facts table_of shown slots pipe P log more old
      → kept_stream table_of shown pipe.plan old ≡ in_front x (kept_stream table_of shown pipe.plan new)
      → ((w : Watch R) (start : List Call) → P w → has_watched_rows w x ≡ true → HasGrown world facts w start more → HasGrown world facts w start further)
      → Keeps world facts table_of shown slots pipe P log further new
  took_asked log more further old new x k is step =
      asked world facts table_of shown slots pipe P log more further new
      (took world facts table_of shown slots pipe P into log more more old new x k is (λ w start c i gr. gr))
      (λ w start p gr. step w start p (front_passes w (kept_stream table_of shown pipe.plan old) (kept_stream table_of shown pipe.plan new) x is (k.left w p)) gr)
