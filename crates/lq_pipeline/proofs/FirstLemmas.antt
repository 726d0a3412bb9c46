-- First pulls, as steps from where a pipe starts.
use Rattle.std.proofs.Common.{◌≡◌, List, [], ℕ, Bool, true, Option, Some, Result, IfOk, ap, ◌∙◌, sym, subst}
use Rattle.std.specs.declared.alloc.AllocError.{AllocError}
use Rattle.lq_value.specs.declared.value.Fault.{Fault}
use Rattle.lq_value.specs.declared.value.Value.{Value}
use Rattle.lq_host.specs.declared.call.Call.{Call}
use Rattle.lq_language.specs.TableRows.{TableRow}
use Rattle.lq_language.specs.Worlds.{World}
use Rattle.lq_tree.specs.Watches.{RowFacts, Watch}
use Rattle.lq_tree.specs.declared.tree.Form.{Form}
use Rattle.lq_plan.specs.Counts.{read_first}
use Rattle.lq_plan.specs.Handing.{handed_out, rows_to_come}
use Rattle.lq_plan.specs.Pulling.{base_stream, items_at}
use Rattle.lq_plan.specs.declared.bases.Base.{Base}
use Rattle.lq_pull.specs.declared.readers.Reader.{Reader}
use Rattle.lq_pipeline.specs.Chains.{comes_at, items_of_result, rows_at}
use Rattle.lq_pipeline.specs.Heads.{at_once, needs_of, one_by_one}
use Rattle.lq_pipeline.specs.Places.{Place, covers_beside, start_of}
use Rattle.lq_pipeline.specs.Reading.{Reads, covers_chain}
use Rattle.lq_pipeline.specs.Standings.{AnswersWith, Pulled, place_of, rows_place}
use Rattle.lq_pipeline.specs.declared.steps.Opened.{Opened}
use Rattle.lq_pipeline.specs.declared.steps.Step.{Step}
use Rattle.lq_pipeline.proofs.PipeLemmas.{passes_more, value_read}

module _ (world : World TableRow) (facts : RowFacts TableRow) (f a : Form) (n : ℕ) (base : Base TableRow Reader) (rows : rows_to_come base ≡ rows_at world n)
    (none : handed_out base ≡ 0) (log : List Call) where
  -- item by item
  pub first_rows : (limit : Option ℕ) → (record { left = read_first limit (items_at world [] a (base_stream base)); needs = one_by_one world a limit (rows_at world n) }) ≡ start_of world f
      → ((w : Watch TableRow) → covers_beside world f w ≡ true → covers_chain world a w ≡ true)
      → (answer : Result (Step TableRow) AllocError) (new : Option (Place TableRow)) (m : ℕ) (more : List Call)
      → Pulled world facts (covers_chain world a) (rows_place world a limit (Some base)) (handed_out base) log answer new m more
      → Pulled world facts (covers_beside world f) (start_of world f) 0 log answer new m more
  first_rows limit start covers answer new m more pulled =
      let at_first : rows_place world a limit (Some base) ≡ start_of world f =
      (λ i. record { left = read_first limit (items_at world [] a (base_stream base)); needs = one_by_one world a limit (rows i) }) ∙ start in
      passes_more world f facts (covers_beside world f) (covers_chain world a) covers (start_of world f) 0 log answer new m more
      (subst (λ (p : Place TableRow × ℕ). Pulled world facts (covers_chain world a) p.0 p.1 log answer new m more) (λ i. (at_first i, none i)) pulled)

  -- or one value
  pub first_found : (test : Watch TableRow → Bool) (decide : List (Value TableRow) → Bool) → needs_of world f ≡ at_once world a decide (rows_at world n)
      → ((w : Watch TableRow) → covers_beside world f w ≡ true → test w ≡ true)
      → (found : Result (Result (Value TableRow) Fault) AllocError) (answer : Result (Step TableRow) AllocError) (new : Opened) (left : List TableRow) (m : ℕ) (more : List Call)
      → IfOk found (λ v. (start_of world f).left ≡ items_of_result v)
      → Reads world facts test (comes_at world a) decide (rows_to_come base) (handed_out base) log found left m more
      → AnswersWith world f found answer new
      → Pulled world facts (covers_beside world f) (start_of world f) 0 log answer (place_of world f new) m more
  first_found test decide needs covers found answer new left m more means reads answers =
      passes_more world f facts (covers_beside world f) test covers (start_of world f) 0 log answer (place_of world f new) m more
      (subst (λ (k : ℕ). Pulled world facts test (start_of world f) k log answer (place_of world f new) m more) none
      (value_read world facts test f a decide (start_of world f) (rows_to_come base) left (handed_out base) m log more found answer new
      (needs ∙ ap (at_once world a decide) (sym rows)) means reads answers))
