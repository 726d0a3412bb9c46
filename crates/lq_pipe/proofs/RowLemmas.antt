-- Rows whose numbers are kept one by one, where a condition is true on them.
use Rattle.std.proofs.Common.{◌≡◌, ◌∷◌, ◌++◌, ◌∙◌, List, [], map, ℕ, Bool, true, false, Some, Result, Ok, Err, ap, sym, refl, append-nil, append_assoc}
use Rattle.std.specs.Cmp.{first_so, second_so}
use Rattle.std.specs.List.{list_all}
use Rattle.lq_value.specs.declared.scalar.Scalar.{Scalar}
use Rattle.lq_value.specs.declared.value.End.{End}
use Rattle.lq_value.specs.declared.value.End.TheVariants as end
use Rattle.lq_value.specs.declared.value.Fault.{Fault}
use Rattle.lq_language.specs.Stream.{Stream, item_where, then_stream, where_by}
use Rattle.lq_language.specs.Worlds.{World}
use Rattle.lq_tree.specs.declared.tree.Form.{Form}
use Rattle.lq_pipe.specs.Conditions.{holds_on, selection_with}
use Rattle.lq_plan.specs.PlannedRows.{row_verdict}
use Rattle.lq_plan.specs.Prepared.{Decides}
use Rattle.lq_plan.specs.declared.plans.Plan.{Plan}
use Rattle.lq_plan.proofs.PlanLaws.{row_meant}

-- the numbers so far, with those of a stream of rows behind them
abbrev pub numbers_then : {A : Type 0} → (A → ℕ) → List ℕ → Stream A → List ℕ × End
numbers_then number found s = (found ++ map number s.0, s.1)

module _ {A : Type 0} (holds : A → Result Bool Fault) (number : A → ℕ) where
  abbrev those : List A → Stream A
  those rows = where_by holds rows end.Done

  -- the numbers so far, with those of the rows that are left, are those of all rows
  abbrev pub KeepsNumbers : List A → List ℕ → List A → Type 0
  KeepsNumbers rows found left = numbers_then number found (those left) ≡ numbers_then number [] (those rows)

  -- at first
  pub numbers_begun : (rows : List A) → KeepsNumbers rows [] rows
  numbers_begun rows = refl

  -- behind a row on which the condition is true, and behind another
  pub number_kept : (rows left further : List A) (found more : List ℕ) (x : A) (b : Bool) → left ≡ x ∷ further → Ok b ≡ holds x
      → more ≡ selection_with b (number x) found → KeepsNumbers rows found left → KeepsNumbers rows more further
  number_kept rows left further found more x true is gives more_is keeps =
      ap (λ (l : List ℕ). numbers_then number l (those further)) more_is
      ∙ (λ i. (append_assoc found (number x ∷ []) (map number (those further).0) i, (those further).1))
      ∙ ap (λ (t : Result Bool Fault). numbers_then number found (then_stream (item_where t x) (those further))) gives
      ∙ ap (λ (l : List A). numbers_then number found (those l)) (sym is) ∙ keeps
  number_kept rows left further found more x false is gives more_is keeps =
      ap (λ (l : List ℕ). numbers_then number l (those further)) more_is
      ∙ ap (λ (t : Result Bool Fault). numbers_then number found (then_stream (item_where t x) (those further))) gives
      ∙ ap (λ (l : List A). numbers_then number found (those l)) (sym is) ∙ keeps

  -- a fault is their ending
  pub numbers_stopped : (rows left further : List A) (found : List ℕ) (x : A) (f : Fault) → left ≡ x ∷ further → Err f ≡ holds x
      → KeepsNumbers rows found left → (found, end.Fault f) ≡ numbers_then number [] (those rows)
  numbers_stopped rows left further found x f is gives keeps =
      ap (λ (l : List ℕ). (l, end.Fault f)) (sym (append-nil found))
      ∙ ap (λ (t : Result Bool Fault). numbers_then number found (then_stream (item_where t x) (those further))) gives
      ∙ ap (λ (l : List A). numbers_then number found (those l)) (sym is) ∙ keeps

  -- and none is left
  pub numbers_ended : (rows left : List A) (found : List ℕ) → left ≡ [] → KeepsNumbers rows found left
      → (found, end.Done) ≡ numbers_then number [] (those rows)
  numbers_ended rows left found none keeps =
      ap (λ (l : List ℕ). (l, end.Done)) (sym (append-nil found))
      ∙ ap (λ (l : List A). numbers_then number found (those l)) (sym none) ∙ keeps

module _ {A : Type 0} (q : A → Bool) where
  -- where all that is left passes, the next does, and what is left behind it
  pub next_passed : (left further : List A) (x : A) → left ≡ x ∷ further → list_all q left ≡ true → q x ≡ true
  next_passed left further x is h = first_so (q x) (list_all q further) (ap (list_all q) (sym is) ∙ h)

  pub others_passed : (left further : List A) (x : A) → left ≡ x ∷ further → list_all q left ≡ true → list_all q further ≡ true
  others_passed left further x is h = second_so (q x) (list_all q further) (ap (list_all q) (sym is) ∙ h)

pub ruleset keeps_numbers = (numbers_begun, number_kept, numbers_ended, next_passed, others_passed)

-- what a plan says of a row is what the condition is there
module _ {R : Type 0} (table_of : R → ℕ) (shown : R → List Scalar) (world : World R) where
  pub row_decided : (plan : Plan) (condition : Form) (r : R) (b : Bool) → Decides table_of shown world [] plan.table condition plan.condition → row_verdict table_of shown plan r ≡ Some b
      → Ok b ≡ holds_on world condition r
  row_decided plan condition r b decides is = sym (row_meant table_of shown world [] plan condition r b decides is)
