-- Values that are truth values.
use Rattle.std.specs.Prelude.{◌≡◌, List, Bool, true, not, Result, Ok, Err}
use Rattle.std.specs.List.{list_any}
use Rattle.std.specs.declared.alloc.AllocError.{AllocError}
use Rattle.lq_value.specs.declared.value.Fault.{Fault}
use Rattle.lq_value.specs.declared.value.Value.{Value}
use Rattle.lq_language.specs.Worlds.{World}
use Rattle.lq_language.specs.Meaning.{as_truth}
use Rattle.lq_plan.specs.Meanings.{truth_in}

abbrev pub is_not_true : Result Bool Fault → Bool
is_not_true (Ok b) = not b
is_not_true (Err f) = true

module _ {R : Type 0} (world : World R) where
  -- the truth value that a value is
  abbrev pub truth_of_value : Value R → Result Bool Fault
  truth_of_value v = truth_in world (Ok v)

  -- whether one of these values isn't true
  abbrev pub has_untrue : List (Value R) → Bool
  has_untrue values = list_any (λ v. is_not_true (truth_of_value v)) values

-- a truth value that is found, or its fault, is answered as a value; and a refusal of memory is one
abbrev pub IsTruth : {R : Type 0} → Result (Result Bool Fault) AllocError → Result (Result (Value R) Fault) AllocError → Type 0
IsTruth (Ok truth) (Ok found) = found ≡ as_truth truth
IsTruth (Err e) (Err d) = Unit {0}
IsTruth found result = ⊥
