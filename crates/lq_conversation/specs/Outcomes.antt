-- How an answer leaves a conversation.
use Rattle.std.specs.Prelude.{◌≡◌, ◌++◌, List, ℕ, Bool, true, false}

-- the next input is answered, or the desk has ended, or the writer has failed
pub data Outcome : Type 0 where
  goes_on : Outcome
  has_ended : Outcome
  has_failed : Outcome

abbrev pub outcome_of : Bool → Outcome
outcome_of true = has_ended
outcome_of false = goes_on

-- a sentence is written, or the first of it by a writer that fails
abbrev pub Tells : List ℕ → List ℕ → Outcome → Type 0
Tells text written goes_on = written ≡ text
Tells text written has_ended = ⊥
Tells text written has_failed = (rest : List ℕ) × (text ≡ written ++ rest)
