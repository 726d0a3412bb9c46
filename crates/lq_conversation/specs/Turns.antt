-- Inputs, one after another.
use Rattle.std.specs.Prelude.{◌≡◌, ◌+◌, ◌∷◌, ◌++◌, List, [], ℕ, Bool, false, Option, length}
use Rattle.lq_command.specs.Inputs.{IsInput}
use Rattle.lq_command.specs.Readers.{Takes}
use Rattle.lq_command.specs.declared.input.Input.{Input}
use Rattle.lq_prompt.specs.Answers.{DeskState}
use Rattle.lq_conversation.specs.Outcomes.{Outcome, goes_on}

-- the reader gave these inputs one after another, and no other
abbrev pub Gives : Option (List ℕ) → Option (List ℕ) → Bool → Bool → List Input → Type 0
Gives known left was_ended ended [] = (left ≡ known) × (ended ≡ was_ended)
Gives known left was_ended ended (given ∷ more) =
    (mid : Option (List ℕ)) × (met : Bool) × Takes known mid was_ended met given × Gives mid left met ended more

-- these inputs are what the first of these lines give, one each, and these lines are left
abbrev pub Begins : List (List ℕ) → List (List ℕ) → List Input → Type 0
Begins lines left [] = left ≡ lines
Begins [] left (given ∷ more) = ⊥
Begins (line ∷ lines) left (given ∷ more) = IsInput line given × Begins lines left more

-- Each input is answered by one step, in order, and what is written is what is written of each, in that order. All but the last leave the
-- conversation going on.
abbrev pub InOrder : (Input → DeskState → DeskState → List ℕ → Outcome → Type 0) → List Input → DeskState → DeskState → List ℕ → Outcome → Type 0
InOrder Step [] old new written outcome = (new ≡ old) × (written ≡ []) × (outcome ≡ goes_on)
InOrder Step (given ∷ []) old new written outcome = Step given old new written outcome
InOrder Step (given ∷ second ∷ more) old new written outcome =
    (mid : DeskState) × (first : List ℕ) × (later : List ℕ) × (written ≡ first ++ later)
    × Step given old mid first goes_on × InOrder Step (second ∷ more) mid new later outcome

-- The inputs are those that the reader gave, all of them and none twice, as many as it counted, and each is answered by one step, in order.
pub record AnswersEach (Step : Input → DeskState → DeskState → List ℕ → Outcome → Type 0) (known left : Option (List ℕ)) (ended : Bool)
    (from upto : ℕ) (old new : DeskState) (written : List ℕ) (outcome : Outcome) : Type 0 where
  pub inputs : List Input
  pub given : Gives known left false ended inputs
  pub counted : upto ≡ from + length inputs
  pub answers : InOrder Step inputs old new written outcome
