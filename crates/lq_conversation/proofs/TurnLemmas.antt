-- Lemmas on inputs that are answered one after another.
use Rattle.std.proofs.Common.{◌≡◌, ◌+◌, ℕ, Bool, false, List, [], ◌∷◌, ◌++◌, Option, length-append, add-zero, refl, sym, ◌∙◌, ap, subst, append_assoc, arith}
use Rattle.lq_command.specs.Readers.{Takes}
use Rattle.lq_command.specs.declared.input.Input.{Input}
use Rattle.lq_prompt.specs.Answers.{DeskState}
use Rattle.lq_conversation.specs.Outcomes.{Outcome, goes_on}
use Rattle.lq_conversation.specs.Turns.{AnswersEach, Gives, InOrder}
use Rattle.lq_conversation.specs.Writers.{Receives}
use Rattle.lq_conversation.proofs.WriterLemmas.{Receives-more, Receives-none}

-- one more input was given
pub Gives-more : (known mid left : Option (List ℕ)) (was met ended : Bool) (inputs : List Input) (last : Input)
    → Gives known mid was met inputs → Takes mid left met ended last → Gives known left was ended (inputs ++ last ∷ [])
Gives-more known mid left was met ended [] last given takes =
    (left, ended, subst (λ k. Takes k left was ended last) given.0 (subst (λ e. Takes mid left e ended last) given.1 takes), (refl, refl))
Gives-more known mid left was met ended (first ∷ inputs) last given takes =
    (given.0, given.1, given.2, Gives-more given.0 mid left given.1 met ended inputs last given.3 takes)

module _ (Step : Input → DeskState → DeskState → List ℕ → Outcome → Type 0) where
  -- one more input was answered
  pub InOrder-more : (inputs : List Input) (last : Input) (old mid new : DeskState) (first later : List ℕ) (outcome : Outcome)
      → InOrder Step inputs old mid first goes_on → Step last mid new later outcome → InOrder Step (inputs ++ last ∷ []) old new (first ++ later) outcome
  InOrder-more [] last old mid new first later outcome before step =
      let same : first ++ later ≡ later = ap (λ l. l ++ later) before.1 in
      subst (λ d. Step last d new (first ++ later) outcome) before.0 (subst (λ l. Step last mid new l outcome) (sym same) step)
  InOrder-more (given ∷ []) last old mid new first later outcome before step = (mid, first, later, refl, before, step)
  InOrder-more (given ∷ second ∷ more) last old mid new first later outcome before step = (
    before.0,
    before.1,
    before.2 ++ later,
    ap (λ l. l ++ later) before.3 ∙ append_assoc before.1 before.2 later,
    before.4,
    InOrder-more (second ∷ more) last before.0 mid new before.2 later outcome before.5 step,
  )

  -- no input was given
  pub Each-start : (known left : Option (List ℕ)) (ended : Bool) (from : ℕ) (desk : DeskState) (contents : Option (List ℕ)) → left ≡ known → ended ≡ false
      → Receives contents contents (λ bytes. AnswersEach Step known left ended from from desk desk bytes goes_on)
  Each-start known left ended from desk contents same open_ended =
      Receives-none contents (record { inputs = []; given = (same, open_ended); counted = sym (add-zero from); answers = (refl, refl, refl) })

  AnswersEach-more : (known mid left : Option (List ℕ)) (met ended : Bool) (from count upto : ℕ) (old now new : DeskState) (first later : List ℕ) (given : Input) (outcome : Outcome)
      → AnswersEach Step known mid met from count old now first goes_on → Takes mid left met ended given → upto ≡ count + 1 → Step given now new later outcome
      → AnswersEach Step known left ended from upto old new (first ++ later) outcome
  AnswersEach-more known mid left met ended from count upto old now new first later given outcome each takes counted step = record {
    inputs = each.inputs ++ given ∷ [];
    given = Gives-more known mid left false met ended each.inputs given each.given takes;
    counted = omega (arith, counted, each.counted, length-append each.inputs (given ∷ []));
    answers = InOrder-more each.inputs given old now new first later outcome each.answers step;
  }

  -- one more was given and answered
  pub Each-more : (known mid left : Option (List ℕ)) (met ended : Bool) (from count upto : ℕ) (old now new : DeskState) (before between after : Option (List ℕ)) (given : Input) (outcome : Outcome)
      → Receives before between (λ bytes. AnswersEach Step known mid met from count old now bytes goes_on) → Takes mid left met ended given → upto ≡ count + 1
      → Receives between after (λ bytes. Step given now new bytes outcome)
      → Receives before after (λ bytes. AnswersEach Step known left ended from upto old new bytes outcome)
  Each-more known mid left met ended from count upto old now new before between after given outcome way takes counted step =
      Receives-more before between after (λ first later each one. AnswersEach-more known mid left met ended from count upto old now new first later given outcome each takes counted one) way step
