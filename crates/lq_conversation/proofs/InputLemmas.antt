-- Lemmas on what is written of an answer.
use Rattle.std.proofs.Common.{◌≡◌, ℕ, List, Option, Result, Ok, Err, IfOk, OnErr, String, Global, string_bytes, refl, sym, subst}
use Rattle.std.specs.declared.alloc.AllocError.{AllocError}
use Rattle.std.specs.Io.KnownBytes.{Appends}
use Rattle.lq_command.specs.declared.input.Input.{Input}
use Rattle.lq_prompt.specs.Answers.{DeskState}
use Rattle.lq_prompt.specs.Desks.{AnswersLine}
use Rattle.lq_prompt.specs.declared.answer.Answer.{Answer}
use Rattle.lq_serve.specs.Devices.{AppendsFront}
use Rattle.lq_serve.specs.declared.serve_error.WriteFailed.{WriteFailed}
use Rattle.lq_conversation.specs.Inputs.{AnswersBy, AnswersInput, AnswersOnce, IsGiven, Running, cuts, left_after, quits, runs, said_of, says}
use Rattle.lq_conversation.specs.Outcomes.{Outcome, goes_on, has_ended, has_failed}
use Rattle.lq_conversation.specs.Writers.{IsCutShort, Receives}
use Rattle.lq_conversation.specs.declared.next.Next.{Next}
use Rattle.lq_conversation.specs.declared.next.Next.TheVariants as next
use Rattle.lq_conversation.proofs.WriterLemmas.{Receives-front, Receives-more, Receives-weaker}

-- what the desk gave for a line was written, whole or in part
module _ (line : List ℕ) (old new : DeskState) (given : Result Answer AllocError) (is : IsGiven line old new given) (before after : Option (List ℕ)) where
  pub given-all : (r : Result Next WriteFailed) → IfOk r (λ left. (left ≡ left_after given) × Appends before after (said_of given))
      → IfOk r (λ left. Receives before after (λ bytes. AnswersOnce line old new bytes left))
  given-all (Ok left) wrote =
      record { bytes = said_of given; took = wrote.1; is_meant = record { given = given; is_given = is; is_written = refl; is_left = wrote.0 } }
  given-all (Err e) wrote = tt

  pub given-front : (r : Result Next WriteFailed) → OnErr r ((left_after given ≡ next.Line) × AppendsFront before after (said_of given))
      → OnErr r (Receives before after (IsCutShort (λ bytes. AnswersOnce line old new bytes next.Line)))
  given-front (Ok left) wrote = tt
  given-front (Err e) wrote =
      Receives-front (λ bytes. AnswersOnce line old new bytes next.Line) before after (said_of given) wrote.1 (record { given = given; is_given = is; is_written = refl; is_left = sym wrote.0 })

pub is_given : (line : List ℕ) (old new : DeskState) (given : Result Answer AllocError) → IfOk given (AnswersLine line old new) → OnErr given (new ≡ old) → IsGiven line old new given
is_given line old new (Ok answer) answers same = answers
is_given line old new (Err e) answers same = same

-- a text was written, whole or in part, after which comes the next input
module _ (Says : List ℕ → Next → Type 0) where
  pub told-all : (r : Result Next WriteFailed) (text : List ℕ) (before after : Option (List ℕ)) → Says text next.Line
      → IfOk r (λ left. (left ≡ next.Line) × Appends before after text) → IfOk r (λ left. Receives before after (λ bytes. Says bytes left))
  told-all (Ok left) text before after said wrote = record { bytes = text; took = wrote.1; is_meant = subst (Says text) (sym wrote.0) said }
  told-all (Err e) text before after said wrote = tt

  pub told-front : (r : Result Next WriteFailed) (text : List ℕ) (before after : Option (List ℕ)) → Says text next.Line
      → OnErr r (AppendsFront before after text) → OnErr r (Receives before after (IsCutShort (λ bytes. Says bytes next.Line)))
  told-front (Ok left) text before after said wrote = tt
  told-front (Err e) text before after said wrote = Receives-front (λ bytes. Says bytes next.Line) before after text wrote said

-- what is left to do after an input was answered
module _ (Runs : Running) (given : Input) (old : DeskState) (before : Option (List ℕ)) where
  pub by-said : (after : Option (List ℕ)) (new : DeskState) → Receives before after (λ bytes. AnswersInput given old new bytes next.Line)
      → Receives before after (λ bytes. AnswersBy Runs given old new bytes goes_on)
  by-said after new said = Receives-weaker before after (λ bytes it. says it refl) said

  pub by-quit : (after : Option (List ℕ)) (new : DeskState) → Receives before after (λ bytes. AnswersInput given old new bytes next.Nothing)
      → Receives before after (λ bytes. AnswersBy Runs given old new bytes has_ended)
  by-quit after new said = Receives-weaker before after (λ bytes it. quits it refl) said

  pub by-cut : (after : Option (List ℕ)) (new : DeskState) → Receives before after (IsCutShort (λ bytes. AnswersInput given old new bytes next.Line))
      → Receives before after (λ bytes. AnswersBy Runs given old new bytes has_failed)
  by-cut after new cut = Receives-weaker before after (λ bytes it. cuts it.0 it.1 refl) cut

  pub by-run : (between after : Option (List ℕ)) (mid new : DeskState) (file : String Global) (outcome : Outcome)
      → Receives before between (λ bytes. AnswersInput given old mid bytes (next.Script file))
      → Receives between after (λ bytes. Runs (string_bytes file) mid new bytes outcome)
      → Receives before after (λ bytes. AnswersBy Runs given old new bytes outcome)
  by-run between after mid new file outcome said ran =
      Receives-more before between after (λ first later one run. runs file mid first later one run refl) said ran

-- an input that is this one
module _ (given other : Input) (is : given ≡ other) (old new : DeskState) (before after : Option (List ℕ)) (r : Result Next WriteFailed) where
  pub same_input : IfOk r (λ left. Receives before after (λ bytes. AnswersInput other old new bytes left))
      → IfOk r (λ left. Receives before after (λ bytes. AnswersInput given old new bytes left))
  same_input answered = subst (λ g. IfOk r (λ left. Receives before after (λ bytes. AnswersInput g old new bytes left))) (sym is) answered

  pub same_input-front : OnErr r (Receives before after (IsCutShort (λ bytes. AnswersInput other old new bytes next.Line)))
      → OnErr r (Receives before after (IsCutShort (λ bytes. AnswersInput given old new bytes next.Line)))
  same_input-front answered = subst (λ g. OnErr r (Receives before after (IsCutShort (λ bytes. AnswersInput g old new bytes next.Line)))) (sym is) answered

-- what is left to do is this
pub said_next : (before after : Option (List ℕ)) (given : Input) (old new : DeskState) (left other : Next) → left ≡ other
    → Receives before after (λ bytes. AnswersInput given old new bytes left) → Receives before after (λ bytes. AnswersInput given old new bytes other)
said_next before after given old new left other is said = subst (λ n. Receives before after (λ bytes. AnswersInput given old new bytes n)) is said
