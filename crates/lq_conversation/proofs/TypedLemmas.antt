-- Lemmas on inputs that are typed.
use Rattle.std.proofs.Common.{◌≡◌, ◌+◌, ◌||◌, if◌then◌else◌, ◌∙◌, not, ℕ, Bool, List, Option, Result, IfSome, Vec, Global, string_bytes, subst}
use Rattle.lq_command.specs.Readers.{Takes}
use Rattle.lq_command.specs.declared.input.Input.{Input}
use Rattle.lq_grammar.specs.Script.{script_limit}
use Rattle.lq_prompt.specs.Answers.{DeskState}
use Rattle.lq_serve.specs.Files.{IsAnswer}
use Rattle.lq_conversation.specs.Conversations.{AnswersInputs, AnswersTyped, Conversation, is_failure, is_refusal}
use Rattle.lq_conversation.specs.Inputs.{cuts, quits, runs, says}
use Rattle.lq_conversation.specs.Outcomes.{Outcome, goes_on, outcome_of}
use Rattle.lq_conversation.specs.Scripts.{ReadsScript}
use Rattle.lq_conversation.specs.Turns.{AnswersEach}
use Rattle.lq_conversation.specs.Writers.{Receives}
use Rattle.lq_conversation.specs.declared.script.ScriptFault.{ScriptFault}
use Rattle.lq_conversation.proofs.TurnLemmas.{Each-more}
use Rattle.lq_conversation.proofs.WriterLemmas.{Receives-weaker, outcome_is}

-- files that stay as they are
module _ (old_holds new_holds : List ℕ → Option (Option (List ℕ))) (keeps : (name : List ℕ) → new_holds name ≡ old_holds name) where
  pub ReadsScript-kept : (name : List ℕ) (script : Result (Vec ℕ Global) ScriptFault) → ReadsScript new_holds name script → ReadsScript old_holds name script
  ReadsScript-kept name script reads = record {
    gave = reads.gave;
    is_read = subst (λ holding. IfSome holding (λ there. IsAnswer there (script_limit + 1) reads.gave)) (keeps name) reads.is_read;
    is_script = reads.is_script;
  }

  AnswersTyped-kept : (given : Input) (old new : DeskState) (written : List ℕ) (outcome : Outcome) → AnswersTyped new_holds given old new written outcome
      → AnswersTyped old_holds given old new written outcome
  AnswersTyped-kept given old new written outcome (says said is) = says said is
  AnswersTyped-kept given old new written outcome (quits said is) = quits said is
  AnswersTyped-kept given old new written outcome (runs file mid said later one run is) =
      runs file mid said later one (record { script = run.script; reads = ReadsScript-kept (string_bytes file) run.script run.reads; follows = run.follows }) is
  AnswersTyped-kept given old new written outcome (cuts rest said is) = cuts rest said is

  -- one more input was given and answered
  pub Typed-more : (known mid left : Option (List ℕ)) (met ended : Bool) (from count upto : ℕ) (old now new : DeskState) (before between after : Option (List ℕ)) (given : Input) (outcome : Outcome)
      → Receives before between (λ bytes. AnswersEach (AnswersTyped old_holds) known mid met from count old now bytes goes_on) → Takes mid left met ended given → upto ≡ count + 1
      → Receives between after (λ bytes. AnswersTyped new_holds given now new bytes outcome)
      → Receives before after (λ bytes. AnswersEach (AnswersTyped old_holds) known left ended from upto old new bytes outcome)
  Typed-more known mid left met ended from count upto old now new before between after given outcome way takes counted step =
      Each-more (AnswersTyped old_holds) known mid left met ended from count upto old now new before between after given outcome way takes counted
      (Receives-weaker between after (λ bytes one. AnswersTyped-kept given now new bytes outcome one) step)

pub typed-is : (holds : List ℕ → Option (Option (List ℕ))) (given : Input) (old new : DeskState) (before after : Option (List ℕ)) (ends is : Bool) → ends ≡ is
    → Receives before after (λ bytes. AnswersTyped holds given old new bytes (outcome_of ends)) → Receives before after (λ bytes. AnswersTyped holds given old new bytes (outcome_of is))
typed-is holds given old new before after ends is same = outcome_is (λ bytes outcome. AnswersTyped holds given old new bytes outcome) before after ends is same

pub inputs-is : (holds : List ℕ → Option (Option (List ℕ))) (known : Option (List ℕ)) (from upto : ℕ) (old new : DeskState) (before after : Option (List ℕ)) (ends is : Bool) → ends ≡ is
    → Receives before after (λ bytes. AnswersInputs holds known from upto old new bytes (outcome_of ends)) → Receives before after (λ bytes. AnswersInputs holds known from upto old new bytes (outcome_of is))
inputs-is holds known from upto old new before after ends is same = outcome_is (λ bytes outcome. AnswersInputs holds known from upto old new bytes outcome) before after ends is same

-- what was given was answered
pub inputs-answered : (holds : List ℕ → Option (Option (List ℕ))) (known left : Option (List ℕ)) (ended : Bool) (from count upto : ℕ) (old new : DeskState) (before after : Option (List ℕ)) (outcome : Outcome)
    → upto ≡ count → Receives before after (λ bytes. AnswersEach (AnswersTyped holds) known left ended from count old new bytes outcome)
    → Receives before after (λ bytes. AnswersInputs holds known from upto old new bytes outcome)
inputs-answered holds known left ended from count upto old new before after outcome same way =
    Receives-weaker before after (λ bytes each. record {
      left = left;
      ended = ended;
      each = record { inputs = each.inputs; given = each.given; counted = same ∙ each.counted; answers = each.answers };
    }) way

-- what a conversation came to
pub conversation : (holds : List ℕ → Option (Option (List ℕ))) (known : Option (List ℕ)) (from upto : ℕ) (old new : DeskState) (before after : Option (List ℕ)) (refused failed : Bool) (outcome : Outcome)
    → Receives before after (λ bytes. AnswersInputs holds known from upto old new bytes outcome) → refused ≡ is_refusal outcome → failed ≡ is_failure outcome
    → Conversation holds known from upto old new before after refused failed
conversation holds known from upto old new before after refused failed outcome received marks_reader marks_writer = record {
  written = received.bytes;
  outcome = outcome;
  answers = received.is_meant;
  took = received.took;
  marks_reader = marks_reader;
  marks_writer = marks_writer;
}

-- the line reader is marked where the desk has not ended
pub refused-is : (refused ends is : Bool) → ends ≡ is → refused ≡ not ends → refused ≡ not is
refused-is refused ends is same marks = subst (λ e. refused ≡ not e) same marks

-- the status that the marks give
pub status_by : (refused failed is_refused is_written : Bool) (status : ℕ) → refused ≡ is_refused → failed ≡ is_written
    → status ≡ (if is_refused || is_written then 4 else 0) → status ≡ (if refused || failed then 4 else 0)
status_by refused failed is_refused is_written status reader writer is = rw (reader, writer) is
