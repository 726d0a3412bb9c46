-- Lemmas on the lines of a script.
use Rattle.std.proofs.Common.{◌≡◌, ◌≢◌, ◌<◌, ◌==◌, ℕ, Bool, true, false, List, [], ◌∷◌, ◌++◌, Option, Result, Ok, Err, String, Vec, Global, length, refl, sym, ◌∙◌, subst, arith}
use Rattle.std.proofs.lemmas.Bool.{eqb-true}
use Rattle.lq_command.specs.Inputs.{IsInput}
use Rattle.lq_command.specs.declared.input.Input.{Input}
use Rattle.lq_grammar.proofs.ScriptLaws.{lines_of-none}
use Rattle.lq_grammar.specs.Script.{lines_of}
use Rattle.lq_prompt.specs.Answers.{DeskState}
use Rattle.lq_conversation.specs.Inputs.{AnswersInput}
use Rattle.lq_conversation.specs.Outcomes.{Outcome, Tells, goes_on, outcome_of}
use Rattle.lq_conversation.specs.Scripts.{AnswersInScript, ReadsScript, RefusesScript, RunsFile, RunsScript, fault_text, no_other_text}
use Rattle.lq_conversation.specs.Turns.{Begins, InOrder}
use Rattle.lq_conversation.specs.Writers.{Receives}
use Rattle.lq_conversation.specs.declared.next.Next.TheVariants as next
use Rattle.lq_conversation.specs.declared.script.ScriptFault.{ScriptFault}
use Rattle.lq_conversation.proofs.InputLemmas.{by-run}
use Rattle.lq_conversation.proofs.TurnLemmas.{InOrder-more}
use Rattle.lq_conversation.proofs.WriterLemmas.{Receives-more, Receives-none, Receives-weaker, outcome_is}

-- an input of a script names another script
pub in_script-other : (given : Input) (old new : DeskState) (before between after : Option (List ℕ)) (file : String Global) (outcome : Outcome)
    → Receives before between (λ bytes. AnswersInput given old new bytes (next.Script file))
    → Receives between after (λ bytes. Tells no_other_text bytes outcome)
    → Receives before after (λ bytes. AnswersInScript given old new bytes outcome)
in_script-other given old new before between after file outcome said told =
    by-run RefusesScript given old before between after new new file outcome said (Receives-weaker between after (λ bytes it. (refl, it)) told)

pub in_script-is : (given : Input) (old new : DeskState) (before after : Option (List ℕ)) (ends is : Bool) → ends ≡ is
    → Receives before after (λ bytes. AnswersInScript given old new bytes (outcome_of ends)) → Receives before after (λ bytes. AnswersInScript given old new bytes (outcome_of is))
in_script-is given old new before after ends is same = outcome_is (λ bytes outcome. AnswersInScript given old new bytes outcome) before after ends is same

-- ---- the lines

-- bytes of which a test says whether they are none
pub some_bytes : (bytes : List ℕ) (is_empty : Bool) → is_empty ≡ (length bytes == 0) → is_empty ≡ false → 0 < length bytes
some_bytes [] is_empty tests some = let never : false ≡ true = sym some ∙ tests in cc
some_bytes (b ∷ bytes) is_empty tests some = omega arith

pub no_lines : (bytes : List ℕ) (is_empty : Bool) → is_empty ≡ (length bytes == 0) → is_empty ≡ true → lines_of bytes ≡ []
no_lines bytes is_empty tests none = lines_of-none bytes (eqb-true (length bytes) 0 (sym tests ∙ none))

-- one more line gave an input
Begins-more : (lines left rest : List (List ℕ)) (line : List ℕ) (inputs : List Input) (given : Input)
    → Begins lines left inputs → left ≡ line ∷ rest → IsInput line given → Begins lines rest (inputs ++ given ∷ [])
Begins-more lines left rest line [] given begins is one = subst (λ all. Begins all rest (given ∷ [])) (sym is ∙ begins) (one, refl)
Begins-more [] left rest line (first ∷ inputs) given begins is one = absurd begins
Begins-more (head ∷ lines) left rest line (first ∷ inputs) given begins is one =
    (begins.0, Begins-more lines left rest line inputs given begins.1 is one)

-- the first of these lines were answered, and these are left
pub record UnderWay (lines left : List (List ℕ)) (old new : DeskState) (written : List ℕ) (outcome : Outcome) : Type 0 where
  pub inputs : List Input
  pub given : Begins lines left inputs
  pub answers : InOrder AnswersInScript inputs old new written outcome

-- no line was answered
pub UnderWay-start : (lines : List (List ℕ)) (desk : DeskState) (contents : Option (List ℕ))
    → Receives contents contents (λ bytes. UnderWay lines lines desk desk bytes goes_on)
UnderWay-start lines desk contents = Receives-none contents (record { inputs = []; given = refl; answers = (refl, refl, refl) })

-- one more was answered
pub UnderWay-more : (lines left rest : List (List ℕ)) (line : List ℕ) (given : Input) (old now new : DeskState) (before between after : Option (List ℕ)) (outcome : Outcome)
    → Receives before between (λ bytes. UnderWay lines left old now bytes goes_on) → left ≡ line ∷ rest → IsInput line given
    → Receives between after (λ bytes. AnswersInScript given now new bytes outcome)
    → Receives before after (λ bytes. UnderWay lines rest old new bytes outcome)
UnderWay-more lines left rest line given old now new before between after outcome way is one answered =
    Receives-more before between after (λ first later under step. record {
      inputs = under.inputs ++ given ∷ [];
      given = Begins-more lines left rest line under.inputs given under.given is one;
      answers = InOrder-more AnswersInScript under.inputs given old now new first later outcome under.answers step;
    }) way answered

module _ (script : List ℕ) (left : List (List ℕ)) (old new : DeskState) (before after : Option (List ℕ)) where
  -- the script came to its end
  pub script-whole : left ≡ [] → Receives before after (λ bytes. UnderWay (lines_of script) left old new bytes goes_on)
      → Receives before after (λ bytes. RunsScript script old new bytes goes_on)
  script-whole none way =
      Receives-weaker before after (λ bytes under. record { inputs = under.inputs; left = left; given = under.given; answers = under.answers; is_whole = λ _. none }) way

  -- a line ended the desk, or the writer failed over its answer
  pub script-until : (outcome : Outcome) → outcome ≢ goes_on → Receives before after (λ bytes. UnderWay (lines_of script) left old new bytes outcome)
      → Receives before after (λ bytes. RunsScript script old new bytes outcome)
  script-until outcome stops way =
      Receives-weaker before after (λ bytes under. record { inputs = under.inputs; left = left; given = under.given; answers = under.answers; is_whole = λ same. absurd (stops same) }) way

-- ---- files

module _ (holds : List ℕ → Option (Option (List ℕ))) (name : List ℕ) (old new : DeskState) (before after : Option (List ℕ)) (outcome : Outcome) where
  -- the lines of a file were answered
  pub file-lines : (script : Vec ℕ Global) (read : Result (Vec ℕ Global) ScriptFault) → ReadsScript holds name read → read ≡ Ok script
      → Receives before after (λ bytes. RunsScript script.items old new bytes outcome)
      → Receives before after (λ bytes. RunsFile holds name old new bytes outcome)
  file-lines script read reads is ran =
      Receives-weaker before after (λ bytes run. record { script = Ok script; reads = subst (ReadsScript holds name) is reads; follows = run }) ran

  -- there is no script
  pub file-fault : (why : ScriptFault) (read : Result (Vec ℕ Global) ScriptFault) → ReadsScript holds name read → read ≡ Err why → new ≡ old
      → Receives before after (λ bytes. Tells (fault_text why) bytes outcome)
      → Receives before after (λ bytes. RunsFile holds name old new bytes outcome)
  file-fault why read reads is same told =
      Receives-weaker before after (λ bytes tells. record { script = Err why; reads = subst (ReadsScript holds name) is reads; follows = (same, tells) }) told
