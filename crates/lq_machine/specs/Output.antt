-- «Output»: the replies to the lines of a script, stepped in order.
use Rattle.std.specs.Prelude.{◌≡◌, ◌+◌, ◌∷◌, ◌++◌, List, [], ℕ, Some, None, IsSome}
use Rattle.lq_host.specs.declared.call.Call.{Call}
use Rattle.lq_machine.specs.HostCalls.{MayCall}
use Rattle.lq_machine.specs.Machine.{Reply, step, memory_line}
use Rattle.lq_machine.specs.States.{State}

-- The session does a step of the machine, or it answers the memory line in place of a reply and stays as it was. Either way it
-- adds to the log only calls that the line allows.
pub data Answers (old : State) (line : List ℕ) (reply : Reply) (calls : List Call) (new : State) : Type 0 where
  as_machine : (reply, new) ≡ step old line → MayCall old line calls → Answers old line reply calls new
  no_memory : IsSome (step old line).0 → reply ≡ Some memory_line → new ≡ old → MayCall old line calls → Answers old line reply calls new

-- These replies, one for each line, may be given to the lines in turn, while the log grows by these calls: with each reply by
-- the stretch that its line added.
abbrev pub Runs : State → List (List ℕ) → List Reply → List Call → State → Type 0
Runs old [] [] calls new = (new ≡ old) × (calls ≡ [])
Runs old (line ∷ lines) (reply ∷ replies) calls new =
    (mid : State) × (stretch : List Call) × (later : List Call) × (calls ≡ stretch ++ later) × Answers old line reply stretch mid × Runs mid lines replies later new
Runs old [] (reply ∷ replies) calls new = ⊥
Runs old (line ∷ lines) [] calls new = ⊥

-- the machine alone, over the lines in order
abbrev pub stepped : State → List (List ℕ) → List Reply × State
stepped old [] = ([], old)
stepped old (line ∷ lines) =
    let now : Reply × State = step old line in
    let rest : List Reply × State = stepped now.1 lines in
    (now.0 ∷ rest.0, rest.1)

-- a reply's bytes, of which a line without a statement has none
abbrev pub bytes_of : Reply → List ℕ
bytes_of None = []
bytes_of (Some bytes) = bytes

-- the replies' lines joined
abbrev pub joined : List Reply → List ℕ
joined [] = []
joined (reply ∷ replies) = bytes_of reply ++ joined replies

-- how many lines were answered
abbrev pub one_if_some : Reply → ℕ
one_if_some None = 0
one_if_some (Some bytes) = 1

abbrev pub count_of_replies : List Reply → ℕ
count_of_replies [] = 0
count_of_replies (reply ∷ replies) = one_if_some reply + count_of_replies replies

-- the replies' lines, of which the last may be cut short
abbrev pub IsCutOff : List Reply → List ℕ → Type 0
IsCutOff [] bytes = bytes ≡ []
IsCutOff (reply ∷ []) bytes = (left : List ℕ) × (bytes_of reply ≡ bytes ++ left)
IsCutOff (reply ∷ next ∷ more) bytes = (rest : List ℕ) × (bytes ≡ bytes_of reply ++ rest) × IsCutOff (next ∷ more) rest
