-- Laws of the session machine and of its output.
use Rattle.std.specs.Prelude.{◌≡◌, ◌≢◌, ◌↔◌, ◌∷◌, List, [], ℕ, map, Some, None, codes}
use Rattle.lq_host.specs.declared.call.Call.{Call}
use Rattle.lq_machine.specs.Machine.{Reply, memory_line, step}
use Rattle.lq_machine.specs.States.{State, schemas_of, seen_by_role}
use Rattle.lq_machine.specs.Output.{Answers, Runs, stepped}
use Rattle.lq_machine.specs.Served.{error_data, line_of}
use Rattle.lq_grammar.specs.Reading.{Says, reading_of}
use Rattle.lq_security.specs.RuleLaws.{AreReadFor}
use Rattle.lq_value.specs.declared.scalar.Scalar.{Scalar}
use Rattle.lq_grammar.specs.declared.syntax.Statement.TheVariants as statement

-- ---- what hidden rows may change

-- Two states that look the same to their role: they may differ in rows that are hidden from it and in the numbers of rows
-- to come, and in nothing else.
pub record LooksSame (a b : State) : Type 0 where
  pub role : a.role ≡ b.role
  pub policies : a.policies ≡ b.policies
  pub predicates : a.predicates ≡ b.predicates
  pub definitions : a.definitions ≡ b.definitions
  pub schemas : schemas_of a.tables ≡ schemas_of b.tables
  pub seen : seen_by_role a ≡ seen_by_role b

-- and the next row of each table gets the same number in both
abbrev pub NumberAlike : State → State → Type 0
NumberAlike a b = map (λ table. table.next) a.tables ≡ map (λ table. table.next) b.tables

-- a line that puts in a row, and one that takes a role
abbrev pub PutsIn : List ℕ → Type 0
PutsIn line = (name : List ℕ) × (cells : List Scalar) × (reading_of line ≡ Says (statement.Insert name cells))

abbrev pub TakesRole : List ℕ → Type 0
TakesRole line = (name : List ℕ) × (reading_of line ≡ Says (statement.As name))

-- States that look the same give every line the same reply. Only an `insert` distinguishes states that number the rows to come otherwise: it
-- is refused as full where no number is left.
abbrev pub AnswersAlike : Type 0
AnswersAlike = (a b : State) → LooksSame a b → (line : List ℕ) → (PutsIn line → NumberAlike a b) → (step a line).0 ≡ (step b line).0

-- And they look the same after it, except after a line that takes a role, to which they may look otherwise.
abbrev pub LookAlikeBehind : Type 0
LookAlikeBehind =
    (a b : State) → LooksSame a b → (line : List ℕ) → (PutsIn line → NumberAlike a b) → (TakesRole line → ⊥) → LooksSame (step a line).1 (step b line).1

-- states that look the same and number the rows to come alike do so after every line
abbrev pub NumberAlikeBehind : Type 0
NumberAlikeBehind = (a b : State) → LooksSame a b → NumberAlike a b → (line : List ℕ) → NumberAlike (step a line).1 (step b line).1

-- ---- what no line changes

-- whatever a line says, the policies, the schemas of the tables and the host predicates stay
abbrev pub KeepsPolicies : Type 0
KeepsPolicies =
    (old : State) (line : List ℕ) → ((step old line).1.policies ≡ old.policies) × (schemas_of (step old line).1.tables ≡ schemas_of old.tables)
    × ((step old line).1.predicates ≡ old.predicates)

-- so policies that were read for the tables are so behind any lines, whatever was answered
abbrev pub StayReadForTables : Type 0
StayReadForTables =
    (old new : State) (lines : List (List ℕ)) (replies : List Reply) (calls : List Call) → Runs old lines replies calls new
    → AreReadFor (schemas_of old.tables) old.policies → AreReadFor (schemas_of new.tables) new.policies

-- ---- the output of a script

-- no reply is the memory line
abbrev pub HasNoMemoryLine : List Reply → Type 0
HasNoMemoryLine [] = Unit {0}
HasNoMemoryLine (reply ∷ replies) = (reply ≢ Some memory_line) × HasNoMemoryLine replies

-- no line takes a role
abbrev pub TakesNoRole : List (List ℕ) → Type 0
TakesNoRole [] = Unit {0}
TakesNoRole (line ∷ lines) = (TakesRole line → ⊥) × TakesNoRole lines

-- whole scripts under one role are answered alike where no reply is the memory line
abbrev pub ScriptsAlike : Type 0
ScriptsAlike =
    (a b after_a after_b : State) (lines : List (List ℕ)) (from_a from_b : List Reply) (calls_a calls_b : List Call) → LooksSame a b → NumberAlike a b
    → TakesNoRole lines → Runs a lines from_a calls_a after_a → Runs b lines from_b calls_b after_b
    → HasNoMemoryLine from_a → HasNoMemoryLine from_b → (from_a ≡ from_b) × LooksSame after_a after_b

-- where no reply is the memory line, the replies to the lines and the state after them are the machine's
abbrev pub IsOutput : Type 0
IsOutput = (old new : State) (lines : List (List ℕ)) (replies : List Reply) (calls : List Call) → Runs old lines replies calls new → HasNoMemoryLine replies → (replies, new) ≡ stepped old lines

-- ---- want of memory

-- The lines and replies without those lines that were answered by the memory line.
pub data WithoutMemoryLines : List (List ℕ) → List Reply → List (List ℕ) → List Reply → Type 0 where
  end : WithoutMemoryLines [] [] [] []
  answered : {line : List ℕ} {reply : Reply} {lines served : List (List ℕ)} {replies rest : List Reply} → reply ≢ Some memory_line
      → WithoutMemoryLines lines replies served rest → WithoutMemoryLines (line ∷ lines) (reply ∷ replies) (line ∷ served) (reply ∷ rest)
  refused : {line : List ℕ} {lines served : List (List ℕ)} {replies rest : List Reply}
      → WithoutMemoryLines lines replies served rest → WithoutMemoryLines (line ∷ lines) (Some memory_line ∷ replies) served rest

-- where some replies are the memory line, the others and the state after the script are the machine's over the other lines
abbrev pub LeavesTheRest : Type 0
LeavesTheRest =
    (old new : State) (lines served : List (List ℕ)) (replies rest : List Reply) (calls : List Call) → Runs old lines replies calls new → WithoutMemoryLines lines replies served rest
    → (rest, new) ≡ stepped old served

-- a line has no reply exactly where the machine has none for it
abbrev pub IsSilentAlike : Type 0
IsSilentAlike = (old new : State) (line : List ℕ) (reply : Reply) (calls : List Call) → Answers old line reply calls new → (reply ≡ None) ↔ ((step old line).0 ≡ None)

-- the memory line is the line of a refusal
abbrev pub MemoryLineIsServed : Type 0
MemoryLineIsServed = memory_line ≡ line_of (error_data (codes "memory"))
