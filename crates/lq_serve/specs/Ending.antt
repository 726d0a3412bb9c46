-- How the program ends for its caller: by a status and a line.
use Rattle.std.specs.Prelude.{◌≡◌, ◌∷◌, ◌++◌, ℕ, Bool, true, false, List, [], Option, Result, Ok, Err, codes}
use Rattle.lq_host.specs.Hosts.{Hosts}
use Rattle.lq_machine.specs.States.{State}
use Rattle.lq_serve.specs.Devices.{Writes}
use Rattle.lq_serve.specs.ScriptRun.{IsNoText, IsTooLong, ServedInPart, ServedWhole}
use Rattle.lq_serve.specs.declared.serve_error.ServeError.{ServeError}
use Rattle.lq_serve.specs.declared.serve_error.ServeError.TheVariants as serve
use Rattle.lq_serve.specs.declared.start_error.StartError.{StartError}
use Rattle.lq_serve.specs.declared.start_error.StartError.TheVariants as start
use Rattle.lq_serve.specs.declared.script_run.Summary.{Summary}

-- a text as a line
abbrev pub as_line : List ℕ → List ℕ
as_line text = text ++ 10 ∷ []

-- the line of the reason for which there is no session, and the program's status
abbrev pub error_line : StartError → List ℕ
error_line start.Memory = as_line (codes "lq: memory")
error_line (start.Refused line) = as_line line

abbrev pub status_of : StartError → ℕ
status_of start.Memory = 5
status_of (start.Refused line) = 3

-- ---- what serving came to

-- a script that was served to its end, or why it wasn't
abbrev pub Outcome : Type 0
Outcome = Result Summary ServeError

-- the line that reports it: none where the whole script was served
abbrev pub outcome_line : Outcome → List ℕ
outcome_line (Ok summary) = []
outcome_line (Err serve.Read) = as_line (codes "lq: script: read")
outcome_line (Err serve.Write) = as_line (codes "lq: script: write")
outcome_line (Err serve.TooLong) = as_line (codes "lq: script: too-long")
outcome_line (Err serve.Utf8) = as_line (codes "lq: script: utf8")
outcome_line (Err serve.Memory) = as_line (codes "lq: memory")

-- and the program's status
abbrev pub status_of_outcome : Outcome → ℕ
status_of_outcome (Ok summary) = 0
status_of_outcome (Err serve.Memory) = 5
status_of_outcome (Err error) = 4

-- the one outcome after which the reader is marked, and the one after which the writer is
abbrev pub is_read_fault : Outcome → Bool
is_read_fault (Err serve.Read) = true
is_read_fault outcome = false

abbrev pub is_write_fault : Outcome → Bool
is_write_fault (Err serve.Write) = true
is_write_fault outcome = false

-- nothing was stepped, nobody asked, and nothing written
abbrev pub IsUntouched : State → State → Hosts → Hosts → Option (List ℕ) → Option (List ℕ) → Type 0
IsUntouched old new hosts hosts_after before after = (new ≡ old) × (hosts_after ≡ hosts) × (after ≡ before)

-- What an outcome says of the script, the session and the writer. The bytes that the reader had may be
-- known; where there was no memory for them, the reader had not come to its end.
abbrev pub Comes : Option (List ℕ) → State → State → Hosts → Hosts → Option (List ℕ) → Option (List ℕ) → Bool → Outcome → Type 0
Comes known old new hosts hosts_after before after ended (Ok summary) = ServedWhole known old new hosts hosts_after before after summary
Comes known old new hosts hosts_after before after ended (Err serve.Read) = IsUntouched old new hosts hosts_after before after
Comes known old new hosts hosts_after before after ended (Err serve.Write) = ServedInPart known old new hosts hosts_after before after
Comes known old new hosts hosts_after before after ended (Err serve.TooLong) = IsTooLong known × IsUntouched old new hosts hosts_after before after
Comes known old new hosts hosts_after before after ended (Err serve.Utf8) = IsNoText known × IsUntouched old new hosts hosts_after before after
Comes known old new hosts hosts_after before after ended (Err serve.Memory) = (ended ≡ false) × IsUntouched old new hosts hosts_after before after

-- Serving came to one outcome, which alone decides the devices' marks, the program's status, and the line that was
-- written to the errors behind the audit, both whole unless their device failed.
pub record Finished (known : Option (List ℕ)) (old new : State) (hosts hosts_after : Hosts) (before after : Option (List ℕ))
    (reader_failed reader_ended writer_failed : Bool) (audit : List ℕ)
    (errors_before errors_after : Option (List ℕ)) (errors_failed : Bool) (status : ℕ) : Type 0 where
  pub outcome : Outcome
  pub comes : Comes known old new hosts hosts_after before after reader_ended outcome
  pub read : reader_failed ≡ is_read_fault outcome
  pub wrote : writer_failed ≡ is_write_fault outcome
  pub answers : status ≡ status_of_outcome outcome
  pub tells : Writes errors_failed errors_before errors_after (audit ++ outcome_line outcome)
