-- What serving a script does to the session and to the writer.
use Rattle.std.specs.Prelude.{◌≡◌, ◌++◌, ℕ, List, Option, IfSome, length}
use Rattle.std.specs.Str.{IsUtf8}
use Rattle.std.specs.Io.KnownBytes.{Appends}
use Rattle.lq_host.specs.Hosts.{Hosts}
use Rattle.lq_host.specs.declared.call.Call.{Call}
use Rattle.lq_grammar.specs.Script.{IsInSize, stepped_lines}
use Rattle.lq_machine.specs.Machine.{Reply}
use Rattle.lq_machine.specs.States.{State}
use Rattle.lq_machine.specs.Output.{Runs, bytes_of, joined, one_if_some, count_of_replies, IsCutOff}
use Rattle.lq_session.specs.Calls.{AnswersAndLogs, Logs}
use Rattle.lq_serve.specs.Devices.{AppendsFront}
use Rattle.lq_serve.specs.declared.script_run.Summary.{Summary}

-- The script is what the reader had, where that is known; it is within the limits of size and is UTF-8.
pub record IsScript (known : Option (List ℕ)) (script : List ℕ) : Type 0 where
  pub whole : IfSome known (λ all. script ≡ all)
  pub in_size : IsInSize script
  pub utf8 : IsUtf8 script

-- Each line was stepped in order, and their replies were written, whole and nothing else. The log grew by calls that they allow, line by line.
pub record LinesServed (all : List (List ℕ)) (old new : State) (hosts hosts_after : Hosts) (before after : Option (List ℕ)) (summary : Summary) : Type 0 where
  pub replies : List Reply
  pub calls : List Call
  pub logged : Logs hosts calls hosts_after
  pub run : Runs old all replies calls new
  pub written : Appends before after (joined replies)
  pub lines : summary.lines ≡ length all
  pub count : summary.replies ≡ count_of_replies replies

-- The first lines were stepped in order, and their replies were written, but that the last may be cut short.
pub record Stopped (all : List (List ℕ)) (old new : State) (hosts hosts_after : Hosts) (before after : Option (List ℕ)) : Type 0 where
  pub front : List (List ℕ)
  pub rest : List (List ℕ)
  pub split : all ≡ front ++ rest
  pub replies : List Reply
  pub calls : List Call
  pub logged : Logs hosts calls hosts_after
  pub run : Runs old front replies calls new
  pub bytes : List ℕ
  pub cut : IsCutOff replies bytes
  pub written : Appends before after bytes

-- The script that the reader had was served to its end.
pub record ServedWhole (known : Option (List ℕ)) (old new : State) (hosts hosts_after : Hosts) (before after : Option (List ℕ)) (summary : Summary) : Type 0 where
  pub script : List ℕ
  pub is_script : IsScript known script
  pub served : LinesServed (stepped_lines script) old new hosts hosts_after before after summary

-- The script that the reader had was served until the writer failed.
pub record ServedInPart (known : Option (List ℕ)) (old new : State) (hosts hosts_after : Hosts) (before after : Option (List ℕ)) : Type 0 where
  pub script : List ℕ
  pub is_script : IsScript known script
  pub stopped : Stopped (stepped_lines script) old new hosts hosts_after before after

-- The bytes that the reader had, where they are known, or a line of them, are too many for a script.
abbrev pub IsTooLong : Option (List ℕ) → Type 0
IsTooLong known = IfSome known (λ all. ¬ (IsInSize all))

-- The bytes that the reader had, where they are known, are within the limits of size and not UTF-8.
abbrev pub IsNoText : Option (List ℕ) → Type 0
IsNoText known = IfSome known (λ all. IsInSize all × ¬ (IsUtf8 all))

-- One line was stepped, and its reply was written whole.
pub record LineServed (line : List ℕ) (old new : State) (hosts hosts_after : Hosts) (before after : Option (List ℕ)) (count : ℕ) : Type 0 where
  pub reply : Reply
  pub answer : AnswersAndLogs old hosts line reply new hosts_after
  pub written : Appends before after (bytes_of reply)
  pub counted : count ≡ one_if_some reply

-- One line was stepped, and a front of its reply was written.
pub record LineServedInPart (line : List ℕ) (old new : State) (hosts hosts_after : Hosts) (before after : Option (List ℕ)) : Type 0 where
  pub reply : Reply
  pub answer : AnswersAndLogs old hosts line reply new hosts_after
  pub written : AppendsFront before after (bytes_of reply)
