-- How the program ends follows from what serving promises of its outcome.
use Rattle.std.proofs.Common.{◌≡◌, ◌≢◌, ◌↔◌, ◌++◌, ℕ, Bool, true, false, List, Option, Ok, Err, IfOk, IfErr, refl}
use Rattle.lq_host.specs.Hosts.{Hosts}
use Rattle.lq_machine.specs.States.{State}
use Rattle.lq_serve.specs.Devices.{Writes}
use Rattle.lq_serve.specs.Ending.{Comes, Finished, IsUntouched, Outcome, is_read_fault, is_write_fault, outcome_line, status_of_outcome}
use Rattle.lq_serve.specs.ScriptRun.{IsNoText, IsTooLong, ServedInPart, ServedWhole}
use Rattle.lq_serve.specs.declared.serve_error.ServeError.TheVariants as serve

-- the one outcome after which a device is marked
read_as : (o : Outcome) (failed : Bool) → ((o ≡ Err serve.Read) ↔ (failed ≡ true)) → failed ≡ is_read_fault o
read_as (Err serve.Read) failed marked = marked.0 refl
read_as (Ok summary) true marked = let never : Ok summary ≡ Err serve.Read = marked.1 refl in cc
read_as (Ok summary) false marked = refl
read_as (Err serve.Write) true marked = let never : Err serve.Write ≡ Err serve.Read = marked.1 refl in cc
read_as (Err serve.Write) false marked = refl
read_as (Err serve.TooLong) true marked = let never : Err serve.TooLong ≡ Err serve.Read = marked.1 refl in cc
read_as (Err serve.TooLong) false marked = refl
read_as (Err serve.Utf8) true marked = let never : Err serve.Utf8 ≡ Err serve.Read = marked.1 refl in cc
read_as (Err serve.Utf8) false marked = refl
read_as (Err serve.Memory) true marked = let never : Err serve.Memory ≡ Err serve.Read = marked.1 refl in cc
read_as (Err serve.Memory) false marked = refl

written_as : (o : Outcome) (failed : Bool) → ((o ≡ Err serve.Write) ↔ (failed ≡ true)) → failed ≡ is_write_fault o
written_as (Err serve.Write) failed marked = marked.0 refl
written_as (Ok summary) true marked = let never : Ok summary ≡ Err serve.Write = marked.1 refl in cc
written_as (Ok summary) false marked = refl
written_as (Err serve.Read) true marked = let never : Err serve.Read ≡ Err serve.Write = marked.1 refl in cc
written_as (Err serve.Read) false marked = refl
written_as (Err serve.TooLong) true marked = let never : Err serve.TooLong ≡ Err serve.Write = marked.1 refl in cc
written_as (Err serve.TooLong) false marked = refl
written_as (Err serve.Utf8) true marked = let never : Err serve.Utf8 ≡ Err serve.Write = marked.1 refl in cc
written_as (Err serve.Utf8) false marked = refl
written_as (Err serve.Memory) true marked = let never : Err serve.Memory ≡ Err serve.Write = marked.1 refl in cc
written_as (Err serve.Memory) false marked = refl

module _ {known : Option (List ℕ)} {old new : State} {hosts hosts_after : Hosts} {before after : Option (List ℕ)} {ended : Bool} where
  comes_as : (o : Outcome) → IfOk o (λ summary. ServedWhole known old new hosts hosts_after before after summary)
      → (o ≡ Err serve.Write → ServedInPart known old new hosts hosts_after before after) → IfErr o (λ e. e ≢ serve.Write → IsUntouched old new hosts hosts_after before after)
      → (o ≡ Err serve.TooLong → IsTooLong known) → (o ≡ Err serve.Utf8 → IsNoText known) → (o ≡ Err serve.Memory → ended ≡ false)
      → Comes known old new hosts hosts_after before after ended o
  comes_as (Ok summary) ok write untouched too_long utf8 memory = ok
  comes_as (Err serve.Read) ok write untouched too_long utf8 memory = untouched (λ is. cc)
  comes_as (Err serve.Write) ok write untouched too_long utf8 memory = write refl
  comes_as (Err serve.TooLong) ok write untouched too_long utf8 memory = (too_long refl, untouched (λ is. cc))
  comes_as (Err serve.Utf8) ok write untouched too_long utf8 memory = (utf8 refl, untouched (λ is. cc))
  comes_as (Err serve.Memory) ok write untouched too_long utf8 memory = (memory refl, untouched (λ is. cc))

  -- an outcome whose status is given, with the line that is written behind the audit
  pub finished : {reader_failed writer_failed : Bool} {audit : List ℕ} {errors_before errors_after : Option (List ℕ)} {errors_failed : Bool} {status : ℕ}
      → (o : Outcome) → IfOk o (λ summary. ServedWhole known old new hosts hosts_after before after summary)
      → (o ≡ Err serve.Write → ServedInPart known old new hosts hosts_after before after) → IfErr o (λ e. e ≢ serve.Write → IsUntouched old new hosts hosts_after before after)
      → (o ≡ Err serve.TooLong → IsTooLong known) → (o ≡ Err serve.Utf8 → IsNoText known) → (o ≡ Err serve.Memory → ended ≡ false)
      → ((o ≡ Err serve.Read) ↔ (reader_failed ≡ true)) → ((o ≡ Err serve.Write) ↔ (writer_failed ≡ true))
      → status ≡ status_of_outcome o → Writes errors_failed errors_before errors_after (audit ++ outcome_line o)
      → Finished known old new hosts hosts_after before after reader_failed ended writer_failed audit errors_before errors_after errors_failed status
  finished {reader_failed} {writer_failed} o ok write untouched too_long utf8 memory read wrote status_is told = record {
    outcome = o;
    comes = comes_as o ok write untouched too_long utf8 memory;
    read = read_as o reader_failed read;
    wrote = written_as o writer_failed wrote;
    answers = status_is;
    tells = told;
  }
