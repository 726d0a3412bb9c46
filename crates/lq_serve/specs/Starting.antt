-- The session that the program starts with: over its tables, under its policies, in its role; or the line of the first fault.
use Rattle.std.specs.Prelude.{◌≡◌, ◌≢◌, ◌+◌, ◌∷◌, ◌++◌, List, [], ℕ, map, string_bytes, Option, Some, None, IfSome, Result, Ok, Err}
use Rattle.lq_value.specs.Tables.{Table}
use Rattle.lq_host.specs.Predicates.{Predicate}
use Rattle.lq_language.specs.Worlds.{known_predicates}
use Rattle.lq_language.specs.declared.host_name.HostName.{HostName}
use Rattle.lq_machine.specs.States.{State, first_state}
use Rattle.lq_security.specs.declared.policy.PolicyParts.{PolicyParts}
use Rattle.lq_options.specs.declared.asked.Options.{Options}
use Rattle.lq_policy.specs.Roles.{role_number}
use Rattle.lq_policyfile.specs.File.{most_bytes, policies_in}
use Rattle.lq_policyfile.specs.declared.error.PolicyFileError.{PolicyFileError}
use Rattle.lq_policyfile.specs.declared.error.PolicyFileError.TheVariants as policy
use Rattle.lq_serve.specs.Files.{Adds, AddsFront, first_bytes}
use Rattle.lq_serve.specs.Loading.{AllAgree, Refused, Visit, fault_line, readings_of, with_files}
use Rattle.lq_serve.specs.declared.file_fault.FileFault.{FileFault}
use Rattle.lq_serve.specs.declared.file_fault.FileFault.TheVariants as fault
use Rattle.lq_serve.specs.declared.files.FileRead.{FileRead}
use Rattle.lq_serve.specs.declared.start_error.StartError.{StartError}
use Rattle.lq_serve.specs.declared.start_error.StartError.TheVariants as start

-- ---- policies

-- the most bytes that are read of a policy file: one more than it may have
abbrev pub policy_read_limit : ℕ
policy_read_limit = most_bytes + 1

abbrev pub fault_of_policy : PolicyFileError → FileFault
fault_of_policy policy.Memory = fault.Memory
fault_of_policy policy.Toml = fault.Toml
fault_of_policy policy.Shape = fault.Shape
fault_of_policy policy.UnknownName = fault.UnknownName
fault_of_policy policy.Duplicate = fault.Duplicate
fault_of_policy policy.RuleType = fault.RuleType
fault_of_policy policy.RuleNotTotal = fault.RuleNotTotal

abbrev pub parts_or_fault : Result PolicyParts PolicyFileError → Result PolicyParts FileFault
parts_or_fault (Ok parts) = Ok parts
parts_or_fault (Err error) = Err (fault_of_policy error)

-- the policies for these tables and host predicates that mean what was read of their file
abbrev pub policies_read : List Table → List HostName → Option (List ℕ) → Result PolicyParts FileFault
policies_read tables hosts None = Err fault.Read
policies_read tables hosts (Some bytes) = parts_or_fault (policies_in tables hosts bytes)

-- a call gave the policies that are meant, or there was no memory
abbrev pub GivesPolicies : Result PolicyParts FileFault → Result PolicyParts FileFault → Type 0
GivesPolicies meant (Ok parts) = meant ≡ Ok parts
GivesPolicies meant (Err found) = found ≢ fault.Memory → meant ≡ Err found

-- ---- sessions

-- what the command line asks for
pub record StartRequest : Type 0 where
  pub role : List ℕ
  pub policy : List ℕ
  pub tables : List (List ℕ)

abbrev pub asked_by : Options → StartRequest
asked_by options = record { role = string_bytes options.role; policy = string_bytes options.policy; tables = map string_bytes options.tables.items }

-- The tables were loaded, after them the policy file was read, and it gave this: its first bytes, or nothing where it can't be
-- read. These were all the reads.
pub record Reads (holds : List ℕ → Option (Option (List ℕ))) (before after : Option (List FileRead)) (asked : StartRequest) (tables : List Table)
    (gave : Option (List ℕ)) : Type 0 where
  pub visits : List Visit
  pub named : map (λ visit. visit.file) visits ≡ asked.tables
  pub agree : AllAgree holds visits
  pub loaded : with_files visits [] ≡ Ok tables
  pub agrees : IfSome (holds asked.policy) (λ there. gave ≡ first_bytes policy_read_limit there)
  pub read : Adds before after (readings_of visits ++ record { file = asked.policy; limit = policy_read_limit; gave = gave } ∷ [])

-- Everything was read and fine, and the session is in its first state, with these host predicates.
pub record Started (holds : List ℕ → Option (Option (List ℕ))) (before after : Option (List FileRead)) (asked : StartRequest) (predicates : List Predicate)
    (state : State) : Type 0 where
  pub tables : List Table
  pub gave : Option (List ℕ)
  pub reads : Reads holds before after asked tables gave
  pub policies : PolicyParts
  pub meant : policies_read tables (known_predicates predicates) gave ≡ Ok policies
  pub role : ℕ
  pub role_found : role_number policies asked.role ≡ Some role
  pub first : state ≡ first_state tables policies predicates role

-- The line reports the first fault: of a table, then of the policies, then of the role.
pub data StartRefused (holds : List ℕ → Option (Option (List ℕ))) (before after : Option (List FileRead)) (asked : StartRequest) (predicates : List Predicate)
    (line : List ℕ) : Type 0 where
  of_table : Refused holds before after asked.tables line → StartRefused holds before after asked predicates line
  of_policies : (tables : List Table) (gave : Option (List ℕ)) → Reads holds before after asked tables gave
      → (found : FileFault) → policies_read tables (known_predicates predicates) gave ≡ Err found → line ≡ fault_line asked.policy found
      → StartRefused holds before after asked predicates line
  of_role : (tables : List Table) (gave : Option (List ℕ)) → Reads holds before after asked tables gave
      → (policies : PolicyParts) → policies_read tables (known_predicates predicates) gave ≡ Ok policies → role_number policies asked.role ≡ None
      → line ≡ fault_line asked.role fault.Role → StartRefused holds before after asked predicates line

-- There was no memory to go on. Some first tables were visited; the policy file was read, if at all, after all of them; and no
-- other file was.
pub record GivenUp (holds : List ℕ → Option (Option (List ℕ))) (before after : Option (List FileRead)) (asked : StartRequest) : Type 0 where
  pub visits : List Visit
  pub unseen : List (List ℕ)
  pub named : asked.tables ≡ map (λ visit. visit.file) visits ++ unseen
  pub agree : AllAgree holds visits
  pub gave : Option (List ℕ)
  pub read : AddsFront before after (readings_of visits ++ record { file = asked.policy; limit = policy_read_limit; gave = gave } ∷ [])
  pub in_order : unseen ≢ [] → AddsFront before after (readings_of visits)

-- why there is no session
abbrev pub NotStarted : (List ℕ → Option (Option (List ℕ))) → Option (List FileRead) → Option (List FileRead) → StartRequest → List Predicate → StartError → Type 0
NotStarted holds before after asked predicates start.Memory = GivenUp holds before after asked
NotStarted holds before after asked predicates (start.Refused line) = StartRefused holds before after asked predicates line
