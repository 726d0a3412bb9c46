-- Sessions that start after their tables, policies and role, and those that don't.
use Rattle.std.proofs.Common.{◌≡◌, ◌≢◌, ℕ, List, [], ◌∷◌, ◌++◌, Option, Some, None, Result, Ok, Err, IfSome, IfOk, IfErr, refl, subst, sym, ◌∙◌, ap, append_assoc, append-nil}
use Rattle.lq_value.specs.Tables.{Table}
use Rattle.lq_host.specs.Predicates.{Predicate}
use Rattle.lq_language.specs.Worlds.{known_predicates}
use Rattle.lq_language.specs.declared.host_name.HostName.{HostName}
use Rattle.lq_machine.specs.States.{State, first_state}
use Rattle.lq_security.specs.declared.policy.PolicyParts.{PolicyParts}
use Rattle.lq_policy.specs.Roles.{role_number}
use Rattle.lq_policyfile.specs.Outcome.{Answers}
use Rattle.lq_policyfile.specs.declared.error.PolicyFileError.{PolicyFileError}
use Rattle.lq_policyfile.specs.declared.error.PolicyFileError.TheVariants as policy
use Rattle.lq_session.specs.States.{state_of}
use Rattle.lq_session.specs.declared.session.Session.{Session}
use Rattle.lq_serve.specs.Files.{Adds, AddsFront, first_bytes}
use Rattle.lq_serve.specs.Loading.{Answered, Loaded, RefusedBy, TellsOf}
use Rattle.lq_serve.specs.Starting.{StartRequest, GivenUp, GivesPolicies, NotStarted, Reads, Started, fault_of_policy, of_table, of_policies, of_role, parts_or_fault, policies_read, policy_read_limit}
use Rattle.lq_serve.specs.declared.file_fault.FileFault.{FileFault}
use Rattle.lq_serve.specs.declared.file_fault.FileFault.TheVariants as fault
use Rattle.lq_serve.specs.declared.files.FileRead.{FileRead}
use Rattle.lq_serve.specs.declared.start_error.StartError.{StartError}
use Rattle.lq_serve.specs.declared.start_error.StartError.TheVariants as start
use Rattle.lq_serve.proofs.LoadingLemmas.{Adds-behind, AddsFront-all, AddsFront-behind}

abbrev policy_reading : StartRequest → Option (List ℕ) → FileRead
policy_reading asked gave = record { file = asked.policy; limit = policy_read_limit; gave = gave }

-- the policy file was read after the tables
pub Reads-behind : (holds : List ℕ → Option (Option (List ℕ))) (before between after : Option (List FileRead)) (asked : StartRequest) (tables : List Table) (gave : Option (List ℕ))
    → Loaded holds before between asked.tables tables → IfSome (holds asked.policy) (λ there. gave ≡ first_bytes policy_read_limit there)
    → Adds between after (policy_reading asked gave ∷ []) → Reads holds before after asked tables gave
Reads-behind holds before between after asked tables gave loaded agrees adds = record {
  visits = loaded.visits;
  named = loaded.named;
  agree = loaded.agree;
  loaded = loaded.loaded;
  agrees = agrees;
  read = Adds-behind before between after _ _ loaded.read adds;
}

-- there was no memory after the tables
GivenUp-behind : (holds : List ℕ → Option (Option (List ℕ))) (before between after : Option (List FileRead)) (asked : StartRequest) (tables : List Table) (gave : Option (List ℕ))
    → Loaded holds before between asked.tables tables → AddsFront between after (policy_reading asked gave ∷ []) → GivenUp holds before after asked
GivenUp-behind holds before between after asked tables gave loaded adds = record {
  visits = loaded.visits;
  unseen = [];
  named = sym loaded.named ∙ sym (append-nil _);
  agree = loaded.agree;
  gave = gave;
  read = AddsFront-behind before between after _ _ loaded.read adds;
  in_order = λ some. absurd (some refl);
}

front_of_more : (before after : Option (List FileRead)) (first more : List FileRead) → AddsFront before after first → AddsFront before after (first ++ more)
front_of_more before after first more adds = record {
  front = adds.front;
  left = adds.left ++ more;
  split = ap (λ (l : List FileRead). l ++ more) adds.split ∙ append_assoc adds.front adds.left more;
  added = adds.added;
}

-- what a policy file gave, reported as a fault of the command line's
pub GivesPolicies-fault : (meant : Result PolicyParts PolicyFileError) (error : PolicyFileError) → Answers meant (Err error)
    → GivesPolicies (parts_or_fault meant) (Err (fault_of_policy error))
GivesPolicies-fault meant policy.Memory h = λ ne. absurd (ne refl)
GivesPolicies-fault meant policy.Toml h = λ ne. ap parts_or_fault h
GivesPolicies-fault meant policy.Shape h = λ ne. ap parts_or_fault h
GivesPolicies-fault meant policy.UnknownName h = λ ne. ap parts_or_fault h
GivesPolicies-fault meant policy.Duplicate h = λ ne. ap parts_or_fault h
GivesPolicies-fault meant policy.RuleType h = λ ne. ap parts_or_fault h
GivesPolicies-fault meant policy.RuleNotTotal h = λ ne. ap parts_or_fault h

pub GivesPolicies-none : (tables : List Table) (hosts : List HostName) (gave : Option (List ℕ)) (found : FileFault)
    → (found ≢ fault.Memory → (found ≡ fault.Read) × (gave ≡ None)) → GivesPolicies (policies_read tables hosts gave) (Err found)
GivesPolicies-none tables hosts gave found failed = λ ne. rw ((failed ne).0, (failed ne).1) refl

module _ (predicates : List Predicate) where
  -- a table was refused
  pub NotStarted-tables : (holds : List ℕ → Option (Option (List ℕ))) (before after : Option (List FileRead)) (asked : StartRequest) (error : StartError)
      → RefusedBy holds before after asked.tables error → NotStarted holds before after asked predicates error
  NotStarted-tables holds before after asked start.Memory given_up = record {
    visits = given_up.visits;
    unseen = given_up.unseen;
    named = given_up.named;
    agree = given_up.agree;
    gave = None;
    read = front_of_more before after _ _ given_up.read;
    in_order = λ some. given_up.read;
  }
  NotStarted-tables holds before after asked (start.Refused line) refused = of_table refused

  -- the policies were refused
  pub NotStarted-policies : (holds : List ℕ → Option (Option (List ℕ))) (before between after : Option (List FileRead)) (asked : StartRequest) (tables : List Table)
      (gave : Option (List ℕ)) (found : FileFault) (error : StartError)
      → Loaded holds before between asked.tables tables → IfSome (holds asked.policy) (λ there. gave ≡ first_bytes policy_read_limit there)
      → Answered {A = PolicyParts} (Err found) between after (policy_reading asked gave ∷ []) → GivesPolicies (policies_read tables (known_predicates predicates) gave) (Err found)
      → TellsOf asked.policy found error → NotStarted holds before after asked predicates error
  NotStarted-policies holds before between after asked tables gave found start.Memory loaded agrees answered gives tells =
      GivenUp-behind holds before between after asked tables gave loaded answered.some
  NotStarted-policies holds before between after asked tables gave found (start.Refused line) loaded agrees answered gives tells =
      let adds = answered.all (λ e. let same : found ≡ fault.Memory = cc e in tells.0 same) in
      of_policies tables gave (Reads-behind holds before between after asked tables gave loaded agrees adds) found (gives tells.0) tells.1

  -- the policies don't have the role
  pub NotStarted-role : (holds : List ℕ → Option (Option (List ℕ))) (before between after : Option (List FileRead)) (asked : StartRequest) (tables : List Table)
      (gave : Option (List ℕ)) (policies : PolicyParts) (error : StartError)
      → Loaded holds before between asked.tables tables → IfSome (holds asked.policy) (λ there. gave ≡ first_bytes policy_read_limit there)
      → Adds between after (policy_reading asked gave ∷ []) → policies_read tables (known_predicates predicates) gave ≡ Ok policies → role_number policies asked.role ≡ None
      → TellsOf asked.role fault.Role error → NotStarted holds before after asked predicates error
  NotStarted-role holds before between after asked tables gave policies start.Memory loaded agrees adds meant none tells =
      GivenUp-behind holds before between after asked tables gave loaded (AddsFront-all _ _ _ adds)
  NotStarted-role holds before between after asked tables gave policies (start.Refused line) loaded agrees adds meant none tells =
      of_role tables gave (Reads-behind holds before between after asked tables gave loaded agrees adds) policies meant none tells.1

  -- everything was fine
  pub Started-behind : (holds : List ℕ → Option (Option (List ℕ))) (before between after : Option (List FileRead)) (asked : StartRequest) (tables : List Table)
      (gave : Option (List ℕ)) (policies : PolicyParts) (number : ℕ) (state : State)
      → Loaded holds before between asked.tables tables → IfSome (holds asked.policy) (λ there. gave ≡ first_bytes policy_read_limit there)
      → Adds between after (policy_reading asked gave ∷ []) → policies_read tables (known_predicates predicates) gave ≡ Ok policies → role_number policies asked.role ≡ Some number
      → state ≡ first_state tables policies predicates number → Started holds before after asked predicates state
  Started-behind holds before between after asked tables gave policies number state loaded agrees adds meant found first = record {
    tables = tables;
    gave = gave;
    reads = Reads-behind holds before between after asked tables gave loaded agrees adds;
    policies = policies;
    meant = meant;
    role = number;
    role_found = found;
    first = first;
  }

  -- the session in the state that is meant
  pub Started-all : {a b c d e f : _} (holds : List ℕ → Option (Option (List ℕ))) (before after : Option (List FileRead)) (asked : StartRequest)
      (made : Result (Session a b c d e f) StartError) (state : State)
      → IfOk made (λ it. state_of it ≡ state) → Started holds before after asked predicates state → IfOk made (λ it. Started holds before after asked predicates (state_of it))
  Started-all holds before after asked (Ok it) state is started = subst (λ (s : State). Started holds before after asked predicates s) (sym is) started
  Started-all holds before after asked (Err error) state is started = is

  -- there was no memory to prepare the policies for the role
  pub NotStarted-prepared : {A : Type 0} (holds : List ℕ → Option (Option (List ℕ))) (before between after : Option (List FileRead)) (asked : StartRequest)
      (tables : List Table) (gave : Option (List ℕ)) (made : Result A StartError)
      → Loaded holds before between asked.tables tables → Adds between after (policy_reading asked gave ∷ [])
      → IfErr made (λ error. error ≡ start.Memory) → IfErr made (λ error. NotStarted holds before after asked predicates error)
  NotStarted-prepared holds before between after asked tables gave (Ok it) loaded adds is = is
  NotStarted-prepared holds before between after asked tables gave (Err error) loaded adds is =
      subst (λ (e : StartError). NotStarted holds before after asked predicates e) (sym is) (GivenUp-behind holds before between after asked tables gave loaded (AddsFront-all _ _ _ adds))

-- what is known of the policy file, where loading tables left it as it was
pub agrees_before : (known now : List ℕ → Option (Option (List ℕ))) (file : List ℕ) (gave : Option (List ℕ)) → now file ≡ known file
    → IfSome (now file) (λ there. gave ≡ first_bytes policy_read_limit there) → IfSome (known file) (λ there. gave ≡ first_bytes policy_read_limit there)
agrees_before known now file gave e h = rw e at h
