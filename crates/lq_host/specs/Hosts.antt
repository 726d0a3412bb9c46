-- The predicates of a host and the log of its calls, and what may be added.
use Rattle.std.specs.Prelude.{◌≡◌, ◌∷◌, ◌++◌, List, [], ℕ, if◌then◌else◌, is_some, length, map, nat_le, Option, Some, None, Result, Ok, Err}
use Rattle.lq_value.specs.Tables.{first_named}
use Rattle.lq_host.specs.Predicates.{Predicate, predicate_of}
use Rattle.lq_host.specs.declared.call.Call.{Call}
use Rattle.lq_host.specs.declared.error.HostError.{HostError}
use Rattle.lq_host.specs.declared.error.HostError.TheVariants.{Memory, DuplicateName, TooMany}
use Rattle.lq_host.specs.declared.hosts.HostSet.{HostSet}
use Rattle.lq_host.specs.declared.predicate.HostPredicate.{HostPredicate}
use Rattle.lq_host.specs.declared.predicates.Predicates.{Predicates}

-- the name of a predicate
abbrev pub name_of : Predicate → List ℕ
name_of p = p.name

-- the predicates that are kept
abbrev pub predicates_of : {a b c d e f : _} → Predicates a b c d e f → List Predicate
predicates_of kept = map predicate_of kept.items.items

-- what a set of host predicates is: the predicates, by their numbers, and the calls that were made
pub record Hosts : Type 0 where
  pub predicates : List Predicate
  pub calls : List Call

-- a set, by what is known of it
abbrev pub hosts_of : {a b c d e f : _} → HostSet a b c d e f → Hosts
hosts_of hosts = record { predicates = predicates_of hosts.predicates; calls = hosts.log }

-- the refusal of one more predicate, memory aside
abbrev pub addition_refusal_of : List Predicate → Predicate → Option HostError
addition_refusal_of predicates p =
    if is_some (first_named name_of (name_of p) predicates) then Some DuplicateName
    else (if nat_le 64 (length predicates) then Some TooMany
    else None)

-- the refusal that an error stands for, where it is not memory
abbrev pub unless_memory : HostError → Option HostError
unless_memory Memory = None
unless_memory error = Some error

-- an addition of a predicate: its number, or a refusal that leaves the predicates and hands the new one back
abbrev pub Adds : List Predicate → Predicate → Result ℕ (HostError × Predicate) → List Predicate → Type 0
Adds old p (Ok number) new = (addition_refusal_of old p ≡ None) × (number ≡ length old) × (new ≡ old ++ p ∷ [])
Adds old p (Err refused) new = (addition_refusal_of old p ≡ unless_memory refused.0) × (refused.1 ≡ p) × (new ≡ old)

-- what an addition answers, with the predicate that it hands back as what is known of it
abbrev pub shown_added : {a b c d e f : _} → Result ℕ (HostError × HostPredicate a b c d e f) → Result ℕ (HostError × Predicate)
shown_added (Ok number) = Ok number
shown_added (Err refused) = Err (refused.0, predicate_of refused.1)
