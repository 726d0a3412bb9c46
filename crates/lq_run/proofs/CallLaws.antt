-- The log where nobody is asked, and names that are others.
use Rattle.std.proofs.Common.{◌≡◌, List, [], append-nil, subst, sym}
use Rattle.lq_host.specs.declared.call.Call.{Call}
use Rattle.lq_language.specs.Mentions.{Mention}
use Rattle.lq_language.proofs.ItemLaws.{every_none}
use Rattle.lq_machine.specs.HostCalls.{IsAllowed}
use Rattle.lq_machine.specs.States.{State}
use Rattle.lq_run.specs.Calls.{AddsCalls}

module _ (s : State) where
  -- nobody is asked
  pub none_called : (named : List Mention) (log : List Call) → AddsCalls s named log log
  none_called named log = ([], sym (append-nil log), every_none (IsAllowed s named))

  -- calls of what is named are calls of what is named in other words
  pub called_as : (named others : List Mention) (old new : List Call) → named ≡ others → AddsCalls s named old new → AddsCalls s others old new
  called_as named others old new is added = subst (λ (names : List Mention). AddsCalls s names old new) is added
