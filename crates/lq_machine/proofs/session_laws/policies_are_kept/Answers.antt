use Rattle.lq_machine.proofs.KeptPolicies.{keeps_policies, stay_read}
use Rattle.lq_machine.proofs.session_laws.policies_are_kept.Goals as goal

pub returns-clause-step : goal.returns-clause-step
returns-clause-step c = keeps_policies

pub returns-clause-read : goal.returns-clause-read
returns-clause-read c = stay_read
