use Rattle.std.proofs.Common.{ap}
use Rattle.lq_serve.specs.Starting.{parts_or_fault}
use Rattle.lq_serve.proofs.StartingLemmas.{GivesPolicies-fault}
use Rattle.lq_serve.proofs.starting.policies_from_bytes.Goals as goal

pub returns-in-Ok-clause-policies : goal.returns-in-Ok-clause-policies
returns-in-Ok-clause-policies g c = ap parts_or_fault c.in-Ok.ensures.policies

pub returns-in-Err-clause-policies : goal.returns-in-Err-clause-policies
returns-in-Err-clause-policies g c = rw c.from.ensures (GivesPolicies-fault _ c.in-Err.error c.in-Err.ensures.policies)
