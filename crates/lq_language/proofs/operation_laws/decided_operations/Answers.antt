use Rattle.lq_language.proofs.OperationLaws.{is_decided}
use Rattle.lq_language.proofs.operation_laws.decided_operations.Goals as goal

pub returns : goal.returns
returns c = is_decided
