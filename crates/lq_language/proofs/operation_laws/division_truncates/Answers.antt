use Rattle.lq_language.proofs.OperationLaws.{divides}
use Rattle.lq_language.proofs.operation_laws.division_truncates.Goals as goal

pub returns : goal.returns
returns c = divides
