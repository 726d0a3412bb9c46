use Rattle.lq_machine.proofs.KeptDefinitionLaws.{keeps_defined}
use Rattle.lq_machine.proofs.session_laws.definitions_are_kept.Goals as goal

pub returns : goal.returns
returns c = keeps_defined
