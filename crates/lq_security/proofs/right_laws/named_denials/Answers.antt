use Rattle.lq_security.proofs.DenialLemmas.{denies_first, names_denier}
use Rattle.lq_security.proofs.right_laws.named_denials.Goals as goal

pub returns-clause-name : goal.returns-clause-name
returns-clause-name c = names_denier

pub returns-clause-first : goal.returns-clause-first
returns-clause-first c = denies_first
