use Rattle.lq_language.proofs.SequenceLaws.{never_faults}
use Rattle.lq_language.proofs.meaning_laws.sequences_never_fault.Goals as goal

pub returns : goal.returns
returns c start = never_faults
