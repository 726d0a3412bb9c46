use Rattle.lq_policyfile.proofs.ReadLemmas.{reads_for_tables}
use Rattle.lq_policyfile.proofs.file_laws.policies_are_read_for_tables.Goals as goal

pub returns : goal.returns
returns c = reads_for_tables
