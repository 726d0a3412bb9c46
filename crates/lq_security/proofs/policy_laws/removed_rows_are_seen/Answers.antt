use Rattle.lq_security.proofs.PolicyLemmas.{reads_what_it_removes}
use Rattle.lq_security.proofs.policy_laws.removed_rows_are_seen.Goals as goal

pub returns : goal.returns
returns c = reads_what_it_removes
