use Rattle.lq_tree.proofs.SessionValueLaws as lemma
use Rattle.lq_tree.proofs.session_laws.reads_no_session.Goals as goal

pub returns : goal.returns
returns g c = lemma.reads_no_session
