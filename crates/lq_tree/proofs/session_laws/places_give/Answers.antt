use Rattle.lq_tree.proofs.SessionValueLaws as lemma
use Rattle.lq_tree.proofs.session_laws.places_give.Goals as goal

pub returns : goal.returns
returns g c = lemma.places_give
