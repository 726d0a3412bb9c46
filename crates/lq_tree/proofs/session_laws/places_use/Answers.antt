use Rattle.lq_tree.proofs.SessionPlaceLaws as lemma
use Rattle.lq_tree.proofs.session_laws.places_use.Goals as goal

pub returns : goal.returns
returns c = lemma.places_use
