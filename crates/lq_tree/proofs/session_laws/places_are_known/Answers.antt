use Rattle.lq_tree.proofs.SessionPlaceLaws as lemma
use Rattle.lq_tree.proofs.session_laws.places_are_known.Goals as goal

pub returns : goal.returns
returns c = lemma.places_are_known
