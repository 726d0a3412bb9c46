use Rattle.lq_tree.proofs.KindsSuffice as lemma
use Rattle.lq_tree.proofs.typed_form_laws.kinds_suffice.Goals as goal

pub returns : goal.returns
returns g c = lemma.kinds_suffice
