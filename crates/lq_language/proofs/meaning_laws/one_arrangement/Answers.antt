use Rattle.lq_language.proofs.OneArrangement.{arranges_once}
use Rattle.lq_language.proofs.meaning_laws.one_arrangement.Goals as goal

pub returns : goal.returns
returns c start = arranges_once
