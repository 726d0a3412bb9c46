use Rattle.lq_audit.proofs.HiddenRowLemmas.{alike}
use Rattle.lq_audit.proofs.disclosure_laws.hidden_rows_stay_hidden.Goals as goal

pub returns : goal.returns
returns c a b same a_kept b_kept starting hidden act table number from_a from_b in_a in_b =
    alike a b same a_kept b_kept starting table number hidden act from_a from_b in_a in_b
