use Rattle.lq_policyfile.proofs.SaysLemmas.{is_read}
use Rattle.lq_policyfile.proofs.shape.right_forms.right_of.Goals as goal

pub returns-clause-says : goal.returns-clause-says
returns-clause-says c = is_read c.args.text.now c.in_words.result c.in_words.ensures
