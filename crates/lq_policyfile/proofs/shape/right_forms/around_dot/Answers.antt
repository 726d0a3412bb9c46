use Rattle.std.proofs.Common.{arith}
use Rattle.std.proofs.lemmas.Str.Pattern.{split_once_first}
use Rattle.lq_policyfile.proofs.RightLemmas.{around_parts}
use Rattle.lq_policyfile.proofs.shape.right_forms.around_dot.Goals as goal

pub returns : goal.returns
returns c = around_parts 46 c.args.text.now c.split_once.result (split_once_first 46 c.args.text.now c.split_once.result c.split_once.ensures.cases (omega arith))
