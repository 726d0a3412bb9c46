use Rattle.std.proofs.Common.{rules}
use Rattle.lq_condition.proofs.ConditionLaws.{chain_on}
use Rattle.lq_condition.proofs.SizeLemmas.{step_sizes}
use Rattle.lq_condition.proofs.condition.+verdicts.Goals as goal

pub both_verdict-chain-preserved : goal.both_verdict-chain-preserved
both_verdict-chain-preserved t c =
    let sizes = step_sizes c.chain.rest.now c.get-first.result.now c.get-rest.result.now _ (search rules) c.chain.invariant.2 in
    (chain_on c.args.cells.now c.chain.first.now c.chain.rest.now c.get-first.result.now c.get-rest.result.now _ (search rules) (search rules) c.chain.invariant.0, sizes.0, sizes.1)
