use Rattle.std.proofs.Common.{◌∙◌, sym}
use Rattle.lq_operators.proofs.KnownLemmas.{firsts_old, firsts_pushed, known_pushed}
use Rattle.lq_operators.proofs.firsts.Distinct.add_by_key.Goals as goal

pub invariant_of-self-then-is_first : goal.invariant_of-self-then-is_first
invariant_of-self-then-is_first g c = record {
  known = known_pushed c.push.result c.args.self.now.keys c.is_first.new.keys c.args.self.now.firsts c.push.new.self c.args.item c.args.self.now.known
      c.in_ok-is_first.ensures.keys c.push.ensures.ok c.push.ensures.err;
}

pub returns-then-is_first : goal.returns-then-is_first
returns-then-is_first g c =
    firsts_pushed c.push.result c.args.self.now.firsts c.as_slice.result.now c.push.new.self c.args.item c.as_slice.ensures
    (sym c.in_ok-is_first.ensures.answer ∙ c.if-is_first.true) c.push.ensures.ok

pub returns : goal.returns
returns g c = λ done so_far.
    firsts_old done c.args.self.now.firsts c.as_slice.result.now c.args.item c.as_slice.ensures (sym c.in_ok-is_first.ensures.answer ∙ c.if-is_first.false) so_far
