use Rattle.std.proofs.Common.{ap, sym, ◌∙◌}
use Rattle.lq_plan.specs.Aggregates.{answer_of, member_of}
use Rattle.lq_pipe.proofs.group_records.group_member.Goals as goal

pub returns-in-Tally : goal.returns-in-Tally
returns-in-Tally g c =
    c.tally_answer.ensures c.args.of.now c.args.key.now c.args.kept.now
    ∙ (λ i. answer_of c.args.of.now c.args.key.now c.args.kept.now (c.item_at.ensures i) (c.item_at-in-Tally.ensures i))
    ∙ ap (member_of c.args.of.now c.args.key.now c.args.kept.now) (sym c.in-Tally.is)
