-- One text more is there, and one less is to come.
use Rattle.std.proofs.Common.{◌++◌, ◌-◌, ◌∙◌, ap, append_assoc, string_bytes, sym}
use Rattle.std.specs.List.{repeat}
use Rattle.lq_render.proofs.Lists.{repeat_less}
use Rattle.lq_render.proofs.grid.push_repeated.Goals as goal

pub loop-left-preserved : goal.loop-left-preserved
loop-left-preserved c =
    let text = c.args.text.now in
    let left = c.loop-left.left in
    let before = string_bytes c.loop-left.out in
    ap (λ s. s ++ repeat (left - 1) text) c.in_ok-push_str.ensures.bytes
    ∙ append_assoc before text (repeat (left - 1) text)
    ∙ ap (λ s. before ++ s) (sym (repeat_less left text c.loop-left-test.true))
    ∙ c.loop-left.invariant
