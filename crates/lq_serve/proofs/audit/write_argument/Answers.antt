use Rattle.std.proofs.Common.{rules, ◌≡◌, ◌∙◌, ap, w32}
use Rattle.std.specs.Fmt.{signed_decimal}
use Rattle.std.proofs.lemmas.Int.{to_z-of_z}
use Rattle.lq_serve.proofs.DeviceLemmas.{Writes-next}
use Rattle.lq_serve.proofs.audit.write_argument.Goals as goal

pub returns : goal.returns
returns g c =
    let text : c.format.result.now ≡ signed_decimal c.args.argument =
    c.format.ensures.text ∙ ap signed_decimal (to_z-of_z w32 c.args.argument (search rules)) in
    Writes-next _ _ _ _ _ _ _ _ c.write_word.ensures (rw text at c.write_word-2.ensures)
