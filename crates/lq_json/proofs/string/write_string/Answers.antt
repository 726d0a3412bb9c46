-- A text of plain bytes needs no escape.
use Rattle.std.proofs.Common.{◌≡◌, subst}
use Rattle.std.specs.Bool.{OnTrue}
use Rattle.json.specs.Print.{escape}
use Rattle.json.proofs.Printed.Plain.{escape_on_plain}
use Rattle.lq_json.proofs.string.write_string.Goals as goal

pub write_plain-requires : goal.write_plain-requires
write_plain-requires c =
    let text = c.as_bytes-bytes.result.now in
    subst (λ b. OnTrue b (escape text ≡ text)) c.if-is_plain.true (escape_on_plain c.is_plain.result text c.is_plain.ensures)
