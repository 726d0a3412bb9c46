use Rattle.std.proofs.Common.{◌≡◌, ◌∙◌, ◌++◌, codes, IfOk, string_bytes}
use Rattle.lq_serve.specs.Loading.{fault_line, fault_text}
use Rattle.lq_serve.proofs.file_fault.fault_line.Goals as goal

pub returns : goal.returns
unfolding fault_line
returns c =
    let text : c.as_str-text.result.now ≡ fault_text c.args.fault = c.as_str-text.ensures.value ∙ c.in_ok-text.ensures in
    let wrote : IfOk c.format.result (λ line. string_bytes line ≡ codes "lq: " ++ (c.args.file.now ++ (codes ": " ++ c.as_str-text.result.now))) = c.format.ensures.ok in
    rw text at wrote
