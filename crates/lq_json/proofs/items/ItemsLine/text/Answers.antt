-- What was written of the items is, with its end, the text of their reply.
use Rattle.std.proofs.Common.{◌++◌, ◌∙◌, List, ℕ, ap, codes}
use Rattle.lq_json.proofs.Written.{whole}
use Rattle.lq_json.proofs.items.ItemsLine.text.Goals as goal

pub returns : goal.returns
returns c ds held = c.into_bytes.ensures ∙ c.in_ok-put.ensures ∙ ap (λ (t : List ℕ). t ++ codes "]}") held.text ∙ whole ds
