use Rattle.std.proofs.Common.{◌≡◌, ap, ◌∙◌, sym, length}
use Rattle.lq_lookup.specs.Finding.{rows_from}
use Rattle.lq_lookup.proofs.BlockLemmas.{length_rows}
use Rattle.lq_lookup.proofs.rows.Rows.len.Goals as goal

pub returns : goal.returns
returns c =
    let bounds = c.self.inside.bounds.items in
    let ps = c.self.inside.places.items in
    let keys = c.self.inside.keys.keys in
    let view : rows_from 0 keys bounds ps ≡ c.args.self.now = c.self.view_is in
    c.len.ensures.len ∙ sym (length_rows bounds ps 0 keys) ∙ ap length view
