-- The first bytes of a block stand behind the text.
use Rattle.std.proofs.Common.{◌≡◌, ◌++◌, ◌+◌, ◌∙◌, ◌≤◌, List, ℕ, ap, drop, length, rules, sym, take, take-take, take_at, vec_len}
use Rattle.lq_json.proofs.TextLemmas.{block_put}
use Rattle.lq_json.proofs.text.Text.put_block.Goals as goal

pub returns : goal.returns
returns g c =
    let before = c.fill_ahead.new.bytes.items in
    let len = c.self.inside.len in
    let within : len ≤ vec_len c.self.inside.bytes = search rules in
    let seen : take len before ≡ take len c.self.inside.bytes.items = sym (take-take len (vec_len c.self.inside.bytes) before within) ∙ ap (take len) c.fill_ahead.ensures.front in
    let fits : len ≤ length before = search rules in
    let stored : take (len + g.row.N) c.store.new.bytes ≡ take len before ++ take g.row.N c.args.block.now = c.store.ensures.stored ∙ ap (λ (b : List ℕ). take len b ++ take g.row.N c.args.block.now) c.as_mut_slice.ensures.value in
    let written = block_put before c.store.new.bytes c.args.block.now len g.row.N c.args.count fits c.requires.0 stored ∙ ap (λ (t : List ℕ). t ++ take c.args.count c.args.block.now) (seen ∙ c.self.view_is) in
    let whole : length c.store.new.bytes ≡ c.fill_ahead.new.bytes.len = search rules in
    ap (take (len + c.args.count)) (take_at c.store.new.bytes (drop (length c.store.new.bytes) before) c.fill_ahead.new.bytes.len whole) ∙ written
