use Rattle.std.proofs.Common.{◌≡◌, ◌∷◌, ◌++◌, if◌then◌else◌, not, List, [], ap, ◌∙◌}
use Rattle.std.specs.List.{list_any}
use Rattle.lq_value.specs.KeyTests.{key_is}
use Rattle.lq_value.specs.Lookups.{with_key}
use Rattle.lq_value.specs.declared.key.Key.{Key}
use Rattle.lq_lookup.proofs.FirstLemmas.{has_shown, insert_shown, shown}
use Rattle.lq_lookup.proofs.firsts.Seen.add.Goals as goal

pub returns-clause-new : goal.returns-clause-new
returns-clause-new c =
    let added : c.in_ok-insert.field-0 ≡ not (list_any (λ key. key_is c.args.key.now key.now) c.self.inside.keys.keys) = c.in_ok-insert.ensures.added in
    let view : shown c.self.inside.keys.keys ≡ c.args.self.now = c.self.view_is in
    added ∙ ap not (has_shown c.args.key.now c.self.inside.keys.keys) ∙ ap (λ (keys : List Key). not (list_any (key_is c.args.key.now) keys)) view

pub returns-clause-keys : goal.returns-clause-keys
returns-clause-keys c =
    let keys : c.insert.new.self.keys ≡ (if list_any (λ key. key_is c.args.key.now key.now) c.self.inside.keys.keys then c.self.inside.keys.keys else c.self.inside.keys.keys ++ c.args.key ∷ [])
    = c.in_ok-insert.ensures.keys in
    let view : shown c.self.inside.keys.keys ≡ c.args.self.now = c.self.view_is in
    ap shown keys ∙ insert_shown c.args.key c.self.inside.keys.keys ∙ ap (λ (ks : List Key). with_key key_is ks c.args.key.now) view
