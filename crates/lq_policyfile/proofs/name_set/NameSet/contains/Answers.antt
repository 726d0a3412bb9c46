use Rattle.std.proofs.Common.{◌≡◌, List, ℕ, bytes_eq, ap, ◌∙◌}
use Rattle.std.specs.List.{list_any}
use Rattle.lq_policyfile.specs.Names.{is_among}
use Rattle.lq_policyfile.proofs.NameLemmas.{has_shown, shown}
use Rattle.lq_policyfile.proofs.name_set.NameSet.contains.Goals as goal

pub returns : goal.returns
returns c =
    let found : c.contains.result ≡ list_any (λ key. bytes_eq c.args.name.now key.now) c.self.inside.names.keys = c.contains.ensures in
    let view : shown c.self.inside.names.keys ≡ c.args.self.now = c.self.view_is in
    found ∙ has_shown c.args.name.now c.self.inside.names.keys ∙ ap (λ (names : List (List ℕ)). is_among names c.args.name.now) view
