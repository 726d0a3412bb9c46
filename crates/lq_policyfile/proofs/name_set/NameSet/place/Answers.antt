use Rattle.std.proofs.Common.{◌≡◌, List, ℕ, bytes_eq, position, ap, ◌∙◌}
use Rattle.lq_policyfile.proofs.NameLemmas.{place_shown, shown}
use Rattle.lq_policyfile.proofs.name_set.NameSet.place.Goals as goal

pub returns : goal.returns
returns c =
    let found : c.get_index_of.result ≡ position (λ key. bytes_eq c.args.name.now key.now) c.self.inside.names.keys = c.get_index_of.ensures.index in
    let view : shown c.self.inside.names.keys ≡ c.args.self.now = c.self.view_is in
    found ∙ place_shown c.args.name.now c.self.inside.names.keys ∙ ap (λ (names : List (List ℕ)). position (bytes_eq c.args.name.now) names) view
