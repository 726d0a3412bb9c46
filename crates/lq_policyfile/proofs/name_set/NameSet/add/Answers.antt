use Rattle.std.proofs.Common.{◌≡◌, ◌∷◌, ◌++◌, if◌then◌else◌, not, List, [], ℕ, bytes_eq, ap, ◌∙◌}
use Rattle.std.specs.List.{list_any}
use Rattle.lq_policyfile.specs.NameSets.{with_name}
use Rattle.lq_policyfile.specs.Names.{is_among}
use Rattle.lq_policyfile.proofs.NameLemmas.{has_shown, insert_shown, shown}
use Rattle.lq_policyfile.proofs.name_set.NameSet.add.Goals as goal

pub returns-clause-new : goal.returns-clause-new
returns-clause-new c =
    let added : c.in_ok-insert.field-0 ≡ not (list_any (λ key. bytes_eq c.args.name.now key.now) c.self.inside.names.keys) = c.in_ok-insert.ensures.added in
    let view : shown c.self.inside.names.keys ≡ c.args.self.now = c.self.view_is in
    added ∙ ap not (has_shown c.args.name.now c.self.inside.names.keys) ∙ ap (λ (names : List (List ℕ)). not (is_among names c.args.name.now)) view

pub returns-clause-names : goal.returns-clause-names
returns-clause-names c =
    let keys : c.insert.new.self.keys ≡ (if list_any (λ key. bytes_eq c.args.name.now key.now) c.self.inside.names.keys then c.self.inside.names.keys else c.self.inside.names.keys ++ c.args.name ∷ [])
    = c.in_ok-insert.ensures.keys in
    let view : shown c.self.inside.names.keys ≡ c.args.self.now = c.self.view_is in
    ap shown keys ∙ insert_shown c.args.name c.self.inside.names.keys ∙ ap (λ (names : List (List ℕ)). with_name names c.args.name.now) view
