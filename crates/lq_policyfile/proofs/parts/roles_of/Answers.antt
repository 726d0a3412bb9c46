use Rattle.std.proofs.Common.{◌≡◌, List, ℕ, map, IfOk, subst, ◌∙◌}
use Rattle.lq_policyfile.specs.File.{role_part}
use Rattle.lq_policyfile.specs.Names.{role_names}
use Rattle.lq_policyfile.proofs.NameLemmas.{set_of_new}
use Rattle.lq_policyfile.proofs.parts.roles_of.Goals as goal

pub returns : goal.returns
returns c =
    let names : c.in_ok-names.names ≡ role_names c.args.entries.now = c.in_ok-names.ensures ∙ set_of_new (role_names c.args.entries.now) c.requires in
    subst (λ (ns : List (List ℕ)). IfOk c.role_parts.result (λ roles. roles ≡ map (role_part ns) c.args.entries.now)) names c.role_parts.ensures
