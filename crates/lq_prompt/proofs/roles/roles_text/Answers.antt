use Rattle.std.proofs.Common.{◌∷◌, [], ◌∙◌, codes, ap, ap₂, map}
use Rattle.std.proofs.lemmas.Result.{IfOk-weaker}
use Rattle.lq_render.specs.Grids.{grid}
use Rattle.lq_prompt.specs.Roles.{role_row}
use Rattle.lq_prompt.proofs.roles.roles_text.Goals as goal

pub returns : goal.returns
returns c =
    let rows = ap₂ (λ present roles. map (role_row present) roles) c.present_role.ensures (c.roles.ensures ∙ ap (λ parts. parts.roles) c.policies.ensures) in
    IfOk-weaker c.table_text.result _ _ (λ text is. is ∙ ap (grid [] (codes "role" ∷ codes "current" ∷ codes "bypasses row security" ∷ [])) (c.in_ok-grid.ensures ∙ rows)) c.table_text.ensures
