use Rattle.std.proofs.Common.{◌∷◌, [], ◌∙◌, codes, ap, map}
use Rattle.std.proofs.lemmas.Result.{IfOk-weaker}
use Rattle.lq_session.specs.States.{state_of}
use Rattle.lq_render.specs.Grids.{grid}
use Rattle.lq_prompt.specs.Names.{name_row}
use Rattle.lq_prompt.proofs.names.names_text.Goals as goal

pub returns : goal.returns
returns g c =
    let rows = ap (map (name_row (state_of c.args.session.now))) (c.definitions.ensures.value ∙ ap (λ state. state.definitions) c.state.ensures) in
    IfOk-weaker c.table_text.result _ _ (λ text is. is ∙ ap (grid [] (codes "name" ∷ codes "kind" ∷ codes "type" ∷ [])) (c.in_ok-grid.ensures ∙ rows)) c.table_text.ensures
