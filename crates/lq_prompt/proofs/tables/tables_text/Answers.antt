use Rattle.std.proofs.Common.{◌∷◌, [], ◌∙◌, codes, ap}
use Rattle.std.proofs.lemmas.Result.{IfOk-weaker}
use Rattle.lq_render.specs.Grids.{grid}
use Rattle.lq_prompt.proofs.tables.tables_text.Goals as goal

pub returns : goal.returns
returns c = IfOk-weaker c.table_text.result _ _ (λ text is. is ∙ ap (grid [] (codes "table" ∷ codes "rows seen" ∷ codes "column" ∷ codes "type" ∷ [])) c.in_ok-grid.ensures) c.table_text.ensures
