use Rattle.std.proofs.Common.{◌≡◌, ◌++◌, ◌∷◌, [], ◌∙◌, ap, codes}
use Rattle.lq_language.specs.declared.rights.Use.TheVariants as used
use Rattle.lq_prompt.specs.Rights.{column_rows, right_row}
use Rattle.lq_prompt.proofs.TableLemmas.{two_more}
use Rattle.lq_prompt.proofs.rights.add_table.Goals as goal

pub returns : goal.returns
returns c =
    let s = c.args.state.now in
    let schema = c.args.schema.now in
    let columns : c.add_columns.new.grid ≡ c.args.grid.now ++ column_rows s schema.name c.args.table 0 schema.columns = c.in_ok-add_columns.ensures in
    let first : c.push.new.self ≡ c.add_columns.new.grid ++ c.in_ok-right_row.field-0 ∷ [] = c.in_ok-push.ensures.ok in
    let insert : c.in_ok-right_row.field-0 ≡ right_row s schema.name (codes "insert") (used.Insert c.args.table) =
    c.in_ok-right_row.ensures ∙ ap (λ name. right_row s name (codes "insert") (used.Insert c.args.table)) c.as_str-name.ensures in
    let delete : c.in_ok-right_row-2.field-0 ≡ right_row s schema.name (codes "delete") (used.Delete c.args.table) =
    c.in_ok-right_row-2.ensures ∙ ap (λ name. right_row s name (codes "delete") (used.Delete c.args.table)) c.as_str-name.ensures in
    two_more c.push-2.result _ _ _ _ _ _ _ _ _ columns first c.push-2.ensures.ok insert delete
