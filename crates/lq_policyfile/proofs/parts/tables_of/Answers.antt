use Rattle.std.proofs.Common.{◌≡◌, ◌∷◌, ◌++◌, ◌+◌, List, [], drop, map, ap, append_assoc, sym, ◌∙◌}
use Rattle.lq_security.specs.declared.policy.TablePart.{TablePart}
use Rattle.lq_policyfile.specs.File.{table_part}
use Rattle.lq_policyfile.proofs.FileLemmas.{next_table}
use Rattle.lq_policyfile.proofs.parts.tables_of.Goals as goal

pub loop-number-preserved : goal.loop-number-preserved
loop-number-preserved c =
    let part : c.in_ok-table_part.field-0 ≡ table_part c.args.entries.now c.schema-schema.result.now = c.in_ok-table_part.ensures in
    let pushed : c.push.new.self ≡ c.loop-number.parts ++ c.in_ok-table_part.field-0 ∷ [] = c.in_ok-push.ensures.ok in
    ap (λ (parts : List TablePart). parts ++ map (λ table. table_part c.args.entries.now table.schema) (drop (c.loop-number.number + 1) c.args.store.now)) pushed
    ∙ append_assoc c.loop-number.parts (c.in_ok-table_part.field-0 ∷ []) (map (λ table. table_part c.args.entries.now table.schema) (drop (c.loop-number.number + 1) c.args.store.now))
    ∙ ap (λ (p : TablePart). c.loop-number.parts ++ p ∷ map (λ table. table_part c.args.entries.now table.schema) (drop (c.loop-number.number + 1) c.args.store.now)) part
    ∙ ap (λ (parts : List TablePart). c.loop-number.parts ++ parts) (sym (next_table c.args.entries.now c.args.store.now c.loop-number.number c.schema-schema.result.now c.schema-schema.ensures.value))
    ∙ c.loop-number.invariant
