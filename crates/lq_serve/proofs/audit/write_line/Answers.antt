use Rattle.lq_serve.specs.Audit.{audit_line}
use Rattle.lq_serve.proofs.DeviceLemmas.{Writes-next}
use Rattle.lq_serve.proofs.audit.write_line.Goals as goal

pub returns : goal.returns
unfolding audit_line
returns g c =
    Writes-next _ _ _ _ _ _ _ _ (rw c.predicate_name.ensures at c.write_more.ensures) (Writes-next _ _ _ _ _ _ _ _ (rw c.table_name.ensures at c.write_word.ensures)
    (Writes-next _ _ _ _ _ _ _ _ (rw c.format.ensures.text at c.write_word-2.ensures) (Writes-next _ _ _ _ _ _ _ _ c.write_asked.ensures
    (Writes-next _ _ _ _ _ _ _ _ (rw c.answer_text.ensures at c.write_word-3.ensures) c.write_more-2.ensures))))
