use Rattle.lq_serve.proofs.file_fault.fault_text.Goals as goal

pub returns-in-Cell : goal.returns-in-Cell
returns-in-Cell c = rw c.in-Cell.is c.format.ensures.ok
