use Rattle.lq_security.proofs.SeenRowLemmas.{finds_cells}
use Rattle.lq_security.proofs.policy_laws.cells_by_name.Goals as goal

pub returns : goal.returns
returns c = finds_cells
