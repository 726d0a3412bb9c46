-- Rows that were gathered before they are read.
use Rattle.std.specs.Prelude.{List}
use Rattle.lq_plan.specs.declared.rows.Gathered.{Gathered}

-- those that are left
abbrev pub gathered : {R : Type 0} → Gathered R → List R
gathered g = g.rows.now
