use Rattle.std.proofs.Common.{◌≡◌, ◌-◌}
use Rattle.lq_grammar.specs.Parsing.{cells, more_cells}
use Rattle.lq_syntax.proofs.cells.cells.Given as goal

abbrev pub invariant-loop-turn : goal.invariant-loop-turn
invariant-loop-turn l = cells l.line l.fn.tokens ≡ more_cells l.line (l._turn-end - l._turn) l.cells l.tokens
