use Rattle.lq_lookup.proofs.NumberLemmas.{IsNumbering}
use Rattle.lq_lookup.proofs.numbers.numbered.Given as goal

-- the keys so far are numbered
abbrev pub invariant-loop-key : goal.invariant-loop-key
invariant-loop-key l = IsNumbering l.keys l.key-index l.firsts.keys l.numbers.items
