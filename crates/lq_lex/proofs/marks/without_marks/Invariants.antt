use Rattle.std.proofs.Common.{◌≡◌, ◌≤◌, ◌↔◌, length}
use Rattle.std.specs.Str.{IsUtf8}
use Rattle.lq_grammar.specs.Script.{without_marks}
use Rattle.lq_lex.proofs.marks.without_marks.Given as goal

-- only marks were passed over
abbrev pub invariant-loop-tail : goal.invariant-loop-tail
invariant-loop-tail l = record {
  same : without_marks l.rest ≡ without_marks l.fn.bytes;
  no_longer : length l.rest ≤ length l.fn.bytes;
  text : IsUtf8 l.rest ↔ IsUtf8 l.fn.bytes;
}

abbrev pub decreases-loop-tail : goal.decreases-loop-tail
decreases-loop-tail l = length l.rest
