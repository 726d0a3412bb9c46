use Rattle.std.proofs.Common.{◌≡◌, drop}
use Rattle.lq_grammar.specs.Depth.{deep_from, outermost}
use Rattle.lq_syntax.specs.Levels.{IsWithin, levels_of}
use Rattle.lq_syntax.proofs.depth.is_deep.Given as goal

-- the levels are those after the tokens so far, none of which went past the limits
abbrev pub invariant-loop-token : goal.invariant-loop-token
invariant-loop-token l = record {
  within : IsWithin l.levels;
  deep : deep_from (levels_of l.levels) (drop l.token-index l.tokens) ≡ deep_from outermost l.tokens;
}
