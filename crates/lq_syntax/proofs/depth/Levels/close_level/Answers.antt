use Rattle.std.proofs.Common.{◌≡◌, ◌<◌, ℕ, rules}
use Rattle.lq_syntax.proofs.LevelLemmas.{closes_within}
use Rattle.lq_syntax.proofs.depth.Levels.close_level.Goals as goal

pub returns-then-self-gt0-clause-past : goal.returns-then-self-gt0-clause-past
returns-then-self-gt0-clause-past c =
    let some : 0 < c.args.self.now.innermost = search rules in closes_within c.args.self.now c.requires some
