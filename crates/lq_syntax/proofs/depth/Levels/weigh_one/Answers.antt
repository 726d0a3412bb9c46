use Rattle.std.proofs.Common.{◌≡◌, ◌<◌, ℕ, rules, sym}
use Rattle.lq_syntax.proofs.LevelLemmas.{weighed_levels, weighed_within, weighs_within}
use Rattle.lq_syntax.proofs.depth.Levels.weigh_one.Goals as goal

pub returns-clause-past : goal.returns-clause-past
returns-clause-past c = let light : c.args.self.now.weight < 256 = search rules in sym (weighs_within c.args.self.now c.requires light)

pub returns-clause-levels : goal.returns-clause-levels
returns-clause-levels c unpast = weighed_levels c.args.self.now c.requires

pub returns-clause-within : goal.returns-clause-within
returns-clause-within c unpast = let light : c.args.self.now.weight < 256 = search rules in weighed_within c.args.self.now c.requires light
