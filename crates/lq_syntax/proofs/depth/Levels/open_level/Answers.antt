use Rattle.std.proofs.Common.{◌≡◌, ◌<◌, ℕ, rules, sym}
use Rattle.lq_syntax.proofs.LevelLemmas.{opened_levels, opened_within, opens_within}
use Rattle.lq_syntax.proofs.depth.Levels.open_level.Goals as goal

pub returns-clause-past : goal.returns-clause-past
returns-clause-past c =
    let few : c.args.self.now.innermost < 64 = search rules in
    let light : c.args.self.now.weight < 256 = search rules in
    sym (opens_within c.args.self.now c.requires few light)

pub returns-clause-levels : goal.returns-clause-levels
returns-clause-levels c unpast = let few : c.args.self.now.innermost < 64 = search rules in opened_levels c.args.self.now c.requires few

pub returns-clause-within : goal.returns-clause-within
returns-clause-within c unpast =
    let few : c.args.self.now.innermost < 64 = search rules in
    let light : c.args.self.now.weight < 256 = search rules in
    opened_within c.args.self.now c.requires few light
