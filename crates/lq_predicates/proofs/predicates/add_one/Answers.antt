use Rattle.std.proofs.Common.{SFits, rules, to_z-of_z, w32}
use Rattle.lq_host.specs.Hosts.{hosts_of}
use Rattle.lq_host.specs.Predicates.{OfOne}
use Rattle.lq_predicates.proofs.PredicateLemmas.{as_added, as_new, of_range}
use Rattle.lq_predicates.proofs.predicates.add_one.Goals as goal

pub add-requires : goal.add-requires
add-requires g c =
    let low : SFits w32 c.args.range.0 = search rules in
    let high : SFits w32 c.args.range.1 = search rules in
    let made = c.in-Ok.ensures c.requires.accepted.0 (rw (to_z-of_z low, to_z-of_z high) c.requires.accepted.1) in
    let is = of_range _ _ c.args.name.now c.args.range _ c.requires.accepted.0 made (λ i. (to_z-of_z low i, to_z-of_z high i)) c.requires.some c.in_ok-name.ensures.ok in
    as_new (hosts_of c.args.hosts.now).predicates _ _ is (c.requires.new (OfOne c.args.range c.requires.accepted.0))

pub returns-in-Ok-clause-added : goal.returns-in-Ok-clause-added
returns-in-Ok-clause-added g c = λ set by_set.
    let low : SFits w32 c.args.range.0 = search rules in
    let high : SFits w32 c.args.range.1 = search rules in
    let made = c.in-Ok.ensures set (rw (to_z-of_z low, to_z-of_z high) by_set) in
    let is = of_range _ _ c.args.name.now c.args.range _ set made (λ i. (to_z-of_z low i, to_z-of_z high i)) c.requires.some c.in_ok-name.ensures.ok in
    as_added _ _ _ _ _ is c.add.ensures.added
