use Rattle.std.proofs.Common.{to_z-of_z}
use Rattle.lq_host.proofs.two.TwoTest.answer.Goals as goal

pub returns : goal.returns
returns g c =
    let called = rw (to_z-of_z c.ranges.first, to_z-of_z c.ranges.second) at c.call.ensures in
    c.args.self.now.accepted.1.0 (c.args.first, c.args.second) c.requires c.call.result called
