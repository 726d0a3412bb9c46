use Rattle.std.proofs.Common.{◌≡◌, map}
use Rattle.lq_translate.specs.Translation.{part_of}
use Rattle.lq_translate.proofs.calls.parts_of.Given as goal

-- the calls of the bodies so far are built
abbrev pub invariant-loop-next : goal.invariant-loop-next
invariant-loop-next g l = l.parts ≡ map (part_of g.X.TellsName.naming) l.yielded
