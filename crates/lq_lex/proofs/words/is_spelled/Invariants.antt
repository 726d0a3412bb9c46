use Rattle.std.proofs.Common.{◌≡◌, length}
use Rattle.std.specs.Str.{bytes_eq}
use Rattle.lq_lex.proofs.words.is_spelled.Given as goal

abbrev pub invariant-loop-name : goal.invariant-loop-name
invariant-loop-name l = bytes_eq l.name l.word ≡ bytes_eq l.initial.name l.initial.word

abbrev pub decreases-loop-name : goal.decreases-loop-name
decreases-loop-name l = length l.name
