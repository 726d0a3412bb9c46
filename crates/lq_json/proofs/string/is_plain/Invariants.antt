use Rattle.json.specs.Written.{PlainBetween}
use Rattle.lq_json.proofs.string.is_plain.Given as goal

-- the bytes so far need no escape
abbrev pub invariant-loop-byte : goal.invariant-loop-byte
invariant-loop-byte l = PlainBetween l.text 0 l.byte-index
