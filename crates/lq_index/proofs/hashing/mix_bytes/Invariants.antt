-- The bytes that are left, mixed into what was mixed so far, give the whole.
use Rattle.std.proofs.Common.{◌≡◌, drop}
use Rattle.lq_index.specs.Hashes.{mix_bytes}
use Rattle.lq_index.proofs.hashing.mix_bytes.Given as goal

abbrev pub invariant-loop-byte : goal.invariant-loop-byte
invariant-loop-byte l = mix_bytes l.state (drop l.byte-index l.text) ≡ mix_bytes l.fn.state l.fn.text
