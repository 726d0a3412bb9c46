use Rattle.std.proofs.Common.{◌≡◌, drop}
use Rattle.lq_grammar.specs.Script.{fits}
use Rattle.lq_grammar.proofs.ScriptLaws.{fits_from}
use Rattle.lq_serve.proofs.script_bytes.has_short_lines.Given as goal

abbrev pub invariant-loop-byte : goal.invariant-loop-byte
invariant-loop-byte l = fits_from l.room l.limit (drop l.byte-index l.bytes) ≡ fits l.limit l.bytes
