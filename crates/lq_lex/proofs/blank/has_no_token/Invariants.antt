use Rattle.std.proofs.Common.{◌≡◌, length, drop}
use Rattle.std.specs.Str.{chars}
use Rattle.lq_lex.specs.Blank as spec
use Rattle.lq_lex.specs.declared.blank.Scan.TheVariants as scan
use Rattle.lq_lex.proofs.blank.has_no_token.Given as goal

abbrev pub invariant-loop-c : goal.invariant-loop-c
invariant-loop-c l = spec.has_no_token l.scan (drop (length l.yielded) (chars l.text)) ≡ spec.has_no_token scan.Between (chars l.text)
