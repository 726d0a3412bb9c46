use Rattle.std.proofs.Common.{◌≡◌, ◌+◌, length, drop}
use Rattle.std.specs.Str.{chars}
use Rattle.lq_language.specs.Operations.{utf16_units}
use Rattle.lq_scalar.proofs.texts.utf16_units.Given as goal

-- the units so far and those of the characters that are left
abbrev pub invariant-loop-c : goal.invariant-loop-c
invariant-loop-c l = l.units + utf16_units (drop (length l.yielded) (chars l.text)) ≡ utf16_units (chars l.text)
