use Rattle.std.proofs.Common.{◌≡◌, ◌++◌, flat_map, string_bytes, take}
use Rattle.lq_render.specs.Cells.{shown_character}
use Rattle.lq_render.proofs.cells.push_characters.Given as goal

-- the first ones are done
abbrev pub invariant-loop-c : goal.invariant-loop-c
invariant-loop-c l = string_bytes l.out ≡ string_bytes l.initial.out ++ flat_map shown_character (take l.c-index l.characters)
