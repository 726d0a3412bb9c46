-- What a reply line shows.
use Rattle.std.specs.Prelude.{List, ℕ, Option, Some, None}
use Rattle.std.specs.declared.vec.Vec.{Vec}
use Rattle.std.specs.declared.alloc.Global.{Global}
use Rattle.lq_machine.specs.Machine.{memory_line}

-- the bytes that were built, or those of the memory line
abbrev pub line_bytes : Option (Vec ℕ Global) → List ℕ
line_bytes None = memory_line
line_bytes (Some built) = built.items
