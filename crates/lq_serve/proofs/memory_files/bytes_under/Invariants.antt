use Rattle.std.proofs.Common.{◌≡◌, drop}
use Rattle.lq_serve.specs.MemoryFiles.{bytes_under}
use Rattle.lq_serve.proofs.memory_files.bytes_under.Given as goal

-- none of the files so far has the name
abbrev pub invariant-loop-file : goal.invariant-loop-file
invariant-loop-file l = bytes_under (drop l.file-index l.files) l.name ≡ bytes_under l.files l.name
