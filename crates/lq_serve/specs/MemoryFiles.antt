-- Files in memory, as a place of files of which everything is known.
use Rattle.std.specs.Prelude.{◌∷◌, if◌then◌else◌, List, [], ℕ, Option, Some, None}
use Rattle.std.specs.Borrow.{Bor}
use Rattle.std.specs.Str.{bytes_eq}
use Rattle.lq_serve.specs.declared.files.FileRead.{FileRead}
use Rattle.lq_serve.specs.declared.memory_files.MemoryFiles.{MemoryFiles}

-- the names of the files, each with its bytes
abbrev pub files_in : MemoryFiles → List (Bor (List ℕ) × Bor (List ℕ))
files_in place = place.files.now

-- the reads that were answered
abbrev pub readings_in : MemoryFiles → List FileRead
readings_in place = place.readings

-- the bytes of the first file of this name
abbrev pub bytes_under : List (Bor (List ℕ) × Bor (List ℕ)) → List ℕ → Option (List ℕ)
bytes_under [] name = None
bytes_under (file ∷ rest) name = if bytes_eq file.0.now name then Some file.1.now else bytes_under rest name
