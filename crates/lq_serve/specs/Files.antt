-- What is known of a place of files: what it holds, and its reads that were answered.
use Rattle.std.specs.Prelude.{◌≡◌, ◌∷◌, ◌++◌, List, [], ℕ, take, Option, Some, None, option_map, Result, Ok, Err, Vec, ⊤}
use Rattle.std.specs.declared.alloc.Global.{Global}
use Rattle.lq_serve.specs.declared.files.FileError.{FileError}
use Rattle.lq_serve.specs.declared.files.FileError.TheVariants as error
use Rattle.lq_serve.specs.declared.files.FileRead.{FileRead}

-- what a read with this limit gives of a file: its first bytes, or nothing where it can't be read
abbrev pub first_bytes : ℕ → Option (List ℕ) → Option (List ℕ)
first_bytes limit there = option_map (take limit) there

-- an answer to a read of a file that is known: its first bytes, or that it can't be read, or that there was no memory
abbrev pub IsAnswer : Option (List ℕ) → ℕ → Result (Vec ℕ Global) FileError → Type 0
IsAnswer there limit (Ok bytes) = Some bytes.items ≡ first_bytes limit there
IsAnswer there limit (Err error.Read) = there ≡ None
IsAnswer there limit (Err error.Memory) = ⊤

-- what a read adds to those that were answered: itself, unless there was no memory
abbrev pub readings_by : List ℕ → ℕ → Result (Vec ℕ Global) FileError → List FileRead
readings_by file limit (Ok bytes) = record { file = file; limit = limit; gave = Some bytes.items } ∷ []
readings_by file limit (Err error.Read) = record { file = file; limit = limit; gave = None } ∷ []
readings_by file limit (Err error.Memory) = []

-- known readings grew by these
abbrev pub Adds : Option (List FileRead) → Option (List FileRead) → List FileRead → Type 0
Adds None after more = ⊤
Adds (Some known) None more = ⊥
Adds (Some known) (Some now) more = now ≡ known ++ more

-- known readings grew by the first of these
pub record AddsFront (before after : Option (List FileRead)) (more : List FileRead) : Type 0 where
  pub front : List FileRead
  pub left : List FileRead
  pub split : more ≡ front ++ left
  pub added : Adds before after front
