-- What a writer takes of the bytes that are meant for it.
use Rattle.std.specs.Prelude.{◌++◌, List, ℕ, Option}
use Rattle.std.specs.Io.KnownBytes.{Appends}

-- The writer took some bytes, of which this is said.
pub record Receives (before after : Option (List ℕ)) (IsMeant : List ℕ → Type 0) : Type 0 where
  pub bytes : List ℕ
  pub took : Appends before after bytes
  pub is_meant : IsMeant bytes

-- These are the first of some bytes of which this is said: the writer failed over the rest.
abbrev pub IsCutShort : (List ℕ → Type 0) → List ℕ → Type 0
IsCutShort IsMeant bytes = (rest : List ℕ) × IsMeant (bytes ++ rest)
