-- What an expression names: a table, a column of a table, or a host predicate, with the place at which it is asked.
use Rattle.std.specs.Prelude.{◌∷◌, List, [], map, ℕ}
use Rattle.lq_host.specs.declared.call.Pick.{Pick}
use Rattle.lq_host.specs.declared.call.Pick.TheVariants as numbers
use Rattle.lq_language.specs.declared.rights.Use.{Use}
use Rattle.lq_language.specs.declared.rights.Use.TheVariants as of

-- Tables, columns and predicates by their numbers. A predicate is asked of columns of a row, which is of a table.
pub data Mention : Type 0 where
  Table : ℕ → Mention
  Column : ℕ → ℕ → Mention
  HostAt : ℕ → ℕ → Pick → Mention

-- the use that it is
abbrev pub use_of : Mention → Use
use_of (Table t) = of.Table t
use_of (Column t c) = of.Column t c
use_of (HostAt p t columns) = of.Host p

abbrev pub uses_of : List Mention → List Use
uses_of named = map use_of named

-- columns of a table, each of which is named
abbrev pub columns_named : ℕ → Pick → List Mention
columns_named t (numbers.One c) = Column t c ∷ []
columns_named t (numbers.Two c d) = Column t c ∷ Column t d ∷ []
