-- Tables as lists of numbered rows, and things found by their names.
use Rattle.std.specs.Prelude.{List, ℕ, Option}
use Rattle.std.specs.List.{position_from}
use Rattle.std.specs.Str.{bytes_eq}
use Rattle.lq_value.specs.declared.table.Schema.{Schema}
use Rattle.lq_value.specs.declared.table.Row.{Row}

-- A table: what it is called and holds, its rows in order of number, and the number of the next row to come.
pub record Table : Type 0 where
  pub schema : Schema
  pub rows : List Row
  pub next : ℕ

-- the number, from 0, of the first thing of a name
abbrev pub first_named : {A : Type 0} → (A → List ℕ) → List ℕ → List A → Option ℕ
first_named name_of name things = position_from (λ thing. bytes_eq (name_of thing) name) 0 things
