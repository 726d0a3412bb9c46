-- The names of a rule, as the type check has them: they may be any row and any text.
use Rattle.std.specs.Prelude.{◌∷◌, List, [], codes, None}
use Rattle.lq_value.specs.declared.scalar.Scalar.TheVariants as scalar
use Rattle.lq_value.specs.declared.table.Column.{Column}
use Rattle.lq_value.specs.declared.ty.Ty.TheVariants as ty
use Rattle.lq_value.specs.declared.value.Fault.TheVariants as fault
use Rattle.lq_value.specs.declared.value.Value.TheVariants as value
use Rattle.lq_language.specs.Worlds.{Scope, World}

abbrev pub typed_world : List Column → World (Unit {0})
typed_world columns = record {
  schemas = record { name = []; columns = columns } ∷ [];
  rows = [];
  predicates = [];
  session = [];
  cell = λ row column. None;
  table = λ row. 0;
  unknown = fault.NullReference;
}

abbrev pub typed_scope : Scope (Unit {0})
typed_scope =
    record { name = codes "row"; ty = ty.Row 0; value = value.Row tt }
    ∷ record { name = codes "user"; ty = ty.Str; value = value.Scalar (scalar.Text []) } ∷ []
