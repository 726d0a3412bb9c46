-- How types and forms are read, layer by layer.
use Rattle.lq_value.specs.declared.ty.Ty.TheVariants.{outs-Bool, outs-Group, outs-Int, outs-IntN, outs-Null, outs-Rec, outs-Row, outs-Seq, outs-Str}
use Rattle.lq_tree.specs.declared.tree.Form.TheVariants as form

pub ruleset types = (outs-Int, outs-IntN, outs-Bool, outs-Str, outs-Null, outs-Row, outs-Rec, outs-Seq, outs-Group)

pub ruleset forms = (
  form.outs-Literal,
  form.outs-Slot,
  form.outs-First,
  form.outs-Second,
  form.outs-Table,
  form.outs-Column,
  form.outs-Host,
  form.outs-Member,
  form.outs-Key,
  form.outs-Unary,
  form.outs-Binary,
  form.outs-And,
  form.outs-Or,
  form.outs-Coalesce,
  form.outs-Conditional,
  form.outs-IsNull,
  form.outs-Record,
  form.outs-Pair,
  form.outs-Sequence,
  form.outs-Simple,
  form.outs-Given,
  form.outs-Where,
  form.outs-Select,
  form.outs-All,
  form.outs-SelectMany,
  form.outs-Join,
  form.outs-OrderBy,
  form.outs-GroupBy,
)
