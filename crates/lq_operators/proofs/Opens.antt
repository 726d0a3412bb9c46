-- What is in a type or a value of a known variant.
use Rattle.lq_value.specs.declared.ty.Ty.TheVariants.{outs-Int as int_out, outs-IntN as nullable_out, outs-Bool as truth_out, outs-Str as text_out, outs-Null as null_out, outs-Row as row_type_out, outs-Rec as record_type_out, outs-Seq as sequence_type_out, outs-Group as group_type_out}
use Rattle.lq_value.specs.declared.value.Value.TheVariants.{outs-Scalar as scalar_out, outs-Row as row_out, outs-Rec as record_out, outs-Group as group_out, outs-Seq as sequence_out}

pub ruleset layers = (scalar_out, row_out, record_out, group_out, sequence_out)

pub ruleset types = (int_out, nullable_out, truth_out, text_out, null_out, row_type_out, record_type_out, sequence_type_out, group_type_out)
