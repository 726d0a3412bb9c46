-- What matches a key in a join is of the kind of what is joined.
use Rattle.std.proofs.Common.{Bool, true, false, List, [], if◌then◌else◌}
use Rattle.lq_value.specs.declared.value.Value.{Value, out-Value}
use Rattle.lq_language.specs.ClauseMeaning.{is_null_layer, matches}
use Rattle.lq_language.specs.Stream.{elements_of}
use Rattle.lq_language.specs.ValuesOfTypes.{Every}
use Rattle.lq_value.specs.SameAndOrder.{same_values}
use Rattle.lq_language.proofs.AlikeStreamLaws.{Pair, every_element}
use Rattle.lq_language.proofs.ItemLaws.{every_none}

module _ {R : Type 0} (P Q : Value R → Type 0) where
  pub every_match : (key : Value R) (qs : List (Value R × Value R)) → Every (Pair P Q) qs → Every Q (matches key qs)
  every_match key qs ps = by (is_null_layer (out-Value R key)) where
    by : (null : Bool) → Every Q (if null then [] else elements_of same_values key qs)
    by true = every_none Q
    by false = every_element P Q same_values key qs ps
