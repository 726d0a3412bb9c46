-- What a key matches at one place of the inner side of a join.
use Rattle.std.specs.Prelude.{List, ℕ}
use Rattle.std.specs.Option.{option_to_list}
use Rattle.lq_value.specs.declared.value.Value.{Value}
use Rattle.lq_value.specs.declared.value.Value.TheVariants as value
use Rattle.lq_operators.specs.Matching.{item_at}
use Rattle.lq_operators.specs.declared.matches.Matches.{Matches}
use Rattle.lq_pipe.specs.declared.joining.Sought.{Sought}
use Rattle.lq_pipe.specs.declared.joining.Sought.TheVariants as of_sought

-- the key that is looked for
abbrev pub sought : {R : Type 0} → Sought R → Value R
sought (of_sought.Cell s) = value.Scalar s.now
sought (of_sought.Made v) = v.now

-- the item there, where the key matches it, and else none
abbrev pub match_at : {R : Type 0} → Matches R → Value R → ℕ → List (Value R)
match_at matches key place = option_to_list (item_at matches key place)
