-- What an argument represents where it isn't a sequence or isn't a number, and what is kept by whether it is among others.
use Rattle.std.specs.Prelude.{if◌then◌else◌, not, [], Bool, None}
use Rattle.lq_value.specs.declared.value.Fault.TheVariants as fault
use Rattle.lq_language.specs.Worlds.{World}

-- A world of no tables, no host predicates and no names. Of a world an argument's meaning takes only what is put where there is none, here a null reference.
abbrev pub nowhere : {R : Type 0} → World R
nowhere = record { schemas = []; rows = []; predicates = []; session = []; cell = λ r name. None; table = λ r. 0; unknown = fault.NullReference }

-- whether an item is kept, where those among the others are wanted, or the rest
abbrev pub is_wanted : Bool → Bool → Bool
is_wanted wanted found = if wanted then found else not found
