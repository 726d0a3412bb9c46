-- Numbers that rise, as they are passed through beside rows whose numbers rise too.
use Rattle.std.specs.Prelude.{◌∷◌, ◌==◌, if◌then◌else◌, List, [], ℕ, Bool, false, nat_lt}
use Rattle.lq_value.specs.declared.table.Row.{Row}
use Rattle.lq_store.specs.Rules.{AreNumbered}

-- rows in the order of their numbers, none of which another row has
abbrev pub Rise : List Row → Type 0
Rise rows = (next : ℕ) × AreNumbered 1 rows next

-- these numbers without those at their head that are below this one
abbrev pub from_number : List ℕ → ℕ → List ℕ
from_number [] number = []
from_number (first ∷ behind) number = if nat_lt first number then from_number behind number else first ∷ behind

-- whether this number is at their head
abbrev pub is_first : List ℕ → ℕ → Bool
is_first [] number = false
is_first (first ∷ behind) number = first == number
