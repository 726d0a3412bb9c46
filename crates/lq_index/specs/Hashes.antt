-- The hash of a scalar, and the slot at which a search for it begins. That hashes are spread well is no matter of proof: a search is
-- right whatever the hashes are, and short where few scalars have one home.
use Rattle.std.specs.Prelude.{List, [], ◌∷◌, ℕ, ◌+◌, ◌*◌, ◌%◌, ◌/◌, ◌^◌, true, false, unsigned_abs, if◌then◌else◌, nat_lt}
use Rattle.lq_value.specs.declared.scalar.Scalar.{Scalar}
use Rattle.lq_value.specs.declared.scalar.Scalar.TheVariants as scalar

-- a number is added to what was mixed so far, and the sum is multiplied by 2^64 over the golden ratio
unfoldable pub mix : ℕ → ℕ → ℕ
mix state number = ((state + number) % 2 ^ 64) * 0x9e37_79b9_7f4a_7c15 % 2 ^ 64

-- the bytes of a text, one after another
abbrev pub mix_bytes : ℕ → List ℕ → ℕ
mix_bytes state [] = state
mix_bytes state (byte ∷ bytes) = mix_bytes (mix state byte) bytes

-- a scalar, by its kind and its content
abbrev pub mix_scalar : Scalar → ℕ
mix_scalar scalar.Null = mix 7 0
mix_scalar (scalar.Int n) = mix 3 (unsigned_abs n)
mix_scalar (scalar.Bool true) = mix 5 1
mix_scalar (scalar.Bool false) = mix 5 0
mix_scalar (scalar.Text t) = mix (mix_bytes 11 t) 13

-- the hash of a scalar: the upper 32 bits, which depend on all bits of what was mixed
unfoldable pub hash_of : Scalar → ℕ
hash_of s = mix_scalar s / 4294967296

-- the home of a hash among so many slots: it is to the slots as the hash is to 2^32
unfoldable pub home : ℕ → ℕ → ℕ
home width hash = let place = hash * width / 4294967296 in if nat_lt place width then place else 0
