-- Types as they are written, what may be done with a type, and names that may be brought in (ECMA-334, types and scopes).
use Rattle.std.specs.Prelude.{◌∷◌, ◌&&◌, ◌||◌, ◌+◌, ◌==◌, if◌then◌else◌, not, List, [], ℕ, Bool, true, false, Option, Some, None, option_and_then, is_some, nat_le}
use Rattle.std.specs.Cmp.Lexicographic.{pointwise}
use Rattle.std.specs.Str.{bytes_eq}
use Rattle.lq_value.specs.declared.ty.Ty.{Ty, fold-Ty, out-Ty}
use Rattle.lq_value.specs.declared.ty.Ty.TheOpen.{Ty-F}
use Rattle.lq_language.specs.Names.{Names, local_type}
use Rattle.lq_language.specs.OperandTypes.{is_scalar}

-- ---- types

-- a member with a test of its type, and another member
abbrev pub tested_member : List ℕ × (Ty → Bool) → List ℕ × Ty → Bool
tested_member m n = bytes_eq m.0 n.0 && m.1 n.1

-- types layer by layer, where each type in the first has become the test of what is the same as it
abbrev pub same_layers : Ty-F (Ty → Bool) → Ty-F Ty → Bool
same_layers Ty-F.Int Ty-F.Int = true
same_layers Ty-F.IntN Ty-F.IntN = true
same_layers Ty-F.Bool Ty-F.Bool = true
same_layers Ty-F.Str Ty-F.Str = true
same_layers Ty-F.Null Ty-F.Null = true
same_layers (Ty-F.Row m) (Ty-F.Row n) = m == n
same_layers (Ty-F.Rec ms) (Ty-F.Rec ns) = pointwise tested_member ms ns
same_layers (Ty-F.Seq t) (Ty-F.Seq u) = t u
same_layers (Ty-F.Group k t) (Ty-F.Group l u) = k l && t u
same_layers layer other = false

abbrev pub same_step : Ty-F (Ty → Bool) → Ty → Bool
same_step layer other = same_layers layer (out-Ty other)

-- whether two types are written the same
unfoldable pub same_types : Ty → Ty → Bool
same_types = fold-Ty (Ty → Bool) same_step

abbrev pub all_members : List (List ℕ × Bool) → Bool
all_members [] = true
all_members (m ∷ ms) = m.1 && all_members ms

abbrev pub key_step : Ty-F Bool → Bool
key_step Ty-F.Int = true
key_step Ty-F.IntN = true
key_step Ty-F.Bool = true
key_step Ty-F.Str = true
key_step (Ty-F.Rec ms) = all_members ms
key_step layer = false

-- key types: int, int?, bool, string, and records of key types
unfoldable pub is_key : Ty → Bool
is_key = fold-Ty Bool key_step

abbrev pub sum_of_members : List (List ℕ × ℕ) → ℕ
sum_of_members [] = 0
sum_of_members (m ∷ ms) = m.1 + sum_of_members ms

abbrev pub parts_step : Ty-F ℕ → ℕ
parts_step (Ty-F.Rec ms) = 1 + sum_of_members ms
parts_step (Ty-F.Seq t) = 1 + t
parts_step (Ty-F.Group k t) = 1 + (k + t)
parts_step layer = 1

-- how many types a type is made of, itself among them
unfoldable pub parts_of : Ty → ℕ
parts_of = fold-Ty ℕ parts_step

-- a type that an expression may have
abbrev pub is_within : Ty → Bool
is_within t = nat_le (parts_of t) 4096

-- any type but that of null, which is allowed only where a rule says so
abbrev pub has_place : Ty-F Ty → Bool
has_place Ty-F.Null = false
has_place layer = true

abbrev pub when : {A : Type 0} → Bool → Option A → Option A
when test found = if test then found else None

abbrev pub if_placed : Option Ty → Option Ty
if_placed found = option_and_then (λ t. when (has_place (out-Ty t)) (Some t)) found

abbrev pub if_key : Option Ty → Option Ty
if_key found = option_and_then (λ t. when (is_key t) (Some t)) found

-- the type of what is enumerated where this is: the items of a sequence, or of a group
abbrev pub element_type : Ty-F Ty → Option Ty
element_type (Ty-F.Seq t) = Some t
element_type (Ty-F.Group k t) = Some t
element_type layer = None

-- an int and an int?, in either order
abbrev pub are_widened : Ty-F Ty → Ty-F Ty → Bool
are_widened Ty-F.Int Ty-F.IntN = true
are_widened Ty-F.IntN Ty-F.Int = true
are_widened s t = false

-- what `join` compares: two keys of one type, or an int with an int?
abbrev pub are_join_keys : Option Ty → Option Ty → Bool
are_join_keys (Some s) (Some t) = (is_key s && same_types s t) || are_widened (out-Ty s) (out-Ty t)
are_join_keys s t = false

-- what `orderby` sorts by
abbrev pub is_sort_key : Option Ty → Bool
is_sort_key None = false
is_sort_key (Some t) = is_scalar (out-Ty t)

-- ---- names

-- whether a name is none of those in scope, so that it may be brought in
abbrev pub is_fresh : Names → List ℕ → Bool
is_fresh names n = not (is_some (local_type n names.locals))

-- the type of a name that is brought in
abbrev pub fresh_type : Names → List ℕ → Option Ty → Option Ty
fresh_type names n found = when (is_fresh names n) found
