-- What is said of the members of a record's type, in terms of what is said of each one's type.
use Rattle.std.specs.Prelude.{◌∷◌, ◌+◌, ◌&&◌, ◌==◌, List, [], ℕ, Bool, true, false}
use Rattle.std.specs.Cmp.Lexicographic.{pointwise}
use Rattle.std.specs.Str.{bytes_eq}
use Rattle.lq_value.specs.declared.ty.Ty.{Ty}
use Rattle.lq_value.specs.declared.ty.Ty.TheOpen.{Ty-F}
use Rattle.lq_language.specs.Types.{is_key, parts_of, same_types}

-- whether all members are of key types
abbrev pub are_keys : List (List ℕ × Ty) → Bool
are_keys [] = true
are_keys (m ∷ ms) = is_key m.1 && are_keys ms

-- how many parts the members' types consist of
abbrev pub member_parts : List (List ℕ × Ty) → ℕ
member_parts [] = 0
member_parts (m ∷ ms) = parts_of m.1 + member_parts ms

-- whether two members have one name and one type
abbrev pub same_member : List ℕ × Ty → List ℕ × Ty → Bool
same_member m n = bytes_eq m.0 n.0 && same_types m.1 n.1

abbrev pub same_members : List (List ℕ × Ty) → List (List ℕ × Ty) → Bool
same_members ms ns = pointwise same_member ms ns

-- two types layer by layer
abbrev pub same_parts : Ty-F Ty → Ty-F Ty → Bool
same_parts Ty-F.Int Ty-F.Int = true
same_parts Ty-F.IntN Ty-F.IntN = true
same_parts Ty-F.Bool Ty-F.Bool = true
same_parts Ty-F.Str Ty-F.Str = true
same_parts Ty-F.Null Ty-F.Null = true
same_parts (Ty-F.Row m) (Ty-F.Row n) = m == n
same_parts (Ty-F.Rec ms) (Ty-F.Rec ns) = same_members ms ns
same_parts (Ty-F.Seq t) (Ty-F.Seq u) = same_types t u
same_parts (Ty-F.Group k t) (Ty-F.Group l u) = same_types k l && same_types t u
same_parts layer other = false
