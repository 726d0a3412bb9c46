-- How types are read, layer by layer.
use Rattle.std.proofs.Common.{◌≡◌, ◌∷◌, ◌+◌, ◌*◌, ◌&&◌, ◌<◌, List, [], map, ℕ, Bool, true, false, ap, ◌∙◌, sym, refl, subst, bytes_eq, arith}
use Rattle.std.specs.Cmp.Lexicographic.{pointwise}
use Rattle.lq_value.specs.declared.ty.Ty.{Ty, fold_out-Ty, map-Ty, out-Ty}
use Rattle.lq_value.specs.declared.ty.Ty.TheOpen.{Ty-F}
use Rattle.lq_value.specs.declared.ty.Ty.TheVariants as ty
use Rattle.lq_value.specs.declared.ty.Ty.TheVariants.{outs-Bool, outs-Group, outs-Int, outs-IntN, outs-Null, outs-Rec, outs-Row, outs-Seq, outs-Str}
use Rattle.lq_language.specs.Types.{all_members, is_key, key_step, parts_of, parts_step, same_layers, same_step, same_types, sum_of_members, tested_member}
use Rattle.lq_language.proofs.TypePartLaws.{parts_at, parts_out}
use Rattle.lq_typing.specs.TypeParts.{are_keys, member_parts, same_member, same_members, same_parts}

pub ruleset layers = (outs-Int, outs-IntN, outs-Bool, outs-Str, outs-Null, outs-Row, outs-Rec, outs-Seq, outs-Group)

-- ---- keys

key_out : (t : Ty) → is_key t ≡ key_step (map-Ty Ty Bool is_key (out-Ty t))
unfolding is_key
key_out t = fold_out-Ty Bool key_step t

key_at : (t : Ty) (x : Ty-F Ty) → out-Ty t ≡ x → is_key t ≡ key_step (map-Ty Ty Bool is_key x)
key_at t x e = key_out t ∙ (λ i. key_step (map-Ty Ty Bool is_key (e i)))

members_are_keys : (ms : List (List ℕ × Ty)) → all_members (map (λ (m : List ℕ × Ty). (m.0, is_key m.1)) ms) ≡ are_keys ms
members_are_keys [] = refl
members_are_keys (m ∷ ms) = ap (λ rest. is_key m.1 && rest) (members_are_keys ms)

pub key_int : is_key ty.Int ≡ true
key_int = key_at _ _ outs-Int

pub key_nullable : is_key ty.IntN ≡ true
key_nullable = key_at _ _ outs-IntN

pub key_bool : is_key ty.Bool ≡ true
key_bool = key_at _ _ outs-Bool

pub key_str : is_key ty.Str ≡ true
key_str = key_at _ _ outs-Str

pub key_null : is_key ty.Null ≡ false
key_null = key_at _ _ outs-Null

pub key_row : (n : ℕ) → is_key (ty.Row n) ≡ false
key_row n = key_at _ _ (outs-Row n)

pub key_rec : (ms : List (List ℕ × Ty)) → is_key (ty.Rec ms) ≡ are_keys ms
key_rec ms = key_at _ _ (outs-Rec ms) ∙ members_are_keys ms

pub key_seq : (t : Ty) → is_key (ty.Seq t) ≡ false
key_seq t = key_at _ _ (outs-Seq t)

pub key_group : (k : Ty) (t : Ty) → is_key (ty.Group k t) ≡ false
key_group k t = key_at _ _ (outs-Group k t)

pub ruleset keys = (key_int, key_nullable, key_bool, key_str, key_null, key_row, key_rec, key_seq, key_group)

-- ---- parts

parts_of_members : (ms : List (List ℕ × Ty)) → sum_of_members (map (λ (m : List ℕ × Ty). (m.0, parts_of m.1)) ms) ≡ member_parts ms
parts_of_members [] = refl
parts_of_members (m ∷ ms) = ap (λ rest. parts_of m.1 + rest) (parts_of_members ms)

pub parts_int : parts_of ty.Int ≡ 1
parts_int = parts_at _ _ outs-Int

pub parts_nullable : parts_of ty.IntN ≡ 1
parts_nullable = parts_at _ _ outs-IntN

pub parts_bool : parts_of ty.Bool ≡ 1
parts_bool = parts_at _ _ outs-Bool

pub parts_str : parts_of ty.Str ≡ 1
parts_str = parts_at _ _ outs-Str

pub parts_null : parts_of ty.Null ≡ 1
parts_null = parts_at _ _ outs-Null

pub parts_row : (n : ℕ) → parts_of (ty.Row n) ≡ 1
parts_row n = parts_at _ _ (outs-Row n)

pub parts_rec : (ms : List (List ℕ × Ty)) → parts_of (ty.Rec ms) ≡ 1 + member_parts ms
parts_rec ms = parts_at _ _ (outs-Rec ms) ∙ ap (λ n. 1 + n) (parts_of_members ms)

pub parts_seq : (t : Ty) → parts_of (ty.Seq t) ≡ 1 + parts_of t
parts_seq t = parts_at _ _ (outs-Seq t)

pub parts_group : (k : Ty) (t : Ty) → parts_of (ty.Group k t) ≡ 1 + (parts_of k + parts_of t)
parts_group k t = parts_at _ _ (outs-Group k t)

parts_positive_at : (x : Ty-F Ty) → 0 < parts_step (map-Ty Ty ℕ parts_of x)
parts_positive_at Ty-F.Int = omega arith
parts_positive_at Ty-F.IntN = omega arith
parts_positive_at Ty-F.Bool = omega arith
parts_positive_at Ty-F.Str = omega arith
parts_positive_at Ty-F.Null = omega arith
parts_positive_at (Ty-F.Row n) = omega arith
parts_positive_at (Ty-F.Rec ms) = omega arith
parts_positive_at (Ty-F.Seq t) = omega arith
parts_positive_at (Ty-F.Group k t) = omega arith

pub parts_positive : (t : Ty) → 0 < parts_of t
parts_positive t = subst (λ n. 0 < n) (sym (parts_out t)) (parts_positive_at (out-Ty t))

pub ruleset parts = (parts_positive, parts_int, parts_nullable, parts_bool, parts_str, parts_null, parts_row, parts_rec, parts_seq, parts_group)

-- ---- sameness

same_out : (s t : Ty) → same_types s t ≡ same_layers (map-Ty Ty (Ty → Bool) same_types (out-Ty s)) (out-Ty t)
unfolding same_types
same_out s t = ap (λ (test : Ty → Bool). test t) (fold_out-Ty (Ty → Bool) same_step s)

members_same : (ms ns : List (List ℕ × Ty)) → pointwise tested_member (map (λ (m : List ℕ × Ty). (m.0, same_types m.1)) ms) ns ≡ same_members ms ns
members_same [] [] = refl
members_same [] (n ∷ ns) = refl
members_same (m ∷ ms) [] = refl
members_same (m ∷ ms) (n ∷ ns) = ap (λ rest. same_member m n && rest) (members_same ms ns)

layers_same : (x y : Ty-F Ty) → same_layers (map-Ty Ty (Ty → Bool) same_types x) y ≡ same_parts x y
layers_same Ty-F.Int Ty-F.Int = refl
layers_same Ty-F.Int Ty-F.IntN = refl
layers_same Ty-F.Int Ty-F.Bool = refl
layers_same Ty-F.Int Ty-F.Str = refl
layers_same Ty-F.Int Ty-F.Null = refl
layers_same Ty-F.Int (Ty-F.Row m) = refl
layers_same Ty-F.Int (Ty-F.Rec ns) = refl
layers_same Ty-F.Int (Ty-F.Seq u) = refl
layers_same Ty-F.Int (Ty-F.Group l u) = refl
layers_same Ty-F.IntN Ty-F.Int = refl
layers_same Ty-F.IntN Ty-F.IntN = refl
layers_same Ty-F.IntN Ty-F.Bool = refl
layers_same Ty-F.IntN Ty-F.Str = refl
layers_same Ty-F.IntN Ty-F.Null = refl
layers_same Ty-F.IntN (Ty-F.Row m) = refl
layers_same Ty-F.IntN (Ty-F.Rec ns) = refl
layers_same Ty-F.IntN (Ty-F.Seq u) = refl
layers_same Ty-F.IntN (Ty-F.Group l u) = refl
layers_same Ty-F.Bool Ty-F.Int = refl
layers_same Ty-F.Bool Ty-F.IntN = refl
layers_same Ty-F.Bool Ty-F.Bool = refl
layers_same Ty-F.Bool Ty-F.Str = refl
layers_same Ty-F.Bool Ty-F.Null = refl
layers_same Ty-F.Bool (Ty-F.Row m) = refl
layers_same Ty-F.Bool (Ty-F.Rec ns) = refl
layers_same Ty-F.Bool (Ty-F.Seq u) = refl
layers_same Ty-F.Bool (Ty-F.Group l u) = refl
layers_same Ty-F.Str Ty-F.Int = refl
layers_same Ty-F.Str Ty-F.IntN = refl
layers_same Ty-F.Str Ty-F.Bool = refl
layers_same Ty-F.Str Ty-F.Str = refl
layers_same Ty-F.Str Ty-F.Null = refl
layers_same Ty-F.Str (Ty-F.Row m) = refl
layers_same Ty-F.Str (Ty-F.Rec ns) = refl
layers_same Ty-F.Str (Ty-F.Seq u) = refl
layers_same Ty-F.Str (Ty-F.Group l u) = refl
layers_same Ty-F.Null Ty-F.Int = refl
layers_same Ty-F.Null Ty-F.IntN = refl
layers_same Ty-F.Null Ty-F.Bool = refl
layers_same Ty-F.Null Ty-F.Str = refl
layers_same Ty-F.Null Ty-F.Null = refl
layers_same Ty-F.Null (Ty-F.Row m) = refl
layers_same Ty-F.Null (Ty-F.Rec ns) = refl
layers_same Ty-F.Null (Ty-F.Seq u) = refl
layers_same Ty-F.Null (Ty-F.Group l u) = refl
layers_same (Ty-F.Row n) Ty-F.Int = refl
layers_same (Ty-F.Row n) Ty-F.IntN = refl
layers_same (Ty-F.Row n) Ty-F.Bool = refl
layers_same (Ty-F.Row n) Ty-F.Str = refl
layers_same (Ty-F.Row n) Ty-F.Null = refl
layers_same (Ty-F.Row n) (Ty-F.Row m) = refl
layers_same (Ty-F.Row n) (Ty-F.Rec ns) = refl
layers_same (Ty-F.Row n) (Ty-F.Seq u) = refl
layers_same (Ty-F.Row n) (Ty-F.Group l u) = refl
layers_same (Ty-F.Rec ms) Ty-F.Int = refl
layers_same (Ty-F.Rec ms) Ty-F.IntN = refl
layers_same (Ty-F.Rec ms) Ty-F.Bool = refl
layers_same (Ty-F.Rec ms) Ty-F.Str = refl
layers_same (Ty-F.Rec ms) Ty-F.Null = refl
layers_same (Ty-F.Rec ms) (Ty-F.Row m) = refl
layers_same (Ty-F.Rec ms) (Ty-F.Rec ns) = members_same ms ns
layers_same (Ty-F.Rec ms) (Ty-F.Seq u) = refl
layers_same (Ty-F.Rec ms) (Ty-F.Group l u) = refl
layers_same (Ty-F.Seq t) Ty-F.Int = refl
layers_same (Ty-F.Seq t) Ty-F.IntN = refl
layers_same (Ty-F.Seq t) Ty-F.Bool = refl
layers_same (Ty-F.Seq t) Ty-F.Str = refl
layers_same (Ty-F.Seq t) Ty-F.Null = refl
layers_same (Ty-F.Seq t) (Ty-F.Row m) = refl
layers_same (Ty-F.Seq t) (Ty-F.Rec ns) = refl
layers_same (Ty-F.Seq t) (Ty-F.Seq u) = refl
layers_same (Ty-F.Seq t) (Ty-F.Group l u) = refl
layers_same (Ty-F.Group k t) Ty-F.Int = refl
layers_same (Ty-F.Group k t) Ty-F.IntN = refl
layers_same (Ty-F.Group k t) Ty-F.Bool = refl
layers_same (Ty-F.Group k t) Ty-F.Str = refl
layers_same (Ty-F.Group k t) Ty-F.Null = refl
layers_same (Ty-F.Group k t) (Ty-F.Row m) = refl
layers_same (Ty-F.Group k t) (Ty-F.Rec ns) = refl
layers_same (Ty-F.Group k t) (Ty-F.Seq u) = refl
layers_same (Ty-F.Group k t) (Ty-F.Group l u) = refl

pub same_by_parts : (s t : Ty) → same_types s t ≡ same_parts (out-Ty s) (out-Ty t)
same_by_parts s t = same_out s t ∙ layers_same (out-Ty s) (out-Ty t)

pub ruleset sameness = (same_by_parts, outs-Int, outs-IntN, outs-Bool, outs-Str, outs-Null, outs-Row, outs-Rec, outs-Seq, outs-Group)
