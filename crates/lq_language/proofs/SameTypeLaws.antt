-- Two types are written the same exactly where they are one type.
use Rattle.std.proofs.Common.{◌≡◌, ◌∷◌, ◌&&◌, List, [], map, ℕ, Bool, true, ap, ◌∙◌, sym, refl, subst, bytes_eq}
use Rattle.std.specs.Cmp.{first_so, second_so}
use Rattle.std.specs.Cmp.Lexicographic.{pointwise}
use Rattle.std.proofs.lemmas.Bool.{eq-eqb, eqb-true}
use Rattle.std.proofs.lemmas.Slice.Eq.{bytes_eq-Decides}
use Rattle.lq_value.specs.declared.ty.Ty.{Ty, fold_out-Ty, ind-Ty, map-Ty, out-Ty, roll-Ty}
use Rattle.lq_value.specs.declared.ty.Ty.TheOpen.{Ty-F}
use Rattle.lq_value.specs.declared.ty.Ty.TheViews.{out-roll-Ty, roll-out-Ty}
use Rattle.lq_language.specs.Types.{same_layers, same_step, same_types, tested_member}

abbrev Members : Type 0
Members = List (List ℕ × Ty)

-- a layer, with each type in it turned into the test of what is the same
abbrev tests : Ty-F Ty → Ty-F (Ty → Bool)
tests layer = map-Ty Ty (Ty → Bool) same_types layer

same_out : (s t : Ty) → same_types s t ≡ same_layers (tests (out-Ty s)) (out-Ty t)
unfolding same_types
same_out s t = ap (λ (test : Ty → Bool). test t) (fold_out-Ty (Ty → Bool) same_step s)

same_at : (s t : Ty) (x y : Ty-F Ty) → out-Ty s ≡ x → out-Ty t ≡ y → same_types s t ≡ same_layers (tests x) y
same_at s t x y e f = same_out s t ∙ (λ i. same_layers (tests (e i)) (f i))

made : (t : Ty) (x : Ty-F Ty) → out-Ty t ≡ x → t ≡ roll-Ty x
made t x h = sym (roll-out-Ty t) ∙ ap roll-Ty h

-- what is the same as a type is that type
abbrev Tells : Ty → Type 0
Tells s = (t : Ty) → same_types s t ≡ true → s ≡ t

abbrev Telling : Type 0
Telling = (s : Ty) × Tells s

abbrev bare : List (List ℕ × Telling) → Members
bare ms = map (λ (m : List ℕ × Telling). (m.0, m.1.0)) ms

abbrev tested : Members → List (List ℕ × (Ty → Bool))
tested ms = map (λ (m : List ℕ × Ty). (m.0, same_types m.1)) ms

members_tell : (ms : List (List ℕ × Telling)) (ns : Members) → pointwise tested_member (tested (bare ms)) ns ≡ true → bare ms ≡ ns
members_tell [] [] h = refl
members_tell [] (n ∷ ns) h = absurd (cc h)
members_tell (m ∷ ms) [] h = absurd (cc h)
members_tell (m ∷ ms) (n ∷ ns) h =
    let here = first_so (tested_member (m.0, same_types m.1.0) n) (pointwise tested_member (tested (bare ms)) ns) h in
    let others = members_tell ms ns (second_so (tested_member (m.0, same_types m.1.0) n) (pointwise tested_member (tested (bare ms)) ns) h) in
    let name = (bytes_eq-Decides m.0 n.0).0 (first_so (bytes_eq m.0 n.0) (same_types m.1.0 n.1) here) in
    let told = m.1.1 n.1 (second_so (bytes_eq m.0 n.0) (same_types m.1.0 n.1) here) in
    λ i. (name i, told i) ∷ others i

abbrev plain : Ty-F Telling → Ty-F Ty
plain layer = map-Ty Telling Ty (λ t. t.0) layer

layers_tell : (y : Ty-F Telling) (t : Ty) (z : Ty-F Ty) → out-Ty t ≡ z → same_layers (tests (plain y)) z ≡ true → roll-Ty (plain y) ≡ t
layers_tell Ty-F.Int t Ty-F.Int h e = sym (made t _ h)
layers_tell Ty-F.IntN t Ty-F.IntN h e = sym (made t _ h)
layers_tell Ty-F.Bool t Ty-F.Bool h e = sym (made t _ h)
layers_tell Ty-F.Str t Ty-F.Str h e = sym (made t _ h)
layers_tell Ty-F.Null t Ty-F.Null h e = sym (made t _ h)
layers_tell (Ty-F.Row m) t (Ty-F.Row n) h e = ap (λ (k : ℕ). roll-Ty (Ty-F.Row k)) (eqb-true m n e) ∙ sym (made t _ h)
layers_tell (Ty-F.Rec ms) t (Ty-F.Rec ns) h e = ap (λ (os : Members). roll-Ty (Ty-F.Rec os)) (members_tell ms ns e) ∙ sym (made t _ h)
layers_tell (Ty-F.Seq s) t (Ty-F.Seq u) h e = ap (λ (v : Ty). roll-Ty (Ty-F.Seq v)) (s.1 u e) ∙ sym (made t _ h)
layers_tell (Ty-F.Group k s) t (Ty-F.Group l u) h e =
    (λ i. roll-Ty (Ty-F.Group (k.1 l (first_so (same_types k.0 l) (same_types s.0 u) e) i) (s.1 u (second_so (same_types k.0 l) (same_types s.0 u) e) i)))
    ∙ sym (made t _ h)
layers_tell y t z h e = absurd (cc e)

tells_layer : (x : Ty-F Ty) (y : Ty-F Telling) → plain y ≡ x → Tells (roll-Ty x)
tells_layer x y h =
    subst (λ (d : Ty-F Ty). Tells (roll-Ty d)) h
    (λ t same. layers_tell y t (out-Ty t) refl (sym (same_at (roll-Ty (plain y)) t _ _ (out-roll-Ty (plain y)) refl) ∙ same))

-- types that are written the same are one
pub same_type : (s : Ty) → Tells s
same_type s = ind-Ty Tells tells_layer s

-- ---- a type is the same as itself

abbrev Itself : Ty → Type 0
Itself s = same_types s s ≡ true

abbrev Sure : Type 0
Sure = (s : Ty) × Itself s

abbrev bare_members : List (List ℕ × Sure) → Members
bare_members ms = map (λ (m : List ℕ × Sure). (m.0, m.1.0)) ms

members_themselves : (ms : List (List ℕ × Sure)) → pointwise tested_member (tested (bare_members ms)) (bare_members ms) ≡ true
members_themselves [] = refl
members_themselves (m ∷ ms) = λ i. ((bytes_eq-Decides m.0 m.0).1 refl i && m.1.1 i) && members_themselves ms i

abbrev sure_plain : Ty-F Sure → Ty-F Ty
sure_plain layer = map-Ty Sure Ty (λ t. t.0) layer

layer_itself : (y : Ty-F Sure) → same_layers (tests (sure_plain y)) (sure_plain y) ≡ true
layer_itself Ty-F.Int = refl
layer_itself Ty-F.IntN = refl
layer_itself Ty-F.Bool = refl
layer_itself Ty-F.Str = refl
layer_itself Ty-F.Null = refl
layer_itself (Ty-F.Row n) = eq-eqb n n refl
layer_itself (Ty-F.Rec ms) = members_themselves ms
layer_itself (Ty-F.Seq t) = t.1
layer_itself (Ty-F.Group k t) = λ i. k.1 i && t.1 i

itself_layer : (x : Ty-F Ty) (y : Ty-F Sure) → sure_plain y ≡ x → Itself (roll-Ty x)
itself_layer x y h =
    subst (λ (d : Ty-F Ty). Itself (roll-Ty d)) h
    (same_at (roll-Ty (sure_plain y)) (roll-Ty (sure_plain y)) _ _ (out-roll-Ty (sure_plain y)) (out-roll-Ty (sure_plain y)) ∙ layer_itself y)

pub same_itself : (s : Ty) → Itself s
same_itself s = ind-Ty Itself itself_layer s
