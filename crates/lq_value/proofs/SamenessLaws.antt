-- Two values are the same exactly where they are one key.
use Rattle.std.proofs.Common.{◌≡◌, ◌∷◌, ◌&&◌, List, [], map, ℕ, zero, suc, Bool, true, false, Some, ap, ◌∙◌, sym, refl, subst, bytes_eq, slice_get}
use Rattle.std.specs.Cmp.{first_so, second_so}
use Rattle.std.specs.Cmp.Lexicographic.{pointwise}
use Rattle.std.proofs.lemmas.Option.{none-some, same_Some}
use Rattle.std.proofs.lemmas.Slice.Eq.{bytes_eq-Decides}
use Rattle.lq_value.specs.KeyTests.{scalars_decide}
use Rattle.lq_value.specs.SameAndOrder.{IsKey, TellsKeys, by_record, by_scalar, same_layers, same_member, same_scalars, same_step, same_values, tested_member}
use Rattle.lq_value.specs.declared.scalar.Scalar.{Scalar}
use Rattle.lq_value.specs.declared.value.Value.{Value, fold_out-Value, ind-Value, map-Value, out-Value, roll-Value}
use Rattle.lq_value.specs.declared.value.Value.TheOpen.{Value-F}
use Rattle.lq_value.specs.declared.value.Value.TheVariants as value
use Rattle.lq_value.specs.declared.value.Value.TheVariants.{outs-Rec, outs-Scalar, rolls-Rec, rolls-Scalar}
use Rattle.lq_value.specs.declared.value.Value.TheViews.{out-roll-Value, roll-out-Value}

-- ---- the equations of sameness

module _ (R : Type 0) where
  abbrev pub Members : Type 0
  Members = List (List ℕ × Value R)

  -- a layer, with each value in it turned into the test of what is the same
  abbrev tests : Value-F R (Value R) → Value-F R (Value R → Bool)
  tests layer = map-Value R (Value R) (Value R → Bool) same_values layer

  same_out : (v w : Value R) → same_values v w ≡ same_layers (tests (out-Value R v)) (out-Value R w)
  unfolding same_values
  same_out v w = ap (λ (test : Value R → Bool). test w) (fold_out-Value R (Value R → Bool) same_step v)

  pub same_at : (v w : Value R) (x y : Value-F R (Value R)) → out-Value R v ≡ x → out-Value R w ≡ y → same_values v w ≡ same_layers (tests x) y
  same_at v w x y e f = same_out v w ∙ (λ i. same_layers (tests (e i)) (f i))

  made : (v : Value R) (x : Value-F R (Value R)) → out-Value R v ≡ x → v ≡ roll-Value R x
  made v x h = sym (roll-out-Value R v) ∙ ap (roll-Value R) h

  paired : (ms ns : Members) → pointwise tested_member (map (λ (m : List ℕ × Value R). (m.0, same_values m.1)) ms) ns ≡ pointwise same_member ms ns
  paired [] [] = refl
  paired [] (n ∷ ns) = refl
  paired (m ∷ ms) [] = refl
  paired (m ∷ ms) (n ∷ ns) = ap (λ rest. same_member m n && rest) (paired ms ns)

  pub scalar_scalar : (s t : Scalar) → same_values {R = R} (value.Scalar s) (value.Scalar t) ≡ same_scalars s t
  scalar_scalar s t = same_at _ _ _ _ (outs-Scalar s) (outs-Scalar t)

  pub record_record : (ms ns : Members) → same_values (value.Rec ms) (value.Rec ns) ≡ pointwise same_member ms ns
  record_record ms ns = same_at _ _ _ _ (outs-Rec ms) (outs-Rec ns) ∙ paired ms ns

  -- the same, where the values are known to be records
  pub records_by : (ms ns : Members) (v w : Value R) → v ≡ value.Rec ms → w ≡ value.Rec ns → pointwise same_member ms ns ≡ same_values v w
  records_by ms ns v w v_is w_is = sym ((λ i. same_values (v_is i) (w_is i)) ∙ record_record ms ns)

  -- a scalar is the same as scalars alone, a record as records, and any other value as nothing
  pub scalar_other : (s : Scalar) (v w : Value R) → v ≡ value.Scalar s → ((t : Scalar) → w ≡ value.Scalar t → ⊥) → false ≡ same_values v w
  scalar_other s v w is none = sym (by (out-Value R w) refl) where
    by : (layer : Value-F R (Value R)) → out-Value R w ≡ layer → same_values v w ≡ false
    by (Value-F.Scalar t) h = absurd (none t (made w _ h ∙ rolls-Scalar t))
    by (Value-F.Row r) h = same_at v w _ _ (ap (out-Value R) is ∙ outs-Scalar s) h
    by (Value-F.Rec ns) h = same_at v w _ _ (ap (out-Value R) is ∙ outs-Scalar s) h
    by (Value-F.Group k vs) h = same_at v w _ _ (ap (out-Value R) is ∙ outs-Scalar s) h
    by (Value-F.Seq vs e) h = same_at v w _ _ (ap (out-Value R) is ∙ outs-Scalar s) h

  pub record_other : (ms : Members) (v w : Value R) → v ≡ value.Rec ms → ((ns : Members) → w ≡ value.Rec ns → ⊥) → false ≡ same_values v w
  record_other ms v w is none = sym (by (out-Value R w) refl) where
    by : (layer : Value-F R (Value R)) → out-Value R w ≡ layer → same_values v w ≡ false
    by (Value-F.Rec ns) h = absurd (none ns (made w _ h ∙ rolls-Rec ns))
    by (Value-F.Scalar t) h = same_at v w _ _ (ap (out-Value R) is ∙ outs-Rec ms) h
    by (Value-F.Row r) h = same_at v w _ _ (ap (out-Value R) is ∙ outs-Rec ms) h
    by (Value-F.Group k vs) h = same_at v w _ _ (ap (out-Value R) is ∙ outs-Rec ms) h
    by (Value-F.Seq vs e) h = same_at v w _ _ (ap (out-Value R) is ∙ outs-Rec ms) h

  pub no_key_other : (v w : Value R) → ((s : Scalar) → v ≡ value.Scalar s → ⊥) → ((ms : Members) → v ≡ value.Rec ms → ⊥) → false ≡ same_values v w
  no_key_other v w no_scalar no_record = sym (by (out-Value R v) refl) where
    by : (layer : Value-F R (Value R)) → out-Value R v ≡ layer → same_values v w ≡ false
    by (Value-F.Scalar s) h = absurd (no_scalar s (made v _ h ∙ rolls-Scalar s))
    by (Value-F.Rec ms) h = absurd (no_record ms (made v _ h ∙ rolls-Rec ms))
    by (Value-F.Row r) h = same_at v w _ _ h refl
    by (Value-F.Group k vs) h = same_at v w _ _ h refl
    by (Value-F.Seq vs e) h = same_at v w _ _ h refl

pub ruleset sameness = (scalar_scalar, records_by, scalar_other, record_other, no_key_other)

-- ---- two values are the same exactly where they are one key

module _ (R : Type 0) where
  -- each member's value is a key
  abbrev AreKeys : Members R → Type 0
  AreKeys ms = (i : ℕ) (m : List ℕ × Value R) → slice_get ms i ≡ Some m → IsKey m.1

  keys_with : (m : List ℕ × Value R) (ms : Members R) → IsKey m.1 → AreKeys ms → AreKeys (m ∷ ms)
  keys_with m ms key keys zero n e = subst (λ (k : List ℕ × Value R). IsKey k.1) (same_Some m n e) key
  keys_with m ms key keys (suc i) n e = keys i n e

  -- what is the same as a value is that value, and a key
  abbrev Tells : Value R → Type 0
  Tells v = (w : Value R) → same_values v w ≡ true → IsKey v × (v ≡ w)

  abbrev Telling : Type 0
  Telling = (v : Value R) × Tells v

  abbrev bare : List (List ℕ × Telling) → Members R
  bare ms = map (λ (m : List ℕ × Telling). (m.0, m.1.0)) ms

  members_tell : (ms : List (List ℕ × Telling)) (ns : Members R) → pointwise same_member (bare ms) ns ≡ true → AreKeys (bare ms) × (bare ms ≡ ns)
  members_tell [] [] h = (λ i m e. absurd (none-some m e), refl)
  members_tell [] (n ∷ ns) h = absurd (cc h)
  members_tell (m ∷ ms) [] h = absurd (cc h)
  members_tell (m ∷ ms) (n ∷ ns) h =
      let here = first_so (same_member (m.0, m.1.0) n) (pointwise same_member (bare ms) ns) h in
      let others = members_tell ms ns (second_so (same_member (m.0, m.1.0) n) (pointwise same_member (bare ms) ns) h) in
      let name = (bytes_eq-Decides m.0 n.0).0 (first_so (bytes_eq m.0 n.0) (same_values m.1.0 n.1) here) in
      let told = m.1.1 n.1 (second_so (bytes_eq m.0 n.0) (same_values m.1.0 n.1) here) in
      (keys_with (m.0, m.1.0) (bare ms) told.0 others.0, λ i. (name i, told.1 i) ∷ others.1 i)

  abbrev plain : Value-F R Telling → Value-F R (Value R)
  plain layer = map-Value R Telling (Value R) (λ v. v.0) layer

  layers_tell : (y : Value-F R Telling) (w : Value R) (z : Value-F R (Value R)) → out-Value R w ≡ z → same_layers (tests R (plain y)) z ≡ true
      → IsKey (roll-Value R (plain y)) × (roll-Value R (plain y) ≡ w)
  layers_tell (Value-F.Scalar s) w (Value-F.Scalar t) h e =
      (by_scalar _ s (rolls-Scalar s), ap (λ (u : Scalar). roll-Value R (Value-F.Scalar u)) ((scalars_decide s t).0 e) ∙ sym (made R w _ h))
  layers_tell (Value-F.Rec ms) w (Value-F.Rec ns) h e =
      let members = members_tell ms ns (sym (paired R (bare ms) ns) ∙ e) in
      (by_record _ (bare ms) (rolls-Rec (bare ms)) members.0, ap (λ (os : Members R). roll-Value R (Value-F.Rec os)) members.1 ∙ sym (made R w _ h))
  layers_tell y w z h e = absurd (cc e)

  tells_layer : (x : Value-F R (Value R)) (y : Value-F R Telling) → plain y ≡ x → Tells (roll-Value R x)
  tells_layer x y h =
      subst (λ (d : Value-F R (Value R)). Tells (roll-Value R d)) h
      (λ w same. layers_tell y w (out-Value R w) refl (sym (same_at R (roll-Value R (plain y)) w _ _ (out-roll-Value R (plain y)) refl) ∙ same))

  tells : (v : Value R) → Tells v
  tells v = ind-Value R Tells tells_layer v

  -- a key is the same as itself
  members_themselves : (ms : Members R) → ((i : ℕ) (m : List ℕ × Value R) → slice_get ms i ≡ Some m → same_values m.1 m.1 ≡ true)
      → pointwise same_member ms ms ≡ true
  members_themselves [] h = refl
  members_themselves (m ∷ ms) h = λ i. ((bytes_eq-Decides m.0 m.0).1 refl i && h 0 m refl i) && members_themselves ms (λ k n e. h (suc k) n e) i

  itself : {v : Value R} → IsKey v → same_values v v ≡ true
  itself (by_scalar v s is) = ap (λ (u : Value R). same_values u u) is ∙ scalar_scalar R s s ∙ (scalars_decide s s).1 refl
  itself (by_record v ms is keys) =
      ap (λ (u : Value R). same_values u u) is ∙ record_record R ms ms ∙ members_themselves ms (λ i m e. itself (keys i m e))

  pub tells_keys : TellsKeys R
  tells_keys v w = (tells v w, λ h. subst (λ (u : Value R). same_values v u ≡ true) h.1 (itself h.0))
