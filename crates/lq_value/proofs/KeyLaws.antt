-- Two values of one key type have equal keys exactly where they are the same.
use Rattle.std.proofs.Common.{◌≡◌, ◌∷◌, ◌++◌, ◌&&◌, List, [], map, ℕ, true, ap, ◌∙◌, sym, refl, append_assoc, bytes_eq, true≢false}
use Rattle.std.specs.Cmp.{first_so, second_so}
use Rattle.std.specs.Cmp.Lexicographic.{pointwise}
use Rattle.std.proofs.lemmas.List.{append-nil}
use Rattle.std.proofs.lemmas.Slice.Eq.{bytes_eq-Decides}
use Rattle.lq_value.specs.KeyTests.{keys_decide, scalars_decide}
use Rattle.lq_value.specs.Keys.{AreOfKeyTypes, KeysTell, TellsEqualKeys, atoms_of, atoms_step, flat, key_of_layer, key_of_scalar, key_value, members_atoms, no_more, record_first, scalar_first}
use Rattle.lq_value.specs.SameAndOrder.{same_member, same_values}
use Rattle.lq_value.proofs.SamenessLaws.{Members, record_record, same_at, scalar_scalar}
use Rattle.lq_value.specs.declared.key.Atom.{Atom}
use Rattle.lq_value.specs.declared.key.Atom.TheVariants as atom
use Rattle.lq_value.specs.declared.key.Key.{Key}
use Rattle.lq_value.specs.declared.key.Key.TheVariants as key
use Rattle.lq_value.specs.declared.scalar.Scalar.{Scalar}
use Rattle.lq_value.specs.declared.scalar.Scalar.TheVariants as scalar
use Rattle.lq_value.specs.declared.ty.Ty.{Ty, out-Ty}
use Rattle.lq_value.specs.declared.ty.Ty.TheOpen.{Ty-F}
use Rattle.lq_value.specs.declared.value.Value.{Value, fold_out-Value, map-Value, out-Value}
use Rattle.lq_value.specs.declared.value.Value.TheOpen.{Value-F}
use Rattle.lq_value.specs.declared.value.Value.TheVariants as value
use Rattle.lq_value.specs.declared.value.Value.TheVariants.{outs-Group, outs-Rec, outs-Row, outs-Scalar, outs-Seq}

-- ---- the equations of atoms and keys

module _ (R : Type 0) where
  atoms_out : (v : Value R) → atoms_of v ≡ atoms_step (map-Value R (Value R) (List Atom) atoms_of (out-Value R v))
  unfolding atoms_of
  atoms_out v = fold_out-Value R (List Atom) atoms_step v

  atoms_at : (v : Value R) (x : Value-F R (Value R)) → out-Value R v ≡ x → atoms_of v ≡ atoms_step (map-Value R (Value R) (List Atom) atoms_of x)
  atoms_at v x h = atoms_out v ∙ ap (λ y. atoms_step (map-Value R (Value R) (List Atom) atoms_of y)) h

  in_turn : (ms : Members R) → flat (map (λ (m : List ℕ × List Atom). m.1) (map (λ (m : List ℕ × Value R). (m.0, atoms_of m.1)) ms)) ≡ members_atoms ms
  in_turn [] = refl
  in_turn (m ∷ ms) = ap (λ rest. atoms_of m.1 ++ rest) (in_turn ms)

  pub scalar_atoms : (s : Scalar) → atoms_of {R = R} (value.Scalar s) ≡ atom.One s ∷ []
  scalar_atoms s = atoms_at _ _ (outs-Scalar s)

  record_atoms_at : (v : Value R) (ms : Members R) → out-Value R v ≡ Value-F.Rec ms → atoms_of v ≡ atom.Open ∷ (members_atoms ms ++ atom.Close ∷ [])
  record_atoms_at v ms h = atoms_at v _ h ∙ ap (λ xs. atom.Open ∷ (xs ++ atom.Close ∷ [])) (in_turn ms)

  pub record_atoms : (ms : Members R) → atoms_of (value.Rec ms) ≡ atom.Open ∷ (members_atoms ms ++ atom.Close ∷ [])
  record_atoms ms = record_atoms_at _ ms (outs-Rec ms)

  pub row_atoms : (r : R) → atoms_of (value.Row r) ≡ atom.One scalar.Null ∷ []
  row_atoms r = atoms_at _ _ (outs-Row r)

  pub group_atoms : (k : Value R) (vs : List (Value R)) → atoms_of (value.Group k vs) ≡ atom.One scalar.Null ∷ []
  group_atoms k vs = atoms_at _ _ (outs-Group k vs)

  pub sequence_atoms : (vs : List (Value R)) (e : _) → atoms_of (value.Seq vs e) ≡ atom.One scalar.Null ∷ []
  sequence_atoms vs e = atoms_at _ _ (outs-Seq vs e)

  key_at : (v : Value R) (x : Value-F R (Value R)) → out-Value R v ≡ x → key_value v ≡ key_of_layer x
  unfolding key_value
  key_at v x h = ap key_of_layer h

  pub scalar_key : (s : Scalar) → key_value {R = R} (value.Scalar s) ≡ key_of_scalar s
  scalar_key s = key_at _ _ (outs-Scalar s)

  pub record_key : (ms : Members R) → key_value (value.Rec ms) ≡ key.Record (members_atoms ms)
  record_key ms = key_at _ _ (outs-Rec ms)

  pub row_key : (r : R) → key_value (value.Row r) ≡ key.Null
  row_key r = key_at _ _ (outs-Row r)

  pub group_key : (k : Value R) (vs : List (Value R)) → key_value (value.Group k vs) ≡ key.Null
  group_key k vs = key_at _ _ (outs-Group k vs)

  pub sequence_key : (vs : List (Value R)) (e : _) → key_value (value.Seq vs e) ≡ key.Null
  sequence_key vs e = key_at _ _ (outs-Seq vs e)

-- what is put between two marks, one after another
pub between_marks : (xs ys : List Atom) → ((xs ++ atom.Open ∷ []) ++ ys) ++ atom.Close ∷ [] ≡ xs ++ atom.Open ∷ (ys ++ atom.Close ∷ [])
between_marks xs ys = append_assoc (xs ++ atom.Open ∷ []) ys (atom.Close ∷ []) ∙ append_assoc xs (atom.Open ∷ []) (ys ++ atom.Close ∷ [])

pub ruleset keying = (between_marks, scalar_atoms, record_atoms, row_atoms, group_atoms, sequence_atoms, scalar_key, record_key, row_key, group_key, sequence_key)

-- ---- a key says as much as the atoms

abbrev marked : Key → List Atom
marked key.Null = atom.One scalar.Null ∷ []
marked (key.Int n) = atom.One (scalar.Int n) ∷ []
marked (key.Bool b) = atom.One (scalar.Bool b) ∷ []
marked (key.Text t) = atom.One (scalar.Text t) ∷ []
marked (key.Record xs) = atom.Open ∷ (xs ++ atom.Close ∷ [])

marked_scalar : (s : Scalar) → atom.One s ∷ [] ≡ marked (key_of_scalar s)
marked_scalar scalar.Null = refl
marked_scalar (scalar.Int n) = refl
marked_scalar (scalar.Bool b) = refl
marked_scalar (scalar.Text t) = refl

abbrev all_but_last : List Atom → List Atom
all_but_last [] = []
all_but_last (x ∷ []) = []
all_but_last (x ∷ y ∷ ys) = x ∷ all_but_last (y ∷ ys)

but_last : (xs : List Atom) (x : Atom) → all_but_last (xs ++ x ∷ []) ≡ xs
but_last [] x = refl
but_last (y ∷ []) x = refl
but_last (y ∷ z ∷ zs) x = ap (λ rest. y ∷ rest) (but_last (z ∷ zs) x)

abbrev bare : List Atom → Key
bare [] = key.Null
bare (atom.One s ∷ xs) = key_of_scalar s
bare (atom.Open ∷ xs) = key.Record (all_but_last xs)
bare (atom.Close ∷ xs) = key.Null

module _ (R : Type 0) where
  marked_is : (v : Value R) → marked (key_value v) ≡ atoms_of v
  marked_is v = by (out-Value R v) refl where
    by : (x : Value-F R (Value R)) → out-Value R v ≡ x → marked (key_value v) ≡ atoms_of v
    by (Value-F.Scalar s) h = ap marked (key_at R v _ h) ∙ sym (marked_scalar s) ∙ sym (atoms_at R v _ h)
    by (Value-F.Rec ms) h = ap marked (key_at R v _ h) ∙ sym (record_atoms_at R v ms h)
    by (Value-F.Row r) h = ap marked (key_at R v _ h) ∙ sym (atoms_at R v _ h)
    by (Value-F.Group k vs) h = ap marked (key_at R v _ h) ∙ sym (atoms_at R v _ h)
    by (Value-F.Seq vs e) h = ap marked (key_at R v _ h) ∙ sym (atoms_at R v _ h)

  bare_is : (v : Value R) → bare (atoms_of v) ≡ key_value v
  bare_is v = by (out-Value R v) refl where
    by : (x : Value-F R (Value R)) → out-Value R v ≡ x → bare (atoms_of v) ≡ key_value v
    by (Value-F.Scalar s) h = ap bare (atoms_at R v _ h) ∙ sym (key_at R v _ h)
    by (Value-F.Rec ms) h = ap bare (record_atoms_at R v ms h) ∙ ap key.Record (but_last (members_atoms ms) atom.Close) ∙ sym (key_at R v _ h)
    by (Value-F.Row r) h = ap bare (atoms_at R v _ h) ∙ sym (key_at R v _ h)
    by (Value-F.Group k vs) h = ap bare (atoms_at R v _ h) ∙ sym (key_at R v _ h)
    by (Value-F.Seq vs e) h = ap bare (atoms_at R v _ h) ∙ sym (key_at R v _ h)

  -- ---- the atoms of values of key types say what is the same

  abbrev atoms_all : List (Value R) → List Atom
  atoms_all [] = []
  atoms_all (v ∷ vs) = atoms_of v ++ atoms_all vs

  all_members : (ms : Members R) → members_atoms ms ≡ atoms_all (map (λ (m : List ℕ × Value R). m.1) ms)
  all_members [] = refl
  all_members (m ∷ ms) = ap (λ rest. atoms_of m.1 ++ rest) (all_members ms)

  scalar_head : (v : Value R) (vs : List (Value R)) (s : Scalar) (zs : List Atom) → v ≡ value.Scalar s
      → atoms_all (v ∷ vs) ++ zs ≡ atom.One s ∷ (atoms_all vs ++ zs)
  scalar_head v vs s zs is = ap (λ (xs : List Atom). (xs ++ atoms_all vs) ++ zs) (ap atoms_of is ∙ scalar_atoms R s)

  record_head : (v : Value R) (vs : List (Value R)) (ns : Members R) (zs : List Atom) → v ≡ value.Rec ns
      → atoms_all (v ∷ vs) ++ zs ≡ atom.Open ∷ (atoms_all (map (λ (n : List ℕ × Value R). n.1) ns) ++ atom.Close ∷ (atoms_all vs ++ zs))
  record_head v vs ns zs is =
      let members = atoms_all (map (λ (n : List ℕ × Value R). n.1) ns) in
      let whole : atoms_of v ≡ atom.Open ∷ (members ++ atom.Close ∷ []) =
      ap atoms_of is ∙ record_atoms R ns ∙ ap (λ (xs : List Atom). atom.Open ∷ (xs ++ atom.Close ∷ [])) (all_members ns) in
      let moved : ((members ++ atom.Close ∷ []) ++ atoms_all vs) ++ zs ≡ members ++ atom.Close ∷ (atoms_all vs ++ zs) =
      append_assoc (members ++ atom.Close ∷ []) (atoms_all vs) zs ∙ append_assoc members (atom.Close ∷ []) (atoms_all vs ++ zs) in
      ap (λ (xs : List Atom). (xs ++ atoms_all vs) ++ zs) whole ∙ ap (λ (xs : List Atom). atom.Open ∷ xs) moved

  members_same : (ns os : Members R) → map (λ (n : List ℕ × Value R). n.0) ns ≡ map (λ (n : List ℕ × Value R). n.0) os → pointwise same_values (map (λ (n : List ℕ × Value R). n.1) ns) (map (λ (n : List ℕ × Value R). n.1) os) ≡ true
      → pointwise same_member ns os ≡ true
  members_same [] [] names h = refl
  members_same [] (o ∷ os) names h = absurd (cc names)
  members_same (n ∷ ns) [] names h = absurd (cc names)
  members_same (n ∷ ns) (o ∷ os) names h =
      let here = (bytes_eq-Decides n.0 o.0).1 (cc names) in
      let this = first_so (same_values n.1 o.1) (pointwise same_values (map (λ (m : List ℕ × Value R). m.1) ns) (map (λ (m : List ℕ × Value R). m.1) os)) h in
      let those = second_so (same_values n.1 o.1) (pointwise same_values (map (λ (m : List ℕ × Value R). m.1) ns) (map (λ (m : List ℕ × Value R). m.1) os)) h in
      let others = members_same ns os (cc names) those in
      λ i. (here i && this i) && others i

  values_same : (ns os : Members R) → pointwise same_member ns os ≡ true → pointwise same_values (map (λ (n : List ℕ × Value R). n.1) ns) (map (λ (n : List ℕ × Value R). n.1) os) ≡ true
  values_same [] [] h = refl
  values_same [] (o ∷ os) h = h
  values_same (n ∷ ns) [] h = h
  values_same (n ∷ ns) (o ∷ os) h =
      let this = second_so (bytes_eq n.0 o.0) (same_values n.1 o.1) (first_so (same_member n o) (pointwise same_member ns os) h) in
      let others = values_same ns os (second_so (same_member n o) (pointwise same_member ns os) h) in
      λ i. this i && others i

  separate : {ts us : List Ty} {vs ws : List (Value R)} (xs ys : List Atom) → ts ≡ us → AreOfKeyTypes ts vs → AreOfKeyTypes us ws
      → atoms_all vs ++ atom.Close ∷ xs ≡ atoms_all ws ++ atom.Close ∷ ys → (pointwise same_values vs ws ≡ true) × (xs ≡ ys)
  separate xs ys p no_more no_more e = (refl, cc e)
  separate xs ys p no_more (scalar_first u us w ws r w_is of others) e = absurd (cc p)
  separate xs ys p no_more (record_first u us w ws ms os type_is w_is names inner others) e = absurd (cc p)
  separate xs ys p (scalar_first t ts v vs s v_is fits rest) no_more e = absurd (cc p)
  separate xs ys p (record_first t ts v vs ms ns type_is v_is names inner rest) no_more e = absurd (cc p)
  separate xs ys p (scalar_first t ts v vs s v_is fits rest) (scalar_first u us w ws r w_is of others) e =
      let h : atom.One s ∷ (atoms_all vs ++ atom.Close ∷ xs) ≡ atom.One r ∷ (atoms_all ws ++ atom.Close ∷ ys) =
      sym (scalar_head v vs s _ v_is) ∙ e ∙ scalar_head w ws r _ w_is in
      let told = separate xs ys (cc p) rest others (cc h) in
      let this = (λ i. same_values (v_is i) (w_is i)) ∙ scalar_scalar R s r ∙ (scalars_decide s r).1 (cc h) in
      ((λ i. this i && told.0 i), told.1)
  separate xs ys p (record_first t ts v vs ms ns type_is v_is names inner rest) (record_first u us w ws ks os type_was w_is named within others) e =
      let h : atom.Open ∷ (atoms_all (map (λ (n : List ℕ × Value R). n.1) ns) ++ atom.Close ∷ (atoms_all vs ++ atom.Close ∷ xs))
      ≡ atom.Open ∷ (atoms_all (map (λ (n : List ℕ × Value R). n.1) os) ++ atom.Close ∷ (atoms_all ws ++ atom.Close ∷ ys)) =
      sym (record_head v vs ns _ v_is) ∙ e ∙ record_head w ws os _ w_is in
      let one_type : t ≡ u = cc p in
      let layers : Ty-F.Rec ms ≡ Ty-F.Rec ks = sym type_is ∙ ap out-Ty one_type ∙ type_was in
      let one : ms ≡ ks = cc layers in
      let told = separate _ _ (λ i. map (λ (m : List ℕ × Ty). m.1) (one i)) inner within (cc h) in
      let left = separate xs ys (cc p) rest others told.1 in
      let members = members_same ns os (names ∙ (λ i. map (λ (m : List ℕ × Ty). m.0) (one i)) ∙ sym named) told.0 in
      let this = (λ i. same_values (v_is i) (w_is i)) ∙ record_record R ns os ∙ members in
      ((λ i. this i && left.0 i), left.1)
  separate xs ys p (scalar_first t ts v vs s v_is fits rest) (record_first u us w ws ks os type_was w_is named within others) e =
      absurd (cc (sym (scalar_head v vs s _ v_is) ∙ e ∙ record_head w ws os _ w_is))
  separate xs ys p (record_first t ts v vs ms ns type_is v_is names inner rest) (scalar_first u us w ws r w_is of others) e =
      absurd (cc (sym (record_head v vs ns _ v_is) ∙ e ∙ scalar_head w ws r _ w_is))

  together : {ts us : List Ty} {vs ws : List (Value R)} → AreOfKeyTypes ts vs → AreOfKeyTypes us ws → pointwise same_values vs ws ≡ true
      → atoms_all vs ≡ atoms_all ws
  together no_more no_more h = refl
  together no_more (scalar_first u us w ws r w_is of others) h = absurd (cc h)
  together no_more (record_first u us w ws ms os type_is w_is names inner others) h = absurd (cc h)
  together (scalar_first t ts v vs s v_is fits rest) no_more h = absurd (cc h)
  together (record_first t ts v vs ms ns type_is v_is names inner rest) no_more h = absurd (cc h)
  together (scalar_first t ts v vs s v_is fits rest) (scalar_first u us w ws r w_is of others) h =
      let this = first_so (same_values v w) (pointwise same_values vs ws) h in
      let those = second_so (same_values v w) (pointwise same_values vs ws) h in
      let one = (scalars_decide s r).0 (sym (scalar_scalar R s r) ∙ (λ i. same_values (sym v_is i) (sym w_is i)) ∙ this) in
      let alike : v ≡ w = v_is ∙ ap value.Scalar one ∙ sym w_is in
      λ i. atoms_of (alike i) ++ together rest others those i
  together (record_first t ts v vs ms ns type_is v_is names inner rest) (record_first u us w ws ks os type_was w_is named within others) h =
      let this = first_so (same_values v w) (pointwise same_values vs ws) h in
      let those = second_so (same_values v w) (pointwise same_values vs ws) h in
      let members = values_same ns os (sym (record_record R ns os) ∙ (λ i. same_values (sym v_is i) (sym w_is i)) ∙ this) in
      let pieces = all_members ns ∙ together inner within members ∙ sym (all_members os) in
      let alike : atoms_of v ≡ atoms_of w =
      ap atoms_of v_is ∙ record_atoms R ns ∙ ap (λ (xs : List Atom). atom.Open ∷ (xs ++ atom.Close ∷ [])) pieces ∙ sym (record_atoms R os) ∙ sym (ap atoms_of w_is) in
      λ i. alike i ++ together rest others those i
  together (scalar_first t ts v vs s v_is fits rest) (record_first u us w ws ks os type_was w_is named within others) h =
      absurd (true≢false (sym (first_so (same_values v w) (pointwise same_values vs ws) h)
      ∙ same_at R v w _ _ (ap (out-Value R) v_is ∙ outs-Scalar s) (ap (out-Value R) w_is ∙ outs-Rec os)))
  together (record_first t ts v vs ms ns type_is v_is names inner rest) (scalar_first u us w ws r w_is of others) h =
      absurd (true≢false (sym (first_so (same_values v w) (pointwise same_values vs ws) h)
      ∙ same_at R v w _ _ (ap (out-Value R) v_is ∙ outs-Rec ns) (ap (out-Value R) w_is ∙ outs-Scalar r)))

  pub keys_tell : KeysTell R
  keys_tell t v w is_v is_w = (
    (λ e.
        let atoms : atoms_of v ≡ atoms_of w = sym (marked_is v) ∙ ap marked e ∙ marked_is w in
        first_so (same_values v w) true (separate [] [] refl is_v is_w (ap (λ (xs : List Atom). (xs ++ []) ++ atom.Close ∷ []) atoms)).0),
    λ h.
        let atoms : atoms_of v ++ [] ≡ atoms_of w ++ [] = together is_v is_w (λ i. h i && true) in
        sym (bare_is v) ∙ ap bare (sym (append-nil (atoms_of v)) ∙ atoms ∙ append-nil (atoms_of w)) ∙ bare_is w,
  )

pub tells_equal_keys : TellsEqualKeys
tells_equal_keys = keys_decide
