-- Groups as one pair more comes: where its key's group is, and what they become.
use Rattle.std.proofs.Common.{◌≡◌, ◌∷◌, ◌++◌, ◌<◌, ◌≤◌, ◌||◌, if◌then◌else◌, not, List, [], map, filter, ℕ, zero, suc, Bool, true, false, Option, Some, None, Result, Ok, Err, OnOk, ap, ◌∙◌, sym, refl, subst, true≢false, length, get_or, slice_get, slice_set, arith, append-nil}
use Rattle.std.specs.List.{list_any}
use Rattle.std.proofs.lemmas.Option.{none-some, same_Some}
use Rattle.lq_value.specs.KeyTests.{key_is}
use Rattle.lq_value.specs.Keys.{key_value}
use Rattle.lq_value.specs.Lookups.{with_key}
use Rattle.lq_value.specs.SameAndOrder.{same_values}
use Rattle.lq_value.specs.declared.key.Key.{Key}
use Rattle.lq_value.specs.declared.value.Value.{Value}
use Rattle.lq_language.specs.Stream.{elements_of, first_keys, groups_of}
use Rattle.lq_operators.specs.Groups.{AddsPair}
use Rattle.lq_operators.specs.Places.{AreKnown, AreUnlike, IsPlaceOf, passes, passes_at, place_in, pushed_at}
use Rattle.lq_operators.proofs.AddedLemmas.{added, neither, others, others_more, others_same}
use Rattle.lq_operators.proofs.KnownLemmas.{known_more, known_still, one_value}

-- ---- places

module _ {A : Type 0} where
  unlike_at : (test : A → Bool) (xs : List A) (n : ℕ) (x : A) → list_any test xs ≡ false → slice_get xs n ≡ Some x → test x ≡ false
  unlike_at test [] n x h at = absurd (none-some x at)
  unlike_at test (y ∷ ys) zero x h at = ap test (sym (same_Some y x at)) ∙ (neither (test y) (list_any test ys) h).0
  unlike_at test (y ∷ ys) (suc n) x h at = unlike_at test ys n x (neither (test y) (list_any test ys) h).1 at

  -- past the last place where none passes
  pub past_all : (test : A → Bool) (xs : List A) → list_any test xs ≡ false → place_in test xs ≡ length xs
  past_all test [] h = refl
  past_all test (x ∷ xs) h =
      let parts = neither (test x) (list_any test xs) h in
      λ i. if parts.0 i then 0 else suc (past_all test xs parts.1 i)

module _ {A : Type 0} (test : A → Bool) where
  -- what passes at a place stands there
  pub passes_within : (xs : List A) (n : ℕ) → passes_at test xs n ≡ true → n < length xs
  passes_within [] n h = absurd (true≢false (sym h))
  passes_within (x ∷ xs) zero h = omega arith
  passes_within (x ∷ xs) (suc n) h = let rest = passes_within xs n h in omega (arith, rest)

-- Groups of keys, where what is the same is one key.
module _ {K V : Type 0} (same : K → K → Bool) (told : (k l : K) → same k l ≡ true → k ≡ l) where
  key_at : (gs : List (K × V)) (n : ℕ) (g : K × V) → slice_get gs n ≡ Some g → slice_get (map (λ h. h.0) gs) n ≡ Some g.0
  key_at [] n g at = absurd (none-some g at)
  key_at (h ∷ gs) zero g at = ap Some (ap (λ (f : K × V). f.0) (same_Some h g at))
  key_at (h ∷ gs) (suc n) g at = key_at gs n g at

  -- where no two groups have one key, one whose key is the same as k is at its place
  pub place_is : (gs : List (K × V)) (k : K) (n : ℕ) (g : K × V) → AreUnlike same (map (λ h. h.0) gs) → slice_get gs n ≡ Some g
      → same g.0 k ≡ true → n ≡ place_in (λ h. same h.0 k) gs
  place_is [] k n g unlike at e = absurd (none-some g at)
  place_is (h ∷ gs) k zero g unlike at e =
      sym (ap (λ (b : Bool). if b then 0 else suc (place_in (λ f. same f.0 k) gs)) (ap (λ (f : K × V). same f.0 k) (same_Some h g at) ∙ e))
  place_is (h ∷ gs) k (suc n) g unlike at e = by (same h.0 k) refl (place_is gs k n g unlike.1 at e) where
    by : (b : Bool) → same h.0 k ≡ b → n ≡ place_in (λ f. same f.0 k) gs → suc n ≡ (if b then 0 else suc (place_in (λ f. same f.0 k) gs))
    by true d rest = absurd (true≢false (sym (ap (same h.0) (told g.0 k e) ∙ d) ∙ unlike_at (same h.0) (map (λ f. f.0) gs) n g.0 unlike.0 (key_at gs n g at)))
    by false d rest = ap suc rest

-- ---- no two first ones are the same

abbrev rest_of : {K : Type 0} → (K → K → Bool) → K → List K → List K
rest_of same k ls = others same (λ l. l) k ls

module _ {A : Type 0} where
  none_kept : (test keep : A → Bool) (xs : List A) → list_any test xs ≡ false → list_any test (filter keep xs) ≡ false
  none_kept test keep [] h = refl
  none_kept test keep (x ∷ xs) h = by (keep x) (none_kept test keep xs (neither (test x) (list_any test xs) h).1) where
    by : (b : Bool) → list_any test (filter keep xs) ≡ false → list_any test (if b then x ∷ filter keep xs else filter keep xs) ≡ false
    by true rest = λ i. (neither (test x) (list_any test xs) h).0 i || rest i
    by false rest = rest

module _ {K : Type 0} (same : K → K → Bool) where
  none_left : (k : K) (fs : List K) → list_any (same k) (rest_of same k fs) ≡ false
  none_left k [] = refl
  none_left k (f ∷ fs) = by (same k f) refl (none_left k fs) where
    by : (b : Bool) → same k f ≡ b → list_any (same k) (rest_of same k fs) ≡ false
        → list_any (same k) (if not b then f ∷ rest_of same k fs else rest_of same k fs) ≡ false
    by true e rest = rest
    by false e rest = λ i. e i || rest i

  unlike_kept : (keep : K → Bool) (fs : List K) → AreUnlike same fs → AreUnlike same (filter keep fs)
  unlike_kept keep [] h = tt
  unlike_kept keep (f ∷ fs) h = by (keep f) (unlike_kept keep fs h.1) where
    by : (b : Bool) → AreUnlike same (filter keep fs) → AreUnlike same (if b then f ∷ filter keep fs else filter keep fs)
    by true rest = (none_kept (same f) keep fs h.0, rest)
    by false rest = rest

  -- no two of the first ones are the same
  pub unlike_firsts : (ks : List K) → AreUnlike same (first_keys same ks)
  unlike_firsts [] = tt
  unlike_firsts (k ∷ ks) = (none_left k (first_keys same ks), unlike_kept (λ l. not (same k l)) (first_keys same ks) (unlike_firsts ks))

-- ---- one pair more

abbrev grown : {K V : Type 0} → V → K × List V → K × List V
grown x g = (g.0, g.1 ++ x ∷ [])

abbrev fresh : {K V : Type 0} → (K → K → Bool) → K × V → K × List V
fresh same q = (q.0, if same q.0 q.0 then q.1 ∷ [] else [])

abbrev pub pair_added : {K V : Type 0} → (K → K → Bool) → K × V → List (K × List V) → List (K × List V)
pair_added same q gs = added same (λ g. g.0) q.0 (fresh same q) (grown q.1) gs

abbrev without : {K V : Type 0} → (K → K → Bool) → K → List (K × List V) → List (K × List V)
without same k gs = others same (λ g. g.0) k gs

module _ {K : Type 0} (same : K → K → Bool) (told : (k l : K) → same k l ≡ true → k ≡ l) where
  turned : (k l : K) → same l k ≡ same k l
  turned k l = by (same k l) (same l k) refl refl where
    by : (b c : Bool) → same k l ≡ b → same l k ≡ c → same l k ≡ same k l
    by true c e f = let is : k ≡ l = told k l e in λ i. same (sym is i) (is i)
    by false true e f = let is : l ≡ k = told l k f in λ i. same (is i) (sym is i)
    by false false e f = f ∙ sym e

module _ {K V : Type 0} (same : K → K → Bool) where
  -- the elements of a key with one more pair, at the head and at the end
  elements_front : (k : K) (q : K × V) (qs : List (K × V)) (b : Bool) → same k q.0 ≡ b
      → elements_of same k (q ∷ qs) ≡ (if b then q.1 ∷ elements_of same k qs else elements_of same k qs)
  elements_front k q qs true e = ap (λ (b : Bool). map (λ p. p.1) (if b then q ∷ filter (λ p. same k p.0) qs else filter (λ p. same k p.0) qs)) e
  elements_front k q qs false e = ap (λ (b : Bool). map (λ p. p.1) (if b then q ∷ filter (λ p. same k p.0) qs else filter (λ p. same k p.0) qs)) e

  elements_behind : (k : K) (qs : List (K × V)) (q : K × V) (b : Bool) → same k q.0 ≡ b
      → elements_of same k (qs ++ q ∷ []) ≡ elements_of same k qs ++ (if b then q.1 ∷ [] else [])
  elements_behind k [] q true e = elements_front k q [] true e
  elements_behind k [] q false e = elements_front k q [] false e
  elements_behind k (p ∷ qs) q b e = by (same k p.0) refl (elements_behind k qs q b e) where
    by : (c : Bool) → same k p.0 ≡ c → elements_of same k (qs ++ q ∷ []) ≡ elements_of same k qs ++ (if b then q.1 ∷ [] else [])
        → elements_of same k (p ∷ (qs ++ q ∷ [])) ≡ elements_of same k (p ∷ qs) ++ (if b then q.1 ∷ [] else [])
    by true d rest =
        elements_front k p (qs ++ q ∷ []) true d ∙ ap (λ (xs : List V). p.1 ∷ xs) rest
        ∙ sym (ap (λ (xs : List V). xs ++ (if b then q.1 ∷ [] else [])) (elements_front k p qs true d))
    by false d rest =
        elements_front k p (qs ++ q ∷ []) false d ∙ rest ∙ sym (ap (λ (xs : List V). xs ++ (if b then q.1 ∷ [] else [])) (elements_front k p qs false d))

  -- the pair is put to the group at the place of its key, or behind the last one
  pub added_within : (gs : List (K × List V)) (q : K × V) → place_in (λ g. same g.0 q.0) gs < length gs
      → pair_added same q gs ≡ pushed_at gs (place_in (λ g. same g.0 q.0) gs) q.1
  added_within [] q h = absurd (omega (arith, h))
  added_within (g ∷ gs) q h = by (same g.0 q.0) h (added_within gs q) where
    by : (b : Bool) → (if b then 0 else suc (place_in (λ f. same f.0 q.0) gs)) < suc (length gs)
        → (place_in (λ f. same f.0 q.0) gs < length gs → pair_added same q gs ≡ pushed_at gs (place_in (λ f. same f.0 q.0) gs) q.1)
        → (if b then grown q.1 g ∷ gs else g ∷ pair_added same q gs) ≡ pushed_at (g ∷ gs) (if b then 0 else suc (place_in (λ f. same f.0 q.0) gs)) q.1
    by true e rest = refl
    by false e rest = ap (λ (fs : List (K × List V)). g ∷ fs) (rest (omega (arith, e)))

  pub added_past : (gs : List (K × List V)) (q : K × V) → length gs ≤ place_in (λ g. same g.0 q.0) gs → pair_added same q gs ≡ gs ++ fresh same q ∷ []
  added_past [] q h = refl
  added_past (g ∷ gs) q h = by (same g.0 q.0) h (added_past gs q) where
    by : (b : Bool) → suc (length gs) ≤ (if b then 0 else suc (place_in (λ f. same f.0 q.0) gs))
        → (length gs ≤ place_in (λ f. same f.0 q.0) gs → pair_added same q gs ≡ gs ++ fresh same q ∷ [])
        → (if b then grown q.1 g ∷ gs else g ∷ pair_added same q gs) ≡ g ∷ (gs ++ fresh same q ∷ [])
    by true e rest = absurd (omega (arith, e))
    by false e rest = ap (λ (fs : List (K × List V)). g ∷ fs) (rest (omega (arith, e)))

module _ {K V : Type 0} (same : K → K → Bool) (told : (k l : K) → same k l ≡ true → k ≡ l) where
  -- the groups of the other keys, whether or not the pair at the head is there
  groups_without : (q : K × V) (qs : List (K × V)) (fs : List K)
      → map (λ k. (k, elements_of same k (q ∷ qs))) (rest_of same q.0 fs) ≡ without same q.0 (map (λ k. (k, elements_of same k qs)) fs)
  groups_without q qs [] = refl
  groups_without q qs (f ∷ fs) = by (same q.0 f) refl (groups_without q qs fs) where
    by : (b : Bool) → same q.0 f ≡ b
        → map (λ k. (k, elements_of same k (q ∷ qs))) (rest_of same q.0 fs) ≡ without same q.0 (map (λ k. (k, elements_of same k qs)) fs)
        → map (λ k. (k, elements_of same k (q ∷ qs))) (if not b then f ∷ rest_of same q.0 fs else rest_of same q.0 fs)
        ≡ (if not b then (f, elements_of same f qs) ∷ without same q.0 (map (λ k. (k, elements_of same k qs)) fs) else without same q.0
        (map (λ k. (k, elements_of same k qs)) fs))
    by true e rest = rest
    by false e rest = λ i. (f, elements_front same f q qs false (turned same told q.0 f ∙ e) i) ∷ rest i

  groups_front : (q : K × V) (qs : List (K × V)) → groups_of same (q ∷ qs) ≡ (q.0, elements_of same q.0 (q ∷ qs)) ∷ without same q.0 (groups_of same qs)
  groups_front q qs =
      ap (λ (gs : List (K × List V)). (q.0, elements_of same q.0 (q ∷ qs)) ∷ gs) (groups_without q qs (first_keys same (map (λ p. p.0) qs)))

  pub groups_more : (qs : List (K × V)) (q : K × V) → groups_of same (qs ++ q ∷ []) ≡ pair_added same q (groups_of same qs)
  groups_more [] q = by (same q.0 q.0) refl where
    by : (b : Bool) → same q.0 q.0 ≡ b → ◌≡◌ {A = List (K × List V)} ((q.0, elements_of same q.0 (q ∷ [])) ∷ []) ((q.0, if b then q.1 ∷ [] else []) ∷ [])
    by true e = ap (λ (xs : List V). (q.0, xs) ∷ []) (elements_front same q.0 q [] true e)
    by false e = ap (λ (xs : List V). (q.0, xs) ∷ []) (elements_front same q.0 q [] false e)
  groups_more (p ∷ qs) q =
      groups_front p (qs ++ q ∷ [])
      ∙ ap (λ (gs : List (K × List V)). (p.0, elements_of same p.0 (p ∷ (qs ++ q ∷ []))) ∷ without same p.0 gs) (groups_more qs q)
      ∙ by (same p.0 q.0) refl ∙ sym (ap (pair_added same q) (groups_front p qs))
    where
      by : (b : Bool) → same p.0 q.0 ≡ b
          → ◌≡◌ {A = List (K × List V)} ((p.0, elements_of same p.0 (p ∷ (qs ++ q ∷ []))) ∷ without same p.0 (pair_added same q (groups_of same qs)))
          (if b then (p.0, elements_of same p.0 (p ∷ qs) ++ q.1 ∷ []) ∷ without same p.0 (groups_of same qs) else (p.0, elements_of same p.0 (p ∷ qs)) ∷ pair_added
          same q (without same p.0 (groups_of same qs)))
      by true e =
          λ i. (p.0, elements_behind same p.0 (p ∷ qs) q true e i) ∷ others_same same told (λ g. g.0) q.0 (fresh same q) (grown q.1) refl (λ g. refl) p.0 e
          (groups_of same qs) i
      by false e =
          λ i. (p.0, (elements_behind same p.0 (p ∷ qs) q false e ∙ append-nil (elements_of same p.0 (p ∷ qs))) i) ∷ others_more same told (λ g. g.0) q.0
          (fresh same q) (grown q.1) refl (λ g. refl) p.0 e (groups_of same qs) i

-- ---- one element more at a place

module _ {K V : Type 0} where
  pub pushed_is : (gs : List (K × List V)) (n : ℕ) (g : K × List V) (xs : List V) (x : V) → n < length gs → g ≡ get_or gs n g → xs ≡ g.1 ++ x ∷ []
      → slice_set gs n (g.0, xs) ≡ pushed_at gs n x
  pushed_is [] n g xs x h at is = absurd (omega (arith, h))
  pushed_is (f ∷ gs) zero g xs x h at is = λ i. (ap (λ (q : K × List V). q.0) at i, (is ∙ ap (λ (q : K × List V). q.1 ++ x ∷ []) at) i) ∷ gs
  pushed_is (f ∷ gs) (suc n) g xs x h at is = ap (λ (hs : List (K × List V)). f ∷ hs) (pushed_is gs n g xs x (omega (arith, h)) at is)

  pub keys_kept : (gs : List (K × List V)) (n : ℕ) (g : K × List V) (xs : List V) → n < length gs → g ≡ get_or gs n g
      → map (λ (q : K × List V). q.0) (slice_set gs n (g.0, xs)) ≡ map (λ (q : K × List V). q.0) gs
  keys_kept [] n g xs h at = refl
  keys_kept (f ∷ gs) zero g xs h at = ap (λ (q : K × List V). q.0 ∷ map (λ (r : K × List V). r.0) gs) at
  keys_kept (f ∷ gs) (suc n) g xs h at = ap (λ (ks : List K). f.0 ∷ ks) (keys_kept gs n g xs (omega (arith, h)) at)

  pub none_pushed : (gs : List (K × List V)) (n : ℕ) (x : V) → length gs ≤ n → gs ≡ pushed_at gs n x
  none_pushed [] n x h = refl
  none_pushed (g ∷ gs) zero x h = absurd (omega (arith, h))
  none_pushed (g ∷ gs) (suc n) x h = ap (λ (hs : List (K × List V)). g ∷ hs) (none_pushed gs n x (omega (arith, h)))

-- ---- groups of values

abbrev pub is_of : {R V : Type 0} → Value R → Value R × V → Bool
is_of k group = same_values group.0 k

module _ {R V : Type 0} where
  -- a group of the key that is met at a place is the one
  pub near : (k : Value R) (gs : List (Value R × V)) (n : ℕ) → passes_at (is_of k) gs n ≡ true → IsPlaceOf k gs n
  near k gs n h = λ unlike. by (slice_get gs n) refl h unlike where
    by : (o : Option (Value R × V)) → slice_get gs n ≡ o → passes (is_of k) o ≡ true → AreUnlike same_values (map (λ g. g.0) gs)
        → n ≡ place_in (is_of k) gs
    by (Some g) at e unlike = place_is same_values one_value gs k n g unlike at e
    by None at e unlike = absurd (true≢false (sym e))

  keys_behind : (gs : List (Value R × V)) (g : Value R × V) → map (λ h. h.0) (gs ++ g ∷ []) ≡ map (λ (h : Value R × V). h.0) gs ++ g.0 ∷ []
  keys_behind [] g = refl
  keys_behind (f ∷ gs) g = ap (λ (ks : List (Value R)). f.0 ∷ ks) (keys_behind gs g)

  any_key : (k : Value R) (gs : List (Value R × V)) → list_any (λ v. same_values v k) (map (λ g. g.0) gs) ≡ list_any (is_of k) gs
  any_key k [] = refl
  any_key k (g ∷ gs) = ap (λ (b : Bool). same_values g.0 k || b) (any_key k gs)

  -- the key of no group
  pub placed_new : (keys : List Key) (gs : List (Value R × V)) (k : Value R) (l : Key) → AreKnown keys (map (λ g. g.0) gs) → l ≡ key_value k
      → not (list_any (key_is l) keys) ≡ true → IsPlaceOf k gs (length gs)
  placed_new keys gs k l known is new = λ unlike.
      sym (past_all (is_of k) gs (sym (any_key k gs) ∙ known k (ap (λ (m : Key). list_any (key_is m) keys) (sym is) ∙ off (list_any (key_is l) keys) new)))
    where
      off : (b : Bool) → not b ≡ true → b ≡ false
      off true h = absurd (true≢false (sym h))
      off false h = refl

  -- whether or not there was memory for the group
  pub known_opened : (b : Bool) (keys more : List Key) (gs hs : List (Value R × V)) (g : Value R × V) (k : Value R) (x : V)
      → AreKnown keys (map (λ h. h.0) gs) → more ≡ with_key key_is keys (key_value k) → g ≡ (k, x) → hs ≡ (if b then gs ++ g ∷ [] else gs)
      → AreKnown more (map (λ h. h.0) hs)
  known_opened true keys more gs hs g k x known more_is opened is =
      subst (λ (vs : List (Value R)). AreKnown more vs)
      (sym (ap (λ (fs : List (Value R × V)). map (λ h. h.0) fs) (is ∙ ap (λ (h : Value R × V). gs ++ h ∷ []) opened) ∙ keys_behind gs (k, x)))
      (subst (λ (ks : List Key). AreKnown ks (map (λ (h : Value R × V). h.0) gs ++ k ∷ [])) (sym more_is) (known_more keys (map (λ h. h.0) gs) k known))
  known_opened false keys more gs hs g k x known more_is opened is =
      subst (λ (fs : List (Value R × V)). AreKnown more (map (λ h. h.0) fs)) (sym is)
      (subst (λ (ks : List Key). AreKnown ks (map (λ (h : Value R × V). h.0) gs)) (sym more_is) (known_still keys (map (λ h. h.0) gs) (key_value k) known))

-- Groups of pairs.
module _ {R V : Type 0} where
  heads_are : (fs : List (Value R)) (qs : List (Value R × V)) → map (λ (g : Value R × List V). g.0) (map (λ k. (k, elements_of same_values k qs)) fs) ≡ fs
  heads_are [] qs = refl
  heads_are (f ∷ fs) qs = ap (λ (gs : List (Value R)). f ∷ gs) (heads_are fs qs)

  -- no two groups of pairs have one key
  pub unlike_groups : (gs : List (Value R × List V)) (qs : List (Value R × V)) → gs ≡ groups_of same_values qs → AreUnlike same_values (map (λ g. g.0) gs)
  unlike_groups gs qs is =
      subst (λ (ks : List (Value R)). AreUnlike same_values ks)
      (sym (ap (λ (hs : List (Value R × List V)). map (λ g. g.0) hs) is ∙ heads_are (first_keys same_values (map (λ q. q.0) qs)) qs))
      (unlike_firsts same_values (map (λ q. q.0) qs))

abbrev Groups : Type 0 → Type 0
Groups R = List (Value R × List (Value R))

module _ {R : Type 0} where
  -- The place of a key is asked among some groups, which are those so far. Where there is memory for the element of a key that has
  -- a group:
  pub pair_within : {U E : Type 0} (answer : Result U E) (gs asked more : Groups R) (k x : Value R) (n : ℕ) → asked ≡ gs → IsPlaceOf k asked n
      → n < length asked → OnOk answer (more ≡ pushed_at gs n x) → OnOk answer (AddsPair gs more k x)
  pair_within (Err e) gs asked more k x n are at h ok = tt
  pair_within (Ok u) gs asked more k x n are at h ok = λ done is.
      let place : n ≡ place_in (is_of k) asked = at (unlike_groups asked done (are ∙ is)) in
      ok ∙ (λ i. pushed_at (sym are i) (place i) x) ∙ sym (added_within same_values asked (k, x) (subst (λ (m : ℕ). m < length asked) place h))
      ∙ ap (pair_added same_values (k, x)) (are ∙ is) ∙ sym (groups_more same_values one_value done (k, x))

  -- the same where the group at a hint is that of the key
  pub pair_at : {U E : Type 0} (answer : Result U E) (gs asked more : Groups R) (k x : Value R) (n : ℕ) (b : Bool) → asked ≡ gs
      → b ≡ passes_at (is_of k) asked n → b ≡ true → OnOk answer (more ≡ pushed_at gs n x) → OnOk answer (AddsPair gs more k x)
  pair_at answer gs asked more k x n b are here holds ok =
      pair_within answer gs asked more k x n are (near k asked n (sym here ∙ holds)) (passes_within (is_of k) asked n (sym here ∙ holds)) ok

  -- the first element of a key opens a group
  pub pair_past : (gs asked more : Groups R) (k x : Value R) (n : ℕ) (g : Value R × List (Value R)) → asked ≡ gs → IsPlaceOf k asked n → length asked ≤ n
      → g ≡ (k, (if same_values k k then x ∷ [] else [])) → more ≡ gs ++ g ∷ [] → AddsPair gs more k x
  pair_past gs asked more k x n g are at h opened pushed = λ done is.
      let place : n ≡ place_in (is_of k) asked = at (unlike_groups asked done (are ∙ is)) in
      pushed ∙ (λ i. sym are i ++ opened i ∷ []) ∙ sym (added_past same_values asked (k, x) (subst (λ (m : ℕ). length asked ≤ m) place h))
      ∙ ap (pair_added same_values (k, x)) (are ∙ is) ∙ sym (groups_more same_values one_value done (k, x))
