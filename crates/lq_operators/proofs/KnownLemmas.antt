-- Values whose keys are known, and the first ones of values as one more comes.
use Rattle.std.proofs.Common.{◌≡◌, ◌∷◌, ◌++◌, ◌||◌, if◌then◌else◌, not, List, [], ℕ, zero, suc, Bool, true, false, Result, Ok, Err, OnOk, OnErr, ap, ◌∙◌, sym, refl, subst, true≢false}
use Rattle.std.specs.List.{list_any}
use Rattle.std.proofs.lemmas.List.Folds.{list_any-append}
use Rattle.lq_value.specs.KeyTests.{key_is, keys_decide}
use Rattle.lq_value.specs.Keys.{key_value}
use Rattle.lq_value.specs.Lookups.{with_key}
use Rattle.lq_value.specs.SameAndOrder.{same_values}
use Rattle.lq_value.specs.declared.key.Key.{Key}
use Rattle.lq_value.specs.declared.scalar.Scalar.{Scalar}
use Rattle.lq_value.specs.declared.value.Value.{Value}
use Rattle.lq_value.specs.declared.value.Value.TheVariants as value
use Rattle.lq_value.proofs.SamenessLaws.{tells_keys}
use Rattle.lq_language.specs.Stream.{first_keys}
use Rattle.lq_operators.specs.Firsts.{AddsFirst}
use Rattle.lq_operators.specs.Places.{AreKnown, passes_at}
use Rattle.lq_operators.proofs.AddedLemmas.{added, neither, others, others_more, others_same}

-- ---- keys

itself : (k : Key) → key_is k k ≡ true
itself k = (keys_decide k k).1 refl

-- a key that was put to the others is among them, and they still are
has_key : (keys : List Key) (k : Key) → list_any (key_is k) (with_key key_is keys k) ≡ true
has_key keys k = by (list_any (key_is k) keys) refl where
  by : (b : Bool) → list_any (key_is k) keys ≡ b → list_any (key_is k) (if b then keys else keys ++ k ∷ []) ≡ true
  by true e = e
  by false e = list_any-append (key_is k) keys (k ∷ []) ∙ (λ i. e i || (itself k i || false))

left_out : (keys : List Key) (k l : Key) → list_any (key_is l) (with_key key_is keys k) ≡ false → list_any (key_is l) keys ≡ false
left_out keys k l = by (list_any (key_is k) keys) where
  by : (b : Bool) → list_any (key_is l) (if b then keys else keys ++ k ∷ []) ≡ false → list_any (key_is l) keys ≡ false
  by true h = h
  by false h = (neither (list_any (key_is l) keys) (list_any (key_is l) (k ∷ [])) (sym (list_any-append (key_is l) keys (k ∷ [])) ∙ h)).0

-- ---- values whose keys are known

module _ {R : Type 0} where
  pub one_value : (v w : Value R) → same_values v w ≡ true → v ≡ w
  one_value v w h = ((tells_keys R v w).0 h).1

  -- what isn't a scalar is the same as none
  pub other_scalar : (v : Value R) (s : Scalar) → ((t : Scalar) → v ≡ value.Scalar t → ⊥) → false ≡ same_values v (value.Scalar s)
  other_scalar v s none = by (same_values v (value.Scalar s)) refl where
    by : (b : Bool) → same_values v (value.Scalar s) ≡ b → false ≡ same_values v (value.Scalar s)
    by true e = absurd (none s (one_value v (value.Scalar s) e))
    by false e = sym e

  pub known_none : (keys : List Key) → AreKnown {R = R} keys []
  known_none keys v h = refl

  pub known_still : (keys : List Key) (vs : List (Value R)) (k : Key) → AreKnown keys vs → AreKnown (with_key key_is keys k) vs
  known_still keys vs k known v h = known v (left_out keys k (key_value v) h)

  pub known_more : (keys : List Key) (vs : List (Value R)) (x : Value R) → AreKnown keys vs → AreKnown (with_key key_is keys (key_value x)) (vs ++ x ∷ [])
  known_more keys vs x known v h =
      list_any-append (λ w. same_values w v) vs (x ∷ [])
      ∙ (λ i. known_still keys vs (key_value x) known v h i || (unlike (same_values x v) refl i || false))
    where
      unlike : (b : Bool) → same_values x v ≡ b → same_values x v ≡ false
      unlike false e = e
      unlike true e =
          absurd (true≢false (sym (has_key keys (key_value x))
          ∙ ap (λ (w : Value R). list_any (key_is (key_value w)) (with_key key_is keys (key_value x))) (one_value x v e) ∙ h))

  -- whether or not there was memory for one more value
  pub known_pushed : {U E : Type 0} (answer : Result U E) (keys more : List Key) (vs ws : List (Value R)) (x : Value R)
      → AreKnown keys vs → more ≡ with_key key_is keys (key_value x) → OnOk answer (ws ≡ vs ++ x ∷ []) → OnErr answer (ws ≡ vs) → AreKnown more ws
  known_pushed (Ok u) keys more vs ws x known more_is ok err =
      subst (λ (us : List (Value R)). AreKnown more us) (sym ok)
      (subst (λ (ks : List Key). AreKnown ks (vs ++ x ∷ [])) (sym more_is) (known_more keys vs x known))
  known_pushed (Err e) keys more vs ws x known more_is ok err =
      subst (λ (us : List (Value R)). AreKnown more us) (sym err)
      (subst (λ (ks : List Key). AreKnown ks vs) (sym more_is) (known_still keys vs (key_value x) known))

-- one that passes at a place is one that passes
module _ {A : Type 0} (test : A → Bool) where
  pub passes_one : (xs : List A) (n : ℕ) → passes_at test xs n ≡ true → list_any test xs ≡ true
  passes_one [] n h = absurd (true≢false (sym h))
  passes_one (x ∷ xs) zero h = λ i. h i || list_any test xs
  passes_one (x ∷ xs) (suc n) h = by (test x) (passes_one xs n h) where
    by : (b : Bool) → list_any test xs ≡ true → (b || list_any test xs) ≡ true
    by true rest = refl
    by false rest = rest

-- ---- the first ones

abbrev first_added : {K : Type 0} → (K → K → Bool) → K → List K → List K
first_added same k = added same (λ l. l) k k (λ l. l)

abbrev rest_of : {K : Type 0} → (K → K → Bool) → K → List K → List K
rest_of same k ls = others same (λ l. l) k ls

module _ {K : Type 0} (same : K → K → Bool) (told : (k l : K) → same k l ≡ true → k ≡ l) where
  firsts_more : (ks : List K) (k : K) → first_keys same (ks ++ k ∷ []) ≡ first_added same k (first_keys same ks)
  firsts_more [] k = refl
  firsts_more (l ∷ ks) k = ap (λ (fs : List K). l ∷ rest_of same l fs) (firsts_more ks k) ∙ by (same l k) refl where
    by : (b : Bool) → same l k ≡ b
        → l ∷ rest_of same l (first_added same k (first_keys same ks))
        ≡ (if b then l ∷ rest_of same l (first_keys same ks) else l ∷ first_added same k (rest_of same l (first_keys same ks)))
    by true e = ap (λ (fs : List K). l ∷ fs) (others_same same told (λ f. f) k k (λ f. f) refl (λ f. refl) l e (first_keys same ks))
    by false e = ap (λ (fs : List K). l ∷ fs) (others_more same told (λ f. f) k k (λ f. f) refl (λ f. refl) l e (first_keys same ks))

  -- the first ones with k, which is new or is the same as one of them
  first_new : (fs : List K) (k : K) → list_any (λ f. same f k) fs ≡ false → first_added same k fs ≡ fs ++ k ∷ []
  first_new [] k h = refl
  first_new (f ∷ fs) k h =
      let parts = neither (same f k) (list_any (λ g. same g k) fs) h in
      λ i. if parts.0 i then f ∷ fs else f ∷ first_new fs k parts.1 i

  first_old : (fs : List K) (k : K) → list_any (λ f. same f k) fs ≡ true → first_added same k fs ≡ fs
  first_old [] k h = absurd (true≢false (sym h))
  first_old (f ∷ fs) k h = by (same f k) h (first_old fs k) where
    by : (b : Bool) → (b || list_any (λ g. same g k) fs) ≡ true → (list_any (λ g. same g k) fs ≡ true → first_added same k fs ≡ fs)
        → (if b then f ∷ fs else f ∷ first_added same k fs) ≡ f ∷ fs
    by true e rest = refl
    by false e rest = ap (λ (ls : List K). f ∷ ls) (rest e)

opposite : (b c : Bool) → not b ≡ c → b ≡ not c
opposite true c h = λ i. not (h i)
opposite false c h = λ i. not (h i)

-- A value is asked among some values, which are the first ones so far.
module _ {R : Type 0} where
  firsts_new : (done firsts asked : List (Value R)) (v : Value R) → asked ≡ firsts → not (list_any (λ w. same_values w v) asked) ≡ true
      → firsts ≡ first_keys same_values done → firsts ++ v ∷ [] ≡ first_keys same_values (done ++ v ∷ [])
  firsts_new done firsts asked v are new is =
      ap (λ (vs : List (Value R)). vs ++ v ∷ []) (sym are)
      ∙ sym (first_new same_values one_value asked v (opposite (list_any (λ w. same_values w v) asked) true new)) ∙ ap (first_added same_values v) (are ∙ is)
      ∙ sym (firsts_more same_values one_value done v)

  pub firsts_old : (done firsts asked : List (Value R)) (v : Value R) → asked ≡ firsts → not (list_any (λ w. same_values w v) asked) ≡ false
      → firsts ≡ first_keys same_values done → firsts ≡ first_keys same_values (done ++ v ∷ [])
  firsts_old done firsts asked v are old is =
      sym are ∙ sym (first_old same_values one_value asked v (opposite (list_any (λ w. same_values w v) asked) false old))
      ∙ ap (first_added same_values v) (are ∙ is) ∙ sym (firsts_more same_values one_value done v)

  pub firsts_pushed : {U E : Type 0} (answer : Result U E) (firsts asked more : List (Value R)) (v : Value R) → asked ≡ firsts
      → not (list_any (λ w. same_values w v) asked) ≡ true → OnOk answer (more ≡ firsts ++ v ∷ []) → OnOk answer (AddsFirst firsts more v)
  firsts_pushed (Ok u) firsts asked more v are new ok = λ done is. ok ∙ firsts_new done firsts asked v are new is
  firsts_pushed (Err e) firsts asked more v are new ok = tt

  -- an item that is the same as one of the first ones, which stands at a hint
  pub firsts_at : (done firsts asked : List (Value R)) (v : Value R) (n : ℕ) (b : Bool) → asked ≡ firsts → b ≡ passes_at (λ w. same_values w v) asked n
      → b ≡ true → firsts ≡ first_keys same_values done → firsts ≡ first_keys same_values (done ++ v ∷ [])
  firsts_at done firsts asked v n b are here holds is =
      firsts_old done firsts asked v are (ap not (passes_one (λ w. same_values w v) asked n (sym here ∙ holds))) is
