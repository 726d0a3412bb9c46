-- Keys by number: what the numbers of keys say of the keys' places.
use Rattle.std.proofs.Common.{◌≡◌, ◌<◌, ◌≤◌, ◌+◌, ◌∷◌, ◌++◌, ◌||◌, List, [], map, fold, ℕ, zero, suc, Bool, true, false, if◌then◌else◌, ap, ◌∙◌, sym, refl, arith, get_or, length, drop, nat_eq, Some, slice_get, true≢false, ◌⊎◌, inl, inr, take}
use Rattle.std.proofs.lemmas.Bool.{cases_lt}
use Rattle.std.specs.Cmp.{unsigned_Decides}
use Rattle.std.specs.List.{AllByRecursion, IsDistinct, list_any}
use Rattle.std.proofs.lemmas.List.{drop_all, drop_more, map-append, take_all}
use Rattle.std.proofs.Math.Seq.{take-suc}
use Rattle.std.proofs.lemmas.Map.Keys.{apart_from_distinct}
use Rattle.std.proofs.lemmas.Option.{get_or_from_slice_get, none-some, same_Some, slice_get_within}
use Rattle.lq_value.specs.KeyTests.{key_is, keys_decide}
use Rattle.lq_value.specs.Lookups.{find_in, first_keys, places, places_by_key, places_from, with_key}
use Rattle.lq_value.specs.declared.key.Key.{Key}
use Rattle.lq_value.specs.declared.key.Key.TheVariants as key
use Rattle.lq_lookup.specs.Numbers.{AreNumbers}

-- ---- numbering

pub stays : {A : Type 0} (xs ys : List A) (n : ℕ) (x : A) → slice_get xs n ≡ Some x → slice_get (xs ++ ys) n ≡ Some x
stays [] ys n x h = absurd (none-some x h)
stays (y ∷ xs) ys zero x h = h
stays (y ∷ xs) ys (suc n) x h = stays xs ys n x h

all_stay : {A : Type 0} (xs ys : List A) (ns : List ℕ) (zs : List A) → map (slice_get xs) ns ≡ map Some zs → map (slice_get (xs ++ ys)) ns ≡ map Some zs
all_stay xs ys [] [] h = refl
all_stay xs ys [] (z ∷ zs) h = absurd (cc h)
all_stay xs ys (n ∷ ns) [] h = absurd (cc h)
all_stay {A} xs ys (n ∷ ns) (z ∷ zs) h =
    let here : slice_get xs n ≡ Some z = cc h in
    let others : map (slice_get xs) ns ≡ map Some zs = cc h in
    λ i. stays xs ys n z here i ∷ all_stay xs ys ns zs others i

-- one more key is numbered
pub numbers_more : (firsts : List Key) (numbers : List ℕ) (keys : List Key) (k : Key) (number : ℕ) (stored : Key)
    → map (slice_get firsts) numbers ≡ map Some keys → slice_get (with_key key_is firsts k) number ≡ Some stored → key_is k stored ≡ true
    → map (slice_get (with_key key_is firsts k)) (numbers ++ number ∷ []) ≡ map Some (keys ++ k ∷ [])
numbers_more firsts numbers keys k number stored each at same = by (list_any (key_is k) firsts) at where
  is : stored ≡ k
  is = sym ((keys_decide k stored).0 same)

  by : (b : Bool) → slice_get (if b then firsts else firsts ++ k ∷ []) number ≡ Some stored
      → map (slice_get (if b then firsts else firsts ++ k ∷ [])) (numbers ++ number ∷ []) ≡ map Some (keys ++ k ∷ [])
  by true h = map-append (slice_get firsts) numbers (number ∷ []) ∙ (λ i. each i ++ (h ∙ ap Some is) i ∷ []) ∙ sym (map-append Some keys (k ∷ []))
  by false h =
      map-append (slice_get (firsts ++ k ∷ [])) numbers (number ∷ [])
      ∙ (λ i. all_stay firsts (k ∷ []) numbers keys each i ++ (h ∙ ap Some is) i ∷ []) ∙ sym (map-append Some keys (k ∷ []))

-- the keys before a place are numbered
pub record IsNumbering (keys : List Key) (at : ℕ) (firsts : List Key) (numbers : List ℕ) : Type 0 where
  pub in_order : fold (with_key key_is) firsts (drop at keys) ≡ first_keys key_is keys
  pub apart : IsDistinct key_is firsts
  pub each : map (slice_get firsts) numbers ≡ map Some (take at keys)

pub numbering_more : {keys : List Key} {at : ℕ} {firsts more : List Key} {numbers : List ℕ} (k d : Key) (number : ℕ) (stored : Key)
    → IsNumbering keys at firsts numbers → at < length keys → k ≡ get_or keys at d → more ≡ with_key key_is firsts k → IsDistinct key_is more
    → slice_get more number ≡ Some stored → key_is k stored ≡ true → IsNumbering keys (at + 1) more (numbers ++ number ∷ [])
numbering_more {keys} {at} {firsts} {more} {numbers} k d number stored before here is longer apart found same =
    let one : at + 1 ≡ suc at = omega arith in
    let cut : drop at keys ≡ k ∷ drop (at + 1) keys = drop_more keys at d here ∙ ap (λ (q : Key). q ∷ drop (at + 1) keys) (sym is) in
    let taken : take (at + 1) keys ≡ take at keys ++ k ∷ [] =
    ap (λ (n : ℕ). take n keys) one ∙ take-suc keys at d here ∙ ap (λ (q : Key). take at keys ++ q ∷ []) (sym is) in
    let numbered = numbers_more firsts numbers (take at keys) k number stored before.each (ap (λ (fs : List Key). slice_get fs number) (sym longer) ∙ found) same in
    record {
      in_order = ap (λ (fs : List Key). fold (with_key key_is) fs (drop (at + 1) keys)) longer ∙ ap (fold (with_key key_is) firsts) (sym cut) ∙ before.in_order;
      apart = apart;
      each = (λ i. map (slice_get (longer i)) (numbers ++ number ∷ [])) ∙ numbered ∙ ap (map Some) (sym taken);
    }

pub numbering_ends : {keys : List Key} {at : ℕ} {firsts : List Key} {numbers : List ℕ} → IsNumbering keys at firsts numbers → length keys ≤ at
    → AreNumbers keys firsts numbers
numbering_ends {keys} {at} {firsts} {numbers} numbering end = record {
  in_order = ap (fold (with_key key_is) firsts) (sym (drop_all at keys end)) ∙ numbering.in_order;
  apart = numbering.apart;
  each = numbering.each ∙ ap (map Some) (take_all at keys end);
}

-- numbers lead to keys, so that they are below the count
pub numbers_below : (firsts : List Key) (numbers : List ℕ) (keys : List Key) → map (slice_get firsts) numbers ≡ map Some keys
    → AllByRecursion (λ n. n < length firsts) numbers
numbers_below firsts [] [] h = tt
numbers_below firsts [] (k ∷ ks) h = absurd (cc h)
numbers_below firsts (n ∷ ns) [] h = absurd (cc h)
numbers_below firsts (n ∷ ns) (k ∷ ks) h =
    let here : slice_get firsts n ≡ Some k = cc h in
    let others : map (slice_get firsts) ns ≡ map Some ks = cc h in
    (slice_get_within firsts n k here, numbers_below firsts ns ks others)

-- ---- the places of a number are those of its key

module _ (firsts : List Key) (apart : IsDistinct key_is firsts) where
  one_place_below : (i j : ℕ) (k : Key) → slice_get firsts i ≡ Some k → slice_get firsts j ≡ Some k → i < j → ⊥
  one_place_below i j k at_i at_j below =
      let unlike = apart_from_distinct key_is firsts i j key.Null apart below (slice_get_within firsts j k at_j) in
      let one : get_or firsts i key.Null ≡ get_or firsts j key.Null =
      get_or_from_slice_get firsts i k key.Null at_i ∙ sym (get_or_from_slice_get firsts j k key.Null at_j) in
      true≢false (sym ((keys_decide (get_or firsts i key.Null) (get_or firsts j key.Null)).1 one) ∙ unlike)

  one_place : (i j : ℕ) (k : Key) → slice_get firsts i ≡ Some k → slice_get firsts j ≡ Some k → i ≡ j
  one_place i j k at_i at_j = by (cases_lt i j) (cases_lt j i) where
    by : (i < j) ⊎ (j ≤ i) → (j < i) ⊎ (i ≤ j) → i ≡ j
    by (inl below) other = absurd (one_place_below i j k at_i at_j below)
    by (inr above) (inl below) = absurd (one_place_below j i k at_j at_i below)
    by (inr above) (inr under) = omega arith

  alike : (j : ℕ) (q : Key) → slice_get firsts j ≡ Some q → (n : ℕ) (k : Key) → slice_get firsts n ≡ Some k → nat_eq j n ≡ key_is q k
  alike j q at_j n k at_n = by (nat_eq j n) (key_is q k) refl refl where
    by : (b c : Bool) → nat_eq j n ≡ b → key_is q k ≡ c → b ≡ c
    by true true e f = refl
    by false false e f = refl
    by true false e f =
        let one : j ≡ n = (unsigned_Decides j n).0 e in
        let held : Some q ≡ Some k = sym at_j ∙ ap (slice_get firsts) one ∙ at_n in
        let same : q ≡ k = same_Some q k held in
        sym ((keys_decide q k).1 same) ∙ f
    by false true e f =
        let same : q ≡ k = (keys_decide q k).0 f in
        let one : j ≡ n = one_place j n k (at_j ∙ ap Some same) at_n in
        sym e ∙ (unsigned_Decides j n).1 one

  pub same_places : (j : ℕ) (q : Key) → slice_get firsts j ≡ Some q → (m : ℕ) (numbers : List ℕ) (keys : List Key)
      → map (slice_get firsts) numbers ≡ map Some keys → places_from (nat_eq j) m numbers ≡ places_from (key_is q) m keys
  same_places j q at m [] [] h = refl
  same_places j q at m [] (k ∷ ks) h = absurd (cc h)
  same_places j q at m (n ∷ ns) [] h = absurd (cc h)
  same_places j q at m (n ∷ ns) (k ∷ ks) h =
      let here : slice_get firsts n ≡ Some k = cc h in
      let others : map (slice_get firsts) ns ≡ map Some ks = cc h in
      λ i. if alike j q at n k here i then m ∷ same_places j q at (suc m) ns ks others i else same_places j q at (suc m) ns ks others i

-- ---- what is found among groups

-- a key that is the same as no first key has no place
pub nowhere : (firsts : List Key) (q : Key) → list_any (key_is q) firsts ≡ false → (m : ℕ) (numbers : List ℕ) (keys : List Key)
    → map (slice_get firsts) numbers ≡ map Some keys → places_from (key_is q) m keys ≡ []
nowhere firsts q absent m [] [] h = refl
nowhere firsts q absent m [] (k ∷ ks) h = absurd (cc h)
nowhere firsts q absent m (n ∷ ns) [] h = absurd (cc h)
nowhere firsts q absent m (n ∷ ns) (k ∷ ks) h =
    let here : slice_get firsts n ≡ Some k = cc h in
    let others : map (slice_get firsts) ns ≡ map Some ks = cc h in
    ap (λ (b : Bool). if b then m ∷ places_from (key_is q) (suc m) ks else places_from (key_is q) (suc m) ks) (unlike firsts n absent here)
    ∙ nowhere firsts q absent (suc m) ns ks others
  where
    unlike : (fs : List Key) (i : ℕ) → list_any (key_is q) fs ≡ false → slice_get fs i ≡ Some k → key_is q k ≡ false
    unlike [] i a at = absurd (cc at)
    unlike (f ∷ fs) zero a at = ap (key_is q) (sym (same_Some f k at)) ∙ neither (key_is q f) (list_any (key_is q) fs) a where
      neither : (b c : Bool) → (b || c) ≡ false → b ≡ false
      neither true c g = g
      neither false c g = refl
    unlike (f ∷ fs) (suc i) a at = unlike fs i (other (key_is q f) (list_any (key_is q) fs) a) at where
      other : (b c : Bool) → (b || c) ≡ false → c ≡ false
      other true c g = absurd (true≢false g)
      other false c g = g

abbrev with_places : List Key → List Key → List (Key × List ℕ)
with_places keys firsts = map (λ k. (k, places (key_is k) keys)) firsts

-- the places of a key among keys with their places
find_with : (keys firsts : List Key) (q : Key)
    → find_in key_is (with_places keys firsts) q ≡ (if list_any (key_is q) firsts then places (key_is q) keys else [])
find_with keys [] q = refl
find_with keys (f ∷ fs) q = by (key_is q f) refl (find_with keys fs q) where
  by : (b : Bool) → key_is q f ≡ b
      → find_in key_is (with_places keys fs) q ≡ (if list_any (key_is q) fs then places (key_is q) keys else [])
      → (if b then places (key_is f) keys else find_in key_is (with_places keys fs) q) ≡ (if b || list_any (key_is q) fs then places (key_is q) keys else [])
  by true e others = ap (λ (k : Key). places (key_is k) keys) (sym ((keys_decide q f).0 e))
  by false e others = others

pub grouped_find : {keys firsts : List Key} {numbers : List ℕ} → AreNumbers keys firsts numbers → (q : Key)
    → find_in key_is (places_by_key key_is keys) q ≡ places (key_is q) keys
grouped_find {keys} {firsts} {numbers} are q =
    ap (λ (fs : List Key). find_in key_is (with_places keys fs) q) (sym are.in_order) ∙ find_with keys firsts q ∙ by (list_any (key_is q) firsts) refl where
      by : (b : Bool) → list_any (key_is q) firsts ≡ b → (if b then places (key_is q) keys else []) ≡ places (key_is q) keys
      by true e = refl
      by false e = sym (nowhere firsts q e 0 numbers keys are.each)
