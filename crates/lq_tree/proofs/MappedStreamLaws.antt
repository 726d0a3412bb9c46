-- Steps over items that are replaced, one by one: what a step gives of them is what it gave of the items, replaced. Where a step asks
-- something of an item, the answer for what replaces it is to be the same.
use Rattle.std.proofs.Common.{◌≡◌, ◌∷◌, if◌then◌else◌, List, [], filter, map, Bool, true, false, not, Result, Ok, Err, ap, ap₂, ◌∙◌, refl}
use Rattle.lq_value.specs.declared.scalar.Scalar.{Scalar}
use Rattle.lq_value.specs.declared.value.End.{End}
use Rattle.lq_value.specs.declared.value.End.TheVariants as end
use Rattle.lq_value.specs.declared.value.Fault.{Fault}
use Rattle.lq_language.specs.Arrangement.{order_by}
use Rattle.lq_language.specs.Operations.{on_ok}
use Rattle.lq_language.specs.Stream.{Stream, both, each, elements_of, expand_by, first_keys, group_by, groups_of, join_by, item_where, select_each, on_value, one, select_by, where_by, whole, with_keys}
use Rattle.lq_tree.specs.Rows.{result_map, stream_map}
use Rattle.lq_language.proofs.StreamLaws.{each_natural, kept_mapped, order_natural}

-- a pair whose parts are replaced
abbrev pub pair_map : {A B C D : Type 0} → (A → C) → (B → D) → A × B → C × D
pair_map f g p = (f p.0, g p.1)

-- ---- outcomes

pub ok_natural : {A B C D : Type 0} (g : A → B) (k : C → D) (next : A → Result C Fault) (more : B → Result D Fault)
    → ((x : A) → more (g x) ≡ result_map k (next x))
    → (o : Result A Fault) → on_ok (result_map g o) more ≡ result_map k (on_ok o next)
ok_natural g k next more h (Ok x) = h x
ok_natural g k next more h (Err e) = refl

-- the same of an outcome that is known to be the other one, replaced
pub ok_by : {A B C D : Type 0} (g : A → B) (k : C → D) (next : A → Result C Fault) (more : B → Result D Fault)
    → ((x : A) → more (g x) ≡ result_map k (next x))
    → (o : Result A Fault) (p : Result B Fault) → p ≡ result_map g o → on_ok p more ≡ result_map k (on_ok o next)
ok_by {B} g k next more h o p is = ap (λ (q : Result B Fault). on_ok q more) is ∙ ok_natural g k next more h o

-- where what follows is the same of both
pub ok_same : {A B C : Type 0} (g : A → B) (next : A → Result C Fault) (more : B → Result C Fault) → ((x : A) → more (g x) ≡ next x)
    → (o : Result A Fault) → on_ok (result_map g o) more ≡ on_ok o next
ok_same g next more h (Ok x) = h x
ok_same g next more h (Err e) = refl

-- where the outcome is the same
pub ok_alike : {A C D : Type 0} (k : C → D) (next : A → Result C Fault) (more : A → Result D Fault) → ((x : A) → more x ≡ result_map k (next x))
    → (o : Result A Fault) → on_ok o more ≡ result_map k (on_ok o next)
ok_alike k next more h (Ok x) = h x
ok_alike k next more h (Err e) = refl

pub both_natural : {K L V W : Type 0} (g : K → L) (v : V → W) (o : Result K Fault) (p : Result V Fault)
    → both (result_map g o) (result_map v p) ≡ result_map (pair_map g v) (both o p)
both_natural g v (Ok x) (Ok y) = refl
both_natural g v (Ok x) (Err e) = refl
both_natural g v (Err e) p = refl

-- ---- lists

pub map_square : {A B C D : Type 0} (b : A → B) (d : C → D) (f : A → C) (g : B → D) → ((x : A) → g (b x) ≡ d (f x)) → (xs : List A)
    → map g (map b xs) ≡ map d (map f xs)
map_square b d f g h [] = refl
map_square b d f g h (x ∷ xs) = ap₂ (λ y ys. y ∷ ys) (h x) (map_square b d f g h xs)

kept_by : {A B : Type 0} (g : A → B) (x : A) (xs : List A) (ys : List B) → ys ≡ map g xs → (b : Bool)
    → (if b then g x ∷ ys else ys) ≡ map g (if b then x ∷ xs else xs)
kept_by g x xs ys h true = ap (λ zs. g x ∷ zs) h
kept_by g x xs ys h false = h

pub filter_natural : {A B : Type 0} (g : A → B) (p : A → Bool) (q : B → Bool) → ((x : A) → q (g x) ≡ p x) → (xs : List A)
    → filter q (map g xs) ≡ map g (filter p xs)
filter_natural g p q h [] = refl
filter_natural g p q h (x ∷ xs) =
    ap (λ b. if b then g x ∷ filter q (map g xs) else filter q (map g xs)) (h x)
    ∙ kept_by g x (filter p xs) (filter q (map g xs)) (filter_natural g p q h xs) (p x)

-- ---- streams

pub one_natural : {C D : Type 0} (d : C → D) (o : Result C Fault) → one (result_map d o) ≡ stream_map d (one o)
one_natural d (Ok x) = refl
one_natural d (Err e) = refl

pub select_natural : {A B C D : Type 0} (b : A → B) (d : C → D) (f : A → Result C Fault) (g : B → Result D Fault) → ((x : A) → g (b x) ≡ result_map d (f x))
    → (xs : List A) (e : End)
    → select_by g (map b xs) e ≡ stream_map d (select_by f xs e)
select_natural b d f g h xs e = each_natural b d (λ x. one (g x)) (λ x. one (f x)) (λ x. ap one (h x) ∙ one_natural d (f x)) xs e

pub where_natural : {A B : Type 0} (b : A → B) (c : A → Result Bool Fault) (k : B → Result Bool Fault) → ((x : A) → k (b x) ≡ c x) → (xs : List A) (e : End)
    → where_by k (map b xs) e ≡ stream_map b (where_by c xs e)
where_natural b c k h xs e =
    each_natural b b (λ x. item_where (k x) x) (λ x. item_where (c x) x) (λ x. ap (λ (o : Result Bool Fault). item_where o (b x)) (h x) ∙ kept_mapped b (c x) x) xs e

pub expand_natural : {A B V W C D : Type 0} (b : A → B) (v : V → W) (d : C → D) (inner : A → Stream V) (other : B → Stream W)
    → ((x : A) → other (b x) ≡ stream_map v (inner x))
    → (result : A → V → Result C Fault) (found : B → W → Result D Fault) → ((x : A) (y : V) → found (b x) (v y) ≡ result_map d (result x y))
    → (xs : List A) (e : End)
    → expand_by other found (map b xs) e ≡ stream_map d (expand_by inner result xs e)
expand_natural b v d inner other hi result found hr xs e =
    each_natural b d (λ x. select_each (found x) (other x)) (λ x. select_each (result x) (inner x))
    (λ x. ap (select_each (found (b x))) (hi x) ∙ select_natural v d (result x) (found (b x)) (hr x) (inner x).0 (inner x).1) xs e

-- ---- what is read whole, and what depends on a key

pub whole_natural : {Q W C D : Type 0} (q : Q → W) (d : C → D) (next : List Q → Stream C) (more : List W → Stream D)
    → ((ys : List Q) → more (map q ys) ≡ stream_map d (next ys))
    → (xs : List Q) (e : End) → whole (map q xs) e more ≡ stream_map d (whole xs e next)
whole_natural q d next more h xs end.Done = h xs
whole_natural q d next more h xs (end.Fault f) = refl

value_natural : {K L C D : Type 0} (g : K → L) (d : C → D) (next : K → Stream C) (more : L → Stream D) → ((x : K) → more (g x) ≡ stream_map d (next x))
    → (o : Result K Fault) → on_value (result_map g o) more ≡ stream_map d (on_value o next)
value_natural g d next more h (Ok x) = h x
value_natural g d next more h (Err e) = refl

pub keys_natural : {V W K L : Type 0} (v : V → W) (g : K → L) (key : V → Result K Fault) (other : W → Result L Fault)
    → ((x : V) → other (v x) ≡ result_map g (key x)) → (vs : Stream V)
    → with_keys other (stream_map v vs) ≡ stream_map (pair_map g v) (with_keys key vs)
keys_natural {L} v g key other h vs =
    select_natural v (pair_map g v) (λ x. both (key x) (Ok x)) (λ x. both (other x) (Ok x))
    (λ x. ap (λ (o : Result L Fault). both o (Ok (v x))) (h x) ∙ both_natural g v (key x) (Ok x)) vs.0 vs.1

module _ {A B Q W K L V U C D : Type 0} (b : A → B) (q : Q → W) (g : K → L) (v : V → U) (d : C → D) where
  pub join_natural : (key : A → Result K Fault) (other : B → Result L Fault) → ((x : A) → other (b x) ≡ result_map g (key x))
      → (matches : K → List Q → List V) (found : L → List W → List U) → ((k : K) (qs : List Q) → found (g k) (map q qs) ≡ map v (matches k qs))
      → (result : A → V → Result C Fault) (given : B → U → Result D Fault) → ((x : A) (y : V) → given (b x) (v y) ≡ result_map d (result x y))
      → (inner : Stream Q) (xs : List A) (e : End)
      → join_by (stream_map q inner) other found given (map b xs) e ≡ stream_map d (join_by inner key matches result xs e)
  join_natural key other hk matches found hm result given hr inner xs e =
      whole_natural q d (λ qs. each (λ x. on_value (key x) (λ k. select_each (result x) (matches k qs, end.Done))) xs e)
      (λ ws. each (λ x. on_value (other x) (λ l. select_each (given x) (found l ws, end.Done))) (map b xs) e)
      (λ qs. each_natural b d (λ x. on_value (other x) (λ l. select_each (given x) (found l (map q qs), end.Done)))
      (λ x. on_value (key x) (λ k. select_each (result x) (matches k qs, end.Done)))
      (λ x. ap (λ (o : Result L Fault). on_value o (λ l. select_each (given (b x)) (found l (map q qs), end.Done))) (hk x)
      ∙ value_natural g d (λ k. select_each (result x) (matches k qs, end.Done)) (λ l. select_each (given (b x)) (found l (map q qs), end.Done))
      (λ k. ap (λ (us : List U). select_each (given (b x)) (us, end.Done)) (hm k qs) ∙ select_natural v d (result x) (given (b x)) (hr x) (matches k qs) end.Done)
      (key x)) xs e) inner.0 inner.1

-- ---- keys and groups

module _ {K L : Type 0} (g : K → L) (same : K → K → Bool) (alike : L → L → Bool) (h : (k l : K) → alike (g k) (g l) ≡ same k l) where
  pub first_keys_natural : (ks : List K) → first_keys alike (map g ks) ≡ map g (first_keys same ks)
  first_keys_natural [] = refl
  first_keys_natural (k ∷ ks) =
      ap (λ (ls : List L). g k ∷ filter (λ l. not (alike (g k) l)) ls) (first_keys_natural ks)
      ∙ ap (λ (ls : List L). g k ∷ ls) (filter_natural g (λ l. not (same k l)) (λ l. not (alike (g k) l)) (λ l. ap not (h k l)) (first_keys same ks))

  pub elements_natural : {V W : Type 0} (v : V → W) (k : K) (qs : List (K × V))
      → elements_of alike (g k) (map (pair_map g v) qs) ≡ map v (elements_of same k qs)
  elements_natural {V} {W} v k qs =
      ap (λ (ws : List (L × W)). map (λ w. w.1) ws)
      (filter_natural (pair_map g v) (λ (q : K × V). same k q.0) (λ (w : L × W). alike (g k) w.0) (λ q. h k q.0) qs)
      ∙ map_square (pair_map g v) v (λ q. q.1) (λ w. w.1) (λ q. refl) (filter (λ q. same k q.0) qs)

  pub groups_natural : {V W : Type 0} (v : V → W) (qs : List (K × V)) → groups_of alike (map (pair_map g v) qs) ≡ map (pair_map g (map v)) (groups_of same qs)
  groups_natural {V} {W} v qs =
      ap (λ (ls : List L). map (λ l. (l, elements_of alike l (map (pair_map g v) qs))) (first_keys alike ls))
      (map_square (pair_map g v) g (λ q. q.0) (λ w. w.0) (λ q. refl) qs)
      ∙ ap (λ (ls : List L). map (λ l. (l, elements_of alike l (map (pair_map g v) qs))) ls) (first_keys_natural (map (λ q. q.0) qs))
      ∙ map_square g (pair_map g (map v)) (λ k. (k, elements_of same k qs)) (λ l. (l, elements_of alike l (map (pair_map g v) qs)))
      (λ k. ap (λ (ws : List W). (g k, ws)) (elements_natural v k qs)) (first_keys same (map (λ q. q.0) qs))

  pub group_natural : {A B V W C D : Type 0} (b : A → B) (v : V → W) (d : C → D)
      → (key : A → Result K Fault) (other : B → Result L Fault) → ((x : A) → other (b x) ≡ result_map g (key x))
      → (element : A → Result V Fault) (found : B → Result W Fault) → ((x : A) → found (b x) ≡ result_map v (element x))
      → (result : K × List V → C) (given : L × List W → D) → ((p : K × List V) → given (pair_map g (map v) p) ≡ d (result p)) → (xs : List A) (e : End)
      → group_by alike other found given (map b xs) e ≡ stream_map d (group_by same key element result xs e)
  group_natural {V} {W} {D} b v d key other hk element found he result given hr xs e =
      ap (λ (s : Stream (L × W)). whole s.0 s.1 (λ ws. (map given (groups_of alike ws), end.Done)))
      (select_natural b (pair_map g v) (λ x. both (key x) (element x)) (λ x. both (other x) (found x))
      (λ x. ap₂ both (hk x) (he x) ∙ both_natural g v (key x) (element x)) xs e)
      ∙ whole_natural (pair_map g v) d (λ qs. (map result (groups_of same qs), end.Done)) (λ ws. (map given (groups_of alike ws), end.Done))
      (λ qs. ap (λ (ds : List D). (ds, end.Done))
      (ap (map given) (groups_natural v qs) ∙ map_square (pair_map g (map v)) d result given hr (groups_of same qs)))
      (select_by (λ x. both (key x) (element x)) xs e).0 (select_by (λ x. both (key x) (element x)) xs e).1

-- ---- order

pub arranged_natural : {A B S : Type 0} (b : A → B) (descending : S → Bool) (key : S → A → Result Scalar Fault) (other : S → B → Result Scalar Fault)
    → ((s : S) (x : A) → other s (b x) ≡ key s x) → (ss : List S) (xs : List A) (e : End)
    → order_by descending other ss (map b xs) e ≡ stream_map b (order_by descending key ss xs e)
arranged_natural b descending key other h ss xs e =
    order_natural b descending other ss xs e ∙ (λ i. stream_map b (order_by descending (λ s x. h s x i) ss xs e))
