-- Streams: one after another, how steps over a stream go with a map of its items, and how one step follows another.
use Rattle.std.proofs.Common.{◌≡◌, ◌∷◌, ◌++◌, if◌then◌else◌, List, [], map, Bool, true, false, Result, Ok, Err, ap, ap₂, ◌∙◌, sym, refl}
use Rattle.std.proofs.lemmas.List.{append-nil, append_assoc, map-append}
use Rattle.lq_value.specs.declared.scalar.Scalar.{Scalar}
use Rattle.lq_value.specs.declared.value.End.{End}
use Rattle.lq_value.specs.declared.value.End.TheVariants as end
use Rattle.lq_value.specs.declared.value.Fault.{Fault}
use Rattle.lq_language.specs.Arrangement.{Keyed, all_of, arranged, inserted, is_greater, keyed, order_by, order_of_keys, with_key}
use Rattle.lq_language.specs.Operations.{on_ok}
use Rattle.lq_language.specs.Stream.{Stream, both, each, group_by, groups_of, item_where, select_each, on_value, one, then_ending, then_stream, whole}

abbrev pub mapped : {A B : Type 0} → (A → B) → Stream A → Stream B
mapped d s = (map d s.0, s.1)

abbrev pub each_of : {A B : Type 0} → (A → Stream B) → Stream A → Stream B
each_of f s = each f s.0 s.1

-- ---- lists

pub map_same : {A : Type 0} (xs : List A) → map (λ x. x) xs ≡ xs
map_same [] = refl
map_same (x ∷ xs) = ap (λ ys. x ∷ ys) (map_same xs)

pub map_twice : {A B C : Type 0} (b : A → B) (g : B → C) (xs : List A) → map g (map b xs) ≡ map (λ x. g (b x)) xs
map_twice b g [] = refl
map_twice b g (x ∷ xs) = ap (λ ys. g (b x) ∷ ys) (map_twice b g xs)

-- ---- one stream after another

pub then_mapped : {A B : Type 0} (d : A → B) (xs : List A) (e : End) (t : Stream A) → then_ending (map d xs) e (mapped d t) ≡ mapped d (then_ending xs e t)
then_mapped d xs end.Done t = ap (λ ys. (ys, t.1)) (sym (map-append d xs t.0))
then_mapped d xs (end.Fault f) t = refl

then_nil : {A : Type 0} (xs : List A) (e : End) → then_ending xs e ([], end.Done) ≡ (xs, e)
then_nil xs end.Done = ap (λ ys. (ys, end.Done)) (append-nil xs)
then_nil xs (end.Fault f) = refl

-- one stream after another, after a third
pub then_assoc : {A : Type 0} (xs : List A) (d : End) (ys : List A) (e : End) (c : Stream A) → then_ending xs d (then_ending ys e c) ≡ then_stream (then_ending xs d (ys, e)) c
then_assoc xs end.Done ys end.Done c = ap (λ l. (l, c.1)) (sym (append_assoc xs ys c.0))
then_assoc xs end.Done ys (end.Fault f) c = refl
then_assoc xs (end.Fault f) ys e c = refl

-- ---- a map of the items

pub each_natural : {A B C D : Type 0} (b : A → B) (d : C → D) (f : B → Stream D) (g : A → Stream C) → ((x : A) → f (b x) ≡ mapped d (g x)) → (xs : List A) (e : End)
    → each f (map b xs) e ≡ mapped d (each g xs e)
each_natural b d f g h [] e = refl
each_natural b d f g h (x ∷ xs) e = ap₂ then_stream (h x) (each_natural b d f g h xs e) ∙ then_mapped d (g x).0 (g x).1 (each g xs e)

pub each_alike : {A C D : Type 0} (d : C → D) (f : A → Stream D) (g : A → Stream C) → ((x : A) → f x ≡ mapped d (g x)) → (xs : List A) (e : End)
    → each f xs e ≡ mapped d (each g xs e)
each_alike d f g h [] e = refl
each_alike d f g h (x ∷ xs) e = ap₂ then_stream (h x) (each_alike d f g h xs e) ∙ then_mapped d (g x).0 (g x).1 (each g xs e)

pub each_map : {A B C : Type 0} (b : A → B) (f : B → Stream C) (xs : List A) (e : End) → each f (map b xs) e ≡ each (λ x. f (b x)) xs e
each_map b f [] e = refl
each_map b f (x ∷ xs) e = ap (then_stream (f (b x))) (each_map b f xs e)

pub each_ext : {A B : Type 0} (f g : A → Stream B) → ((x : A) → f x ≡ g x) → (xs : List A) (e : End) → each f xs e ≡ each g xs e
each_ext f g h xs e = ap (λ k. each k xs e) (λ i x. h x i)

pub kept_mapped : {A B : Type 0} (b : A → B) (o : Result Bool Fault) (x : A) → item_where o (b x) ≡ mapped b (item_where o x)
kept_mapped b (Ok true) x = refl
kept_mapped b (Ok false) x = refl
kept_mapped b (Err f) x = refl

-- ---- one step after another

each_append : {A B : Type 0} (k : A → Stream B) (xs ys : List A) (e : End) → each k (xs ++ ys) e ≡ then_stream (each k xs end.Done) (each k ys e)
each_append k [] ys e = refl
each_append k (x ∷ xs) ys e =
    ap (then_stream (k x)) (each_append k xs ys e)
    ∙ then_assoc (k x).0 (k x).1 (each k xs end.Done).0 (each k xs end.Done).1 (each k ys e)

each_fault : {A B : Type 0} (k : A → Stream B) (xs : List A) (f : Fault) (t : Stream B) → each k xs (end.Fault f) ≡ then_stream (each k xs (end.Fault f)) t
each_fault k [] f t = refl
each_fault k (x ∷ xs) f t =
    ap (then_stream (k x)) (each_fault k xs f t)
    ∙ then_assoc (k x).0 (k x).1 (each k xs (end.Fault f)).0 (each k xs (end.Fault f)).1 t

each_then : {A B : Type 0} (k : A → Stream B) (xs : List A) (e : End) (t : Stream A) → each_of k (then_ending xs e t) ≡ then_stream (each k xs e) (each_of k t)
each_then k xs end.Done t = each_append k xs t.0 t.1
each_then k xs (end.Fault f) t = each_fault k xs f (each_of k t)

pub each_each : {A B C : Type 0} (k : B → Stream C) (f : A → Stream B) (xs : List A) (e : End) → each_of k (each f xs e) ≡ each (λ x. each_of k (f x)) xs e
each_each k f [] e = refl
each_each k f (x ∷ xs) e = each_then k (f x).0 (f x).1 (each f xs e) ∙ ap (then_stream (each_of k (f x))) (each_each k f xs e)

-- what follows at once on each value that a step makes
pub each_made : {V B C : Type 0} (k : B → Stream C) (g : V → B) (vs : Stream V) → each_of k (select_each (λ v. Ok (g v)) vs) ≡ each_of (λ v. k (g v)) vs
each_made k g vs =
    each_each k (λ v. one (Ok (g v))) vs.0 vs.1
    ∙ each_ext (λ v. each_of k (one (Ok (g v)))) (λ v. k (g v)) (λ v. then_nil (k (g v)).0 (k (g v)).1) vs.0 vs.1

-- a step that gives each item back
pub each_one : {A B : Type 0} (b : A → B) (xs : List A) (e : End) → each (λ x. one (Ok (b x))) xs e ≡ (map b xs, e)
each_one b [] e = refl
each_one b (x ∷ xs) e = ap (then_stream (one (Ok (b x)))) (each_one b xs e)

-- ---- what is read whole, and what depends on a key

pub whole_alike : {A C D : Type 0} (d : C → D) (next : List A → Stream D) (more : List A → Stream C) → ((ys : List A) → next ys ≡ mapped d (more ys)) → (xs : List A) (e : End)
    → whole xs e next ≡ mapped d (whole xs e more)
whole_alike d next more h xs end.Done = h xs
whole_alike d next more h xs (end.Fault f) = refl

pub whole_each : {A B C : Type 0} (k : B → Stream C) (next : List A → Stream B) (xs : List A) (e : End) → each_of k (whole xs e next) ≡ whole xs e (λ ys. each_of k (next ys))
whole_each k next xs end.Done = refl
whole_each k next xs (end.Fault f) = refl

pub whole_ext : {A B : Type 0} (next more : List A → Stream B) → ((ys : List A) → next ys ≡ more ys) → (xs : List A) (e : End) → whole xs e next ≡ whole xs e more
whole_ext next more h xs e = ap (whole xs e) (λ i ys. h ys i)

pub value_alike : {A C D : Type 0} (d : C → D) (next : A → Stream D) (more : A → Stream C) → ((x : A) → next x ≡ mapped d (more x)) → (o : Result A Fault)
    → on_value o next ≡ mapped d (on_value o more)
value_alike d next more h (Ok x) = h x
value_alike d next more h (Err f) = refl

pub value_each : {A B C : Type 0} (k : B → Stream C) (next : A → Stream B) (o : Result A Fault) → each_of k (on_value o next) ≡ on_value o (λ x. each_of k (next x))
value_each k next (Ok x) = refl
value_each k next (Err f) = refl

pub value_ext : {A B : Type 0} (next more : A → Stream B) → ((x : A) → next x ≡ more x) → (o : Result A Fault) → on_value o next ≡ on_value o more
value_ext next more h o = ap (on_value o) (λ i x. h x i)

-- ---- items with keys

abbrev rekeyed : {A B : Type 0} → (A → B) → Keyed A → Keyed B
rekeyed b row = (row.0, b row.1)

all_map : {A B C : Type 0} (b : A → B) (f : B → Result C Fault) (xs : List A) → all_of f (map b xs) ≡ all_of (λ x. f (b x)) xs
all_map b f [] = refl
all_map {C} b f (x ∷ xs) = ap (λ (o : Result (List C) Fault). on_ok (f (b x)) (λ y. on_ok o (λ ys. Ok (y ∷ ys)))) (all_map b f xs)

with_key_map : {A B : Type 0} (b : A → B) (ks : List Scalar) (rows : List (Keyed A)) → with_key ks (map (rekeyed b) rows) ≡ map (rekeyed b) (with_key ks rows)
with_key_map b [] rows = refl
with_key_map b (k ∷ ks) [] = refl
with_key_map b (k ∷ ks) (row ∷ rows) = ap (λ more. (k ∷ row.0, b row.1) ∷ more) (with_key_map b ks rows)

unkeyed_map : {A B : Type 0} (b : A → B) (xs : List A) → map (λ y. ([], y)) (map b xs) ≡ map (rekeyed b) (map (λ x. ([], x)) xs)
unkeyed_map b [] = refl
unkeyed_map b (x ∷ xs) = ap (λ more. ([], b x) ∷ more) (unkeyed_map b xs)

keyed_next : {A B : Type 0} (b : A → B) (o : Result (List Scalar) Fault) (p : Result (List (Keyed A)) Fault)
    → on_ok o (λ ks. on_ok (on_ok p (λ rows. Ok (map (rekeyed b) rows))) (λ rows. Ok (with_key ks rows)))
    ≡ on_ok (on_ok o (λ ks. on_ok p (λ rows. Ok (with_key ks rows)))) (λ rows. Ok (map (rekeyed b) rows))
keyed_next b (Ok ks) (Ok rows) = ap Ok (with_key_map b ks rows)
keyed_next b (Ok ks) (Err f) = refl
keyed_next b (Err f) p = refl

keyed_map : {A B S : Type 0} (b : A → B) (key : S → B → Result Scalar Fault) (ss : List S) (xs : List A)
    → keyed key ss (map b xs) ≡ on_ok (keyed (λ s x. key s (b x)) ss xs) (λ rows. Ok (map (rekeyed b) rows))
keyed_map b key [] xs = ap Ok (unkeyed_map b xs)
keyed_map {A} {B} b key (s ∷ ss) xs =
    ap₂ (λ (o : Result (List Scalar) Fault) (p : Result (List (Keyed B)) Fault). on_ok o (λ ks. on_ok p (λ rows. Ok (with_key ks rows)))) (all_map b (key s) xs) (keyed_map b key ss xs)
    ∙ keyed_next b (all_of (λ x. key s (b x)) xs) (keyed (λ r x. key r (b x)) ss xs)

inserted_by : {A B : Type 0} (b : A → B) (row other : Keyed A) (front : List (Keyed B)) (rows : List (Keyed A)) (more : List (Keyed A)) → front ≡ map (rekeyed b) more → (g : Bool)
    → (if g then rekeyed b other ∷ front else rekeyed b row ∷ rekeyed b other ∷ map (rekeyed b) rows) ≡ map (rekeyed b) (if g then other ∷ more else row ∷ other ∷ rows)
inserted_by b row other front rows more h true = ap (λ f. rekeyed b other ∷ f) h
inserted_by b row other front rows more h false = refl

inserted_map : {A B : Type 0} (b : A → B) (ds : List Bool) (row : Keyed A) (rows : List (Keyed A)) → inserted ds (rekeyed b row) (map (rekeyed b) rows) ≡ map (rekeyed b) (inserted ds row rows)
inserted_map b ds row [] = refl
inserted_map b ds row (other ∷ rows) =
    inserted_by b row other (inserted ds (rekeyed b row) (map (rekeyed b) rows)) rows (inserted ds row rows) (inserted_map b ds row rows) (is_greater (order_of_keys ds row.0 other.0))

arranged_map : {A B : Type 0} (b : A → B) (ds : List Bool) (rows : List (Keyed A)) → arranged ds (map (rekeyed b) rows) ≡ map (rekeyed b) (arranged ds rows)
unfolding arranged
arranged_map b ds [] = refl
arranged_map b ds (row ∷ rows) = ap (inserted ds (rekeyed b row)) (arranged_map b ds rows) ∙ inserted_map b ds row (arranged ds rows)

items_map : {A B : Type 0} (b : A → B) (rows : List (Keyed A)) → map (λ row. row.1) (map (rekeyed b) rows) ≡ map b (map (λ row. row.1) rows)
items_map b [] = refl
items_map b (row ∷ rows) = ap (λ more. b row.1 ∷ more) (items_map b rows)

abbrev in_order : {A : Type 0} → List Bool → Result (List (Keyed A)) Fault → Stream A
in_order ds o = on_value o (λ rows. (map (λ row. row.1) (arranged ds rows), end.Done))

in_order_map : {A B : Type 0} (b : A → B) (ds : List Bool) (o : Result (List (Keyed A)) Fault)
    → in_order ds (on_ok o (λ rows. Ok (map (rekeyed b) rows))) ≡ mapped b (in_order ds o)
in_order_map {A} {B} b ds (Ok rows) =
    ap (λ (ys : List B). (ys, end.Done)) (ap (λ (rs : List (Keyed B)). map (λ row. row.1) rs) (arranged_map b ds rows) ∙ items_map b (arranged ds rows))
in_order_map b ds (Err f) = refl

pub order_natural : {A B S : Type 0} (b : A → B) (descending : S → Bool) (key : S → B → Result Scalar Fault) (ss : List S) (xs : List A) (e : End)
    → order_by descending key ss (map b xs) e ≡ mapped b (order_by descending (λ s x. key s (b x)) ss xs e)
order_natural b descending key ss xs end.Done =
    ap (in_order (map descending ss)) (keyed_map b key ss xs) ∙ in_order_map b (map descending ss) (keyed (λ s x. key s (b x)) ss xs)
order_natural b descending key ss xs (end.Fault f) = refl

-- keys that are replaced before the items are sorted by them
module _ {A S T : Type 0} (t : S → T) (descending : T → Bool) (key : T → A → Result Scalar Fault) where
  keyed_keys : (ss : List S) (xs : List A) → keyed key (map t ss) xs ≡ keyed (λ s. key (t s)) ss xs
  keyed_keys [] xs = refl
  keyed_keys (s ∷ ss) xs =
      ap (λ (o : Result (List (Keyed A)) Fault). on_ok (all_of (key (t s)) xs) (λ ks. on_ok o (λ rows. Ok (with_key ks rows)))) (keyed_keys ss xs)

  pub order_keys : (ss : List S) (xs : List A) (e : End) → order_by descending key (map t ss) xs e ≡ order_by (λ s. descending (t s)) (λ s. key (t s)) ss xs e
  order_keys ss xs e =
      λ i. whole xs e (λ ys. on_value (keyed_keys ss ys i) (λ rows. (map (λ row. row.1) (arranged (map_twice t descending ss i) rows), end.Done)))

pub group_map : {A B C K V : Type 0} (b : A → B) (same : K → K → Bool) (key : B → Result K Fault) (element : B → Result V Fault) (result : K × List V → C) (xs : List A) (e : End)
    → group_by same key element result (map b xs) e ≡ group_by same (λ x. key (b x)) (λ x. element (b x)) result xs e
group_map {K} {V} b same key element result xs e =
    ap (λ (keyed : Stream (K × V)). whole keyed.0 keyed.1 (λ qs. (map result (groups_of same qs), end.Done))) (each_map b (λ x. one (both (key x) (element x))) xs e)
