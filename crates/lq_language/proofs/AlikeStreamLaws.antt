-- Steps over streams whose items all pass a test, in two worlds: where what is done to each item is alike, so is what comes of them.
use Rattle.std.proofs.Common.{◌≡◌, ◌∷◌, ◌++◌, if◌then◌else◌, List, [], map, filter, Bool, true, false, not, Result, Ok, Err, ap, ap₂, refl, subst}
use Rattle.lq_value.specs.declared.scalar.Scalar.{Scalar}
use Rattle.lq_value.specs.declared.value.End.{End}
use Rattle.lq_value.specs.declared.value.End.TheVariants as end
use Rattle.lq_value.specs.declared.value.Fault.{Fault}
use Rattle.lq_language.specs.Arrangement.{Keyed, all_of, arranged, inserted, is_greater, keyed, order_by, order_of_keys, with_key}
use Rattle.lq_language.specs.ValuesOfTypes.{Every}
use Rattle.lq_language.specs.Operations.{on_ok}
use Rattle.lq_language.specs.Stream.{Stream, both, each, elements_of, expand_by, first_keys, group_by, groups_of, join_by, item_where, select_each, on_value, one, select_by, then_ending, then_stream, where_by, whole}
use Rattle.lq_language.proofs.ItemLaws.{every_filter, every_map, every_more, every_none, first_of, others_of}

-- one outcome in both, and a value that passes
abbrev pub Agree : {A : Type 0} → (A → Type 0) → Result A Fault → Result A Fault → Type 0
Agree {A} P m n = (m ≡ n) × ((x : A) → m ≡ Ok x → P x)

-- one stream in both, of items that pass
abbrev pub Alike : {A : Type 0} → (A → Type 0) → Stream A → Stream A → Type 0
Alike P s t = (s ≡ t) × Every P s.0

pub agree_ok : {A : Type 0} (P : A → Type 0) (x : A) → P x → Agree P (Ok x) (Ok x)
agree_ok P x p = (refl, λ y h. subst P (ok_same x y h) p) where
  ok_same : {A : Type 0} (x y : A) → ◌≡◌ {A = Result A Fault} (Ok x) (Ok y) → x ≡ y
  ok_same x y h = cc

pub agree_err : {A : Type 0} (P : A → Type 0) (f : Fault) → Agree P (Err f) (Err f)
agree_err P f = (refl, λ y h. absurd cc)

-- ---- what follows an outcome

module _ {A B : Type 0} (P : A → Type 0) (Q : B → Type 0) where
  ok_by : (next more : A → Result B Fault) → ((x : A) → P x → Agree Q (next x) (more x)) → (m : Result A Fault) → ((x : A) → m ≡ Ok x → P x) → Agree Q (on_ok m next) (on_ok m more)
  ok_by next more same (Ok x) p = same x (p x refl)
  ok_by next more same (Err f) p = agree_err Q f

  pub on_ok_agree : (next more : A → Result B Fault) → ((x : A) → P x → Agree Q (next x) (more x)) → (m n : Result A Fault) → Agree P m n → Agree Q (on_ok m next) (on_ok n more)
  on_ok_agree next more same m n h = subst (λ (k : Result A Fault). Agree Q (on_ok m next) (on_ok k more)) h.0 (ok_by next more same m h.1)

  value_by : (next more : A → Stream B) → ((x : A) → P x → Alike Q (next x) (more x)) → (m : Result A Fault) → ((x : A) → m ≡ Ok x → P x) → Alike Q (on_value m next) (on_value m more)
  value_by next more same (Ok x) p = same x (p x refl)
  value_by next more same (Err f) p = (refl, every_none Q)

  pub on_value_alike : (next more : A → Stream B) → ((x : A) → P x → Alike Q (next x) (more x)) → (m n : Result A Fault) → Agree P m n → Alike Q (on_value m next) (on_value n more)
  on_value_alike next more same m n h = subst (λ (k : Result A Fault). Alike Q (on_value m next) (on_value k more)) h.0 (value_by next more same m h.1)

  whole_by : (next more : List A → Stream B) → ((ys : List A) → Every P ys → Alike Q (next ys) (more ys)) → (xs : List A) (e : End) → Every P xs → Alike Q (whole xs e next) (whole xs e more)
  whole_by next more same xs end.Done ps = same xs ps
  whole_by next more same xs (end.Fault f) ps = (refl, every_none Q)

  pub whole_alike : (next more : List A → Stream B) → ((ys : List A) → Every P ys → Alike Q (next ys) (more ys)) → (s t : Stream A) → Alike P s t
      → Alike Q (whole s.0 s.1 next) (whole t.0 t.1 more)
  whole_alike next more same s t h = subst (λ (r : Stream A). Alike Q (whole s.0 s.1 next) (whole r.0 r.1 more)) h.0 (whole_by next more same s.0 s.1 h.1)

-- ---- one item, and one stream after another

every_one : {A : Type 0} (P : A → Type 0) (m : Result A Fault) → ((x : A) → m ≡ Ok x → P x) → Every P (one m).0
every_one P (Ok x) p = every_more P x [] (p x refl) (every_none P)
every_one P (Err f) p = every_none P

pub one_alike : {A : Type 0} (P : A → Type 0) (m n : Result A Fault) → Agree P m n → Alike P (one m) (one n)
one_alike P m n h = (ap one h.0, every_one P m h.1)

every_kept_one : {A : Type 0} (P : A → Type 0) (o : Result Bool Fault) (x : A) → P x → Every P (item_where o x).0
every_kept_one P (Ok true) x p = every_more P x [] p (every_none P)
every_kept_one P (Ok false) x p = every_none P
every_kept_one P (Err f) x p = every_none P

pub every_append : {A : Type 0} (P : A → Type 0) (xs ys : List A) → Every P xs → Every P ys → Every P (xs ++ ys)
every_append P [] ys ps qs = qs
every_append P (x ∷ xs) ys ps qs = every_more P x (xs ++ ys) (first_of P x xs ps) (every_append P xs ys (others_of P x xs ps) qs)

every_then : {A : Type 0} (P : A → Type 0) (xs : List A) (e : End) (t : Stream A) → Every P xs → Every P t.0 → Every P (then_ending xs e t).0
every_then P xs end.Done t ps qs = every_append P xs t.0 ps qs
every_then P xs (end.Fault f) t ps qs = ps

pub every_concat : {A : Type 0} (P : A → Type 0) (s t : Stream A) → Every P s.0 → Every P t.0 → Every P (then_stream s t).0
every_concat P s t ps qs = every_then P s.0 s.1 t ps qs

-- ---- each item in turn

module _ {A B : Type 0} (P : A → Type 0) (Q : B → Type 0) where
  each_by : (h k : A → Stream B) → ((x : A) → P x → Alike Q (h x) (k x)) → (xs : List A) (e : End) → Every P xs → Alike Q (each h xs e) (each k xs e)
  each_by h k same [] e ps = (refl, every_none Q)
  each_by h k same (x ∷ xs) e ps =
      let here = same x (first_of P x xs ps) in
      let rest = each_by h k same xs e (others_of P x xs ps) in
      (ap₂ then_stream here.0 rest.0, every_then Q (h x).0 (h x).1 (each h xs e) here.1 rest.1)

  pub each_alike : (h k : A → Stream B) → ((x : A) → P x → Alike Q (h x) (k x)) → (s t : Stream A) → Alike P s t → Alike Q (each h s.0 s.1) (each k t.0 t.1)
  each_alike h k same s t all = subst (λ (r : Stream A). Alike Q (each h s.0 s.1) (each k r.0 r.1)) all.0 (each_by h k same s.0 s.1 all.1)

  pub select_alike : (f g : A → Result B Fault) → ((x : A) → P x → Agree Q (f x) (g x)) → (s t : Stream A) → Alike P s t → Alike Q (select_by f s.0 s.1) (select_by g t.0 t.1)
  select_alike f g same = each_alike (λ x. one (f x)) (λ x. one (g x)) (λ x p. one_alike Q (f x) (g x) (same x p))

pub where_alike : {A : Type 0} (P : A → Type 0) (c d : A → Result Bool Fault) → ((x : A) → P x → c x ≡ d x) → (s t : Stream A) → Alike P s t → Alike P (where_by c s.0 s.1) (where_by d t.0 t.1)
where_alike P c d same = each_alike P P (λ x. item_where (c x) x) (λ x. item_where (d x) x) (λ x p. (ap (λ (o : Result Bool Fault). item_where o x) (same x p), every_kept_one P (c x) x p))

module _ {A V B : Type 0} (P : A → Type 0) (S : V → Type 0) (Q : B → Type 0) where
  pub expand_alike : (f g : A → Stream V) (result other : A → V → Result B Fault) → ((x : A) → P x → Alike S (f x) (g x)) → ((x : A) → P x → (v : V) → S v → Agree Q (result x v) (other x v))
      → (s t : Stream A) → Alike P s t → Alike Q (expand_by f result s.0 s.1) (expand_by g other t.0 t.1)
  expand_alike f g result other same agree =
      each_alike P Q (λ x. select_each (result x) (f x)) (λ x. select_each (other x) (g x)) (λ x p. select_alike S Q (result x) (other x) (agree x p) (f x) (g x) (same x p))

  module _ {K I : Type 0} (L : K → Type 0) (J : I → Type 0) where
    pub join_alike : (key other_key : A → Result K Fault) (found other_found : K → List I → List V) (result other : A → V → Result B Fault)
        → ((x : A) → P x → Agree L (key x) (other_key x)) → ((k : K) (qs : List I) → Every J qs → (found k qs ≡ other_found k qs) × Every S (found k qs))
        → ((x : A) → P x → (v : V) → S v → Agree Q (result x v) (other x v)) → (inner more : Stream I) → Alike J inner more → (s t : Stream A) → Alike P s t
        → Alike Q (join_by inner key found result s.0 s.1) (join_by more other_key other_found other t.0 t.1)
    join_alike key other_key found other_found result other keys finds results inner more inners s t all =
        whole_alike J Q (λ qs. each (λ x. on_value (key x) (λ k. select_each (result x) (found k qs, end.Done))) s.0 s.1)
        (λ qs. each (λ x. on_value (other_key x) (λ k. select_each (other x) (other_found k qs, end.Done))) t.0 t.1)
        (λ qs js. each_alike P Q _ _
        (λ x p. on_value_alike L Q (λ k. select_each (result x) (found k qs, end.Done)) (λ k. select_each (other x) (other_found k qs, end.Done))
        (λ k l. select_alike S Q (result x) (other x) (results x p) (found k qs, end.Done) (other_found k qs, end.Done)
        (ap (λ (vs : List V). (vs, end.Done)) (finds k qs js).0, (finds k qs js).1)) (key x) (other_key x) (keys x p)) s t all) inner more inners

-- ---- groups

pub every_first_key : {K : Type 0} (P : K → Type 0) (same : K → K → Bool) (ks : List K) → Every P ks → Every P (first_keys same ks)
every_first_key P same [] ps = every_none P
every_first_key P same (k ∷ ks) ps =
    every_more P k _ (first_of P k ks ps) (every_filter P (λ l. not (same k l)) (first_keys same ks) (every_first_key P same ks (others_of P k ks ps)))

abbrev pub Pair : {A B : Type 0} → (A → Type 0) → (B → Type 0) → A × B → Type 0
Pair P Q x = P x.0 × Q x.1

both_by : {A B : Type 0} (P : A → Type 0) (Q : B → Type 0) (m : Result A Fault) (n : Result B Fault) → ((x : A) → m ≡ Ok x → P x) → ((y : B) → n ≡ Ok y → Q y)
    → (x : A × B) → both m n ≡ Ok x → Pair P Q x
both_by P Q (Ok x) (Ok y) p q z h = let same : (x, y) ≡ z = cc in subst (Pair P Q) same (p x refl, q y refl)
both_by P Q (Ok x) (Err f) p q z h = absurd cc
both_by P Q (Err f) n p q z h = absurd cc

pub both_agree : {A B : Type 0} (P : A → Type 0) (Q : B → Type 0) (m k : Result A Fault) (n l : Result B Fault) → Agree P m k → Agree Q n l → Agree (Pair P Q) (both m n) (both k l)
both_agree P Q m k n l h i = (ap₂ both h.0 i.0, both_by P Q m n h.1 i.1)

pub every_element : {K V : Type 0} (P : K → Type 0) (Q : V → Type 0) (same : K → K → Bool) (k : K) (qs : List (K × V)) → Every (Pair P Q) qs → Every Q (elements_of same k qs)
every_element {K} {V} P Q same k qs ps = every_map (Pair P Q) Q (λ q. q.1) (λ q p. p.1) (filter (λ q. same k q.0) qs) (every_filter (Pair P Q) (λ q. same k q.0) qs ps)

module _ {A K V B : Type 0} (P : A → Type 0) (L : K → Type 0) (S : V → Type 0) (Q : B → Type 0) where
  pub group_alike : (same : K → K → Bool) (key other_key : A → Result K Fault) (element other : A → Result V Fault) (result : K × List V → B)
      → ((x : A) → P x → Agree L (key x) (other_key x)) → ((x : A) → P x → Agree S (element x) (other x)) → ((k : K) (vs : List V) → L k → Every S vs → Q (result (k, vs)))
      → (s t : Stream A) → Alike P s t → Alike Q (group_by same key element result s.0 s.1) (group_by same other_key other result t.0 t.1)
  group_alike same key other_key element other result keys elements results s t all =
      whole_alike (Pair L S) Q (λ qs. (map result (groups_of same qs), end.Done)) (λ qs. (map result (groups_of same qs), end.Done))
      (λ qs ps. (
        refl,
        every_map (λ g. L g.0 × Every S g.1) Q result (λ g p. results g.0 g.1 p.0 p.1) (groups_of same qs)
            (every_map L (λ g. L g.0 × Every S g.1) (λ k. (k, elements_of same k qs)) (λ k l. (l, every_element L S same k qs ps)) (first_keys same (map (λ q. q.0) qs))
            (every_first_key L same (map (λ q. q.0) qs) (every_map (Pair L S) L (λ q. q.0) (λ q p. p.0) qs ps))),
      ))
      (each (λ x. one (both (key x) (element x))) s.0 s.1) (each (λ x. one (both (other_key x) (other x))) t.0 t.1)
      (select_alike P (Pair L S) (λ x. both (key x) (element x)) (λ x. both (other_key x) (other x))
      (λ x p. both_agree L S (key x) (other_key x) (element x) (other x) (keys x p) (elements x p)) s t all)

-- ---- order

module _ {A K : Type 0} (P : A → Type 0) (key other : K → A → Result Scalar Fault) where
  -- each key is alike on all items that pass
  abbrev pub KeysAlike : List K → Type 0
  KeysAlike [] = Unit {0}
  KeysAlike (k ∷ ks) = ((x : A) → P x → key k x ≡ other k x) × KeysAlike ks

  all_alike : (f g : A → Result Scalar Fault) → ((x : A) → P x → f x ≡ g x) → (xs : List A) → Every P xs → all_of f xs ≡ all_of g xs
  all_alike f g same [] ps = refl
  all_alike f g same (x ∷ xs) ps =
      ap₂ (λ (o : Result Scalar Fault) (p : Result (List Scalar) Fault). on_ok o (λ y. on_ok p (λ ys. Ok (y ∷ ys)))) (same x (first_of P x xs ps)) (all_alike f g same xs (others_of P x xs ps))

  keyed_alike : (ks : List K) (xs : List A) → KeysAlike ks → Every P xs → keyed key ks xs ≡ keyed other ks xs
  keyed_alike [] xs same ps = refl
  keyed_alike (k ∷ ks) xs same ps =
      ap₂ (λ (o : Result (List Scalar) Fault) (p : Result (List (Keyed A)) Fault). on_ok o (λ ls. on_ok p (λ rows. Ok (with_key ls rows)))) (all_alike (key k) (other k) same.0 xs ps)
      (keyed_alike ks xs same.1 ps)

abbrev Item : {A : Type 0} → (A → Type 0) → Keyed A → Type 0
Item P row = P row.1

every_with_key : {A : Type 0} (P : A → Type 0) (ls : List Scalar) (rows : List (Keyed A)) → Every (Item P) rows → Every (Item P) (with_key ls rows)
every_with_key P [] rows ps = every_none (Item P)
every_with_key P (l ∷ ls) [] ps = every_none (Item P)
every_with_key P (l ∷ ls) (row ∷ rows) ps = every_more (Item P) (l ∷ row.0, row.1) (with_key ls rows) (first_of (Item P) row rows ps) (every_with_key P ls rows (others_of (Item P) row rows ps))

keyed_next : {A : Type 0} (P : A → Type 0) (o : Result (List Scalar) Fault) (p : Result (List (Keyed A)) Fault) → ((rows : List (Keyed A)) → p ≡ Ok rows → Every (Item P) rows)
    → (rows : List (Keyed A)) → on_ok o (λ ls. on_ok p (λ more. Ok (with_key ls more))) ≡ Ok rows → Every (Item P) rows
keyed_next P (Ok ls) (Ok more) ps rows h = let same : with_key ls more ≡ rows = cc in subst (Every (Item P)) same (every_with_key P ls more (ps more refl))
keyed_next P (Ok ls) (Err f) ps rows h = absurd cc
keyed_next P (Err f) p ps rows h = absurd cc

every_keyed : {A K : Type 0} (P : A → Type 0) (key : K → A → Result Scalar Fault) (ks : List K) (xs : List A) → Every P xs → (rows : List (Keyed A)) → keyed key ks xs ≡ Ok rows → Every (Item P) rows
every_keyed P key [] xs ps rows h = let same : map (λ x. ([], x)) xs ≡ rows = cc in subst (Every (Item P)) same (every_map P (Item P) (λ x. ([], x)) (λ x p. p) xs ps)
every_keyed P key (k ∷ ks) xs ps rows h = keyed_next P (all_of (key k) xs) (keyed key ks xs) (every_keyed P key ks xs ps) rows h

inserted_by : {A : Type 0} (P : A → Type 0) (row other : Keyed A) (rows front : List (Keyed A)) → P row.1 → P other.1 → Every (Item P) rows → Every (Item P) front → (b : Bool)
    → Every (Item P) (if b then other ∷ front else row ∷ other ∷ rows)
inserted_by P row other rows front p q ps fs true = every_more (Item P) other front q fs
inserted_by P row other rows front p q ps fs false = every_more (Item P) row (other ∷ rows) p (every_more (Item P) other rows q ps)

every_inserted : {A : Type 0} (P : A → Type 0) (ds : List Bool) (row : Keyed A) (rows : List (Keyed A)) → P row.1 → Every (Item P) rows → Every (Item P) (inserted ds row rows)
every_inserted P ds row [] p ps = every_more (Item P) row [] p ps
every_inserted P ds row (other ∷ rows) p ps =
    let rest = others_of (Item P) other rows ps in
    inserted_by P row other rows (inserted ds row rows) p (first_of (Item P) other rows ps) rest (every_inserted P ds row rows p rest) (is_greater (order_of_keys ds row.0 other.0))

every_arranged : {A : Type 0} (P : A → Type 0) (ds : List Bool) (rows : List (Keyed A)) → Every (Item P) rows → Every (Item P) (arranged ds rows)
unfolding arranged
every_arranged P ds [] ps = ps
every_arranged P ds (row ∷ rows) ps =
    every_inserted P ds row (arranged ds rows) (first_of (Item P) row rows ps) (every_arranged P ds rows (others_of (Item P) row rows ps))

pub order_alike : {A K : Type 0} (P : A → Type 0) (descending : K → Bool) (key other : K → A → Result Scalar Fault) (ks : List K) → KeysAlike P key other ks
    → (s t : Stream A) → Alike P s t → Alike P (order_by descending key ks s.0 s.1) (order_by descending other ks t.0 t.1)
order_alike {A} P descending key other ks same =
    whole_alike P P (λ ys. on_value (keyed key ks ys) sorted) (λ ys. on_value (keyed other ks ys) sorted)
    (λ ys ps. on_value_alike (Every (Item P)) P sorted sorted
    (λ rows is. (refl, every_map (Item P) P (λ row. row.1) (λ row p. p) (arranged (map descending ks) rows) (every_arranged P (map descending ks) rows is)))
    (keyed key ks ys) (keyed other ks ys) (keyed_alike P key other ks ys same ps, every_keyed P key ks ys ps))
  where
    sorted : List (Keyed A) → Stream A
    sorted rows = (map (λ row. row.1) (arranged (map descending ks) rows), end.Done)
