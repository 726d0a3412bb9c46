-- Lists whose items all pass a test, streams over them, and what is found by its name.
use Rattle.std.proofs.Common.{◌≡◌, ◌+◌, ◌∷◌, if◌then◌else◌, List, [], map, filter, ℕ, zero, suc, Bool, true, false, Option, Some, None, Result, Ok, Err, ap, ap₂, ◌∙◌, arith, sym, refl, subst, slice_get, bytes_eq, zero-add}
use Rattle.std.proofs.lemmas.Option.{none-some, same_Some}
use Rattle.std.specs.List.{position_from}
use Rattle.lq_value.specs.declared.table.Schema.{Schema}
use Rattle.lq_value.specs.declared.ty.Ty.{Ty}
use Rattle.lq_value.specs.declared.value.End.{End}
use Rattle.lq_value.specs.declared.value.Fault.{Fault}
use Rattle.lq_language.specs.Worlds.{Binding, Scope, World, binding_of, typed_locals}
use Rattle.lq_language.specs.ValuesOfTypes.{Every, IsOf, IsOfScope}
use Rattle.lq_language.specs.Stream.{Stream, each, item_where, one, select_by, then_stream, where_by}
use Rattle.lq_language.specs.Names.{local_type, table_number}

-- ---- lists

pub every_none : {A : Type 0} (P : A → Type 0) → Every P []
every_none P k x h = absurd (none-some x h)

pub every_more : {A : Type 0} (P : A → Type 0) (x : A) (xs : List A) → P x → Every P xs → Every P (x ∷ xs)
every_more P x xs p ps zero y h = subst P (same_Some x y h) p
every_more P x xs p ps (suc k) y h = ps k y h

pub first_of : {A : Type 0} (P : A → Type 0) (x : A) (xs : List A) → Every P (x ∷ xs) → P x
first_of P x xs ps = ps zero x refl

pub others_of : {A : Type 0} (P : A → Type 0) (x : A) (xs : List A) → Every P (x ∷ xs) → Every P xs
others_of P x xs ps k y h = ps (suc k) y h

pub every_map : {A B : Type 0} (P : A → Type 0) (Q : B → Type 0) (f : A → B) → ((x : A) → P x → Q (f x)) → (xs : List A) → Every P xs → Every Q (map f xs)
every_map P Q f g [] ps = every_none Q
every_map P Q f g (x ∷ xs) ps = every_more Q (f x) (map f xs) (g x (first_of P x xs ps)) (every_map P Q f g xs (others_of P x xs ps))

filtered : {A : Type 0} (P : A → Type 0) (x : A) (rest : List A) → P x → Every P rest → (b : Bool) → Every P (if b then x ∷ rest else rest)
filtered P x rest p ps true = every_more P x rest p ps
filtered P x rest p ps false = ps

pub every_filter : {A : Type 0} (P : A → Type 0) (test : A → Bool) (xs : List A) → Every P xs → Every P (filter test xs)
every_filter P test [] ps = every_none P
every_filter P test (x ∷ xs) ps = filtered P x (filter test xs) (first_of P x xs ps) (every_filter P test xs (others_of P x xs ps)) (test x)

-- ---- streams

pub each_same : {A B : Type 0} (P : A → Type 0) (h k : A → Stream B) → ((x : A) → P x → h x ≡ k x) → (xs : List A) (e : End) → Every P xs → each h xs e ≡ each k xs e
each_same P h k same [] e ps = refl
each_same P h k same (x ∷ xs) e ps = ap₂ then_stream (same x (first_of P x xs ps)) (each_same P h k same xs e (others_of P x xs ps))

one_kept : {A : Type 0} (P : A → Type 0) (x : A) (rest : Stream A) → P x → Every P rest.0 → (o : Result Bool Fault) → Every P (then_stream (item_where o x) rest).0
one_kept P x rest p ps (Ok true) = every_more P x rest.0 p ps
one_kept P x rest p ps (Ok false) = ps
one_kept P x rest p ps (Err f) = every_none P

pub every_kept : {A : Type 0} (P : A → Type 0) (c : A → Result Bool Fault) (xs : List A) (e : End) → Every P xs → Every P (where_by c xs e).0
every_kept P c [] e ps = every_none P
every_kept P c (x ∷ xs) e ps = one_kept P x (where_by c xs e) (first_of P x xs ps) (every_kept P c xs e (others_of P x xs ps)) (c x)

one_selected : {A : Type 0} (Q : A → Type 0) (rest : Stream A) → Every Q rest.0 → (o : Result A Fault) → ((v : A) → o ≡ Ok v → Q v) → Every Q (then_stream (one o) rest).0
one_selected Q rest qs (Ok v) q = every_more Q v rest.0 (q v refl) qs
one_selected Q rest qs (Err f) q = every_none Q

pub every_selected : {A B : Type 0} (P : A → Type 0) (Q : B → Type 0) (m : A → Result B Fault) → ((x : A) → P x → (v : B) → m x ≡ Ok v → Q v) → (xs : List A) (e : End)
    → Every P xs → Every Q (select_by m xs e).0
every_selected P Q m q [] e ps = every_none Q
every_selected P Q m q (x ∷ xs) e ps =
    one_selected Q (select_by m xs e) (every_selected P Q m q xs e (others_of P x xs ps)) (m x) (q x (first_of P x xs ps))

-- ---- what is found by its name

-- the thing at the number that was found
abbrev ThereAt : {A : Type 0} → List A → ℕ → ℕ → Type 0
ThereAt {A} xs start n = (k : ℕ) × (n ≡ start + k) × ((x : A) × (slice_get xs k ≡ Some x))

later_there : {A : Type 0} (x : A) (xs : List A) (start n : ℕ) → ThereAt xs (start + 1) n → ThereAt (x ∷ xs) start n
later_there x xs start n there = (suc there.0, omega (arith, there.1), there.2)

there_by : {A : Type 0} (x : A) (xs : List A) (start n : ℕ) (later : Option ℕ) → (later ≡ Some n → ThereAt xs (start + 1) n) → (b : Bool) → (if b then Some start else later) ≡ Some n
    → ThereAt (x ∷ xs) start n
there_by x xs start n later rest true h = (zero, omega (arith, same_Some start n h), (x, refl))
there_by x xs start n later rest false h = later_there x xs start n (rest h)

there : {A : Type 0} (test : A → Bool) (xs : List A) (start n : ℕ) → position_from test start xs ≡ Some n → ThereAt xs start n
there test [] start n h = absurd (none-some n h)
there test (x ∷ xs) start n h = there_by x xs start n (position_from test (start + 1) xs) (there test xs (start + 1) n) (test x) h

-- a table that a name refers to is there
pub table_there : (x : List ℕ) (schemas : List Schema) (n : ℕ) → table_number x schemas ≡ Some n → (schema : Schema) × (slice_get schemas n ≡ Some schema)
table_there x schemas n h = let found = there (λ schema. bytes_eq schema.name x) schemas 0 n h in (found.2.0, ap (slice_get schemas) (found.1 ∙ zero-add found.0) ∙ found.2.1)

module _ {R : Type 0} (world : World R) where
  abbrev pub HasBinding : List ℕ → Scope R → Ty → Type 0
  HasBinding x scope t = (b : Binding R) × (binding_of x scope ≡ Some b) × IsOf world t b.value

  binding_by : (x : List ℕ) (b : Binding R) (bs : List (Binding R)) (t : Ty) → IsOf world b.ty b.value → (later : Option Ty) → (later ≡ Some t → HasBinding x bs t) → (c : Bool)
      → (if c then Some b.ty else later) ≡ Some t → (d : Binding R) × ((if c then Some b else binding_of x bs) ≡ Some d) × IsOf world t d.value
  binding_by x b bs t fits later rest true h = (b, refl, subst (λ (u : Ty). IsOf world u b.value) (same_Some b.ty t h) fits)
  binding_by x b bs t fits later rest false h = rest h

  -- a typed local name has a value of its type
  pub has_binding : (x : List ℕ) (scope : Scope R) (t : Ty) → IsOfScope world scope → local_type x (typed_locals scope) ≡ Some t → HasBinding x scope t
  has_binding x [] t fits h = absurd (none-some t h)
  has_binding x (b ∷ bs) t fits h =
      binding_by x b bs t (first_of (λ d. IsOf world d.ty d.value) b bs fits) (local_type x (typed_locals bs))
      (has_binding x bs t (others_of (λ d. IsOf world d.ty d.value) b bs fits)) (bytes_eq b.name x) h

no_binding_by : {R : Type 0} (x : List ℕ) (b : Binding R) (bs : List (Binding R)) (later : Option Ty) → (later ≡ None → binding_of x bs ≡ None) → (c : Bool)
    → (if c then Some b.ty else later) ≡ None → (if c then Some b else binding_of x bs) ≡ None
no_binding_by x b bs later rest true h = absurd (none-some b.ty (sym h))
no_binding_by x b bs later rest false h = rest h

pub no_binding : {R : Type 0} (x : List ℕ) (scope : Scope R) → local_type x (typed_locals scope) ≡ None → binding_of x scope ≡ None
no_binding x [] h = refl
no_binding x (b ∷ bs) h = no_binding_by x b bs (local_type x (typed_locals bs)) (no_binding x bs) (bytes_eq b.name x) h
