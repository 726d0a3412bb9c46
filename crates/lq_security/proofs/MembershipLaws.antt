-- Proofs of the law of membership: the function that works out memberships gives exactly the roles that a role has.
use Rattle.std.proofs.Common.{◌≡◌, ◌<◌, ◌⊎◌, ◌↔◌, ◌+◌, if◌then◌else◌, ◌∷◌, ◌++◌, List, [], ℕ, suc, zero, Bool, true, false, Some, filter, flat_map, length, slice_get, ap, ◌∙◌, sym, refl, subst, inl, inr, arith}
use Rattle.std.specs.List.{Contains, slice_index_or}
use Rattle.std.proofs.lemmas.Bool.{cases_lt}
use Rattle.std.proofs.lemmas.List.{append-nil, append_assoc, get_or_append_left, get_or_push, length_push}
use Rattle.std.proofs.lemmas.List.Elements.{Contains-append_left, Contains-append_right, Contains-append_cases}
use Rattle.std.proofs.lemmas.Option.{same_Some, slice_get_within}
use Rattle.lq_security.specs.PolicyLaws.{TellsMemberships}
use Rattle.lq_security.specs.Visible.{GoesBy, itself, member, goes_by, goes_by_after, memberships_after}
use Rattle.lq_security.specs.declared.policy.Role.{Role}

-- ---- items of lists

module _ {A : Type 0} where
  pub none_in_nil : (x : A) → Contains [] x → ⊥
  none_in_nil x has = absurd (omega (arith, has.1))

  pub has_first : (x : A) (xs : List A) → Contains (x ∷ xs) x
  has_first x xs = (0, omega arith, refl)

  pub has_later : (y : A) (xs : List A) (x : A) → Contains xs x → Contains (y ∷ xs) x
  has_later y xs x has = (suc has.0, omega (arith, has.1), has.2)

  pub has_cases : (y : A) (xs : List A) (x : A) → Contains (y ∷ xs) x → (y ≡ x) ⊎ Contains xs x
  has_cases y xs x has = by has.0 has.1 has.2 where
    by : (place : ℕ) → place < length (y ∷ xs) → slice_index_or (y ∷ xs) place x ≡ x → (y ≡ x) ⊎ Contains xs x
    by zero within is = inl is
    by (suc place) within is = inr (place, omega (arith, within), is)

  -- what a filter keeps
  pub has_where_kept : (test : A → Bool) (xs : List A) (x : A) → Contains (filter test xs) x → Contains xs x × (test x ≡ true)
  has_where_kept test [] x has = absurd (none_in_nil x has)
  has_where_kept test (y ∷ xs) x has = by (test y) refl (has_where_kept test xs x) has where
    later : Contains xs x × (test x ≡ true) → Contains (y ∷ xs) x × (test x ≡ true)
    later both = (has_later y xs x both.0, both.1)

    by : (b : Bool) → test y ≡ b → (Contains (filter test xs) x → Contains xs x × (test x ≡ true)) → Contains (if b then y ∷ filter test xs else filter test xs) x → Contains (y ∷ xs) x × (test x ≡ true)
    by false isnt rest has = later (rest has)
    by true is rest has =
        elim (has_cases y (filter test xs) x has) [
          | inl same ↦ (subst (λ z. Contains (y ∷ xs) z) same (has_first y xs), subst (λ z. test z ≡ true) same is)
          | inr more ↦ later (rest more)
        ]

  pub kept_where_it_passes : (test : A → Bool) (xs : List A) (x : A) → Contains xs x → test x ≡ true → Contains (filter test xs) x
  kept_where_it_passes test [] x has passes = absurd (none_in_nil x has)
  kept_where_it_passes test (y ∷ xs) x has passes = by (test y) refl (kept_where_it_passes test xs x) where
    by : (b : Bool) → test y ≡ b → (Contains xs x → test x ≡ true → Contains (filter test xs) x) → Contains (if b then y ∷ filter test xs else filter test xs) x
    by false isnt rest =
        elim (has_cases y xs x has) [
          | inl same ↦ let is : test y ≡ true = subst (λ z. test z ≡ true) (sym same) passes in absurd (cc)
          | inr more ↦ rest more passes
        ]
    by true is rest =
        elim (has_cases y xs x has) [
          | inl same ↦ subst (λ z. Contains (y ∷ filter test xs) z) same (has_first y (filter test xs))
          | inr more ↦ has_later y (filter test xs) x (rest more passes)
        ]

  -- the item at the seam of two lists
  pub at_the_seam : (front : List A) (x : A) (rest : List A) → slice_get (front ++ x ∷ rest) (length front) ≡ Some x
  at_the_seam [] x rest = refl
  at_the_seam (y ∷ front) x rest = at_the_seam front x rest

module _ {A B : Type 0} (f : A → List B) where
  -- an item of the lists one after another is an item of one of them
  pub one_has : (xs : List A) (y : B) → Contains (flat_map f xs) y → (x : A) × Contains xs x × Contains (f x) y
  one_has [] y has = absurd (none_in_nil y has)
  one_has (x ∷ xs) y has =
      elim (Contains-append_cases (f x) (flat_map f xs) y has) [
        | inl here ↦ (x, has_first x xs, here)
        | inr later ↦ let rest = one_has xs y later in (rest.0, has_later x xs rest.0 rest.1, rest.2)
      ]

  pub all_have : (xs : List A) (y : B) (x : A) → Contains xs x → Contains (f x) y → Contains (flat_map f xs) y
  all_have [] y x has within = absurd (none_in_nil x has)
  all_have (z ∷ xs) y x has within =
      elim (has_cases z xs x has) [
        | inl same ↦ Contains-append_left (f z) (flat_map f xs) y (subst (λ w. Contains (f w) y) (sym same) within)
        | inr later ↦ Contains-append_right (f z) (flat_map f xs) y (all_have xs y x later within)
      ]

-- ---- roles that a role has

module _ (roles : List Role) where
  -- each list says which roles the role of its number has
  abbrev Tells : List (List ℕ) → Type 0
  Tells earlier = (role other : ℕ) → role < length earlier → Contains (slice_index_or earlier role []) other ↔ GoesBy roles role other

  -- a number past the end has no roles
  known_where_listed : (lists : List (List ℕ)) (role other : ℕ) → Contains (slice_index_or lists role []) other → role < length lists
  known_where_listed [] role other has = absurd (none_in_nil other has)
  known_where_listed (list ∷ lists) zero other has = omega arith
  known_where_listed (list ∷ lists) (suc role) other has = let less = known_where_listed lists role other has in omega (arith, less)

  module _ (earlier : List (List ℕ)) (tells : Tells earlier) (its : Role) (is_its : slice_get roles (length earlier) ≡ Some its) where
    goes_where_told : (other : ℕ) → Contains (goes_by_after earlier its) other → GoesBy roles (length earlier) other
    goes_where_told other has =
        elim (has_cases (length earlier) (flat_map (λ group. slice_index_or earlier group []) its.member_of) other has) [
          | inl same ↦ subst (λ n. GoesBy roles (length earlier) n) same (itself (slice_get_within roles (length earlier) its is_its))
          | inr later ↦
              let one = one_has (λ group. slice_index_or earlier group []) its.member_of other later in
              let less = known_where_listed earlier one.0 other one.2 in
              member its is_its one.1 less ((tells one.0 other less).0 one.2)
        ]

    told_where_it_goes : (role other : ℕ) → GoesBy roles role other → role ≡ length earlier → Contains (goes_by_after earlier its) other
    told_where_it_goes role other (itself less) is =
        subst (λ n. Contains (goes_by_after earlier its) n) (sym is) (has_first (length earlier) (flat_map (λ group. slice_index_or earlier group []) its.member_of))
    told_where_it_goes role other (member {group = group} another some has less goes) is =
        let same : another ≡ its = same_Some _ _ (sym some ∙ ap (slice_get roles) is ∙ is_its) in
        let within : group < length earlier = subst (λ n. group < n) is less in
        has_later (length earlier) (flat_map (λ g. slice_index_or earlier g []) its.member_of) other
        (all_have (λ g. slice_index_or earlier g []) its.member_of other group (subst (λ (r : Role). Contains r.member_of group) same has) ((tells group other within).1 goes))

    tells_last : (other : ℕ) → Contains (goes_by_after earlier its) other ↔ GoesBy roles (length earlier) other
    tells_last other = (goes_where_told other, λ goes. told_where_it_goes (length earlier) other goes refl)

    tells_one_more : Tells (earlier ++ goes_by_after earlier its ∷ [])
    tells_one_more role other within =
        elim (cases_lt role (length earlier)) [
          | inl less ↦
              subst (λ (list : List ℕ). Contains list other ↔ GoesBy roles role other) (sym (get_or_append_left earlier (goes_by_after earlier its ∷ []) [] role less)) (tells role other less)
          | inr past ↦
              let long = length_push earlier (goes_by_after earlier its) in
              let last : length earlier ≡ role = omega (arith, within, past, long) in
              subst (λ (list : List ℕ). Contains list other ↔ GoesBy roles role other) (sym (get_or_push earlier (goes_by_after earlier its) [] role last))
              (subst (λ n. Contains (goes_by_after earlier its) other ↔ GoesBy roles n other) last (tells_last other))
        ]

  tells_all : (done left : List Role) (earlier : List (List ℕ)) → length earlier ≡ length done → done ++ left ≡ roles → Tells earlier
      → (length (memberships_after earlier left) ≡ length roles) × Tells (memberships_after earlier left)
  tells_all done [] earlier as_many is tells = (as_many ∙ ap length (sym (append-nil done) ∙ is), tells)
  tells_all done (its ∷ left) earlier as_many is tells =
      let here : slice_get roles (length earlier) ≡ Some its = ap (slice_get roles) as_many ∙ ap (λ all. slice_get all (length done)) (sym is) ∙ at_the_seam done its left in
      tells_all (done ++ its ∷ []) left (earlier ++ goes_by_after earlier its ∷ [])
      (length_push earlier (goes_by_after earlier its) ∙ ap (λ n. n + 1) as_many ∙ sym (length_push done its))
      (append_assoc done (its ∷ []) left ∙ is)
      (tells_one_more earlier tells its here)

  goes_within : (role other : ℕ) → GoesBy roles role other → role < length roles
  goes_within role other (itself less) = less
  goes_within role other (member its some has less goes) = slice_get_within roles role its some

pub tells_memberships : TellsMemberships
unfolding goes_by
tells_memberships roles role other = (λ has. (all.1 role other (known_where_listed roles lists role other has)).0 has, λ goes. (all.1 role other (listed goes)).1 goes) where
  lists : List (List ℕ)
  lists = memberships_after [] roles

  all : (length lists ≡ length roles) × Tells roles lists
  all = tells_all roles [] roles [] refl refl (λ role other within. absurd (omega (arith, within)))

  listed : GoesBy roles role other → role < length lists
  listed goes = let less = goes_within roles role other goes in let as_many = all.0 in omega (arith, less, as_many)
