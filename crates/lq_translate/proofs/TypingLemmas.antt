-- The calls of a query have its type, or none where it has none.
use Rattle.std.proofs.Common.{◌≡◌, ◌∷◌, ◌&&◌, if◌then◌else◌, List, [], map, ℕ, Bool, true, false, Option, Some, None, ap, ◌∙◌, sym, refl, subst, option_and_then, option_map}
use Rattle.lq_value.specs.declared.ty.Ty.{Ty, out-Ty}
use Rattle.lq_value.specs.declared.ty.Ty.TheOpen.{Ty-F}
use Rattle.lq_value.specs.declared.ty.Ty.TheVariants as ty
use Rattle.lq_value.specs.declared.ty.Ty.TheVariants.{outs-Group}
use Rattle.lq_language.specs.ClauseTyping.{are_sort_keys, body_items, continued_items, from_type, group_type, has_place, if_key, if_placed, if_within, is_fresh, join_type, joined_name, last_type, let_type, names_after_all, query_items, sole_name, source_type, when}
use Rattle.lq_language.specs.Operators.{Pattern, One, With, call_items, names_of, operators_items, operators_type, paired_pattern, parts_items, pattern_type, sole_pattern, unnamed}
use Rattle.lq_language.specs.Names.{Names, with_local}
use Rattle.lq_language.specs.OperandTypes.{is_bool_type}
use Rattle.lq_language.specs.declared.calls.Operator.{Operator}
use Rattle.lq_language.specs.declared.calls.Operator.TheVariants as operator
use Rattle.lq_language.specs.declared.calls.Paired.TheVariants as paired
use Rattle.lq_grammar.specs.declared.syntax.Body.{Body}
use Rattle.lq_grammar.specs.declared.syntax.Clause.{Clause}
use Rattle.lq_grammar.specs.declared.syntax.Clause.TheVariants as clause
use Rattle.lq_grammar.specs.declared.syntax.Continuation.{Continuation}
use Rattle.lq_grammar.specs.declared.syntax.Last.{Last}
use Rattle.lq_grammar.specs.declared.syntax.Last.TheVariants as last
use Rattle.lq_grammar.specs.declared.syntax.Query.{Query}
use Rattle.lq_translate.specs.Translation.{body_operators, call_of, last_operators, operators_of, part_of}
use Rattle.lq_translate.specs.TranslationLaws.{NamesTyped}

-- while there is one range variable, an item is its value
abbrev pub Fits : List ℕ → Bool → Pattern → Type 0
Fits n true p = (t : Ty) × (p ≡ One n t)
Fits n false p = Unit {0}

-- a clause that brings no name in leaves one range variable where there was one; any other leaves several
pub still_fits : (n : List ℕ) (sole : Bool) (p : Pattern) → Fits n sole p → Fits n (sole && true) p
still_fits n true p fits = fits
still_fits n false p fits = tt

pub fits_any : (n : List ℕ) (sole : Bool) (p : Pattern) → Fits n (sole && false) p
fits_any n true p = tt
fits_any n false p = tt

-- the type of an item after all calls
abbrev ended : Option Pattern → Option Ty
ended found = option_and_then (λ p. if_placed (Some (pattern_type p))) found

placed_by : (t : Ty) (b : Bool) → has_place (out-Ty t) ≡ b → ended (option_map unnamed (when b (Some t))) ≡ when b (Some t)
placed_by t true h = ap (λ b. when b (Some t)) h
placed_by t false h = refl

placed_value : (o : Option Ty) → ended (option_map unnamed (if_placed o)) ≡ if_placed o
placed_value None = refl
placed_value (Some t) = placed_by t (has_place (out-Ty t)) refl

grouped_by : (k e : Option Ty)
    → ended (option_map unnamed (option_and_then (λ s. option_map (ty.Group s) e) k)) ≡ option_and_then (λ s. option_map (ty.Group s) e) k
grouped_by None e = refl
grouped_by (Some s) None = refl
grouped_by (Some s) (Some t) = ap (λ (layer : Ty-F Ty). when (has_place layer) (Some (ty.Group s t))) (outs-Group s t)

module _ {X : Type 0} (is_name : X → List ℕ → Bool) (typed : X → Names → Option Ty) (named : NamesTyped is_name typed) (outer : Names) where
  abbrev last_at : Last X → Names → Option Ty
  last_at l names = last_type typed l names

  -- the type of what clauses and the end of a body give
  abbrev clauses_type : List (Clause X) → Last X → Names → Option Ty
  clauses_type cs l names = option_and_then (last_at l) (names_after_all typed outer cs names)

  abbrev calls_type : List (Operator X) → Pattern → Option Ty
  calls_type ops p = operators_type typed outer ops p

  select_by_name : (n : List ℕ) (t : Ty) (v : X) (b : Bool) → is_name v n ≡ b
      → calls_type (if b then [] else operator.Select v ∷ []) (One n t) ≡ last_at (last.Select v) (names_of outer (One n t))
  select_by_name n t v true h = ap if_placed (sym (named v n h outer t))
  select_by_name n t v false h = placed_value (typed v (names_of outer (One n t)))

  group_by_name : (n : List ℕ) (t : Ty) (v key : X) (b : Bool) → is_name v n ≡ b
      → calls_type (operator.GroupBy key (if b then None else Some v) ∷ []) (One n t) ≡ last_at (last.Group v key) (names_of outer (One n t))
  group_by_name n t v key true h =
      grouped_by (if_key (typed key (with_local outer n t))) (if_placed (Some t))
      ∙ ap (λ o. group_type typed (typed key (with_local outer n t)) o) (sym (named v n h outer t))
  group_by_name n t v key false h = grouped_by (if_key (typed key (with_local outer n t))) (if_placed (typed v (with_local outer n t)))

  abbrev LastAlike : List ℕ → Bool → Bool → Last X → Pattern → Type 0
  LastAlike n used sole l p = calls_type (last_operators is_name n used sole l) p ≡ last_at l (names_of outer p)

  selected : (n : List ℕ) (v : X) (used sole : Bool) (p : Pattern) → Fits n sole p → LastAlike n used sole (last.Select v) p
  selected n v true true p fits = subst (LastAlike n true true (last.Select v)) (sym fits.1) (select_by_name n fits.0 v (is_name v n) refl)
  selected n v true false p fits = placed_value (typed v (names_of outer p))
  selected n v false sole p fits = placed_value (typed v (names_of outer p))

  grouped : (n : List ℕ) (v key : X) (used sole : Bool) (p : Pattern) → Fits n sole p → LastAlike n used sole (last.Group v key) p
  grouped n v key used true p fits = subst (LastAlike n used true (last.Group v key)) (sym fits.1) (group_by_name n fits.0 v key (is_name v n) refl)
  grouped n v key used false p fits = grouped_by (if_key (typed key (names_of outer p))) (if_placed (typed v (names_of outer p)))

  last_same : (n : List ℕ) (l : Last X) (used sole : Bool) (p : Pattern) → Fits n sole p → LastAlike n used sole l p
  last_same n (last.Select v) used sole p fits = selected n v used sole p fits
  last_same n (last.Group v key) used sole p fits = grouped n v key used sole p fits

  -- a clause that only asks
  asked : (ops : List (Operator X)) (cs : List (Clause X)) (l : Last X) (p : Pattern) → calls_type ops p ≡ clauses_type cs l (names_of outer p) → (b : Bool)
      → option_and_then (calls_type ops) (when b (Some p)) ≡ option_and_then (last_at l) (option_and_then (names_after_all typed outer cs) (when b (Some (names_of outer p))))
  asked ops cs l p h true = h
  asked ops cs l p h false = refl

  -- a clause that brings a name in
  entered : (n : List ℕ) (ops : List (Operator X)) (cs : List (Clause X)) (l : Last X) (p : Pattern)
      → ((t : Ty) → calls_type ops (With p n t) ≡ clauses_type cs l (names_of outer (With p n t))) → (o : Option Ty)
      → option_and_then (calls_type ops) (option_map (With p n) o)
      ≡ option_and_then (last_at l) (option_and_then (names_after_all typed outer cs) (option_map (with_local (names_of outer p) n) o))
  entered n ops cs l p h None = refl
  entered n ops cs l p h (Some t) = h t

  paired_in : (n : List ℕ) (ops : List (Operator X)) (cs : List (Clause X)) (l : Last X) (p : Pattern)
      → ((t : Ty) → calls_type ops (With p n t) ≡ clauses_type cs l (names_of outer (With p n t))) → (o : Option Ty)
      → option_and_then (calls_type ops) (option_and_then (paired_pattern typed outer p n paired.Pair) o)
      ≡ option_and_then (last_at l) (option_and_then (names_after_all typed outer cs) (option_map (with_local (names_of outer p) n) o))
  paired_in n ops cs l p h None = refl
  paired_in n ops cs l p h (Some t) = h t

  -- one whose call produces the value at once
  fused : (n : List ℕ) (v : X) (p : Pattern) (o : Option Ty)
      → option_and_then (calls_type []) (option_and_then (paired_pattern typed outer p n (paired.Value v)) o)
      ≡ option_and_then (last_at (last.Select v)) (option_and_then (names_after_all typed outer []) (option_map (with_local (names_of outer p) n) o))
  fused n v p None = refl
  fused n v p (Some t) = placed_value (typed v (names_of outer (With p n t)))

  pub clauses_same : (n : List ℕ) (cs : List (Clause X)) (l : Last X) (used sole : Bool) (p : Pattern) → Fits n sole p
      → calls_type (operators_of is_name n used sole cs l) p ≡ clauses_type cs l (names_of outer p)
  clauses_same n [] l used sole p fits = last_same n l used sole p fits
  clauses_same n (clause.Where c ∷ cs) l used sole p fits =
      asked (operators_of is_name n true (sole && true) cs l) cs l p (clauses_same n cs l true (sole && true) p (still_fits n sole p fits)) (is_bool_type (typed c (names_of outer p)))
  clauses_same n (clause.OrderBy ks ∷ cs) l used sole p fits =
      asked (operators_of is_name n true (sole && true) cs l) cs l p (clauses_same n cs l true (sole && true) p (still_fits n sole p fits)) (are_sort_keys typed ks (names_of outer p))
  clauses_same n (clause.Let m f ∷ cs) l used sole p fits =
      entered m (operators_of is_name n true (sole && false) cs l) cs l p (λ t. clauses_same n cs l true (sole && false) (With p m t) (fits_any n sole (With p m t)))
      (let_type typed m f (names_of outer p))
  clauses_same n (clause.From m f ∷ []) (last.Select v) used sole p fits = fused m v p (from_type typed m f (names_of outer p))
  clauses_same n (clause.From m f ∷ []) (last.Group v key) used sole p fits =
      paired_in m (last_operators is_name n true (sole && false) (last.Group v key)) [] (last.Group v key) p
      (λ t. last_same n (last.Group v key) true (sole && false) (With p m t) (fits_any n sole (With p m t))) (from_type typed m f (names_of outer p))
  clauses_same n (clause.From m f ∷ c ∷ cs) l used sole p fits =
      paired_in m (operators_of is_name n true (sole && false) (c ∷ cs) l) (c ∷ cs) l p
      (λ t. clauses_same n (c ∷ cs) l true (sole && false) (With p m t) (fits_any n sole (With p m t))) (from_type typed m f (names_of outer p))
  clauses_same n (clause.Join j ∷ []) (last.Select v) used sole p fits = fused (joined_name j) v p (join_type typed outer j (names_of outer p))
  clauses_same n (clause.Join j ∷ []) (last.Group v key) used sole p fits =
      paired_in (joined_name j) (last_operators is_name n true (sole && false) (last.Group v key)) [] (last.Group v key) p
      (λ t. last_same n (last.Group v key) true (sole && false) (With p (joined_name j) t) (fits_any n sole (With p (joined_name j) t)))
      (join_type typed outer j (names_of outer p))
  clauses_same n (clause.Join j ∷ c ∷ cs) l used sole p fits =
      paired_in (joined_name j) (operators_of is_name n true (sole && false) (c ∷ cs) l) (c ∷ cs) l p
      (λ t. clauses_same n (c ∷ cs) l true (sole && false) (With p (joined_name j) t) (fits_any n sole (With p (joined_name j) t)))
      (join_type typed outer j (names_of outer p))

  -- a body over its range variable
  pub body_same : (n : List ℕ) (t : Ty) (body : Body X)
      → operators_items typed outer (body_operators is_name n body) (One n t) ≡ body_items typed outer body (with_local outer n t)
  body_same n t body = ap (if_within typed) (clauses_same n body.clauses body.last false true (One n t) (t, refl))

  body_over : (n : List ℕ) (t : Ty) (body : Body X) (b : Bool)
      → option_and_then (operators_items typed outer (body_operators is_name n body)) (when b (Some (One n t)))
      ≡ option_and_then (body_items typed outer body) (when b (Some (with_local outer n t)))
  body_over n t body true = body_same n t body
  body_over n t body false = refl

  rest_same : (rest : List (Continuation X)) (t : Ty) → parts_items typed outer (map (part_of is_name) rest) t ≡ continued_items typed outer rest t
  rest_same [] t = refl
  rest_same (next ∷ rest) t =
      ap (λ (f : Ty → Option Ty). option_and_then f (option_and_then (operators_items typed outer (body_operators is_name next.name next.body)) (sole_pattern typed outer next.name t)))
      (λ i u. rest_same rest u i)
      ∙ ap (option_and_then (continued_items typed outer rest)) (body_over next.name t next.body (is_fresh outer next.name))

  items_same : (q : Query X) (t : Ty)
      → option_and_then (parts_items typed outer (map (part_of is_name) q.rest)) (option_and_then (operators_items typed outer (body_operators is_name q.name q.body)) (sole_pattern typed outer q.name t))
      ≡ option_and_then (continued_items typed outer q.rest) (option_and_then (body_items typed outer q.body) (sole_name typed outer q.name t))
  items_same q t =
      ap (λ (f : Ty → Option Ty). option_and_then f (option_and_then (operators_items typed outer (body_operators is_name q.name q.body)) (sole_pattern typed outer q.name t)))
      (λ i u. rest_same q.rest u i)
      ∙ ap (option_and_then (continued_items typed outer q.rest)) (body_over q.name t q.body (is_fresh outer q.name))

  pub typed_alike : (q : Query X) → call_items typed (call_of is_name q) outer ≡ query_items typed q outer
  unfolding call_of call_items query_items
  typed_alike q = ap (λ (f : Ty → Option Ty). option_and_then f (source_type typed q.source outer)) (λ i t. items_same q t i)
