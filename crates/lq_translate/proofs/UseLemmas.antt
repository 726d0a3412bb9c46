-- The calls of a query use what its clauses use, in the same order.
use Rattle.std.proofs.Common.{◌≡◌, ◌∷◌, ◌++◌, ◌&&◌, if◌then◌else◌, List, [], map, ℕ, Bool, true, false, Option, Some, None, ap, ◌∙◌, sym, refl, subst, option_and_then, option_map}
use Rattle.std.proofs.lemmas.List.{append-nil}
use Rattle.lq_value.specs.declared.ty.Ty.{Ty}
use Rattle.lq_language.specs.ClauseTyping.{are_sort_keys, body_items, from_type, is_fresh, join_type, joined_name, let_type, sole_name, source_type, when}
use Rattle.lq_language.specs.Operators.{Pattern, One, With, names_of, operators_items, paired_pattern, pattern_after, sole_pattern}
use Rattle.lq_language.specs.Mentions.{Mention}
use Rattle.lq_language.specs.Names.{Names, with_local}
use Rattle.lq_language.specs.OperandTypes.{is_bool_type}
use Rattle.lq_language.specs.Uses.{body_uses, clause_uses, clauses_uses, continued_uses, last_uses, query_uses, under}
use Rattle.lq_language.specs.UsesOfCalls.{call_uses, operators_uses, paired_uses, parts_uses}
use Rattle.lq_language.specs.declared.calls.Operator.{Operator}
use Rattle.lq_language.specs.declared.calls.Operator.TheVariants as operator
use Rattle.lq_language.specs.declared.calls.Paired.TheVariants as paired
use Rattle.lq_grammar.specs.declared.syntax.Body.{Body}
use Rattle.lq_grammar.specs.declared.syntax.Clause.{Clause}
use Rattle.lq_grammar.specs.declared.syntax.Clause.TheVariants as clause
use Rattle.lq_grammar.specs.declared.syntax.Continuation.{Continuation}
use Rattle.lq_grammar.specs.declared.syntax.Last.{Last}
use Rattle.lq_grammar.specs.declared.syntax.Last.TheVariants as last
use Rattle.lq_grammar.specs.declared.syntax.Query.{Query}
use Rattle.lq_translate.specs.Translation.{body_operators, call_of, last_operators, operators_of, part_of}
use Rattle.lq_translate.specs.TranslationLaws.{NamesTyped, NamesUsed}
use Rattle.lq_translate.proofs.TypingLemmas.{Fits, body_same as body_typed, fits_any, still_fits}

module _ {X : Type 0} (is_name : X → List ℕ → Bool) (typed : X → Names → Option Ty) (uses : X → Names → List Mention) (named : NamesTyped is_name typed)
    (used : NamesUsed is_name uses) (outer : Names) where
  abbrev calls : List (Operator X) → Pattern → List Mention
  calls ops p = operators_uses typed uses outer ops p

  abbrev texts : List (Clause X) → Last X → Names → List Mention
  texts cs l names = clauses_uses typed uses outer cs l names

  -- after the last call nothing is used
  ended : (us : List Mention) (o : Option Pattern) → us ++ under o (operators_uses typed uses outer []) ≡ us
  ended us None = append-nil us
  ended us (Some p) = append-nil us

  select_by_name : (n : List ℕ) (t : Ty) (v : X) (b : Bool) → is_name v n ≡ b
      → calls (if b then [] else operator.Select v ∷ []) (One n t) ≡ uses v (names_of outer (One n t))
  select_by_name n t v true h = sym (used v n h outer t)
  select_by_name n t v false h = ended (uses v (names_of outer (One n t))) (pattern_after typed outer (operator.Select v) (One n t))

  group_by_name : (n : List ℕ) (t : Ty) (v key : X) (b : Bool) → is_name v n ≡ b
      → calls (operator.GroupBy key (if b then None else Some v) ∷ []) (One n t) ≡ uses v (names_of outer (One n t)) ++ uses key (names_of outer (One n t))
  group_by_name n t v key true h =
      ended (uses key (names_of outer (One n t))) (pattern_after typed outer (operator.GroupBy key None) (One n t))
      ∙ ap (λ us. us ++ uses key (names_of outer (One n t))) (sym (used v n h outer t))
  group_by_name n t v key false h =
      ended (uses v (names_of outer (One n t)) ++ uses key (names_of outer (One n t))) (pattern_after typed outer (operator.GroupBy key (Some v)) (One n t))

  abbrev LastAlike : List ℕ → Bool → Bool → Last X → Pattern → Type 0
  LastAlike n before sole l p = calls (last_operators is_name n before sole l) p ≡ last_uses typed uses l (names_of outer p)

  selected : (n : List ℕ) (v : X) (before sole : Bool) (p : Pattern) → Fits n sole p → LastAlike n before sole (last.Select v) p
  selected n v true true p fits = subst (LastAlike n true true (last.Select v)) (sym fits.1) (select_by_name n fits.0 v (is_name v n) refl)
  selected n v true false p fits = ended (uses v (names_of outer p)) (pattern_after typed outer (operator.Select v) p)
  selected n v false sole p fits = ended (uses v (names_of outer p)) (pattern_after typed outer (operator.Select v) p)

  grouped : (n : List ℕ) (v key : X) (before sole : Bool) (p : Pattern) → Fits n sole p → LastAlike n before sole (last.Group v key) p
  grouped n v key before true p fits = subst (LastAlike n before true (last.Group v key)) (sym fits.1) (group_by_name n fits.0 v key (is_name v n) refl)
  grouped n v key before false p fits =
      ended (uses v (names_of outer p) ++ uses key (names_of outer p)) (pattern_after typed outer (operator.GroupBy key (Some v)) p)

  last_same : (n : List ℕ) (l : Last X) (before sole : Bool) (p : Pattern) → Fits n sole p → LastAlike n before sole l p
  last_same n (last.Select v) before sole p fits = selected n v before sole p fits
  last_same n (last.Group v key) before sole p fits = grouped n v key before sole p fits

  -- a clause that only asks
  asked : (us : List Mention) (ops : List (Operator X)) (cs : List (Clause X)) (l : Last X) (p : Pattern) → calls ops p ≡ texts cs l (names_of outer p) → (b : Bool)
      → us ++ under (when b (Some p)) (operators_uses typed uses outer ops) ≡ us ++ under (when b (Some (names_of outer p))) (clauses_uses typed uses outer cs l)
  asked us ops cs l p h true = ap (λ more. us ++ more) h
  asked us ops cs l p h false = refl

  -- a clause that brings a name in
  entered : (us : List Mention) (n : List ℕ) (ops : List (Operator X)) (cs : List (Clause X)) (l : Last X) (p : Pattern)
      → ((t : Ty) → calls ops (With p n t) ≡ texts cs l (names_of outer (With p n t))) → (o : Option Ty)
      → us ++ under (option_map (With p n) o) (operators_uses typed uses outer ops)
      ≡ us ++ under (option_map (with_local (names_of outer p) n) o) (clauses_uses typed uses outer cs l)
  entered us n ops cs l p h None = refl
  entered us n ops cs l p h (Some t) = ap (λ more. us ++ more) (h t)

  paired_in : (us : List Mention) (n : List ℕ) (ops : List (Operator X)) (cs : List (Clause X)) (l : Last X) (p : Pattern)
      → ((t : Ty) → calls ops (With p n t) ≡ texts cs l (names_of outer (With p n t))) → (o : Option Ty)
      → (us ++ under o (paired_uses typed uses outer p n paired.Pair)) ++ under (option_and_then (paired_pattern typed outer p n paired.Pair) o) (operators_uses typed uses outer ops)
      ≡ us ++ under (option_map (with_local (names_of outer p) n) o) (clauses_uses typed uses outer cs l)
  paired_in us n ops cs l p h None = append-nil (us ++ [])
  paired_in us n ops cs l p h (Some t) = λ i. append-nil us i ++ h t i

  -- one whose call produces the value at once
  fused : (us : List Mention) (n : List ℕ) (v : X) (p : Pattern) (o : Option Ty)
      → (us ++ under o (paired_uses typed uses outer p n (paired.Value v)))
      ++ under (option_and_then (paired_pattern typed outer p n (paired.Value v)) o) (operators_uses typed uses outer [])
      ≡ us ++ under (option_map (with_local (names_of outer p) n) o) (clauses_uses typed uses outer [] (last.Select v))
  fused us n v p None = append-nil (us ++ [])
  fused us n v p (Some t) = ended (us ++ uses v (names_of outer (With p n t))) (paired_pattern typed outer p n (paired.Value v) t)

  abbrev from_uses : X → Pattern → List Mention
  from_uses f p = uses f (names_of outer p)

  clauses_same : (n : List ℕ) (cs : List (Clause X)) (l : Last X) (before sole : Bool) (p : Pattern) → Fits n sole p
      → calls (operators_of is_name n before sole cs l) p ≡ texts cs l (names_of outer p)
  clauses_same n [] l before sole p fits = last_same n l before sole p fits
  clauses_same n (clause.Where c ∷ cs) l before sole p fits =
      asked (uses c (names_of outer p)) (operators_of is_name n true (sole && true) cs l) cs l p
      (clauses_same n cs l true (sole && true) p (still_fits n sole p fits)) (is_bool_type (typed c (names_of outer p)))
  clauses_same n (clause.OrderBy ks ∷ cs) l before sole p fits =
      asked (clause_uses typed uses outer (clause.OrderBy ks) (names_of outer p)) (operators_of is_name n true (sole && true) cs l) cs l p
      (clauses_same n cs l true (sole && true) p (still_fits n sole p fits)) (are_sort_keys typed ks (names_of outer p))
  clauses_same n (clause.Let m f ∷ cs) l before sole p fits =
      entered (uses f (names_of outer p)) m (operators_of is_name n true (sole && false) cs l) cs l p
      (λ t. clauses_same n cs l true (sole && false) (With p m t) (fits_any n sole (With p m t))) (let_type typed m f (names_of outer p))
  clauses_same n (clause.From m f ∷ []) (last.Select v) before sole p fits = fused (uses f (names_of outer p)) m v p (from_type typed m f (names_of outer p))
  clauses_same n (clause.From m f ∷ []) (last.Group v key) before sole p fits =
      paired_in (uses f (names_of outer p)) m (last_operators is_name n true (sole && false) (last.Group v key)) [] (last.Group v key) p
      (λ t. last_same n (last.Group v key) true (sole && false) (With p m t) (fits_any n sole (With p m t))) (from_type typed m f (names_of outer p))
  clauses_same n (clause.From m f ∷ c ∷ cs) l before sole p fits =
      paired_in (uses f (names_of outer p)) m (operators_of is_name n true (sole && false) (c ∷ cs) l) (c ∷ cs) l p
      (λ t. clauses_same n (c ∷ cs) l true (sole && false) (With p m t) (fits_any n sole (With p m t))) (from_type typed m f (names_of outer p))
  clauses_same n (clause.Join j ∷ []) (last.Select v) before sole p fits =
      fused (clause_uses typed uses outer (clause.Join j) (names_of outer p)) (joined_name j) v p (join_type typed outer j (names_of outer p))
  clauses_same n (clause.Join j ∷ []) (last.Group v key) before sole p fits =
      paired_in (clause_uses typed uses outer (clause.Join j) (names_of outer p)) (joined_name j)
      (last_operators is_name n true (sole && false) (last.Group v key)) [] (last.Group v key) p
      (λ t. last_same n (last.Group v key) true (sole && false) (With p (joined_name j) t) (fits_any n sole (With p (joined_name j) t)))
      (join_type typed outer j (names_of outer p))
  clauses_same n (clause.Join j ∷ c ∷ cs) l before sole p fits =
      paired_in (clause_uses typed uses outer (clause.Join j) (names_of outer p)) (joined_name j)
      (operators_of is_name n true (sole && false) (c ∷ cs) l) (c ∷ cs) l p
      (λ t. clauses_same n (c ∷ cs) l true (sole && false) (With p (joined_name j) t) (fits_any n sole (With p (joined_name j) t)))
      (join_type typed outer j (names_of outer p))

  -- a body over its range variable
  body_same : (n : List ℕ) (t : Ty) (body : Body X)
      → calls (body_operators is_name n body) (One n t) ≡ body_uses typed uses outer body (with_local outer n t)
  body_same n t body = clauses_same n body.clauses body.last false true (One n t) (t, refl)

  -- and what follows it
  body_over : (n : List ℕ) (t : Ty) (body : Body X) (rest : Ty → List Mention) (b : Bool)
      → under (when b (Some (One n t)))
      (λ p. calls (body_operators is_name n body) p ++ under (operators_items typed outer (body_operators is_name n body) p) rest)
      ≡ under (when b (Some (with_local outer n t))) (λ names. body_uses typed uses outer body names ++ under (body_items typed outer body names) rest)
  body_over n t body rest true = λ i. body_same n t body i ++ under (body_typed is_name typed named outer n t body i) rest
  body_over n t body rest false = refl

  rest_same : (rest : List (Continuation X)) (t : Ty) → parts_uses typed uses outer (map (part_of is_name) rest) t ≡ continued_uses typed uses outer rest t
  rest_same [] t = refl
  rest_same (next ∷ rest) t =
      body_over next.name t next.body (parts_uses typed uses outer (map (part_of is_name) rest)) (is_fresh outer next.name)
      ∙ (λ i. under (sole_name typed outer next.name t)
      (λ names. body_uses typed uses outer next.body names ++ under (body_items typed outer next.body names) (λ u. rest_same rest u i)))

  query_same : (q : Query X) (t : Ty)
      → under (sole_pattern typed outer q.name t)
      (λ p. calls (body_operators is_name q.name q.body) p
      ++ under (operators_items typed outer (body_operators is_name q.name q.body) p) (parts_uses typed uses outer (map (part_of is_name) q.rest)))
      ≡ under (sole_name typed outer q.name t)
      (λ names. body_uses typed uses outer q.body names ++ under (body_items typed outer q.body names) (continued_uses typed uses outer q.rest))
  query_same q t =
      body_over q.name t q.body (parts_uses typed uses outer (map (part_of is_name) q.rest)) (is_fresh outer q.name)
      ∙ (λ i. under (sole_name typed outer q.name t)
      (λ names. body_uses typed uses outer q.body names ++ under (body_items typed outer q.body names) (λ u. rest_same q.rest u i)))

  pub used_alike : (q : Query X) → call_uses typed uses (call_of is_name q) outer ≡ query_uses typed uses q outer
  unfolding call_of call_uses query_uses
  used_alike q = λ i. uses q.source outer ++ under (source_type typed q.source outer) (λ t. query_same q t i)
