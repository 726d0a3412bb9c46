-- The calls of a query mean under nested pairs what its clauses mean under names.
use Rattle.std.proofs.Common.{◌≡◌, ◌∷◌, ◌&&◌, if◌then◌else◌, List, [], map, ℕ, Bool, true, false, Option, Some, None, Result, Ok, Err, ap, ap₂, ◌∙◌, sym, refl, subst}
use Rattle.lq_value.specs.SameAndOrder.{same_values as same_keys}
use Rattle.lq_value.specs.declared.ty.Ty.{Ty}
use Rattle.lq_value.specs.declared.value.End.TheVariants as end
use Rattle.lq_value.specs.declared.value.Fault.{Fault}
use Rattle.lq_value.specs.declared.value.Value.{Value}
use Rattle.lq_value.specs.declared.value.Value.TheVariants.{outs-Rec}
use Rattle.lq_language.specs.ClauseTyping.{joined_name, source_type}
use Rattle.lq_language.specs.Worlds.{Meaning, Scope, World, bound, bound_stream, known_predicates, names_at, or_null, typed_locals, session_names}
use Rattle.lq_language.specs.OperandMeaning.{stream_of}
use Rattle.lq_language.specs.ClauseMeaning.{as_group, body_meaning, body_type_at, clause_meaning, clauses_meaning, condition_at, continued, extended, inner_items, item_type_at, joined_type, joined_values, last_meaning, query_meaning, sort_key_at}
use Rattle.lq_language.specs.Operations.{on_ok}
use Rattle.lq_language.specs.Operators.{Pattern, One, With, bind, call_meaning, first, first_member, locals_of, names_of, operator_meaning, operators_meaning, operators_type_at, pair, parts_meaning, result_of, second, second_member, source_type_under, type_under}
use Rattle.lq_language.specs.Stream.{Stream, each, group_by, item_where, select_each, on_value, one}
use Rattle.lq_language.specs.Names.{Names}
use Rattle.lq_language.specs.declared.calls.Operator.{Operator}
use Rattle.lq_language.specs.declared.calls.Operator.TheVariants as operator
use Rattle.lq_language.specs.declared.calls.Paired.TheVariants as paired
use Rattle.lq_grammar.specs.declared.syntax.Body.{Body}
use Rattle.lq_grammar.specs.declared.syntax.Clause.{Clause}
use Rattle.lq_grammar.specs.declared.syntax.Clause.TheVariants as clause
use Rattle.lq_grammar.specs.declared.syntax.Continuation.{Continuation}
use Rattle.lq_grammar.specs.declared.syntax.Join.{Join}
use Rattle.lq_grammar.specs.declared.syntax.Last.{Last}
use Rattle.lq_grammar.specs.declared.syntax.Last.TheVariants as last
use Rattle.lq_grammar.specs.declared.syntax.Query.{Query}
use Rattle.lq_grammar.specs.declared.syntax.SortKey.{SortKey}
use Rattle.lq_translate.specs.Translation.{body_operators, call_of, last_operators, operators_of, part_of}
use Rattle.lq_translate.specs.TranslationLaws.{NamesMean, NamesTyped}
use Rattle.lq_language.proofs.StreamLaws.{each_alike, each_each, each_ext, each_made, each_map, each_natural, each_of, each_one, group_map, kept_mapped, map_same, mapped, order_natural, value_alike, whole_alike, whole_each, whole_ext}
use Rattle.lq_translate.proofs.TypingLemmas.{Fits, body_same, fits_any, still_fits}

-- ---- pairs

module _ {R : Type 0} where
  first_of_pair : (v w : Value R) → first (pair v w) ≡ v
  first_of_pair v w = ap (first_member (pair v w)) (outs-Rec (([], v) ∷ ([], w) ∷ []))

  second_of_pair : (v w : Value R) → second (pair v w) ≡ w
  second_of_pair v w = ap (second_member (pair v w)) (outs-Rec (([], v) ∷ ([], w) ∷ []))

module _ {R X : Type 0} (is_name : X → List ℕ → Bool) (world : World R) (typed : X → Names → Option Ty) (meant : X → Meaning R) (outer : Scope R) where
  -- the scope of an item
  abbrev at : Pattern → Value R → Scope R
  at p v = bind p outer v

  bound_pair : (p : Pattern) (n : List ℕ) (t u : Ty) → t ≡ u → (v w : Value R) → bound n t (at p v) w ≡ at (With p n u) (pair v w)
  bound_pair p n t u h v w =
      ap (λ (s : Ty). bound n s (at p v) w) h
      ∙ ap₂ (λ (x y : Value R). bound n u (at p x) y) (sym (first_of_pair v w)) (sym (second_of_pair v w))

  locals_same : (p : Pattern) (v : Value R) → typed_locals (at p v) ≡ locals_of p (typed_locals outer)
  locals_same (One n t) v = refl
  locals_same (With p n t) v = ap (λ ls. (n, t) ∷ ls) (locals_same p (first v))

  names_same : (p : Pattern) (v : Value R) → names_at world (at p v) ≡ names_of (names_at world outer) p
  names_same p v = ap (λ (ls : List (List ℕ × Ty)). record { tables = world.schemas; predicates = known_predicates world.predicates; session = session_names world.session; locals = ls }) (locals_same p v)

  type_same : (p : Pattern) (f : X) (v : Value R) → or_null (typed f (names_at world (at p v))) ≡ type_under world typed meant outer p f
  type_same p f v = ap (λ (names : Names). or_null (typed f names)) (names_same p v)

  source_same : (p : Pattern) (f : X) (v : Value R) → item_type_at world typed meant f (at p v) ≡ source_type_under world typed meant outer p f
  source_same p f v = ap (λ (names : Names). or_null (source_type typed f names)) (names_same p v)

  -- ---- clause by clause

  abbrev clause_in : Clause X → Stream (Scope R) → Stream (Scope R)
  clause_in c scopes = clause_meaning world typed meant outer c scopes

  abbrev call_in : Operator X → Pattern → Stream (Value R) → Stream (Value R)
  call_in op p items = operator_meaning world typed meant outer op p items

  abbrev source_in : X → Scope R → Stream (Value R)
  source_in f scope = stream_of world (meant f scope)

  pairs_made : (p : Pattern) (n : List ℕ) (t u : Ty) → t ≡ u → (v : Value R) (vs : Stream (Value R))
      → select_each (extended world typed meant n t (at p v)) vs ≡ mapped (at (With p n u)) (select_each (λ w. Ok (pair v w)) vs)
  pairs_made p n t u h v vs =
      each_alike (at (With p n u)) (λ w. one (Ok (bound n t (at p v) w))) (λ w. one (Ok (pair v w)))
      (λ w. ap (λ (s : Scope R). (s ∷ [], end.Done)) (bound_pair p n t u h v w)) vs.0 vs.1

  where_step : (c : X) (p : Pattern) (s : Stream (Value R)) → clause_in (clause.Where c) (mapped (at p) s) ≡ mapped (at p) (call_in (operator.Where c) p s)
  where_step c p s =
      each_natural (at p) (at p) (λ x. item_where (condition_at world typed meant c x) x) (λ v. item_where (condition_at world typed meant c (at p v)) v)
      (λ v. kept_mapped (at p) (condition_at world typed meant c (at p v)) v) s.0 s.1

  order_step : (ks : List (SortKey X)) (p : Pattern) (s : Stream (Value R))
      → clause_in (clause.OrderBy ks) (mapped (at p) s) ≡ mapped (at p) (call_in (operator.OrderBy ks) p s)
  order_step ks p s = order_natural (at p) (λ k. k.descending) (sort_key_at world typed meant) ks s.0 s.1

  let_made : (n : List ℕ) (t u : Ty) → t ≡ u → (p : Pattern) (v : Value R) (o : Result (Value R) Fault)
      → one (on_ok o (extended world typed meant n t (at p v))) ≡ mapped (at (With p n u)) (one (on_ok o (λ w. Ok (pair v w))))
  let_made n t u h p v (Ok w) = ap (λ (s : Scope R). (s ∷ [], end.Done)) (bound_pair p n t u h v w)
  let_made n t u h p v (Err f) = refl

  let_step : (n : List ℕ) (f : X) (p : Pattern) (s : Stream (Value R))
      → clause_in (clause.Let n f) (mapped (at p) s) ≡ mapped (at (With p n (type_under world typed meant outer p f))) (call_in (operator.Let n f) p s)
  let_step n f p s =
      each_natural (at p) (at (With p n (type_under world typed meant outer p f)))
      (λ x. one (on_ok (meant f x) (extended world typed meant n (or_null (typed f (names_at world x))) x)))
      (λ v. one (on_ok (meant f (at p v)) (λ w. Ok (pair v w))))
      (λ v. let_made n (or_null (typed f (names_at world (at p v)))) (type_under world typed meant outer p f) (type_same p f v) p v (meant f (at p v))) s.0 s.1

  from_step : (n : List ℕ) (f : X) (p : Pattern) (s : Stream (Value R))
      → clause_in (clause.From n f) (mapped (at p) s)
      ≡ mapped (at (With p n (source_type_under world typed meant outer p f))) (call_in (operator.SelectMany n f paired.Pair) p s)
  from_step n f p s =
      each_natural (at p) (at (With p n (source_type_under world typed meant outer p f)))
      (λ x. select_each (extended world typed meant n (item_type_at world typed meant f x) x) (source_in f x)) (λ v. select_each (λ w. Ok (pair v w)) (source_in f (at p v)))
      (λ v. pairs_made p n (item_type_at world typed meant f (at p v)) (source_type_under world typed meant outer p f) (source_same p f v) v (source_in f (at p v))) s.0 s.1

  -- the type of the name that a `join` leaves behind
  abbrev entry : Join X → Ty
  entry j = joined_type world typed meant j.into (item_type_at world typed meant j.source outer)

  abbrev inner : Join X → Stream (Value R × Value R)
  inner j = inner_items world typed meant outer j

  abbrev matched : Join X → Value R → List (Value R × Value R) → Stream (Value R)
  matched j key qs = (joined_values world typed meant j.into key qs, end.Done)

  join_step : (j : Join X) (p : Pattern) (s : Stream (Value R))
      → clause_in (clause.Join j) (mapped (at p) s) ≡ mapped (at (With p (joined_name j) (entry j))) (call_in (operator.Join j paired.Pair) p s)
  join_step j p s =
      whole_alike (at (With p (joined_name j) (entry j)))
      (λ qs. each (λ x. on_value (meant j.outer_key x) (λ k. select_each (extended world typed meant (joined_name j) (entry j) x) (matched j k qs))) (map (at p) s.0) s.1)
      (λ qs. each (λ v. on_value (meant j.outer_key (at p v)) (λ k. select_each (λ w. Ok (pair v w)) (matched j k qs))) s.0 s.1)
      (λ qs. each_natural (at p) (at (With p (joined_name j) (entry j)))
      (λ x. on_value (meant j.outer_key x) (λ k. select_each (extended world typed meant (joined_name j) (entry j) x) (matched j k qs)))
      (λ v. on_value (meant j.outer_key (at p v)) (λ k. select_each (λ w. Ok (pair v w)) (matched j k qs)))
      (λ v. value_alike (at (With p (joined_name j) (entry j))) (λ k. select_each (extended world typed meant (joined_name j) (entry j) (at p v)) (matched j k qs))
      (λ k. select_each (λ w. Ok (pair v w)) (matched j k qs)) (λ k. pairs_made p (joined_name j) (entry j) (entry j) refl v (matched j k qs)) (meant j.outer_key (at p v))) s.0 s.1)
      (inner j).0 (inner j).1

  -- ---- a value that a call produces at once

  abbrev selecting : X → Scope R → Stream (Value R)
  selecting x scope = one (meant x scope)

  value_made : (p : Pattern) (n : List ℕ) (t u : Ty) → t ≡ u → (x : X) (v : Value R) (vs : Stream (Value R))
      → each_of (selecting x) (select_each (extended world typed meant n t (at p v)) vs) ≡ select_each (result_of world typed meant outer p n u (paired.Value x) v) vs
  value_made p n t u h x v vs =
      each_made (selecting x) (λ w. bound n t (at p v) w) vs
      ∙ ap (λ (s : Ty). each_of (λ w. one (meant x (bound n s (at p v) w))) vs) h

  from_fused : (n : List ℕ) (f x : X) (p : Pattern) (s : Stream (Value R))
      → last_meaning world typed meant (last.Select x) (clause_in (clause.From n f) (mapped (at p) s)) ≡ call_in (operator.SelectMany n f (paired.Value x)) p s
  from_fused n f x p s =
      each_each (selecting x) (λ y. select_each (extended world typed meant n (item_type_at world typed meant f y) y) (source_in f y)) (map (at p) s.0) s.1
      ∙ each_map (at p) (λ y. each_of (selecting x) (select_each (extended world typed meant n (item_type_at world typed meant f y) y) (source_in f y))) s.0 s.1
      ∙ each_ext (λ v. each_of (selecting x) (select_each (extended world typed meant n (item_type_at world typed meant f (at p v)) (at p v)) (source_in f (at p v))))
      (λ v. select_each (result_of world typed meant outer p n (source_type_under world typed meant outer p f) (paired.Value x) v) (source_in f (at p v)))
      (λ v. value_made p n (item_type_at world typed meant f (at p v)) (source_type_under world typed meant outer p f) (source_same p f v) x v (source_in f (at p v))) s.0 s.1

  join_at : (j : Join X) (x : X) (p : Pattern) (qs : List (Value R × Value R)) (v : Value R) (o : Result (Value R) Fault)
      → each_of (selecting x) (on_value o (λ k. select_each (extended world typed meant (joined_name j) (entry j) (at p v)) (matched j k qs)))
      ≡ on_value o (λ k. select_each (result_of world typed meant outer p (joined_name j) (entry j) (paired.Value x) v) (matched j k qs))
  join_at j x p qs v (Ok k) = value_made p (joined_name j) (entry j) (entry j) refl x v (matched j k qs)
  join_at j x p qs v (Err f) = refl

  join_over : (j : Join X) (x : X) (p : Pattern) (s : Stream (Value R)) (qs : List (Value R × Value R))
      → each_of (selecting x)
      (each (λ y. on_value (meant j.outer_key y) (λ k. select_each (extended world typed meant (joined_name j) (entry j) y) (matched j k qs))) (map (at p) s.0) s.1)
      ≡ each (λ v. on_value (meant j.outer_key (at p v)) (λ k. select_each (result_of world typed meant outer p (joined_name j) (entry j) (paired.Value x) v) (matched j k qs))) s.0 s.1
  join_over j x p s qs =
      each_each (selecting x) (λ y. on_value (meant j.outer_key y) (λ k. select_each (extended world typed meant (joined_name j) (entry j) y) (matched j k qs))) (map (at p) s.0) s.1
      ∙ each_map (at p) (λ y. each_of (selecting x) (on_value (meant j.outer_key y) (λ k. select_each (extended world typed meant (joined_name j) (entry j) y) (matched j k qs)))) s.0 s.1
      ∙ each_ext (λ v. each_of (selecting x) (on_value (meant j.outer_key (at p v)) (λ k. select_each (extended world typed meant (joined_name j) (entry j) (at p v)) (matched j k qs))))
      (λ v. on_value (meant j.outer_key (at p v)) (λ k. select_each (result_of world typed meant outer p (joined_name j) (entry j) (paired.Value x) v) (matched j k qs)))
      (λ v. join_at j x p qs v (meant j.outer_key (at p v))) s.0 s.1

  join_fused : (j : Join X) (x : X) (p : Pattern) (s : Stream (Value R))
      → last_meaning world typed meant (last.Select x) (clause_in (clause.Join j) (mapped (at p) s)) ≡ call_in (operator.Join j (paired.Value x)) p s
  join_fused j x p s =
      whole_each (selecting x)
      (λ qs. each (λ y. on_value (meant j.outer_key y) (λ k. select_each (extended world typed meant (joined_name j) (entry j) y) (matched j k qs))) (map (at p) s.0) s.1) (inner j).0 (inner j).1
      ∙ whole_ext
      (λ qs. each_of (selecting x) (each (λ y. on_value (meant j.outer_key y) (λ k. select_each (extended world typed meant (joined_name j) (entry j) y) (matched j k qs))) (map (at p) s.0) s.1))
      (λ qs. each (λ v. on_value (meant j.outer_key (at p v)) (λ k. select_each (result_of world typed meant outer p (joined_name j) (entry j) (paired.Value x) v) (matched j k qs))) s.0 s.1)
      (λ qs. join_over j x p s qs) (inner j).0 (inner j).1

  -- ---- what ends a body

  abbrev last_in : Last X → Stream (Scope R) → Stream (Value R)
  last_in l scopes = last_meaning world typed meant l scopes

  abbrev calls_in : List (Operator X) → Pattern → Stream (Value R) → Stream (Value R)
  calls_in ops p items = operators_meaning world typed meant outer ops p items

  module _ (names_typed : NamesTyped is_name typed) (names_mean : NamesMean is_name meant) where
    select_plain : (x : X) (p : Pattern) (s : Stream (Value R)) → last_in (last.Select x) (mapped (at p) s) ≡ calls_in (operator.Select x ∷ []) p s
    select_plain x p s = each_map (at p) (selecting x) s.0 s.1

    select_by_name : (n : List ℕ) (t : Ty) (x : X) (b : Bool) → is_name x n ≡ b → (s : Stream (Value R))
        → last_in (last.Select x) (mapped (at (One n t)) s) ≡ calls_in (if b then [] else operator.Select x ∷ []) (One n t) s
    select_by_name n t x true h s =
        each_map (at (One n t)) (selecting x) s.0 s.1
        ∙ each_ext (λ v. selecting x (at (One n t) v)) (λ v. one (Ok v)) (λ v. ap one (names_mean x n h t v outer)) s.0 s.1
        ∙ each_one (λ v. v) s.0 s.1
        ∙ ap (λ (xs : List (Value R)). (xs, s.1)) (map_same s.0)
    select_by_name n t x false h s = select_plain x (One n t) s

    group_plain : (x key : X) (p : Pattern) (s : Stream (Value R)) → last_in (last.Group x key) (mapped (at p) s) ≡ calls_in (operator.GroupBy key (Some x) ∷ []) p s
    group_plain x key p s = group_map (at p) same_keys (meant key) (meant x) as_group s.0 s.1

    group_by_name : (n : List ℕ) (t : Ty) (x key : X) (b : Bool) → is_name x n ≡ b → (s : Stream (Value R))
        → last_in (last.Group x key) (mapped (at (One n t)) s) ≡ calls_in (operator.GroupBy key (if b then None else Some x) ∷ []) (One n t) s
    group_by_name n t x key true h s =
        group_plain x key (One n t) s
        ∙ ap (λ (element : Value R → Result (Value R) Fault). group_by same_keys (λ v. meant key (at (One n t) v)) element as_group s.0 s.1)
        (λ i v. names_mean x n h t v outer i)
    group_by_name n t x key false h s = group_plain x key (One n t) s

    abbrev LastAlike : List ℕ → Bool → Bool → Last X → Stream (Value R) → Pattern → Type 0
    LastAlike n used sole l s p = last_in l (mapped (at p) s) ≡ calls_in (last_operators is_name n used sole l) p s

    selected : (n : List ℕ) (x : X) (used sole : Bool) (p : Pattern) → Fits n sole p → (s : Stream (Value R)) → LastAlike n used sole (last.Select x) s p
    selected n x true true p fits s = subst (LastAlike n true true (last.Select x) s) (sym fits.1) (select_by_name n fits.0 x (is_name x n) refl s)
    selected n x true false p fits s = select_plain x p s
    selected n x false sole p fits s = select_plain x p s

    grouped : (n : List ℕ) (x key : X) (used sole : Bool) (p : Pattern) → Fits n sole p → (s : Stream (Value R)) → LastAlike n used sole (last.Group x key) s p
    grouped n x key used true p fits s = subst (LastAlike n used true (last.Group x key) s) (sym fits.1) (group_by_name n fits.0 x key (is_name x n) refl s)
    grouped n x key used false p fits s = group_plain x key p s

    last_same : (n : List ℕ) (l : Last X) (used sole : Bool) (p : Pattern) → Fits n sole p → (s : Stream (Value R)) → LastAlike n used sole l s p
    last_same n (last.Select x) used sole p fits s = selected n x used sole p fits s
    last_same n (last.Group x key) used sole p fits s = grouped n x key used sole p fits s

    -- ---- bodies

    abbrev body_in : List (Clause X) → Last X → Stream (Scope R) → Stream (Value R)
    body_in cs l scopes = last_in l (clauses_meaning world typed meant outer cs scopes)

    clauses_same : (n : List ℕ) (cs : List (Clause X)) (l : Last X) (used sole : Bool) (p : Pattern) → Fits n sole p → (s : Stream (Value R))
        → body_in cs l (mapped (at p) s) ≡ calls_in (operators_of is_name n used sole cs l) p s
    clauses_same n [] l used sole p fits s = last_same n l used sole p fits s
    clauses_same n (clause.Where c ∷ cs) l used sole p fits s =
        ap (body_in cs l) (where_step c p s) ∙ clauses_same n cs l true (sole && true) p (still_fits n sole p fits) (call_in (operator.Where c) p s)
    clauses_same n (clause.OrderBy ks ∷ cs) l used sole p fits s =
        ap (body_in cs l) (order_step ks p s) ∙ clauses_same n cs l true (sole && true) p (still_fits n sole p fits) (call_in (operator.OrderBy ks) p s)
    clauses_same n (clause.Let m f ∷ cs) l used sole p fits s =
        let q = With p m (type_under world typed meant outer p f) in
        ap (body_in cs l) (let_step m f p s) ∙ clauses_same n cs l true (sole && false) q (fits_any n sole q) (call_in (operator.Let m f) p s)
    clauses_same n (clause.From m f ∷ []) (last.Select x) used sole p fits s = from_fused m f x p s
    clauses_same n (clause.From m f ∷ []) (last.Group x key) used sole p fits s =
        let q = With p m (source_type_under world typed meant outer p f) in
        ap (last_in (last.Group x key)) (from_step m f p s)
        ∙ last_same n (last.Group x key) true (sole && false) q (fits_any n sole q) (call_in (operator.SelectMany m f paired.Pair) p s)
    clauses_same n (clause.From m f ∷ c ∷ cs) l used sole p fits s =
        let q = With p m (source_type_under world typed meant outer p f) in
        ap (body_in (c ∷ cs) l) (from_step m f p s)
        ∙ clauses_same n (c ∷ cs) l true (sole && false) q (fits_any n sole q) (call_in (operator.SelectMany m f paired.Pair) p s)
    clauses_same n (clause.Join j ∷ []) (last.Select x) used sole p fits s = join_fused j x p s
    clauses_same n (clause.Join j ∷ []) (last.Group x key) used sole p fits s =
        let q = With p (joined_name j) (entry j) in
        ap (last_in (last.Group x key)) (join_step j p s)
        ∙ last_same n (last.Group x key) true (sole && false) q (fits_any n sole q) (call_in (operator.Join j paired.Pair) p s)
    clauses_same n (clause.Join j ∷ c ∷ cs) l used sole p fits s =
        let q = With p (joined_name j) (entry j) in
        ap (body_in (c ∷ cs) l) (join_step j p s)
        ∙ clauses_same n (c ∷ cs) l true (sole && false) q (fits_any n sole q) (call_in (operator.Join j paired.Pair) p s)

    -- ---- the whole query

    abbrev bodies_in : Body X → List ℕ → Ty → Stream (Value R) → Stream (Value R)
    bodies_in body n t items = body_meaning world typed meant outer body (bound_stream n t outer items)

    body_alike : (n : List ℕ) (t : Ty) (body : Body X) (items : Stream (Value R)) → bodies_in body n t items ≡ calls_in (body_operators is_name n body) (One n t) items
    body_alike n t body items = clauses_same n body.clauses body.last false true (One n t) (t, refl) items

    type_alike : (n : List ℕ) (t : Ty) (body : Body X) → operators_type_at world typed meant outer (body_operators is_name n body) n t ≡ body_type_at world typed meant outer body n t
    type_alike n t body = ap or_null (body_same is_name typed names_typed (names_at world outer) n t body)

    rest_alike : (rest : List (Continuation X)) (t : Ty) (items : Stream (Value R))
        → parts_meaning world typed meant outer (map (part_of is_name) rest) t items ≡ continued world typed meant outer rest t items
    rest_alike [] t items = refl
    rest_alike (next ∷ rest) t items =
        ap₂ (λ (u : Ty) (vs : Stream (Value R)). parts_meaning world typed meant outer (map (part_of is_name) rest) u vs) (type_alike next.name t next.body)
        (sym (body_alike next.name t next.body items))
        ∙ rest_alike rest (body_type_at world typed meant outer next.body next.name t) (bodies_in next.body next.name t items)

    pub means_alike : (q : Query X) → call_meaning world typed meant (call_of is_name q) outer ≡ query_meaning world typed meant q outer
    unfolding call_of call_meaning query_meaning
    means_alike q =
        let t = item_type_at world typed meant q.source outer in
        let items = stream_of world (meant q.source outer) in
        ap₂ (λ (u : Ty) (vs : Stream (Value R)). parts_meaning world typed meant outer (map (part_of is_name) q.rest) u vs) (type_alike q.name t q.body)
        (sym (body_alike q.name t q.body items))
        ∙ rest_alike q.rest (body_type_at world typed meant outer q.body q.name t) (bodies_in q.body q.name t items)
