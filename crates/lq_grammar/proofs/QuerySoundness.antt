-- What the functions of queries read is what the tokens spell, where what they lead back to does so.
use Rattle.std.proofs.Common.{◌≡◌, ℕ, zero, suc, List, [], ◌∷◌, ◌++◌, refl, ap, append-nil}
use Rattle.std.specs.Prelude.{Option, Some, None}
use Rattle.lq_grammar.specs.Grammar as s
use Rattle.lq_grammar.specs.Grammar.{Spells}
use Rattle.lq_grammar.specs.Parsing.{Parser, ◌>>=◌, behind, source, key, more_keys, keys, group_name, join, clause_by, clauses_by, clauses, ending, body, continuations, query, top, rule}
use Rattle.lq_grammar.specs.Tokens.{text_of}
use Rattle.lq_grammar.specs.declared.syntax.Clause.{Clause}
use Rattle.lq_grammar.specs.declared.syntax.Clause.TheVariants as clause
use Rattle.lq_grammar.specs.declared.syntax.Continuation.{Continuation}
use Rattle.lq_grammar.specs.declared.syntax.Expr.{Expr}
use Rattle.lq_grammar.specs.declared.syntax.Level.{Level}
use Rattle.lq_grammar.specs.declared.syntax.Level.TheVariants as level
use Rattle.lq_grammar.specs.declared.syntax.SortKey.{SortKey}
use Rattle.lq_grammar.specs.declared.token.Kind.{Kind}
use Rattle.lq_grammar.specs.declared.token.Kind.TheVariants as k
use Rattle.lq_grammar.specs.declared.token.Token.{Token}
use Rattle.lq_grammar.proofs.Backwards.{Reads, EachSome, each_some, done, hence, part_then, part_last, token_then, name_then, chosen, after_token, counted, by_table}
use Rattle.lq_grammar.proofs.ExpressionSoundness.{Sound, GoesOn, part_of, stays, goes_on, sound_conditional, sound_prefix, sound_primary, sound_coalescing}

module _ (line : List ℕ) (inner : Level → Parser Expr) (sound_inner : (l : Level) → Sound line (part_of l) (inner l)) where
  -- ---- clauses

  -- "in" and what spells an expression
  record Within (front : List Token) (x : Expr) : Type 0 where
    word : Token
    inside : List Token
    is : word.kind ≡ k.In
    split : front ≡ word ∷ inside
    spells : Spells line (s.Conditional x) inside

  sound_source : Reads (source line inner) Within
  unfolding source
  sound_source =
      token_then (λ word is. hence (sound_inner level.Conditional) (λ inside x spells. record { word = word; inside = inside; is = is; split = refl; spells = spells }))

  source_then : {B : Type 0} {f : Expr → Parser B} {Q : List Token → B → Type 0}
      → ((x : Expr) (word : Token) (inside : List Token) → word.kind ≡ k.In → Spells line (s.Conditional x) inside → Reads (f x) (λ more y. Q (word ∷ (inside ++ more)) y))
      → Reads (source line inner >>= f) Q
  source_then {Q = Q} next =
      part_then sound_source (λ x front from. hence (next x from.word from.inside from.is from.spells) (λ more y h. rw (ap (λ all. Q (all ++ more) y) from.split) h))

  sound_key : Sound line s.OneKey (key line inner)
  unfolding key
  sound_key =
      part_then (sound_inner level.Conditional) (λ x xs spells.
      after_token (λ word is. done (s.key_ascending word spells is))
      (after_token (λ word is. done (s.key_descending word spells is)) (done (stays (s.key_alone spells)))))

  sound_more_keys : (n : ℕ) (ks : List (SortKey Expr)) (xs : List Token) → Spells line (s.Keys ks) xs → GoesOn line s.Keys xs (more_keys line inner n ks)
  unfolding more_keys
  sound_more_keys zero ks xs spells = done (stays spells)
  sound_more_keys (suc n) ks xs spells =
      after_token
      (λ comma comma_is. part_then sound_key (λ x ys one.
      goes_on s.Keys xs (comma ∷ ys) (sound_more_keys n (ks ++ x ∷ []) (xs ++ comma ∷ ys) (s.another_key comma spells comma_is one))))
      (done (stays spells))

  sound_keys : Sound line s.Keys (keys line inner)
  unfolding keys
  sound_keys = part_then sound_key (λ x xs one. counted (λ n. sound_more_keys n (x ∷ []) xs (s.one_key one)))

  -- "into" name, where it is there
  data GroupName : List Token → Option (List ℕ) → Type 0 where
    no_group : GroupName [] None
    group : (into word : Token) → into.kind ≡ k.Into → word.kind ≡ k.Name → GroupName (into ∷ word ∷ []) (Some (text_of line word))

  sound_group_name : Reads (group_name line inner) GroupName
  unfolding group_name
  sound_group_name = after_token (λ into into_is. name_then line _ (λ word word_is. done (group into word into_is word_is))) (done no_group)

  join_spelled : (word variable within on equals : Token) (from outer own : Expr) (xs ys zs front : List Token) (g : Option (List ℕ)) → word.kind ≡ k.Join → variable.kind ≡ k.Name
      → within.kind ≡ k.In → Spells line (s.Conditional from) xs → on.kind ≡ k.On → Spells line (s.Conditional outer) ys → equals.kind ≡ k.Equals → Spells line (s.Conditional own) zs
      → GroupName front g
      → Spells line (s.OneClause (clause.Join (record { name = text_of line variable; source = from; outer_key = outer; inner_key = own; into = g })))
      (word ∷ variable ∷ within ∷ (xs ++ on ∷ (ys ++ equals ∷ (zs ++ front))))
  join_spelled word variable within on equals from outer own xs ys zs front g word_is variable_is within_is from_is on_is outer_is equals_is own_is no_group =
      rw (append-nil zs) (s.join_clause word variable within on equals word_is variable_is within_is from_is on_is outer_is equals_is own_is)
  join_spelled word variable within on equals from outer own xs ys zs front g word_is variable_is within_is from_is on_is outer_is equals_is own_is (group into name into_is name_is) =
      s.group_join_clause word variable within on equals into name word_is variable_is within_is from_is on_is outer_is equals_is own_is into_is name_is

  sound_join : (t : Token) → t.kind ≡ k.Join → Reads (join line inner) (λ more c. Spells line (s.OneClause c) (t ∷ more))
  unfolding join
  sound_join t is =
      name_then line _ (λ word word_is. source_then (λ from within xs within_is from_is. token_then (λ on on_is. part_then (sound_inner level.Conditional) (λ outer ys outer_is.
      token_then (λ equals equals_is. part_then (sound_inner level.Conditional) (λ own zs own_is. part_last _ sound_group_name (λ g front group_is.
      join_spelled t word within on equals from outer own xs ys zs front g is word_is within_is from_is on_is outer_is equals_is own_is group_is)))))))

  -- the clause that a word begins
  clause_at : (kind : Kind) (t : Token) → t.kind ≡ kind → EachSome (clause_by line inner kind) (λ found. Reads found (λ more c. Spells line (s.OneClause c) (t ∷ more)))
  clause_at k.From t is = name_then line _ (λ word word_is. source_then (λ x within inside within_is spells. done (rw (append-nil inside) (s.from_clause t word within is word_is within_is spells))))
  clause_at k.Let t is =
      name_then line _ (λ word word_is. token_then (λ assign assign_is. part_last _ (sound_inner level.Conditional) (λ x front spells. s.let_clause t word assign is word_is assign_is spells)))
  clause_at k.Where t is = part_last _ (sound_inner level.Conditional) (λ x front spells. s.where_clause t is spells)
  clause_at k.Join t is = sound_join t is
  clause_at k.OrderBy t is = part_last _ sound_keys (λ ks front spells. s.orderby_clause t is spells)
  clause_at kind t is = tt

  sound_clauses : (n : ℕ) (cs : List (Clause Expr)) (xs : List Token) → Spells line (s.Clauses cs) xs → GoesOn line s.Clauses xs (clauses line inner n cs)
  unfolding clauses behind
  sound_clauses zero cs xs spells = done (stays spells)
  sound_clauses (suc n) cs xs spells =
      by_table (clause_by line inner) (clauses_by line inner (clauses line inner n) cs) (λ found. found >>= (λ c. clauses line inner n (cs ++ c ∷ []))) refl (λ found t ts. refl)
      (done (stays spells))
      (λ found t e. part_then (each_some (λ found. Reads found (λ more c. Spells line (s.OneClause c) (t ∷ more))) (clause_by line inner t.kind) found (clause_at t.kind t refl) e) (λ c ys one.
      goes_on s.Clauses xs (t ∷ ys) (sound_clauses n (cs ++ c ∷ []) (xs ++ t ∷ ys) (s.another_clause spells one))))

  -- ---- bodies and queries

  sound_ending : Sound line s.Ending (ending line inner)
  unfolding ending
  sound_ending =
      after_token (λ word is. part_last _ (sound_inner level.Conditional) (λ x front spells. s.select word is spells))
      (token_then (λ word is. part_then (sound_inner level.Conditional) (λ x xs value.
      token_then (λ by by_is. part_last _ (sound_inner level.Conditional) (λ y ys key. s.group word by is value by_is key)))))

  sound_body : Sound line s.Bodied (body line inner)
  unfolding body
  sound_body = part_then (counted (λ n. sound_clauses n [] [] s.no_clause)) (λ cs xs clauses_are. part_last _ sound_ending (λ l ys end. s.body clauses_are end))

  sound_continuations : (n : ℕ) (rest : List (Continuation Expr)) (xs : List Token) → Spells line (s.Continuations rest) xs → GoesOn line s.Continuations xs (continuations line inner n rest)
  unfolding continuations
  sound_continuations zero rest xs spells = done (stays spells)
  sound_continuations (suc n) rest xs spells =
      after_token
      (λ into into_is. name_then line _ (λ word word_is. part_then sound_body (λ b ys one.
      goes_on s.Continuations xs (into ∷ word ∷ ys)
      (sound_continuations n (rest ++ record { name = text_of line word; body = b } ∷ []) (xs ++ into ∷ word ∷ ys) (s.another_continuation into word spells into_is word_is one)))))
      (done (stays spells))

  sound_query : Sound line s.Queried (query line inner)
  unfolding query
  sound_query =
      token_then (λ from from_is. name_then line _ (λ word word_is. source_then (λ x within xs within_is source_is. part_then sound_body (λ b ys body_is.
      part_last _ (counted (λ n. sound_continuations n [] [] s.no_continuation)) (λ rest zs rest_is. s.query from word within from_is word_is within_is source_is body_is rest_is)))))

  sound_top : Sound line s.Top (top line inner)
  unfolding top
  sound_top = chosen _ (part_last _ sound_query (λ q front spells. s.top_query spells)) (hence (sound_conditional line inner sound_inner) (λ front x spells. s.top_other spells))

  pub sound_rule : (l : Level) → Sound line (part_of l) (rule line inner l)
  unfolding rule
  sound_rule level.Top = sound_top
  sound_rule level.Conditional = sound_conditional line inner sound_inner
  sound_rule level.Coalescing = sound_coalescing line inner sound_inner
  sound_rule level.Unary = sound_prefix line inner sound_inner
  sound_rule level.Primary = sound_primary line inner sound_inner
