-- Queries, their bodies and their clauses are read as they are spelled.
use Rattle.std.proofs.Common.{arith, ◌≡◌, ◌≤◌, ℕ, suc, zero, List, [], ◌∷◌, ◌++◌, refl, ap, ◌∙◌, length}
use Rattle.std.specs.Prelude.{None, Some, Option}
use Rattle.std.proofs.lemmas.List.{append_assoc}
use Rattle.lq_grammar.specs.Grammar as s
use Rattle.lq_grammar.specs.Parsing as p
use Rattle.lq_grammar.specs.Parsing.{Parser, ◌>>=◌, peek}
use Rattle.lq_grammar.specs.Tokens.{text_of}
use Rattle.lq_grammar.specs.declared.syntax.Body.{Body}
use Rattle.lq_grammar.specs.declared.syntax.Clause.{Clause}
use Rattle.lq_grammar.specs.declared.syntax.Clause.TheVariants as clause
use Rattle.lq_grammar.specs.declared.syntax.Continuation.{Continuation}
use Rattle.lq_grammar.specs.declared.syntax.Expr.{Expr}
use Rattle.lq_grammar.specs.declared.syntax.Last.{Last}
use Rattle.lq_grammar.specs.declared.syntax.Last.TheVariants as last
use Rattle.lq_grammar.specs.declared.syntax.Level.{Level}
use Rattle.lq_grammar.specs.declared.syntax.Level.TheVariants as level
use Rattle.lq_grammar.specs.declared.syntax.SortKey.{SortKey}
use Rattle.lq_grammar.specs.declared.token.Kind.{Kind}
use Rattle.lq_grammar.specs.declared.token.Kind.TheVariants as k
use Rattle.lq_grammar.specs.declared.token.Token.{Token}
use Rattle.lq_grammar.proofs.Following.{not_next, tight}
use Rattle.lq_grammar.proofs.Forwards.{after_sees, after_skips, begins_false, begins_true, bind_step, expect_step, name_step, split_middle, turn, turn_row}
use Rattle.lq_grammar.proofs.ReadKeys.{ConditionalRead, KeysRead, more_keys_end}
use Rattle.lq_grammar.proofs.ReadParts.{ClauseReads, Reads, PartReadsOver}

module _ (line : List ℕ) (inner : Level → Parser Expr) where
  -- ---- clauses

  clauses_step : (turns : ℕ) (cs : List (Clause Expr)) (c : Clause Expr) (found : Parser (Clause Expr)) (word : Token) (ts rest : List Token)
      → p.clause_by line inner word.kind ≡ Some found → found ts ≡ Some (c, rest)
      → p.clauses line inner (suc turns) cs (word ∷ ts) ≡ p.clauses line inner turns (cs ++ c ∷ []) rest
  unfolding p.clauses peek p.behind
  clauses_step turns cs c found word ts rest is reads =
      ap (λ o. p.clauses_by line inner (p.clauses line inner turns) cs o (word ∷ ts)) is
      ∙ bind_step found (λ a. p.clauses line inner turns (cs ++ a ∷ [])) ts rest c reads

  -- a clause, by its first word and what reads the tokens after it
  read_clause : (c : Clause Expr) (kind : Kind) (found : Parser (Clause Expr)) (word : Token) (ts : List Token) → word.kind ≡ kind → tight kind ≡ 13
      → p.clause_by line inner kind ≡ Some found → Reads 13 found c ts → ClauseReads line inner c (word ∷ ts)
  unfolding peek
  read_clause c kind found word ts is last_of_all by reads =
      let above : tight word.kind ≡ 13 = ap tight is ∙ last_of_all in
      (omega arith, λ rest stops. (omega arith, λ turns cs. clauses_step turns cs c found word (ts ++ rest) rest (ap (p.clause_by line inner) is ∙ by) (reads rest stops)))

  source_step : {B : Type 0} (f : Expr → Parser B) (x : Expr) (ts : List Token) (within : Token) (rest : List Token) → within.kind ≡ k.In → ConditionalRead line inner x ts → 10 ≤ tight (peek rest)
      → (p.source line inner >>= f) (within ∷ (ts ++ rest)) ≡ f x rest
  unfolding p.source
  source_step f x ts within rest is reads stops =
      bind_step (p.source line inner) f (within ∷ (ts ++ rest)) rest x (expect_step k.In _ within (ts ++ rest) is ∙ reads rest stops)

  pub read_from_clause : (x : Expr) (ts : List Token) (word variable within : Token) → word.kind ≡ k.From → variable.kind ≡ k.Name → within.kind ≡ k.In → ConditionalRead line inner x ts
      → ClauseReads line inner (clause.From (text_of line variable) x) (word ∷ variable ∷ within ∷ ts)
  read_from_clause x ts word variable within is variable_is within_is reads =
      read_clause _ k.From _ word (variable ∷ within ∷ ts) is refl refl
      (λ rest stops. name_step line _ variable _ variable_is ∙ source_step _ x ts within rest within_is reads (omega arith))

  pub read_let_clause : (x : Expr) (ts : List Token) (word variable assign : Token) → word.kind ≡ k.Let → variable.kind ≡ k.Name → assign.kind ≡ k.Assign → ConditionalRead line inner x ts
      → ClauseReads line inner (clause.Let (text_of line variable) x) (word ∷ variable ∷ assign ∷ ts)
  read_let_clause x ts word variable assign is variable_is assign_is reads =
      read_clause _ k.Let _ word (variable ∷ assign ∷ ts) is refl refl
      (λ rest stops. name_step line _ variable _ variable_is ∙ expect_step k.Assign _ assign (ts ++ rest) assign_is
      ∙ bind_step (inner level.Conditional) _ (ts ++ rest) rest x (reads rest (omega arith)))

  pub read_where_clause : (x : Expr) (ts : List Token) (word : Token) → word.kind ≡ k.Where → ConditionalRead line inner x ts → ClauseReads line inner (clause.Where x) (word ∷ ts)
  read_where_clause x ts word is reads =
      read_clause _ k.Where _ word ts is refl refl (λ rest stops. bind_step (inner level.Conditional) _ (ts ++ rest) rest x (reads rest (omega arith)))

  pub read_orderby_clause : (ks : List (SortKey Expr)) (ts : List Token) (word : Token) → word.kind ≡ k.OrderBy → KeysRead line inner ks ts → ClauseReads line inner (clause.OrderBy ks) (word ∷ ts)
  read_orderby_clause ks ts word is reads =
      read_clause _ k.OrderBy _ word ts is refl refl
      (λ rest stops. let (turns, enough, front) = reads rest (omega arith) in
      bind_step (p.keys line inner) _ (ts ++ rest) rest ks (front ∙ more_keys_end line inner turns ks rest (omega arith)))

  -- ---- joins

  group_name_none : (rest : List Token) → 13 ≤ tight (peek rest) → p.group_name line inner rest ≡ Some (None, rest)
  unfolding p.group_name
  group_name_none rest stops = after_skips k.Into _ _ rest (not_next k.Into rest (omega arith))

  group_name_some : (into group : Token) (rest : List Token) → into.kind ≡ k.Into → group.kind ≡ k.Name → p.group_name line inner (into ∷ group ∷ rest) ≡ Some (Some (text_of line group), rest)
  unfolding p.group_name
  group_name_some into group rest into_is group_is = after_sees k.Into _ _ into (group ∷ rest) into_is ∙ name_step line _ group rest group_is

  -- a join, by what comes after its last key
  join_reads : (s x y : Expr) (g : Option (List ℕ)) (ss xs ys left rest : List Token) (variable within on equals : Token) → variable.kind ≡ k.Name → within.kind ≡ k.In → ConditionalRead line inner s ss
      → on.kind ≡ k.On → ConditionalRead line inner x xs → equals.kind ≡ k.Equals → ConditionalRead line inner y ys → 10 ≤ tight (peek left) → p.group_name line inner left ≡ Some (g, rest)
      → p.join line inner (variable ∷ within ∷ (ss ++ on ∷ (xs ++ equals ∷ (ys ++ left))))
      ≡ Some (clause.Join (record { name = text_of line variable; source = s; outer_key = x; inner_key = y; into = g }), rest)
  unfolding p.join peek
  join_reads s x y g ss xs ys left rest variable within on equals variable_is within_is source_is on_is outer equals_is own stops named =
      let on_above : tight on.kind ≡ 13 = ap tight on_is in
      let equals_above : tight equals.kind ≡ 13 = ap tight equals_is in
      name_step line _ variable _ variable_is
      ∙ source_step _ s ss within (on ∷ (xs ++ equals ∷ (ys ++ left))) within_is source_is (omega arith)
      ∙ expect_step k.On _ on _ on_is
      ∙ bind_step (inner level.Conditional) _ (xs ++ equals ∷ (ys ++ left)) (equals ∷ (ys ++ left)) x (outer _ (omega arith))
      ∙ expect_step k.Equals _ equals _ equals_is
      ∙ bind_step (inner level.Conditional) _ (ys ++ left) left y (own left stops)
      ∙ bind_step (p.group_name line inner) _ left rest g named

  split_join : (ss xs ys rest : List Token) (on equals : Token) → (ss ++ on ∷ (xs ++ equals ∷ ys)) ++ rest ≡ ss ++ on ∷ (xs ++ equals ∷ (ys ++ rest))
  split_join ss xs ys rest on equals = split_middle ss on (xs ++ equals ∷ ys) rest ∙ ap (λ more. ss ++ on ∷ more) (split_middle xs equals ys rest)

  pub read_join_clause : (s x y : Expr) (ss xs ys : List Token) (word variable within on equals : Token) → word.kind ≡ k.Join → variable.kind ≡ k.Name → within.kind ≡ k.In → ConditionalRead line inner s ss
      → on.kind ≡ k.On → ConditionalRead line inner x xs → equals.kind ≡ k.Equals → ConditionalRead line inner y ys
      → ClauseReads line inner (clause.Join (record { name = text_of line variable; source = s; outer_key = x; inner_key = y; into = None }))
      (word ∷ variable ∷ within ∷ (ss ++ on ∷ (xs ++ equals ∷ ys)))
  read_join_clause s x y ss xs ys word variable within on equals is variable_is within_is source_is on_is outer equals_is own =
      read_clause _ k.Join _ word (variable ∷ within ∷ (ss ++ on ∷ (xs ++ equals ∷ ys))) is refl refl
      (λ rest stops. ap (λ more. p.join line inner (variable ∷ within ∷ more)) (split_join ss xs ys rest on equals)
      ∙ join_reads s x y None ss xs ys rest rest variable within on equals variable_is within_is source_is on_is outer equals_is own (omega arith) (group_name_none rest stops))

  pub read_group_join_clause : (s x y : Expr) (ss xs ys : List Token) (word variable within on equals into group : Token) → word.kind ≡ k.Join → variable.kind ≡ k.Name → within.kind ≡ k.In
      → ConditionalRead line inner s ss → on.kind ≡ k.On → ConditionalRead line inner x xs → equals.kind ≡ k.Equals → ConditionalRead line inner y ys → into.kind ≡ k.Into → group.kind ≡ k.Name
      → ClauseReads line inner (clause.Join (record { name = text_of line variable; source = s; outer_key = x; inner_key = y; into = Some (text_of line group) }))
      (word ∷ variable ∷ within ∷ (ss ++ on ∷ (xs ++ equals ∷ (ys ++ into ∷ group ∷ []))))
  unfolding peek
  read_group_join_clause s x y ss xs ys word variable within on equals into group is variable_is within_is source_is on_is outer equals_is own into_is group_is =
      let above : tight into.kind ≡ 12 = ap tight into_is in
      read_clause _ k.Join _ word (variable ∷ within ∷ (ss ++ on ∷ (xs ++ equals ∷ (ys ++ into ∷ group ∷ [])))) is refl refl
      (λ rest stops. ap (λ more. p.join line inner (variable ∷ within ∷ more))
      (split_join ss xs (ys ++ into ∷ group ∷ []) rest on equals ∙ ap (λ more. ss ++ on ∷ (xs ++ equals ∷ more)) (split_middle ys into (group ∷ []) rest))
      ∙ join_reads s x y (Some (text_of line group)) ss xs ys (into ∷ group ∷ rest) rest variable within on equals variable_is within_is source_is on_is outer equals_is own (omega arith)
      (group_name_some into group rest into_is group_is))

  -- ---- bodies

  abbrev ClausesRead : List (Clause Expr) → List Token → Type 0
  ClausesRead cs ts = PartReadsOver line inner (s.Clauses cs) ts

  abbrev EndingRead : Last Expr → List Token → Type 0
  EndingRead l ts = PartReadsOver line inner (s.Ending l) ts

  abbrev BodyRead : Body Expr → List Token → Type 0
  BodyRead b ts = PartReadsOver line inner (s.Bodied b) ts

  pub read_no_clause : ClausesRead [] []
  read_no_clause rest stops = (stops, (length rest, omega arith, refl))

  pub read_another_clause : (cs : List (Clause Expr)) (c : Clause Expr) (xs ys : List Token) → ClausesRead cs xs → ClauseReads line inner c ys → ClausesRead (cs ++ c ∷ []) (xs ++ ys)
  read_another_clause cs c xs ys before (some, next) rest stops =
      let split : (xs ++ ys) ++ rest ≡ xs ++ (ys ++ rest) = append_assoc xs ys rest in
      let (begins, step) = next rest stops in
      let (first, (turns, enough, reads)) = before (ys ++ rest) begins in
      let (less, more, left) = turn_row turns ys rest some enough in
      (rw split first, (less, left, ap (λ tokens. p.clauses line inner (length tokens) [] tokens) split ∙ reads ∙ ap (λ n. p.clauses line inner n cs (ys ++ rest)) more ∙ step less cs))

  clauses_end : (turns : ℕ) (cs : List (Clause Expr)) (rest : List Token) → p.clause_by line inner (peek rest) ≡ None → p.clauses line inner turns cs rest ≡ Some (cs, rest)
  unfolding p.clauses
  clauses_end zero cs rest none = refl
  clauses_end (suc turns) cs rest none = ap (λ o. p.clauses_by line inner (p.clauses line inner turns) cs o rest) none

  pub read_select : (x : Expr) (ts : List Token) (word : Token) → word.kind ≡ k.Select → ConditionalRead line inner x ts → EndingRead (last.Select x) (word ∷ ts)
  unfolding p.ending peek
  read_select x ts word is reads rest stops =
      let above : tight word.kind ≡ 13 = ap tight is in
      (omega arith, ap (p.clause_by line inner) is, after_sees k.Select _ _ word (ts ++ rest) is ∙ bind_step (inner level.Conditional) _ (ts ++ rest) rest x (reads rest stops))

  pub read_group : (x y : Expr) (xs ys : List Token) (word by : Token) → word.kind ≡ k.Group → ConditionalRead line inner x xs → by.kind ≡ k.By → ConditionalRead line inner y ys
      → EndingRead (last.Group x y) (word ∷ (xs ++ by ∷ ys))
  unfolding p.ending peek
  read_group x y xs ys word by is element by_is key rest stops =
      let above : tight word.kind ≡ 13 = ap tight is in
      let by_above : tight by.kind ≡ 13 = ap tight by_is in (
        omega arith,
        ap (p.clause_by line inner) is,
        after_skips k.Select _ _ (word ∷ ((xs ++ by ∷ ys) ++ rest)) (begins_false k.Select word ((xs ++ by ∷ ys) ++ rest) (λ e. cc))
            ∙ expect_step k.Group _ word ((xs ++ by ∷ ys) ++ rest) is
            ∙ bind_step (inner level.Conditional) _ ((xs ++ by ∷ ys) ++ rest) (by ∷ (ys ++ rest)) x (ap (inner level.Conditional) (split_middle xs by ys rest) ∙ element _ (omega arith))
            ∙ expect_step k.By _ by (ys ++ rest) by_is
            ∙ bind_step (inner level.Conditional) _ (ys ++ rest) rest y (key rest stops),
      )

  pub read_body : (cs : List (Clause Expr)) (l : Last Expr) (xs ys : List Token) → ClausesRead cs xs → EndingRead l ys → BodyRead (record { clauses = cs; last = l }) (xs ++ ys)
  unfolding p.body
  read_body cs l xs ys before ending rest stops =
      let split : (xs ++ ys) ++ rest ≡ xs ++ (ys ++ rest) = append_assoc xs ys rest in
      let (begins, none, ends) = ending rest stops in
      let (first, (turns, enough, reads)) = before (ys ++ rest) begins in
      let low : 10 ≤ tight (peek (xs ++ (ys ++ rest))) = omega arith in (
        rw split low,
        ap (p.body line inner) split
            ∙ bind_step (λ tokens. p.clauses line inner (length tokens) [] tokens) _ (xs ++ (ys ++ rest)) (ys ++ rest) cs (reads ∙ clauses_end turns cs (ys ++ rest) none)
            ∙ bind_step (p.ending line inner) _ (ys ++ rest) rest l ends,
      )

  -- ---- queries

  abbrev ContinuationsRead : List (Continuation Expr) → List Token → Type 0
  ContinuationsRead cs ts = PartReadsOver line inner (s.Continuations cs) ts

  pub read_no_continuation : ContinuationsRead [] []
  read_no_continuation rest stops = (stops, (length rest, omega arith, refl))

  continuations_step : (turns : ℕ) (cs : List (Continuation Expr)) (b : Body Expr) (into word : Token) (ys rest : List Token) → into.kind ≡ k.Into → word.kind ≡ k.Name
      → p.body line inner (ys ++ rest) ≡ Some (b, rest)
      → p.continuations line inner (suc turns) cs (into ∷ word ∷ (ys ++ rest)) ≡ p.continuations line inner turns (cs ++ record { name = text_of line word; body = b } ∷ []) rest
  unfolding p.continuations
  continuations_step turns cs b into word ys rest into_is word_is reads =
      after_sees k.Into _ _ into (word ∷ (ys ++ rest)) into_is ∙ name_step line _ word (ys ++ rest) word_is
      ∙ bind_step (p.body line inner) (λ a. p.continuations line inner turns (cs ++ record { name = text_of line word; body = a } ∷ [])) (ys ++ rest) rest b reads

  pub read_another_continuation : (cs : List (Continuation Expr)) (b : Body Expr) (xs ys : List Token) (into word : Token) → ContinuationsRead cs xs → into.kind ≡ k.Into
      → word.kind ≡ k.Name → BodyRead b ys → ContinuationsRead (cs ++ record { name = text_of line word; body = b } ∷ []) (xs ++ into ∷ word ∷ ys)
  unfolding peek
  read_another_continuation cs b xs ys into word before into_is word_is next rest stops =
      let above : tight into.kind ≡ 12 = ap tight into_is in
      let split : (xs ++ into ∷ word ∷ ys) ++ rest ≡ xs ++ into ∷ word ∷ (ys ++ rest) = split_middle xs into (word ∷ ys) rest in
      let (begins, body_is) = next rest stops in
      let (first, (turns, enough, reads)) = before (into ∷ word ∷ (ys ++ rest)) (omega arith) in
      let (less, more, left) = turn turns into (word ∷ ys) rest enough in (
        rw split first,
        (
          less,
          left,
          ap (λ tokens. p.continuations line inner (length tokens) [] tokens) split ∙ reads
              ∙ ap (λ n. p.continuations line inner n cs (into ∷ word ∷ (ys ++ rest))) more ∙ continuations_step less cs b into word ys rest into_is word_is body_is,
        ),
      )

  continuations_end : (turns : ℕ) (cs : List (Continuation Expr)) (rest : List Token) → 13 ≤ tight (peek rest) → p.continuations line inner turns cs rest ≡ Some (cs, rest)
  unfolding p.continuations
  continuations_end zero cs rest stops = refl
  continuations_end (suc turns) cs rest stops = after_skips k.Into _ _ rest (not_next k.Into rest (omega arith))

  pub read_query : (x : Expr) (b : Body Expr) (cs : List (Continuation Expr)) (xs ys zs : List Token) (from word within : Token) → from.kind ≡ k.From → word.kind ≡ k.Name
      → within.kind ≡ k.In → ConditionalRead line inner x xs → BodyRead b ys → ContinuationsRead cs zs
      → PartReadsOver line inner (s.Queried (record { name = text_of line word; source = x; body = b; rest = cs })) (from ∷ word ∷ within ∷ (xs ++ (ys ++ zs)))
  unfolding p.query
  read_query x b cs xs ys zs from word within from_is word_is within_is source_is body_is continues rest stops =
      let split : (xs ++ (ys ++ zs)) ++ rest ≡ xs ++ (ys ++ (zs ++ rest)) = append_assoc xs (ys ++ zs) rest ∙ ap (λ more. xs ++ more) (append_assoc ys zs rest) in
      let (later, (turns, enough, reads)) = continues rest (omega arith) in
      let (begins, body_reads) = body_is (zs ++ rest) later in (
        begins_true k.From from (word ∷ within ∷ ((xs ++ (ys ++ zs)) ++ rest)) from_is,
        ap (λ more. p.query line inner (from ∷ word ∷ within ∷ more)) split
            ∙ expect_step k.From _ from _ from_is ∙ name_step line _ word _ word_is
            ∙ source_step _ x xs within (ys ++ (zs ++ rest)) within_is source_is begins
            ∙ bind_step (p.body line inner) _ (ys ++ (zs ++ rest)) (zs ++ rest) b body_reads
            ∙ bind_step (λ tokens. p.continuations line inner (length tokens) [] tokens) _ (zs ++ rest) rest cs (reads ∙ continuations_end turns cs rest stops),
      )
