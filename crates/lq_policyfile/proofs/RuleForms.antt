-- What is known of the names in each form of an expression.
use Rattle.std.proofs.Common.{◌≡◌, ◌∷◌, ◌&&◌, ◌||◌, not, List, [], map, ℕ, ℤ, Bool, true, ap, ap₂, ◌∙◌, sym, refl}
use Rattle.std.specs.List.{list_all}
use Rattle.lq_value.specs.declared.table.Column.{Column}
use Rattle.lq_language.specs.declared.host_name.HostName.{HostName}
use Rattle.lq_security.specs.Totality.{is_row}
use Rattle.lq_grammar.specs.declared.syntax.Argument.{Argument}
use Rattle.lq_grammar.specs.declared.syntax.Argument.TheVariants as argument
use Rattle.lq_grammar.specs.declared.syntax.Binary.{Binary}
use Rattle.lq_grammar.specs.declared.syntax.Clause.{Clause}
use Rattle.lq_grammar.specs.declared.syntax.Clause.TheVariants as clause
use Rattle.lq_grammar.specs.declared.syntax.Continuation.{Continuation}
use Rattle.lq_grammar.specs.declared.syntax.Expr.{Expr, map-Expr, out-Expr, para-roll-Expr, roll-Expr}
use Rattle.lq_grammar.specs.declared.syntax.Expr.TheOpen.{Expr-F}
use Rattle.lq_grammar.specs.declared.syntax.Expr.TheVariants as expr
use Rattle.lq_grammar.specs.declared.syntax.Expr.TheVariants.{outs-Node, outs-Query, rolls-Node, rolls-Query}
use Rattle.lq_grammar.specs.declared.syntax.Field.{Field}
use Rattle.lq_grammar.specs.declared.syntax.Last.{Last}
use Rattle.lq_grammar.specs.declared.syntax.Last.TheVariants as last
use Rattle.lq_grammar.specs.declared.syntax.Node.{Node}
use Rattle.lq_grammar.specs.declared.syntax.Node.TheVariants as node
use Rattle.lq_grammar.specs.declared.syntax.Picked.{Picked}
use Rattle.lq_grammar.specs.declared.syntax.Query.{Query}
use Rattle.lq_grammar.specs.declared.syntax.SortKey.{SortKey}
use Rattle.lq_grammar.specs.declared.syntax.Unary.{Unary}
use Rattle.lq_policyfile.specs.RuleNames.{ExprKnowing, argument_knows, clause_knows, clauses_know, continuation_knows, has_column, has_columns, is_hidden_after, is_hidden_by, is_predicate, knowing, knows, knows_step, last_knows, query_knows}

pub ruleset layers = (outs-Node, outs-Query)

module _ (hosts : List HostName) (columns : List Column) where
  -- an expression beside what is known of it
  abbrev pub beside : Expr → ExprKnowing
  beside e = (e, knows hosts columns e)

  abbrev pub layer_knowing : Expr-F Expr → Expr-F ExprKnowing
  layer_knowing layer = map-Expr Expr ExprKnowing beside layer

  rolled : (layer : Expr-F Expr) (hidden : Bool) → knows hosts columns (roll-Expr layer) hidden ≡ knows_step hosts columns (layer_knowing layer) hidden
  unfolding knows
  rolled layer hidden = ap (λ (f : Bool → Bool). f hidden) (para-roll-Expr (Bool → Bool) (knows_step hosts columns) layer)

  node_is : (n : Node Expr) (hidden : Bool) → knows hosts columns (expr.Node n) hidden ≡ knows_step hosts columns (layer_knowing (Expr-F.Node n)) hidden
  node_is n hidden = ap (λ (e : Expr). knows hosts columns e hidden) (sym (rolls-Node n)) ∙ rolled (Expr-F.Node n) hidden

  query_is : (q : Query Expr) (hidden : Bool) → knows hosts columns (expr.Query q) hidden ≡ knows_step hosts columns (layer_knowing (Expr-F.Query q)) hidden
  query_is q hidden = ap (λ (e : Expr). knows hosts columns e hidden) (sym (rolls-Query q)) ∙ rolled (Expr-F.Query q) hidden

  pub knows_integer : (n : ℤ) (hidden : Bool) → knows hosts columns (expr.Node (node.Integer n)) hidden ≡ true
  knows_integer n hidden = node_is (node.Integer n) hidden

  pub knows_text : (t : List ℕ) (hidden : Bool) → knows hosts columns (expr.Node (node.Text t)) hidden ≡ true
  knows_text t hidden = node_is (node.Text t) hidden

  pub knows_truth : (b : Bool) (hidden : Bool) → knows hosts columns (expr.Node (node.Bool b)) hidden ≡ true
  knows_truth b hidden = node_is (node.Bool b) hidden

  pub knows_null : (hidden : Bool) → knows hosts columns (expr.Node node.Null) hidden ≡ true
  knows_null hidden = node_is node.Null hidden

  pub knows_name : (x : List ℕ) (hidden : Bool) → knows hosts columns (expr.Node (node.Name x)) hidden ≡ true
  knows_name x hidden = node_is (node.Name x) hidden

  pub knows_member : (a : Expr) (c : List ℕ) (hidden : Bool)
      → knows hosts columns (expr.Node (node.Member a c)) hidden ≡ (knows hosts columns a hidden && (hidden || not (is_row (out-Expr a)) || has_column columns c))
  knows_member a c hidden = node_is (node.Member a c) hidden

  pub knows_unary : (op : Unary) (a : Expr) (hidden : Bool) → knows hosts columns (expr.Node (node.Unary op a)) hidden ≡ knows hosts columns a hidden
  knows_unary op a hidden = node_is (node.Unary op a) hidden

  pub knows_binary : (op : Binary) (a b : Expr) (hidden : Bool)
      → knows hosts columns (expr.Node (node.Binary op a b)) hidden ≡ (knows hosts columns a hidden && knows hosts columns b hidden)
  knows_binary op a b hidden = node_is (node.Binary op a b) hidden

  pub knows_and : (a b : Expr) (hidden : Bool) → knows hosts columns (expr.Node (node.And a b)) hidden ≡ (knows hosts columns a hidden && knows hosts columns b hidden)
  knows_and a b hidden = node_is (node.And a b) hidden

  pub knows_or : (a b : Expr) (hidden : Bool) → knows hosts columns (expr.Node (node.Or a b)) hidden ≡ (knows hosts columns a hidden && knows hosts columns b hidden)
  knows_or a b hidden = node_is (node.Or a b) hidden

  pub knows_coalesce : (a b : Expr) (hidden : Bool) → knows hosts columns (expr.Node (node.Coalesce a b)) hidden ≡ (knows hosts columns a hidden && knows hosts columns b hidden)
  knows_coalesce a b hidden = node_is (node.Coalesce a b) hidden

  pub knows_conditional : (c a b : Expr) (hidden : Bool)
      → knows hosts columns (expr.Node (node.Conditional c a b)) hidden ≡ (knows hosts columns c hidden && knows hosts columns a hidden && knows hosts columns b hidden)
  knows_conditional c a b hidden = node_is (node.Conditional c a b) hidden

  pub knows_host : (p : List ℕ) (a : Expr) (cs : Picked) (hidden : Bool) → knows hosts columns (expr.Node (node.Host p a cs)) hidden
      ≡ (is_predicate hosts p && knows hosts columns a hidden && (hidden || not (is_row (out-Expr a)) || has_columns columns cs))
  knows_host p a cs hidden = node_is (node.Host p a cs) hidden

  -- ---- lists of parts, which the layer holds beside what is known of them

  abbrev fields_in : Expr-F ExprKnowing → List (Field ExprKnowing)
  fields_in (Expr-F.Node (node.New fs)) = fs
  fields_in layer = []

  fields_knowing : (fs : List (Field Expr)) (hidden : Bool)
      → list_all (λ field. field.value.1 hidden) (fields_in (layer_knowing (Expr-F.Node (node.New fs)))) ≡ list_all (λ field. knows hosts columns field.value hidden) fs
  fields_knowing [] hidden = refl
  fields_knowing (f ∷ fs) hidden = ap (λ (b : Bool). knows hosts columns f.value hidden && b) (fields_knowing fs hidden)

  pub knows_new : (fs : List (Field Expr)) (hidden : Bool)
      → knows hosts columns (expr.Node (node.New fs)) hidden ≡ list_all (λ field. knows hosts columns field.value hidden) fs
  knows_new fs hidden = node_is (node.New fs) hidden ∙ fields_knowing fs hidden

  abbrev asked_in : Expr-F ExprKnowing → List ExprKnowing
  asked_in (Expr-F.Node (node.HostOther p xs)) = xs
  asked_in layer = []

  asked_knowing : (p : List ℕ) (xs : List Expr) (hidden : Bool)
      → list_all (λ x. knowing x hidden) (asked_in (layer_knowing (Expr-F.Node (node.HostOther p xs)))) ≡ list_all (λ x. knows hosts columns x hidden) xs
  asked_knowing p [] hidden = refl
  asked_knowing p (x ∷ xs) hidden = ap (λ (b : Bool). knows hosts columns x hidden && b) (asked_knowing p xs hidden)

  pub knows_other : (p : List ℕ) (xs : List Expr) (hidden : Bool)
      → knows hosts columns (expr.Node (node.HostOther p xs)) hidden ≡ (is_predicate hosts p && list_all (λ x. knows hosts columns x hidden) xs)
  knows_other p xs hidden = node_is (node.HostOther p xs) hidden ∙ ap (λ (b : Bool). is_predicate hosts p && b) (asked_knowing p xs hidden)

  abbrev arguments_in : Expr-F ExprKnowing → List (Argument ExprKnowing)
  arguments_in (Expr-F.Node (node.Method a m xs)) = xs
  arguments_in layer = []

  arguments_knowing : (a : Expr) (m : List ℕ) (xs : List (Argument Expr)) (hidden : Bool)
      → list_all (argument_knows knowing hidden) (arguments_in (layer_knowing (Expr-F.Node (node.Method a m xs)))) ≡ list_all (argument_knows (knows hosts columns) hidden) xs
  arguments_knowing a m [] hidden = refl
  arguments_knowing a m (argument.Value x ∷ xs) hidden = ap (λ (b : Bool). knows hosts columns x hidden && b) (arguments_knowing a m xs hidden)
  arguments_knowing a m (argument.Lambda y x ∷ xs) hidden = ap (λ (b : Bool). knows hosts columns x (is_hidden_by y hidden) && b) (arguments_knowing a m xs hidden)

  pub knows_method : (a : Expr) (m : List ℕ) (xs : List (Argument Expr)) (hidden : Bool)
      → knows hosts columns (expr.Node (node.Method a m xs)) hidden ≡ (knows hosts columns a hidden && list_all (argument_knows (knows hosts columns) hidden) xs)
  knows_method a m xs hidden = node_is (node.Method a m xs) hidden ∙ ap (λ (b : Bool). knows hosts columns a hidden && b) (arguments_knowing a m xs hidden)

  -- ---- queries

  abbrev null : Expr
  null = expr.Node node.Null

  abbrev query_with : List (Clause Expr) → Last Expr → List (Continuation Expr) → Query Expr
  query_with cs l ks = record { name = []; source = null; body = record { clauses = cs; last = l }; rest = ks }

  abbrev next_with : List (Clause Expr) → Last Expr → Continuation Expr
  next_with cs l = record { name = []; body = record { clauses = cs; last = l } }

  -- the parts of a query that a layer is, and the first of a list; where there is none any will do
  abbrev no_query : Query ExprKnowing
  no_query = record { name = []; source = beside null; body = record { clauses = []; last = last.Select (beside null) }; rest = [] }

  abbrev query_in : Expr-F ExprKnowing → Query ExprKnowing
  query_in (Expr-F.Query q) = q
  query_in (Expr-F.Node n) = no_query

  abbrev first_clause : List (Clause ExprKnowing) → Clause ExprKnowing
  first_clause [] = clause.Where (beside null)
  first_clause (c ∷ cs) = c

  abbrev first_next : List (Continuation ExprKnowing) → Continuation ExprKnowing
  first_next [] = record { name = []; body = no_query.body }
  first_next (k ∷ ks) = k

  abbrev query_knowing : Query Expr → Query ExprKnowing
  query_knowing q = query_in (layer_knowing (Expr-F.Query q))

  -- a clause and the end of a query's own body, and those of a continuation, with what is known of their expressions
  abbrev clause_knowing : Clause Expr → Clause ExprKnowing
  clause_knowing c = first_clause (query_knowing (query_with (c ∷ []) (last.Select null) [])).body.clauses

  abbrev last_knowing : Last Expr → Last ExprKnowing
  last_knowing l = (query_knowing (query_with [] l [])).body.last

  abbrev next_knowing : Continuation Expr → Continuation ExprKnowing
  next_knowing k = first_next (query_knowing (query_with [] (last.Select null) (k ∷ []))).rest

  abbrev next_clause_knowing : Clause Expr → Clause ExprKnowing
  next_clause_knowing c = first_clause (next_knowing (next_with (c ∷ []) (last.Select null))).body.clauses

  abbrev next_last_knowing : Last Expr → Last ExprKnowing
  next_last_knowing l = (next_knowing (next_with [] l)).body.last

  abbrev keys_in : Clause ExprKnowing → List (SortKey ExprKnowing)
  keys_in (clause.OrderBy ks) = ks
  keys_in c = []

  keys_same : (ks : List (SortKey Expr)) (hidden : Bool)
      → list_all (λ key. key.value.1 hidden) (keys_in (clause_knowing (clause.OrderBy ks))) ≡ list_all (λ key. knows hosts columns key.value hidden) ks
  keys_same [] hidden = refl
  keys_same (k ∷ ks) hidden = ap (λ (b : Bool). knows hosts columns k.value hidden && b) (keys_same ks hidden)

  next_keys_same : (ks : List (SortKey Expr)) (hidden : Bool)
      → list_all (λ key. key.value.1 hidden) (keys_in (next_clause_knowing (clause.OrderBy ks))) ≡ list_all (λ key. knows hosts columns key.value hidden) ks
  next_keys_same [] hidden = refl
  next_keys_same (k ∷ ks) hidden = ap (λ (b : Bool). knows hosts columns k.value hidden && b) (next_keys_same ks hidden)

  clause_same : (outer hidden : Bool) (c : Clause Expr) → clause_knows knowing outer hidden (clause_knowing c) ≡ clause_knows (knows hosts columns) outer hidden c
  clause_same outer hidden (clause.From x e) = refl
  clause_same outer hidden (clause.Let x e) = refl
  clause_same outer hidden (clause.Where e) = refl
  clause_same outer hidden (clause.Join j) = refl
  clause_same outer hidden (clause.OrderBy ks) = keys_same ks hidden

  next_clause_same : (outer hidden : Bool) (c : Clause Expr) → clause_knows knowing outer hidden (next_clause_knowing c) ≡ clause_knows (knows hosts columns) outer hidden c
  next_clause_same outer hidden (clause.From x e) = refl
  next_clause_same outer hidden (clause.Let x e) = refl
  next_clause_same outer hidden (clause.Where e) = refl
  next_clause_same outer hidden (clause.Join j) = refl
  next_clause_same outer hidden (clause.OrderBy ks) = next_keys_same ks hidden

  hidden_same : (hidden : Bool) (c : Clause Expr) → is_hidden_after hidden (clause_knowing c) ≡ is_hidden_after hidden c
  hidden_same hidden (clause.From x e) = refl
  hidden_same hidden (clause.Let x e) = refl
  hidden_same hidden (clause.Where e) = refl
  hidden_same hidden (clause.Join j) = refl
  hidden_same hidden (clause.OrderBy ks) = refl

  next_hidden_same : (hidden : Bool) (c : Clause Expr) → is_hidden_after hidden (next_clause_knowing c) ≡ is_hidden_after hidden c
  next_hidden_same hidden (clause.From x e) = refl
  next_hidden_same hidden (clause.Let x e) = refl
  next_hidden_same hidden (clause.Where e) = refl
  next_hidden_same hidden (clause.Join j) = refl
  next_hidden_same hidden (clause.OrderBy ks) = refl

  last_same : (hidden : Bool) (l : Last Expr) → last_knows knowing hidden (last_knowing l) ≡ last_knows (knows hosts columns) hidden l
  last_same hidden (last.Select v) = refl
  last_same hidden (last.Group v key) = refl

  next_last_same : (hidden : Bool) (l : Last Expr) → last_knows knowing hidden (next_last_knowing l) ≡ last_knows (knows hosts columns) hidden l
  next_last_same hidden (last.Select v) = refl
  next_last_same hidden (last.Group v key) = refl

  -- clauses of which something is known one by one
  clauses_same : (with_knowing : Clause Expr → Clause ExprKnowing) → ((outer hidden : Bool) (c : Clause Expr) → clause_knows knowing outer hidden (with_knowing c) ≡ clause_knows (knows hosts columns) outer hidden c)
      → ((hidden : Bool) (c : Clause Expr) → is_hidden_after hidden (with_knowing c) ≡ is_hidden_after hidden c)
      → (end : Last ExprKnowing) (l : Last Expr) → ((hidden : Bool) → last_knows knowing hidden end ≡ last_knows (knows hosts columns) hidden l)
      → (outer hidden : Bool) (cs : List (Clause Expr)) → clauses_know knowing outer hidden (map with_knowing cs) end ≡ clauses_know (knows hosts columns) outer hidden cs l
  clauses_same with_knowing same hides end l ends outer hidden [] = ends hidden
  clauses_same with_knowing same hides end l ends outer hidden (c ∷ cs) =
      ap₂ (λ (a b : Bool). a && b) (same outer hidden c)
      (ap (λ (h : Bool). clauses_know knowing outer h (map with_knowing cs) end) (hides hidden c)
      ∙ clauses_same with_knowing same hides end l ends outer (is_hidden_after hidden c) cs)

  body_same : (outer hidden : Bool) (cs : List (Clause Expr)) (l : Last Expr)
      → clauses_know knowing outer hidden (map clause_knowing cs) (last_knowing l) ≡ clauses_know (knows hosts columns) outer hidden cs l
  body_same outer hidden cs l = clauses_same clause_knowing clause_same hidden_same (last_knowing l) l (λ h. last_same h l) outer hidden cs

  next_same : (outer : Bool) (k : Continuation Expr) → continuation_knows knowing outer (next_knowing k) ≡ continuation_knows (knows hosts columns) outer k
  next_same outer k =
      clauses_same next_clause_knowing next_clause_same next_hidden_same (next_last_knowing k.body.last) k.body.last (λ h. next_last_same h k.body.last) outer
      (is_hidden_by k.name outer) k.body.clauses

  rest_same : (outer : Bool) (ks : List (Continuation Expr)) → list_all (continuation_knows knowing outer) (map next_knowing ks) ≡ list_all (continuation_knows (knows hosts columns) outer) ks
  rest_same outer [] = refl
  rest_same outer (k ∷ ks) = ap₂ (λ (a b : Bool). a && b) (next_same outer k) (rest_same outer ks)

  pub knows_query : (q : Query Expr) (hidden : Bool) → knows hosts columns (expr.Query q) hidden ≡ query_knows (knows hosts columns) hidden q
  knows_query q hidden =
      query_is q hidden
      ∙ ap₂ (λ (a b : Bool). knows hosts columns q.source hidden && a && b) (body_same hidden (is_hidden_by q.name hidden) q.body.clauses q.body.last) (rest_same hidden q.rest)

pub ruleset forms = (knows_integer, knows_text, knows_truth, knows_null, knows_name, knows_member, knows_unary, knows_binary, knows_and, knows_or, knows_coalesce, knows_conditional, knows_host, knows_other, knows_new, knows_method, knows_query)
