-- The layers of expressions: what a fold gives to a node and to a query, by the maps of `Maps`. The formers are those that the type of
-- the trees gives, by the place of a part in it.
use Rattle.std.proofs.Common.{◌≡◌, List, map, ap, ◌∙◌, sym, refl, subst}
use Rattle.lq_grammar.specs.declared.syntax.Argument.{Argument}
use Rattle.lq_grammar.specs.declared.syntax.Argument.TheVariants as argument
use Rattle.lq_grammar.specs.declared.syntax.Body.{Body}
use Rattle.lq_grammar.specs.declared.syntax.Clause.{Clause}
use Rattle.lq_grammar.specs.declared.syntax.Clause.TheVariants as clause
use Rattle.lq_grammar.specs.declared.syntax.Continuation.{Continuation}
use Rattle.lq_grammar.specs.declared.syntax.Expr.{Expr, fold-Expr, fold_out-Expr, ind-Expr, map-Expr, para-Expr, para-roll-Expr, roll-Expr}
use Rattle.lq_grammar.specs.declared.syntax.Expr.TheOpen.{Expr-F}
use Rattle.lq_grammar.specs.declared.syntax.Expr.TheShapes as shapes
use Rattle.lq_grammar.specs.declared.syntax.Expr.TheVariants as expr
use Rattle.lq_grammar.specs.declared.syntax.Expr.TheVariants.{outs-Node, outs-Query, rolls-Node, rolls-Query}
use Rattle.lq_grammar.specs.declared.syntax.Last.{Last}
use Rattle.lq_grammar.specs.declared.syntax.Last.TheVariants as last
use Rattle.lq_grammar.specs.declared.syntax.Node.{Node}
use Rattle.lq_grammar.specs.declared.syntax.Node.TheVariants as node
use Rattle.lq_grammar.specs.declared.syntax.Query.{Query}
use Rattle.lq_language.specs.Maps.{map_argument, map_body, map_clause, map_last, map_next, map_node, map_query}

pub map_ext : {A B : Type 0} (f g : A → B) → ((x : A) → f x ≡ g x) → (xs : List A) → map f xs ≡ map g xs
map_ext f g h xs = ap (λ k. map k xs) (λ i x. h x i)

module _ {X Y : Type 0} (f : X → Y) where
  -- ---- expressions

  at_argument : (a : Argument X) → shapes.former-Expr-Node-0-at-50.map X Y f a ≡ map_argument f a
  at_argument (argument.Value x) = refl
  at_argument (argument.Lambda n x) = refl

  at_node : (n : Node X) → shapes.former-Expr-Node-0.map X Y f n ≡ map_node f n
  at_node (node.Integer n) = refl
  at_node (node.Text t) = refl
  at_node (node.Bool b) = refl
  at_node node.Null = refl
  at_node (node.Name n) = refl
  at_node (node.Member x m) = refl
  at_node (node.Unary op x) = refl
  at_node (node.Binary op x y) = refl
  at_node (node.And x y) = refl
  at_node (node.Or x y) = refl
  at_node (node.Coalesce x y) = refl
  at_node (node.Conditional c x y) = refl
  at_node (node.Host p x columns) = refl
  at_node (node.HostOther p xs) = refl
  at_node (node.New fields) = refl
  at_node (node.Method x m xs) = ap (node.Method (f x) m) (map_ext (shapes.former-Expr-Node-0-at-50.map X Y f) (map_argument f) at_argument xs)

  at_clause : (c : Clause X) → shapes.former-Expr-Query-0-at-17.map X Y f c ≡ map_clause f c
  at_clause (clause.From n x) = refl
  at_clause (clause.Let n x) = refl
  at_clause (clause.Where x) = refl
  at_clause (clause.Join j) = refl
  at_clause (clause.OrderBy ks) = refl

  at_last : (l : Last X) → shapes.former-Expr-Query-0-at-22.map X Y f l ≡ map_last f l
  at_last (last.Select x) = refl
  at_last (last.Group x key) = refl

  at_body : (body : Body X) → shapes.former-Expr-Query-0-at-23.map X Y f body ≡ map_body f body
  at_body body = λ i. record { clauses = map_ext (shapes.former-Expr-Query-0-at-17.map X Y f) (map_clause f) at_clause body.clauses i; last = at_last body.last i }

  at_next_clause : (c : Clause X) → shapes.former-Expr-Query-0-at-40.map X Y f c ≡ map_clause f c
  at_next_clause (clause.From n x) = refl
  at_next_clause (clause.Let n x) = refl
  at_next_clause (clause.Where x) = refl
  at_next_clause (clause.Join j) = refl
  at_next_clause (clause.OrderBy ks) = refl

  at_next_last : (l : Last X) → shapes.former-Expr-Query-0-at-45.map X Y f l ≡ map_last f l
  at_next_last (last.Select x) = refl
  at_next_last (last.Group x key) = refl

  at_next : (next : Continuation X) → shapes.former-Expr-Query-0-at-47.map X Y f next ≡ map_next f next
  at_next next = λ i. record {
    name = next.name;
    body = record {
      clauses = map_ext (shapes.former-Expr-Query-0-at-40.map X Y f) (map_clause f) at_next_clause next.body.clauses i;
      last = at_next_last next.body.last i;
    };
  }

  at_query : (q : Query X) → shapes.former-Expr-Query-0.map X Y f q ≡ map_query f q
  at_query q = λ i. record {
    name = q.name;
    source = f q.source;
    body = at_body q.body i;
    rest = map_ext (shapes.former-Expr-Query-0-at-47.map X Y f) (map_next f) at_next q.rest i;
  }

-- ---- folds

module _ (A : Type 0) (step : Expr-F A → A) where
  pub fold_node : (n : Node Expr) → fold-Expr A step (expr.Node n) ≡ step (Expr-F.Node (map_node (fold-Expr A step) n))
  fold_node n =
      fold_out-Expr A step (expr.Node n) ∙ ap (λ (layer : Expr-F Expr). step (map-Expr Expr A (fold-Expr A step) layer)) (outs-Node n)
      ∙ ap (λ (m : Node A). step (Expr-F.Node m)) (at_node (fold-Expr A step) n)

  pub fold_query : (q : Query Expr) → fold-Expr A step (expr.Query q) ≡ step (Expr-F.Query (map_query (fold-Expr A step) q))
  fold_query q =
      fold_out-Expr A step (expr.Query q) ∙ ap (λ (layer : Expr-F Expr). step (map-Expr Expr A (fold-Expr A step) layer)) (outs-Query q)
      ∙ ap (λ (r : Query A). step (Expr-F.Query r)) (at_query (fold-Expr A step) q)

module _ (A : Type 0) (step : Expr-F (Expr × A) → A) where
  abbrev beside : Expr → Expr × A
  beside e = (e, para-Expr A step e)

  pub para_node : (n : Node Expr) → para-Expr A step (expr.Node n) ≡ step (Expr-F.Node (map_node beside n))
  para_node n =
      ap (para-Expr A step) (sym (rolls-Node n)) ∙ para-roll-Expr A step (Expr-F.Node n) ∙ ap (λ (m : Node (Expr × A)). step (Expr-F.Node m)) (at_node beside n)

  pub para_query : (q : Query Expr) → para-Expr A step (expr.Query q) ≡ step (Expr-F.Query (map_query beside q))
  para_query q =
      ap (para-Expr A step) (sym (rolls-Query q)) ∙ para-roll-Expr A step (Expr-F.Query q) ∙ ap (λ (r : Query (Expr × A)). step (Expr-F.Query r)) (at_query beside q)

-- ---- induction

-- an expression with what holds of it
abbrev pub With : (Expr → Type 0) → Type 0
With P = (e : Expr) × P e

abbrev pub base : {P : Expr → Type 0} → With P → Expr
base z = z.0

module _ (P : Expr → Type 0) (of_node : (n : Node (With P)) → P (expr.Node (map_node (base {P = P}) n)))
    (of_query : (q : Query (With P)) → P (expr.Query (map_query (base {P = P}) q))) where
  of_layer : (y : Expr-F (With P)) → P (roll-Expr (map-Expr (With P) Expr (base {P = P}) y))
  of_layer (Expr-F.Node n) =
      subst (λ (m : Node Expr). P (roll-Expr (Expr-F.Node m))) (sym (at_node (base {P = P}) n)) (subst P (sym (rolls-Node (map_node (base {P = P}) n))) (of_node n))
  of_layer (Expr-F.Query q) =
      subst (λ (r : Query Expr). P (roll-Expr (Expr-F.Query r))) (sym (at_query (base {P = P}) q)) (subst P (sym (rolls-Query (map_query (base {P = P}) q))) (of_query q))

  -- what holds of a node and of a query where it holds of all in them holds of every expression
  pub of_every : (e : Expr) → P e
  of_every e = ind-Expr P (λ x y h. subst (λ (d : Expr-F Expr). P (roll-Expr d)) h (of_layer y)) e
