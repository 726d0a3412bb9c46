-- The layers of terms: what a fold gives to a node and to calls, by the maps of `Maps`, and the induction on terms. The formers are those
-- that the types of the trees give, by the place of a part in them.
use Rattle.std.proofs.Common.{◌≡◌, Some, None, ap, ◌∙◌, sym, refl, subst}
use Rattle.lq_language.specs.declared.calls.Call.{Call}
use Rattle.lq_language.specs.declared.calls.Operator.{Operator}
use Rattle.lq_language.specs.declared.calls.Operator.TheVariants as operator
use Rattle.lq_language.specs.declared.calls.Paired.TheVariants as paired
use Rattle.lq_language.specs.declared.calls.Part.{Part}
use Rattle.lq_language.specs.declared.calls.Term.{Term, fold-Term, fold_out-Term, ind-Term, map-Term, para-Term, para-roll-Term, roll-Term}
use Rattle.lq_language.specs.declared.calls.Term.TheOpen.{Term-F}
use Rattle.lq_language.specs.declared.calls.Term.TheShapes as calls
use Rattle.lq_language.specs.declared.calls.Term.TheVariants as term
use Rattle.lq_language.specs.declared.calls.Term.TheVariants.{outs-Call, outs-Node, rolls-Call, rolls-Node}
use Rattle.lq_language.proofs.LayerLaws.{map_ext}
use Rattle.lq_grammar.specs.declared.syntax.Argument.{Argument}
use Rattle.lq_grammar.specs.declared.syntax.Argument.TheVariants as argument
use Rattle.lq_grammar.specs.declared.syntax.Node.{Node}
use Rattle.lq_grammar.specs.declared.syntax.Node.TheVariants as node
use Rattle.lq_translate.specs.Maps.{map_argument, map_call, map_node, map_operator, map_part}

module _ {X Y : Type 0} (f : X → Y) where
  at_term_argument : (a : Argument X) → calls.former-Term-Node-0-at-50.map X Y f a ≡ map_argument f a
  at_term_argument (argument.Value x) = refl
  at_term_argument (argument.Lambda n x) = refl

  at_term_node : (n : Node X) → calls.former-Term-Node-0.map X Y f n ≡ map_node f n
  at_term_node (node.Integer n) = refl
  at_term_node (node.Text t) = refl
  at_term_node (node.Bool b) = refl
  at_term_node node.Null = refl
  at_term_node (node.Name n) = refl
  at_term_node (node.Member x m) = refl
  at_term_node (node.Unary op x) = refl
  at_term_node (node.Binary op x y) = refl
  at_term_node (node.And x y) = refl
  at_term_node (node.Or x y) = refl
  at_term_node (node.Coalesce x y) = refl
  at_term_node (node.Conditional c x y) = refl
  at_term_node (node.Host p x columns) = refl
  at_term_node (node.HostOther p xs) = refl
  at_term_node (node.New fields) = refl
  at_term_node (node.Method x m xs) = ap (node.Method (f x) m) (map_ext (calls.former-Term-Node-0-at-50.map X Y f) (map_argument f) at_term_argument xs)

  at_operator : (op : Operator X) → calls.former-Term-Call-0-at-25.map X Y f op ≡ map_operator f op
  at_operator (operator.Where x) = refl
  at_operator (operator.Select x) = refl
  at_operator (operator.Let n x) = refl
  at_operator (operator.SelectMany n x paired.Pair) = refl
  at_operator (operator.SelectMany n x (paired.Value y)) = refl
  at_operator (operator.Join j paired.Pair) = refl
  at_operator (operator.Join j (paired.Value y)) = refl
  at_operator (operator.OrderBy ks) = refl
  at_operator (operator.GroupBy key None) = refl
  at_operator (operator.GroupBy key (Some x)) = refl

  at_part_operator : (op : Operator X) → calls.former-Term-Call-0-at-51.map X Y f op ≡ map_operator f op
  at_part_operator (operator.Where x) = refl
  at_part_operator (operator.Select x) = refl
  at_part_operator (operator.Let n x) = refl
  at_part_operator (operator.SelectMany n x paired.Pair) = refl
  at_part_operator (operator.SelectMany n x (paired.Value y)) = refl
  at_part_operator (operator.Join j paired.Pair) = refl
  at_part_operator (operator.Join j (paired.Value y)) = refl
  at_part_operator (operator.OrderBy ks) = refl
  at_part_operator (operator.GroupBy key None) = refl
  at_part_operator (operator.GroupBy key (Some x)) = refl

  at_part : (part : Part X) → calls.former-Term-Call-0-at-53.map X Y f part ≡ map_part f part
  at_part part = λ i. record { name = part.name; operators = map_ext (calls.former-Term-Call-0-at-51.map X Y f) (map_operator f) at_part_operator part.operators i }

  at_call : (c : Call X) → calls.former-Term-Call-0.map X Y f c ≡ map_call f c
  at_call c = λ i. record {
    name = c.name;
    source = f c.source;
    operators = map_ext (calls.former-Term-Call-0-at-25.map X Y f) (map_operator f) at_operator c.operators i;
    rest = map_ext (calls.former-Term-Call-0-at-53.map X Y f) (map_part f) at_part c.rest i;
  }

-- ---- folds

module _ (A : Type 0) (step : Term-F A → A) where
  pub fold_term_node : (n : Node Term) → fold-Term A step (term.Node n) ≡ step (Term-F.Node (map_node (fold-Term A step) n))
  fold_term_node n =
      fold_out-Term A step (term.Node n) ∙ ap (λ (layer : Term-F Term). step (map-Term Term A (fold-Term A step) layer)) (outs-Node n)
      ∙ ap (λ (m : Node A). step (Term-F.Node m)) (at_term_node (fold-Term A step) n)

  pub fold_call : (c : Call Term) → fold-Term A step (term.Call c) ≡ step (Term-F.Call (map_call (fold-Term A step) c))
  fold_call c =
      fold_out-Term A step (term.Call c) ∙ ap (λ (layer : Term-F Term). step (map-Term Term A (fold-Term A step) layer)) (outs-Call c)
      ∙ ap (λ (d : Call A). step (Term-F.Call d)) (at_call (fold-Term A step) c)

module _ (A : Type 0) (step : Term-F (Term × A) → A) where
  abbrev beside_term : Term → Term × A
  beside_term t = (t, para-Term A step t)

  pub para_term_node : (n : Node Term) → para-Term A step (term.Node n) ≡ step (Term-F.Node (map_node beside_term n))
  para_term_node n =
      ap (para-Term A step) (sym (rolls-Node n)) ∙ para-roll-Term A step (Term-F.Node n) ∙ ap (λ (m : Node (Term × A)). step (Term-F.Node m)) (at_term_node beside_term n)

  pub para_call : (c : Call Term) → para-Term A step (term.Call c) ≡ step (Term-F.Call (map_call beside_term c))
  para_call c =
      ap (para-Term A step) (sym (rolls-Call c)) ∙ para-roll-Term A step (Term-F.Call c) ∙ ap (λ (d : Call (Term × A)). step (Term-F.Call d)) (at_call beside_term c)

-- ---- induction

-- a term with what holds of it
abbrev pub Such : (Term → Type 0) → Type 0
Such P = (t : Term) × P t

abbrev pub plain : {P : Term → Type 0} → Such P → Term
plain z = z.0

module _ (P : Term → Type 0) (of_node : (n : Node (Such P)) → P (term.Node (map_node (plain {P = P}) n)))
    (of_call : (c : Call (Such P)) → P (term.Call (map_call (plain {P = P}) c))) where
  of_layer : (y : Term-F (Such P)) → P (roll-Term (map-Term (Such P) Term (plain {P = P}) y))
  of_layer (Term-F.Node n) =
      subst (λ (m : Node Term). P (roll-Term (Term-F.Node m))) (sym (at_term_node (plain {P = P}) n))
      (subst P (sym (rolls-Node (map_node (plain {P = P}) n))) (of_node n))
  of_layer (Term-F.Call c) =
      subst (λ (d : Call Term). P (roll-Term (Term-F.Call d))) (sym (at_call (plain {P = P}) c)) (subst P (sym (rolls-Call (map_call (plain {P = P}) c)))
      (of_call c))

  pub of_every : (t : Term) → P t
  of_every t = ind-Term P (λ x y h. subst (λ (d : Term-F Term). P (roll-Term d)) h (of_layer y)) t
