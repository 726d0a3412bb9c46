-- What the forms of total expressions ask of their parts.
use Rattle.std.proofs.Common.{◌≡◌, ◌&&◌, Bool, true, false, ap, ◌∙◌, sym, refl, subst, true≢false}
use Rattle.std.proofs.lemmas.Bool.{and_parts, and_from}
use Rattle.lq_security.specs.Totality.{Strength, is_divisor, is_sure, is_total, strength_of}
use Rattle.lq_grammar.specs.declared.syntax.Expr.{Expr, ind-Expr, map-Expr, out-Expr, roll-Expr}
use Rattle.lq_grammar.specs.declared.syntax.Expr.TheOpen.{Expr-F}
use Rattle.lq_grammar.specs.declared.syntax.Expr.TheVariants as expr
use Rattle.lq_grammar.specs.declared.syntax.Expr.TheVariants.{rolls-Node, rolls-Query}
use Rattle.lq_grammar.specs.declared.syntax.Node.{Node}
use Rattle.lq_grammar.specs.declared.syntax.Node.TheVariants as node
use Rattle.lq_grammar.specs.declared.syntax.Unary.TheVariants as unary
use Rattle.lq_security.proofs.TotalityLaws.{node_with, strength_and, strength_binary, strength_coalesce, strength_conditional, strength_host, strength_other, strength_integer, strength_member, strength_method, strength_minus, strength_name, strength_new, strength_not, strength_null, strength_or, strength_query, strength_text, strength_truth}

-- ---- what is sure is total

total_by : {e : Expr} (n : Node Expr) (s : Strength) → e ≡ expr.Node n → strength_of (expr.Node n) ≡ s → s.total ≡ true → is_total e ≡ true
total_by n s is strength h = ap is_total is ∙ ap (λ (t : Strength). t.total) strength ∙ h

-- a literal by which an expression of a rule is divided is total
pub divisor_total : (e : Expr) → is_divisor (out-Expr e) ≡ true → is_total e ≡ true
divisor_total e h = by (out-Expr e) refl h where
  by : (layer : Expr-F Expr) → out-Expr e ≡ layer → is_divisor layer ≡ true → is_total e ≡ true
  by (Expr-F.Node (node.Integer n)) is h = total_by (node.Integer n) _ (node_with e (node.Integer n) is) (strength_integer n) refl
  by layer is h = absurd (true≢false (sym h))

abbrev IsTotalIfSure : Expr → Type 0
IsTotalIfSure e = is_sure e ≡ true → is_total e ≡ true

-- a node by its strength
sure_by : (n : Node Expr) (s : Strength) → strength_of (expr.Node n) ≡ s → (s.sure ≡ true → s.total ≡ true) → IsTotalIfSure (roll-Expr (Expr-F.Node n))
sure_by n s is so =
    subst IsTotalIfSure (sym (rolls-Node n)) (λ h. ap (λ (t : Strength). t.total) is ∙ so (sym (ap (λ (t : Strength). t.sure) is) ∙ h))

sure_coalesce : (a b : Expr) → IsTotalIfSure b → IsTotalIfSure (roll-Expr (Expr-F.Node (node.Coalesce a b)))
sure_coalesce a b right =
    sure_by (node.Coalesce a b) _ (strength_coalesce a b)
    (λ h. let parts = and_parts (is_total a) (is_sure b) h in and_from (is_total a) (is_total b) parts.0 (right parts.1))

sure_conditional : (c a b : Expr) → IsTotalIfSure a → IsTotalIfSure b → IsTotalIfSure (roll-Expr (Expr-F.Node (node.Conditional c a b)))
sure_conditional c a b left right =
    sure_by (node.Conditional c a b) _ (strength_conditional c a b)
    (λ h. let outer = and_parts (is_total c && is_sure a) (is_sure b) h in let inner = and_parts (is_total c) (is_sure a) outer.0 in
    and_from (is_total c && is_total a) (is_total b) (and_from (is_total c) (is_total a) inner.0 (left inner.1)) (right outer.1))

-- a node that is never sure
never : (n : Node Expr) (s : Strength) → strength_of (expr.Node n) ≡ s → s.sure ≡ false → IsTotalIfSure (roll-Expr (Expr-F.Node n))
never n s is none = sure_by n s is (λ h. absurd (true≢false (sym h ∙ none)))

-- the forms that are sure, where their parts are
abbrev may_be_sure : Expr-F Expr → Bool
may_be_sure (Expr-F.Node (node.Text t)) = true
may_be_sure (Expr-F.Node (node.Name x)) = true
may_be_sure (Expr-F.Node (node.Coalesce a b)) = true
may_be_sure (Expr-F.Node (node.Conditional c a b)) = true
may_be_sure layer = false

other_form : (layer : Expr-F Expr) → may_be_sure layer ≡ false → IsTotalIfSure (roll-Expr layer)
other_form (Expr-F.Node (node.Integer n)) h = never (node.Integer n) _ (strength_integer n) refl
other_form (Expr-F.Node (node.Bool b)) h = never (node.Bool b) _ (strength_truth b) refl
other_form (Expr-F.Node node.Null) h = never node.Null _ strength_null refl
other_form (Expr-F.Node (node.Member a m)) h = never (node.Member a m) _ (strength_member a m) refl
other_form (Expr-F.Node (node.Unary unary.Not a)) h = never (node.Unary unary.Not a) _ (strength_not a) refl
other_form (Expr-F.Node (node.Unary unary.Minus a)) h = never (node.Unary unary.Minus a) _ (strength_minus a) refl
other_form (Expr-F.Node (node.Binary sign a b)) h = never (node.Binary sign a b) _ (strength_binary sign a b) refl
other_form (Expr-F.Node (node.And a b)) h = never (node.And a b) _ (strength_and a b) refl
other_form (Expr-F.Node (node.Or a b)) h = never (node.Or a b) _ (strength_or a b) refl
other_form (Expr-F.Node (node.Host p row columns)) h = never (node.Host p row columns) _ (strength_host p row columns) refl
other_form (Expr-F.Node (node.HostOther p xs)) h = never (node.HostOther p xs) _ (strength_other p xs) refl
other_form (Expr-F.Node (node.New fs)) h = never (node.New fs) _ (strength_new fs) refl
other_form (Expr-F.Node (node.Method a m xs)) h = never (node.Method a m xs) _ (strength_method a m xs) refl
other_form (Expr-F.Query q) h =
    subst IsTotalIfSure (sym (rolls-Query q)) (λ sure. absurd (true≢false (sym sure ∙ ap (λ (s : Strength). s.sure) (strength_query q))))
other_form layer h = absurd (true≢false h)

abbrev Given : Type 0
Given = (e : Expr) × IsTotalIfSure e

abbrev plain : Expr-F Given → Expr-F Expr
plain layer = map-Expr Given Expr (λ e. e.0) layer

sure_layer : (layer : Expr-F Given) → IsTotalIfSure (roll-Expr (plain layer))
sure_layer (Expr-F.Node (node.Text t)) = sure_by (node.Text t) _ (strength_text t) (λ h. refl)
sure_layer (Expr-F.Node (node.Name x)) = sure_by (node.Name x) _ (strength_name x) (λ h. h)
sure_layer (Expr-F.Node (node.Coalesce a b)) = sure_coalesce a.0 b.0 b.1
sure_layer (Expr-F.Node (node.Conditional c a b)) = sure_conditional c.0 a.0 b.0 a.1 b.1
sure_layer layer = other_form (plain layer) refl

pub sure_total : (e : Expr) → is_sure e ≡ true → is_total e ≡ true
sure_total e = ind-Expr IsTotalIfSure (λ x y is. subst (λ d. IsTotalIfSure (roll-Expr d)) is (sure_layer y)) e
