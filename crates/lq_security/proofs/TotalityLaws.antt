-- The function of `Totality` gives exactly the rules that its forms give.
use Rattle.std.proofs.Common.{◌≡◌, ◌∷◌, ◌&&◌, ◌||◌, ◌⊎◌, inl, inr, if◌then◌else◌, List, [], ℕ, suc, zero, ℤ, pos, negsuc, Bool, true, false, codes, bytes_eq, int_le, ap, ◌∙◌, sym, refl, subst, true≢false, arith}
use Rattle.std.proofs.lemmas.Bool.{and_parts, and_from, le-leb}
use Rattle.std.proofs.lemmas.Slice.Eq.{bytes_eq-Decides}
use Rattle.lq_language.specs.Members.{is_search}
use Rattle.lq_security.specs.Totality.{Claim, Holds, IsSure, IsTotal, Strength, Sure, RatedExpr, Total, is_division, is_divisor, is_natural, is_row, is_sure, is_total, strength_of, strength_step, sure_coalesce, sure_conditional, sure_text, sure_user, total_and, total_coalesce, total_column, total_comparison, total_conditional, total_division, total_has_value, total_integer, total_minus, total_not, total_null, total_or, total_search, total_text, total_truth, total_user, total_where}
use Rattle.lq_security.specs.TotalityLaws.{TellsTotal}
use Rattle.lq_language.specs.OperandTypes.{is_comparison}
use Rattle.lq_grammar.specs.declared.syntax.Argument.{Argument}
use Rattle.lq_grammar.specs.declared.syntax.Argument.TheVariants as argument
use Rattle.lq_grammar.specs.declared.syntax.Binary.{Binary}
use Rattle.lq_grammar.specs.declared.syntax.Binary.TheVariants as binary
use Rattle.lq_grammar.specs.declared.syntax.Expr.{Expr, ind-Expr, map-Expr, out-Expr, para-roll-Expr, roll-Expr}
use Rattle.lq_grammar.specs.declared.syntax.Expr.TheOpen.{Expr-F}
use Rattle.lq_grammar.specs.declared.syntax.Expr.TheVariants as expr
use Rattle.lq_grammar.specs.declared.syntax.Expr.TheVariants.{outs-Node, rolls-Node, rolls-Query}
use Rattle.lq_grammar.specs.declared.syntax.Expr.TheViews.{roll-out-Expr}
use Rattle.lq_grammar.specs.declared.syntax.Field.{Field}
use Rattle.lq_grammar.specs.declared.syntax.Node.{Node}
use Rattle.lq_grammar.specs.declared.syntax.Node.TheVariants as node
use Rattle.lq_grammar.specs.declared.syntax.Picked.{Picked}
use Rattle.lq_grammar.specs.declared.syntax.Query.{Query}
use Rattle.lq_grammar.specs.declared.syntax.Unary.TheVariants as unary
use Rattle.lq_language.proofs.MemberLaws.{either_true, search_given, search_told}

-- ---- the function, form by form

abbrev rated : Expr → RatedExpr
rated e = (e, strength_of e)

abbrev layer_strength : Expr-F Expr → Strength
layer_strength layer = strength_step (map-Expr Expr RatedExpr rated layer)

rolled_strength : (layer : Expr-F Expr) → strength_of (roll-Expr layer) ≡ layer_strength layer
unfolding strength_of
rolled_strength layer = para-roll-Expr Strength strength_step layer

node_is : (n : Node Expr) → strength_of (expr.Node n) ≡ layer_strength (Expr-F.Node n)
node_is n = ap strength_of (sym (rolls-Node n)) ∙ rolled_strength (Expr-F.Node n)

pub strength_integer : (n : ℤ) → strength_of (expr.Node (node.Integer n)) ≡ total_where true
strength_integer n = node_is (node.Integer n)

pub strength_text : (t : List ℕ) → strength_of (expr.Node (node.Text t)) ≡ record { total = true; sure = true }
strength_text t = node_is (node.Text t)

pub strength_truth : (b : Bool) → strength_of (expr.Node (node.Bool b)) ≡ total_where true
strength_truth b = node_is (node.Bool b)

pub strength_null : strength_of (expr.Node node.Null) ≡ total_where true
strength_null = node_is node.Null

pub strength_name : (x : List ℕ) → strength_of (expr.Node (node.Name x)) ≡ record { total = bytes_eq x (codes "user"); sure = bytes_eq x (codes "user") }
strength_name x = node_is (node.Name x)

pub strength_member : (a : Expr) (c : List ℕ)
    → strength_of (expr.Node (node.Member a c)) ≡ total_where (is_row (out-Expr a) || (bytes_eq c (codes "HasValue") && is_total a))
strength_member a c = node_is (node.Member a c)

pub strength_not : (a : Expr) → strength_of (expr.Node (node.Unary unary.Not a)) ≡ total_where (is_total a)
strength_not a = node_is (node.Unary unary.Not a)

pub strength_minus : (a : Expr) → strength_of (expr.Node (node.Unary unary.Minus a)) ≡ total_where (is_natural (out-Expr a))
strength_minus a = node_is (node.Unary unary.Minus a)

-- an operator that evaluates both of its operands
abbrev pub is_total_binary : Binary → Expr → Expr → Bool
is_total_binary op a b = if is_comparison op then is_total a && is_total b else is_division op && is_total a && is_divisor (out-Expr b)

pub strength_binary : (op : Binary) (a b : Expr) → strength_of (expr.Node (node.Binary op a b)) ≡ total_where (is_total_binary op a b)
strength_binary op a b = node_is (node.Binary op a b)

pub strength_and : (a b : Expr) → strength_of (expr.Node (node.And a b)) ≡ total_where (is_total a && is_total b)
strength_and a b = node_is (node.And a b)

pub strength_or : (a b : Expr) → strength_of (expr.Node (node.Or a b)) ≡ total_where (is_total a && is_total b)
strength_or a b = node_is (node.Or a b)

pub strength_coalesce : (a b : Expr)
    → strength_of (expr.Node (node.Coalesce a b)) ≡ record { total = is_total a && is_total b; sure = is_total a && is_sure b }
strength_coalesce a b = node_is (node.Coalesce a b)

pub strength_conditional : (c a b : Expr) → strength_of (expr.Node (node.Conditional c a b))
    ≡ record { total = is_total c && is_total a && is_total b; sure = is_total c && is_sure a && is_sure b }
strength_conditional c a b = node_is (node.Conditional c a b)

pub strength_host : (p : List ℕ) (row : Expr) (columns : Picked) → strength_of (expr.Node (node.Host p row columns)) ≡ total_where false
strength_host p row columns = node_is (node.Host p row columns)

pub strength_other : (p : List ℕ) (xs : List Expr) → strength_of (expr.Node (node.HostOther p xs)) ≡ total_where false
strength_other p xs = node_is (node.HostOther p xs)

pub strength_new : (fs : List (Field Expr)) → strength_of (expr.Node (node.New fs)) ≡ total_where false
strength_new fs = node_is (node.New fs)

-- one argument, which is sure
abbrev pub has_sure_argument : List (Argument Expr) → Bool
has_sure_argument (argument.Value a ∷ []) = is_sure a
has_sure_argument arguments = false

pub strength_method : (a : Expr) (m : List ℕ) (xs : List (Argument Expr))
    → strength_of (expr.Node (node.Method a m xs)) ≡ total_where (is_search m && is_sure a && has_sure_argument xs)
strength_method a m [] = node_is (node.Method a m [])
strength_method a m (argument.Value b ∷ []) = node_is (node.Method a m (argument.Value b ∷ []))
strength_method a m (argument.Lambda x b ∷ []) = node_is (node.Method a m (argument.Lambda x b ∷ []))
strength_method a m (argument.Value b ∷ c ∷ xs) = node_is (node.Method a m (argument.Value b ∷ c ∷ xs))
strength_method a m (argument.Lambda x b ∷ c ∷ xs) = node_is (node.Method a m (argument.Lambda x b ∷ c ∷ xs))

pub strength_query : (q : Query Expr) → strength_of (expr.Query q) ≡ total_where false
strength_query q = ap strength_of (sym (rolls-Query q)) ∙ rolled_strength (Expr-F.Query q)

-- ---- what the forms give is what the function says

is_out : {e : Expr} (n : Node Expr) → e ≡ expr.Node n → out-Expr e ≡ Expr-F.Node n
is_out n is = ap out-Expr is ∙ outs-Node n

-- what a claim says of the function
abbrev IsTold : Claim → Type 0
IsTold (Total e) = is_total e ≡ true
IsTold (Sure e) = is_sure e ≡ true

total_by : {e d : Expr} {s : Strength} → e ≡ d → strength_of d ≡ s → s.total ≡ true → is_total e ≡ true
total_by is strength holds = ap is_total is ∙ ap (λ (s : Strength). s.total) strength ∙ holds

sure_by : {e d : Expr} {s : Strength} → e ≡ d → strength_of d ≡ s → s.sure ≡ true → is_sure e ≡ true
sure_by is strength holds = ap is_sure is ∙ ap (λ (s : Strength). s.sure) strength ∙ holds

two : {a b : Bool} → a ≡ true → b ≡ true → (a && b) ≡ true
two {a} {b} first second = and_from a b first second

three : {a b c : Bool} → a ≡ true → b ≡ true → c ≡ true → (a && b && c) ≡ true
three first second third = two (two first second) third

or_first : (a b : Bool) → a ≡ true → (a || b) ≡ true
or_first true b h = refl
or_first false b h = absurd (true≢false (sym h))

or_else : (a b : Bool) → b ≡ true → (a || b) ≡ true
or_else true b h = refl
or_else false b h = h

comparison_told : (op : Binary) (a b : Expr) → is_comparison op ≡ true → is_total a ≡ true → is_total b ≡ true → is_total_binary op a b ≡ true
comparison_told op a b compares left right =
    ap (λ (c : Bool). if c then is_total a && is_total b else is_division op && is_total a && is_divisor (out-Expr b)) compares ∙ two left right

divides_alone : (op : Binary) → is_division op ≡ true → is_comparison op ≡ false
divides_alone binary.Divide h = refl
divides_alone binary.Remainder h = refl
divides_alone op h = absurd (true≢false (sym h))

division_told : (op : Binary) (a b : Expr) → is_division op ≡ true → is_total a ≡ true → is_divisor (out-Expr b) ≡ true → is_total_binary op a b ≡ true
division_told op a b divides left right =
    ap (λ (c : Bool). if c then is_total a && is_total b else is_division op && is_total a && is_divisor (out-Expr b)) (divides_alone op divides)
    ∙ three divides left right

is_told : {claim : Claim} → Holds claim → IsTold claim
is_told (total_integer _ n is) = total_by is (strength_integer n) refl
is_told (total_text _ t is) = total_by is (strength_text t) refl
is_told (total_truth _ b is) = total_by is (strength_truth b) refl
is_told (total_null _ is) = total_by is strength_null refl
is_told (total_minus _ a n is literal) = total_by is (strength_minus a) (ap is_natural (is_out (node.Integer (pos n)) literal) ∙ le-leb 0 n (omega arith))
is_told (total_column _ row c is of_row) =
    total_by is (strength_member row c) (or_first (is_row (out-Expr row)) _ (ap is_row (is_out (node.Name (codes "row")) of_row)))
is_told (total_user _ is) = total_by is (strength_name (codes "user")) refl
is_told (total_not _ a is operand) = total_by is (strength_not a) (is_told operand)
is_told (total_and _ a b is left right) = total_by is (strength_and a b) (two (is_told left) (is_told right))
is_told (total_or _ a b is left right) = total_by is (strength_or a b) (two (is_told left) (is_told right))
is_told (total_comparison _ a b op is compares left right) =
    total_by is (strength_binary op a b) (comparison_told op a b compares (is_told left) (is_told right))
is_told (total_conditional _ c a b is test left right) = total_by is (strength_conditional c a b) (three (is_told test) (is_told left) (is_told right))
is_told (total_coalesce _ a b is left right) = total_by is (strength_coalesce a b) (two (is_told left) (is_told right))
is_told (total_has_value _ a is operand) =
    total_by is (strength_member a (codes "HasValue")) (or_else (is_row (out-Expr a)) _ (two refl (is_told operand)))
is_told (total_division _ a b op n is divides left literal) =
    total_by is (strength_binary op a b)
    (division_told op a b divides (is_told left) (ap is_divisor (is_out (node.Integer (pos (suc n))) literal) ∙ le-leb 1 (suc n) (omega arith)))
is_told (total_search _ a b m is looks left right) =
    total_by is (strength_method a m (argument.Value b ∷ [])) (three (search_told looks) (is_told left) (is_told right))
is_told (sure_text _ t is) = sure_by is (strength_text t) refl
is_told (sure_user _ is) = sure_by is (strength_name (codes "user")) refl
is_told (sure_coalesce _ a b is left right) = sure_by is (strength_coalesce a b) (two (is_told left) (is_told right))
is_told (sure_conditional _ c a b is test left right) = sure_by is (strength_conditional c a b) (three (is_told test) (is_told left) (is_told right))

-- ---- what the function says is given by a form

pub node_with : (e : Expr) (n : Node Expr) → out-Expr e ≡ Expr-F.Node n → e ≡ expr.Node n
node_with e n is = sym (roll-out-Expr e) ∙ ap roll-Expr is ∙ rolls-Node n

-- an integer literal that is no less than the bound
natural_at : (n : ℤ) → int_le (pos 0) n ≡ true → (m : ℕ) × (n ≡ pos m)
natural_at (pos m) h = (m, refl)
natural_at (negsuc m) h = absurd (true≢false (sym h))

positive_at : (n : ℤ) → int_le (pos 1) n ≡ true → (m : ℕ) × (n ≡ pos (suc m))
positive_at (pos zero) h = absurd (true≢false (sym h))
positive_at (pos (suc m)) h = (m, refl)
positive_at (negsuc m) h = absurd (true≢false (sym h))

natural_literal : (e : Expr) → is_natural (out-Expr e) ≡ true → (m : ℕ) × (e ≡ expr.Node (node.Integer (pos m)))
natural_literal e h = by (out-Expr e) refl h where
  by : (layer : Expr-F Expr) → out-Expr e ≡ layer → is_natural layer ≡ true → (m : ℕ) × (e ≡ expr.Node (node.Integer (pos m)))
  by (Expr-F.Node (node.Integer n)) is h =
      let found = natural_at n h in (found.0, node_with e (node.Integer n) is ∙ ap (λ (k : ℤ). expr.Node (node.Integer k)) found.1)
  by layer is h = absurd (true≢false (sym h))

divisor_literal : (e : Expr) → is_divisor (out-Expr e) ≡ true → (m : ℕ) × (e ≡ expr.Node (node.Integer (pos (suc m))))
divisor_literal e h = by (out-Expr e) refl h where
  by : (layer : Expr-F Expr) → out-Expr e ≡ layer → is_divisor layer ≡ true → (m : ℕ) × (e ≡ expr.Node (node.Integer (pos (suc m))))
  by (Expr-F.Node (node.Integer n)) is h =
      let found = positive_at n h in (found.0, node_with e (node.Integer n) is ∙ ap (λ (k : ℤ). expr.Node (node.Integer k)) found.1)
  by layer is h = absurd (true≢false (sym h))

pub row_name : (e : Expr) → is_row (out-Expr e) ≡ true → e ≡ expr.Node (node.Name (codes "row"))
row_name e h = by (out-Expr e) refl h where
  by : (layer : Expr-F Expr) → out-Expr e ≡ layer → is_row layer ≡ true → e ≡ expr.Node (node.Name (codes "row"))
  by (Expr-F.Node (node.Name x)) is h = node_with e (node.Name x) is ∙ ap (λ (k : List ℕ). expr.Node (node.Name k)) ((bytes_eq-Decides x (codes "row")).0 h)
  by layer is h = absurd (true≢false (sym h))

abbrev IsGiven : Expr → Type 0
IsGiven e = (is_total e ≡ true → IsTotal e) × (is_sure e ≡ true → IsSure e)

-- a node by its strength
given_by : (n : Node Expr) (s : Strength) → strength_of (expr.Node n) ≡ s → (s.total ≡ true → IsTotal (expr.Node n)) → (s.sure ≡ true → IsSure (expr.Node n))
    → IsGiven (expr.Node n)
given_by n s is total sure = (λ h. total (sym (ap (λ (t : Strength). t.total) is) ∙ h), λ h. sure (sym (ap (λ (t : Strength). t.sure) is) ∙ h))

-- a node that is never sure
given_where : (n : Node Expr) (b : Bool) → strength_of (expr.Node n) ≡ total_where b → (b ≡ true → IsTotal (expr.Node n)) → IsGiven (expr.Node n)
given_where n b is total = given_by n (total_where b) is total (λ h. absurd (true≢false (sym h)))

given_name : (x : List ℕ) → IsGiven (expr.Node (node.Name x))
given_name x = given_by (node.Name x) _ (strength_name x) (λ h. total_user _ (same h)) (λ h. sure_user _ (same h)) where
  same : bytes_eq x (codes "user") ≡ true → expr.Node (node.Name x) ≡ expr.Node (node.Name (codes "user"))
  same h = ap (λ (k : List ℕ). expr.Node (node.Name k)) ((bytes_eq-Decides x (codes "user")).0 h)

given_member : (a : Expr) (c : List ℕ) → IsGiven a → IsGiven (expr.Node (node.Member a c))
given_member a c operand = given_where (node.Member a c) _ (strength_member a c) (λ h. by (either_true (is_row (out-Expr a)) _ h)) where
  by : (is_row (out-Expr a) ≡ true) ⊎ ((bytes_eq c (codes "HasValue") && is_total a) ≡ true) → IsTotal (expr.Node (node.Member a c))
  by (inl of_row) = total_column _ a c refl (row_name a of_row)
  by (inr has) =
      let parts = and_parts (bytes_eq c (codes "HasValue")) (is_total a) has in
      total_has_value _ a (ap (λ (k : List ℕ). expr.Node (node.Member a k)) ((bytes_eq-Decides c (codes "HasValue")).0 parts.0)) (operand.0 parts.1)

given_not : (a : Expr) → IsGiven a → IsGiven (expr.Node (node.Unary unary.Not a))
given_not a operand = given_where (node.Unary unary.Not a) _ (strength_not a) (λ h. total_not _ a refl (operand.0 h))

given_minus : (a : Expr) → IsGiven (expr.Node (node.Unary unary.Minus a))
given_minus a = given_where (node.Unary unary.Minus a) _ (strength_minus a) (λ h. let found = natural_literal a h in total_minus _ a found.0 refl found.1)

given_binary : (op : Binary) (a b : Expr) → IsGiven a → IsGiven b → IsGiven (expr.Node (node.Binary op a b))
given_binary op a b left right = given_where (node.Binary op a b) _ (strength_binary op a b) (λ h. by (is_comparison op) refl h) where
  by : (c : Bool) → is_comparison op ≡ c → (if c then is_total a && is_total b else is_division op && is_total a && is_divisor (out-Expr b)) ≡ true
      → IsTotal (expr.Node (node.Binary op a b))
  by true compares h = let parts = and_parts (is_total a) _ h in total_comparison _ a b op refl compares (left.0 parts.0) (right.0 parts.1)
  by false other h =
      let outer = and_parts (is_division op && is_total a) _ h in
      let inner = and_parts (is_division op) _ outer.0 in
      let divisor = divisor_literal b outer.1 in
      total_division _ a b op divisor.0 refl inner.0 (left.0 inner.1) divisor.1

given_and : (a b : Expr) → IsGiven a → IsGiven b → IsGiven (expr.Node (node.And a b))
given_and a b left right =
    given_where (node.And a b) _ (strength_and a b) (λ h. let parts = and_parts (is_total a) _ h in total_and _ a b refl (left.0 parts.0) (right.0 parts.1))

given_or : (a b : Expr) → IsGiven a → IsGiven b → IsGiven (expr.Node (node.Or a b))
given_or a b left right =
    given_where (node.Or a b) _ (strength_or a b) (λ h. let parts = and_parts (is_total a) _ h in total_or _ a b refl (left.0 parts.0) (right.0 parts.1))

given_coalesce : (a b : Expr) → IsGiven a → IsGiven b → IsGiven (expr.Node (node.Coalesce a b))
given_coalesce a b left right =
    given_by (node.Coalesce a b) _ (strength_coalesce a b)
    (λ h. let parts = and_parts (is_total a) _ h in total_coalesce _ a b refl (left.0 parts.0) (right.0 parts.1))
    (λ h. let parts = and_parts (is_total a) _ h in sure_coalesce _ a b refl (left.0 parts.0) (right.1 parts.1))

given_conditional : (c a b : Expr) → IsGiven c → IsGiven a → IsGiven b → IsGiven (expr.Node (node.Conditional c a b))
given_conditional c a b test left right =
    given_by (node.Conditional c a b) _ (strength_conditional c a b)
    (λ h. let outer = and_parts (is_total c && is_total a) _ h in let inner = and_parts (is_total c) _ outer.0 in
    total_conditional _ c a b refl (test.0 inner.0) (left.0 inner.1) (right.0 outer.1))
    (λ h. let outer = and_parts (is_total c && is_sure a) _ h in let inner = and_parts (is_total c) _ outer.0 in
    sure_conditional _ c a b refl (test.0 inner.0) (left.1 inner.1) (right.1 outer.1))

given_search : (a b : Expr) (m : List ℕ) → IsGiven a → IsGiven b → IsGiven (expr.Node (node.Method a m (argument.Value b ∷ [])))
given_search a b m left right =
    given_where (node.Method a m (argument.Value b ∷ [])) _ (strength_method a m (argument.Value b ∷ []))
    (λ h. let outer = and_parts (is_search m && is_sure a) _ h in let inner = and_parts (is_search m) _ outer.0 in
    total_search _ a b m refl (search_given m inner.0) (left.1 inner.1) (right.1 outer.1))

-- a method whose argument isn't sure, by its form
given_other : (a : Expr) (m : List ℕ) (xs : List (Argument Expr)) → has_sure_argument xs ≡ false → IsGiven (expr.Node (node.Method a m xs))
given_other a m xs none =
    given_where (node.Method a m xs) _ (strength_method a m xs)
    (λ h. absurd (true≢false (sym (and_parts (is_search m && is_sure a) _ h).1 ∙ none)))

-- a form of which the function says nothing
given_none : (layer : Expr-F Expr) → layer_strength layer ≡ total_where false → IsGiven (roll-Expr layer)
given_none layer none =
    (λ h. absurd (true≢false (sym h ∙ ap (λ (s : Strength). s.total) is)), λ h. absurd (true≢false (sym h ∙ ap (λ (s : Strength). s.sure) is)))
  where
    is : strength_of (roll-Expr layer) ≡ total_where false
    is = rolled_strength layer ∙ none

abbrev Given : Type 0
Given = (e : Expr) × IsGiven e

-- a node, as the induction has it
given_node : (x : Expr-F Expr) (n : Node Expr) → Expr-F.Node n ≡ x → IsGiven (expr.Node n) → IsGiven (roll-Expr x)
given_node x n h given = subst (λ d. IsGiven (roll-Expr d)) h (subst IsGiven (sym (rolls-Node n)) given)

given_layer : (x : Expr-F Expr) (y : Expr-F Given) → map-Expr Given Expr (λ e. e.0) y ≡ x → IsGiven (roll-Expr x)
given_layer x (Expr-F.Node (node.Integer n)) h =
    given_node x (node.Integer n) h (given_where (node.Integer n) true (strength_integer n) (λ told. total_integer _ n refl))
given_layer x (Expr-F.Node (node.Text t)) h =
    given_node x (node.Text t) h (given_by (node.Text t) _ (strength_text t) (λ told. total_text _ t refl) (λ told. sure_text _ t refl))
given_layer x (Expr-F.Node (node.Bool b)) h = given_node x (node.Bool b) h (given_where (node.Bool b) true (strength_truth b) (λ told. total_truth _ b refl))
given_layer x (Expr-F.Node node.Null) h = given_node x node.Null h (given_where node.Null true strength_null (λ told. total_null _ refl))
given_layer x (Expr-F.Node (node.Name s)) h = given_node x (node.Name s) h (given_name s)
given_layer x (Expr-F.Node (node.Member a c)) h = given_node x (node.Member a.0 c) h (given_member a.0 c a.1)
given_layer x (Expr-F.Node (node.Unary unary.Not a)) h = given_node x (node.Unary unary.Not a.0) h (given_not a.0 a.1)
given_layer x (Expr-F.Node (node.Unary unary.Minus a)) h = given_node x (node.Unary unary.Minus a.0) h (given_minus a.0)
given_layer x (Expr-F.Node (node.Binary op a b)) h = given_node x (node.Binary op a.0 b.0) h (given_binary op a.0 b.0 a.1 b.1)
given_layer x (Expr-F.Node (node.And a b)) h = given_node x (node.And a.0 b.0) h (given_and a.0 b.0 a.1 b.1)
given_layer x (Expr-F.Node (node.Or a b)) h = given_node x (node.Or a.0 b.0) h (given_or a.0 b.0 a.1 b.1)
given_layer x (Expr-F.Node (node.Coalesce a b)) h = given_node x (node.Coalesce a.0 b.0) h (given_coalesce a.0 b.0 a.1 b.1)
given_layer x (Expr-F.Node (node.Conditional c a b)) h = given_node x (node.Conditional c.0 a.0 b.0) h (given_conditional c.0 a.0 b.0 c.1 a.1 b.1)
given_layer x (Expr-F.Node (node.Host p row columns)) h =
    subst (λ d. IsGiven (roll-Expr d)) h (given_none (map-Expr Given Expr (λ e. e.0) (Expr-F.Node (node.Host p row columns))) refl)
given_layer x (Expr-F.Node (node.HostOther p xs)) h =
    subst (λ d. IsGiven (roll-Expr d)) h (given_none (map-Expr Given Expr (λ e. e.0) (Expr-F.Node (node.HostOther p xs))) refl)
given_layer x (Expr-F.Node (node.New fs)) h =
    subst (λ d. IsGiven (roll-Expr d)) h (given_none (map-Expr Given Expr (λ e. e.0) (Expr-F.Node (node.New fs))) refl)
given_layer x (Expr-F.Node (node.Method a m [])) h = given_node x (node.Method a.0 m []) h (given_other a.0 m [] refl)
given_layer x (Expr-F.Node (node.Method a m (argument.Value b ∷ []))) h =
    given_node x (node.Method a.0 m (argument.Value b.0 ∷ [])) h (given_search a.0 b.0 m a.1 b.1)
given_layer x (Expr-F.Node (node.Method a m (argument.Lambda s b ∷ []))) h =
    given_node x (node.Method a.0 m (argument.Lambda s b.0 ∷ [])) h (given_other a.0 m (argument.Lambda s b.0 ∷ []) refl)
given_layer x (Expr-F.Node (node.Method a m (argument.Value b ∷ c ∷ xs))) h = given_node x (node.Method a.0 m _) h (given_other a.0 m _ refl)
given_layer x (Expr-F.Node (node.Method a m (argument.Lambda s b ∷ c ∷ xs))) h = given_node x (node.Method a.0 m _) h (given_other a.0 m _ refl)
given_layer x (Expr-F.Query q) h = subst (λ d. IsGiven (roll-Expr d)) h (given_none (map-Expr Given Expr (λ e. e.0) (Expr-F.Query q)) refl)

pub tells_total : TellsTotal
tells_total e = ((ind-Expr IsGiven given_layer e).0, is_told)
