-- What is prepared of a form says what the form means.
use Rattle.std.proofs.Common.{◌≡◌, ◌∷◌, if◌then◌else◌, not, List, [], ℕ, Bool, true, false, Option, Some, None, Result, Ok, Err, IfSome, ap, ◌∙◌, sym, refl, subst, slice_get, length}
use Rattle.std.specs.Prelude.{option_and_then}
use Rattle.lq_value.specs.declared.scalar.Scalar.{Scalar}
use Rattle.lq_value.specs.declared.scalar.Scalar.TheVariants as scalar
use Rattle.lq_value.specs.declared.value.Fault.{Fault}
use Rattle.lq_value.specs.declared.value.Fault.TheVariants as fault
use Rattle.lq_value.specs.declared.value.Value.{Value, out-Value}
use Rattle.lq_value.specs.declared.value.Value.TheVariants as value
use Rattle.lq_grammar.specs.declared.syntax.Binary.{Binary}
use Rattle.lq_host.specs.Predicates.{Predicate}
use Rattle.lq_language.specs.Operations.{has_value, of_one, of_two, on_ok, operation_of, searched, truth, truth_of}
use Rattle.lq_language.specs.OperandMeaning.{as_value, cell_value, on_scalar, scalar_of}
use Rattle.lq_language.specs.Worlds.{World}
use Rattle.lq_language.specs.declared.operation.Op.{Op}
use Rattle.lq_language.specs.declared.operation.Op.TheVariants as op
use Rattle.lq_condition.specs.Verdicts.{IsBoth, IsCells, IsEither, IsNot, IsSearch, IsSign, IsTruth, IsTurned, IsValue, both_verdicts, cells_verdict, either_verdict, not_verdict, search_verdict, sign_verdict, truth_verdict, unless_fault, value_verdict, verdict}
use Rattle.lq_condition.specs.declared.condition.Condition.{Condition}
use Rattle.lq_condition.specs.declared.condition.Condition.TheVariants as condition
use Rattle.lq_condition.proofs.ConditionLaws.{verdict_constant, verdict_silent}
use Rattle.lq_tree.specs.FormMeaning.{Slots, cell_in, form_meaning, if_there, name_of_column, with_item}
use Rattle.lq_tree.specs.declared.tree.Form.{Form}
use Rattle.lq_tree.specs.declared.tree.Form.TheVariants as form
use Rattle.lq_plan.specs.Prepared.{Decides, IsCell, IsConstant, IsItem}
use Rattle.lq_plan.specs.Meanings.{scalar_in, truth_in}
use Rattle.lq_plan.specs.Worlds.{HaveDistinctColumns, schemas_in, world_of}
use Rattle.lq_plan.specs.declared.tables.TableRows.{TableRows}
use Rattle.lq_plan.proofs.CellLemmas.{cell_found}
use Rattle.lq_plan.proofs.FormLaws.{form_column, form_literal, form_slot, form_unary}
use Rattle.lq_plan.proofs.SlotLaws.{found_before, found_next}
use Rattle.lq_plan.proofs.TruthLaws.{truth_binary, truth_both, truth_either, truth_two}

-- where something is said, it is what is meant
abbrev pub Meets : Option Bool → Result Bool Fault → Type 0
Meets t m = IfSome t (λ b. m ≡ Ok b)

truth_found : (r : Result Bool Fault) → on_ok (truth fault.NullReference r) (truth_of fault.NullReference) ≡ r
truth_found (Ok b) = refl
truth_found (Err f) = refl

pub search_starts : (x s : Scalar) → on_ok (of_two fault.NullReference op.StartsWith x s) (truth_of fault.NullReference) ≡ searched fault.NullReference op.StartsWith x s
search_starts x s = truth_found (searched fault.NullReference op.StartsWith x s)

pub search_ends : (x s : Scalar) → on_ok (of_two fault.NullReference op.EndsWith x s) (truth_of fault.NullReference) ≡ searched fault.NullReference op.EndsWith x s
search_ends x s = truth_found (searched fault.NullReference op.EndsWith x s)

pub search_contains : (x s : Scalar) → on_ok (of_two fault.NullReference op.Contains x s) (truth_of fault.NullReference) ≡ searched fault.NullReference op.Contains x s
search_contains x s = truth_found (searched fault.NullReference op.Contains x s)

pub ruleset search_truth = (search_starts, search_ends, search_contains)

module _ {R : Type 0} (table_of : R → ℕ) (shown : R → List Scalar) (slots : Slots R) where
  cell_is : (world : World R) (s : Scalar) (found : Option Scalar) → found ≡ Some s → cell_value world found ≡ Ok (value.Scalar s)
  cell_is world s found is = ap (cell_value world) is

  pub own_cell : {S : Type 0} (left : S → List R) (predicates : List Predicate) (tables : List (TableRows S)) (n table c : ℕ) (name : List ℕ) → HaveDistinctColumns (schemas_in tables) → n ≡ length slots
      → Some name ≡ name_of_column (schemas_in tables) table c
      → IsCell table_of shown (world_of table_of shown left predicates tables) slots table (form.Column (form.Slot n) table c) c
  own_cell left predicates tables n table c name distinct next named = record { at = λ r is. of r is (slice_get (shown r) c) refl }
    where
      world : World R
      world = world_of table_of shown left predicates tables

      of : (r : R) → table_of r ≡ table → (found : Option Scalar) → slice_get (shown r) c ≡ found → IfSome found (λ s. form_meaning world (form.Column (form.Slot n) table c) (with_item world slots (value.Row r)) ≡ Ok (value.Scalar s))
      of r is None there = tt
      of r is (Some s) there =
          form_column world (form.Slot n) table c (with_item world slots (value.Row r))
          ∙ ap (λ (found : Result (Value R) Fault). on_ok found (λ v. cell_in world table c (out-Value R v)))
          (form_slot world n (with_item world slots (value.Row r)) ∙ ap (if_there world) (found_next slots (value.Row r) n next))
          ∙ ap (cell_in world table c) (value.outs-Row r)
          ∙ ap (cell_value world)
          (ap (option_and_then (world.cell r)) (sym named)
          ∙ cell_found (schemas_in tables) table (table_of r) c name (shown r) distinct is (sym named) ∙ there)

  pub own_cell_at : {S : Type 0} (left : S → List R) (predicates : List Predicate) (tables : List (TableRows S)) (f row : Form) (n number table c : ℕ) (name : List ℕ) → HaveDistinctColumns (schemas_in tables)
      → f ≡ form.Column row number c → row ≡ form.Slot n → number ≡ table → n ≡ length slots
      → Some name ≡ name_of_column (schemas_in tables) number c
      → IsCell table_of shown (world_of table_of shown left predicates tables) slots table f c
  own_cell_at left predicates tables f row n number table c name distinct is of same next named =
      subst (λ g. IsCell table_of shown (world_of table_of shown left predicates tables) slots table g c) (sym (is ∙ (λ i. form.Column (of i) (same i) c)))
      (own_cell left predicates tables n table c name distinct next (named ∙ ap (λ t. name_of_column (schemas_in tables) t c) same))

  module _ (world : World R) where
    pub next_item : (f : Form) (n : ℕ) → f ≡ form.Slot n → n ≡ length slots → IsItem world slots f
    next_item f n is next = record {
      at = λ v.
          ap (λ (g : Form). form_meaning world g (with_item world slots v)) is ∙ form_slot world n (with_item world slots v)
          ∙ ap (if_there world) (found_next slots v n next);
    }

    pub constant_literal : (s : Scalar) → IsConstant table_of shown world slots (form.Literal s) s
    constant_literal s = record { at = λ v. form_literal world s (with_item world slots v) }

    pub constant_cell : (row : Form) (n table c : ℕ) (v : Value R) (s : Scalar) → row ≡ form.Slot n → Some v ≡ slice_get slots n
        → cell_in world table c (out-Value R v) ≡ Ok (value.Scalar s)
        → IsConstant table_of shown world slots (form.Column row table c) s
    constant_cell row n table c v s is there cell = record {
      at = λ x.
          form_column world row table c (with_item world slots x)
          ∙ ap (λ (found : Result (Value R) Fault). on_ok found (λ v. cell_in world table c (out-Value R v)))
          (ap (λ (a : Form). form_meaning world a (with_item world slots x)) is ∙ form_slot world n (with_item world slots x)
          ∙ ap (if_there world) (found_before slots (x ∷ []) n v (sym there)))
          ∙ cell;
    }

    -- ---- conditions

    of_result : (m found : Result Bool Fault) → m ≡ found → Meets (unless_fault found) m
    of_result m (Ok b) is = is
    of_result m (Err f) is = tt

    moved : (t t' : Option Bool) (m : Result Bool Fault) → t' ≡ t → Meets t m → Meets t' m
    moved t t' m is h = subst (λ o. Meets o m) (sym is) h

    pub decides_silent : (table : ℕ) (f : Form) → Decides table_of shown world slots table f condition.Silent
    decides_silent table f = record { at = λ r is. moved None (verdict condition.Silent (shown r)) _ (verdict_silent (shown r)) tt }

    sign_met : (sign : Binary) (o : Op) (a b : Form) (vs : Slots R) (found : Option Scalar) (s : Scalar) → world.unknown ≡ fault.NullReference → o ≡ operation_of sign
        → IfSome found (λ x. form_meaning world a vs ≡ Ok (value.Scalar x)) → form_meaning world b vs ≡ Ok (value.Scalar s)
        → Meets (sign_verdict sign found s) (truth_in world (form_meaning world (form.Binary o a b) vs))
    sign_met sign o a b vs None s known is left right = tt
    sign_met sign o a b vs (Some x) s known is left right =
        of_result _ _ (truth_binary world sign o a b vs x s is left right ∙ ap (λ u. on_ok (of_two u (operation_of sign) x s) (truth_of u)) known)

    pub decides_sign : (sign : Binary) (o : Op) (a b : Form) (table place : ℕ) (s : Scalar) (c : Condition) → world.unknown ≡ fault.NullReference → o ≡ operation_of sign
        → IsCell table_of shown world slots table a place → IsConstant table_of shown world slots b s
        → IsSign sign place s c
        → Decides table_of shown world slots table (form.Binary o a b) c
    decides_sign sign o a b table place s c known is cell constant decides = record {
      at = λ r here.
          moved (sign_verdict sign (slice_get (shown r) place) s) (verdict c (shown r)) _ (decides.at (shown r))
          (sign_met sign o a b (with_item world slots (value.Row r)) (slice_get (shown r) place) s known is (cell.at r here) (constant.at (value.Row r)));
    }

    search_met : (o : Op) (a b : Form) (vs : Slots R) (found : Option Scalar) (s : Scalar) → world.unknown ≡ fault.NullReference
        → ((x y : Scalar) → on_ok (of_two fault.NullReference o x y) (truth_of fault.NullReference) ≡ searched fault.NullReference o x y)
        → IfSome found (λ x. form_meaning world a vs ≡ Ok (value.Scalar x)) → form_meaning world b vs ≡ Ok (value.Scalar s)
        → Meets (search_verdict o found s) (truth_in world (form_meaning world (form.Binary o a b) vs))
    search_met o a b vs None s known same left right = tt
    search_met o a b vs (Some x) s known same left right =
        of_result _ _ (truth_two world o a b vs x s left right ∙ ap (λ u. on_ok (of_two u o x s) (truth_of u)) known ∙ same x s)

    pub decides_search : (o o' : Op) (a b : Form) (table place : ℕ) (s : Scalar) (c : Condition) → world.unknown ≡ fault.NullReference → o' ≡ o
        → ((x y : Scalar) → on_ok (of_two fault.NullReference o' x y) (truth_of fault.NullReference) ≡ searched fault.NullReference o' x y)
        → IsCell table_of shown world slots table a place → IsConstant table_of shown world slots b s
        → IsSearch o' place s c
        → Decides table_of shown world slots table (form.Binary o a b) c
    decides_search o o' a b table place s c known is same cell constant says = record {
      at = λ r here.
          subst (λ p. Meets (verdict c (shown r)) (truth_in world (form_meaning world (form.Binary p a b) (with_item world slots (value.Row r))))) is
          (moved (search_verdict o' (slice_get (shown r) place) s) (verdict c (shown r)) _ (says.at (shown r))
          (search_met o' a b (with_item world slots (value.Row r)) (slice_get (shown r) place) s known same (cell.at r here) (constant.at (value.Row r))));
    }

    both_met : (ta tb : Option Bool) (ma mb m : Result Bool Fault) → Meets ta ma → Meets tb mb → m ≡ on_ok ma (λ x. if x then mb else Ok false)
        → Meets (both_verdicts ta tb) m
    both_met None tb ma mb m ha hb is = tt
    both_met (Some true) tb ma mb m ha hb is = subst (λ z. Meets tb z) (sym (is ∙ ap (λ (r : Result Bool Fault). on_ok r (λ x. if x then mb else Ok false)) ha)) hb
    both_met (Some false) tb ma mb m ha hb is = is ∙ ap (λ (r : Result Bool Fault). on_ok r (λ x. if x then mb else Ok false)) ha

    either_met : (ta tb : Option Bool) (ma mb m : Result Bool Fault) → Meets ta ma → Meets tb mb → m ≡ on_ok ma (λ x. if x then Ok true else mb)
        → Meets (either_verdict ta tb) m
    either_met None tb ma mb m ha hb is = tt
    either_met (Some true) tb ma mb m ha hb is = is ∙ ap (λ (r : Result Bool Fault). on_ok r (λ x. if x then Ok true else mb)) ha
    either_met (Some false) tb ma mb m ha hb is = subst (λ z. Meets tb z) (sym (is ∙ ap (λ (r : Result Bool Fault). on_ok r (λ x. if x then Ok true else mb)) ha)) hb

    pub decides_both : (a b : Form) (table : ℕ) (ca cb c : Condition) → Decides table_of shown world slots table a ca → Decides table_of shown world slots table b cb
        → IsBoth ca cb c
        → Decides table_of shown world slots table (form.And a b) c
    decides_both a b table ca cb c ha hb decides = record {
      at = λ r here.
          moved _ (verdict c (shown r)) _ (decides.at (shown r))
          (both_met (verdict ca (shown r)) (verdict cb (shown r)) _ _ _ (ha.at r here) (hb.at r here) (truth_both world a b (with_item world slots (value.Row r))));
    }

    pub decides_either : (a b : Form) (table : ℕ) (ca cb c : Condition) → Decides table_of shown world slots table a ca → Decides table_of shown world slots table b cb
        → IsEither ca cb c
        → Decides table_of shown world slots table (form.Or a b) c
    decides_either a b table ca cb c ha hb decides = record {
      at = λ r here.
          moved _ (verdict c (shown r)) _ (decides.at (shown r))
          (either_met (verdict ca (shown r)) (verdict cb (shown r)) _ _ _ (ha.at r here) (hb.at r here) (truth_either world a b (with_item world slots (value.Row r))));
    }

    -- ---- other forms of operands

    -- the operator that a sign is
    pub decides_operator : (sign : Binary) (o : Op) (a b : Form) (table : ℕ) (c : Condition) → o ≡ operation_of sign
        → Decides table_of shown world slots table (form.Binary (operation_of sign) a b) c
        → Decides table_of shown world slots table (form.Binary o a b) c
    decides_operator sign o a b table c is = subst (λ p. Decides table_of shown world slots table (form.Binary p a b) c) (sym is)

    turned_met : (sign turned : Binary) (a b : Form) (vs : Slots R) (found : Option Scalar) (s : Scalar) → world.unknown ≡ fault.NullReference → IsTurned sign turned
        → IfSome found (λ x. form_meaning world b vs ≡ Ok (value.Scalar x)) → form_meaning world a vs ≡ Ok (value.Scalar s)
        → Meets (sign_verdict turned found s) (truth_in world (form_meaning world (form.Binary (operation_of sign) a b) vs))
    turned_met sign turned a b vs None s known is right left = tt
    turned_met sign turned a b vs (Some x) s known is right left =
        moved (sign_verdict sign (Some s) x) (sign_verdict turned (Some x) s) _ (sym (is.at s x))
        (sign_met sign (operation_of sign) a b vs (Some s) x known refl left right)

    pub decides_turned : (sign turned : Binary) (a b : Form) (table place : ℕ) (s : Scalar) (c : Condition) → world.unknown ≡ fault.NullReference → IsTurned sign turned
        → IsCell table_of shown world slots table b place → IsConstant table_of shown world slots a s
        → IsSign turned place s c
        → Decides table_of shown world slots table (form.Binary (operation_of sign) a b) c
    decides_turned sign turned a b table place s c known is cell constant decides = record {
      at = λ r here.
          moved (sign_verdict turned (slice_get (shown r) place) s) (verdict c (shown r)) _ (decides.at (shown r))
          (turned_met sign turned a b (with_item world slots (value.Row r)) (slice_get (shown r) place) s known is (cell.at r here) (constant.at (value.Row r)));
    }

    cells_met : (sign : Binary) (a b : Form) (vs : Slots R) (found other : Option Scalar) → world.unknown ≡ fault.NullReference
        → IfSome found (λ x. form_meaning world a vs ≡ Ok (value.Scalar x)) → IfSome other (λ x. form_meaning world b vs ≡ Ok (value.Scalar x))
        → Meets (cells_verdict sign found other) (truth_in world (form_meaning world (form.Binary (operation_of sign) a b) vs))
    cells_met sign a b vs found None known left right = tt
    cells_met sign a b vs found (Some y) known left right = sign_met sign (operation_of sign) a b vs found y known refl left right

    pub decides_cells : (sign : Binary) (a b : Form) (table place other : ℕ) (c : Condition) → world.unknown ≡ fault.NullReference
        → IsCell table_of shown world slots table a place → IsCell table_of shown world slots table b other
        → IsCells sign place other c
        → Decides table_of shown world slots table (form.Binary (operation_of sign) a b) c
    decides_cells sign a b table place other c known left right decides = record {
      at = λ r here.
          moved (cells_verdict sign (slice_get (shown r) place) (slice_get (shown r) other)) (verdict c (shown r)) _ (decides.at (shown r))
          (cells_met sign a b (with_item world slots (value.Row r)) (slice_get (shown r) place) (slice_get (shown r) other) known (left.at r here) (right.at r here));
    }

    of_scalar : {B : Type 0} (s : Scalar) (next : Scalar → Result B Fault) → on_scalar world (Ok (value.Scalar s)) next ≡ next s
    of_scalar s next = ap (λ layer. on_ok (scalar_of world layer) next) (value.outs-Scalar s)

    truth_met : (f : Form) (vs : Slots R) (found : Option Scalar) → world.unknown ≡ fault.NullReference
        → IfSome found (λ x. form_meaning world f vs ≡ Ok (value.Scalar x))
        → Meets (truth_verdict found) (truth_in world (form_meaning world f vs))
    truth_met f vs None known is = tt
    truth_met f vs (Some x) known is =
        of_result _ (truth_of fault.NullReference x) (ap (truth_in world) is ∙ of_scalar x (truth_of world.unknown) ∙ ap (λ u. truth_of u x) known)

    pub decides_truth : (f : Form) (table place : ℕ) (c : Condition) → world.unknown ≡ fault.NullReference
        → IsCell table_of shown world slots table f place → IsTruth place c
        → Decides table_of shown world slots table f c
    decides_truth f table place c known cell decides = record {
      at = λ r here.
          moved (truth_verdict (slice_get (shown r) place)) (verdict c (shown r)) _ (decides.at (shown r))
          (truth_met f (with_item world slots (value.Row r)) (slice_get (shown r) place) known (cell.at r here));
    }

    pub decides_constant : (f : Form) (table : ℕ) (s : Scalar) (b : Bool) → s ≡ scalar.Bool b → IsConstant table_of shown world slots f s
        → Decides table_of shown world slots table f (condition.Constant b)
    decides_constant f table s b is constant = record {
      at = λ r here.
          moved (Some b) (verdict (condition.Constant b) (shown r)) _ (verdict_constant (shown r) b)
          (ap (truth_in world) (constant.at (value.Row r)) ∙ of_scalar s (truth_of world.unknown) ∙ ap (truth_of world.unknown) is);
    }

    -- ---- operators with one operand

    truth_given : (unknown : Fault) (r : Result Bool Fault) → on_ok (truth unknown r) (truth_of unknown) ≡ r
    truth_given unknown (Ok b) = refl
    truth_given unknown (Err f) = refl

    truth_as_value : (found : Result Scalar Fault) → truth_in world (as_value found) ≡ on_ok found (truth_of world.unknown)
    truth_as_value (Ok s) = of_scalar s (truth_of world.unknown)
    truth_as_value (Err f) = refl

    value_met : (a : Form) (vs : Slots R) (found : Option Scalar) → world.unknown ≡ fault.NullReference
        → IfSome found (λ x. form_meaning world a vs ≡ Ok (value.Scalar x))
        → Meets (value_verdict found) (truth_in world (form_meaning world (form.Unary op.HasValue a) vs))
    value_met a vs None known is = tt
    value_met a vs (Some x) known is =
        of_result _ (has_value fault.NullReference x)
        (ap (truth_in world)
        (form_unary world op.HasValue a vs
        ∙ ap (λ m. on_scalar world m (λ s. as_value (of_one world.unknown op.HasValue s))) is
        ∙ of_scalar x (λ s. as_value (of_one world.unknown op.HasValue s)))
        ∙ truth_as_value (of_one world.unknown op.HasValue x)
        ∙ truth_given world.unknown (has_value world.unknown x)
        ∙ ap (λ u. has_value u x) known)

    pub decides_value : (a : Form) (table place : ℕ) (c : Condition) → world.unknown ≡ fault.NullReference
        → IsCell table_of shown world slots table a place → IsValue place c
        → Decides table_of shown world slots table (form.Unary op.HasValue a) c
    decides_value a table place c known cell decides = record {
      at = λ r here.
          moved (value_verdict (slice_get (shown r) place)) (verdict c (shown r)) _ (decides.at (shown r))
          (value_met a (with_item world slots (value.Row r)) (slice_get (shown r) place) known (cell.at r here));
    }

    pub decides_one : (o p : Op) (a : Form) (table : ℕ) (c : Condition) → o ≡ p → Decides table_of shown world slots table (form.Unary p a) c
        → Decides table_of shown world slots table (form.Unary o a) c
    decides_one o p a table c is = subst (λ q. Decides table_of shown world slots table (form.Unary q a) c) (sym is)

    not_of : (r : Result Scalar Fault) → truth_in world (on_ok r (λ s. as_value (of_one world.unknown op.Not s)))
        ≡ on_ok (on_ok r (truth_of world.unknown)) (λ b. Ok (not b))
    not_of (Ok s) = truth_as_value (of_one world.unknown op.Not s) ∙ truth_given world.unknown (on_ok (truth_of world.unknown s) (λ b. Ok (not b)))
    not_of (Err f) = refl

    truth_not : (a : Form) (vs : Slots R) → truth_in world (form_meaning world (form.Unary op.Not a) vs)
        ≡ on_ok (truth_in world (form_meaning world a vs)) (λ b. Ok (not b))
    truth_not a vs = ap (truth_in world) (form_unary world op.Not a vs) ∙ not_of (scalar_in world (form_meaning world a vs))

    not_met : (t : Option Bool) (ma m : Result Bool Fault) → Meets t ma → m ≡ on_ok ma (λ b. Ok (not b)) → Meets (not_verdict t) m
    not_met None ma m h is = tt
    not_met (Some b) ma m h is = is ∙ ap (λ (r : Result Bool Fault). on_ok r (λ x. Ok (not x))) h

    pub decides_not : (o : Op) (a : Form) (table : ℕ) (ca c : Condition) → o ≡ op.Not → Decides table_of shown world slots table a ca → IsNot ca c
        → Decides table_of shown world slots table (form.Unary o a) c
    decides_not o a table ca c is ha decides = decides_one o op.Not a table c is (record {
      at = λ r here.
          moved (not_verdict (verdict ca (shown r))) (verdict c (shown r)) _ (decides.at (shown r))
          (not_met (verdict ca (shown r)) _ _ (ha.at r here) (truth_not a (with_item world slots (value.Row r))));
    })

pub ruleset decides_signs = (decides_sign, decides_cells, decides_silent)

pub ruleset decides_truths = (decides_truth, decides_constant, decides_silent)

pub ruleset decides_unary = (decides_one, decides_not, decides_silent)
