-- The type of a host predicate's answer: where it is found, and what follows from it.
use Rattle.std.proofs.Common.{◌≡◌, ◌&&◌, ℕ, List, true, Option, Some, None, ap, ◌∙◌, sym, refl, true≢false}
use Rattle.std.specs.Prelude.{is_some}
use Rattle.std.proofs.lemmas.Bool.{and_from, and_parts}
use Rattle.lq_value.specs.declared.ty.Ty.{Ty, out-Ty, roll-Ty}
use Rattle.lq_value.specs.declared.ty.Ty.TheOpen.{Ty-F}
use Rattle.lq_value.specs.declared.ty.Ty.TheVariants as ty
use Rattle.lq_value.specs.declared.ty.Ty.TheVariants.{outs-Row, rolls-Row}
use Rattle.lq_value.specs.declared.ty.Ty.TheViews.{roll-out-Ty}
use Rattle.lq_value.specs.declared.table.Schema.{Schema}
use Rattle.lq_language.specs.HostNames.{are_int_columns, has_ints, host_type, layer_has_ints, predicate_number}
use Rattle.lq_language.specs.Names.{Names}
use Rattle.lq_language.specs.OperandTypes.{truth_type}
use Rattle.lq_grammar.specs.declared.syntax.Picked.{Picked}
use Rattle.lq_language.proofs.FindingLaws.{truth_by}

-- ---- what the rules give is found

pub host_found : (names : Names) (p : List ℕ) (columns : Picked) (k n : ℕ) (row : Option Ty) → predicate_number names.predicates p columns ≡ Some k → row ≡ Some (ty.Row n)
    → are_int_columns names.tables n columns ≡ true → host_type names p columns row ≡ Some ty.Bool
host_found names p columns k n row known typed ints =
    ap truth_type
    (and_from (is_some (predicate_number names.predicates p columns)) _ (ap is_some known)
    (ap (has_ints names.tables columns) typed ∙ ap (layer_has_ints names.tables columns) (outs-Row n) ∙ ints))

-- ---- what is found

-- there is something
there_by : {A P : Type 0} (o : Option A) → is_some o ≡ true → ((x : A) → o ≡ Some x → P) → P
there_by None h next = absurd (true≢false (sym h))
there_by (Some x) h next = next x refl

row_of_layer : (t : Ty) (n : ℕ) → out-Ty t ≡ Ty-F.Row n → t ≡ ty.Row n
row_of_layer t n h = sym (roll-out-Ty t) ∙ ap roll-Ty h ∙ rolls-Row n

layer_by : {P : Type 0} (tables : List Schema) (columns : Picked) (layer : Ty-F Ty) → layer_has_ints tables columns layer ≡ true
    → ((n : ℕ) → layer ≡ Ty-F.Row n → are_int_columns tables n columns ≡ true → P) → P
layer_by tables columns (Ty-F.Row n) h next = next n refl h
layer_by tables columns layer h next = absurd (true≢false (sym h))

ints_by : {P : Type 0} (tables : List Schema) (columns : Picked) (row : Option Ty) → has_ints tables columns row ≡ true
    → ((n : ℕ) → row ≡ Some (ty.Row n) → are_int_columns tables n columns ≡ true → P) → P
ints_by tables columns None h next = absurd (true≢false (sym h))
ints_by tables columns (Some t) h next = layer_by tables columns (out-Ty t) h (λ n is ints. next n (ap Some (row_of_layer t n is)) ints)

-- a predicate that has a type is there, and is asked of ints of a row
pub host_by : {P : Type 0} (names : Names) (p : List ℕ) (columns : Picked) (row : Option Ty) (t : Ty) → host_type names p columns row ≡ Some t
    → ((k n : ℕ) → predicate_number names.predicates p columns ≡ Some k → row ≡ Some (ty.Row n) → are_int_columns names.tables n columns ≡ true → ty.Bool ≡ t → P) → P
host_by names p columns row t h next =
    truth_by (is_some (predicate_number names.predicates p columns) && has_ints names.tables columns row) t h
    (λ both same. let parts = and_parts (is_some (predicate_number names.predicates p columns)) _ both in
    there_by (predicate_number names.predicates p columns) parts.0
    (λ k known. ints_by names.tables columns row parts.1 (λ n typed ints. next k n known typed ints same)))
