-- A host predicate that is bound is asked as it is named: of the same cells, with the same answer.
use Rattle.std.proofs.Common.{◌≡◌, if◌then◌else◌, ℕ, List, Bool, true, Option, Some, None, Result, ap, ap₂, ◌∙◌, sym, subst, option_and_then}
use Rattle.std.specs.Cmp.{unsigned_Decides}
use Rattle.lq_value.specs.declared.scalar.Scalar.TheVariants as scalar
use Rattle.lq_value.specs.declared.ty.Ty.{Ty}
use Rattle.lq_value.specs.declared.ty.Ty.TheVariants as ty
use Rattle.lq_value.specs.declared.ty.Ty.TheVariants.{outs-Row}
use Rattle.lq_value.specs.declared.value.Fault.{Fault}
use Rattle.lq_value.specs.declared.value.Value.{Value, out-Value}
use Rattle.lq_value.specs.declared.value.Value.TheVariants.{outs-Row as outs-value-Row, outs-Scalar}
use Rattle.lq_host.specs.declared.call.Pick.{Pick}
use Rattle.lq_host.specs.declared.call.Pick.TheVariants as numbers
use Rattle.lq_grammar.specs.declared.syntax.Picked.{Picked}
use Rattle.lq_grammar.specs.declared.syntax.Picked.TheVariants as picked
use Rattle.lq_language.specs.HostNames.{are_int_columns, predicate_number}
use Rattle.lq_language.specs.MeaningLaws.{IsValueOf}
use Rattle.lq_language.specs.OperandMeaning.{arguments_named, host_answer, answer_about, host_value, one_argument, two_arguments}
use Rattle.lq_language.specs.Operations.{on_ok}
use Rattle.lq_language.specs.Worlds.{World, known_predicates}
use Rattle.lq_language.proofs.AlikeStreamLaws.{Agree, on_ok_agree}
use Rattle.lq_language.proofs.TypedMethodLaws.{host_agrees}
use Rattle.lq_language.proofs.TypingLaws.{is_of_layer, type_with}
use Rattle.lq_language.proofs.ValueLaws.{RowOrNull, a_row, no_row, row_value}
use Rattle.lq_tree.specs.Binding.{host_tree}
use Rattle.lq_tree.specs.FormMeaning.{Slots, arguments_at, arguments_in, form_meaning}
use Rattle.lq_tree.specs.TypedForms.{ArePicked}
use Rattle.lq_tree.specs.declared.tree.Form.TheVariants as form
use Rattle.lq_tree.specs.declared.tree.Tree.{Tree}
use Rattle.lq_tree.proofs.FormSteps.{meaning_at}
use Rattle.lq_tree.proofs.HostTrees.{asked_by}
use Rattle.lq_tree.proofs.MeansMembers.{same_agree}

module _ {R : Type 0} (world : World R) where
  -- the cells at columns' numbers are those under the columns' names
  cells_same : (n : ℕ) (numbered : Pick) (columns : Picked) → ArePicked world.schemas n numbered columns → (r : R)
      → arguments_in world n numbered r ≡ arguments_named world columns r
  cells_same n (numbers.One c) (picked.One m) named r = ap (λ (o : Option (List ℕ)). one_argument (option_and_then (world.cell r) o)) named
  cells_same n (numbers.Two c d) (picked.Two m k) named r =
      ap₂ (λ (o p : Option (List ℕ)). two_arguments (option_and_then (world.cell r) o) (option_and_then (world.cell r) p)) named.0 named.1
  cells_same n (numbers.One c) (picked.Two m k) named r = absurd named
  cells_same n (numbers.Two c d) (picked.One m) named r = absurd named

  -- and a row of the table has these
  pub arguments_same : (n : ℕ) (numbered : Pick) (columns : Picked) → ArePicked world.schemas n numbered columns → (r : R) → world.table r ≡ n
      → arguments_at world n numbered r ≡ arguments_named world columns r
  arguments_same n numbered columns named r own =
      ap (λ (b : Bool). if b then arguments_in world n numbered r else None) ((unsigned_Decides (world.table r) n).1 own) ∙ cells_same n numbered columns named r

  module _ (p : List ℕ) (columns : Picked) (k n : ℕ) (numbered : Pick) (known : predicate_number (known_predicates world.predicates) p columns ≡ Some k)
      (ints : are_int_columns world.schemas n columns ≡ true) (named : ArePicked world.schemas n numbered columns) where
    -- what is asked about a value of the row's type
    abbrev asked_by_number : Value R → Result (Value R) Fault
    asked_by_number v = answer_about world (Some k) (arguments_at world n numbered) (out-Value R v)

    asked_same : (v : Value R) → RowOrNull world n v → asked_by_number v ≡ host_value world p columns (out-Value R v)
    asked_same v (a_row r cells is) =
        ap asked_by_number is ∙ ap (answer_about world (Some k) (arguments_at world n numbered)) (outs-value-Row r)
        ∙ ap₂ (host_answer world) (sym known) (arguments_same n numbered columns named r cells.0)
        ∙ sym (ap (λ (w : Value R). host_value world p columns (out-Value R w)) is ∙ ap (host_value world p columns) (outs-value-Row r))
    asked_same v (no_row is) =
        ap asked_by_number is ∙ ap (answer_about world (Some k) (arguments_at world n numbered)) (outs-Scalar scalar.Null)
        ∙ sym (ap (λ (w : Value R). host_value world p columns (out-Value R w)) is ∙ ap (host_value world p columns) (outs-Scalar scalar.Null))

    pub asked_agrees : (slots : Slots R) (v : Value R) → IsValueOf world (ty.Row n) v
        → Agree (IsValueOf world ty.Bool) (asked_by_number v) (host_value world p columns (out-Value R v))
    asked_agrees slots v fits =
        same_agree world slots ty.Bool _ _ (asked_same v (row_value world (ty.Row n) n v (outs-Row n) fits))
        (host_agrees world world.unknown world.unknown p columns k n known ints v fits)

  -- the tree of a predicate means what the predicate means
  pub host_means : (slots : Slots R) (p : List ℕ) (columns : Picked) (row r : Tree) (m : Result (Value R) Fault)
      → host_tree world.schemas (known_predicates world.predicates) p columns row ≡ Some r → Agree (IsValueOf world row.ty) (form_meaning world row.form slots) m
      → Agree (IsValueOf world r.ty) (form_meaning world r.form slots) (on_ok m (λ v. host_value world p columns (out-Value R v)))
  host_means slots p columns row r m h agree =
      asked_by world.schemas (known_predicates world.predicates) p columns row r h
      (λ k n numbered known is ints there named same. subst (λ (x : Tree). Agree (IsValueOf world x.ty) (form_meaning world x.form slots) (on_ok m host)) same
      (same_agree world slots ty.Bool _ _ (meaning_at world slots _ (form.outs-Host k row.form n numbered))
      (on_ok_agree (IsValueOf world (ty.Row n)) (IsValueOf world ty.Bool) (asked_by_number p columns k n numbered known ints named) host
      (asked_agrees p columns k n numbered known ints named slots) (form_meaning world row.form slots) m
      (subst (λ (t : Ty). Agree (IsValueOf world t) (form_meaning world row.form slots) m) (is_of_layer row.ty ∙ ap type_with is) agree))))
    where
      host : Value R → Result (Value R) Fault
      host v = host_value world p columns (out-Value R v)
