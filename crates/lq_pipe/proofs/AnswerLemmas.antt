-- What running answers of forms that hold others, and of the members of a record.
use Rattle.std.proofs.Common.{Bor, ◌≡◌, ◌∷◌, ◌++◌, List, [], map, ℕ, Result, Ok, Err, ap, ◌∙◌, sym, refl, subst, ◌+◌, ◌<◌, ◌≤◌, suc, append_assoc, append-nil, arith, drop, drop-cons, get_or, length}
use Rattle.std.proofs.lemmas.List.{drop_all}
use Rattle.lq_value.specs.declared.value.Fault.{Fault}
use Rattle.lq_value.specs.declared.value.Value.{Value}
use Rattle.lq_value.specs.declared.value.Value.TheVariants as value
use Rattle.lq_language.specs.Worlds.{World}
use Rattle.lq_language.specs.OperandMeaning.{stream_of}
use Rattle.lq_language.specs.Operations.{on_ok}
use Rattle.lq_language.specs.Enumerable.{all}
use Rattle.lq_language.specs.Stream.{Stream}
use Rattle.lq_language.specs.Meaning.{as_truth, given_meaning}
use Rattle.lq_language.specs.declared.methods.Given.{Given}
use Rattle.lq_grammar.specs.declared.syntax.Field.{Field}
use Rattle.lq_operators.specs.Answers.{IsAnswer}
use Rattle.lq_operators.specs.declared.error.RunError.{RunError}
use Rattle.lq_operators.specs.declared.error.RunError.TheVariants as error
use Rattle.lq_tree.specs.FormMeaning.{Slots, form_meaning, is_true, members_of, with_item}
use Rattle.lq_tree.specs.declared.tree.Form.{Form}
use Rattle.lq_tree.specs.declared.tree.Form.TheVariants as form
use Rattle.lq_plan.specs.Lists.{field_means}
use Rattle.lq_language.specs.OperandMeaning.{sequence}
use Rattle.lq_plan.specs.Pulling.{stream_behind}
use Rattle.lq_plan.specs.declared.stages.Stage.TheVariants as stage
use Rattle.lq_plan.proofs.FormLaws.{form_all, form_given, form_record, form_select, form_where}

module _ {R : Type 0} (world : World R) where
  pub all_answer : (a f : Form) (slots : Slots R) (items : Stream (Value R)) (answer : Result (Value R) RunError)
      → items ≡ stream_of world (form_meaning world a slots)
      → IsAnswer (as_truth (all (λ v. is_true world (form_meaning world f) (with_item world slots v)) items.0 items.1)) answer
      → IsAnswer (form_meaning world (form.All a f) slots) answer
  all_answer a f slots items answer items_is h =
      subst (λ m. IsAnswer m answer)
      (ap (λ (s : Stream (Value R)). as_truth (all (λ v. is_true world (form_meaning world f) (with_item world slots v)) s.0 s.1)) items_is
      ∙ sym (form_all world a f slots)) h

  pub where_answer : (g a a' f : Form) (f' : Bor Form) (slots : Slots R) (answer : Result (Value R) RunError) → g ≡ form.Where a f → a' ≡ a → f'.now ≡ f
      → IsAnswer (Ok (sequence (stream_behind world slots (stage.Where f') a'))) answer → IsAnswer (form_meaning world g slots) answer
  where_answer g a a' f f' slots answer is source_is condition_is h =
      subst (λ m. IsAnswer m answer)
      (sym (form_where world a' f'.now slots) ∙ ap (λ x. form_meaning world x slots) ((λ i. form.Where (source_is i) (condition_is i)) ∙ sym is)) h

  pub select_answer : (g a a' f : Form) (f' : Bor Form) (slots : Slots R) (answer : Result (Value R) RunError) → g ≡ form.Select a f → a' ≡ a → f'.now ≡ f
      → IsAnswer (Ok (sequence (stream_behind world slots (stage.Select f') a'))) answer → IsAnswer (form_meaning world g slots) answer
  select_answer g a a' f f' slots answer is source_is body_is h =
      subst (λ m. IsAnswer m answer)
      (sym (form_select world a' f'.now slots) ∙ ap (λ x. form_meaning world x slots) ((λ i. form.Select (source_is i) (body_is i)) ∙ sym is)) h

  pub given_answer : (method : Given) (a b : Form) (slots : Slots R) (argument : Result (Value R) Fault) (items : Stream (Value R)) (answer : Result (Value R) RunError)
      → argument ≡ form_meaning world b slots → items ≡ stream_of world (form_meaning world a slots)
      → IsAnswer (given_meaning world method argument items) answer → IsAnswer (form_meaning world (form.Given method a b) slots) answer
  given_answer method a b slots argument items answer argument_is items_is h =
      subst (λ m. IsAnswer m answer) ((λ i. given_meaning world method (argument_is i) (items_is i)) ∙ sym (form_given world method a b slots)) h

  pub members_goes : (items : List (Field Form)) (slots : Slots R) (all : Result (List (List ℕ × Value R)) Fault) (made more : List (List ℕ × Value R)) (i : ℕ) (field : Field Form) (v : Value R)
      → field ≡ get_or items i field → i < length items → form_meaning world field.value slots ≡ Ok v → more ≡ made ++ (field.name, v) ∷ []
      → on_ok (members_of world (map (field_means world) (drop i items)) slots) (λ ms. Ok (made ++ ms)) ≡ all
      → on_ok (members_of world (map (field_means world) (drop (i + 1) items)) slots) (λ ms. Ok (more ++ ms)) ≡ all
  members_goes items slots all made more i field v is below gives more_is goes =
      subst (λ n. on_ok (members_of world (map (field_means world) (drop n items)) slots) (λ ms. Ok (more ++ ms)) ≡ all) (next_of i)
      (ap (λ l. on_ok (rest (drop (suc i) items)) (λ ms. Ok (l ++ ms))) more_is
      ∙ by (rest (drop (suc i) items))
      ∙ ap (λ m. on_ok (on_ok m (λ w. on_ok (rest (drop (suc i) items)) (λ ms. Ok ((field.name, w) ∷ ms)))) (λ ms. Ok (made ++ ms))) (sym gives)
      ∙ ap (λ f. on_ok (rest (f ∷ drop (suc i) items)) (λ ms. Ok (made ++ ms))) is
      ∙ ap (λ l. on_ok (rest l) (λ ms. Ok (made ++ ms))) (sym (drop-cons items i field below)) ∙ goes)
    where
      next_of : (n : ℕ) → suc n ≡ n + 1
      next_of n = omega arith

      rest : List (Field Form) → Result (List (List ℕ × Value R)) Fault
      rest fields = members_of world (map (field_means world) fields) slots

      by : (found : Result (List (List ℕ × Value R)) Fault)
          → on_ok found (λ ms. Ok ((made ++ (field.name, v) ∷ []) ++ ms)) ≡ on_ok (on_ok found (λ ms. Ok ((field.name, v) ∷ ms))) (λ ms. Ok (made ++ ms))
      by (Ok ms) = ap (λ l. Ok l) (append_assoc made ((field.name, v) ∷ []) ms)
      by (Err f) = refl

  -- the members so far are those of the record where no field is left, and a field's fault is that of the record
  pub record_ended : (fields items : List (Field Form)) (slots : Slots R) (made : List (List ℕ × Value R)) (i : ℕ) → items ≡ fields → length items ≤ i
      → on_ok (members_of world (map (field_means world) (drop i items)) slots) (λ ms. Ok (made ++ ms)) ≡ members_of world (map (field_means world) items) slots
      → form_meaning world (form.Record fields) slots ≡ Ok (value.Rec made)
  record_ended fields items slots made i same over goes =
      ap (λ fs. form_meaning world (form.Record fs) slots) (sym same) ∙ form_record world items slots
      ∙ ap (λ m. on_ok m (λ ms. Ok (value.Rec ms)))
      (sym goes
      ∙ ap (λ l. on_ok (members_of world (map (field_means world) l) slots) (λ ms. Ok (made ++ ms))) (drop_all i items over)
      ∙ ap (λ l. Ok l) (append-nil made))

  pub record_stopped : (fields items : List (Field Form)) (slots : Slots R) (made : List (List ℕ × Value R)) (i : ℕ) (field : Field Form) → items ≡ fields
      → field ≡ get_or items i field → i < length items
      → on_ok (members_of world (map (field_means world) (drop i items)) slots) (λ ms. Ok (made ++ ms)) ≡ members_of world (map (field_means world) items) slots
      → (e : RunError) → IsAnswer (form_meaning world field.value slots) (Err e) → IsAnswer (form_meaning world (form.Record fields) slots) (Err e)
  record_stopped fields items slots made i field same is below goes (error.Fault f) stops =
      ap (λ fs. form_meaning world (form.Record fs) slots) (sym same) ∙ form_record world items slots
      ∙ ap (λ m. on_ok m (λ ms. Ok (value.Rec ms)))
      (sym goes
      ∙ ap (λ l. on_ok (members_of world (map (field_means world) l) slots) (λ ms. Ok (made ++ ms))) (drop-cons items i field below)
      ∙ ap (λ x. on_ok (members_of world (map (field_means world) (x ∷ drop (suc i) items)) slots) (λ ms. Ok (made ++ ms))) (sym is)
      ∙ ap (λ m. on_ok (on_ok m (λ w. on_ok (members_of world (map (field_means world) (drop (suc i) items)) slots) (λ ms. Ok ((field.name, w) ∷ ms)))) (λ ms. Ok (made ++ ms))) stops)
  record_stopped fields items slots made i field same is below goes error.Memory stops = tt
