-- What is read first of a selection depends on as many items of its source alone.
use Rattle.std.proofs.Common.{◌≡◌, ◌∷◌, List, [], ℕ, zero, suc, Option, Some, None, Result, Ok, Err, ap, refl}
use Rattle.lq_value.specs.declared.value.End.{End}
use Rattle.lq_value.specs.declared.value.Fault.{Fault}
use Rattle.lq_value.specs.declared.value.Value.{Value}
use Rattle.lq_language.specs.Enumerable.{in_front, take_first}
use Rattle.lq_language.specs.Stream.{Stream, one, select_by, then_stream}
use Rattle.lq_language.specs.Worlds.{World}
use Rattle.lq_tree.specs.FormMeaning.{Slots, form_meaning, with_item}
use Rattle.lq_tree.specs.declared.tree.Form.{Form}
use Rattle.lq_plan.specs.Counts.{read_first}
use Rattle.lq_plan.specs.Pulling.{through_select}

module _ {A B : Type 0} (f : A → Result B Fault) where
  abbrev first : ℕ → Stream B → Stream B
  first n s = take_first n s.0 s.1

  one_more : (n : ℕ) (m : Result B Fault) (s t : Stream B) → first n s ≡ first n t → first (suc n) (then_stream (one m) s) ≡ first (suc n) (then_stream (one m) t)
  one_more n (Ok y) s t same = ap (in_front y) same
  one_more n (Err g) s t same = refl

  first_selected : (n : ℕ) (xs : List A) (e : End)
      → first n (select_by f xs e) ≡ first n (select_by f (take_first n xs e).0 (take_first n xs e).1)
  first_selected zero xs e = refl
  first_selected (suc n) [] e = refl
  first_selected (suc n) (x ∷ xs) e =
      one_more n (f x) (select_by f xs e) (select_by f (take_first n xs e).0 (take_first n xs e).1) (first_selected n xs e)

pub select_reads_first : {R : Type 0} (world : World R) (slots : Slots R) (body : Form) (limit : Option ℕ) (s : Stream (Value R))
    → read_first limit (through_select world slots body s) ≡ read_first limit (through_select world slots body (read_first limit s))
select_reads_first world slots body (Some n) s = first_selected (λ v. form_meaning world body (with_item world slots v)) n s.0 s.1
select_reads_first world slots body None s = refl
