-- What comes of an item in a slot of its own, and of each item of what it leads to.
use Rattle.std.proofs.Common.{◌≡◌, ◌∷◌, ◌++◌, List, [], Bor, Some, None, Result, Ok, map, ap, ◌∙◌, sym, refl, subst, append_assoc, IfOk}
use Rattle.lq_value.specs.declared.value.End.{End}
use Rattle.lq_value.specs.declared.value.End.TheVariants as end
use Rattle.lq_value.specs.declared.value.Fault.{Fault}
use Rattle.lq_value.specs.declared.value.Value.{Value}
use Rattle.lq_value.specs.declared.value.Value.TheVariants as value
use Rattle.lq_language.specs.Worlds.{World}
use Rattle.lq_language.specs.OperandMeaning.{sequence, stream_of}
use Rattle.lq_language.specs.Stream.{Stream, each, select_each, select_by, whole}
use Rattle.lq_tree.specs.FormMeaning.{Slots, form_meaning, with_item, with_items}
use Rattle.lq_tree.specs.declared.tree.Form.{Form}
use Rattle.lq_tree.specs.declared.tree.Joined.{Joined}
use Rattle.lq_tree.specs.declared.tree.Form.TheVariants as form
use Rattle.lq_language.specs.ClauseMeaning.{as_group}
use Rattle.lq_operators.specs.Groups.{groups_in as built}
use Rattle.lq_operators.specs.declared.groups.Grouping.{Grouping}
use Rattle.lq_plan.specs.Groups.{groups_in}
use Rattle.lq_pipe.specs.Items.{AreGrouped, item_expansion, item_join, keys_and_elements}
use Rattle.lq_plan.specs.Pulling.{through_select}
use Rattle.lq_plan.proofs.FormLaws.{form_group_by, form_join, form_select_many}

module _ {R : Type 0} (world : World R) (S : Slots R) (x : Value R) (D : Slots R) where
  -- a slot for an item and one for what it leads to are two slots
  two_slots : (result : Form) (vs : List (Value R)) (e : End)
      → select_by (λ w. form_meaning world result (with_item world (S ++ x ∷ []) w)) vs e
      ≡ select_each (λ w. form_meaning world result (with_items world S x w)) (vs, e)
  two_slots result vs e = λ i. select_by (λ w. form_meaning world result (append_assoc S (x ∷ []) (w ∷ []) i)) vs e

  pub expansion_of : (inner result : Form) (vs vs' : List (Value R)) (e : End) (E : Type 0) (answer : Result (Stream (Value R)) E) → D ≡ S ++ x ∷ []
      → (vs, e) ≡ stream_of world (form_meaning world inner D) → vs' ≡ vs
      → IfOk answer (λ s. s ≡ select_by (λ w. form_meaning world result (with_item world D w)) vs' e)
      → IfOk answer (λ s. s ≡ select_each (λ w. form_meaning world result (with_items world S x w)) (stream_of world (form_meaning world inner (with_item world S x))))
  expansion_of inner result vs vs' e E answer slots is same h =
      subst (λ (t : Stream (Value R)). IfOk answer (λ s. s ≡ t))
      (ap (λ l. select_by (λ w. form_meaning world result (with_item world D w)) l e) same
      ∙ ap (λ (d : Slots R). select_by (λ w. form_meaning world result (with_item world d w)) vs e) slots ∙ two_slots result vs e
      ∙ ap (select_each (λ w. form_meaning world result (with_items world S x w))) (is ∙ ap (λ (d : Slots R). stream_of world (form_meaning world inner d)) slots)) h

  -- and so are those that are pulled with the item in its slot
  pub expansion_is : (inner result : Form) (E : Type 0) (answer : Result (Stream (Value R)) E) → D ≡ S ++ x ∷ []
      → IfOk answer (λ s. s ≡ through_select world D result (stream_of world (form_meaning world inner D))) → IfOk answer (λ s. s ≡ item_expansion world S inner result x)
  expansion_is inner result E answer slots h =
      let all = stream_of world (form_meaning world inner D) in
      expansion_of inner result all.0 all.0 all.1 E answer slots refl refl h

module _ {R : Type 0} (world : World R) (slots : Slots R) where
  pub select_many_answer : (a inner result : Form) (s vs : Stream (Value R)) → s ≡ stream_of world (form_meaning world a slots)
      → vs ≡ each (item_expansion world slots inner result) s.0 s.1 → form_meaning world (form.SelectMany a inner result) slots ≡ Ok (value.Seq vs.0 vs.1)
  select_many_answer a inner result s vs is h =
      form_select_many world a inner result slots
      ∙ ap (λ (t : Stream (Value R)). Ok (sequence (each (item_expansion world slots inner result) t.0 t.1))) (sym is)
      ∙ ap (λ (t : Stream (Value R)). Ok (sequence t)) (sym h)

  -- groups that were built of pairs, where these came to their end, and where they didn't
  module _ (a key element : Form) (k : Form) (e : Bor Form) (key_is : k ≡ key) (element_is : e.now ≡ element) where
    abbrev pairs : Stream (Value R × Value R)
    pairs = keys_and_elements world slots k (Some e) (stream_of world (form_meaning world a slots))

    by_lambdas : (v : Value R) → form_meaning world (form.GroupBy a k e.now) slots ≡ Ok v → form_meaning world (form.GroupBy a key element) slots ≡ Ok v
    by_lambdas v h =
        subst (λ f. form_meaning world (form.GroupBy a f element) slots ≡ Ok v) key_is
        (subst (λ f. form_meaning world (form.GroupBy a k f) slots ≡ Ok v) element_is h)

    pub group_by_done : (grouping : Grouping R) (d : End) (gs : List (Value R)) → AreGrouped grouping d pairs → d ≡ end.Done → gs ≡ map as_group (built grouping)
        → form_meaning world (form.GroupBy a key element) slots ≡ Ok (value.Seq gs end.Done)
    group_by_done grouping d gs are done gs_are =
        by_lambdas (value.Seq gs end.Done)
        (form_group_by world a k e.now slots ∙ ap (λ c. Ok (sequence (whole pairs.0 c groups_in))) (sym are.1 ∙ done)
        ∙ ap (λ l. Ok (value.Seq l end.Done)) (sym (gs_are ∙ ap (map as_group) are.0)))

    pub group_by_stops : (grouping : Grouping R) (d : End) (f : Fault) (v : Value R) → AreGrouped grouping d pairs → d ≡ end.Fault f → v ≡ sequence ([], end.Fault f)
        → form_meaning world (form.GroupBy a key element) slots ≡ Ok v
    group_by_stops grouping d f v are stops h =
        by_lambdas v
        (form_group_by world a k e.now slots ∙ ap (λ c. Ok (sequence (whole pairs.0 c groups_in))) (sym are.1 ∙ stops) ∙ ap (λ w. Ok w) (sym h))

  -- the inner items with their keys, and then what comes of the outer ones
  abbrev joined_by : Joined Form → Stream (Value R × Value R) → Stream (Value R) → Stream (Value R)
  joined_by j inner outer = whole inner.0 inner.1 (λ qs. each (item_join world slots j qs) outer.0 outer.1)

  join_is : (a : Form) (j : Joined Form) (outer inner : Stream (Value R)) (pairs : Stream (Value R × Value R))
      → outer ≡ stream_of world (form_meaning world a slots) → inner ≡ stream_of world (form_meaning world j.inner slots)
      → pairs ≡ keys_and_elements world slots j.inner_key None inner
      → form_meaning world (form.Join a j) slots ≡ Ok (sequence (joined_by j pairs outer))
  join_is a j outer inner pairs outer_is inner_is h =
      form_join world a j slots
      ∙ ap (λ (t : Stream (Value R)). Ok (sequence (joined_by j (keys_and_elements world slots j.inner_key None (stream_of world (form_meaning world j.inner slots))) t))) (sym outer_is)
      ∙ ap (λ (t : Stream (Value R)). Ok (sequence (joined_by j (keys_and_elements world slots j.inner_key None t) outer))) (sym inner_is)
      ∙ ap (λ (t : Stream (Value R × Value R)). Ok (sequence (joined_by j t outer))) (sym h)

  pub join_answer : (a : Form) (j : Joined Form) (outer inner vs : Stream (Value R)) (c : End) (pairs qs : List (Value R × Value R))
      → outer ≡ stream_of world (form_meaning world a slots) → inner ≡ stream_of world (form_meaning world j.inner slots)
      → (pairs, c) ≡ keys_and_elements world slots j.inner_key None inner → c ≡ end.Done → qs ≡ pairs
      → vs ≡ each (item_join world slots j qs) outer.0 outer.1
      → form_meaning world (form.Join a j) slots ≡ Ok (value.Seq vs.0 vs.1)
  join_answer a j outer inner vs c pairs qs outer_is inner_is pairs_are done qs_are h =
      join_is a j outer inner (pairs, c) outer_is inner_is pairs_are
      ∙ ap (λ k. Ok (sequence (joined_by j (pairs, k) outer))) done
      ∙ ap (λ l. Ok (sequence (each (item_join world slots j l) outer.0 outer.1))) (sym qs_are)
      ∙ ap (λ (s : Stream (Value R)). Ok (sequence s)) (sym h)

  pub join_stops : (a : Form) (j : Joined Form) (inner : Stream (Value R)) (c : End) (pairs : List (Value R × Value R)) (f : Fault) (v : Value R)
      → inner ≡ stream_of world (form_meaning world j.inner slots)
      → (pairs, c) ≡ keys_and_elements world slots j.inner_key None inner → c ≡ end.Fault f
      → v ≡ sequence ([], end.Fault f) → form_meaning world (form.Join a j) slots ≡ Ok v
  join_stops a j inner c pairs f v inner_is pairs_are stops h =
      join_is a j (stream_of world (form_meaning world a slots)) inner (pairs, c) refl inner_is pairs_are
      ∙ ap (λ k. Ok (sequence (joined_by j (pairs, k) (stream_of world (form_meaning world a slots))))) stops ∙ ap (λ w. Ok w) (sym h)
