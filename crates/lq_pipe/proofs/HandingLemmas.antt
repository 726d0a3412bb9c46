-- The rows that the base of a pipe hands out, pull by pull.
use Rattle.std.proofs.Common.{◌≡◌, ◌∷◌, ◌++◌, ◌⊎◌, ◌∙◌, inl, inr, List, [], ℕ, false, Some, IfOk, Result, Ok, Err, ap, append_assoc, refl, subst, sym}
use Rattle.lq_value.specs.declared.scalar.Scalar.{Scalar}
use Rattle.lq_value.specs.declared.value.End.{End}
use Rattle.lq_value.specs.declared.value.End.TheVariants as end
use Rattle.lq_value.specs.declared.value.Fault.{Fault}
use Rattle.lq_value.specs.declared.value.Value.{Value}
use Rattle.lq_language.specs.Stream.{Stream}
use Rattle.lq_language.specs.ValuesOfTypes.{Every}
use Rattle.lq_language.specs.Worlds.{World}
use Rattle.lq_language.proofs.AlikeStreamLaws.{every_append}
use Rattle.lq_language.proofs.ItemLaws.{every_none, first_of, every_more, others_of}
use Rattle.lq_tree.specs.FormMeaning.{Slots}
use Rattle.lq_guard.specs.Handing.{Drops, DropsAll, Hands, counted, one_more}
use Rattle.lq_guard.proofs.HandingLaws.{counted_append}
use Rattle.lq_plan.specs.Handing.{HandsOut}
use Rattle.lq_plan.specs.PlannedRows.{pulled_value, row_verdict}
use Rattle.lq_plan.specs.Prepared.{IsPlanned}
use Rattle.lq_plan.specs.Pulling.{item_at, through_stage}
use Rattle.lq_plan.specs.declared.bases.Pulled.{Pulled}
use Rattle.lq_plan.specs.declared.bases.Pulled.TheVariants as pulled
use Rattle.lq_plan.specs.declared.pipes.Pipe.{Pipe}
use Rattle.lq_plan.proofs.PlanLaws.{row_says}
use Rattle.lq_pipe.specs.Handing.{GivesNothing, HandsAtMost, HandsUpTo, Passes, PassesAll, Settles}
use Rattle.lq_pipe.specs.Steps.{GivesStep}

every_as : {A : Type 0} (P Q : A → Type 0) → ((x : A) → P x → Q x) → (xs : List A) → Every P xs → Every Q xs
every_as P Q is [] ps = every_none Q
every_as P Q is (x ∷ xs) ps = every_more Q x xs (is x (first_of P x xs ps)) (every_as P Q is xs (others_of P x xs ps))

module _ {R : Type 0} (table_of : R → ℕ) (shown : R → List Scalar) (world : World R) (slots : Slots R) (pipe : Pipe) where
  abbrev Passing : List R → ℕ → List R → ℕ → Type 0
  Passing = Passes world slots pipe

  -- what comes of a value of the base
  abbrev comes : Value R → Stream (Value R)
  comes x = through_stage world slots pipe.stage (item_at world slots pipe.source.now x)

  -- at first
  pub passes_none : (rows : List R) (n : ℕ) → Passing rows n rows n
  passes_none rows n = record { before = []; is = refl; count = refl; give_nothing = every_none (GivesNothing world slots pipe) }

  passes_then : (rows : List R) (n : ℕ) (left : List R) (m : ℕ) (further : List R) (k : ℕ) → Passing rows n left m → Passing left m further k
      → Passing rows n further k
  passes_then rows n left m further k first more = record {
    before = first.before ++ more.before;
    is = first.is ∙ ap (λ (l : List R). first.before ++ l) more.is ∙ sym (append_assoc first.before more.before further);
    count = more.count ∙ ap (λ (c : ℕ). counted c more.before) first.count ∙ sym (counted_append n first.before more.before);
    give_nothing = every_append (GivesNothing world slots pipe) first.before more.before first.give_nothing more.give_nothing;
  }

  passes_one : (r : R) (left : List R) (k m : ℕ) → m ≡ one_more k → GivesNothing world slots pipe r → Passing (r ∷ left) k left m
  passes_one r left k m more none = record {
    before = r ∷ [];
    is = refl;
    count = more;
    give_nothing = every_more (GivesNothing world slots pipe) r [] none (every_none (GivesNothing world slots pipe));
  }

  module _ (planned : IsPlanned table_of shown world slots pipe.stage pipe.source.now pipe.plan) where
    -- nothing comes of rows that a plan drops
    dropped_pass : (rows : List R) (n : ℕ) (left : List R) (m : ℕ) → Drops (row_verdict table_of shown pipe.plan) rows n left m → Passing rows n left m
    dropped_pass rows n left m drops = record {
      before = drops.dropped;
      is = drops.is;
      count = drops.count;
      give_nothing = every_as (λ (r : R). row_verdict table_of shown pipe.plan r ≡ Some false) (GivesNothing world slots pipe)
          (λ r says. row_says table_of shown world slots pipe.stage pipe.source.now pipe.plan planned r false says) drops.dropped drops.do_not_pass;
    }

    module _ (start : List R) (n : ℕ) (rows : List R) (m : ℕ) (left : List R) (k : ℕ) (passes : Passing start n rows m) where
      -- behind a row that is handed out, and to it
      up_to : (r : R) (c : ℕ) → Drops (row_verdict table_of shown pipe.plan) rows m (r ∷ left) c → Passing start n (r ∷ left) c
      up_to r c drops = passes_then start n rows m (r ∷ left) c passes (dropped_pass rows m (r ∷ left) c drops)

      behind : (r : R) → Hands (row_verdict table_of shown pipe.plan) rows m r left k → GivesNothing world slots pipe r → Passing start n left k
      behind r hands none =
          passes_then start n (r ∷ left) hands.0 left k (up_to r hands.0 hands.1) (passes_one r left hands.0 k hands.2 none)

      -- where all rows are handed out
      all_out : DropsAll (row_verdict table_of shown pipe.plan) rows m left k → PassesAll world slots pipe start n left k
      all_out drops = (passes_then start n rows m [] k passes (dropped_pass rows m [] k drops.0), drops.1)

      -- behind what was pulled of which nothing comes
      pub passes_dropped : (p : Pulled R) → HandsOut table_of shown pipe.plan rows m (Ok p) left k → ([], end.Done) ≡ comes (pulled_value p) → Passing start n left k
      passes_dropped (pulled.Row r) hands none = behind r hands (sym none)
      passes_dropped (pulled.Item x) (inl row) none = behind row.0 row.2 (ap comes (sym row.1) ∙ sym none)
      passes_dropped (pulled.Item x) (inr all) none = subst (λ (l : List R). Passing start n l k) (sym all.1) (all_out all).0

      -- what comes settles the step, where it comes of a row
      settled : (p : Pulled R) (made : Stream (Value R)) → HandsOut table_of shown pipe.plan rows m (Ok p) left k → made ≡ comes (pulled_value p)
          → Settles world slots pipe start n made left k ⊎ PassesAll world slots pipe start n left k
      settled (pulled.Row r) made hands gives = inl (r, sym gives, (hands.0, up_to r hands.0 hands.1, hands.2))
      settled (pulled.Item x) made (inl row) gives = inl (row.0, ap comes (sym row.1) ∙ sym gives, (row.2.0, up_to row.0 row.2.0 row.2.1, row.2.2))
      settled (pulled.Item x) made (inr all) gives = inr (all_out all)

      pub hands_item : (p : Pulled R) (v : Value R) → HandsOut table_of shown pipe.plan rows m (Ok p) left k → (v ∷ [], end.Done) ≡ comes (pulled_value p)
          → HandsUpTo world slots pipe start n (Ok v) left k
      hands_item p v hands gives = settled p (v ∷ [], end.Done) hands gives

      pub hands_fault : (p : Pulled R) (f : Fault) → HandsOut table_of shown pipe.plan rows m (Ok p) left k → ([], end.Fault f) ≡ comes (pulled_value p)
          → HandsUpTo world slots pipe start n (Err (end.Fault f)) left k
      hands_fault p f hands gives = settled p ([], end.Fault f) hands gives

      pub hands_given : {E : Type 0} → (p : Pulled R) (answer : Result (Result (Value R) End) E) → HandsOut table_of shown pipe.plan rows m (Ok p) left k
          → IfOk answer (GivesStep (comes (pulled_value p))) → IfOk answer (λ step. HandsUpTo world slots pipe start n step left k)
      hands_given p (Ok (Ok v)) hands gives = hands_item p v hands (sym gives)
      hands_given p (Ok (Err (end.Fault f))) hands gives = hands_fault p f hands (sym gives)
      hands_given p (Ok (Err end.Done)) hands gives = absurd gives
      hands_given p (Err e) hands gives = tt

      -- and at the end all rows are handed out
      pub hands_end : (e : End) → HandsOut table_of shown pipe.plan rows m (Err e) left k → HandsUpTo world slots pipe start n (Err e) left k
      hands_end end.Done hands = all_out hands
      hands_end (end.Fault f) hands = inr (all_out hands)

      -- whatever comes, nothing comes of the rows before the last one
      pub at_most : (p : Pulled R) → HandsOut table_of shown pipe.plan rows m (Ok p) left k → HandsAtMost world slots pipe start n left k
      at_most (pulled.Row r) hands = inl (r, (hands.0, up_to r hands.0 hands.1, hands.2))
      at_most (pulled.Item x) (inl row) = inl (row.0, (row.2.0, up_to row.0 row.2.0 row.2.1, row.2.2))
      at_most (pulled.Item x) (inr all) = inr (all_out all)

      pub at_most_end : (e : End) → HandsOut table_of shown pipe.plan rows m (Err e) left k → HandsAtMost world slots pipe start n left k
      at_most_end e hands = inr (all_out hands)
