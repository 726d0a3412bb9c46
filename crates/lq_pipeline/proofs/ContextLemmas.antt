-- A tree that is guarded for select means what it means over the tables as the role sees them.
use Rattle.std.proofs.Common.{◌≡◌, ◌∙◌, List, [], ℕ, Result, Ok, Err, IfOk, ap, subst, sym}
use Rattle.std.specs.declared.alloc.AllocError.{AllocError}
use Rattle.lq_value.specs.declared.value.Fault.{Fault}
use Rattle.lq_value.specs.declared.value.Value.{Value}
use Rattle.lq_host.specs.Hosts.{Hosts}
use Rattle.lq_host.specs.declared.call.Call.{Call}
use Rattle.lq_language.specs.OperandMeaning.{stream_of}
use Rattle.lq_language.specs.Stream.{Stream}
use Rattle.lq_language.specs.TableRows.{TableRow}
use Rattle.lq_security.specs.Visible.{tables_as_seen}
use Rattle.lq_tree.specs.FormMeaning.{form_meaning}
use Rattle.lq_tree.specs.declared.tree.Tree.{Tree}
use Rattle.lq_guard.specs.declared.guarded_trees.GuardedTree.{GuardedTree}
use Rattle.lq_guard.proofs.GuardedLaws.{reads_tables_as_seen}
use Rattle.lq_pipeline.specs.Contexts.{IsGuardedForSelect, guarded_value}
use Rattle.lq_pipeline.specs.Evaluations.{AddsCallsSeen, Enumerates, Evaluates, meaning_seen}
use Rattle.lq_pull.specs.Views.{Sight, world_seen}

module _ (s : Sight) (hosts : Hosts) (g : GuardedTree) (guarded : IsGuardedForSelect s g) where
  pub guarded_means : guarded_value s hosts g ≡ meaning_seen s g.tree.form hosts.predicates
  guarded_means =
      (λ i. reads_tables_as_seen (world_seen s hosts.predicates) s.policies s.tables g guarded.1 i [])
      ∙ ap (λ (role : ℕ). form_meaning (record (world_seen s hosts.predicates) { rows = tables_as_seen s.policies role s.tables }) g.tree.form []) guarded.0

  module _ (t : Sight) (same : t ≡ s) (tree : Tree) (is : tree ≡ g.tree) (old new : List Call) where
    pub guarded_evaluates : (result : Result (Result (Value TableRow) Fault) AllocError) → Evaluates t tree.form hosts.predicates old result new
        → IfOk result (λ found. found ≡ guarded_value s hosts g)
    guarded_evaluates (Ok found) evaluates =
        evaluates.1 ∙ (λ i. meaning_seen (same i) (is i).form hosts.predicates) ∙ sym guarded_means
    guarded_evaluates (Err e) evaluates = tt

    pub guarded_enumerates : (result : Result (Stream (Value TableRow)) AllocError) → Enumerates t tree.form hosts.predicates old result new
        → IfOk result (λ found. found ≡ stream_of (world_seen s hosts.predicates) (guarded_value s hosts g))
    guarded_enumerates (Ok found) enumerates =
        enumerates.1 ∙ (λ i. stream_of (world_seen (same i) hosts.predicates) (meaning_seen (same i) (is i).form hosts.predicates))
        ∙ ap (stream_of (world_seen s hosts.predicates)) (sym guarded_means)
    guarded_enumerates (Err e) enumerates = tt

    pub calls_guarded : AddsCallsSeen t tree.form hosts.predicates old new → AddsCallsSeen s g.tree.form hosts.predicates old new
    calls_guarded adds = subst (λ (p : Sight × Tree). AddsCallsSeen p.0 p.1.form hosts.predicates old new) (λ i. (same i, is i)) adds
