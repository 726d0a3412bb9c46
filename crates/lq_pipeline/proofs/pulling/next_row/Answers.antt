-- The next row is handed out for the next item, or nothing is left.
use Rattle.std.proofs.Common.{[], Ok, Err, Some, None, Option, ◌∙◌, ap, refl, subst, sym}
use Rattle.lq_value.specs.declared.value.End.TheVariants as end
use Rattle.lq_language.specs.TableRows.{TableRow}
use Rattle.lq_plan.specs.Handing.{handed_out, rows_to_come}
use Rattle.lq_plan.specs.Plans.{world}
use Rattle.lq_plan.specs.Pulling.{base_stream, items_at}
use Rattle.lq_plan.specs.Watching.{facts}
use Rattle.lq_plan.specs.declared.bases.Base.{Base}
use Rattle.lq_pull.specs.declared.readers.Reader.{Reader}
use Rattle.lq_pipe.specs.Steps.{Steps}
use Rattle.lq_pipeline.specs.Chains.{comes_at}
use Rattle.lq_pipeline.specs.Reading.{Takes, covers_chain}
use Rattle.lq_pipeline.specs.Standings.{Pulled, handed_by, place_by, place_of, rows_place}
use Rattle.lq_pipeline.specs.declared.steps.Standing.{Standing}
use Rattle.lq_pipeline.specs.declared.steps.Step.TheVariants as step
use Rattle.lq_pipeline.proofs.PipeLemmas.{all_reached, due_reached, end_pulled, item_pulled, left_reached, nothing_read, refusal_pulled}
use Rattle.lq_pipeline.proofs.pulling.next_row.Goals as goal

pub returns-in_default-clause-pulled : goal.returns-in_default-clause-pulled
returns-in_default-clause-pulled g c = λ f.
    subst (λ (o : Option (Base TableRow Reader)). Pulled (world c.args.sources.now) (facts c.args.sources.now) (covers_chain (world c.args.sources.now) c.args.chain.now) (rows_place (world c.args.sources.now) c.args.chain.now c.args.limit o) (handed_by o) c.args.log.now (Ok c.end.result) (place_of (world c.args.sources.now) f c.end.new.self) (handed_by c.end.new.self.leaf) c.args.log.now) (sym c.in_default.is)
    (nothing_read (world c.args.sources.now) (facts c.args.sources.now) (covers_chain (world c.args.sources.now) c.args.chain.now) f (rows_place (world c.args.sources.now) c.args.chain.now c.args.limit None) ([], end.Done) 0 (handed_by c.end.new.self.leaf) c.args.log.now c.end.result c.end.new.self refl (λ k. refl) refl (c.end.ensures.gives (world c.args.sources.now) f)
    (ap handed_by (c.end.ensures.leaf ∙ c.in_default.is)))

pub returns-in_default-one_less-clause-pulled : goal.returns-in_default-one_less-clause-pulled
returns-in_default-one_less-clause-pulled g c = λ f.
    let e = c.end-in_default-one_less in
    subst (λ (o : Option (Base TableRow Reader)). Pulled (world c.args.sources.now) (facts c.args.sources.now) (covers_chain (world c.args.sources.now) c.args.chain.now) (rows_place (world c.args.sources.now) c.args.chain.now c.args.limit o) (handed_by o) c.args.log.now (Ok e.result) (place_of (world c.args.sources.now) f e.new.self) (handed_by e.new.self.leaf) c.args.log.now) (sym c.in-Some.is)
    (nothing_read (world c.args.sources.now) (facts c.args.sources.now) (covers_chain (world c.args.sources.now) c.args.chain.now) f (rows_place (world c.args.sources.now) c.args.chain.now c.args.limit (Some c.in-Some.leaf)) ([], end.Done) (handed_out c.in-Some.leaf) (handed_by e.new.self.leaf) c.args.log.now e.result e.new.self (left_reached (world c.args.sources.now) (facts c.args.sources.now) (covers_chain (world c.args.sources.now) c.args.chain.now) c.args.chain.now c.args.limit (items_at (world c.args.sources.now) [] c.args.chain.now (base_stream c.in-Some.leaf)) (sym c.one_less.ensures ∙ c.in_default-one_less.is)) (λ k. due_reached (world c.args.sources.now) (facts c.args.sources.now) (covers_chain (world c.args.sources.now) c.args.chain.now) c.args.chain.now (rows_to_come c.in-Some.leaf) c.args.limit k (sym c.one_less.ensures ∙ c.in_default-one_less.is)) (all_reached (world c.args.sources.now) (facts c.args.sources.now) (covers_chain (world c.args.sources.now) c.args.chain.now) c.args.chain.now (rows_to_come c.in-Some.leaf) c.args.limit (sym c.one_less.ensures ∙ c.in_default-one_less.is)) (e.ensures.gives (world c.args.sources.now) f) (ap handed_by e.ensures.leaf))

pub returns-in-Ok-Ok-clause-pulled : goal.returns-in-Ok-Ok-clause-pulled
returns-in-Ok-Ok-clause-pulled g c = λ f.
    subst (λ (o : Option (Base TableRow Reader)). Pulled (world c.args.sources.now) (facts c.args.sources.now) (covers_chain (world c.args.sources.now) c.args.chain.now) (rows_place (world c.args.sources.now) c.args.chain.now c.args.limit o) (handed_by o) c.args.log.now (Ok (step.Item c.in-Ok-Ok.item)) (Some (rows_place (world c.args.sources.now) c.args.chain.now c.in-Some-one_less.less (Some c.next_of.new.leaf))) (handed_out c.next_of.new.leaf) c.next_of.new.log) (sym c.in-Some.is)
    (item_pulled (world c.args.sources.now) (facts c.args.sources.now) (covers_chain (world c.args.sources.now) c.args.chain.now) c.args.chain.now c.args.limit c.in-Some-one_less.less (sym c.one_less.ensures ∙ c.in-Some-one_less.is) c.in-Some.leaf c.next_of.new.leaf c.args.log.now c.next_of.new.log c.in-Ok-Ok.item (subst (λ r. Takes (world c.args.sources.now) (facts c.args.sources.now) (covers_chain (world c.args.sources.now) c.args.chain.now) (comes_at (world c.args.sources.now) c.args.chain.now) (rows_to_come c.in-Some.leaf) (handed_out c.in-Some.leaf) c.args.log.now r (rows_to_come c.next_of.new.leaf) (handed_out c.next_of.new.leaf) c.next_of.new.log) (c.in-Ok-Ok.is ∙ ap (λ s. Ok s) c.in-Ok-Ok.field-0-is) c.next_of.ensures.takes) (subst (λ s. Steps (items_at (world c.args.sources.now) [] c.args.chain.now (base_stream c.in-Some.leaf)) s (items_at (world c.args.sources.now) [] c.args.chain.now (base_stream c.next_of.new.leaf))) c.in-Ok-Ok.field-0-is c.in-Ok-Ok.ensures.meant))

pub returns-in-Ok-Err-clause-pulled : goal.returns-in-Ok-Err-clause-pulled
returns-in-Ok-Err-clause-pulled g c = λ f.
    subst (λ (o : Option (Base TableRow Reader)). Pulled (world c.args.sources.now) (facts c.args.sources.now) (covers_chain (world c.args.sources.now) c.args.chain.now) (rows_place (world c.args.sources.now) c.args.chain.now c.args.limit o) (handed_by o) c.args.log.now (Ok c.end-in-Ok-Err.result) (place_of (world c.args.sources.now) f c.end-in-Ok-Err.new.self) (handed_by c.end-in-Ok-Err.new.self.leaf) c.next_of.new.log) (sym c.in-Some.is)
    (subst (λ (o : Option (Base TableRow Reader)). Pulled (world c.args.sources.now) (facts c.args.sources.now) (covers_chain (world c.args.sources.now) c.args.chain.now) (rows_place (world c.args.sources.now) c.args.chain.now c.args.limit (Some c.in-Some.leaf)) (handed_out c.in-Some.leaf) c.args.log.now (Ok c.end-in-Ok-Err.result) (place_of (world c.args.sources.now) f c.end-in-Ok-Err.new.self) (handed_by o) c.next_of.new.log) (sym c.end-in-Ok-Err.ensures.leaf)
    (end_pulled (world c.args.sources.now) (facts c.args.sources.now) (covers_chain (world c.args.sources.now) c.args.chain.now) c.args.chain.now c.args.limit c.in-Some-one_less.less (sym c.one_less.ensures ∙ c.in-Some-one_less.is) c.in-Some.leaf c.next_of.new.leaf c.args.log.now c.next_of.new.log f c.in-Ok-Err.end c.end-in-Ok-Err.result c.end-in-Ok-Err.new.self (subst (λ r. Takes (world c.args.sources.now) (facts c.args.sources.now) (covers_chain (world c.args.sources.now) c.args.chain.now) (comes_at (world c.args.sources.now) c.args.chain.now) (rows_to_come c.in-Some.leaf) (handed_out c.in-Some.leaf) c.args.log.now r (rows_to_come c.next_of.new.leaf) (handed_out c.next_of.new.leaf) c.next_of.new.log) (c.in-Ok-Err.is ∙ ap (λ s. Ok s) c.in-Ok-Err.field-0-is) c.next_of.ensures.takes) (subst (λ s. Steps (items_at (world c.args.sources.now) [] c.args.chain.now (base_stream c.in-Some.leaf)) s (items_at (world c.args.sources.now) [] c.args.chain.now (base_stream c.next_of.new.leaf))) c.in-Ok-Err.field-0-is c.in-Ok-Err.ensures.meant) (c.end-in-Ok-Err.ensures.gives (world c.args.sources.now) f)))

pub returns-in-Err-clause-pulled : goal.returns-in-Err-clause-pulled
returns-in-Err-clause-pulled g c = λ f.
    subst (λ (o : Option (Base TableRow Reader)). Pulled (world c.args.sources.now) (facts c.args.sources.now) (covers_chain (world c.args.sources.now) c.args.chain.now) (rows_place (world c.args.sources.now) c.args.chain.now c.args.limit o) (handed_by o) c.args.log.now (Err c.in-Err.error) (place_by (world c.args.sources.now) f (Some c.next_of.new.leaf) c.args.state.now.standing) (handed_out c.next_of.new.leaf) c.next_of.new.log) (sym c.in-Some.is)
    (subst (λ (s : Standing). Pulled (world c.args.sources.now) (facts c.args.sources.now) (covers_chain (world c.args.sources.now) c.args.chain.now) (rows_place (world c.args.sources.now) c.args.chain.now c.args.limit (Some c.in-Some.leaf)) (handed_out c.in-Some.leaf) c.args.log.now (Err c.in-Err.error) (place_by (world c.args.sources.now) f (Some c.next_of.new.leaf) s) (handed_out c.next_of.new.leaf) c.next_of.new.log) (sym c.requires.lost)
    (refusal_pulled (world c.args.sources.now) (facts c.args.sources.now) (covers_chain (world c.args.sources.now) c.args.chain.now) c.args.chain.now c.args.limit c.in-Some-one_less.less (sym c.one_less.ensures ∙ c.in-Some-one_less.is) c.in-Some.leaf c.next_of.new.leaf c.args.log.now c.next_of.new.log c.in-Err.error c.in-Err.error c.in-Err.ensures.takes))
