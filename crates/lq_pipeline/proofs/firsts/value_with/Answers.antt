-- `Contains` stops at its match, and every other method where so many items settle it.
use Rattle.std.proofs.Common.{[], IfOk, Result, List, Bool, ◌≡◌, subst, sym}
use Rattle.lq_value.specs.declared.value.Fault.{Fault}
use Rattle.lq_value.specs.declared.value.Value.{Value}
use Rattle.lq_language.specs.Meaning.{given_meaning}
use Rattle.lq_language.specs.TableRows.{TableRow}
use Rattle.lq_language.specs.declared.methods.Given.{Given}
use Rattle.lq_plan.specs.Handing.{handed_out, rows_to_come}
use Rattle.lq_plan.specs.Plans.{world}
use Rattle.lq_plan.specs.Pulling.{base_stream, items_at}
use Rattle.lq_plan.specs.Watching.{facts}
use Rattle.lq_pipeline.specs.Chains.{comes_at}
use Rattle.lq_pipeline.specs.Heads.{decides_given}
use Rattle.lq_pipeline.specs.Reading.{Reads, covers_chain}
use Rattle.lq_pipeline.proofs.firsts.value_with.Goals as goal

pub returns-in-Some-clause-meant : goal.returns-in-Some-clause-meant
returns-in-Some-clause-meant g c =
    subst (λ (p : Given × Result (Value TableRow) Fault). IfOk c.contains_value.result (λ found. found ≡ given_meaning (world c.args.sources.now) p.0 p.1
    (items_at (world c.args.sources.now) [] c.args.chain.now (base_stream c.args.leaf.now)))) (λ i. (sym c.in-Some.ensures.some.0 i, sym c.in-Some.ensures.some.1 i))
    c.contains_value.ensures.meant

pub returns-in-Some-clause-reads : goal.returns-in-Some-clause-reads
returns-in-Some-clause-reads g c =
    subst (λ (p : Given × Result (Value TableRow) Fault). Reads (world c.args.sources.now) (facts c.args.sources.now) (covers_chain (world c.args.sources.now) c.args.chain.now)
    (comes_at (world c.args.sources.now) c.args.chain.now) (decides_given p.0 p.1) (rows_to_come c.args.leaf.now) (handed_out c.args.leaf.now) c.args.log.now
    c.contains_value.result (rows_to_come c.contains_value.new.leaf) (handed_out c.contains_value.new.leaf) c.contains_value.new.log)
    (λ i. (sym c.in-Some.ensures.some.0 i, sym c.in-Some.ensures.some.1 i)) c.contains_value.ensures.reads

pub returns-clause-reads : goal.returns-clause-reads
returns-clause-reads g c =
    subst (λ (decide : List (Value TableRow) → Bool). Reads (world c.args.sources.now) (facts c.args.sources.now) (covers_chain (world c.args.sources.now) c.args.chain.now)
    (comes_at (world c.args.sources.now) c.args.chain.now) decide (rows_to_come c.args.leaf.now) (handed_out c.args.leaf.now) c.args.log.now
    c.given_value.result (rows_to_come c.given_value.new.leaf) (handed_out c.given_value.new.leaf) c.given_value.new.log)
    (sym (c.sought_by.ensures.none c.in-None.is)) c.given_value.ensures.reads
