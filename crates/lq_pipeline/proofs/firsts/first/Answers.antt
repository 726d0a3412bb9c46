-- Each head starts where the form does.
use Rattle.std.proofs.Common.{[], inl, List, None, Option, ◌∙◌, ap, subst, sym}
use Rattle.lq_value.specs.declared.value.Value.{Value}
use Rattle.lq_language.specs.Enumerable.{all}
use Rattle.lq_language.specs.Meaning.{as_truth, simple_meaning}
use Rattle.lq_language.specs.TableRows.{TableRow}
use Rattle.lq_tree.specs.FormMeaning.{form_meaning, is_true, with_item}
use Rattle.lq_plan.specs.Counts.{simple_limit}
use Rattle.lq_plan.specs.Handing.{handed_out, rows_to_come}
use Rattle.lq_plan.specs.Meanings.{holds_of}
use Rattle.lq_plan.specs.Plans.{world}
use Rattle.lq_plan.specs.Pulling.{base_stream, items_at}
use Rattle.lq_plan.specs.Watching.{facts}
use Rattle.lq_plan.specs.declared.bases.Base.{Base}
use Rattle.lq_plan.specs.declared.slots.Slots.TheVariants as slots
use Rattle.lq_plan.proofs.SlotLaws.{no_values}
use Rattle.lq_pull.specs.declared.readers.Reader.{Reader}
use Rattle.lq_pipeline.specs.Heads.{IsHeadOver, fails}
use Rattle.lq_pipeline.specs.Places.{covers_beside, start_of}
use Rattle.lq_pipeline.specs.Reading.{covers_all, covers_chain}
use Rattle.lq_pipeline.specs.Settling.{reaches}
use Rattle.lq_pipeline.specs.Standings.{Pulled, handed_by, place_of}
use Rattle.lq_pipeline.specs.declared.chains.Head.{Head}
use Rattle.lq_pipeline.specs.declared.chains.Head.TheVariants as head
use Rattle.lq_pipeline.proofs.FirstLemmas.{first_found, first_rows}
use Rattle.lq_pipeline.proofs.HeadLemmas.{all_covers, chain_covered, needs_all, needs_simple}
use Rattle.lq_pipeline.proofs.StartLemmas.{all_means, left_is, plain_start, simple_means}
use Rattle.lq_pipeline.proofs.firsts.first.Goals as goal

pub returns-in-Plain-clause-pulled : goal.returns-in-Plain-clause-pulled
returns-in-Plain-clause-pulled g c =
    λ f over.
    first_rows (world c.args.sources.now) (facts c.args.sources.now) f c.args.straight.now.chain.now c.args.straight.now.table c.rows_of-leaf.result c.rows_of-leaf.ensures.rows c.rows_of-leaf.ensures.none c.args.log.now None (plain_start (world c.args.sources.now) c.args.straight.now.chain.now c.args.straight.now.table c.requires.items (base_stream c.rows_of-leaf.result) c.rows_of-leaf.ensures.items f (subst (λ (h : Head). IsHeadOver f h c.args.straight.now.chain.now) c.in-Plain.is over) c.requires.leaf) (λ w covered. chain_covered (world c.args.sources.now) f head.Plain c.args.straight.now.chain.now c.args.straight.now.table (subst (λ (h : Head). IsHeadOver f h c.args.straight.now.chain.now) c.in-Plain.is over) c.requires.leaf w covered)
    c.next_row.result (place_of (world c.args.sources.now) f c.next_row.new.state) (handed_by c.next_row.new.state.leaf) c.next_row.new.log (c.next_row.ensures.pulled f)

pub returns-in-Plain-clause-begun : goal.returns-in-Plain-clause-begun
returns-in-Plain-clause-begun g c = λ f over. c.next_row.ensures.begun f (c.args.straight.now.table, c.requires.leaf, inl (subst (λ (h : Head). IsHeadOver f h c.args.straight.now.chain.now) c.in-Plain.is over))

pub returns-in-Simple-clause-pulled : goal.returns-in-Simple-clause-pulled
returns-in-Simple-clause-pulled g c =
    λ f over.
    subst (λ (o : Option (Base TableRow Reader)). Pulled (world c.args.sources.now) (facts c.args.sources.now) (covers_beside (world c.args.sources.now) f) (start_of (world c.args.sources.now) f) 0 c.args.log.now c.first_value.result (place_of (world c.args.sources.now) f c.first_value.new.state) (handed_by o) c.simple_value-found.new.log)
    (sym c.first_value.ensures.leaf)
    (first_found (world c.args.sources.now) (facts c.args.sources.now) f c.args.straight.now.chain.now c.args.straight.now.table c.rows_of-leaf.result c.rows_of-leaf.ensures.rows c.rows_of-leaf.ensures.none c.args.log.now (covers_chain (world c.args.sources.now) c.args.straight.now.chain.now) (reaches (simple_limit c.in-Simple.method)) (needs_simple (world c.args.sources.now) f c.in-Simple.method c.in-Simple.of.now c.args.straight.now.chain.now c.args.straight.now.table (subst (λ (h : Head). IsHeadOver f h c.args.straight.now.chain.now) c.in-Simple.is over) c.requires.leaf)
    (λ w covered. chain_covered (world c.args.sources.now) f (head.Simple c.in-Simple.method c.in-Simple.of) c.args.straight.now.chain.now c.args.straight.now.table (subst (λ (h : Head). IsHeadOver f h c.args.straight.now.chain.now) c.in-Simple.is over) c.requires.leaf w covered) c.simple_value-found.result c.first_value.result c.first_value.new.state (rows_to_come c.simple_value-found.new.leaf) (handed_out c.simple_value-found.new.leaf) c.simple_value-found.new.log
    (left_is (world c.args.sources.now) c.args.straight.now.chain.now c.args.straight.now.table c.requires.items (base_stream c.rows_of-leaf.result) c.rows_of-leaf.ensures.items f (simple_meaning c.in-Simple.method c.in-Simple.of.now (items_at (world c.args.sources.now) [] c.args.straight.now.chain.now (base_stream c.rows_of-leaf.result))) c.simple_value-found.result (simple_means (world c.args.sources.now) c.args.straight.now.chain.now c.args.straight.now.table c.requires.items (base_stream c.rows_of-leaf.result) c.rows_of-leaf.ensures.items f c.in-Simple.method c.in-Simple.of.now (subst (λ (h : Head). IsHeadOver f h c.args.straight.now.chain.now) c.in-Simple.is over)) c.simple_value-found.ensures.meant)
    c.simple_value-found.ensures.reads (c.first_value.ensures.gives (world c.args.sources.now) f))

pub returns-in-Simple-clause-begun : goal.returns-in-Simple-clause-begun
returns-in-Simple-clause-begun g c = λ f over. c.first_value.ensures.begun f

pub returns-in-Given-clause-pulled : goal.returns-in-Given-clause-pulled
returns-in-Given-clause-pulled g c = λ f over. c.first_given.ensures.pulled f (subst (λ (h : Head). IsHeadOver f h c.args.straight.now.chain.now) c.in-Given.is over)

pub returns-in-Given-clause-begun : goal.returns-in-Given-clause-begun
returns-in-Given-clause-begun g c = λ f over. c.first_given.ensures.begun f (subst (λ (h : Head). IsHeadOver f h c.args.straight.now.chain.now) c.in-Given.is over)

pub returns-clause-pulled : goal.returns-clause-pulled
returns-clause-pulled g c =
    λ f over.
    subst (λ (o : Option (Base TableRow Reader)). Pulled (world c.args.sources.now) (facts c.args.sources.now) (covers_beside (world c.args.sources.now) f) (start_of (world c.args.sources.now) f) 0 c.args.log.now c.first_value-in-All.result (place_of (world c.args.sources.now) f c.first_value-in-All.new.state) (handed_by o) c.all_value-found.new.log)
    (sym c.first_value-in-All.ensures.leaf)
    (first_found (world c.args.sources.now) (facts c.args.sources.now) f c.args.straight.now.chain.now c.args.straight.now.table c.rows_of-leaf.result c.rows_of-leaf.ensures.rows c.rows_of-leaf.ensures.none c.args.log.now (covers_all (world c.args.sources.now) c.args.straight.now.chain.now c.in-All.condition.now) (fails (world c.args.sources.now) c.in-All.condition.now) (needs_all (world c.args.sources.now) f c.args.straight.now.chain.now c.in-All.condition.now c.args.straight.now.table (subst (λ (h : Head). IsHeadOver f h c.args.straight.now.chain.now) c.in-All.is over) c.requires.leaf)
    (λ w covered. sym (all_covers (world c.args.sources.now) f c.args.straight.now.chain.now c.in-All.condition.now w (subst (λ (h : Head). IsHeadOver f h c.args.straight.now.chain.now) c.in-All.is over)) ∙ covered) c.all_value-found.result c.first_value-in-All.result c.first_value-in-All.new.state
    (rows_to_come c.all_value-found.new.leaf) (handed_out c.all_value-found.new.leaf) c.all_value-found.new.log
    (left_is (world c.args.sources.now) c.args.straight.now.chain.now c.args.straight.now.table c.requires.items (base_stream c.rows_of-leaf.result) c.rows_of-leaf.ensures.items f (as_truth (all (holds_of (world c.args.sources.now) c.in-All.condition.now slots.Empty) (items_at (world c.args.sources.now) [] c.args.straight.now.chain.now (base_stream c.rows_of-leaf.result)).0 (items_at (world c.args.sources.now) [] c.args.straight.now.chain.now (base_stream c.rows_of-leaf.result)).1)) c.all_value-found.result (ap (λ (vs : List (Value TableRow)). as_truth (all (λ v. is_true (world c.args.sources.now) (form_meaning (world c.args.sources.now) c.in-All.condition.now) (with_item (world c.args.sources.now) vs v)) (items_at (world c.args.sources.now) [] c.args.straight.now.chain.now (base_stream c.rows_of-leaf.result)).0 (items_at (world c.args.sources.now) [] c.args.straight.now.chain.now (base_stream c.rows_of-leaf.result)).1)) no_values ∙ all_means (world c.args.sources.now) c.args.straight.now.chain.now c.args.straight.now.table c.requires.items (base_stream c.rows_of-leaf.result) c.rows_of-leaf.ensures.items f c.in-All.condition.now (subst (λ (h : Head). IsHeadOver f h c.args.straight.now.chain.now) c.in-All.is over)) c.all_value-found.ensures.meant)
    c.all_value-found.ensures.reads (c.first_value-in-All.ensures.gives (world c.args.sources.now) f))

pub returns-clause-begun : goal.returns-clause-begun
returns-clause-begun g c = λ f over. c.first_value-in-All.ensures.begun f
