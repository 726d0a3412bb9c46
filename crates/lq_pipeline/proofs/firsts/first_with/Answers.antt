-- By an argument that was evaluated: item by item, or one value.
use Rattle.std.proofs.Common.{inr, Option, ◌∙◌, subst, sym}
use Rattle.lq_language.specs.TableRows.{TableRow}
use Rattle.lq_plan.specs.Handing.{handed_out, rows_to_come}
use Rattle.lq_plan.specs.Plans.{world}
use Rattle.lq_plan.specs.Watching.{facts}
use Rattle.lq_plan.specs.declared.bases.Base.{Base}
use Rattle.lq_pull.specs.declared.readers.Reader.{Reader}
use Rattle.lq_pipeline.specs.Places.{start_of}
use Rattle.lq_pipeline.specs.Reading.{covers_chain}
use Rattle.lq_pipeline.specs.Standings.{Pulled, handed_by, place_of}
use Rattle.lq_pipeline.proofs.GivenLemmas.{given_found, given_rows}
use Rattle.lq_pipeline.proofs.firsts.first_with.Goals as goal

pub returns-in-Some-clause-pulled : goal.returns-in-Some-clause-pulled
returns-in-Some-clause-pulled g c = λ f b is means.
    given_rows (world c.args.sources.now) (facts c.args.sources.now) f c.args.straight.now.chain.now b c.args.method is c.args.straight.now.table c.requires.leaf c.requires.items
    c.args.argument means c.rows_of-leaf.result c.rows_of-leaf.ensures.items c.rows_of-leaf.ensures.rows c.rows_of-leaf.ensures.none c.args.log.now c.in-Some.count
    (sym c.taken_by.ensures ∙ c.in-Some.is) c.next_row.result (place_of (world c.args.sources.now) f c.next_row.new.state) (handed_by c.next_row.new.state.leaf) c.next_row.new.log
    (c.next_row.ensures.pulled f)

pub returns-in-Some-clause-begun : goal.returns-in-Some-clause-begun
returns-in-Some-clause-begun g c = λ f b is. c.next_row.ensures.begun f (c.args.straight.now.table, c.requires.leaf, inr (c.args.method, b, is))

pub returns-clause-pulled : goal.returns-clause-pulled
returns-clause-pulled g c = λ f b is means.
    subst (λ (o : Option (Base TableRow Reader)). Pulled (world c.args.sources.now) (facts c.args.sources.now) (covers_chain (world c.args.sources.now) c.args.straight.now.chain.now) (start_of (world c.args.sources.now) f) 0 c.args.log.now c.first_value.result (place_of (world c.args.sources.now) f c.first_value.new.state) (handed_by o) c.value_with-found.new.log)
    (sym c.first_value.ensures.leaf)
    (given_found (world c.args.sources.now) (facts c.args.sources.now) f c.args.straight.now.chain.now b c.args.method is c.args.straight.now.table c.requires.leaf c.requires.items
    c.args.argument means c.rows_of-leaf.result c.rows_of-leaf.ensures.items c.rows_of-leaf.ensures.rows c.rows_of-leaf.ensures.none c.args.log.now
    (sym c.taken_by.ensures ∙ c.in-None.is) c.value_with-found.result c.first_value.result c.first_value.new.state (rows_to_come c.value_with-found.new.leaf)
    (handed_out c.value_with-found.new.leaf) c.value_with-found.new.log c.value_with-found.ensures.meant c.value_with-found.ensures.reads
    (c.first_value.ensures.gives (world c.args.sources.now) f))

pub returns-clause-begun : goal.returns-clause-begun
returns-clause-begun g c = λ f b is. c.first_value.ensures.begun f
