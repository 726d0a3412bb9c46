-- The argument is evaluated first, and what the same watches cover is asked for it.
use Rattle.std.proofs.Common.{[], Err, Option, refl, subst, sym}
use Rattle.lq_language.specs.TableRows.{TableRow}
use Rattle.lq_tree.specs.FormMeaning.{form_meaning}
use Rattle.lq_plan.specs.Plans.{world}
use Rattle.lq_plan.specs.Watching.{facts}
use Rattle.lq_plan.specs.declared.bases.Base.{Base}
use Rattle.lq_pull.specs.declared.readers.Reader.{Reader}
use Rattle.lq_pipeline.specs.Places.{covers_beside, start_of}
use Rattle.lq_pipeline.specs.Reading.{covers_chain}
use Rattle.lq_pipeline.specs.Standings.{Pulled, handed_by, place_of}
use Rattle.lq_pipeline.proofs.GivenLemmas.{argument_means, behind_argument, covered_argument, covered_source}
use Rattle.lq_pipeline.proofs.PipeLemmas.{passes_more, refused_first}
use Rattle.lq_pipeline.proofs.WorkLemmas.{lost_begun, no_leaf}
use Rattle.lq_pipeline.proofs.firsts.first_given.Goals as goal

pub returns-in-Ok-clause-pulled : goal.returns-in-Ok-clause-pulled
returns-in-Ok-clause-pulled g c = λ f is.
    behind_argument (world c.args.sources.now) (facts c.args.sources.now) (covers_beside (world c.args.sources.now) f) (start_of (world c.args.sources.now) f) 0 c.args.log.now c.form_value.new.log
    (λ w start covered. c.form_value.ensures.calls w start (covered_argument (world c.args.sources.now) f c.args.method c.args.straight.now.chain.now c.args.argument.now is w covered))
    c.first_with.result (place_of (world c.args.sources.now) f c.first_with.new.state) (handed_by c.first_with.new.state.leaf) c.first_with.new.log
    (passes_more (world c.args.sources.now) f (facts c.args.sources.now) (covers_beside (world c.args.sources.now) f) (covers_chain (world c.args.sources.now) c.args.straight.now.chain.now)
    (covered_source (world c.args.sources.now) f c.args.method c.args.straight.now.chain.now c.args.argument.now is) (start_of (world c.args.sources.now) f) 0 c.form_value.new.log
    c.first_with.result (place_of (world c.args.sources.now) f c.first_with.new.state) (handed_by c.first_with.new.state.leaf) c.first_with.new.log
    (c.first_with.ensures.pulled f c.args.argument.now is
    (argument_means (form_meaning (world c.args.sources.now) c.args.argument.now []) c.form_value.result c.found.result c.found.ensures c.form_value.ensures.meant c.in-Ok.argument c.in-Ok.is)))

pub returns-in-Ok-clause-begun : goal.returns-in-Ok-clause-begun
returns-in-Ok-clause-begun g c = λ f is. c.first_with.ensures.begun f c.args.argument.now is

pub returns-in-Err-clause-pulled : goal.returns-in-Err-clause-pulled
returns-in-Err-clause-pulled g c = λ f is.
    subst (λ (o : Option (Base TableRow Reader)). Pulled (world c.args.sources.now) (facts c.args.sources.now) (covers_beside (world c.args.sources.now) f) (start_of (world c.args.sources.now) f) 0 c.args.log.now (Err c.in-Err.error) (place_of (world c.args.sources.now) f c.args.state.now) (handed_by o) c.form_value.new.log)
    (sym c.requires.none)
    (behind_argument (world c.args.sources.now) (facts c.args.sources.now) (covers_beside (world c.args.sources.now) f) (start_of (world c.args.sources.now) f) 0 c.args.log.now c.form_value.new.log
    (λ w start covered. c.form_value.ensures.calls w start (covered_argument (world c.args.sources.now) f c.args.method c.args.straight.now.chain.now c.args.argument.now is w covered))
    (Err c.in-Err.error) (place_of (world c.args.sources.now) f c.args.state.now) 0 c.form_value.new.log
    (refused_first (world c.args.sources.now) (facts c.args.sources.now) (covers_beside (world c.args.sources.now) f) f (start_of (world c.args.sources.now) f) 0 0 c.form_value.new.log
    c.in-Err.error c.args.state.now c.requires.lost refl))

pub returns-in-Err-clause-begun : goal.returns-in-Err-clause-begun
returns-in-Err-clause-begun g c = λ f is. lost_begun f c.args.state.now c.requires.lost (no_leaf c.args.state.now.leaf c.requires.none)
