-- Over the tables that are scanned.
use Rattle.std.proofs.Common.{◌∙◌, List, ap, refl, subst}
use Rattle.lq_language.specs.TableRows.{TableRow}
use Rattle.lq_language.specs.Worlds.{World}
use Rattle.lq_guard.specs.SeenRows.{cells_of, table_of}
use Rattle.lq_plan.specs.Worlds.{world_of}
use Rattle.lq_plan.specs.declared.tables.TableRows.{TableRows}
use Rattle.lq_pull.specs.Readers.{rows_left}
use Rattle.lq_pull.specs.declared.readers.Reader.{Reader}
use Rattle.lq_pull.specs.Views.{row_facts}
use Rattle.lq_pipeline.specs.Reading.{covers_chain}
use Rattle.lq_pipeline.specs.Standings.{Pulled, handed_by, place_of, rows_place}
use Rattle.lq_pipeline.proofs.PipeLemmas.{refused_first}
use Rattle.lq_pipeline.proofs.WorkLemmas.{lost_begun}
use Rattle.lq_pipeline.proofs.pipes.Pull.go_on.Goals as goal

pub returns-in-Ok-clause-pulled : goal.returns-in-Ok-clause-pulled
returns-in-Ok-clause-pulled g c = λ f.
    subst (λ (w : World TableRow). Pulled w row_facts (covers_chain w c.args.chain.now) (rows_place w c.args.chain.now c.args.limit c.args.state.now.leaf) (handed_by c.args.state.now.leaf)
    c.args.log.now c.next_row.result (place_of w f c.next_row.new.state) (handed_by c.next_row.new.state.leaf) c.next_row.new.log)
    (c.new-sources.ensures ∙ ap (λ (ts : List (TableRows Reader)). world_of table_of cells_of rows_left (g.H.Asks.known c.args.hosts.now) ts) c.as_slice.ensures.value ∙ c.in-Ok.ensures.world (g.H.Asks.known c.args.hosts.now)) (c.next_row.ensures.pulled f)

pub returns-in-Ok-clause-begun : goal.returns-in-Ok-clause-begun
returns-in-Ok-clause-begun g c = c.next_row.ensures.begun

pub returns-in-Err-clause-pulled : goal.returns-in-Err-clause-pulled
returns-in-Err-clause-pulled g c = λ f. refused_first _ _ _ f _ _ _ _ _ _ c.requires.lost refl

pub returns-in-Err-clause-begun : goal.returns-in-Err-clause-begun
returns-in-Err-clause-begun g c = λ f over. lost_begun f _ c.requires.lost c.requires.rows
