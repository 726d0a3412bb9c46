-- By where the pipe stands.
use Rattle.std.proofs.Common.{◌∙◌, [], ap, refl, reverse, subst, sym}
use Rattle.lq_pull.specs.Views.{sight_of, world_seen}
use Rattle.lq_pipeline.specs.Standings.{IsStateBy, place_by}
use Rattle.lq_pipeline.specs.declared.steps.Standing.{Standing}
use Rattle.lq_pipeline.proofs.WorkLemmas.{given_pulls, lost_pulls, new_pulls, rows_pull}
use Rattle.lq_pipeline.proofs.pipes.PullWork.work.Goals as goal

pub returns-in-New : goal.returns-in-New
returns-in-New g c = new_pulls _ _ c.args.state.now _ (sym c.replace.ensures.value ∙ c.in-New.is) c.requires _ _ _ c.begin.ensures.pulls c.begin.ensures.begun

pub returns-in-Rows : goal.returns-in-Rows
returns-in-Rows g c =
    let is = sym c.replace.ensures.value ∙ c.in-Rows.is in
    let ready = subst (λ (s : Standing). IsStateBy c.args.self.tree.now.form s c.args.state.now.leaf) is c.requires in
    rows_pull (world_seen (sight_of c.args.self.view) (g.H.Asks.known c.args.hosts.now)) c.args.self.tree.now.form c.args.state.now c.go_on.new.state c.in-Rows.chain.now c.in-Rows.limit ready.1
    (ap (place_by (world_seen (sight_of c.args.self.view) (g.H.Asks.known c.args.hosts.now)) c.args.self.tree.now.form c.args.state.now.leaf) is) c.args.log.now c.go_on.result
    c.go_on.new.log (c.go_on.ensures.pulled c.args.self.tree.now.form) (c.go_on.ensures.begun c.args.self.tree.now.form ready.1)

pub returns-in-Items : goal.returns-in-Items
returns-in-Items g c =
    let is = sym c.replace.ensures.value ∙ c.in-Items.is in
    let world = world_seen (sight_of c.args.self.view) (g.H.Asks.known c.args.hosts.now) in
    given_pulls world c.args.self.tree.now.form c.args.state.now c.give.new.self (reverse c.in-Items.items.items, c.in-Items.end)
    (ap (place_by world c.args.self.tree.now.form c.args.state.now.leaf) is) c.args.log.now c.give.result (c.give.ensures.gives world c.args.self.tree.now.form) c.give.ensures.leaf
    (c.give.ensures.begun c.args.self.tree.now.form (subst (λ (s : Standing). IsStateBy c.args.self.tree.now.form s c.args.state.now.leaf) is c.requires))

pub returns-in-Over : goal.returns-in-Over
returns-in-Over g c =
    let is = sym c.replace.ensures.value ∙ c.in-Over.is in
    let world = world_seen (sight_of c.args.self.view) (g.H.Asks.known c.args.hosts.now) in
    given_pulls world c.args.self.tree.now.form c.args.state.now c.end.new.self ([], c.in-Over.end)
    (ap (place_by world c.args.self.tree.now.form c.args.state.now.leaf) is) c.args.log.now c.end.result (c.end.ensures.gives world c.args.self.tree.now.form) c.end.ensures.leaf
    (c.end.ensures.begun c.args.self.tree.now.form (subst (λ (s : Standing). IsStateBy c.args.self.tree.now.form s c.args.state.now.leaf) is c.requires))

pub returns-in-Lost : goal.returns-in-Lost
returns-in-Lost g c = lost_pulls _ _ c.args.state.now _ (sym c.replace.ensures.value ∙ c.in-Lost.is) c.replace.ensures.after refl c.requires _ _
