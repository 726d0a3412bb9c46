use Rattle.std.proofs.Common.{◌∙◌, ◌<◌, ◌≤◌, ap, arith, length, refl}
use Rattle.std.proofs.lemmas.List.{take_all}
use Rattle.std.proofs.lemmas.Option.{slice_get_read}
use Rattle.lq_machine.specs.States.{schemas_of}
use Rattle.lq_policy.specs.Roles.{number_of}
use Rattle.lq_pull.specs.Views.{sight_of}
use Rattle.lq_pull.proofs.ColumnLemmas.{seen_distinct}
use Rattle.lq_pull.proofs.SeenLemmas.{more, whole}
use Rattle.lq_pull.proofs.TableLemmas.{all_seen, kept_all, kept_more, schemas_more}
use Rattle.lq_pull.proofs.WholeLemmas.{is_seen}
use Rattle.lq_pull.proofs.tables.with_scans.Goals as goal

pub loop-table-preserved : goal.loop-table-preserved
loop-table-preserved c =
    let v = c.args.view.now in (
      schemas_more c.loop-table.table v.store.now c.loop-table.tables.items c.push.new.self.items _ c.loop-table.invariant.0 c.in_ok-push.ensures.items c.schema-schema.ensures.value,
      more v.policies.now (number_of v.role) c.loop-table.table v.store.now c.loop-table.tables.items c.push.new.self.items _
          c.loop-table.invariant.1 c.in_ok-push.ensures.items c.unprepared-rows.ensures,
      kept_more c.loop-table.table v.store.now c.loop-table.invariant.2 c.schema-schema.ensures.table,
    )

pub returns-clause-seen : goal.returns-clause-seen
returns-clause-seen c =
    let v = c.args.view.now in
    let all : length v.store.now ≤ c.loop-table.table = omega (arith, c.loop-table-test.false, c.len.ensures.value) in
    all_seen c.loop-table.table (sight_of v) c.loop-table.tables.items all c.loop-table.invariant.0
    (whole v.policies.now (number_of v.role) c.loop-table.table v.store.now _ c.loop-table.invariant.1 all) c.loop-table.invariant.2

pub returns-clause-columns : goal.returns-clause-columns
returns-clause-columns c =
    let v = c.args.view.now in
    let all : length v.store.now ≤ c.loop-table.table = omega (arith, c.loop-table-test.false, c.len.ensures.value) in
    seen_distinct v.store.now c.loop-table.tables.items
    (c.loop-table.invariant.0 ∙ ap schemas_of (take_all c.loop-table.table v.store.now all))
    (kept_all c.loop-table.table v.store.now c.loop-table.invariant.2 all)

pub returns-clause-world : goal.returns-clause-world
returns-clause-world c = λ predicates. is_seen (sight_of c.args.view.now) predicates c.loop-table.tables.items (returns-clause-seen c)
