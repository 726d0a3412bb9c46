use Rattle.std.proofs.Common.{rules, ◌≡◌, Err, refl, string_bytes, sym}
use Rattle.lq_host.specs.Hosts.{hosts_of}
use Rattle.lq_policy.specs.Roles.{number_of}
use Rattle.lq_serve.proofs.LoadingLemmas.{Answered-fault}
use Rattle.lq_serve.proofs.StartingLemmas.{NotStarted-policies, NotStarted-prepared, NotStarted-role, NotStarted-tables, Started-all, Started-behind, agrees_before}
use Rattle.lq_serve.proofs.starting.load.Goals as goal

pub returns-in_err-store-clause-err : goal.returns-in_err-store-clause-err
returns-in_err-store-clause-err g c =
    let same : c.from_residual.result ≡ Err c.in_err-store.field-0.0 = search rules in
    rw same (NotStarted-tables (hosts_of c.args.hosts).predicates _ _ _ _ c.in_err-store.field-0.0 (rw c.as_slice.ensures.value at c.in_err-store.ensures.err))

pub returns-in-Err-clause-err : goal.returns-in-Err-clause-err
returns-in-Err-clause-err g c =
    let loaded = rw c.as_slice.ensures.value at c.in_ok-store.ensures.ok in
    let given = rw c.as_str.ensures.value at c.in-Err.ensures.given in
    let agrees = agrees_before (g.F.Files.holds c.args.files.now) (g.F.Files.holds c.load_tables.new.files) (string_bytes c.args.options.now.policy) given.0
    (c.in_ok-store.ensures.keeps (string_bytes c.args.options.now.policy)) given.1 in
    let tells = rw c.as_str-in-Err.ensures.value at c.refusal.ensures in
    NotStarted-policies (hosts_of c.args.hosts).predicates _ _ _ _ _ _ given.0 c.in-Err.fault _ loaded agrees (Answered-fault _ _ _ _ given.2) given.3 tells

pub returns-in-Some-clause-ok : goal.returns-in-Some-clause-ok
returns-in-Some-clause-ok g c =
    let loaded = rw c.as_slice.ensures.value at c.in_ok-store.ensures.ok in
    let given = rw c.as_str.ensures.value at c.in-Ok.ensures.given in
    let agrees = agrees_before (g.F.Files.holds c.args.files.now) (g.F.Files.holds c.load_tables.new.files) (string_bytes c.args.options.now.policy) given.0
    (c.in_ok-store.ensures.keeps (string_bytes c.args.options.now.policy)) given.1 in
    let found = rw c.as_str-2.ensures.value at c.in-Some.ensures in
    Started-all (hosts_of c.args.hosts).predicates _ _ _ _ c.prepared.result _ c.prepared.ensures.ok
    (Started-behind (hosts_of c.args.hosts).predicates _ _ _ _ _ _ given.0 _ (number_of c.in-Some.role) _ loaded agrees (given.2.all (λ e. cc e)) given.3 (sym found) refl)

pub returns-in-Some-clause-err : goal.returns-in-Some-clause-err
returns-in-Some-clause-err g c =
    let loaded = rw c.as_slice.ensures.value at c.in_ok-store.ensures.ok in
    let given = rw c.as_str.ensures.value at c.in-Ok.ensures.given in
    NotStarted-prepared (hosts_of c.args.hosts).predicates _ _ _ _ _ _ given.0 c.prepared.result loaded (given.2.all (λ e. cc e)) c.prepared.ensures.err

pub returns-in-None-clause-err : goal.returns-in-None-clause-err
returns-in-None-clause-err g c =
    let loaded = rw c.as_slice.ensures.value at c.in_ok-store.ensures.ok in
    let given = rw c.as_str.ensures.value at c.in-Ok.ensures.given in
    let agrees = agrees_before (g.F.Files.holds c.args.files.now) (g.F.Files.holds c.load_tables.new.files) (string_bytes c.args.options.now.policy) given.0
    (c.in_ok-store.ensures.keeps (string_bytes c.args.options.now.policy)) given.1 in
    let found = rw c.as_str-2.ensures.value at c.in-None.ensures in
    let tells = rw c.as_str-in-None.ensures.value at c.refusal-in-None.ensures in
    NotStarted-role (hosts_of c.args.hosts).predicates _ _ _ _ _ _ given.0 _ _ loaded agrees (given.2.all (λ e. cc e)) given.3 (sym found) tells
