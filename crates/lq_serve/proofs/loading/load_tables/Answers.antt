use Rattle.std.proofs.Common.{arith, ◌<◌, ◌∙◌, length, string_bytes, add-one}
use Rattle.lq_serve.proofs.LoadingLemmas.{Agrees-same, Loaded-more, RefusedBy-fault, map-split, take-map-more}
use Rattle.lq_serve.proofs.loading.load_tables.Goals as goal

pub returns-in-Err-clause-err : goal.returns-in-Err-clause-err
returns-in-Err-clause-err g c =
    let file = string_bytes c.name-item.result in
    let below : c.loop-name.name-index < length c.args.names.now = omega arith in
    let split = rw (← c.name-item.is) at (map-split string_bytes c.args.names.now c.loop-name.name-index c.name-item.result below) in
    let added = rw c.as_str.ensures.value at c.in-Err.ensures.added in
    let tells = rw c.as_str-in-Err.ensures.value at c.refusal.ensures in
    let agrees = Agrees-same (g.F.Files.holds c.args.files.now) (g.F.Files.holds c.loop-name.files) file added.0 (c.loop-name.invariant.keeps file) added.1 in
    RefusedBy-fault _ _ _ _ _ _ _ _ _ added.0 _ _ c.loop-name.invariant.far agrees added.2 added.3 split tells

pub loop-name-preserved : goal.loop-name-preserved
loop-name-preserved g c =
    let file = string_bytes c.name-item.result in
    let below : c.loop-name.name-index < length c.args.names.now = omega arith in
    let more = rw (← c.name-item.is) at (take-map-more string_bytes c.args.names.now c.loop-name.name-index c.name-item.result below) in
    let added = rw c.as_str.ensures.value at c.in_default.ensures.added in
    let agrees = Agrees-same (g.F.Files.holds c.args.files.now) (g.F.Files.holds c.loop-name.files) file added.0 (c.loop-name.invariant.keeps file) added.1 in
    record {
      far = rw (add-one c.loop-name.name-index, more) (Loaded-more _ _ _ _ _ _ _ _ added.0 c.loop-name.invariant.far agrees (added.2.all (λ e. cc e)) added.3);
      keeps = λ n. c.add_file.ensures.keeps n ∙ c.loop-name.invariant.keeps n;
    }
