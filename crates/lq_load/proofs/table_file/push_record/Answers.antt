use Rattle.std.proofs.Common.{◌≡◌, ◌<◌, ◌^◌, ◌∙◌, rules, arith, sym, length, None}
use Rattle.csv.specs.Records.{fields_of}
use Rattle.lq_store.specs.Calls.{refusal_of}
use Rattle.lq_load.proofs.CellLemmas.{taken}
use Rattle.lq_load.proofs.HeaderLemmas.{kept-fair}
use Rattle.lq_load.proofs.TableFileLemmas.{only_memory}
use Rattle.lq_load.proofs.table_file.push_record.Goals as goal

pub memory_of-requires : goal.memory_of-requires
memory_of-requires c =
    let size : length c.args.table.now.schema.columns ≡ length (fields_of c.args.row.now) = search rules in
    let room : c.args.table.now.next < 2 ^ 64 = omega arith in
    let none : refusal_of c.args.table.now c.in_ok-cells.cells ≡ None =
    taken c.args.table.now c.args.place (fields_of c.args.row.now) c.in_ok-cells.cells (kept-fair c.args.table.now.schema c.schema.ensures.table.rules) size
    (rw (c.as_slice-columns.ensures, c.schema.ensures.value) at c.in_ok-cells.ensures) room in
    only_memory c.in-Err.error (sym none ∙ (rw c.into_vec.ensures at c.in-Err.ensures.0))
