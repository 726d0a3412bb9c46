-- A block is stored at its place.
use Rattle.std.proofs.Common.{◌≡◌, length, take, arith, length-take-le}
use Rattle.std.proofs.lemmas.Simd.{length-put_chunk, take_more_put_chunk}
use Rattle.lq_json.proofs.text.store.Goals as goal

pub returns-clause-stored : goal.returns-clause-stored
returns-clause-stored g c =
    let front = take g.row.N c.args.block.now in
    let long : length front ≡ g.row.N = length-take-le g.row.N c.args.block.now c.requires.0 in
    take_more_put_chunk c.args.at c.args.bytes.now front _ (omega arith) c.requires.1

pub returns-clause-len : goal.returns-clause-len
returns-clause-len g c = length-put_chunk c.args.at c.args.bytes.now (take g.row.N c.args.block.now)
