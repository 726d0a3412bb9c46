-- One place more: its rank goes behind the others, or it has none.
use Rattle.std.proofs.Common.{rules, ◌≡◌, ◌<◌, ◌+◌, suc, arith, refl, length, get_or, length-set, ◌∙◌}
use Rattle.std.proofs.lemmas.List.{get_or_read_under}
use Rattle.lq_index.proofs.RemovalLemmas.{goes, stays}
use Rattle.lq_index.proofs.renumbering.renumber_places.Goals as goal
use Rattle.lq_index.proofs.renumbering.renumber_places.Goals.{then-rank-place, else-rank-place}

pub loop-at-preserved : goal.loop-at-preserved
loop-at-preserved c =
    let old = c.args.places.now.items in
    let places = c.loop-at.places.items in
    let inv = c.loop-at.invariant in
    let n : suc c.loop-at.at ≡ c.loop-at.at + 1 = omega arith in
    let k : suc c.loop-at.count ≡ c.loop-at.count + 1 = omega arith in
    let inside : c.loop-at.at < length old = search rules in
    let here : c.index-place.result.now ≡ get_or places c.loop-at.at 0
    = get_or_read_under places c.loop-at.at (length places) c.index-place.result.now 0 c.index-place.ensures (omega (arith, inside, inv.long)) refl in
    elim c.if-rank-place.branch [
      | then-rank-place w ↦
          let step = stays c.args.ranks.now old places c.loop-at.count c.loop-at.at inv.few inside inv.long inv.done inv.left
          c.index-place.result.now c.rank_of-rank.result here c.rank_of-rank.ensures w.if-rank-place.true in
          rw (w.places-is, w.count-is, ← n, ← k) (record { few = omega (arith, inv.few); long = length-set places c.loop-at.count c.rank_of-rank.result ∙ inv.long; done = step.0; left = step.1 })
      | else-rank-place w ↦
          let step = goes c.args.ranks.now old places c.loop-at.count c.loop-at.at inv.few inside inv.long inv.done inv.left
          c.index-place.result.now c.rank_of-rank.result here c.rank_of-rank.ensures w.if-rank-place.false in
          rw (w.places-is, w.count-is, ← n) (record { few = omega (arith, inv.few); long = inv.long; done = step.0; left = step.1 })
    ]
