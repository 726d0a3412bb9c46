-- One more word of the others joined.
use Rattle.std.proofs.Common.{◌∙◌, List, ℕ, set, length-set, get_or, ap, arith}
use Rattle.std.proofs.lemmas.List.{get_or_read}
use Rattle.std.specs.Prelude.{bit_or}
use Rattle.lq_policy.specs.Memberships.{is_marked}
use Rattle.lq_policy.proofs.WordLemmas.{is_bit, one_joined}
use Rattle.lq_policy.proofs.role_set.RoleSet.insert_all.Goals as goal

pub loop-place-preserved : goal.loop-place-preserved
loop-place-preserved c =
    let words = c.loop-place.self.words.items in
    let others = c.args.others.now.words.items in
    let place = c.loop-place.place in
    let theirs = c.deref-word-items.result.now in
    let own = c.index_mut.result.now in
    let read = get_or_read words place own (omega arith) c.index_mut.ensures.value 0 in (
      omega (arith, length-set words place (bit_or own (get_or theirs place 0))),
      λ n.
          ap (λ (them : List ℕ). is_bit (set words place (bit_or own (get_or them place 0))) n) c.deref-word-items.ensures.value
          ∙ ap (λ word. is_bit (set words place (bit_or word (get_or others place 0))) n) read
          ∙ one_joined words others place n (is_marked c.args.self.now n) (omega arith) (c.loop-place.invariant.1 n),
    )
