-- One bit set, of the word that the index gave.
use Rattle.std.proofs.Common.{◌∙◌, ℕ, ◌/◌, ◌%◌, ◌^◌, ◌*◌, ◌==◌, ◌||◌, ◌<◌, length, set, ap, arith}
use Rattle.std.proofs.lemmas.List.{get_or_read}
use Rattle.std.specs.Prelude.{bit_or}
use Rattle.lq_policy.proofs.WordLemmas.{is_bit, one_set}
use Rattle.lq_policy.proofs.role_set.RoleSet.insert.Goals as goal

pub returns : goal.returns
returns c n =
    let words = c.lengthen.new.self.words.items in
    let place : ℕ = c.args.number / 64 in
    let within : place < length words = omega (arith, c.in_ok-lengthen.ensures.long) in
    let read = get_or_read words place c.index_mut.result.now within c.index_mut.ensures.value 0 in
    ap (λ word. is_bit (set words place (bit_or word (1 * 2 ^ (c.args.number % 64) % 2 ^ 64))) n) read
    ∙ one_set words c.args.number n within
    ∙ ap (λ b. (c.args.number == n) || b) (c.in_ok-lengthen.ensures.same n)
