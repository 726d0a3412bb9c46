-- The text of an int stands in front of the place where its digits end.
use Rattle.std.proofs.Common.{◌≡◌, ◌∷◌, ◌++◌, ◌+◌, ◌-◌, ◌∙◌, List, ℕ, ap, ap₂, arith, decimal, drop, length, refl, rules, slice_set, take, take_at, to_z-of_z}
use Rattle.std.proofs.lemmas.Fmt.{length-decimal-le}
use Rattle.std.proofs.lemmas.List.{drop-set}
use Rattle.std.specs.Fmt.{signed_decimal}
use Rattle.itoa.proofs.Decimal.{minus_first}
use Rattle.lq_json.proofs.scalar.place_int.Goals as goal

pub write_digits-start-requires : goal.write_digits-start-requires
write_digits-start-requires c = (omega (arith, length-decimal-le 10 c.unsigned_abs.result (omega arith) (omega arith) (omega arith)), search rules)

pub overflow_sub-block : goal.overflow_sub-block
overflow_sub-block c = omega (arith, length-decimal-le 10 c.unsigned_abs.result (omega arith) (omega arith) (omega arith))

pub overflow_sub-result : goal.overflow_sub-result
overflow_sub-result c = omega (arith, length-decimal-le 10 c.unsigned_abs.result (omega arith) (omega arith) (omega arith))

pub returns-clause-written : goal.returns-clause-written
returns-clause-written c =
    let w = c.write_digits-start in
    let n = c.unsigned_abs.result in
    let text : List ℕ = 45 ∷ decimal n in
    let long = length-decimal-le 10 n (omega arith) (omega arith) (omega arith) in
    let next : w.result - 1 + 1 ≡ w.result = omega (arith, long) in
    let count : 16 - (w.result - 1) ≡ length text = omega (arith, long) in
    let back = to_z-of_z c.ranges.int in
    let negative : text ≡ signed_decimal c.args.int = rw (c.unsigned_abs.ensures.value, back) (minus_first c.args.int (rw back at c.if-int-ge0.false)) in
    let behind : drop (w.result - 1) (slice_set w.new.buf (w.result - 1) 45) ≡ text ++ drop 16 c.args.block.now =
    drop-set w.new.buf (w.result - 1) 45 (search rules) ∙ ap (λ k. 45 ∷ drop k w.new.buf) next ∙ ap (λ (t : List ℕ). 45 ∷ t) w.ensures.written in
    ap₂ (λ (k : ℕ) (t : List ℕ). take k t) count behind ∙ take_at text (drop 16 c.args.block.now) (length text) refl ∙ negative
