-- What a store of a block leaves in front of a place.
use Rattle.std.proofs.Common.{◌≡◌, ◌++◌, ◌+◌, ◌≤◌, ◌∙◌, List, ℕ, ap, arith, drop_at, length, length-take-le, sym, take, take-add, take-take, take_at}

-- of a block that was stored only the first bytes count
pub block_put : (bytes new block : List ℕ) (len n count : ℕ) → len ≤ length bytes → count ≤ n → take (len + n) new ≡ take len bytes ++ take n block
    → take (len + count) new ≡ take len bytes ++ take count block
block_put bytes new block len n count within few stored =
    let front = length-take-le len bytes within in
    sym (take-take (len + count) (len + n) new (omega arith)) ∙ ap (take (len + count)) stored ∙ take-add len count (take len bytes ++ take n block)
    ∙ (λ k. take_at (take len bytes) (take n block) len front k ++ take count (drop_at (take len bytes) (take n block) len front k))
    ∙ ap (λ t. take len bytes ++ t) (take-take count n block few)
