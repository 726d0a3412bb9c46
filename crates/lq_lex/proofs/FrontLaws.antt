-- What is at the front of a list.
use Rattle.std.proofs.Common.{◌≡◌, suc, ◌-◌, ◌≤◌, List, [], ◌∷◌, length, get_or, take, drop, refl, arith}
use Rattle.std.proofs.Math.Seq.{take-length}

-- a list is its first item before the others
pub head_tail : {X : Type 0} (list : List X) (first : X) → 1 ≤ length list → first ≡ get_or list 0 first → list ≡ first ∷ take (length list - 1) (drop 1 list)
head_tail [] first some is = absurd (omega arith)
head_tail (x ∷ xs) first some is =
    let count : suc (length xs) - 1 ≡ length xs = omega arith in
    rw (is, count, take-length xs) refl
