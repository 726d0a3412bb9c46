-- What some opened queries and others after them add up to.
use Rattle.std.proofs.Common.{◌≡◌, ◌∷◌, ◌++◌, ◌+◌, if◌then◌else◌, List, [], ℕ, refl}
use Rattle.std.specs.Prelude.{nat_lt}
use Rattle.lq_machine.specs.Opening.{rank_with, size_with}
use Rattle.lq_machine.specs.declared.session.Opened.{Opened}

pub size_more : (n : ℕ) (xs ys : List Opened) → size_with n (xs ++ ys) ≡ size_with (size_with n xs) ys
size_more n [] ys = refl
size_more n (x ∷ xs) ys = size_more (n + x.size) xs ys

pub rank_more : (n : ℕ) (xs ys : List Opened) → rank_with n (xs ++ ys) ≡ rank_with (rank_with n xs) ys
rank_more n [] ys = refl
rank_more n (x ∷ xs) ys = rank_more (if nat_lt n (x.rank + 1) then x.rank + 1 else n) xs ys
