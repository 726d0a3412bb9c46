-- Keys that were seen, and the first place of each.
use Rattle.std.proofs.Common.{◌≡◌, ◌++◌, ◌∷◌, ◌||◌, if◌then◌else◌, List, [], map, Bool, true, false, Bor, ap, ◌∙◌, refl}
use Rattle.std.specs.List.{list_any}
use Rattle.std.proofs.lemmas.List.{map-append}
use Rattle.lq_value.specs.KeyTests.{key_is}
use Rattle.lq_value.specs.Lookups.{with_key}
use Rattle.lq_value.specs.declared.key.Key.{Key}

abbrev pub shown : List (Bor Key) → List Key
shown keys = map (λ key. key.now) keys

pub has_shown : (q : Key) (keys : List (Bor Key)) → list_any (λ key. key_is q key.now) keys ≡ list_any (key_is q) (shown keys)
has_shown q [] = refl
has_shown q (key ∷ keys) = ap (λ (b : Bool). key_is q key.now || b) (has_shown q keys)

shown_where : (b : Bool) (keys : List (Bor Key)) (key : Bor Key)
    → shown (if b then keys else keys ++ key ∷ []) ≡ (if b then shown keys else shown keys ++ key.now ∷ [])
shown_where true keys key = refl
shown_where false keys key = map-append (λ k. k.now) keys (key ∷ [])

pub insert_shown : (key : Bor Key) (keys : List (Bor Key))
    → shown (if list_any (λ other. key_is key.now other.now) keys then keys else keys ++ key ∷ []) ≡ with_key key_is (shown keys) key.now
insert_shown key keys =
    shown_where (list_any (λ other. key_is key.now other.now) keys) keys key
    ∙ ap (λ (b : Bool). if b then shown keys else shown keys ++ key.now ∷ []) (has_shown key.now keys)
