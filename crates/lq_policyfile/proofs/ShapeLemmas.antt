-- Arrays and keys of TOML trees, as the reader goes over them.
use Rattle.std.proofs.Common.{◌≡◌, ◌∷◌, ◌++◌, List, [], map, ℕ, Bool, Option, option_map, String, Global, string_bytes, bytes_eq, Bor, refl}
use Rattle.std.specs.List.{list_all, list_any}
use Rattle.std.specs.Map.{keys_of}
use Rattle.toml.specs.View.{members_view}
use Rattle.toml.specs.declared.value.Value.{Value}
use Rattle.lq_policyfile.specs.TomlValues.{has_only}

-- what was read before comes in front of what is read after
abbrev pub put_before : {A : Type 0} → List A → Option (List A) → Option (List A)
put_before done found = option_map (λ xs. done ++ xs) found

-- a key of a table is one of these
abbrev pub is_one_of : List (Bor (List ℕ)) → String Global → Bool
is_one_of keys key = list_any (bytes_eq (string_bytes key)) (map (λ known. known.now) keys)

pub keys_are : (keys : List (Bor (List ℕ))) (es : List (String Global × Value))
    → list_all (is_one_of keys) (keys_of es) ≡ has_only (map (λ known. known.now) keys) (members_view es)
keys_are keys [] = refl
keys_are keys (e ∷ es) = rw (keys_are keys es)
