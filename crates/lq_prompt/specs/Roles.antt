-- What `.roles` shows, and the name of the present role.
use Rattle.std.specs.Prelude.{◌∷◌, List, [], ℕ, bytes_eq, codes, map, option_map, slice_get, unwrap_or}
use Rattle.lq_run.specs.States.{SessionState}
use Rattle.lq_render.specs.Grids.{grid}
use Rattle.lq_render.specs.declared.grid.Cell.{Cell}
use Rattle.lq_security.specs.declared.policy.Role.{Role}
use Rattle.lq_prompt.specs.Grids.{word, yes}

abbrev pub present_role : SessionState → List ℕ
present_role s = unwrap_or (option_map (λ role. role.name) (slice_get s.policies.roles s.role)) (codes "?")

-- a role: whether it is the present one, and whether it bypasses row security
abbrev pub role_row : List ℕ → Role → List Cell
role_row present role = word role.name ∷ yes (bytes_eq role.name present) ∷ yes role.bypass ∷ []

abbrev pub roles_text : SessionState → List ℕ
roles_text s =
    grid [] (codes "role" ∷ codes "current" ∷ codes "bypasses row security" ∷ []) (map (role_row (present_role s)) s.policies.roles)
