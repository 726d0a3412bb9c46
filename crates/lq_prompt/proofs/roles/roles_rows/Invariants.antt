use Rattle.std.proofs.Common.{◌≡◌, map, take}
use Rattle.lq_prompt.specs.Roles.{role_row}
use Rattle.lq_prompt.proofs.roles.roles_rows.Given as goal

-- the first ones are done
abbrev pub invariant-loop-role : goal.invariant-loop-role
invariant-loop-role l = l.grid ≡ map (role_row l.present) (take l.role-index l.roles)
