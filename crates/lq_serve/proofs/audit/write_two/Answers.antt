use Rattle.std.proofs.Common.{rules, ◌≡◌, of_z, to_z, w32}
use Rattle.std.proofs.lemmas.Int.{to_z-of_z}
use Rattle.lq_serve.proofs.DeviceLemmas.{Writes-next}
use Rattle.lq_serve.proofs.audit.write_two.Goals as goal

pub returns : goal.returns
returns g c =
    let first : to_z w32 (of_z w32 c.args.x) ≡ c.args.x = to_z-of_z w32 c.args.x (search rules) in
    let second : to_z w32 (of_z w32 c.args.y) ≡ c.args.y = to_z-of_z w32 c.args.y (search rules) in
    Writes-next _ _ _ _ _ _ _ _ (rw first at c.write_argument.ensures) (rw second at c.write_argument-2.ensures)
