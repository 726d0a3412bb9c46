use Rattle.std.proofs.Common.{◌≡◌, fold}
use Rattle.serde_json.specs.View.{members_view}
use Rattle.lq_render.specs.Parts.{names_of, with_name}
use Rattle.lq_render.proofs.columns.add_members.Given as goal

-- the names so far, with those to come
abbrev pub invariant-loop-name : goal.invariant-loop-name
invariant-loop-name l = fold with_name l.names.items (names_of (members_view l.name-iterator)) ≡ fold with_name l.initial.names.items (names_of (members_view l.members.entries))
