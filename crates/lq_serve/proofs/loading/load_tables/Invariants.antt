use Rattle.std.proofs.Common.{◌≡◌, ℕ, List, take, map, string_bytes}
use Rattle.lq_serve.specs.Loading.{Loaded}
use Rattle.lq_serve.proofs.loading.load_tables.Given as goal

-- the files so far were read and fine, and what is known of the others holds
abbrev pub invariant-loop-name : goal.invariant-loop-name
invariant-loop-name g l = record {
  far : Loaded (g.F.Files.holds l.fn.files) (g.F.Files.answered l.fn.files) (g.F.Files.answered l.files) (map string_bytes (take l.name-index l.names)) l.store;
  keeps : (n : List ℕ) → g.F.Files.holds l.files n ≡ g.F.Files.holds l.fn.files n;
}
