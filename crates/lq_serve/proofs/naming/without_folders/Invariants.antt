use Rattle.std.proofs.Common.{◌≡◌, length}
use denote.Text.{Utf8}
use denote.Shadow.{shadow}
use Rattle.lq_serve.specs.Loading.{without_folders}
use Rattle.lq_serve.proofs.naming.without_folders.Given as goal

abbrev pub invariant-loop-folder : goal.invariant-loop-folder
invariant-loop-folder l = record {
  utf8 : shadow (Utf8 l.rest);
  same : without_folders l.rest ≡ without_folders l.fn.file;
}

abbrev pub decreases-loop-folder : goal.decreases-loop-folder
decreases-loop-folder l = length l.rest
