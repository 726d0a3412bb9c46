use Rattle.std.proofs.Common.{rules, refl}
use Rattle.lq_store.proofs.Passes.{passed}
use Rattle.lq_store.proofs.table.retain_behind.Goals as goal

pub returns : goal.returns
returns c = passed _ (λ f. f.0.now.now) (λ f row b f' ran. search rules) c.args.numbers.now _ _ _ c.requires.rows c.requires.numbers refl c.retain.ensures.filtered
