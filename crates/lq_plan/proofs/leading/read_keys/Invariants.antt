use Rattle.std.proofs.Common.{◌≡◌, List, drop, length, take}
use Rattle.lq_value.specs.declared.value.Value.{Value}
use Rattle.lq_language.specs.Worlds.{World}
use Rattle.lq_plan.specs.Leading.{LambdasGiveCells, bodies_of}
use Rattle.lq_plan.proofs.LeadingLaws.{Reads}
use Rattle.lq_plan.proofs.leading.read_keys.Given as goal

-- the keys so far, and those of the lambdas that are left
abbrev pub invariant-loop-lambda : goal.invariant-loop-lambda
invariant-loop-lambda g l =
    record {
      counted : length l.keys.items ≡ length (take l.lambda-index l.fn.lambdas);
      keys : ((world : World _) (slots : List (Value _)) → LambdasGiveCells g.R.TableRow.table_of g.R.RowRef.shown world slots l.fn.lambdas
          → Reads world slots (bodies_of l.fn.lambdas) l.fn.item l.keys.items (bodies_of (drop l.lambda-index l.fn.lambdas)));
    }
