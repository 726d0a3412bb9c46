-- Values and worlds over one kind of rows beside those over another: each row is replaced, and all else stays.
use Rattle.std.specs.Prelude.{◌≡◌, List, map, ℕ, Result, Ok, Err}
use Rattle.lq_value.specs.declared.value.Fault.{Fault}
use Rattle.lq_value.specs.declared.value.Value.{Value, fold-Value}
use Rattle.lq_value.specs.declared.value.Value.TheOpen.{Value-F}
use Rattle.lq_value.specs.declared.value.Value.TheVariants as value
use Rattle.lq_language.specs.Worlds.{World}
use Rattle.lq_language.specs.Stream.{Stream}

-- what is there replaced; a fault stays
abbrev pub result_map : {A B : Type 0} → (A → B) → Result A Fault → Result B Fault
result_map f (Ok x) = Ok (f x)
result_map f (Err e) = Err e

-- the items replaced; the ending stays
abbrev pub stream_map : {A B : Type 0} → (A → B) → Stream A → Stream B
stream_map f s = (map f s.0, s.1)

module _ {R S : Type 0} (f : R → S) where
  -- a layer in which each value has been replaced
  abbrev pub mapped_step : Value-F R (Value S) → Value S
  mapped_step (Value-F.Scalar s) = value.Scalar s
  mapped_step (Value-F.Row r) = value.Row (f r)
  mapped_step (Value-F.Rec members) = value.Rec members
  mapped_step (Value-F.Group key items) = value.Group key items
  mapped_step (Value-F.Seq items e) = value.Seq items e

  -- a value with each row in it replaced
  unfoldable pub mapped : Value R → Value S
  mapped = fold-Value R (Value S) mapped_step

-- A world over the rows of another: the schemas and the host predicates are the same, the rows of its tables are those of the other replaced, in their order,
-- and each is of the table, and has the cells, of the row that it represents.
pub record OverRows {R S : Type 0} (f : R → S) (a : World R) (b : World S) : Type 0 where
  pub schemas : b.schemas ≡ a.schemas
  pub rows : b.rows ≡ map (map f) a.rows
  pub cells : (r : R) (column : List ℕ) → b.cell (f r) column ≡ a.cell r column
  pub tables : (r : R) → b.table (f r) ≡ a.table r
  pub predicates : b.predicates ≡ a.predicates
  pub unknown : b.unknown ≡ a.unknown
