-- What a tree means depends on the rows' cells alone, and not on what represents a row; and so does what is served.
use Rattle.std.specs.Prelude.{◌≡◌, List, map, Result}
use Rattle.lq_value.specs.declared.scalar.Scalar.{Scalar}
use Rattle.lq_value.specs.declared.table.Schema.{Schema}
use Rattle.lq_value.specs.declared.ty.Ty.{Ty}
use Rattle.lq_value.specs.declared.value.Fault.{Fault}
use Rattle.lq_value.specs.declared.value.Value.{Value}
use Rattle.lq_language.specs.Worlds.{World}
use Rattle.lq_language.specs.OperandMeaning.{stream_of}
use Rattle.lq_machine.specs.Served.{stream_data, value_data}
use Rattle.lq_language.specs.Stream.{Stream}
use Rattle.lq_tree.specs.FormMeaning.{form_meaning}
use Rattle.lq_tree.specs.Rows.{OverRows, mapped, result_map, stream_map}
use Rattle.lq_tree.specs.declared.tree.Form.{Form}

-- where each row is replaced by one with its cells, a form means the value that it meant with its rows replaced, or the same fault
abbrev pub MeansAlikeOverRows : Type 0 → Type 0 → Type 0
MeansAlikeOverRows R S =
    (f : R → S) (a : World R) (b : World S) → OverRows f a b → (form : Form) (slots : List (Value R))
    → form_meaning b form (map (mapped f) slots) ≡ result_map (mapped f) (form_meaning a form slots)

-- and it is enumerated as the stream that it was, with its rows replaced
abbrev pub StreamsAlikeOverRows : Type 0 → Type 0 → Type 0
StreamsAlikeOverRows R S =
    (f : R → S) (a : World R) (b : World S) → OverRows f a b → (form : Form) (slots : List (Value R))
    → stream_of b (form_meaning b form (map (mapped f) slots)) ≡ stream_map (mapped f) (stream_of a (form_meaning a form slots))

-- the reply of a stream, and of a value, is the same
abbrev pub ServesAlikeOverRows : Type 0 → Type 0 → Type 0
ServesAlikeOverRows R S =
    (f : R → S) (schemas : List Schema) (cells_r : R → List Scalar) (cells_s : S → List Scalar) → ((r : R) → cells_s (f r) ≡ cells_r r) → (t : Ty)
    → ((s : Stream (Value R)) → stream_data schemas cells_s t (stream_map (mapped f) s) ≡ stream_data schemas cells_r t s)
    × ((found : Result (Value R) Fault) → value_data schemas cells_s t (result_map (mapped f) found) ≡ value_data schemas cells_r t found)
