-- What readers of rows have left.
use Rattle.std.specs.Prelude.{List, [], Option, Some, None}

-- what a reader has left, if there is one
abbrev pub rows_by : {R S : Type 0} → (S → List R) → Option S → List R
rows_by left (Some reader) = left reader
rows_by left None = []
