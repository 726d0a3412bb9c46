-- What the results of the reader say of the definitions.
use Rattle.std.specs.Prelude.{◌≡◌, Option, Some, None, Result, Ok, Err}
use Rattle.lq_policyfile.specs.declared.error.PolicyFileError.{PolicyFileError}
use Rattle.lq_policyfile.specs.declared.error.PolicyFileError.TheVariants as file
use Rattle.lq_policyfile.specs.declared.error.ShapeError.{ShapeError}
use Rattle.lq_policyfile.specs.declared.error.ShapeError.TheVariants as shape

-- what was read is what is meant; where memory was refused nothing is known
abbrev pub Reads : {A : Type 0} → Option A → Result A ShapeError → Type 0
Reads meant (Ok x) = meant ≡ Some x
Reads meant (Err shape.Shape) = meant ≡ None
Reads meant (Err shape.Memory) = Unit {0}

-- the same of a file's reader, where what is meant is a value or a refusal
abbrev pub Answers : {A : Type 0} → Result A PolicyFileError → Result A PolicyFileError → Type 0
Answers meant (Err file.Memory) = Unit {0}
Answers meant answer = meant ≡ answer

-- a check gives the refusal that applies
abbrev pub Refuses : {A : Type 0} → Option PolicyFileError → Result A PolicyFileError → Type 0
Refuses refusal (Ok x) = refusal ≡ None
Refuses refusal (Err file.Memory) = Unit {0}
Refuses refusal (Err error) = refusal ≡ Some error

-- what a refusal of the shape is to a file's reader
abbrev pub file_error : ShapeError → PolicyFileError
file_error shape.Memory = file.Memory
file_error shape.Shape = file.Shape
