use Rattle.std.proofs.Common.{Some, None, refl}
use Rattle.lq_serve.proofs.LoadingLemmas.{AddsFront-none, Answered-all, known_bytes, known_is, unreadable_is}
use Rattle.lq_serve.proofs.reading.read_file.Goals as goal

pub returns-in-Ok-clause-given : goal.returns-in-Ok-clause-given
returns-in-Ok-clause-given g c =
    (Some c.in-Ok.bytes.items, c.in-Ok.ensures.known, Answered-all _ _ _ _ c.in-Ok.ensures.answer, refl)

pub returns-in-Err-Memory-clause-given : goal.returns-in-Err-Memory-clause-given
returns-in-Err-Memory-clause-given g c = (
  known_bytes c.args.limit (g.F.Files.holds c.args.files.now c.args.file.now),
  known_is c.args.limit (g.F.Files.holds c.args.files.now c.args.file.now),
  record { all = λ ne. absurd (ne refl); some = AddsFront-none _ _ _ (rw c.in-Err-Memory.field-0-is at c.in-Err-Memory.ensures.answer) },
  (λ ne. absurd (ne refl)),
)

pub returns-in-Err-Read-clause-given : goal.returns-in-Err-Read-clause-given
returns-in-Err-Read-clause-given g c = (
  None,
  unreadable_is c.args.limit (g.F.Files.holds c.args.files.now c.args.file.now) (rw c.in-Err-Read.field-0-is at c.in-Err-Read.ensures.known),
  Answered-all _ _ _ _ (rw c.in-Err-Read.field-0-is at c.in-Err-Read.ensures.answer),
  (λ ne. (refl, refl)),
)
