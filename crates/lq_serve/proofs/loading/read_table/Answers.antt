use Rattle.std.proofs.Common.{rules, ◌≡◌, true, false, Err, subst}
use Rattle.lq_grammar.specs.Tokens.{is_name}
use Rattle.lq_serve.specs.Loading.{Answered, read_limit, table_name}
use Rattle.lq_serve.proofs.LoadingLemmas.{Adds-nil, Answered-all, Answered-fault, Answered-then, known_bytes, known_is, read-failed, read-whole, readings_of_one-named, readings_of_one-unnamed, table_in-unnamed}
use Rattle.lq_serve.proofs.loading.read_table.Goals as goal

pub returns-then-not-is_name-clause-table : goal.returns-then-not-is_name-clause-table
returns-then-not-is_name-clause-table g c =
    let no : is_name (table_name c.args.file.now) ≡ false = search rules in (
      known_bytes read_limit (g.F.Files.holds c.args.files.now c.args.file.now),
      known_is read_limit (g.F.Files.holds c.args.files.now c.args.file.now),
      subst (Answered _ _ _) (readings_of_one-unnamed c.args.file.now _ no) (Answered-all _ _ _ _ (Adds-nil _)),
      (λ ne. table_in-unnamed c.args.file.now _ no),
    )

pub returns-in_err-bytes-clause-table : goal.returns-in_err-bytes-clause-table
returns-in_err-bytes-clause-table g c =
    let yes : is_name (table_name c.args.file.now) ≡ true = search rules in
    let same : c.from_residual.result ≡ Err c.in_err-bytes.field-0.0 = search rules in
    let given = c.in_err-bytes.ensures.given in (
      given.0,
      given.1,
      rw same (subst (Answered _ _ _) (readings_of_one-named c.args.file.now given.0 yes) (Answered-fault _ _ _ _ given.2)),
      rw same (λ ne. read-failed c.args.file.now given.0 c.in_err-bytes.field-0.0 yes (given.3 ne).0 (given.3 ne).1),
    )

pub returns-clause-table : goal.returns-clause-table
returns-clause-table g c =
    let yes : is_name (table_name c.args.file.now) ≡ true = search rules in
    let given = c.in_ok-bytes.ensures.given in (
      given.0,
      given.1,
      subst (Answered _ _ _) (readings_of_one-named c.args.file.now given.0 yes) (Answered-then c.in_ok-bytes.bytes _ _ _ _ given.2),
      rw (read-whole c.args.file.now given.0 c.in_ok-bytes.bytes.items yes given.3) (rw (c.table_name-name.ensures, c.deref.ensures.value) at c.table_from_bytes.ensures),
    )
