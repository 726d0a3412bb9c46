use Rattle.std.proofs.Common.{Some, ◌∙◌, ap, subst}
use Rattle.std.proofs.lemmas.Bool.{ne_eqb}
use Rattle.lq_command.specs.Readers.{GivesByte}
use Rattle.lq_command.proofs.Gathering.{Gathering-ended, Gathering-last, Gathering-more}
use Rattle.lq_command.proofs.line_reader.LineReader.take_line.Goals as goal

pub returns-in-Some-eq10-clause-line : goal.returns-in-Some-eq10-clause-line
returns-in-Some-eq10-clause-line g c =
    let feed = subst (GivesByte _ _ _ _) (c.in-Some-eq10.is ∙ ap Some c.in-Some-eq10.field-0-test) c.in_ok-next_byte.ensures.byte in
    Gathering-ended _ _ _ _ _ _ _ _ c.loop.invariant.gathering feed c.finish.ensures.input

pub returns-in-None-2-clause-line : goal.returns-in-None-2-clause-line
returns-in-None-2-clause-line g c =
    let none = subst (GivesByte _ _ _ _) c.in-None-2.is c.in_ok-next_byte.ensures.byte in
    Gathering-last _ _ _ _ _ _ _ _ _ c.loop.invariant.gathering none c.is_empty.ensures c.if-is_empty.false c.finish-in-None-2.ensures.input

pub loop-preserved : goal.loop-preserved
loop-preserved g c =
    let byte = subst (GivesByte _ _ _ _) c.in-Some.is c.in_ok-next_byte.ensures.byte in
    record {
      gathering = Gathering-more _ _ _ _ _ _ _ _ c.in-Some.byte (ne_eqb c.in-Some.byte 10 c.in-Some.byte-test.1) c.loop.invariant.gathering byte c.add.ensures;
      mark = c.in_ok-next_byte.ensures.mark ∙ c.loop.invariant.mark;
      count = c.in_ok-next_byte.ensures.count ∙ c.loop.invariant.count;
    }
