use Rattle.std.proofs.Common.{Some, None, ap, sym, ◌∙◌, arith, rules}
use Rattle.std.proofs.lemmas.Str.Pattern.{split_parts}
use Rattle.lq_serve.specs.Loading.{without_folders}
use Rattle.lq_serve.proofs.NamingLemmas.{without_folders-none, without_folders-split}
use Rattle.lq_serve.proofs.naming.without_folders.Goals as goal

pub loop-folder-preserved : goal.loop-folder-preserved
loop-folder-preserved c =
    let parts = split_parts 47 c.loop-folder.rest.now (Some (c.in-Some._folder, c.in-Some.behind)) c.in-Some.ensures.cases (omega arith) in
    record {
      utf8 = search rules;
      same = sym (without_folders-split c.in-Some._folder.now c.in-Some.behind.now) ∙ sym (ap without_folders parts.0) ∙ c.loop-folder.invariant.same;
    }

pub returns : goal.returns
returns c =
    sym (without_folders-none c.loop-folder.rest.now (split_parts 47 c.loop-folder.rest.now None c.in_default.ensures.cases (omega arith)))
    ∙ c.loop-folder.invariant.same
