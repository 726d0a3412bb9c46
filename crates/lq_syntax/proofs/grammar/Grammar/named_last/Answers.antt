use Rattle.std.proofs.Common.{◌≡◌, ◌-◌, length, rules, subst}
use Rattle.std.specs.Prelude.{Option, Some, slice_get}
use Rattle.lq_grammar.specs.Parsing.{expression}
use Rattle.lq_grammar.specs.declared.syntax.Level.TheVariants as level
use Rattle.lq_grammar.specs.declared.token.Token.{Token}
use Rattle.lq_syntax.specs.Outcome.{Reads}
use Rattle.lq_syntax.specs.Parts.{named_by}
use Rattle.lq_syntax.proofs.Readers.{named_or_not}
use Rattle.lq_syntax.proofs.grammar.Grammar.named_last.Goals as goal

pub returns : goal.returns
returns g c =
    let read : expression c.args.self.now.line.now c.args.self.now.depth level.Primary c.args.tokens.now ≡ Some (c.in_ok-value.value, c.inner.new.tokens) = search rules in
    let last : c.last_before.result ≡ slice_get c.args.tokens.now (length c.args.tokens.now - length c.inner.new.tokens - 1) = search rules in
    let named = subst (λ (token : Option Token). Reads (named_by c.args.self.now.line.now token c.inner.new.tokens) c.named_by.result c.inner.new.tokens) last (c.named_by.ensures c.inner.new.tokens) in
    rw c.named_as.ensures (named_or_not c.args.self.now.line.now (expression c.args.self.now.line.now c.args.self.now.depth) c.args.tokens.now c.inner.new.tokens c.in_ok-value.value c.named_by.result read named)
