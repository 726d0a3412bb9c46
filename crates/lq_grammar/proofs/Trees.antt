-- The laws of the grammar: reading and spelling agree, so that tokens spell one tree at most.
use Rattle.lq_grammar.specs.GrammarLaws.{IsOneStatement, IsOneCondition, ReadsSpelledStatements, ReadsSpelledConditions}
use Rattle.lq_grammar.proofs.CompletenessLaws.{statement_complete, rule_complete}
use Rattle.lq_grammar.proofs.SoundnessLaws.{statement_sound, rule_sound}

pub one_statement : IsOneStatement
one_statement line tokens a b left right = cc (statement_complete line tokens a left, statement_complete line tokens b right)

pub one_condition : IsOneCondition
one_condition line tokens a b left right = cc (rule_complete line tokens a left, rule_complete line tokens b right)

pub statement_spelled : ReadsSpelledStatements
statement_spelled line tokens a = (statement_sound line tokens a, statement_complete line tokens a)

pub condition_spelled : ReadsSpelledConditions
condition_spelled line tokens a = (rule_sound line tokens a, rule_complete line tokens a)
