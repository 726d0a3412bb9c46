use Rattle.lq_tree.proofs.TermMeanLaws.{call_meanings_same, meanings_same}
use Rattle.lq_tree.proofs.binding_laws.meanings_of_trees.Goals as goal

pub returns-clause-terms : goal.returns-clause-terms
returns-clause-terms c start world holds kept t places slots scope fits reached tree h = meanings_same world holds kept t places slots scope fits reached tree h

pub returns-clause-calls : goal.returns-clause-calls
returns-clause-calls c start world holds kept d places slots scope fits reached tree h = call_meanings_same world holds kept d places slots scope fits reached tree h
