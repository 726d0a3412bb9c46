use Rattle.lq_tree.proofs.KindAnswers as lemma
use Rattle.lq_tree.proofs.typed_form_laws.kinds_exclude_others.Goals as goal

pub returns-clause-pairs : goal.returns-clause-pairs
returns-clause-pairs g c = lemma.pairs_have_parts g.row.R.Denot

pub returns-clause-keys : goal.returns-clause-keys
returns-clause-keys g c = lemma.keys_are_same g.row.R.Denot

pub returns-clause-numbers : goal.returns-clause-numbers
returns-clause-numbers g c = lemma.numbers_are_read g.row.R.Denot

pub returns-clause-items : goal.returns-clause-items
returns-clause-items g c = lemma.items_are_enumerated g.row.R.Denot

pub returns-clause-defaults : goal.returns-clause-defaults
returns-clause-defaults g c = lemma.defaults_are_there g.row.R.Denot

pub returns-clause-null : goal.returns-clause-null
returns-clause-null g c = lemma.null_is_null g.row.R.Denot

pub returns-clause-order : goal.returns-clause-order
returns-clause-order g c = lemma.sorts_one_kind g.row.R.Denot

pub returns-clause-forms : goal.returns-clause-forms
returns-clause-forms g c = lemma.runs_on_kinds g.row.R.Denot
