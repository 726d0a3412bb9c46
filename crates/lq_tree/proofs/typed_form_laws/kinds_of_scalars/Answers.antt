use Rattle.lq_tree.proofs.KindAnswers as lemma
use Rattle.lq_tree.proofs.typed_form_laws.kinds_of_scalars.Goals as goal

pub returns-clause-one : goal.returns-clause-one
returns-clause-one c = lemma.takes_one_alike

pub returns-clause-two : goal.returns-clause-two
returns-clause-two c = lemma.takes_two_alike

pub returns-clause-less : goal.returns-clause-less
returns-clause-less c = lemma.orders_numbers

pub returns-clause-equal : goal.returns-clause-equal
returns-clause-equal c = lemma.equals_one_kind

pub returns-clause-none : goal.returns-clause-none
returns-clause-none c = lemma.no_numbers_are_there
