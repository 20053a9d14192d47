use Rattle.kaba_words.proofs.Patterns.{none_of_run, none_of_table, none_of_lattice, none_of_base, none_of_why, none_of_sure, none_of_same, none_of_edit, none_of_regen, none_of_make}
use Rattle.kaba_words.proofs.words.read_named.Goals as goal

pub returns-in-run-clause-usage : goal.returns-in-run-clause-usage
returns-in-run-clause-usage c = λ h. none_of_run c.in-run.is (c.read_run.ensures.usage h)

pub returns-in-table-clause-usage : goal.returns-in-table-clause-usage
returns-in-table-clause-usage c = λ h. none_of_table c.in-table.is (c.read_table.ensures.usage h)

pub returns-in-lattice-clause-usage : goal.returns-in-lattice-clause-usage
returns-in-lattice-clause-usage c = λ h. none_of_lattice c.in-lattice.is (c.read_lattice.ensures.usage h)

pub returns-in-base-clause-usage : goal.returns-in-base-clause-usage
returns-in-base-clause-usage c = λ h. none_of_base c.in-base.is (c.read_base.ensures.usage h)

pub returns-in-why-clause-usage : goal.returns-in-why-clause-usage
returns-in-why-clause-usage c = λ h. none_of_why c.in-why.is (c.read_why.ensures.usage h)

pub returns-in-sure-clause-usage : goal.returns-in-sure-clause-usage
returns-in-sure-clause-usage c = λ h. none_of_sure c.in-sure.is (c.read_sure.ensures.usage h)

pub returns-in-same-clause-usage : goal.returns-in-same-clause-usage
returns-in-same-clause-usage c = λ h. none_of_same c.in-same.is (c.read_same.ensures.usage h)

pub returns-in-edit-clause-usage : goal.returns-in-edit-clause-usage
returns-in-edit-clause-usage c = λ h. none_of_edit c.in-edit.is (c.read_edit.ensures.usage h)

pub returns-in-regen-clause-usage : goal.returns-in-regen-clause-usage
returns-in-regen-clause-usage c = λ h. none_of_regen c.in-regen.is (c.read_edit-in-regen.ensures.usage h)

pub returns-in-make-clause-usage : goal.returns-in-make-clause-usage
returns-in-make-clause-usage c = λ h. none_of_make c.in-make.is (c.read_make.ensures.usage h)
