use Rattle.pj_text.proofs.Readings.{drawn_spells, undrawn, drawn_again}
use Rattle.pj_text.proofs.reading.read.Goals as goal

pub returns-clause-spelled : goal.returns-clause-spelled
returns-clause-spelled c = drawn_spells c.args.text.now c.change_of.result c.change_of.ensures

pub returns-clause-malformed : goal.returns-clause-malformed
returns-clause-malformed c = undrawn c.args.text.now c.change_of.result c.change_of.ensures

pub returns-clause-again : goal.returns-clause-again
returns-clause-again c = drawn_again c.args.text.now c.change_of.result c.change_of.ensures
