use Rattle.pj_output.specs.EntryTexts.{IsEntryText}
use Rattle.pj_output.proofs.CallsInOrder.{given_each}
use Rattle.pj_output.proofs.print.entry_texts.Goals as goal

pub returns : goal.returns
returns c = given_each _ _ (λ step text. IsEntryText c.args.tables.now step text.items) (λ step text given. given) (λ texts. texts.items) c.args.steps.now c.map_each.result c.map_each.ensures
