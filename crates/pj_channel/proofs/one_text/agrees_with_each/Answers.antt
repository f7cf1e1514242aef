use Rattle.std.proofs.Common.{rules, tests, List}
use Rattle.std.proofs.lemmas.Iterator.{YieldsList-from_slice}
use Rattle.std.proofs.lemmas.Iterator.Search.{all_from_yields_List}
use Rattle.pj_change.specs.declared.change.Record.{Record}
use Rattle.pj_change.specs.declared.operation.Operation.{Operation}
use Rattle.pj_change.specs.OneText.{all_agree}
use Rattle.pj_change.specs.Runs.{brought_by}
use Rattle.pj_channel.proofs.one_text.agrees_with_each.Goals as goal

pub returns : goal.returns
returns c =
    all_from_yields_List (λ (o : Operation (List Record)). all_agree (brought_by c.args.operation.now) (brought_by o)) _ _ c.all.result c.all.ensures.ran
    (YieldsList-from_slice c.args.operations.now cc) (λ x b q k. search (rules, tests))
