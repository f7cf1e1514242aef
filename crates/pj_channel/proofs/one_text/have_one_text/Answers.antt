use Rattle.std.proofs.Common.{◌≡◌, rules, tests, sym, subst, true, Bool, List}
use Rattle.std.specs.Prelude.{◌↔◌}
use Rattle.std.specs.List.{list_all}
use Rattle.std.proofs.lemmas.Iterator.{YieldsList-from_slice}
use Rattle.std.proofs.lemmas.Iterator.Search.{all_from_yields_List}
use Rattle.pj_change.specs.declared.change.Record.{Record}
use Rattle.pj_change.specs.Sets.{HaveOneText}
use Rattle.pj_change.specs.declared.operation.Operation.{Operation}
use Rattle.pj_change.specs.OneText.{all_agree}
use Rattle.pj_change.specs.Runs.{brought, brought_by}
use Rattle.pj_change.proofs.AgreeingTexts.{operations_agree}
use Rattle.pj_channel.proofs.one_text.have_one_text.Goals as goal

pub returns : goal.returns
returns c =
    let operations = c.args.operations.now in
    let agrees : Operation (List Record) → Bool = λ o. list_all (λ p. all_agree (brought_by o) (brought_by p)) operations in
    let e : c.all.result ≡ list_all agrees operations =
    all_from_yields_List agrees _ _ c.all.result c.all.ensures.ran (YieldsList-from_slice operations cc) (λ x b q k. search (rules, tests)) in
    subst (λ (b : Bool). (b ≡ true) ↔ HaveOneText (brought operations)) (sym e) (operations_agree operations)
