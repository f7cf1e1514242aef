use Rattle.std.proofs.Common.{rules}
use Rattle.std.proofs.lemmas.List.Sorted.{answers_always}
use Rattle.pj_name.specs.Name.{name_below}
use Rattle.pj_change.proofs.RisingLemmas.{rising_answer}
use Rattle.pj_change.proofs.rules.names_rise.Goals as goal

pub returns : goal.returns
returns c = rising_answer name_below _ c.is_sorted_by.result (c.is_sorted_by.ensures.cases name_below (answers_always _ _ _ (λ f a r f' called. search rules)))
