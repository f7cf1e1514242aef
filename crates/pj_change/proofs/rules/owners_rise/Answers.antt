use Rattle.std.proofs.Common.{rules, nat_lt}
use Rattle.std.proofs.lemmas.List.Sorted.{answers_always}
use Rattle.pj_change.proofs.RisingLemmas.{rising_answer}
use Rattle.pj_change.proofs.rules.owners_rise.Goals as goal

pub returns : goal.returns
returns c = rising_answer nat_lt _ c.is_sorted_by.result (c.is_sorted_by.ensures.cases nat_lt (answers_always _ _ _ (λ f a r f' called. search rules)))
