use Rattle.std.proofs.Common.{rules}
use Rattle.std.specs.Ordering.{is_lt}
use Rattle.std.proofs.lemmas.List.Sorted.{answers_always, ranks_by}
use Rattle.pj_output.specs.declared.live_text.LiveVertex.{LiveVertex}
use Rattle.pj_output.specs.LiveText.{live_cmp}
use Rattle.pj_output.proofs.LiveOrder.{live_total}
use Rattle.pj_output.proofs.live_text.sort_entries.Goals as goal

pub returns-clause-sorted : goal.returns-clause-sorted
returns-clause-sorted c =
    c.sort_unstable_by.ensures.sorted (λ d e. is_lt (live_cmp d e)) (ranks_by live_total (λ (e : LiveVertex). e)) (answers_always _ _ _ (λ f a r f' k. search rules))
