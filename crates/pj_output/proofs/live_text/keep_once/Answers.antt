use Rattle.std.proofs.Common.{rules}
use Rattle.std.specs.Ordering.{eq_by_cmp}
use Rattle.std.proofs.lemmas.Fn.{dedup_same}
use Rattle.pj_output.specs.LiveText.{live_cmp}
use Rattle.pj_output.proofs.live_text.keep_once.Goals as goal

pub returns : goal.returns
returns c = dedup_same _ (eq_by_cmp live_cmp) _ (λ x y b f' x' y' k. search rules) c.args.entries.now.items _ c.dedup_by.ensures.filtered
