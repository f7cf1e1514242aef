-- Each turn writes what it gave after what was written before.
use Rattle.std.proofs.Common.{rules, ◌∙◌}
use Rattle.pj_io.proofs.Written.{take_more_written}
use Rattle.pj_io.proofs.giving.give_all.Goals as goal

pub loop-given-preserved : goal.loop-given-preserved
loop-given-preserved g c =
    let told = c.loop-given.invariant.told in
    record {
      in_range = search rules;
      bytes = λ h. take_more_written _ _ _ _ _ _ (c.loop-given.invariant.bytes h) (c.in-Ok.ensures.bytes (told ∙ h));
      told = c.in-Ok.ensures.told ∙ told;
      label = λ h. c.in-Ok.ensures.label (told ∙ h) ∙ c.loop-given.invariant.label h;
      not_shut = λ h. c.in-Ok.ensures.not_shut (told ∙ h) ∙ c.loop-given.invariant.not_shut h;
      never_falls = search rules;
    }
