use Rattle.std.proofs.Common.{◌∙◌}
use Rattle.pj_pmap.proofs.Splices.{level_from}
use Rattle.pj_pmap.proofs.node.merged_round.Goals as goal

pub merged_at-requires-2-clause-level : goal.merged_at-requires-2-clause-level
merged_at-requires-2-clause-level g c = level_from _ _ c.requires.level.rising c.in_ok-once.ensures.same c.in_ok-once.ensures.nodes

pub returns-clause-same : goal.returns-clause-same
returns-clause-same g c = c.in_ok-twice.ensures.same ∙ c.in_ok-once.ensures.same
