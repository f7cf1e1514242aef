use Rattle.std.proofs.Common.{sym, subst, List}
use Rattle.std.specs.Arc.{arc_value}
use Rattle.pj_change.specs.declared.change.Record.{Record}
use Rattle.pj_change.specs.Lawful.{Follows}
use Rattle.pj_channel.proofs.channel.Channel.grown.Goals as goal

pub applied-requires : goal.applied-requires
applied-requires g c = subst (λ (l : List Record). Follows l (arc_value c.args.record.now)) (sym c.in_ok-into_tables.ensures) c.requires
