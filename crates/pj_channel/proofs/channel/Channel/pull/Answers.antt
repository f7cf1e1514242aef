use Rattle.std.proofs.Common.{◌++◌, sym, subst, List}
use Rattle.pj_change.specs.declared.change.Record.{Record}
use Rattle.pj_change.specs.Sets.{HaveOneText}
use Rattle.pj_channel.proofs.channel.Channel.pull.Goals as goal

pub union-requires : goal.union-requires
union-requires g c =
    subst (λ (l : List Record). HaveOneText (c.tables.result.now ++ l)) (sym c.tables-2.ensures)
    (subst (λ (l : List Record). HaveOneText (l ++ c.args.other.now)) (sym c.tables.ensures) c.requires)
