use Rattle.std.proofs.Common.{rules, ◌≡◌, sym, subst, true, List}
use Rattle.pj_change.specs.declared.change.Record.{Record}
use Rattle.pj_change.specs.Lawful.{is_held}
use Rattle.pj_change.specs.Uproot.{IsUprooted}
use Rattle.pj_change.proofs.UnrecordAnswers.{uproot_is_out}
use Rattle.pj_channel.proofs.channel.Channel.uproot.Goals as goal

pub returns : goal.returns
returns g c =
    let list = c.args.self.now in
    let name = c.args.name in
    let left = c.in_ok-channel.channel in
    let there : is_held list name ≡ true = search rules in
    uproot_is_out list name left there (subst (IsUprooted list name) (sym c.in_ok-channel.ensures) (subst (λ (l : List Record). IsUprooted l name c.in_ok-tables.tables) c.tables-own.ensures c.in_ok-tables.ensures))
