use Rattle.std.proofs.Common.{sym, ◌∙◌, Some}
use Rattle.std.specs.BTreeMap.{Updates}
use Rattle.pj_machine.specs.ChannelName.{channel_cmp}
use Rattle.pj_state.specs.IsKept.{standing}
use Rattle.pj_state.proofs.KeptFacts.{came_back, kept_opening}
use Rattle.pj_state.proofs.state.State.opening.Goals as goal

pub invariant_of-result : goal.invariant_of-result
invariant_of-result c =
    kept_opening c.args.limits _ _ _ c.new-channels.result c.insert.new.self c.in-Some.main c.in_ok-channel.channel c.in_ok-entries.ensures.items c.in_ok-store.ensures.records c.in_ok-store.ensures.bytes
    c.new-channels.ensures.empty c.in-Some.ensures.bytes c.in_ok-channel.ensures
    (came_back c.insert.result (Updates channel_cmp c.new-channels.result c.insert.new.self c.in-Some.main (Some (standing c.in_ok-channel.channel 0))) c.insert.ensures.updates
    (sym c.is_err.ensures.value ∙ c.if-is_err.false))
