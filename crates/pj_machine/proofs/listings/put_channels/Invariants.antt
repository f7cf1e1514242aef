use Rattle.std.proofs.Common.{◌≡◌, ◌++◌, take}
use Rattle.std.specs.List.{flat_map}
use Rattle.pj_machine.specs.Listings.{channel_line}
use Rattle.pj_machine.proofs.listings.put_channels.Given as goal

abbrev pub invariant-loop-channel : goal.invariant-loop-channel
invariant-loop-channel l = l.out.items ≡ l.fn.out.items ++ flat_map channel_line (take l.channel-index l.channels)
