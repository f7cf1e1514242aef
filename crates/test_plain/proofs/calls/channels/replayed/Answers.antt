use Rattle.std.proofs.Common.{rules, ◌≡◌, true}
use Rattle.test_plain.proofs.calls.channels.replayed.Goals as goal

pub replay-requires : goal.replay-requires
replay-requires c = (let yes : c.have_one_text.result ≡ true = search rules in c.have_one_text.ensures.0 yes)
