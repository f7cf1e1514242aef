use Rattle.std.proofs.Common.{rules, ◌≡◌, true}
use Rattle.test_plain.proofs.rows.session.Session.pull.Goals as goal

pub pull-requires : goal.pull-requires
pull-requires c = (let yes : c.agrees_with.result ≡ true = search rules in c.agrees_with.ensures.0 yes)
