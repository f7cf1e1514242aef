use Rattle.pj_output.proofs.PairLists.{pair_added, none_added}
use Rattle.pj_output.proofs.pairs.add_pair.Goals as goal

pub returns-in_ok-push : goal.returns-in_ok-push
returns-in_ok-push c =
    pair_added c.args.live.now c.requires.sorted c.args.from c.args.target c.in-Some.to c.in-Some.ensures c.args.pairs.now.items c.push.new.self.items c.in_ok-push.ensures.items

pub returns-in_default : goal.returns-in_default
returns-in_default c = none_added c.args.live.now c.args.from c.args.target c.in_default.ensures c.args.pairs.now.items
