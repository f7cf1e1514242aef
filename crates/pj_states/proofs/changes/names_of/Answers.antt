use Rattle.std.proofs.Common.{get_or}
use Rattle.std.proofs.lemmas.List.Elements.{Contains-get_or}
use Rattle.pj_states.proofs.changes.names_of.Goals as goal

pub numbered-requires : goal.numbered-requires
numbered-requires c = c.requires (get_or c.args.numbers.now c.loop-number.number-index 0) (Contains-get_or c.args.numbers.now c.loop-number.number-index 0 c.loop-number-test.true)
