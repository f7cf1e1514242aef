use Rattle.pj_change.proofs.SmallerSets.{uproots_one}
use Rattle.pj_change.proofs.channel_laws.uproot_takes_one_alone.Goals as goal

pub returns : goal.returns
returns c = uproots_one
