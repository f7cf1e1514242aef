use Rattle.pj_load.proofs.Channels.{plain_steps}
use Rattle.pj_load.proofs.Sets.{line_set, main_set}
use Rattle.pj_load.proofs.Prints.{found_at, is_found, quiet}
use Rattle.pj_load.proofs.laws.has_what_stands.Goals as goal

pub returns : goal.returns
returns c = let h = line_set in let i = main_set in let j = found_at in let k = is_found in let l = quiet in plain_steps
