use Rattle.pj_machine.proofs.Replays.{replay_one}
use Rattle.pj_machine.proofs.SoundSteps.{legal_replay, legal_sound}
use Rattle.pj_machine.proofs.laws.replay_is_lawful.Goals as goal

pub returns-clause-one : goal.returns-clause-one
returns-clause-one c = replay_one

pub returns-clause-some : goal.returns-clause-some
returns-clause-some c = legal_replay

pub returns-clause-sound : goal.returns-clause-sound
returns-clause-sound c = legal_sound
