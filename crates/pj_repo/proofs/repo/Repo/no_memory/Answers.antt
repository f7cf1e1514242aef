use Rattle.pj_machine.specs.declared.reply.Numbered.TheVariants.{NoMemory}
use Rattle.pj_repo.proofs.Answering.{answered_by_look}
use Rattle.pj_repo.proofs.repo.Repo.no_memory.Goals as goal

pub returns : goal.returns
returns g c = λ x. answered_by_look _ _ _ _ c.look.ensures x NoMemory tt
