use Rattle.pj_inverse.proofs.LawfulInverse.{undone_lawful}
use Rattle.pj_inverse.proofs.OwnPoints.{own_are_dead}
use Rattle.pj_inverse.proofs.OtherPoints.{others_as_without}
use Rattle.pj_inverse.proofs.laws.undone.Goals as goal

pub returns : goal.returns
returns c = record {
  lawful = λ S c v u. undone_lawful S c v u;
  own = λ S c v u free p own hunk first past kind. own_are_dead S c v u free p own hunk first past kind;
  others = λ S c v u free T is p elsewhere. others_as_without S c v u free T is p elsewhere;
}
