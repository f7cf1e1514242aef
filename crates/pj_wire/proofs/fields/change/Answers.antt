use Rattle.std.proofs.Common.{refl}
use Rattle.std.proofs.lemmas.Option.{none-some}
use Rattle.pj_name.specs.declared.name.Name.{Name}
use Rattle.pj_name.specs.Name.{hex}
use Rattle.pj_wire.proofs.FieldLaws.{open_apart, ended_apart}
use Rattle.pj_wire.proofs.Words.{hex_inside}
use Rattle.pj_wire.proofs.fields.change.Goals as goal

pub returns-in-None : goal.returns-in-None
returns-in-None c = open_apart (λ (name : Name). hex name.bytes) (λ _. Unit {0}) (λ n _. hex_inside n) 10 refl _ _ _ c.first_word.ensures c.in-None.ensures.cases

pub returns-in-Some : goal.returns-in-Some
returns-in-Some c =
    ended_apart (λ (name : Name). hex name.bytes) (λ _. Unit {0}) (λ n _. hex_inside n) 10 refl _ _ _ _ _ c.first_word.ensures c.in-Some.ensures.cases.0
    (λ v allowed same is. c.if-byte-ne10.true is)

pub returns-in-None-read : goal.returns-in-None-read
returns-in-None-read c =
    ended_apart (λ (name : Name). hex name.bytes) (λ _. Unit {0}) (λ n _. hex_inside n) 10 refl _ _ _ _ _ c.first_word.ensures c.in-Some.ensures.cases.0
    (λ v allowed same is. none-some v ((c.in-None-read.ensures.spelled v).1 same))
