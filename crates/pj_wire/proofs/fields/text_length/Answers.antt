use Rattle.std.proofs.Common.{◌≤◌, decimal, refl}
use Rattle.std.proofs.lemmas.Option.{none-some}
use Rattle.pj_wire.proofs.FieldLaws.{open_apart, ended_apart, field_stands}
use Rattle.pj_wire.proofs.Words.{decimal_inside}
use Rattle.pj_wire.proofs.fields.text_length.Goals as goal

pub returns-in-None : goal.returns-in-None
returns-in-None c = open_apart decimal (λ n. n ≤ 16777216) decimal_inside 10 refl _ _ _ c.first_word.ensures c.in-None.ensures.cases

pub returns-in-Some : goal.returns-in-Some
returns-in-Some c =
    ended_apart decimal (λ n. n ≤ 16777216) decimal_inside 10 refl _ _ _ _ _ c.first_word.ensures c.in-Some.ensures.cases.0
    (λ v allowed same is. c.if-byte-ne10.true is)

pub returns-in-Some-length_of : goal.returns-in-Some-length_of
returns-in-Some-length_of c =
    let is = (c.in-Some-length_of.ensures c.in-Some-length_of.length).0 refl in
    (is.0, field_stands _ _ _ _ _ _ 10 c.first_word.ensures c.in-Some.ensures.cases.0 c.if-byte-ne10.false is.1)

pub returns-in-None-length_of : goal.returns-in-None-length_of
returns-in-None-length_of c =
    ended_apart decimal (λ n. n ≤ 16777216) decimal_inside 10 refl _ _ _ _ _ c.first_word.ensures c.in-Some.ensures.cases.0
    (λ v allowed same is. none-some v ((c.in-None-length_of.ensures v).1 (allowed, same)))
