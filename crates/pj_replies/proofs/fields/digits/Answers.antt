use Rattle.std.proofs.Common.{ℕ, List, [], ◌∷◌, ◌++◌, Option, get_or, refl, sym, ◌∙◌, ap, subst, arith}
use Rattle.std.proofs.lemmas.List.{take_all, take_more}
use Rattle.std.proofs.lemmas.Option.{none-some}
use Rattle.pj_replies.specs.Digits.{digits_read, IsBelow}
use Rattle.pj_replies.proofs.Digits.{ended, apart, early, less}
use Rattle.pj_replies.proofs.fields.digits.Goals as goal

pub returns-in-Some : goal.returns-in-Some
returns-in-Some c =
    ended c.args.most c.args.end (omega arith) c.requires c.args.bytes.now c.in-Some.number c.loop-place.place
    (subst (λ (o : Option ℕ). IsBelow c.args.most o) c.in-Some.is c.loop-place.invariant.0) (omega arith) (c.loop-place.invariant.1 ∙ ap digits_read c.in-Some.is) c.if-byte-end.true

pub returns-in-None : goal.returns-in-None
returns-in-None c =
    early c.args.most c.args.end (omega arith) c.requires c.args.bytes.now c.loop-place.value c.loop-place.place c.in-None.is (omega arith) c.loop-place.invariant.1 c.if-byte-end.true

pub returns-in-None-with_digit : goal.returns-in-None-with_digit
returns-in-None-with_digit c =
    apart c.args.most c.args.end (omega arith) c.requires c.args.bytes.now c.loop-place.value c.loop-place.place c.loop-place.invariant.0 (omega arith) c.loop-place.invariant.1
    (λ n few e. none-some n ((c.in-None-with_digit.ensures n).1 (few, e))) (λ n few e is. c.if-byte-end.false is)

pub loop-place-preserved : goal.loop-place-preserved
loop-place-preserved c =
    let made = (c.in-Some-with_digit.ensures c.in-Some-with_digit.number).0 refl in
    (made.0, take_more c.args.bytes.now c.loop-place.place 0 (omega arith) ∙ ap (λ (t : List ℕ). t ++ get_or c.args.bytes.now c.loop-place.place 0 ∷ []) c.loop-place.invariant.1 ∙ made.1)

pub returns : goal.returns
returns c =
    less c.args.most c.args.end (omega arith) c.requires c.args.bytes.now c.loop-place.value c.loop-place.invariant.0
    (sym (take_all c.loop-place.place c.args.bytes.now (omega arith)) ∙ c.loop-place.invariant.1)
