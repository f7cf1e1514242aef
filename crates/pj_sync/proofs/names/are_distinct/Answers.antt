use Rattle.std.proofs.Common.{◌≢◌, refl, sym, ◌∙◌, subst}
use Rattle.std.specs.Prelude.{AllPairs}
use Rattle.std.proofs.lemmas.List.{take_all}
use Rattle.pj_sync.proofs.Sets.{apart_more, set_more, stands_twice, was_listed, was_new}
use Rattle.pj_sync.proofs.names.are_distinct.Goals as goal

pub returns-then-not-branch : goal.returns-then-not-branch
returns-then-not-branch c = (
  λ yes'. absurd (cc yes'),
  λ distinct. absurd (stands_twice c.args.names.now c.loop-name.name-index c.name-item.result c.loop-name-test.true c.name-item.is
      (sym (c.loop-name.invariant.listed c.name-item.result) ∙ was_listed c.in_ok-insert.field-0 _ c.in_ok-insert.ensures.added c.if-not-branch.true) distinct),
)

pub loop-name-preserved : goal.loop-name-preserved
loop-name-preserved c = record {
  listed = set_more c.args.names.now c.loop-name.name-index c.name-item.result c.loop-name.set c.insert.new.self c.loop-name-test.true c.name-item.is
      c.in_ok-insert.ensures.updates c.loop-name.invariant.listed;
  apart = apart_more c.args.names.now c.loop-name.name-index c.name-item.result c.loop-name-test.true c.name-item.is
      (sym (c.loop-name.invariant.listed c.name-item.result) ∙ was_new c.in_ok-insert.field-0 _ c.in_ok-insert.ensures.added c.if-not-branch.false)
      c.loop-name.invariant.apart;
}

pub returns : goal.returns
returns c =
    let whole = take_all c.loop-name.name-index c.args.names.now c.loop-name-test.false in
    (λ yes'. subst (λ l. AllPairs (λ m n. m ≢ n) l) whole c.loop-name.invariant.apart, λ distinct. refl)
