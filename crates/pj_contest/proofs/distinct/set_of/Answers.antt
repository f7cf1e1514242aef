use Rattle.std.proofs.Common.{◌≡◌, ◌<◌, length, sym, arith, subst, take}
use Rattle.std.specs.Prelude.{Contains}
use Rattle.std.proofs.lemmas.List.{take_all}
use Rattle.pj_change.proofs.Members.{no_member}
use Rattle.pj_contest.proofs.Inserted.{inserted_more}
use Rattle.pj_contest.proofs.distinct.set_of.Goals as goal

pub loop-key-init : goal.loop-key-init
loop-key-init g c = λ x. (λ m. let none : length c.new-set.result.keys ≡ 0 = c.new-set.ensures.len in let low = m.1 in absurd (omega arith), λ m. absurd (no_member x m))

pub loop-key-preserved : goal.loop-key-preserved
loop-key-preserved g c =
    let low : c.loop-key.key-index < length c.args.all.now = c.loop-key-test.true in
    inserted_more g.K.Ord.cmp c.requires c.args.all.now c.loop-key.key-index c.key-item.result low (sym c.key-item.is) c.loop-key.set.keys c.insert.new.self.keys c.in_ok-insert.ensures.keys c.loop-key.invariant

pub returns : goal.returns
returns g c =
    let whole : take c.loop-key.key-index c.args.all.now ≡ c.args.all.now = take_all _ _ c.loop-key-test.false in
    λ x. (λ m. subst (λ ks. Contains ks x) whole ((c.loop-key.invariant x).0 m), λ m. (c.loop-key.invariant x).1 (subst (λ ks. Contains ks x) (sym whole) m))
