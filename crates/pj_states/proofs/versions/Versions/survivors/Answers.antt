use Rattle.std.proofs.Common.{◌∙◌, subst, refl, false, sym, Some, None}
use Rattle.pj_ranges.proofs.Walked.{step_same, falls_same}
use Rattle.pj_states.specs.Index.{AreIndexed}
use Rattle.pj_states.proofs.Seen.{AreSeen, seen_starts, seen_goes, seen_here, seen_all}
use Rattle.pj_states.proofs.SetStatuses.{survivors_of_set}
use Rattle.pj_states.proofs.versions.Versions.survivors.Goals as goal

pub loop-next-init : goal.loop-next-init
loop-next-init g c = record {
  same = refl;
  owner = c.survives.ensures;
  seen =
      seen_starts c.args.self.now c.next_over-next.new.self c.args.at (g.C.ContestedHunks.contested c.args.contested.now) c.next_over-next.result (step_same c.args.at None c.next_over-next.result (sym c.next_over-next.ensures.same) c.next_over-next.ensures.next)
      (record { owner = c.survives.result; revived = false; deleted = false; contested = false }) refl refl refl;
}

pub loop-next-preserved : goal.loop-next-preserved
loop-next-preserved g c =
    let e = c.seen-found.ensures in
    let contested = g.C.ContestedHunks.contested c.args.contested.now in
    record {
      same = c.next_over-next-in-Some.ensures.same ∙ c.loop-next.invariant.same;
      owner = e.owner ∙ c.loop-next.invariant.owner;
      seen =
          seen_goes c.args.self.now c.next_over-next.new.self c.args.at contested c.in-Some.range c.loop-next.found c.seen-found.result
          (subst (λ n. AreSeen c.args.self.now c.next_over-next.new.self c.args.at contested n c.loop-next.found) c.in-Some.is c.loop-next.invariant.seen)
          (record { revived = e.revived; deleted = e.deleted; contested = e.contested }) c.next_over-next-in-Some.result (step_same c.args.at (Some c.in-Some.range) c.next_over-next-in-Some.result c.loop-next.invariant.same c.next_over-next-in-Some.ensures.next);
    }

pub loop-next-smaller : goal.loop-next-smaller
loop-next-smaller g c = rw c.in-Some.is (falls_same c.in-Some.range c.next_over-next-in-Some.result c.loop-next.invariant.same c.next_over-next-in-Some.ensures.falls)

pub next_over-next-requires-in-Some : goal.next_over-next-requires-in-Some
next_over-next-requires-in-Some g c =
    let e = c.seen-found.ensures in
    let contested = g.C.ContestedHunks.contested c.args.contested.now in
    seen_here c.args.self.now c.next_over-next.new.self c.args.at contested c.in-Some.range c.loop-next.found c.seen-found.result
    (subst (λ n. AreSeen c.args.self.now c.next_over-next.new.self c.args.at contested n c.loop-next.found) c.in-Some.is c.loop-next.invariant.seen)
    (record { revived = e.revived; deleted = e.deleted; contested = e.contested })

pub returns : goal.returns
returns g c =
    let x = subst (AreIndexed c.args.self.now) (sym c.next_over-next.ensures.same) c.walk-walk.ensures in
    let contested = g.C.ContestedHunks.contested c.args.contested.now in
    let all =
    seen_all c.args.self.now c.next_over-next.new.self c.args.at contested x c.loop-next.found
    (subst (λ n. AreSeen c.args.self.now c.next_over-next.new.self c.args.at contested n c.loop-next.found) c.in_default.is c.loop-next.invariant.seen)
    in
    record {
      owner = c.loop-next.invariant.owner;
      revived = all.revived;
      deleted = all.deleted;
      contested = all.contested;
      set = λ S of same.
          survivors_of_set S c.args.self.now x.rising of c.args.at contested same c.loop-next.found c.loop-next.invariant.owner all.revived all.deleted all.contested;
    }
