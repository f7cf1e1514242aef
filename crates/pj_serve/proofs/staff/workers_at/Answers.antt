-- Each turn of the loop is one worker more.
use Rattle.std.proofs.Common.{◌≡◌, ◌+◌, ◌∷◌, List, length, map, refl, ◌∙◌, ap, arith}
use Rattle.std.proofs.lemmas.List.{length_push}
use Rattle.pj_repo.specs.Views.{pass_view}
use Rattle.pj_serve.specs.Shares.{total}
use Rattle.pj_load.proofs.Parting.{none_left}
use Rattle.pj_serve.proofs.WorkRows.{workers_begin, workers_more, workers_end, total_taken}
use Rattle.pj_serve.proofs.staff.workers_at.Goals as goal

pub loop-door-preserved : goal.loop-door-preserved
loop-door-preserved g c =
    let before = c.loop-door.invariant in
    let taken : c.loop-door.doors.items ≡ c.in-Some.door ∷ c.pop_front.new.self.items = c.in-Some.ensures.items in
    let fewer : length c.loop-door.doors.items ≡ length c.pop_front.new.self.items + 1 = ap (λ (l : List _). length l) taken ∙ (omega arith) in
    let pushed = c.push_reserved.ensures.items in
    let more : length c.push_reserved.new.self.items ≡ length c.loop-door.workers.items + 1 = ap (λ (l : List _). length l) pushed ∙ length_push c.loop-door.workers.items _ in
    let room = before.room in
    let same = c.push_reserved.ensures.capacity in
    let made = before.made in
    let its_made = c.in_ok-worker.ensures.made in
    let all = total_taken g.V.Door.meaning.left _ _ _ taken in
    record {
      goes_on = workers_more pass_view _ _ _ _ _ _ _ _ _ _ _ before.goes_on taken its_made c.in_ok-worker.ensures.worker pushed;
      made = omega (arith, made, its_made, all);
      room = omega (arith, room, same, more, fewer);
      limits = c.worker_at.ensures.limits ∙ before.limits;
      number = c.worker_at.ensures.number ∙ before.number;
      own = c.worker_at.ensures.own ∙ before.own;
    }

pub loop-door-init : goal.loop-door-init
loop-door-init g c =
    let all = c.from_vec-doors.ensures.items in
    let many : length c.from_vec-doors.result.items ≡ length c.args.doors.items = ap (λ (l : List _). length l) all in
    let none : length c.in-Ok.workers.items ≡ 0 = ap (λ (l : List _). length l) c.in-Ok.ensures.items in
    let room = c.in-Ok.ensures.capacity in
    record {
      goes_on = workers_begin pass_view _ _ _ _ _ c.in-Ok.ensures.items all;
      made = ap (λ l. c.args.repo.now.made + total (map g.V.Door.meaning.left l)) all;
      room = omega arith;
      limits = refl;
      number = refl;
      own = refl;
    }

pub returns-clause-workers : goal.returns-clause-workers
returns-clause-workers g c =
    workers_end pass_view _ _ _ _ _ _ c.loop-door.invariant.goes_on (let ok = c.loop-door.doors.ok in let none = c.in_default-pop_front.ensures.cases.0 in none_left c.loop-door.doors.items (omega (arith, ok, none)))
