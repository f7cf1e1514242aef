-- Each turn makes one seat of what is taken from the front.
use Rattle.std.proofs.Common.{◌≡◌, ◌+◌, ◌∷◌, List, length, refl, sym, ◌∙◌, ap, subst, arith}
use Rattle.std.proofs.lemmas.List.{length_push}
use Rattle.pj_book.specs.Token.{Token}
use Rattle.pj_repo.specs.Views.{pass_view}
use Rattle.pj_serve.specs.Seats.{Seated}
use Rattle.pj_serve.proofs.SeatRows.{seated_none, seated_more}
use Rattle.pj_serve.proofs.seating.seated.Goals as goal

pub loop-source-init : goal.loop-source-init
loop-source-init g c =
    let all = c.from_vec-opened.ensures.items in
    let none : length c.args.seats.items ≡ 0 = ap (λ (l : List _). length l) c.requires.room.0 in
    let many : length c.from_vec-opened.result.items ≡ length c.args.opened.items = ap (λ (l : List _). length l) all in
    let room = c.requires.room.1 in
    let first = c.requires.first in
    record {
      seated = subst (λ left. Seated pass_view c.args.opened.items c.args.seats.items left) (sym all) (seated_none pass_view _ _ c.requires.room.0);
      room = omega arith;
      made = omega arith;
      limits = refl;
      number = refl;
      own = refl;
    }

pub loop-source-preserved : goal.loop-source-preserved
loop-source-preserved g c =
    let before = c.loop-source.invariant in
    let room = before.room in
    let made = before.made in
    let pushed = c.push_reserved.ensures.items in
    let kept = c.push_reserved.ensures.capacity in
    let more : length c.push_reserved.new.self.items ≡ length c.loop-source.seats.items + 1 =
    ap (λ (l : List _). length l) pushed ∙ length_push c.loop-source.seats.items _ in
    let taken : c.loop-source.opened.items ≡ c.in-Some.field-0 ∷ c.pop_front.new.self.items = c.in-Some.ensures.items in
    let fewer : length c.loop-source.opened.items ≡ length c.pop_front.new.self.items + 1 =
    ap (λ (l : List _). length l) taken ∙ (omega arith) in
    let pass = c.pass-pass.ensures in
    let next : c.pass-pass.new.self.made ≡ c.loop-source.repo.made + 1 = ap (λ r. r.made) pass.made in
    record {
      seated = seated_more pass_view _ _ _ _ _ _ _ before.seated pushed taken (ap (λ (t : Token _). t.number) pass.new ∙ made) pass.fresh refl refl;
      room = omega arith;
      made = omega arith;
      limits = ap (λ r. r.limits) pass.made ∙ before.limits;
      number = ap (λ (t : Token _). t.number) pass.from ∙ before.number;
      own = pass.from_own ∙ before.own;
    }
