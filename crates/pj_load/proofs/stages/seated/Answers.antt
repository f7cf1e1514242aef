-- Each turn makes one seat of what is taken from the front.
use Rattle.std.proofs.Common.{◌≡◌, ◌+◌, ◌∷◌, List, length, refl, sym, ◌∙◌, ap, subst, arith}
use Rattle.std.proofs.lemmas.List.{length_push}
use mathlib.Core.List.{IsPrefix}
use Rattle.pj_book.specs.Token.{Token}
use Rattle.pj_repo.specs.Views.{pass_view}
use Rattle.pj_load.proofs.SeatRows.{SeatedSoFar, none_seated, one_seated, prefix_itself, prefix_further}
use Rattle.pj_load.proofs.stages.seated.Goals as goal

pub loop-script-init : goal.loop-script-init
loop-script-init g c =
    let all = c.from_vec-scripts.ensures.items in
    let none : length c.args.seats.items ≡ 0 = ap (λ (l : List _). length l) c.requires.room.0 in
    let many : length c.from_vec-scripts.result.items ≡ length c.args.scripts.items = ap (λ (l : List _). length l) all in
    let room = c.requires.room.1 in
    let made = c.requires.made in
    record {
      seated = subst (λ left. SeatedSoFar pass_view (pass_view c.args.first.now).journal c.args.scripts.items c.args.seats.items left) (sym all) (none_seated pass_view (pass_view c.args.first.now).journal _ _ c.requires.room.0);
      room = omega arith;
      made = omega arith;
      limits = refl;
      number = refl;
      own = refl;
      sees = prefix_itself _;
    }

pub loop-script-preserved : goal.loop-script-preserved
loop-script-preserved g c =
    let before = c.loop-script.invariant in
    let room = before.room in
    let made = before.made in
    let pushed = c.push_reserved.ensures.items in
    let kept = c.push_reserved.ensures.capacity in
    let more : length c.push_reserved.new.self.items ≡ length c.loop-script.seats.items + 1 =
    ap (λ (l : List _). length l) pushed ∙ length_push c.loop-script.seats.items _ in
    let taken : c.loop-script.scripts.items ≡ c.in-Some.script ∷ c.pop_front.new.self.items = c.in-Some.ensures.items in
    let fewer : length c.loop-script.scripts.items ≡ length c.pop_front.new.self.items + 1 =
    ap (λ (l : List _). length l) taken ∙ (omega arith) in
    let pass = c.pass-pass.ensures in
    let next : c.pass-pass.new.self.made ≡ c.loop-script.repo.made + 1 = ap (λ r. r.made) pass.made in
    let further : IsPrefix (pass_view c.args.first.now).journal (pass_view c.pass-pass.new.from).journal = prefix_further _ _ _ before.sees pass.from_sees in
    let seen : (pass_view c.pass-pass.new.from).journal ≡ (pass_view c.pass-pass.result).journal = sym (ap (λ t. (pass_view t).journal) pass.new) in
    record {
      seated = one_seated pass_view (pass_view c.args.first.now).journal _ _ _ _ _ _ before.seated pushed taken (ap (λ (t : Token _). t.number) pass.new ∙ (omega arith)) pass.fresh (subst (λ j. IsPrefix (pass_view c.args.first.now).journal j) seen further) refl;
      room = omega arith;
      made = omega arith;
      limits = ap (λ r. r.limits) pass.made ∙ before.limits;
      number = ap (λ (t : Token _). t.number) pass.from ∙ before.number;
      own = pass.from_own ∙ before.own;
      sees = further;
    }
