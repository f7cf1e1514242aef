-- Each turn of the loop is one pass more.
use Rattle.std.proofs.Common.{◌≡◌, ◌+◌, List, length, refl, ◌∙◌, ap, arith}
use Rattle.std.proofs.lemmas.List.{length_push}
use Rattle.pj_book.specs.Token.{Token}
use Rattle.pj_repo.specs.Views.{pass_view}
use Rattle.pj_serve.proofs.WorkRows.{turns_none, turns_more}
use Rattle.pj_serve.proofs.staff.turns_for.Goals as goal

pub loop-turn-init : goal.loop-turn-init
loop-turn-init g c =
    let none : length c.args.turns.items ≡ 0 = ap (λ (l : List _). length l) c.requires.room.0 in
    record {
      turns = turns_none pass_view _ _ c.requires.room.0;
      count = none;
      room = c.requires.room.1;
      made = omega arith;
      limits = refl;
      number = refl;
      own = refl;
    }

pub loop-turn-preserved : goal.loop-turn-preserved
loop-turn-preserved g c =
    let before = c.loop-turn.invariant in
    let pass = c.pass-pass.ensures in
    let pushed = c.push_reserved.ensures.items in
    let size = before.count in
    let made = before.made in
    let next : c.pass-pass.new.self.made ≡ c.loop-turn.repo.made + 1 = ap (λ r. r.made) pass.made in
    let number : c.pass-pass.result.number ≡ c.loop-turn.repo.made = ap (λ (t : Token _). t.number) pass.new in
    let at : c.loop-turn.repo.made ≡ c.args.repo.now.made + length c.loop-turn.turns.items = omega (arith, size, made) in
    let room = before.room in
    let same = c.push_reserved.ensures.capacity in
    record {
      turns = turns_more pass_view _ _ _ _ before.turns pushed (record { number_is = c.number-number.ensures ∙ number ∙ at; of_pass = number ∙ at; fresh = pass.fresh });
      count = ap (λ (l : List _). length l) pushed ∙ length_push c.loop-turn.turns.items _ ∙ ap (λ n. n + 1) size;
      room = omega (arith, room, same);
      made = omega (arith, next, made);
      limits = ap (λ r. r.limits) pass.made ∙ before.limits;
      number = ap (λ (t : Token _). t.number) pass.from ∙ before.number;
      own = pass.from_own ∙ before.own;
    }
