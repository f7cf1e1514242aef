use Rattle.std.proofs.Common.{◌≡◌, ◌≢◌, refl, ◌+◌, ◌%◌, ◌<◌, None, true, false, sym, ◌∙◌, ap, ◌++◌, length, arith}
use Rattle.std.specs.Prelude.{nat_eq, slice_index_or}
use Rattle.std.proofs.lemmas.List.{get_or_default, length-set}
use Rattle.std.proofs.lemmas.Bool.{eq-eqb, ne_eqb}
use Rattle.pj_change.specs.Text.{text_of}
use Rattle.pj_wire.specs.Requests.{spellings}
use Rattle.pj_gen.specs.Requests.{requests_for}
use Rattle.pj_gen.specs.Draws.{drawn, draws_from, number_after}
use Rattle.pj_gen.specs.Changes.{change_after, last_insertion}
use Rattle.pj_gen.proofs.Sessions.{number_none, last_none, requests_none, number_more, lasts_own, lasts_other, requests_own, requests_other, nones}
use Rattle.pj_gen.proofs.making.session_script.Goals as goal
use Rattle.pj_gen.proofs.making.session_script.Goals.{then-before-sessions+in_ok-last, else-before-sessions}

pub loop-before-init : goal.loop-before-init
loop-before-init c = record {
  state_is = c.from-state.ensures ∙ sym (number_none c.args.number);
  eight = refl;
  last_are = λ k small own. nones k small ∙ sym (last_none c.args.number k);
  out_is = c.new-out.ensures.items ∙ sym (requests_none c.args.number c.args.sessions c.args.session);
}

pub loop-before-preserved : goal.loop-before-preserved
loop-before-preserved c =
    let n = c.loop-before.before in
    let draws : c.draw_change-draws.result ≡ draws_from (number_after c.args.number n) = c.draw_change-draws.ensures.draws ∙ ap draws_from c.loop-before.invariant.state_is in
    let state = c.draw_change-draws.ensures.number ∙ ap (λ x. drawn (drawn (drawn x))) c.loop-before.invariant.state_is ∙ sym (number_more c.args.number n) in
    elim c.if-before-sessions.branch [
      | then-before-sessions+in_ok-last w ↦
          let own : n % 8 % c.args.sessions ≡ c.args.session = w.if-before-sessions.true in
          let test : nat_eq (n % 8 % c.args.sessions) c.args.session ≡ true = eq-eqb (n % 8 % c.args.sessions) c.args.session own in
          let small : n % 8 < 8 = omega arith in
          let read = slice_index_or c.loop-before.last (n % 8) w.index-last-line.result in
          let here : read ≡ last_insertion c.args.number (n % 8) n =
          get_or_default c.loop-before.last (n % 8) w.index-last-line.result None (omega (arith, c.loop-before.invariant.eight)) ∙ c.loop-before.invariant.last_are (n % 8) small own in
          record {
            state_is = state;
            eight = ap length w.last-is ∙ length-set c.loop-before.last (n % 8) w.in_ok-last.field-0 ∙ c.loop-before.invariant.eight;
            last_are = lasts_own c.args.number c.args.sessions c.args.session n c.loop-before.last c.if-before-sessions.last read w.in_ok-last.field-0 c.draw_change-draws.result
                c.loop-before.invariant.eight c.loop-before.invariant.last_are here draws w.in_ok-last.ensures.1 w.last-is;
            out_is = ap (λ v. v.items) w.out-is ∙ w.in_ok-last.ensures.0 ∙ ap (λ t. t ++ spellings (requests_for (n % 8) (n + 1) (text_of (change_after read (n + 1) c.draw_change-draws.result)))) c.loop-before.invariant.out_is
                ∙ sym (requests_own c.args.number c.args.sessions c.args.session n read c.draw_change-draws.result test here draws);
          }
      | else-before-sessions w ↦
          let other : n % 8 % c.args.sessions ≢ c.args.session = w.if-before-sessions.false in
          let test : nat_eq (n % 8 % c.args.sessions) c.args.session ≡ false = ne_eqb (n % 8 % c.args.sessions) c.args.session other in
          record {
            state_is = state;
            eight = ap length w.last-is ∙ c.loop-before.invariant.eight;
            last_are = λ k small own. ap (λ l. slice_index_or l k None) w.last-is ∙ lasts_other c.args.number c.args.sessions c.args.session n c.loop-before.last other c.loop-before.invariant.last_are k small own;
            out_is = ap (λ v. v.items) w.out-is ∙ c.loop-before.invariant.out_is ∙ sym (requests_other c.args.number c.args.sessions c.args.session n test);
          }
    ]
