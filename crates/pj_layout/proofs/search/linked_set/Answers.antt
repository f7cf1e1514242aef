use Rattle.std.proofs.Common.{sym, ◌∙◌, subst, inr, arith}
use Rattle.std.proofs.lemmas.Result.{IfOk-weaker}
use Rattle.pj_layout.specs.Orders.{Before}
use Rattle.pj_layout.specs.Parts.{Joins}
use Rattle.pj_layout.proofs.Bits.{fewer_clear}
use Rattle.pj_layout.proofs.LinkedSets.{IsFollowed, joins_back, not_done, search_begins, search_goes_on, common_followed, others_followed, search_ends}
use Rattle.pj_layout.proofs.search.linked_set.Goals as goal

pub loop-class-init : goal.loop-class-init
loop-class-init c = record {
  rest_size = c.clear.ensures.size;
  set_size = c.in_ok-set.ensures.size ∙ c.size-size.ensures.size;
  near_size = c.in_ok-near.ensures.size ∙ c.size-size.ensures.size;
  frontier_size = c.set-2.ensures.size ∙ c.in_ok-frontier.ensures.size ∙ c.size-size.ensures.size;
  search = search_begins (Joins c.args.link (Before c.args.order.now.before.now)) c.args.rest.now c.in_ok-set.set c.in_ok-frontier.frontier c.set-2.new.self c.clear.new.self c.args.start c.requires.start
      c.in_ok-set.ensures.clear c.in_ok-frontier.ensures.clear c.set-2.ensures.here c.set-2.ensures.others c.clear.ensures.here c.clear.ensures.others;
}

pub loop-class-smaller-in-Ordered : goal.loop-class-smaller-in-Ordered
loop-class-smaller-in-Ordered c =
    let i = c.loop-class.invariant in
    fewer_clear c.loop-class.set c.set-in-Some.new.self c.in-Some.class (not_done _ _ _ _ _ _ c.in-Some.class i.search c.in-Some.ensures.2)
    c.set-in-Some.ensures.here c.set-in-Some.ensures.others c.set-in-Some.ensures.size (omega (arith, c.in-Some.ensures.1, i.set_size, i.frontier_size))

pub loop-class-preserved-in-Ordered : goal.loop-class-preserved-in-Ordered
loop-class-preserved-in-Ordered c =
    let i = c.loop-class.invariant in
    let followed = subst (λ kind. IsFollowed (Joins kind (Before c.args.order.now.before.now)) c.in-Some.class c.clear-in-Some.new.self c.loop-class.rest c.move_common.new.to c.move_common.new.self) (sym c.in-Ordered.is)
    (common_followed c.args.order.now.before.now c.args.order.now.after c.args.order.now.prepared.turned c.in-Some.class c.copy_row.new.self c.or_row.new.self
    c.copy_row.ensures.copied c.or_row.ensures.joined c.clear-in-Some.new.self c.loop-class.rest c.move_common.new.to c.move_common.new.self c.move_common.ensures.kept c.move_common.ensures.moved) in
    record {
      rest_size = c.move_common.ensures.size ∙ i.rest_size;
      set_size = c.set-in-Some.ensures.size ∙ i.set_size;
      near_size = c.or_row.ensures.size ∙ c.copy_row.ensures.size ∙ i.near_size;
      frontier_size = c.move_common.ensures.to_size ∙ c.clear-in-Some.ensures.size ∙ i.frontier_size;
      search = search_goes_on _ _ c.loop-class.set c.loop-class.frontier c.loop-class.rest c.args.start i.search c.in-Some.class c.in-Some.ensures.2
          c.set-in-Some.new.self c.clear-in-Some.new.self c.move_common.new.to c.move_common.new.self
          c.set-in-Some.ensures.here c.set-in-Some.ensures.others c.clear-in-Some.ensures.here c.clear-in-Some.ensures.others followed;
    }

pub loop-class-smaller : goal.loop-class-smaller
loop-class-smaller c =
    let i = c.loop-class.invariant in
    fewer_clear c.loop-class.set c.set-in-Some.new.self c.in-Some.class (not_done _ _ _ _ _ _ c.in-Some.class i.search c.in-Some.ensures.2)
    c.set-in-Some.ensures.here c.set-in-Some.ensures.others c.set-in-Some.ensures.size (omega (arith, c.in-Some.ensures.1, i.set_size, i.frontier_size))

pub loop-class-preserved : goal.loop-class-preserved
loop-class-preserved c =
    let i = c.loop-class.invariant in
    let followed = subst (λ kind. IsFollowed (Joins kind (Before c.args.order.now.before.now)) c.in-Some.class c.clear-in-Some.new.self c.loop-class.rest c.move_others.new.to c.move_others.new.self) (sym c.in-Unordered.is)
    (others_followed c.args.order.now.before.now c.args.order.now.after c.args.order.now.prepared.turned c.in-Some.class c.copy_row.new.self c.or_row.new.self
    c.copy_row.ensures.copied c.or_row.ensures.joined c.clear-in-Some.new.self c.loop-class.rest c.move_others.new.to c.move_others.new.self
    (i.search.gone c.in-Some.class (inr c.in-Some.ensures.2)) c.move_others.ensures.kept c.move_others.ensures.moved) in
    record {
      rest_size = c.move_others.ensures.size ∙ i.rest_size;
      set_size = c.set-in-Some.ensures.size ∙ i.set_size;
      near_size = c.or_row.ensures.size ∙ c.copy_row.ensures.size ∙ i.near_size;
      frontier_size = c.move_others.ensures.to_size ∙ c.clear-in-Some.ensures.size ∙ i.frontier_size;
      search = search_goes_on _ _ c.loop-class.set c.loop-class.frontier c.loop-class.rest c.args.start i.search c.in-Some.class c.in-Some.ensures.2
          c.set-in-Some.new.self c.clear-in-Some.new.self c.move_others.new.to c.move_others.new.self
          c.set-in-Some.ensures.here c.set-in-Some.ensures.others c.clear-in-Some.ensures.here c.clear-in-Some.ensures.others followed;
    }

pub returns-clause-taken : goal.returns-clause-taken
returns-clause-taken c =
    IfOk-weaker c.ones.result _ _
    (λ ones is. search_ends (Joins c.args.link (Before c.args.order.now.before.now)) (joins_back c.args.link (Before c.args.order.now.before.now)) c.args.rest.now c.loop-class.set c.loop-class.frontier c.loop-class.rest c.args.start
    c.loop-class.invariant.search (λ x. c.in_default.ensures x (omega arith)) ones.items is)
    c.ones.ensures
