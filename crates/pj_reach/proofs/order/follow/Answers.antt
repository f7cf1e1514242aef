use Rattle.std.proofs.Common.{◌≡◌, ◌≢◌, ℕ, ◌<◌, Option, Some, None, length, get_or, sym, ◌∙◌, ap, subst, arith}
use Rattle.std.proofs.lemmas.List.{get_or_read}
use Rattle.pj_reach.specs.Links.{source, target, IsLastLeaving}
use Rattle.pj_reach.proofs.Rows.{Following, Joined, joined, follow_step, done_kept, inner_done, edge_done, sound_kept}
use Rattle.pj_reach.proofs.order.follow.Goals as goal
use Rattle.pj_reach.proofs.order.follow.Goals.{then-other-class, else-other-class}

pub loop-next-preserved : goal.loop-next-preserved
loop-next-preserved c =
    let so_far : Following (length c.args.class_of.now) c.args.edges.now c.args.class_of.now c.args.classes c.args.vertex c.args.before.now c.loop-next.before (Some c.in-Some.edge) =
    subst (λ (o : Option ℕ). Following (length c.args.class_of.now) c.args.edges.now c.args.class_of.now c.args.classes c.args.vertex c.args.before.now c.loop-next.before o) c.in-Some.is c.loop-next.invariant in
    let e_in : c.in-Some.edge < length c.args.edges.now = so_far.next_is.0 in
    let from : source c.args.edges.now c.in-Some.edge ≡ c.args.vertex = so_far.next_is.1 in
    let link : IsLastLeaving c.args.edges.now (source c.args.edges.now c.in-Some.edge) c.in-Some.edge c.index-next-in-Some.result.now =
    subst (λ (o : Option ℕ). IsLastLeaving c.args.edges.now (source c.args.edges.now c.in-Some.edge) c.in-Some.edge o)
    (sym (get_or_read c.args.links.now.earlier.items c.in-Some.edge c.index-next-in-Some.result.now (omega (arith, e_in, c.requires.linked.earlier_len)) c.index-next-in-Some.ensures None))
    (c.requires.linked.earlier_is c.in-Some.edge e_in) in
    elim c.if-other-class.branch [
      | then-other-class w ↦
          let apart : (get_or c.args.class_of.now (target c.args.edges.now c.in-Some.edge) 0) ≢ (get_or c.args.class_of.now c.args.vertex 0) = w.if-other-class.true in
          let join : Joined (get_or c.args.class_of.now (source c.args.edges.now c.in-Some.edge) 0) (get_or c.args.class_of.now (target c.args.edges.now c.in-Some.edge) 0) c.loop-next.before w.or_row.new.self =
          subst (λ v. Joined (get_or c.args.class_of.now v 0) (get_or c.args.class_of.now (target c.args.edges.now c.in-Some.edge) 0) c.loop-next.before w.or_row.new.self) (sym from)
          (joined (get_or c.args.class_of.now c.args.vertex 0) (get_or c.args.class_of.now (target c.args.edges.now c.in-Some.edge) 0) c.loop-next.before w.set.new.self w.or_row.new.self apart w.set.ensures.here w.set.ensures.others w.or_row.ensures.joined w.or_row.ensures.others) in
          rw w.before-is (follow_step (length c.args.class_of.now) c.args.edges.now c.args.class_of.now c.args.classes c.args.vertex c.args.before.now c.loop-next.before w.or_row.new.self c.in-Some.edge c.index-next-in-Some.result.now so_far link
          (w.or_row.ensures.size ∙ w.set.ensures.size ∙ so_far.size_is)
          (sound_kept (length c.args.class_of.now) c.args.edges.now c.args.class_of.now c.args.classes c.requires.graph c.requires.classes c.in-Some.edge e_in c.loop-next.before w.or_row.new.self join (λ same. apart (same ∙ ap (λ v. get_or c.args.class_of.now v 0) from)) so_far.sound)
          (done_kept (length c.args.class_of.now) c.args.edges.now c.args.class_of.now c.args.classes c.requires.graph c.requires.classes (get_or c.args.class_of.now (source c.args.edges.now c.in-Some.edge) 0) (get_or c.args.class_of.now (target c.args.edges.now c.in-Some.edge) 0) c.loop-next.before w.or_row.new.self join)
          (edge_done (length c.args.class_of.now) c.args.edges.now c.args.class_of.now c.args.classes c.requires.graph c.requires.classes c.in-Some.edge e_in c.loop-next.before w.or_row.new.self join
          (λ f f_in same. so_far.kept f (c.requires.full c.in-Some.edge f e_in from f_in same (λ at_vertex. apart (sym same ∙ at_vertex))))))
      | else-other-class w ↦
          rw w.before-is (follow_step (length c.args.class_of.now) c.args.edges.now c.args.class_of.now c.args.classes c.args.vertex c.args.before.now c.loop-next.before c.loop-next.before c.in-Some.edge c.index-next-in-Some.result.now so_far link
          so_far.size_is so_far.sound (λ f h. h)
          (inner_done (length c.args.class_of.now) c.args.edges.now c.args.class_of.now c.args.classes c.requires.graph c.requires.classes c.loop-next.before c.in-Some.edge (ap (λ v. get_or c.args.class_of.now v 0) from ∙ sym w.if-other-class.false)))
    ]
