use Rattle.std.proofs.Common.{◌≡◌, ◌++◌, [], ◌∷◌, sym, ◌∙◌, ap, arith}
use Rattle.std.proofs.lemmas.List.{map_push}
use Rattle.pj_bits.specs.Row.{size as columns}
use Rattle.pj_layout.proofs.PartsFound.{part_known, part_more, parts_all}
use Rattle.pj_layout.proofs.search.linked_sets.Goals as goal
use Rattle.pj_layout.proofs.search.linked_sets.Goals.{then-get+in_ok-linked_set+in_ok-push, else-get}

pub loop-class-2-preserved : goal.loop-class-2-preserved
loop-class-2-preserved c =
    let i = c.loop-class-2.invariant in
    elim c.if-get.branch [
      | then-get+in_ok-linked_set+in_ok-push w ↦ record {
        size = ap columns w.rest-is ∙ w.in_ok-linked_set.ensures.size ∙ i.size;
        parts =
            let items : c.if-get.parts.items ≡ c.loop-class-2.parts.items ++ w.in_ok-linked_set.field-0 ∷ [] = ap (λ parts. parts.items) w.parts-is ∙ w.in_ok-push.ensures.items in
            rw (w.rest-is, items, map_push (λ part. part.items) c.loop-class-2.parts.items w.in_ok-linked_set.field-0)
            (part_more _ c.args.classes.now c.loop-class-2.class-index c.loop-class-2.rest _ i.parts w.linked_set.new.rest w.in_ok-linked_set.field-0.items w.in_ok-linked_set.ensures.taken);
      }
      | else-get w ↦ record {
        size = ap columns w.rest-is ∙ i.size;
        parts = rw (w.rest-is, w.parts-is) (part_known _ c.args.classes.now c.loop-class-2.class-index c.loop-class-2.rest _ i.parts c.loop-class-2-test.true (sym c.get.ensures ∙ w.if-get.false));
      }
    ]

pub returns : goal.returns
returns c = parts_all _ c.args.classes.now c.loop-class-2.class-index c.loop-class-2.rest _ c.loop-class-2.invariant.parts (omega (arith, c.loop-class-2-test.false))
