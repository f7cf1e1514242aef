use Rattle.std.proofs.Common.{◌++◌, sym, ◌∙◌, ap, arith, [], ◌∷◌}
use Rattle.pj_bits.specs.Row.{has}
use Rattle.pj_bits.proofs.Ones.{next_found, none_after}
use Rattle.pj_bits.proofs.Rows.{size_seen}
use Rattle.pj_bits.proofs.row.BitRow.ones.Goals as goal

pub overflow_add-from : goal.overflow_add-from
overflow_add-from c = omega (arith, c.in-Some.ensures.1, size_seen c.self.inside.size c.self.inside.words.items c.args.self.now c.self.view_is)

pub loop-column-preserved : goal.loop-column-preserved
loop-column-preserved c = record {
  inside = omega (arith, c.in-Some.ensures.1);
  found = c.in_ok-push.ensures.items ∙ ap (λ xs. xs ++ c.in-Some.column ∷ []) c.loop-column.invariant.found
      ∙ sym (next_found (has c.args.self.now) c.loop-column.from c.in-Some.column c.in-Some.ensures.0 c.in-Some.ensures.2 c.in-Some.ensures.3);
}

pub returns : goal.returns
returns c = c.loop-column.invariant.found ∙ sym (none_after (has c.args.self.now) c.loop-column.from _ c.loop-column.invariant.inside (λ k a b. c.in_default.ensures k a))
