use Rattle.std.proofs.Common.{ℕ, ◌+◌, ◌++◌, List, drop, ap, ◌∙◌, arith}
use Rattle.std.proofs.lemmas.List.Sums.{sum_by_more}
use Rattle.pj_change.specs.Rules.{position_count}
use Rattle.pj_change.specs.Shown.{shown_from, shown_hunk}
use Rattle.pj_change.proofs.PlaceLemmas.{few_upto}
use Rattle.pj_serve.proofs.ShownLemmas.{shown_from-on, shown_from-end}
use Rattle.pj_serve.proofs.show.add_hunks.Goals as goal

pub add_hunk-requires : goal.add_hunk-requires
add_hunk-requires c =
    omega (
      arith,
      c.loop-number.invariant.first,
      few_upto c.args.change.now c.items-hunk-items.result.now c.loop-number.number c.hunk-item.result c.items-hunk-items.ensures c.hunk-item.is c.loop-number-test.true,
    )

pub overflow_add-first : goal.overflow_add-first
overflow_add-first c =
    omega (
      arith,
      c.loop-number.invariant.first,
      c.position_count-first.ensures,
      few_upto c.args.change.now c.items-hunk-items.result.now c.loop-number.number c.hunk-item.result c.items-hunk-items.ensures c.hunk-item.is c.loop-number-test.true,
    )

pub loop-number-preserved : goal.loop-number-preserved
loop-number-preserved c =
    let hunks = c.items-hunk-items.result.now in
    let number = c.loop-number.number in
    let done : List ℕ = c.loop-number.lines.items in
    record {
      lines =
          ap (λ t. t ++ shown_from (number + 1) (c.loop-number.first + c.position_count-first.result) (drop (number + 1) hunks)) c.in_ok-add_hunk.ensures
          ∙ ap (λ n. (done ++ shown_hunk number c.loop-number.first c.hunk-item.result) ++ shown_from (number + 1) (c.loop-number.first + n) (drop (number + 1) hunks)) c.position_count-first.ensures
          ∙ shown_from-on hunks number c.loop-number.first c.hunk-item.result done c.hunk-item.is c.loop-number-test.true
          ∙ c.loop-number.invariant.lines;
      first = omega (arith, c.loop-number.invariant.first, c.position_count-first.ensures, ap position_count c.hunk-item.is, sum_by_more position_count hunks number c.hunk-item.result c.loop-number-test.true);
    }

pub returns : goal.returns
returns c =
    shown_from-end c.items-hunk-items.result.now c.loop-number.number c.loop-number.first _ _ (omega (arith, c.loop-number-test.false)) c.loop-number.invariant.lines
    ∙ ap (λ hunks. c.args.lines.now.items ++ shown_from 0 0 hunks) c.items-hunk-items.ensures
