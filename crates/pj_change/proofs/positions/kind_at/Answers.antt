use Rattle.std.proofs.Common.{◌≡◌, ℕ, ◌-◌, ◌<◌, ◌≤◌, List, arith, sym, ap, subst, ◌∙◌, length}
use Rattle.std.specs.Prelude.{Some, None, Option, ◌↔◌}
use Rattle.std.proofs.lemmas.List.Sums.{sum_by_more}
use Rattle.pj_change.specs.declared.hunk.Hunk.{Hunk}
use Rattle.pj_change.specs.declared.kind.Kind.{Kind}
use Rattle.pj_change.specs.Rules.{position_count}
use Rattle.pj_change.specs.Positions.{place, kind_at}
use Rattle.pj_change.proofs.PlaceLemmas.{few_upto}
use Rattle.pj_change.proofs.KindLemmas.{kind_here, kind_on, kind_past, none_past}
use Rattle.pj_change.proofs.positions.kind_at.Goals as goal

pub overflow_cast-count : goal.overflow_cast-count
overflow_cast-count c = omega (arith, few_upto c.args.change.now c.items-hunk-items.result.now c.loop-number.number c.hunk-item.result c.items-hunk-items.ensures c.hunk-item.is c.loop-number-test.true)

pub kind_in-requires : goal.kind_in-requires
kind_in-requires c = omega (arith, few_upto c.args.change.now c.items-hunk-items.result.now c.loop-number.number c.hunk-item.result c.items-hunk-items.ensures c.hunk-item.is c.loop-number-test.true)

-- what stands at a position is nothing exactly past the positions
none_alike : (hs : List Hunk) (offset : ℕ) (o : Option Kind) → o ≡ kind_at hs offset → (o ≡ None) ↔ (place hs (length hs) ≤ offset)
none_alike hs offset o e = subst (λ k. (k ≡ None) ↔ (place hs (length hs) ≤ offset)) (sym e) (none_past hs offset)

pub returns-then-offset-first : goal.returns-then-offset-first
returns-then-offset-first c =
    let hunks = c.args.change.now.hunks in
    let at : c.args.offset - c.loop-number.first < position_count c.hunk-item.result = omega arith in
    let here = kind_here c.items-hunk-items.result.now c.loop-number.number c.loop-number.first (c.args.offset - c.loop-number.first) c.hunk-item.result c.hunk-item.is c.loop-number-test.true at in
    let is : Some c.kind_in.result ≡ kind_at hunks c.args.offset = ap Some c.kind_in.ensures ∙ sym here ∙ sym c.loop-number.invariant.found in
    record { kind = is; past = none_alike hunks c.args.offset (Some c.kind_in.result) is }

pub loop-number-preserved : goal.loop-number-preserved
loop-number-preserved c =
    record {
      first = omega (arith, sum_by_more position_count c.items-hunk-items.result.now c.loop-number.number c.hunk-item.result c.loop-number-test.true, ap position_count c.hunk-item.is);
      before = omega arith;
      found = c.loop-number.invariant.found ∙ kind_on c.items-hunk-items.result.now c.loop-number.number c.loop-number.first c.args.offset c.position_count-count.result c.hunk-item.result c.hunk-item.is c.loop-number-test.true c.position_count-count.ensures c.if-offset-first.false;
    }

pub returns : goal.returns
returns c =
    let hunks = c.args.change.now.hunks in
    let is : None ≡ kind_at hunks c.args.offset =
    sym (kind_past c.items-hunk-items.result.now c.loop-number.number c.loop-number.first (c.args.offset - c.loop-number.first) c.loop-number-test.false) ∙ sym c.loop-number.invariant.found in
    record { kind = is; past = none_alike hunks c.args.offset None is }
