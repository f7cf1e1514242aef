use Rattle.std.proofs.Common.{◌∙◌, ◌&&◌, ◌||◌, sym, ap, subst}
use Rattle.std.specs.Ptr.{null_ptr}
use Rattle.std.specs.Ordering.{is_eq}
use Rattle.std.specs.Arc.{arc_value}
use Rattle.pj_ranges.specs.declared.range.RangeAt.{RangeAt}
use Rattle.pj_ranges.specs.Units.{hunk_cmp, range_cmp}
use Rattle.pj_ranges.specs.Over.{has_range}
use Rattle.pj_states.specs.declared.deletion.Deletion.{Deletion}
use Rattle.pj_pmap.specs.Pairs.{IsRising, with_pair}
use Rattle.pj_states.specs.Rows.{Rows, hunk_at, shown_rows}
use Rattle.pj_states.specs.Index.{AreIndexed}
use Rattle.pj_states.specs.Named.{AreNamed, is_named, is_one_of}
use Rattle.pj_states.proofs.Indexed.{indexed_with}
use Rattle.pj_states.proofs.NamedRows.{named_with}
use Rattle.pj_states.proofs.ShownRows.{with_shown, rising_shown}
use Rattle.pj_states.proofs.versions.Versions.add.Goals as goal

pub returns-clause-rows : goal.returns-clause-rows
returns-clause-rows g c =
    ap shown_rows c.in_ok-hunks.ensures.same
    ∙ with_shown hunk_cmp arc_value (hunk_at c.args.change c.args.hunk) (record { ptr = null_ptr; value = arc_value c.in_ok-shared.shared }) c.self.inside.hunks
    ∙ ap (λ (d : Deletion). with_pair hunk_cmp (hunk_at c.args.change c.args.hunk) d (shown_rows c.self.inside.hunks)) c.in_ok-shared.ensures.ok
    ∙ ap (λ (rows : Rows). with_pair hunk_cmp (hunk_at c.args.change c.args.hunk) c.args.op rows) c.self.view_is

pub invariant_of-result : goal.invariant_of-result
invariant_of-result g c =
    let x = subst (λ rows. AreIndexed rows c.self.inside.ranges) c.self.view_is c.self.invariant.0 in
    let n = subst (λ rows. AreNamed rows c.self.inside.named) c.self.view_is c.self.invariant.1 in
    let same = returns-clause-rows g c in (
      subst (λ rows. AreIndexed rows c.in_ok-ranges.ranges) (sym same)
          (indexed_with c.args.self c.self.inside.ranges c.in_ok-ranges.ranges x (hunk_at c.args.change c.args.hunk) c.args.op c.requires.fresh
          (λ q. c.in_ok-ranges.ensures.ranges q ∙ ap (λ (r : RangeAt). is_eq (range_cmp q r) || has_range c.self.inside.ranges q) c.range_of-range.ensures.same) c.requires.some (subst (IsRising hunk_cmp) same (rising_shown hunk_cmp arc_value c.in_ok-hunks.hunks c.in_ok-hunks.ensures.rising))),
      subst (λ rows. AreNamed rows c.in_ok-named.named) (sym same)
          (named_with c.args.self c.self.inside.named c.in_ok-named.named n (hunk_at c.args.change c.args.hunk) c.args.op c.requires.fresh
          (λ name j. c.in_ok-named.ensures.rows name j ∙ ap (λ names. (is_one_of names name && is_eq (hunk_cmp j (hunk_at c.args.change c.args.hunk))) || is_named c.self.inside.named name j) c.items.ensures)),
    )

pub with-requires : goal.with-requires
with-requires g c = c.range_of-range.ensures.measured
