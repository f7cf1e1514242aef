use Rattle.std.proofs.Common.{rules, true, false, ◌≡◌, ◌∙◌, refl, sym, ap, length, arith}
use Rattle.std.specs.Prelude.{slice_get, Some}
use Rattle.std.proofs.lemmas.Option.{slice_get_read, slice_get_within}
use Rattle.std.proofs.lemmas.List.Sorted.{IsPartitionPoint-from_clause}
use Rattle.pj_change.specs.Vertices.{first_point}
use Rattle.pj_change.proofs.EqualNames.{same_point_is, same_point_itself}
use Rattle.pj_change.specs.Positions.{same_point}
use Rattle.pj_change.proofs.ListNumbers.{one_at}
use Rattle.pj_output.proofs.Numbers.{is_below, below_first, none_begins}
use Rattle.pj_output.proofs.pairs.number_at.Goals as goal

pub returns-in_err-v : goal.returns-in_err-v
returns-in_err-v c =
    let live = c.args.live.now in
    let cut = IsPartitionPoint-from_clause (is_below c.args.first) live _ c.partition_point-number.ensures.partitioned
    (below_first live c.requires.sorted c.args.first) (λ a r q k. search rules) in
    rw c.from_residual.ensures (none_begins live c.requires.sorted c.args.first _ cut c.partition_point-number.ensures.bound
    (λ b. absurd (let past = c.in_err-v.ensures.lookup.3 in let low = slice_get_within live c.partition_point-number.result b.v b.there in omega (arith, past, low))))

pub returns-then-eq : goal.returns-then-eq
returns-then-eq c =
    let live = c.args.live.now in
    let k = c.partition_point-number.result in
    let v = c.in_ok-v.v.now in
    let look = c.in_ok-v.ensures.lookup in
    record {
      v = v;
      there = slice_get_read live (length live) k v refl look.3.0 look.1;
      first_is = sym c.first_point.ensures ∙ same_point_is c.first_point.result c.args.first (sym c.eq.ensures ∙ c.if-eq.true);
    }

pub returns-else-eq : goal.returns-else-eq
returns-else-eq c =
    let live = c.args.live.now in
    let k = c.partition_point-number.result in
    let v = c.in_ok-v.v.now in
    let look = c.in_ok-v.ensures.lookup in
    let cut = IsPartitionPoint-from_clause (is_below c.args.first) live _ c.partition_point-number.ensures.partitioned
    (below_first live c.requires.sorted c.args.first) (λ a r q k. search rules) in
    none_begins live c.requires.sorted c.args.first _ cut c.partition_point-number.ensures.bound
    (λ b.
    let there : slice_get live k ≡ Some v = slice_get_read live (length live) k v refl look.3.0 look.1 in
    let same : first_point v ≡ c.args.first = ap first_point (one_at live k v b.v there b.there) ∙ b.first_is in
    let yes : same_point (first_point v) c.args.first ≡ true = ap (same_point (first_point v)) (sym same) ∙ same_point_itself (first_point v) in
    let no : same_point c.first_point.result c.args.first ≡ false = sym c.eq.ensures ∙ c.if-eq.false in
    let told = c.first_point.ensures in
    cc)
