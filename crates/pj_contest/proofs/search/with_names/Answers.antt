use Rattle.std.proofs.Common.{◌∙◌, ap, sym, subst, ◌++◌, refl, inr}
use Rattle.std.specs.Prelude.{Contains, flat_map, option_to_list}
use Rattle.std.proofs.lemmas.Cmp.{tied_itself}
use Rattle.std.specs.Cmp.Lexicographic.{options_total}
use Rattle.std.specs.Option.{option_cmp}
use Rattle.pj_change.specs.Graph.{point_cmp}
use Rattle.pj_change.proofs.Orders.{point_total}
use Rattle.pj_contest.specs.Marks.{child_cmp, name_row}
use Rattle.pj_change.proofs.LawfulLists.{first_part, second_part}
use Rattle.pj_contest.proofs.Gathered.{named_there}
use Rattle.pj_rows.proofs.Scanned.{scan_has}
use Rattle.pj_contest.proofs.MarkOrder.{above_bound, below_bound, child_low, child_high, child_total, child_tied}
use Rattle.pj_contest.proofs.search.with_names.Goals as goal

pub returns-clause-kept : goal.returns-clause-kept
returns-clause-kept c = λ p m. subst (λ xs. Contains xs p) (sym c.in_ok-named.ensures) (first_part c.args.points.items _ p m)

pub returns-clause-names : goal.returns-clause-names
returns-clause-names c = λ q there.
    let tie = tied_itself (options_total point_total) c.args.child in
    let found = scan_has child_cmp child_total child_tied (child_low c.args.child) (child_high c.args.child) (name_row c.args.child q) c.args.children.now c.in_ok-rows.ensures.rising there
    (above_bound (option_cmp point_cmp) point_cmp c.args.child c.args.child q (inr tie)) (below_bound (option_cmp point_cmp) point_cmp c.args.child c.args.child q (inr tie)) in
    subst (λ xs. Contains xs q) (sym (c.in_ok-named.ensures ∙ ap (λ rows. c.args.points.items ++ flat_map (λ m. option_to_list m.by) rows) (c.deref.ensures.value ∙ c.in_ok-rows.ensures.same)))
    (second_part c.args.points.items _ q (named_there (λ m. m.by) _ (name_row c.args.child q) q found refl))
