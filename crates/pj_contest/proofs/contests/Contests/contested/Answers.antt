use Rattle.std.proofs.Common.{◌≡◌, ◌∙◌, ap, subst, nat_lt}
use Rattle.pj_name.specs.declared.name.Name.{Name}
use Rattle.pj_change.specs.Contested.{is_hunk_contested}
use Rattle.pj_ranges.specs.declared.range.HunkAt.{HunkAt}
use Rattle.pj_ranges.specs.Units.{hunk_cmp}
use Rattle.pj_rows.specs.Keys.{number_at}
use Rattle.pj_contest.proofs.SetTables.{found_is, is_contested}
use Rattle.pj_contest.proofs.contests.Contests.contested.Goals as goal

pub returns-clause-table : goal.returns-clause-table
returns-clause-table c =
    let x : HunkAt = record { change = c.args.change; hunk = c.args.hunk } in
    c.is_some.ensures ∙ found_is x c.self.inside.counts c.self.invariant c.get.result c.get.ensures ∙ ap (λ t. nat_lt 0 (number_at hunk_cmp x t.counts)) c.self.view_is

pub returns-clause-set : goal.returns-clause-set
returns-clause-set c = λ S distinct is d m e h f.
    let x : HunkAt = record { change = c.args.change; hunk = c.args.hunk } in
    c.is_some.ensures ∙ found_is x c.self.inside.counts c.self.invariant c.get.result c.get.ensures ∙ ap (λ t. nat_lt 0 (number_at hunk_cmp x t.counts)) c.self.view_is
    ∙ subst (λ (n : Name). nat_lt 0 (number_at hunk_cmp (record { change = n; hunk = c.args.hunk }) c.args.self.now.counts) ≡ is_hunk_contested S d h) e (is_contested S distinct c.args.self.now is d m c.args.hunk h f)
