use Rattle.std.proofs.Common.{◌≡◌, ◌∙◌, true, false, sym, subst, Some}
use Rattle.pj_change.specs.declared.row.EdgeRow.{EdgeRow}
use Rattle.pj_pmap.specs.Pairs.{rest_after}
use Rattle.pj_edges.specs.Orders.{out_cmp, out_row}
use Rattle.pj_edges.specs.Rows.{has_out}
use Rattle.pj_output.specs.Scans.{rows_from}
use Rattle.pj_output.proofs.EdgeScans.{first_there, first_after}
use Rattle.pj_output.proofs.edges.first_row.Goals as goal

pub returns-then-has : goal.returns-then-has
returns-then-has c =
    let out = c.args.rows.now.out in
    let e = c.least_row-least.ensures in
    let there : has_out out c.least_row-least.result ≡ true = sym c.has.ensures ∙ c.if-has.true in
    subst (λ (r : EdgeRow). rows_from out (Some r) ≡ out) (sym e) (first_there out c.by_source-rows.ensures.rising (subst (λ (r : EdgeRow). has_out out r ≡ true) e there))

pub returns : goal.returns
returns c =
    let out = c.args.rows.now.out in
    let e = c.least_row-least.ensures in
    let none : has_out out c.least_row-least.result ≡ false = sym c.has.ensures ∙ c.if-has.false in
    c.row_after.ensures ∙ subst (λ (r : EdgeRow). rest_after out_cmp (out_row r) out ≡ out) (sym e) (first_after out (subst (λ (r : EdgeRow). has_out out r ≡ false) e none))
