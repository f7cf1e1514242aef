use Rattle.pj_output.proofs.EdgeScans.{scan_ends, scan_goes}
use Rattle.pj_output.proofs.edges.row_after.Goals as goal

pub returns-in_err-next : goal.returns-in_err-next
returns-in_err-next c =
    rw c.from_residual.ensures (scan_ends c.args.rows.now.out c.by_source.result.now c.by_source.ensures.same c.by_source.ensures.rising c.args.after (c.in_err-next.ensures))

pub returns : goal.returns
returns c =
    scan_goes c.args.rows.now.out c.by_source.result.now c.by_source.ensures.same c.by_source.ensures.rising c.args.after c.in_ok-next.next.now c.in_ok-next.field-0-1.now (c.in_ok-next.ensures)
