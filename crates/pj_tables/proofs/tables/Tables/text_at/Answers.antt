use Rattle.pj_tables.proofs.TextVertices.{text_found, text_in_block}
use Rattle.pj_tables.proofs.tables.Tables.text_at.Goals as goal

pub returns-in_err-start : goal.returns-in_err-start
returns-in_err-start c = rw c.from_residual.ensures (text_in_block c.args.self.now c.list-list.ensures.lawful c.cuts.result.now c.cuts.ensures c.args.at c.in_err-start.ensures)

pub returns : goal.returns
returns c =
    text_found c.args.self.now c.list-list.ensures.lawful c.cuts.result.now c.cuts.ensures c.args.at c.in_ok-start.start c.in_ok-start.end
    c.in_ok-start.ensures c.status-status.result c.status-status.ensures
