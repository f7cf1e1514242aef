use Rattle.pj_scan.specs.Scan.{rest as left}
use Rattle.pj_scan.proofs.Lines.{line_passed}
use Rattle.pj_scan.proofs.scan.Scan.line.Goals as goal

pub returns-clause-line : goal.returns-clause-line
returns-clause-line c =
    let first = rw c.rest.ensures at c.in_ok-length.ensures in
    line_passed (left c.args.self.now) c.pass-line.result.now (left c.pass-line.new.self) c.pass.result.now (left c.pass.new.self) c.in_ok-length.length c.pass-line.ensures.piece c.pass.ensures.piece first
