use Rattle.pj_scan.specs.Scan.{rest as left}
use Rattle.pj_text.proofs.Scans.{name_found}
use Rattle.pj_text.proofs.fields.name.Goals as goal

pub returns-in-Some : goal.returns-in-Some
returns-in-Some c =
    rw c.ok_or.ensures.value (name_found (left c.args.scan.now) c.in-Some.digits.now (left c.bytes.new.self) c.read.result c.in-Some.ensures.piece c.read.ensures.spelled)
