use Rattle.std.proofs.Common.{append_assoc, arith}
use Rattle.pj_change.specs.declared.point.Ref.TheVariants.{Root}
use Rattle.pj_text.proofs.Joins.{references_split}
use Rattle.pj_text.proofs.writing.references.Goals as goal

pub returns-in_ok-further_references-in-len1-up : goal.returns-in_ok-further_references-in-len1-up
returns-in_ok-further_references-in-len1-up c =
    rw (c.in_ok-further_references-in-len1-up.ensures, c.in_ok-reference-in-len1-up.ensures, references_split c.args.refs.now Root (omega arith)) (simp append_assoc)
