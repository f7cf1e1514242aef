use Rattle.std.proofs.Common.{sym, ◌∙◌, ap}
use Rattle.pj_change.specs.declared.change.Record.{Record}
use Rattle.pj_change.specs.FileText.{bytes_of}
use Rattle.pj_change.specs.Shared.{records}
use Rattle.pj_print.proofs.VertexPieces.{bytes_found, bytes_missing}
use Rattle.pj_plain.proofs.pieces.bytes_of_set.Goals as goal

pub returns-in-Some : goal.returns-in-Some
returns-in-Some c =
    let v = c.args.v.now in
    c.bytes_of.ensures ∙ ap (λ (o : Record). bytes_of o.change.hunks v) c.deref.ensures ∙ sym (bytes_found (records c.args.changes.now) v _ c.in-Some.ensures)

pub returns-in-None : goal.returns-in-None
returns-in-None c = sym (bytes_missing (records c.args.changes.now) c.args.v.now c.in-None.ensures)
