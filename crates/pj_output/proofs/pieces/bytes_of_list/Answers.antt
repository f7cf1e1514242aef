use Rattle.std.proofs.Common.{◌≡◌, Some, None, sym, ◌∙◌, rules}
use Rattle.pj_change.specs.Lawful.{record_of}
use Rattle.pj_print.proofs.VertexPieces.{bytes_found, bytes_missing}
use Rattle.pj_output.proofs.pieces.bytes_of_list.Goals as goal

pub returns-in-Some : goal.returns-in-Some
returns-in-Some c =
    let v = c.args.v.now in
    let found : record_of c.args.tables.now v.change ≡ Some c.deref.result.now = search rules in
    c.bytes_of.ensures ∙ sym (bytes_found c.args.tables.now v c.deref.result.now found)

pub returns-in-None : goal.returns-in-None
returns-in-None c =
    let none : record_of c.args.tables.now c.args.v.now.change ≡ None = search rules in
    sym (bytes_missing c.args.tables.now c.args.v.now none)
