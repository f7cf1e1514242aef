use Rattle.std.proofs.Common.{◌≡◌, sym, ◌∙◌, subst}
use Rattle.std.proofs.lemmas.Result.{IfOk-weaker}
use Rattle.pj_change.specs.FileText.{IsLiveList}
use Rattle.pj_change.specs.PseudoRows.{HasEdgeOrRow}
use Rattle.pj_change.proofs.LawfulLists.{set_of}
use Rattle.pj_print.specs.JoinedPairs.{ArePairsOf, ArePieces}
use Rattle.pj_print.specs.Pieces.{piece_at}
use Rattle.pj_print.proofs.Joinings.{rows_tell}
use Rattle.pj_output.proofs.LiveTexts.{pieces_told}
use Rattle.pj_output.proofs.file_text.text_of.Goals as goal

pub pairs_of-requires-clause-text : goal.pairs_of-requires-clause-text
pairs_of-requires-clause-text c =
    let lists : IsLiveList c.args.tables.now c.args.inode c.deref.result.now = subst (IsLiveList c.args.tables.now c.args.inode) (sym c.deref.ensures.value) c.in_ok-live.ensures in
    λ v m. (lists.only v m).live

pub joined_text-requires-clause-pairs : goal.joined_text-requires-clause-pairs
joined_text-requires-clause-pairs c =
    let S = c.args.tables.now in
    let same : c.deref.result.now ≡ c.deref-3.result.now = c.deref.ensures.value ∙ sym c.deref-3.ensures.value in
    subst (λ pairs. ArePairsOf (HasEdgeOrRow S) c.deref-3.result.now pairs) (sym c.deref-4.ensures.value)
    (subst (λ live. ArePairsOf (HasEdgeOrRow S) live c.in_ok-pairs.pairs.items) same c.in_ok-pairs.ensures)

pub returns : goal.returns
returns c =
    let S = c.args.tables.now in
    let inode = c.args.inode in
    let live = c.deref-3.result.now in
    let lists : IsLiveList S inode live = subst (IsLiveList S inode) (sym c.deref-3.ensures.value) c.in_ok-live.ensures in
    let same : live ≡ c.deref-2.result.now = c.deref-3.ensures.value ∙ sym c.deref-2.ensures.value in
    let pieces : ArePieces S live (piece_at S c.deref-2.result.now) = subst (λ l. ArePieces S live (piece_at S l)) same (pieces_told S inode live lists) in
    IfOk-weaker c.joined_text.result _ _ (λ text h. h S inode lists (rows_tell S (set_of S c.list-list.ensures.lawful) inode) pieces) c.joined_text.ensures
