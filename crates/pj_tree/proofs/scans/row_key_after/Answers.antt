use Rattle.std.proofs.Common.{sym}
use Rattle.pj_pmap.proofs.Walks.{rest_none, rest_some}
use Rattle.pj_tree.specs.RowOrder.{key_cmp, key_total}
use Rattle.pj_tree.proofs.scans.row_key_after.Goals as goal

pub returns-in_err-next : goal.returns-in_err-next
returns-in_err-next c = rw c.from_residual.ensures (sym (rest_none key_cmp key_total _ _ c.requires c.in_err-next.ensures))

pub returns : goal.returns
returns c = sym (rest_some key_cmp key_total c.args.key.now c.args.pairs.now _ c.requires c.in_ok-next.ensures)
