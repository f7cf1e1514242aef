use Rattle.std.proofs.Common.{sym, ap, map, ◌∙◌}
use Rattle.std.specs.Ordering.{is_lt}
use Rattle.pj_pmap.proofs.Walks.{rest_in, rest_past, rest_out}
use Rattle.pj_rows.proofs.rows.key_after.Goals as goal

pub returns-in_err-key-clause-next : goal.returns-in_err-key-clause-next
returns-in_err-key-clause-next g c = rw c.from_residual.ensures (sym (ap (map (λ e. e.0)) (rest_out g.K.Ord.cmp g.met.K.Ord.total (λ e. is_lt (g.K.Ord.cmp e.0 c.args.below.now)) c.args.above.now c.args.rows.now c.requires c.in_err-key.ensures.next)))

pub returns-in-Less-clause-next : goal.returns-in-Less-clause-next
returns-in-Less-clause-next g c = sym (ap (map (λ e. e.0)) (rest_in g.K.Ord.cmp g.met.K.Ord.total (λ e. is_lt (g.K.Ord.cmp e.0 c.args.below.now)) c.args.above.now c.args.rows.now _ c.requires c.in_ok-key.ensures.next (ap is_lt (sym c.cmp.ensures ∙ c.in-Less.is))))

pub returns-in-Equal-clause-next : goal.returns-in-Equal-clause-next
returns-in-Equal-clause-next g c = sym (ap (map (λ e. e.0)) (rest_past g.K.Ord.cmp g.met.K.Ord.total (λ e. is_lt (g.K.Ord.cmp e.0 c.args.below.now)) c.args.above.now c.args.rows.now _ c.requires c.in_ok-key.ensures.next (ap is_lt (sym c.cmp.ensures ∙ c.in-Equal.is))))

pub returns-in-Greater-clause-next : goal.returns-in-Greater-clause-next
returns-in-Greater-clause-next g c = sym (ap (map (λ e. e.0)) (rest_past g.K.Ord.cmp g.met.K.Ord.total (λ e. is_lt (g.K.Ord.cmp e.0 c.args.below.now)) c.args.above.now c.args.rows.now _ c.requires c.in_ok-key.ensures.next (ap is_lt (sym c.cmp.ensures ∙ c.in-Greater.is))))
