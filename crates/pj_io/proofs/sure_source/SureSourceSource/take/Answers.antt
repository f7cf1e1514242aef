-- The bytes that were copied are the front of the bytes left.
use Rattle.std.proofs.Common.{◌∙◌, ap, sym, arith}
use Rattle.pj_io.proofs.Taken.{takes_lent}
use Rattle.pj_io.proofs.sure_source.SureSourceSource.take.Goals as goal

pub returns-clause-bytes : goal.returns-clause-bytes
returns-clause-bytes c =
    takes_lent _ _ _ _ _ _ _
    (ap (λ source. source.left) c.self.view_is)
    c.deref.ensures.value
    c.copy_front.ensures
    (omega arith)
    (λ none. sym c.min-count.ensures ∙ none)
