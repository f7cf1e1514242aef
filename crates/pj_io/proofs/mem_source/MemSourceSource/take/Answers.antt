-- The bytes that were copied are the front of the bytes left.
use Rattle.std.proofs.Common.{◌∙◌, ◌≤◌, ap, sym}
use Rattle.pj_io.specs.Pieces.{AllPositive}
use Rattle.pj_io.proofs.Taken.{takes_lent}
use Rattle.pj_io.proofs.mem_source.MemSourceSource.take.Goals as goal

pub returns-clause-bytes : goal.returns-clause-bytes
returns-clause-bytes c =
    let bound : c.allowed-count.result ≤ c.min.result = c.allowed-count.ensures.bound in
    let positive : AllPositive c.deref-3.result.now = rw c.deref-3.ensures.value c.self.invariant.1 in
    takes_lent _ _ _ _ _ _ _
    (ap (λ source. source.left) c.self.view_is)
    c.deref-2.ensures.value
    c.copy_front.ensures
    (rw c.min.ensures at bound)
    (λ none. sym c.min.ensures ∙ c.allowed-count.ensures.progress positive none)
