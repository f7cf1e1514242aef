use Rattle.std.proofs.Common.{refl}
use Rattle.pj_apply.proofs.Distinct.{any_found, none_found, none_is_not, record_is}
use Rattle.pj_apply.proofs.peers.HeldPeersPeers.peer.Goals as goal

pub returns-in_err-change-clause-there : goal.returns-in_err-change-clause-there
returns-in_err-change-clause-there c =
    (λ some. absurd (none_is_not c.from_residual.result c.from_residual.ensures some), λ any. absurd (none_found c.args.self.now.held.now c.args.name c.in_err-change.ensures any))

pub returns-clause-found : goal.returns-clause-found
returns-clause-found c = rw c.deref.ensures ((record_is c.args.self.now.held.now c.args.name _ c.in_ok-change.ensures).member)

pub returns-clause-named : goal.returns-clause-named
returns-clause-named c = rw c.deref.ensures ((record_is c.args.self.now.held.now c.args.name _ c.in_ok-change.ensures).named)

pub returns-clause-there : goal.returns-clause-there
returns-clause-there c = (λ some. any_found c.args.self.now.held.now c.args.name _ c.in_ok-change.ensures, λ any. refl)
