use Rattle.pj_session.proofs.FirstRequests.{first_requests}
use Rattle.pj_session.proofs.laws.first_requests.Goals as goal

pub returns : goal.returns
returns c = first_requests
