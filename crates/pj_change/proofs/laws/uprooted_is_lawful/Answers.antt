use Rattle.pj_change.specs.Uproot.{Reaches}
use Rattle.pj_change.proofs.Without.{uprooted_lawful, without_one}
use Rattle.pj_change.proofs.laws.uprooted_is_lawful.Goals as goal

pub returns-clause-lawful : goal.returns-clause-lawful
returns-clause-lawful c = uprooted_lawful

pub returns-clause-one : goal.returns-clause-one
returns-clause-one c = λ list name rest rest' a b. without_one (Reaches list name) list rest rest' a b
