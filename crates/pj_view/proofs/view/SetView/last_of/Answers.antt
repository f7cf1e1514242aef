use Rattle.pj_view.specs.Ends.{of_text, of_none}
use Rattle.pj_view.proofs.view.SetView.last_of.Goals as goal

pub returns-in-Some : goal.returns-in-Some
returns-in-Some c = of_text c.in-Some.ensures.1

pub returns-in-None : goal.returns-in-None
returns-in-None c = of_none c.in-None.ensures
