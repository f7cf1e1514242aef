use Rattle.std.proofs.Common.{◌≡◌, ◌∙◌, true, sym, subst}
use Rattle.pj_journal.specs.Format.{IsStorable}
use Rattle.pj_wire.specs.Requests.{spelling}
use Rattle.pj_stored.specs.Writing.{may_enter}
use Rattle.pj_stored.proofs.Storable.{storable}
use Rattle.pj_stored.proofs.frames.frame_of.Goals as goal

pub of-requires : goal.of-requires
of-requires c =
    let enters : may_enter c.args.command.now ≡ true = sym c.may_enter.ensures ∙ c.if-not-may_enter.false in
    let is : c.deref.result.now ≡ spelling c.args.command.now = c.deref.ensures.value ∙ c.in_ok-bytes.ensures in
    subst IsStorable (sym is) (storable c.args.command.now c.requires enters)
