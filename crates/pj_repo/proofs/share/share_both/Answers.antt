use Rattle.std.proofs.Common.{◌≡◌, ◌∙◌, ap, sym, Some, inl, inr}
use Rattle.pj_machine.specs.Replay.{IsReplay}
use Rattle.pj_machine.specs.State.{State, list_of}
use Rattle.pj_state.specs.LastEntry.{last_of}
use Rattle.pj_state.specs.Shared.{first_channel}
use Rattle.pj_repo.proofs.Sharing.{lacks_change, last_is, list_of_standing}
use Rattle.pj_repo.proofs.share.share_both.Goals as goal

pub returns-in_default-find : goal.returns-in_default-find
returns-in_default-find c =
    let k = c.args.state.now in
    let name = c.args.name.now in
    let found = c.in-Some.standing.now in
    let list : (s : State) → IsReplay k.journal s → list_of s name ≡ Some found.channel = λ s r. (list_of_standing (list_of s name) (last_of name k.journal) found (c.in-Some.ensures.found s r)).0 in
    lacks_change k c.len.ensures.legal name c.args.change found.channel list c.in_default-find.ensures c.len.result c.len.ensures.len

pub returns : goal.returns
returns c =
    let k = c.args.state.now in
    let name = c.args.name.now in
    let found = c.in-Some.standing.now in
    let list : (s : State) → IsReplay k.journal s → list_of s name ≡ Some found.channel = λ s r. (list_of_standing (list_of s name) (last_of name k.journal) found (c.in-Some.ensures.found s r)).0 in (
      record { at = c.len-2.ensures.len; legal = c.len-2.ensures.legal; state = λ s r. list s r ∙ ap Some (sym c.in-Ok-Ok.ensures) },
      record { at = c.len-2.ensures.len; legal = c.len-2.ensures.legal; state = λ s r. c.in-Some-find.ensures s r ∙ ap Some (sym c.in-Ok-Ok.ensures') },
      last_is k c.len-2.ensures.legal name found c.in-Some.ensures.found,
    )

pub returns-in_default : goal.returns-in_default
returns-in_default c = λ x by. c.no_channel.ensures x (elim by [ inl e ↦ ap first_channel e | inr e ↦ ap first_channel e ])
