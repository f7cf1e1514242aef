use Rattle.pj_change.proofs.Gathering.{gathers_one}
use Rattle.pj_output.specs.LiveText.{IsLiveOf}
use Rattle.pj_output.proofs.LiveTexts.{live_of, one_file}
use Rattle.pj_output.proofs.live_text.add_live.Goals as goal

pub returns-in_ok-push : goal.returns-in_ok-push
returns-in_ok-push c =
    let S = c.args.tables.now in
    let v = c.args.v in
    let is = live_of S c.args.inode v c.requires (c.is_live.ensures.0 c.if-is_live.true) in
    gathers_one (IsLiveOf S v) _ c.args.entries.now.items c.push.new.self.items c.in_ok-push.ensures.items is (λ e h. one_file S c.list-list.ensures.lawful v e _ h is)
