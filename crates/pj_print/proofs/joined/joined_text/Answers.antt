use Rattle.std.proofs.Common.{ℕ, Vec, Global, length, refl}
use Rattle.std.proofs.lemmas.Result.{IfOk-weaker}
use Rattle.pj_print.specs.FileParts.{IsTextOfParts}
use Rattle.pj_print.specs.JoinedPairs.{IsTextOfJoined}
use Rattle.pj_print.proofs.JoinedTexts.{pairs_below, joined_parts}
use Rattle.pj_print.proofs.joined.joined_text.Goals as goal

pub file_text-requires-clause-graph : goal.file_text-requires-clause-graph
file_text-requires-clause-graph g c = pairs_below g.J.Joining.joins c.args.live.now c.args.pairs.now c.requires.pairs

pub returns : goal.returns
returns g c =
    let joins = g.J.Joining.joins in
    let live = c.args.live.now in
    let pairs = c.args.pairs.now in
    let piece = g.T.Texts.piece c.args.texts.now in
    IfOk-weaker c.file_text.result (λ (text : Vec ℕ Global). IsTextOfParts (length live) pairs piece text.items) (λ (text : Vec ℕ Global). IsTextOfJoined joins live piece text.items)
    (λ text h S inode live_are tells pieces. h S inode live refl (joined_parts joins live pairs c.requires.pairs S inode live_are tells piece pieces)) c.file_text.ensures
