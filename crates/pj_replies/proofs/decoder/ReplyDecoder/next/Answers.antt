use Rattle.std.proofs.Common.{refl, sym}
use Rattle.pj_replies.proofs.Readings.{line_part, body_reads}
use Rattle.pj_replies.proofs.decoder.ReplyDecoder.next.Goals as goal

pub returns-in-Part-clause-read : goal.returns-in-Part-clause-read
returns-in-Part-clause-read c = λ x is. line_part x c.args.due is c.args.self.now c.args.self.now (rw c.left.ensures at c.in-Part.ensures) refl

pub returns-in-Some-clause-read : goal.returns-in-Some-clause-read
returns-in-Some-clause-read c =
    body_reads c.args.due c.in-Some.most c.args.self.now _ (sym c.in-Some.ensures) (rw c.left.ensures at c.in-Apart.ensures) c.body.result c.body.ensures.read
