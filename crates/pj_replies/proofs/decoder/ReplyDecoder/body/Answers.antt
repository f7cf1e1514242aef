use Rattle.std.proofs.Common.{ℕ, ◌+◌, List, ◌++◌, drop, refl, sym, ◌∙◌, ap, subst, inl, inr}
use Rattle.pj_machine.specs.declared.reply.Reply.TheVariants.{Body}
use Rattle.pj_machine.specs.declared.reply.Numbered.TheVariants.{At}
use Rattle.pj_wire.specs.Replies.{reply_bytes}
use Rattle.pj_replies.specs.Bodies.{IsBodied}
use Rattle.pj_replies.proofs.Bodied.{head_part, head_part_short, head_apart, is_long, is_short, body_part, body_apart, body_whole}
use Rattle.pj_replies.proofs.decoder.ReplyDecoder.body.Goals as goal

pub returns-in-Part-clause-read : goal.returns-in-Part-clause-read
returns-in-Part-clause-read c =
    let h = rw c.left.ensures at c.in-Part.ensures in
    (refl, head_part c.args.self.now h, head_part_short c.args.most c.args.self.now h)

pub returns-in-Apart-clause-read : goal.returns-in-Apart-clause-read
returns-in-Apart-clause-read c = (refl, inl (head_apart c.args.self.now (rw c.left.ensures at c.in-Apart.ensures)))

pub returns-then-length-most-clause-read : goal.returns-then-length-most-clause-read
returns-then-length-most-clause-read c =
    (refl, inr (is_long c.args.self.now c.in-Whole.head c.in-Whole.at _ refl (rw c.left.ensures at c.in-Whole.ensures) c.args.most c.if-length-most.true))

pub returns-then-behind-length-clause-read : goal.returns-then-behind-length-clause-read
returns-then-behind-length-clause-read c =
    let h = rw c.left.ensures at c.in-Whole.ensures in
    let is = c.split_at.ensures.back ∙ ap (λ (s : List ℕ). drop c.in-Whole.at s) c.left-2.ensures in (
      refl,
      body_part c.args.self.now c.in-Whole.head c.in-Whole.at _ is h c.if-behind-length.true,
      is_short c.args.self.now c.in-Whole.head c.in-Whole.at _ is h c.args.most c.if-length-most.false,
    )

pub returns-then-last-ne10-clause-read : goal.returns-then-last-ne10-clause-read
returns-then-last-ne10-clause-read c =
    let h = rw c.left.ensures at c.in-Whole.ensures in
    let is = c.split_at.ensures.back ∙ ap (λ (s : List ℕ). drop c.in-Whole.at s) c.left-2.ensures in
    (refl, inl (body_apart c.args.self.now c.in-Whole.head c.in-Whole.at _ is h c.if-behind-length.false c.if-last-ne10.true))

pub returns-clause-read : goal.returns-clause-read
returns-clause-read c =
    let h = rw c.left.ensures at c.in-Whole.ensures in
    let is = c.split_at.ensures.back ∙ ap (λ (s : List ℕ). drop c.in-Whole.at s) c.left-2.ensures in
    let whole = body_whole c.args.self.now c.in-Whole.head c.in-Whole.at _ is h c.if-behind-length.false c.if-last-ne10.false in
    let body = sym (c.of-body.ensures ∙ c.in_ok-from_slice.ensures.items ∙ c.split_at-2.ensures.front) in (
      subst (λ (b : List ℕ). IsBodied (At c.in-Whole.head.0 (Body b))) body whole.0,
      whole.1 ∙ ap (λ (b : List ℕ). reply_bytes (At c.in-Whole.head.0 (Body b)) ++ drop (c.in-Whole.at + c.in-Whole.head.1 + 1) c.args.self.now) body
          ∙ ap (λ (t : List ℕ). reply_bytes (At c.in-Whole.head.0 (Body c.of-body.result)) ++ t) (sym c.pass.ensures),
      is_short c.args.self.now c.in-Whole.head c.in-Whole.at _ is h c.args.most c.if-length-most.false,
    )
