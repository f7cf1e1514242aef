use Rattle.std.proofs.Common.{◌≡◌, true, false, ℕ, List, ◌++◌, sym, ◌∙◌, ap, subst}
use Rattle.pj_machine.specs.declared.command.Command.TheVariants as command
use Rattle.pj_wire.specs.Requests.{spelling, IsPart}
use Rattle.pj_wire.specs.Lines.{NoneMade, IsNoLine}
use Rattle.pj_wire.proofs.Decoded.{given, enough}
use Rattle.pj_wire.proofs.Puts.{IsShort}
use Rattle.pj_wire.proofs.Strange.{no_request, strange}
use Rattle.pj_wire.proofs.decoder.Decoder.next.Goals as goal

pub give-requires : goal.give-requires
give-requires c = enough c.is_cut.new.self c.left.result.now (spelling c.in-Some.command) c.in-Some.rest.now (c.left.ensures ∙ c.self.view_is) c.in-Some.ensures.1

pub returns-in-Some-clause-taken : goal.returns-in-Some-clause-taken
returns-in-Some-clause-taken c =
    (c.in-Some.ensures.0, given c.args.self.now c.is_cut.new.self c.left.result.now (spelling c.in-Some.command) c.in-Some.rest.now c.give.new.self c.is_cut.ensures.stays (c.left.ensures ∙ c.self.view_is) c.in-Some.ensures.1 c.give.ensures)

pub returns-in_ok-text-in-Some-put-clause-taken : goal.returns-in_ok-text-in-Some-put-clause-taken
returns-in_ok-text-in-Some-put-clause-taken c =
    let same : c.of.result ≡ c.in-Some-put.text.now = c.of.ensures ∙ c.in_ok-text-in-Some-put.ensures.items in
    let all = given c.args.self.now c.is_less.new.self c.left-2.result.now (spelling (command.Put c.in-Some-put.text.now)) c.in-Some-put.rest.now c.give-in-Some-put.new.self
    (c.is_less.ensures.stays ∙ c.is_cut.ensures.stays) (c.left-2.ensures ∙ c.self-2.view_is) c.in-Some-put.ensures.1 c.give-in-Some-put.ensures in
    (subst IsShort (sym same) c.in-Some-put.ensures.0, all ∙ ap (λ (t : List ℕ). spelling (command.Put t) ++ c.give-in-Some-put.new.self) (sym same))

pub returns-in-None-put-clause-taken : goal.returns-in-None-put-clause-taken
returns-in-None-put-clause-taken c =
    let cut : c.is_cut.new.self ≡ c.args.self.now = c.is_cut.ensures.stays in
    let stays : c.is_less.new.self ≡ c.args.self.now = c.is_less.ensures.stays ∙ cut in
    let left : c.left-2.result.now ≡ c.args.self.now = c.left-2.ensures ∙ c.self-2.view_is ∙ stays in
    let line : IsNoLine c.args.self.now = subst IsNoLine (c.left.ensures ∙ c.self.view_is ∙ cut) c.in-None.ensures in
    let put : NoneMade command.Put c.args.self.now = λ text rest short e. c.in-None-put.ensures text rest short (left ∙ e) in
    let whole : IsPart c.args.self.now → ⊥ = λ part.
    let both : true ≡ false = sym (c.is_less.ensures.part.1 (subst IsPart (sym cut) part)) ∙ c.if-is_less.false in
    cc both in
    (stays, strange c.args.self.now (no_request c.args.self.now put line) whole)
