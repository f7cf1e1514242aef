use Rattle.std.proofs.Common.{◌≡◌, ◌∙◌, ◌++◌, true, false, inl, inr, sym, ap, subst}
use Rattle.pj_wire.specs.Takes.{Takes}
use Rattle.pj_wire.specs.Requests.{HasNone}
use Rattle.pj_wire.proofs.Readings.{part_has_none}
use Rattle.pj_stored.proofs.Spelled.{spells_none, spells_other}
use Rattle.pj_stored.proofs.calls.call_of.Goals as goal

pub returns-then-is_quit : goal.returns-then-is_quit
returns-then-is_quit c =
    let fed : c.feed.new.self ≡ c.args.string.now = c.in_ok-feed.ensures.ok ∙ ap (λ d. d ++ c.args.string.now) c.new-decoder.ensures in
    let taken = subst (λ n. Takes c.feed.new.self c.next.new.self n) c.in-Message.is c.in_ok-command.ensures.taken in
    spells_other c.args.string.now c.next.new.self c.in-Message.command taken.0 (sym fed ∙ taken.1) (inl (c.is_quit.ensures.0 c.if-is_quit.true))

pub returns-then-not-idle : goal.returns-then-not-idle
returns-then-not-idle c =
    let fed : c.feed.new.self ≡ c.args.string.now = c.in_ok-feed.ensures.ok ∙ ap (λ d. d ++ c.args.string.now) c.new-decoder.ensures in
    let taken = subst (λ n. Takes c.feed.new.self c.next.new.self n) c.in-Message.is c.in_ok-command.ensures.taken in
    spells_other c.args.string.now c.next.new.self c.in-Message.command taken.0 (sym fed ∙ taken.1)
    (inr (λ none. absurd (let k : false ≡ true = sym c.if-not-idle.true ∙ c.idle.ensures.1 none in cc k)))

pub returns-in-More : goal.returns-in-More
returns-in-More c =
    let fed : c.feed.new.self ≡ c.args.string.now = c.in_ok-feed.ensures.ok ∙ ap (λ d. d ++ c.args.string.now) c.new-decoder.ensures in
    let taken = subst (λ n. Takes c.feed.new.self c.next.new.self n) c.in-More.is c.in_ok-command.ensures.taken in
    spells_none c.args.string.now (subst HasNone fed (part_has_none c.feed.new.self taken.1))

pub returns : goal.returns
returns c =
    let fed : c.feed.new.self ≡ c.args.string.now = c.in_ok-feed.ensures.ok ∙ ap (λ d. d ++ c.args.string.now) c.new-decoder.ensures in
    let taken = subst (λ n. Takes c.feed.new.self c.next.new.self n) c.in-Bad.is c.in_ok-command.ensures.taken in
    spells_none c.args.string.now (subst HasNone fed taken.1.has_none)
