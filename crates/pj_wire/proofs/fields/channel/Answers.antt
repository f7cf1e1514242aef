use Rattle.std.proofs.Common.{◌≡◌, true, false, ℕ, List, sym, subst}
use Rattle.pj_machine.specs.ChannelName.{IsChannelName}
use Rattle.pj_wire.proofs.FieldLaws.{open_apart, ended_apart}
use Rattle.pj_wire.proofs.Words.{channel_inside, ends_word}
use Rattle.pj_wire.proofs.fields.channel.Goals as goal

pub returns-in-None : goal.returns-in-None
returns-in-None c = open_apart (λ (name : List ℕ). name) IsChannelName channel_inside c.args.end (ends_word c.args.end c.requires) _ _ _ c.first_word.ensures c.in-None.ensures.cases

pub returns-in-Some : goal.returns-in-Some
returns-in-Some c =
    ended_apart (λ (name : List ℕ). name) IsChannelName channel_inside c.args.end (ends_word c.args.end c.requires) _ _ _ _ _ c.first_word.ensures c.in-Some.ensures.cases.0
    (λ v allowed same is. c.if-byte-end.true is)

pub returns-in-None-read : goal.returns-in-None-read
returns-in-None-read c =
    ended_apart (λ (name : List ℕ). name) IsChannelName channel_inside c.args.end (ends_word c.args.end c.requires) _ _ _ _ _ c.first_word.ensures c.in-Some.ensures.cases.0
    (λ v allowed same is. let e : false ≡ true = c.in-None-read.ensures.found.1 (subst IsChannelName (sym same) allowed) in cc)
