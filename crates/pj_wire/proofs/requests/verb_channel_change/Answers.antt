use Rattle.std.proofs.Common.{ℕ, List, [], ◌∷◌, ◌++◌}
use Rattle.pj_name.specs.declared.name.Name.{Name}
use Rattle.pj_name.specs.Name.{hex}
use Rattle.pj_machine.specs.ChannelName.{IsChannelName}
use Rattle.pj_wire.specs.Verbs.{word_of}
use Rattle.pj_wire.proofs.Lines.{line_first, line_second}
use Rattle.pj_wire.proofs.Sequences.{within_word}
use Rattle.pj_wire.proofs.requests.verb_channel_change.Goals as goal

abbrev Allowed : List ℕ × Name → Type 0
Allowed p = IsChannelName p.0

abbrev digits : Name → List ℕ
digits name = hex name.bytes

pub returns-in-None : goal.returns-in-None
returns-in-None c = within_word (λ (p : List ℕ × Name). (p.0 ++ 32 ∷ hex p.1.bytes) ++ 10 ∷ []) Allowed c.args.bytes.now (word_of c.args.verb) c.in-None.ensures

pub returns-in-None-change : goal.returns-in-None-change
returns-in-None-change c =
    line_second digits (λ _. Unit {0}) Allowed (λ p h. (h, tt)) c.args.bytes.now (word_of c.args.verb) c.in-Some.rest.now c.in-Some.ensures
    c.in-Some-channel.name.0 _ c.in-Some-channel.ensures.0 c.in-Some-channel.ensures.1 c.in-None-change.ensures

pub returns-in-None-channel : goal.returns-in-None-channel
returns-in-None-channel c = line_first digits (λ _. Unit {0}) Allowed (λ p h. (h, tt)) c.args.bytes.now (word_of c.args.verb) c.in-Some.rest.now c.in-Some.ensures c.in-None-channel.ensures
