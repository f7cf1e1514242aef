use Rattle.std.proofs.Common.{ℕ, List, [], ◌∷◌, ◌++◌}
use Rattle.pj_machine.specs.ChannelName.{IsChannelName}
use Rattle.pj_wire.specs.Verbs.{word_of}
use Rattle.pj_wire.proofs.Lines.{line_first, line_second}
use Rattle.pj_wire.proofs.Sequences.{within_word}
use Rattle.pj_wire.proofs.requests.verb_channels.Goals as goal

abbrev Allowed : List ℕ × List ℕ → Type 0
Allowed p = IsChannelName p.0 × IsChannelName p.1

pub returns-in-None : goal.returns-in-None
returns-in-None c = within_word (λ (p : List ℕ × List ℕ). (p.0 ++ 32 ∷ p.1) ++ 10 ∷ []) Allowed c.args.bytes.now (word_of c.args.verb) c.in-None.ensures

pub returns-in-None-channel-2 : goal.returns-in-None-channel-2
returns-in-None-channel-2 c =
    line_second (λ (name : List ℕ). name) IsChannelName Allowed (λ p h. h) c.args.bytes.now (word_of c.args.verb) c.in-Some.rest.now c.in-Some.ensures
    c.in-Some-channel.first.0 _ c.in-Some-channel.ensures.0 c.in-Some-channel.ensures.1 c.in-None-channel-2.ensures

pub returns-in-None-channel : goal.returns-in-None-channel
returns-in-None-channel c = line_first (λ (name : List ℕ). name) IsChannelName Allowed (λ p h. h) c.args.bytes.now (word_of c.args.verb) c.in-Some.rest.now c.in-Some.ensures c.in-None-channel.ensures
