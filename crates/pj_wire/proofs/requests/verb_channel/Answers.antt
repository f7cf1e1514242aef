use Rattle.std.proofs.Common.{ℕ, List, [], ◌∷◌, ◌++◌}
use Rattle.pj_machine.specs.ChannelName.{IsChannelName}
use Rattle.pj_wire.specs.Verbs.{word_of}
use Rattle.pj_wire.proofs.Sequences.{answers, behind_word, within_word, joined}
use Rattle.pj_wire.proofs.requests.verb_channel.Goals as goal

pub returns-in-Some : goal.returns-in-Some
returns-in-Some c =
    answers c.channel.result _ _ _ _
    (behind_word (λ (name : List ℕ). name ++ 10 ∷ []) IsChannelName c.args.bytes.now (word_of c.args.verb) _ c.in-Some.ensures)
    (λ read is. (is.0, joined c.args.bytes.now (word_of c.args.verb) _ (read.0 ++ 10 ∷ []) _ c.in-Some.ensures is.1))
    c.channel.ensures

pub returns-in-None : goal.returns-in-None
returns-in-None c = within_word (λ (name : List ℕ). name ++ 10 ∷ []) IsChannelName c.args.bytes.now (word_of c.args.verb) c.in-None.ensures
