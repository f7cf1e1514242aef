use Rattle.std.proofs.Common.{[], ◌∷◌, ◌++◌}
use Rattle.pj_name.specs.declared.name.Name.{Name}
use Rattle.pj_name.specs.Name.{hex}
use Rattle.pj_wire.specs.Verbs.{word_of}
use Rattle.pj_wire.proofs.Sequences.{answers, behind_word, within_word, joined}
use Rattle.pj_wire.proofs.requests.verb_change.Goals as goal

pub returns-in-Some : goal.returns-in-Some
returns-in-Some c =
    answers c.change.result _ _ _ _
    (behind_word (λ (name : Name). hex name.bytes ++ 10 ∷ []) (λ _. Unit {0}) c.args.bytes.now (word_of c.args.verb) _ c.in-Some.ensures)
    (λ read is. joined c.args.bytes.now (word_of c.args.verb) _ (hex read.0.bytes ++ 10 ∷ []) _ c.in-Some.ensures is)
    c.change.ensures

pub returns-in-None : goal.returns-in-None
returns-in-None c = within_word (λ (name : Name). hex name.bytes ++ 10 ∷ []) (λ _. Unit {0}) c.args.bytes.now (word_of c.args.verb) c.in-None.ensures
