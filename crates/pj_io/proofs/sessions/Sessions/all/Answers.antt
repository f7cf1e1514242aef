use Rattle.std.proofs.Common.{◌≡◌, ◌∙◌, length, ap, arith}
use Rattle.pj_io.specs.Sessions.{bytes_of_each, first_sessions}
use Rattle.pj_io.proofs.Shared.{all_sessions}
use Rattle.std.proofs.lemmas.List.{length-map}
use Rattle.pj_io.proofs.sessions.Sessions.all.Goals as goal

pub returns : goal.returns
returns c =
    let count : c.len-left.result ≡ length (bytes_of_each c.args.listed.items) = grind (arith, length-map c.args.listed.items (λ session. session.items)) in
    c.first.ensures ∙ ap (λ n. first_sessions n (bytes_of_each c.args.listed.items)) count ∙ all_sessions _
