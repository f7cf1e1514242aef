use Rattle.std.proofs.Common.{◌≡◌, [], sym, ◌∙◌, ap, rules, lit<}
use Rattle.std.proofs.lemmas.Fmt.{decimal_digit}
use Rattle.std.specs.Prelude.{codes}
use Rattle.pj_change.specs.Text.{parts, text_of}
use Rattle.pj_change.specs.Parts.{parts_of}
use Rattle.pj_machine.proofs.tests.stored.Goals as goal

-- the text of the change without hunks
no_hunks : text_of (parts 1 [] [] 0 [] [] []) ≡ codes "pijul change 1\nmessage \nauthor \ntime 0\nend\n"
unfolding text_of
no_hunks = rw (decimal_digit 1 (lit< tt), decimal_digit 0 (lit< tt))

pub of-requires-7 : goal.of-requires-7
of-requires-7 c =
    let written : c.of-text.result ≡ codes "pijul change 1\nmessage \nauthor \ntime 0\nend\n" = c.of-text.ensures ∙ c.in_ok-from_slice.ensures.items in
    let made : parts_of c.in_ok-change.change ≡ parts 1 [] [] 0 [] [] [] = search rules in
    written ∙ sym no_hunks ∙ ap text_of (sym made)
