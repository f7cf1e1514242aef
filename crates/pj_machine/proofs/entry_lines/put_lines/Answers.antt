use Rattle.std.proofs.Common.{◌+◌, ◌++◌, drop, ap, ◌∙◌, arith}
use Rattle.pj_machine.specs.JournalText.{journal_from}
use Rattle.pj_machine.proofs.JournalLines.{journal_from-on, journal_from-end}
use Rattle.pj_machine.proofs.entry_lines.put_lines.Goals as goal

pub loop-index-preserved : goal.loop-index-preserved
loop-index-preserved c =
    let entries = c.args.entries.now in
    let index = c.loop-index.index in
    ap (λ t. t ++ journal_from (index + 1 + 1) (drop (index + 1) entries)) c.in_ok-put_line.ensures
    ∙ journal_from-on entries index c.index-entries-index.result c.loop-index.out.items c.index-entries-index.is c.loop-index-test.true
    ∙ c.loop-index.invariant

pub returns : goal.returns
returns c = journal_from-end c.args.entries.now c.loop-index.index _ _ _ (omega (arith, c.loop-index-test.false)) c.loop-index.invariant
