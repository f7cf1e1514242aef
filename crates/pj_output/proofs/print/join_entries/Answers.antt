use Rattle.std.proofs.Common.{sym, subst, arith, rules}
use Rattle.pj_change.specs.FileText.{IsFileText}
use Rattle.pj_print.proofs.Prints.{entries_more, entries_all}
use Rattle.pj_output.specs.EntryTexts.{IsEntryText}
use Rattle.pj_output.proofs.CallsInOrder.{zipped_at, zipped_length}
use Rattle.pj_output.proofs.print.join_entries.Goals as goal

pub bounds-texts-number : goal.bounds-texts-number
bounds-texts-number c =
    let same = zipped_length (λ step text. IsEntryText c.args.tables.now step text.items) c.args.steps.now c.args.texts.now c.requires in
    omega (arith, same, c.loop-number-test.true)

pub loop-number-preserved : goal.loop-number-preserved
loop-number-preserved c =
    let S = c.args.tables.now in
    let steps = c.args.steps.now in
    let texts = c.args.texts.now in
    let i = c.loop-number.number in
    let s = c.index-steps-number.result in
    let t = c.index-texts-number.result in
    let there = zipped_at (λ step text. IsEntryText S step text.items) steps texts i s t c.requires c.loop-number-test.true in
    let of_step : IsEntryText S s t.items = search (rules, there, c.index-steps-number.is, c.index-texts-number.is) in
    entries_more S steps i s c.loop-number-test.true c.index-steps-number.is c.deref.result.now
    (λ file. subst (IsFileText S s.inode) (sym c.deref.ensures.value) (of_step.of_file file))
    c.loop-number.out.items c.put_entry.new.out.items c.in_ok-put_entry.ensures c.loop-number.invariant

pub returns : goal.returns
returns c = entries_all c.args.tables.now c.args.steps.now c.loop-number.number (omega arith) c.loop-number.out.items c.loop-number.invariant
