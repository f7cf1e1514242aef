-- The passes are all that were made, and each session did in the closed journal what it did in the one that its pass had seen.
use Rattle.std.proofs.Common.{◌≡◌, ◌+◌, List, length, map, sym, ◌∙◌, ap, subst, arith, vec_capacity}
use Rattle.std.specs.Prelude.{flat_map}
use Rattle.pj_book.specs.Token.{Token}
use Rattle.pj_machine.specs.Call.{own as own_entries}
use Rattle.pj_machine.specs.Legal.{IsLegal}
use Rattle.pj_repo.specs.IsJournalOf.{IsJournalOf}
use Rattle.pj_repo.specs.Views.{pass_view}
use Rattle.pj_load.specs.Seats.{AreNumbered}
use Rattle.pj_serve.specs.Workers.{AreTurns, AreWorkers}
use Rattle.pj_serve.proofs.ClosingShifts.{numbered_row, as_many_passes, are_served}
use Rattle.pj_serve.proofs.PassRows.{row_is, row_size}
use Rattle.pj_serve.proofs.WorkRows.{all_ready, have_worked, leaves}
use Rattle.pj_serve.proofs.staff.serve_in.Goals as goal

pub worked-workers-requires-clause-ready : goal.worked-workers-requires-clause-ready
worked-workers-requires-clause-ready g c κs within = all_ready pass_view g.V.Door.meaning (record { sources = g.V.Src.Source.meaning; sinks = g.V.Dst.Sink.meaning }) c.args.limits _ _ _ c.in_ok-workers.ensures.workers

pub parted-left-requires-clause-few : goal.parted-left-requires-clause-few
parted-left-requires-clause-few g c =
    let vs = c.args.doors.items in
    let ws = c.in_ok-workers.workers.items in
    let ws' = c.worked-workers.result.items in
    let own = c.turns_for-own.result.items in
    let one : c.args.repo.made ≡ 1 = ap (λ r. r.made) c.requires.repo in
    let own_made : c.turns_for-own.new.repo.made ≡ 1 + length vs = (let a = c.turns_for-own.ensures.made in let w = c.requires.workers in omega (arith, a, one, w)) in
    let at : AreWorkers {S = g.row.V-Src.Denot} {D = g.row.V-Dst.Denot} pass_view g.V.Door.meaning (1 + length vs) vs ws = subst (λ n. AreWorkers {S = g.row.V-Src.Denot} {D = g.row.V-Dst.Denot} pass_view g.V.Door.meaning n vs ws) own_made c.in_ok-workers.ensures.workers in
    let hw = have_worked pass_view g.V.Door.meaning (record { sources = g.V.Src.Source.meaning; sinks = g.V.Dst.Sink.meaning }) c.args.limits ws ws' c.worked-workers.ensures.count c.worked-workers.ensures.each in
    let one_each : length own ≡ length vs = c.turns_for-own.ensures.count ∙ sym c.requires.workers in
    let left = leaves pass_view g.V.Door.meaning (record { sources = g.V.Src.Source.meaning; sinks = g.V.Dst.Sink.meaning }) c.args.limits (1 + length vs) vs ws ws' at hw in
    let first = c.with_first-first.ensures in
    let room = c.in_ok-room.ensures in
    let m = left.workers_are in let f = c.requires.few_workers in let w = c.requires.workers in
    omega (arith, m, f, w)

pub parted-left-requires-clause-passes : goal.parted-left-requires-clause-passes
parted-left-requires-clause-passes g c =
    let vs = c.args.doors.items in
    let ws = c.in_ok-workers.workers.items in
    let ws' = c.worked-workers.result.items in
    let own = c.turns_for-own.result.items in
    let one : c.args.repo.made ≡ 1 = ap (λ r. r.made) c.requires.repo in
    let own_made : c.turns_for-own.new.repo.made ≡ 1 + length vs = (let a = c.turns_for-own.ensures.made in let w = c.requires.workers in omega (arith, a, one, w)) in
    let at : AreWorkers {S = g.row.V-Src.Denot} {D = g.row.V-Dst.Denot} pass_view g.V.Door.meaning (1 + length vs) vs ws = subst (λ n. AreWorkers {S = g.row.V-Src.Denot} {D = g.row.V-Dst.Denot} pass_view g.V.Door.meaning n vs ws) own_made c.in_ok-workers.ensures.workers in
    let hw = have_worked pass_view g.V.Door.meaning (record { sources = g.V.Src.Source.meaning; sinks = g.V.Dst.Sink.meaning }) c.args.limits ws ws' c.worked-workers.ensures.count c.worked-workers.ensures.each in
    let one_each : length own ≡ length vs = c.turns_for-own.ensures.count ∙ sym c.requires.workers in
    let left = leaves pass_view g.V.Door.meaning (record { sources = g.V.Src.Source.meaning; sinks = g.V.Dst.Sink.meaning }) c.args.limits (1 + length vs) vs ws ws' at hw in
    let first = c.with_first-first.ensures in
    let room = c.in_ok-room.ensures in
    let size = row_size _ own c.with_first-first.result.passes.items first.passes in
    let t = left.turns in let n = c.requires.sessions in let w = c.requires.workers in let r = room.passes.1 in let k = first.capacity in
    omega (arith, size, t, n, w, r, k, one_each)

pub parted-left-requires-clause-kept : goal.parted-left-requires-clause-kept
parted-left-requires-clause-kept g c =
    let vs = c.args.doors.items in
    let ws = c.in_ok-workers.workers.items in
    let ws' = c.worked-workers.result.items in
    let own = c.turns_for-own.result.items in
    let one : c.args.repo.made ≡ 1 = ap (λ r. r.made) c.requires.repo in
    let own_made : c.turns_for-own.new.repo.made ≡ 1 + length vs = (let a = c.turns_for-own.ensures.made in let w = c.requires.workers in omega (arith, a, one, w)) in
    let at : AreWorkers {S = g.row.V-Src.Denot} {D = g.row.V-Dst.Denot} pass_view g.V.Door.meaning (1 + length vs) vs ws = subst (λ n. AreWorkers {S = g.row.V-Src.Denot} {D = g.row.V-Dst.Denot} pass_view g.V.Door.meaning n vs ws) own_made c.in_ok-workers.ensures.workers in
    let hw = have_worked pass_view g.V.Door.meaning (record { sources = g.V.Src.Source.meaning; sinks = g.V.Dst.Sink.meaning }) c.args.limits ws ws' c.worked-workers.ensures.count c.worked-workers.ensures.each in
    let one_each : length own ≡ length vs = c.turns_for-own.ensures.count ∙ sym c.requires.workers in
    let left = leaves pass_view g.V.Door.meaning (record { sources = g.V.Src.Source.meaning; sinks = g.V.Dst.Sink.meaning }) c.args.limits (1 + length vs) vs ws ws' at hw in
    let first = c.with_first-first.ensures in
    let room = c.in_ok-room.ensures in
    let t = left.kept in let n = c.requires.sessions in let r = room.kept.1 in
    let same : vec_capacity c.with_first-first.result.kept ≡ vec_capacity c.in_ok-room.room.kept = ap (λ v. vec_capacity v) first.others.0 in
    (ap (λ v. v.items) first.others.0 ∙ room.kept.0, omega (arith, t, n, r, same))

pub parted-left-requires-clause-ends : goal.parted-left-requires-clause-ends
parted-left-requires-clause-ends g c =
    let vs = c.args.doors.items in
    let ws = c.in_ok-workers.workers.items in
    let ws' = c.worked-workers.result.items in
    let own = c.turns_for-own.result.items in
    let one : c.args.repo.made ≡ 1 = ap (λ r. r.made) c.requires.repo in
    let own_made : c.turns_for-own.new.repo.made ≡ 1 + length vs = (let a = c.turns_for-own.ensures.made in let w = c.requires.workers in omega (arith, a, one, w)) in
    let at : AreWorkers {S = g.row.V-Src.Denot} {D = g.row.V-Dst.Denot} pass_view g.V.Door.meaning (1 + length vs) vs ws = subst (λ n. AreWorkers {S = g.row.V-Src.Denot} {D = g.row.V-Dst.Denot} pass_view g.V.Door.meaning n vs ws) own_made c.in_ok-workers.ensures.workers in
    let hw = have_worked pass_view g.V.Door.meaning (record { sources = g.V.Src.Source.meaning; sinks = g.V.Dst.Sink.meaning }) c.args.limits ws ws' c.worked-workers.ensures.count c.worked-workers.ensures.each in
    let one_each : length own ≡ length vs = c.turns_for-own.ensures.count ∙ sym c.requires.workers in
    let left = leaves pass_view g.V.Door.meaning (record { sources = g.V.Src.Source.meaning; sinks = g.V.Dst.Sink.meaning }) c.args.limits (1 + length vs) vs ws ws' at hw in
    let first = c.with_first-first.ensures in
    let room = c.in_ok-room.ensures in
    let t = left.ends in let m = left.workers_are in let n = c.requires.sessions in let w = c.requires.workers in let r = room.ends.1 in
    let same : vec_capacity c.with_first-first.result.ends ≡ vec_capacity c.in_ok-room.room.ends = ap (λ v. vec_capacity v) first.others.1 in
    (ap (λ v. v.items) first.others.1 ∙ room.ends.0, omega (arith, t, m, n, w, r, same))

pub parted-left-requires-clause-doors : goal.parted-left-requires-clause-doors
parted-left-requires-clause-doors g c =
    let vs = c.args.doors.items in
    let ws = c.in_ok-workers.workers.items in
    let ws' = c.worked-workers.result.items in
    let own = c.turns_for-own.result.items in
    let one : c.args.repo.made ≡ 1 = ap (λ r. r.made) c.requires.repo in
    let own_made : c.turns_for-own.new.repo.made ≡ 1 + length vs = (let a = c.turns_for-own.ensures.made in let w = c.requires.workers in omega (arith, a, one, w)) in
    let at : AreWorkers {S = g.row.V-Src.Denot} {D = g.row.V-Dst.Denot} pass_view g.V.Door.meaning (1 + length vs) vs ws = subst (λ n. AreWorkers {S = g.row.V-Src.Denot} {D = g.row.V-Dst.Denot} pass_view g.V.Door.meaning n vs ws) own_made c.in_ok-workers.ensures.workers in
    let hw = have_worked pass_view g.V.Door.meaning (record { sources = g.V.Src.Source.meaning; sinks = g.V.Dst.Sink.meaning }) c.args.limits ws ws' c.worked-workers.ensures.count c.worked-workers.ensures.each in
    let one_each : length own ≡ length vs = c.turns_for-own.ensures.count ∙ sym c.requires.workers in
    let left = leaves pass_view g.V.Door.meaning (record { sources = g.V.Src.Source.meaning; sinks = g.V.Dst.Sink.meaning }) c.args.limits (1 + length vs) vs ws ws' at hw in
    let first = c.with_first-first.ensures in
    let room = c.in_ok-room.ensures in
    let m = left.workers_are in let w = c.requires.workers in let r = room.doors.1 in
    let same : vec_capacity c.with_first-first.result.doors ≡ vec_capacity c.in_ok-room.room.doors = ap (λ v. vec_capacity v) first.others.2 in
    (ap (λ v. v.items) first.others.2 ∙ room.doors.0, omega (arith, m, w, r, same))

pub journal_of-journal-requires-clause-row : goal.journal_of-journal-requires-clause-row
journal_of-journal-requires-clause-row g c =
    let vs = c.args.doors.items in
    let ws = c.in_ok-workers.workers.items in
    let ws' = c.worked-workers.result.items in
    let own = c.turns_for-own.result.items in
    let one : c.args.repo.made ≡ 1 = ap (λ r. r.made) c.requires.repo in
    let own_made : c.turns_for-own.new.repo.made ≡ 1 + length vs = (let a = c.turns_for-own.ensures.made in let w = c.requires.workers in omega (arith, a, one, w)) in
    let at : AreWorkers {S = g.row.V-Src.Denot} {D = g.row.V-Dst.Denot} pass_view g.V.Door.meaning (1 + length vs) vs ws = subst (λ n. AreWorkers {S = g.row.V-Src.Denot} {D = g.row.V-Dst.Denot} pass_view g.V.Door.meaning n vs ws) own_made c.in_ok-workers.ensures.workers in
    let hw = have_worked pass_view g.V.Door.meaning (record { sources = g.V.Src.Source.meaning; sinks = g.V.Dst.Sink.meaning }) c.args.limits ws ws' c.worked-workers.ensures.count c.worked-workers.ensures.each in
    let one_each : length own ≡ length vs = c.turns_for-own.ensures.count ∙ sym c.requires.workers in
    let own_are : AreTurns pass_view 1 own = subst (λ n. AreTurns pass_view n own) one c.turns_for-own.ensures.turns in
    let zero = c.workers_at.new.zero in
    let number : zero.number ≡ 0 = c.workers_at.ensures.number ∙ c.turns_for-own.ensures.number ∙ ap (λ (t : Token _). t.number) c.requires.zero in
    let row = row_is zero own (flat_map (λ w. w.turns.items) ws') c.with_first-first.result.passes.items c.parted-left.result.passes.items c.with_first-first.ensures.passes c.parted-left.ensures.passes in
    subst (λ passes. AreNumbered (map pass_view passes)) (sym row) (numbered_row pass_view g.V.Door.meaning (record { sources = g.V.Src.Source.meaning; sinks = g.V.Dst.Sink.meaning }) c.args.limits vs ws ws' own own_are one_each at hw (pass_view zero) number)

pub journal_of-journal-requires-clause-count : goal.journal_of-journal-requires-clause-count
journal_of-journal-requires-clause-count g c =
    let vs = c.args.doors.items in
    let ws = c.in_ok-workers.workers.items in
    let ws' = c.worked-workers.result.items in
    let own = c.turns_for-own.result.items in
    let one : c.args.repo.made ≡ 1 = ap (λ r. r.made) c.requires.repo in
    let own_made : c.turns_for-own.new.repo.made ≡ 1 + length vs = (let a = c.turns_for-own.ensures.made in let w = c.requires.workers in omega (arith, a, one, w)) in
    let at : AreWorkers {S = g.row.V-Src.Denot} {D = g.row.V-Dst.Denot} pass_view g.V.Door.meaning (1 + length vs) vs ws = subst (λ n. AreWorkers {S = g.row.V-Src.Denot} {D = g.row.V-Dst.Denot} pass_view g.V.Door.meaning n vs ws) own_made c.in_ok-workers.ensures.workers in
    let hw = have_worked pass_view g.V.Door.meaning (record { sources = g.V.Src.Source.meaning; sinks = g.V.Dst.Sink.meaning }) c.args.limits ws ws' c.worked-workers.ensures.count c.worked-workers.ensures.each in
    let one_each : length own ≡ length vs = c.turns_for-own.ensures.count ∙ sym c.requires.workers in
    let own_are : AreTurns pass_view 1 own = subst (λ n. AreTurns pass_view n own) one c.turns_for-own.ensures.turns in
    let zero = c.workers_at.new.zero in
    let number : zero.number ≡ 0 = c.workers_at.ensures.number ∙ c.turns_for-own.ensures.number ∙ ap (λ (t : Token _). t.number) c.requires.zero in
    let row = row_is zero own (flat_map (λ w. w.turns.items) ws') c.with_first-first.result.passes.items c.parted-left.result.passes.items c.with_first-first.ensures.passes c.parted-left.ensures.passes in
    let left = leaves pass_view g.V.Door.meaning (record { sources = g.V.Src.Source.meaning; sinks = g.V.Dst.Sink.meaning }) c.args.limits (1 + length vs) vs ws ws' at hw in
    let many = as_many_passes pass_view g.V.Door.meaning (record { sources = g.V.Src.Source.meaning; sinks = g.V.Dst.Sink.meaning }) c.args.limits vs ws ws' own own_are one_each at hw zero in
    let size = ap (λ (l : List (Token _)). length l) row in
    let made = c.in_ok-workers.ensures.made in let t = left.turns in
    omega (arith, many, size, made, t, own_made)

pub returns : goal.returns
returns g c =
    let vs = c.args.doors.items in
    let ws = c.in_ok-workers.workers.items in
    let ws' = c.worked-workers.result.items in
    let own = c.turns_for-own.result.items in
    let one : c.args.repo.made ≡ 1 = ap (λ r. r.made) c.requires.repo in
    let own_made : c.turns_for-own.new.repo.made ≡ 1 + length vs = (let a = c.turns_for-own.ensures.made in let w = c.requires.workers in omega (arith, a, one, w)) in
    let at : AreWorkers {S = g.row.V-Src.Denot} {D = g.row.V-Dst.Denot} pass_view g.V.Door.meaning (1 + length vs) vs ws = subst (λ n. AreWorkers {S = g.row.V-Src.Denot} {D = g.row.V-Dst.Denot} pass_view g.V.Door.meaning n vs ws) own_made c.in_ok-workers.ensures.workers in
    let hw = have_worked pass_view g.V.Door.meaning (record { sources = g.V.Src.Source.meaning; sinks = g.V.Dst.Sink.meaning }) c.args.limits ws ws' c.worked-workers.ensures.count c.worked-workers.ensures.each in
    let one_each : length own ≡ length vs = c.turns_for-own.ensures.count ∙ sym c.requires.workers in
    let own_are : AreTurns pass_view 1 own = subst (λ n. AreTurns pass_view n own) one c.turns_for-own.ensures.turns in
    let zero = c.workers_at.new.zero in
    let number : zero.number ≡ 0 = c.workers_at.ensures.number ∙ c.turns_for-own.ensures.number ∙ ap (λ (t : Token _). t.number) c.requires.zero in
    let row = row_is zero own (flat_map (λ w. w.turns.items) ws') c.with_first-first.result.passes.items c.parted-left.result.passes.items c.with_first-first.ensures.passes c.parted-left.ensures.passes in
    let journal = c.journal_of-journal.result in
    are_served pass_view g.V.Door.meaning (record { sources = g.V.Src.Source.meaning; sinks = g.V.Dst.Sink.meaning }) c.args.limits vs ws ws' own own_are one_each at hw journal (pass_view zero)
    (subst (λ passes. IsJournalOf journal (map pass_view passes)) row c.journal_of-journal.ensures.journal)
    number
    (c.workers_at.ensures.own ∙ c.turns_for-own.ensures.own ∙ ap (λ t. own_entries (pass_view t)) c.requires.zero)
    _ _ _ c.parted-left.ensures.doors c.parted-left.ensures.kept (c.of.ensures ∙ c.parted-left.ensures.ends)
    (subst (λ limits. IsLegal limits journal) (c.workers_at.ensures.limits ∙ c.turns_for-own.ensures.limits ∙ ap (λ r. r.limits) c.requires.repo) c.journal_of-journal.ensures.legal)
