use Rattle.std.proofs.Common.{◌≡◌, ◌∙◌, false, true, length, sym, subst}
use Rattle.std.specs.Prelude.{not, Some, None, position}
use Rattle.std.specs.List.{list_all}
use Rattle.std.proofs.lemmas.List.{take_all}
use Rattle.pj_change.specs.Context.{holds}
use Rattle.pj_change.specs.Shared.{records}
use Rattle.pj_context.specs.References.{RefersWithin}
use Rattle.pj_change.proofs.FirstBroken.{first_fails, none_fails}
use Rattle.pj_context.proofs.ReferenceLemmas.{refers_within_at}
use Rattle.pj_context.proofs.contexts.check.Goals as goal

pub holds-requires : goal.holds-requires
holds-requires c = subst (λ scope. RefersWithin (length scope.itself.change.needs) c.hunk-item.result) (sym c.of-scope.ensures)
    (refers_within_at c.args.record.now c.items-hunk-items.result.now c.loop-number.number c.hunk-item.result c.items-hunk-items.ensures c.loop-number-test.true c.hunk-item.is)

pub returns-then-not-holds : goal.returns-then-not-holds
returns-then-not-holds c =
    let test = holds c.args.record.now (records c.args.needs.now) in
    let fails : test c.hunk-item.result ≡ false = subst (λ scope. holds scope.itself scope.needs c.hunk-item.result ≡ false) c.of-scope.ensures (sym c.holds.ensures ∙ c.if-not-holds.true) in
    subst (λ hunks. position (λ h. not (test h)) hunks ≡ Some c.loop-number.number) c.items-hunk-items.ensures
    (first_fails test c.items-hunk-items.result.now c.loop-number.number c.hunk-item.result c.loop-number-test.true c.hunk-item.is c.loop-number.invariant fails)

pub returns : goal.returns
returns c =
    let test = holds c.args.record.now (records c.args.needs.now) in
    let all = subst (λ hunks. list_all test hunks ≡ true) (take_all c.loop-number.number c.items-hunk-items.result.now c.loop-number-test.false) c.loop-number.invariant in
    subst (λ hunks. position (λ h. not (test h)) hunks ≡ None) c.items-hunk-items.ensures (none_fails test c.items-hunk-items.result.now all)
