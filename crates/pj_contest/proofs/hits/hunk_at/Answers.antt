use Rattle.std.proofs.Common.{◌≡◌, ◌<◌, ◌≤◌, length, sym, refl, subst}
use Rattle.std.specs.Prelude.{Some, None, slice_get}
use borrow.Author.Tests.{ltb-true, ltb-false}
use Rattle.std.proofs.lemmas.Option.{slice_get_read, slice_get_past}
use Rattle.pj_contest.proofs.hits.hunk_at.Goals as goal

pub returns-in-Some : goal.returns-in-Some
returns-in-Some c =
    let hunks = c.args.d.now.change.hunks in
    let k = c.args.number in
    let same : c.items.result.now ≡ hunks = c.items.ensures in
    let low : k < length c.items.result.now = ltb-true k (length c.items.result.now) (sym c.in-Some.ensures.lookup.0) in
    subst (λ hs. slice_get hs k ≡ Some c.in-Some.hunk.now) same (slice_get_read c.items.result.now _ k c.in-Some.hunk.now refl low c.in-Some.ensures.lookup.1)

pub returns-in-None : goal.returns-in-None
returns-in-None c =
    let k = c.args.number in
    let past : length c.items.result.now ≤ k = ltb-false k (length c.items.result.now) (sym c.in-None.ensures.lookup.0) in
    subst (λ hs. slice_get hs k ≡ None) c.items.ensures (slice_get_past c.items.result.now k past)
