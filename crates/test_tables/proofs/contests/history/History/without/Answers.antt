use Rattle.std.proofs.Common.{◌≡◌, refl, sym, ◌∙◌, subst, ◌∷◌, ◌++◌, List, false}
use Rattle.std.specs.Prelude.{IsTrue, Some}
use Rattle.std.specs.Arc.{arc_value}
use Rattle.pj_change.specs.declared.change.Record.{Record}
use Rattle.pj_change.specs.Lawful.{is_held, record_of}
use Rattle.pj_change.specs.Sets.{HaveDistinctNames}
use Rattle.pj_change.specs.Unrecord.{without}
use Rattle.pj_deps.specs.Dependents.{AreDepsOf}
use Rattle.pj_contest.specs.Contests.{IsContestsOf, IsFree}
use Rattle.test_tables.proofs.ChangedLists.{found_held, stands, gone, put_first, left_free}
use Rattle.test_tables.proofs.contests.history.History.without.Goals as goal

pub held_without-requires : goal.held_without-requires
held_without-requires g c =
    subst (λ (l : List Record). IsTrue (is_held l c.args.name)) c.held-list.ensures
    (found_held c.held-list.result.now c.args.name (arc_value c.in-Some.change.now) c.in-Some.ensures)

pub contests_without-requires-clause-set : goal.contests_without-requires-clause-set
contests_without-requires-clause-set g c =
    let S = c.args.self.now in
    let r = arc_value c.in-Some.change.now in
    let t = c.contests.result.now in
    let distinct : HaveDistinctNames S = subst HaveDistinctNames c.held-list.ensures c.len-length.ensures.distinct in
    let found : record_of S c.args.name ≡ Some r = subst (λ (l : List Record). record_of l c.args.name ≡ Some r) c.held-list.ensures c.in-Some.ensures in
    let s = stands S c.args.name r distinct found in
    let first : IsContestsOf (r ∷ without S c.args.name) t = put_first S c.args.name r distinct s c.contests_are_of_the_set.ensures.members t c.contests.ensures in
    subst (λ (l : List Record). IsContestsOf (c.deref-2.result.now ∷ l) t) (sym (c.deref.ensures ∙ c.in_ok-left.ensures))
    (subst (λ (q : Record). IsContestsOf (q ∷ without S c.args.name) t) (sym c.deref-2.ensures) first)

pub contests_without-requires-clause-fresh : goal.contests_without-requires-clause-fresh
contests_without-requires-clause-fresh g c =
    let S = c.args.self.now in
    let r = arc_value c.in-Some.change.now in
    let distinct : HaveDistinctNames S = subst HaveDistinctNames c.held-list.ensures c.len-length.ensures.distinct in
    let found : record_of S c.args.name ≡ Some r = subst (λ (l : List Record). record_of l c.args.name ≡ Some r) c.held-list.ensures c.in-Some.ensures in
    let s = stands S c.args.name r distinct found in
    subst (λ (l : List Record). is_held l c.deref-2.result.now.name ≡ false) (sym (c.deref.ensures ∙ c.in_ok-left.ensures))
    (subst (λ (q : Record). is_held (without S c.args.name) q.name ≡ false) (sym c.deref-2.ensures) (gone S c.args.name r distinct s))

pub contests_without-requires-clause-free : goal.contests_without-requires-clause-free
contests_without-requires-clause-free g c =
    let S = c.args.self.now in
    let r = arc_value c.in-Some.change.now in
    let distinct : HaveDistinctNames S = subst HaveDistinctNames c.held-list.ensures c.len-length.ensures.distinct in
    let found : record_of S c.args.name ≡ Some r = subst (λ (l : List Record). record_of l c.args.name ≡ Some r) c.held-list.ensures c.in-Some.ensures in
    let s = stands S c.args.name r distinct found in
    let free : IsFree (without S c.args.name) r = left_free S c.args.name r distinct s (c.if-not-is_unneeded.ensures refl S c.needs-needs.ensures) in
    subst (λ (l : List Record). IsFree l c.deref-2.result.now) (sym (c.deref.ensures ∙ c.in_ok-left.ensures))
    (subst (λ (q : Record). IsFree (without S c.args.name) q) (sym c.deref-2.ensures) free)

pub of-requires : goal.of-requires
of-requires g c =
    let S = c.args.self.now in
    let r = arc_value c.in-Some.change.now in
    let n = c.needs-needs.result.now in
    let q = c.deref-3.result.now in
    let distinct : HaveDistinctNames S = subst HaveDistinctNames c.held-list.ensures c.len-length.ensures.distinct in
    let found : record_of S c.args.name ≡ Some r = subst (λ (l : List Record). record_of l c.args.name ≡ Some r) c.held-list.ensures c.in-Some.ensures in
    let s = stands S c.args.name r distinct found in
    let out : is_held (s.before ++ s.after) q.name ≡ false = subst (λ (q : Record). is_held (s.before ++ s.after) q.name ≡ false) (sym c.deref-3.ensures) s.apart.0 in
    let were : AreDepsOf (s.before ++ q ∷ s.after) n =
    subst (λ (q : Record). AreDepsOf (s.before ++ q ∷ s.after) n) (sym c.deref-3.ensures) (subst (λ (l : List Record). AreDepsOf l n) s.is c.needs-needs.ensures) in
    record {
      needs_are = subst (λ (l : List Record). AreDepsOf l (arc_value c.in_ok-needs.needs)) (sym (c.in_ok-left.ensures ∙ s.left)) (c.in_ok-needs.ensures s.before s.after out were);
      contests_are = subst (λ (l : List Record). IsContestsOf l (arc_value c.in_ok-contests.contests)) c.deref.ensures c.in_ok-contests.ensures;
    }
