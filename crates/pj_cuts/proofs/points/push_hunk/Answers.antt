use Rattle.std.proofs.Common.{◌≡◌, ◌∙◌, ◌++◌, List, [], ◌∷◌, sym, ap, subst, arith}
use Rattle.std.specs.Prelude.{Contains, flat_map}
use Rattle.std.proofs.lemmas.List.{append_assoc}
use Rattle.std.proofs.lemmas.Result.{IfOk-weaker}
use Rattle.pj_change.specs.declared.point.Ref.{Ref}
use Rattle.pj_change.specs.declared.hunk.Hunk.TheVariants.{Order}
use Rattle.pj_change.specs.Positions.{resolve}
use Rattle.pj_change.specs.CutCounts.{point_after, point_at}
use Rattle.pj_change.specs.CutCounts as counted
use Rattle.pj_change.proofs.Members.{first_member, later_member, moved}
use Rattle.pj_change.proofs.PositionLemmas.{ref_is_numbered, ups_numbered, downs_numbered}
use Rattle.pj_change.proofs.NeedNumbers.{delete_owner, revive_owner}
use Rattle.pj_cuts.proofs.points.push_hunk.Goals as goal

pub push_ups-requires-clause-numbered : goal.push_ups-requires-clause-numbered
push_ups-requires-clause-numbered c = λ up m.
    let r = c.args.«record».now in
    let i = c.in-Insert in
    ups_numbered r i.file i.ups i.downs i.bytes (subst (λ h. Contains r.change.hunks h) i.is c.requires.member) up (moved up c.items.ensures m)

pub push_downs-requires : goal.push_downs-requires
push_downs-requires c = λ down m.
    let r = c.args.«record».now in
    let i = c.in-Insert in
    downs_numbered r i.file i.ups i.downs i.bytes (subst (λ h. Contains r.change.hunks h) i.is c.requires.member) down (moved down c.items-in-Insert.ensures m)

pub returns-in_ok-push_ups-in-Insert : goal.returns-in_ok-push_ups-in-Insert
returns-in_ok-push_ups-in-Insert c =
    let r = c.args.«record».now in
    let i = c.in-Insert in
    let old = c.args.points.now.items in
    let new = c.push_downs.new.points.items in
    let ups = flat_map (λ (up : Ref). point_after (resolve r up)) i.ups in
    let downs = flat_map (λ (down : Ref). point_at (resolve r down)) i.downs in
    IfOk-weaker c.push_downs.result
    (λ done. new ≡ c.push_ups.new.points.items ++ flat_map (λ (down : Ref). point_at (resolve r down)) c.items-in-Insert.result.now)
    (λ done. new ≡ old ++ counted.cut_points r c.args.hunk.now)
    (λ done h.
    h ∙ ap (λ (ds : List Ref). c.push_ups.new.points.items ++ flat_map (λ (down : Ref). point_at (resolve r down)) ds) c.items-in-Insert.ensures
    ∙ ap (λ m. m ++ downs) (c.in_ok-push_ups-in-Insert.ensures ∙ ap (λ (us : List Ref). old ++ flat_map (λ (up : Ref). point_after (resolve r up)) us) c.items.ensures)
    ∙ append_assoc old ups downs
    ∙ ap (λ g. old ++ counted.cut_points r g) (sym i.is))
    c.push_downs.ensures

pub resolve-requires : goal.resolve-requires
resolve-requires c =
    let r = c.args.«record».now in
    let o = c.in-Order in
    ref_is_numbered r o.source (Order o.file o.source o.target) (subst (λ h. Contains r.change.hunks h) o.is c.requires.member) (later_member o.file (o.source ∷ o.target ∷ []) o.source (first_member o.source (o.target ∷ [])))

pub resolve-requires-in-Order : goal.resolve-requires-in-Order
resolve-requires-in-Order c =
    let r = c.args.«record».now in
    let o = c.in-Order in
    ref_is_numbered r o.target (Order o.file o.source o.target) (subst (λ h. Contains r.change.hunks h) o.is c.requires.member)
    (later_member o.file (o.source ∷ o.target ∷ []) o.target (later_member o.source (o.target ∷ []) o.target (first_member o.target [])))

pub push_ends-requires : goal.push_ends-requires
push_ends-requires c =
    let r = c.args.«record».now in
    let d = c.in-Delete in
    let n = delete_owner r d.owner d.start d.end d.by (subst (λ h. Contains r.change.hunks h) d.is c.requires.member) in
    omega (arith, n)

pub push_ends-requires-in-Revive : goal.push_ends-requires-in-Revive
push_ends-requires-in-Revive c =
    let r = c.args.«record».now in
    let d = c.in-Revive in
    let n = revive_owner r d.owner d.start d.end d.by (subst (λ h. Contains r.change.hunks h) d.is c.requires.member) in
    omega (arith, n)
