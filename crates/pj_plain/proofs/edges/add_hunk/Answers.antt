use Rattle.std.proofs.Common.{◌≡◌, ℕ, ◌+◌, ◌-◌, length, List, [], ◌∷◌, ap, sym, ◌∙◌, subst, inl, inr, arith}
use Rattle.std.specs.Prelude.{Contains}
use Rattle.std.proofs.lemmas.Result.{on_ok_weaker}
use Rattle.pj_change.specs.declared.point.Point.{Point}
use Rattle.pj_change.specs.declared.point.Place.{Place}
use Rattle.pj_change.specs.declared.point.Place.TheVariants as placed
use Rattle.pj_change.specs.declared.point.Ref.{Ref}
use Rattle.pj_change.specs.declared.hunk.Hunk.TheVariants.{File, Dir, NameOf, Order}
use Rattle.pj_change.specs.Rules.{position_count}
use Rattle.pj_change.specs.Positions.{own_point, resolve}
use Rattle.pj_change.specs.RealEdges.{IsBlock, IsOrder, IsNameEdge, IsEdgeOf}
use Rattle.pj_change.proofs.Members.{first_member, later_member}
use Rattle.pj_change.specs.Gathers.{Gathers, IsOfOne}
use Rattle.pj_change.specs.GraphParts.{IsInner}
use Rattle.pj_change.specs.Shared.{records}
use Rattle.pj_change.proofs.PositionLemmas.{ref_is_numbered, insertion_some, ups_numbered, downs_numbered}
use Rattle.pj_change.proofs.GatheredEdges.{insertion_added}
use Rattle.pj_plain.proofs.edges.add_hunk.Goals as goal

-- ---- new files and directories

pub resolve-requires-in-File : goal.resolve-requires-in-File
resolve-requires-in-File c =
    let r = c.args.r.now in
    let parent = c.in-File.parent in
    elim c.in-File.is [
      | inl (name, exec, is) ↦ ref_is_numbered r parent (File parent name exec) (subst (λ h. Contains r.change.hunks h) is c.requires.member) (first_member parent [])
      | inr (name, is) ↦ ref_is_numbered r parent (Dir parent name) (subst (λ h. Contains r.change.hunks h) is c.requires.member) (first_member parent [])
    ]

pub returns-in-File : goal.returns-in-File
returns-in-File c =
    let S = records c.args.changes.now in
    let r = c.args.r.now in
    let first = c.args.first in
    let parent = c.in-File.parent in
    let old = c.args.edges.now.items in
    let new = c.add_name-in-File.new.edges.items in
    on_ok_weaker c.add_name-in-File.result
    (λ named. (
    let at_parent = subst (λ (p : Place). Gathers (IsNameEdge S r first p (placed.At c.own_point.result)) old new) c.resolve-in-File.ensures named in
    let whole = subst (λ (p : Point). Gathers (IsNameEdge S r first (resolve r parent) (placed.At p)) old new) c.own_point.ensures at_parent in
    elim c.in-File.is [
      | inl (name, exec, is) ↦ subst (λ h. Gathers (IsEdgeOf S r first h) old new) (sym is) whole
      | inr (name, is) ↦ subst (λ h. Gathers (IsEdgeOf S r first h) old new) (sym is) whole
    ]))
    c.add_name-in-File.ensures

-- ---- further names

pub resolve-requires : goal.resolve-requires
resolve-requires c =
    let r = c.args.r.now in
    let n = c.in-NameOf in
    ref_is_numbered r n.parent (NameOf n.parent n.child n.name n.exec) (subst (λ h. Contains r.change.hunks h) n.is c.requires.member) (first_member n.parent (n.child ∷ []))

pub resolve-requires-in-NameOf : goal.resolve-requires-in-NameOf
resolve-requires-in-NameOf c =
    let r = c.args.r.now in
    let n = c.in-NameOf in
    ref_is_numbered r n.child (NameOf n.parent n.child n.name n.exec) (subst (λ h. Contains r.change.hunks h) n.is c.requires.member)
    (later_member n.parent (n.child ∷ []) n.child (first_member n.child []))

pub returns-in-NameOf : goal.returns-in-NameOf
returns-in-NameOf c =
    let S = records c.args.changes.now in
    let r = c.args.r.now in
    let first = c.args.first in
    let n = c.in-NameOf in
    let old = c.args.edges.now.items in
    let new = c.add_name.new.edges.items in
    on_ok_weaker c.add_name.result
    (λ named. (
    let at_parent = subst (λ (p : Place). Gathers (IsNameEdge S r first p c.resolve-in-NameOf.result) old new) c.resolve.ensures named in
    let whole = subst (λ (p : Place). Gathers (IsNameEdge S r first (resolve r n.parent) p) old new) c.resolve-in-NameOf.ensures at_parent in
    subst (λ h. Gathers (IsEdgeOf S r first h) old new) (sym n.is) whole))
    c.add_name.ensures

-- ---- insertions

pub add_ups-requires : goal.add_ups-requires
add_ups-requires c =
    let r = c.args.r.now in
    let n = c.in-Insert in
    λ up m. ups_numbered r n.file n.ups n.downs n.bytes (subst (λ h. Contains r.change.hunks h) n.is c.requires.member) up (subst (λ (l : List Ref). Contains l up) c.items.ensures m)

pub add_inner-requires : goal.add_inner-requires
add_inner-requires c =
    let n = c.in-Insert in
    let size : c.position_count.result ≡ length n.bytes = c.position_count.ensures ∙ ap position_count n.is in
    let some = insertion_some c.args.r.now n.file n.ups n.downs n.bytes (subst (λ h. Contains c.args.r.now.change.hunks h) n.is c.requires.member) in
    omega arith

pub overflow_sub-past : goal.overflow_sub-past
overflow_sub-past c =
    let n = c.in-Insert in
    let size : c.position_count.result ≡ length n.bytes = c.position_count.ensures ∙ ap position_count n.is in
    let some = insertion_some c.args.r.now n.file n.ups n.downs n.bytes (subst (λ h. Contains c.args.r.now.change.hunks h) n.is c.requires.member) in
    omega arith

pub add_downs-requires : goal.add_downs-requires
add_downs-requires c =
    let r = c.args.r.now in
    let n = c.in-Insert in
    λ down m. downs_numbered r n.file n.ups n.downs n.bytes (subst (λ h. Contains r.change.hunks h) n.is c.requires.member) down (subst (λ (l : List Ref). Contains l down) c.items-in-Insert.ensures m)

pub returns-in_ok-add_inner-in-Insert : goal.returns-in_ok-add_inner-in-Insert
returns-in_ok-add_inner-in-Insert c =
    let S = records c.args.changes.now in
    let r = c.args.r.now in
    let first = c.args.first in
    let n = c.in-Insert in
    let old = c.args.edges.now.items in
    let a = c.add_ups.new.edges.items in
    let b = c.add_inner.new.edges.items in
    let new = c.add_downs.new.edges.items in
    let size : c.position_count.result ≡ length n.bytes = c.position_count.ensures ∙ ap position_count n.is in
    let from_ups = subst (λ (ups : List Ref). Gathers (IsOfOne (λ (up : Ref). IsBlock S r (resolve r up) first) ups) old a) c.items.ensures c.in_ok-add_ups-in-Insert.ensures in
    let inner = subst (λ (k : ℕ). Gathers (IsInner S r first (first + k)) a b) size c.in_ok-add_inner-in-Insert.ensures in
    on_ok_weaker c.add_downs.result
    (λ to_downs. (
    let of_hunk = subst (λ (downs : List Ref). Gathers (IsOfOne (λ (down : Ref). IsOrder r (placed.At (own_point r (first + c.position_count.result - 1))) (resolve r down)) downs) b new) c.items-in-Insert.ensures to_downs in
    let at_end = subst (λ (k : ℕ). Gathers (IsOfOne (λ (down : Ref). IsOrder r (placed.At (own_point r (first + k - 1))) (resolve r down)) n.downs) b new) size of_hunk in
    subst (λ h. Gathers (IsEdgeOf S r first h) old new) (sym n.is) (insertion_added S r first n.file n.ups n.downs n.bytes old a b new from_ups inner at_end)))
    c.add_downs.ensures

-- ---- orders

pub resolve-requires-in-Order : goal.resolve-requires-in-Order
resolve-requires-in-Order c =
    let r = c.args.r.now in
    let n = c.in-Order in
    ref_is_numbered r n.source (Order n.file n.source n.target) (subst (λ h. Contains r.change.hunks h) n.is c.requires.member)
    (later_member n.file (n.source ∷ n.target ∷ []) n.source (first_member n.source (n.target ∷ [])))

pub resolve-requires-in-Order-2 : goal.resolve-requires-in-Order-2
resolve-requires-in-Order-2 c =
    let r = c.args.r.now in
    let n = c.in-Order in
    ref_is_numbered r n.target (Order n.file n.source n.target) (subst (λ h. Contains r.change.hunks h) n.is c.requires.member)
    (later_member n.file (n.source ∷ n.target ∷ []) n.target (later_member n.source (n.target ∷ []) n.target (first_member n.target [])))

pub returns-in-Order : goal.returns-in-Order
returns-in-Order c =
    let S = records c.args.changes.now in
    let r = c.args.r.now in
    let n = c.in-Order in
    let old = c.args.edges.now.items in
    let new = c.add_order.new.edges.items in
    on_ok_weaker c.add_order.result
    (λ order. (
    let at_source = subst (λ (p : Place). Gathers (IsOrder r p c.resolve-in-Order-2.result) old new) c.resolve-in-Order.ensures order in
    let whole = subst (λ (p : Place). Gathers (IsOrder r (resolve r n.source) p) old new) c.resolve-in-Order-2.ensures at_source in
    subst (λ h. Gathers (IsEdgeOf S r c.args.first h) old new) (sym n.is) whole))
    c.add_order.ensures
