use Rattle.std.proofs.Common.{◌≡◌, ◌∙◌, ℕ, ◌+◌, ◌-◌, ◌++◌, List, [], ◌∷◌, length, sym, ap, subst, arith}
use Rattle.std.specs.Prelude.{Contains, flat_map}
use Rattle.std.proofs.lemmas.List.{append_assoc}
use Rattle.std.proofs.lemmas.Result.{IfOk-weaker}
use Rattle.pj_change.specs.declared.point.Place.TheVariants.{At}
use Rattle.pj_change.specs.declared.point.Ref.{Ref}
use Rattle.pj_change.specs.declared.hunk.Hunk.TheVariants as hunk
use Rattle.pj_change.specs.declared.graph.Label.TheVariants as label
use Rattle.pj_change.specs.Positions.{resolve, own_point}
use Rattle.pj_change.proofs.Members.{first_member, later_member, moved}
use Rattle.pj_change.proofs.PositionLemmas.{ref_is_numbered, insertion_some, ups_numbered, downs_numbered}
use Rattle.pj_edges.specs.OwnRows.{row_to, rows_in}
use Rattle.pj_edges.proofs.own.push_hunk.Goals as goal

pub resolve-requires : goal.resolve-requires
resolve-requires c =
    let r = c.args.«record».now in
    let h = c.in-File in
    ref_is_numbered r h.parent (hunk.File h.parent h.name h.exec) (subst (λ g. Contains r.change.hunks g) h.is c.requires.member) (first_member h.parent [])

pub resolve-requires-in-Dir : goal.resolve-requires-in-Dir
resolve-requires-in-Dir c =
    let r = c.args.«record».now in
    let h = c.in-Dir in
    ref_is_numbered r h.parent (hunk.Dir h.parent h.name) (subst (λ g. Contains r.change.hunks g) h.is c.requires.member) (first_member h.parent [])

pub resolve-requires-in-NameOf : goal.resolve-requires-in-NameOf
resolve-requires-in-NameOf c =
    let r = c.args.«record».now in
    let h = c.in-NameOf in
    ref_is_numbered r h.parent (hunk.NameOf h.parent h.child h.name h.exec) (subst (λ g. Contains r.change.hunks g) h.is c.requires.member) (first_member h.parent (h.child ∷ []))

pub resolve-requires-in-NameOf-2 : goal.resolve-requires-in-NameOf-2
resolve-requires-in-NameOf-2 c =
    let r = c.args.«record».now in
    let h = c.in-NameOf in
    ref_is_numbered r h.child (hunk.NameOf h.parent h.child h.name h.exec) (subst (λ g. Contains r.change.hunks g) h.is c.requires.member)
    (later_member h.parent (h.child ∷ []) h.child (first_member h.child []))

pub resolve-requires-in-Order : goal.resolve-requires-in-Order
resolve-requires-in-Order c =
    let r = c.args.«record».now in
    let h = c.in-Order in
    ref_is_numbered r h.source (hunk.Order h.file h.source h.target) (subst (λ g. Contains r.change.hunks g) h.is c.requires.member)
    (later_member h.file (h.source ∷ h.target ∷ []) h.source (first_member h.source (h.target ∷ [])))

pub resolve-requires-in-Order-2 : goal.resolve-requires-in-Order-2
resolve-requires-in-Order-2 c =
    let r = c.args.«record».now in
    let h = c.in-Order in
    ref_is_numbered r h.target (hunk.Order h.file h.source h.target) (subst (λ g. Contains r.change.hunks g) h.is c.requires.member)
    (later_member h.file (h.source ∷ h.target ∷ []) h.target (later_member h.source (h.target ∷ []) h.target (first_member h.target [])))

-- ---- insertions

pub overflow_sub-last : goal.overflow_sub-last
overflow_sub-last c =
    let r = c.args.«record».now in
    let i = c.in-Insert in
    let some = insertion_some r i.file i.ups i.downs i.bytes (subst (λ g. Contains r.change.hunks g) i.is c.requires.member) in
    omega (arith, some, ap (length {A = ℕ}) c.items.ensures)

pub push_ups-requires : goal.push_ups-requires
push_ups-requires c = λ up m.
    let r = c.args.«record».now in
    let i = c.in-Insert in
    ups_numbered r i.file i.ups i.downs i.bytes (subst (λ g. Contains r.change.hunks g) i.is c.requires.member) up (moved up c.items-in-Insert.ensures m)

pub push_downs-requires : goal.push_downs-requires
push_downs-requires c = λ down m.
    let r = c.args.«record».now in
    let i = c.in-Insert in
    downs_numbered r i.file i.ups i.downs i.bytes (subst (λ g. Contains r.change.hunks g) i.is c.requires.member) down (moved down c.items-in-Insert-2.ensures m)

pub returns-in_ok-push_ups-in-Insert : goal.returns-in_ok-push_ups-in-Insert
returns-in_ok-push_ups-in-Insert c =
    let r = c.args.«record».now in
    let i = c.in-Insert in
    let first = c.args.first in
    let old = c.args.rows.now.items in
    let middle = c.push_ups.new.rows.items in
    let new = c.push_downs.new.rows.items in
    let last : ℕ = first + length c.items.result.now - 1 in
    let at_last : last ≡ first + length i.bytes - 1 = omega (arith, ap (length {A = ℕ}) c.items.ensures) in
    let ups = flat_map (λ (up : Ref). row_to r.name label.Block (resolve r up) (At (own_point r first))) i.ups in
    let downs = flat_map (λ (down : Ref). row_to r.name label.Order (At (own_point r (first + length i.bytes - 1))) (resolve r down)) i.downs in
    IfOk-weaker c.push_downs.result
    (λ done. new ≡ middle ++ flat_map (λ (down : Ref). row_to r.name label.Order (At (own_point r last)) (resolve r down)) c.items-in-Insert-2.result.now)
    (λ done. new ≡ old ++ rows_in r first c.args.hunk.now)
    (λ done h.
    h ∙ ap (λ (ds : List Ref). middle ++ flat_map (λ (down : Ref). row_to r.name label.Order (At (own_point r last)) (resolve r down)) ds) c.items-in-Insert-2.ensures
    ∙ ap (λ n. middle ++ flat_map (λ (down : Ref). row_to r.name label.Order (At (own_point r n)) (resolve r down)) i.downs) at_last
    ∙ ap (λ m. m ++ downs)
    (c.in_ok-push_ups-in-Insert.ensures ∙ ap (λ (us : List Ref). old ++ flat_map (λ (up : Ref). row_to r.name label.Block (resolve r up) (At (own_point r first))) us) c.items-in-Insert.ensures)
    ∙ append_assoc old ups downs
    ∙ ap (λ g. old ++ rows_in r first g) (sym i.is))
    c.push_downs.ensures
