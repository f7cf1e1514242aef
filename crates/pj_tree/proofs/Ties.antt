-- Rows and keys that their order does not tell apart are equal.
use Rattle.std.proofs.Common.{◌≡◌, ℕ, List, refl, sym, ap, ◌∙◌, subst, Bool, true, false}
use Rattle.std.specs.Prelude.{Option, Some, None}
use Rattle.std.specs.declared.cmp.Ordering.TheVariants.{Equal}
use Rattle.std.specs.Ordering.{is_eq, nat_cmp, bool_cmp}
use Rattle.std.specs.Option.{option_cmp}
use Rattle.std.specs.Cmp.Lexicographic.{slice_cmp, bytes_decides}
use Rattle.std.specs.Cmp.{both_ways, Equal-is}
use Rattle.std.proofs.lemmas.Map.Text.{is_eq-slice_cmp}
use Rattle.pj_change.specs.declared.point.Point.{Point}
use Rattle.pj_change.specs.declared.point.Place.{Place}
use Rattle.pj_change.specs.declared.point.Place.TheVariants.{Root, At}
use Rattle.pj_change.specs.Graph.{point_cmp, place_cmp}
use Rattle.std.proofs.lemmas.Cmp.{tied_itself}
use Rattle.pj_change.specs.Positions.{same_point, same_place}
use Rattle.pj_change.proofs.Orders.{point_total}
use Rattle.pj_change.proofs.EqualNames.{point_tied, same_point_is, same_point_itself, both_tie, place_tied}
use Rattle.pj_tree.specs.declared.row.NameRow.{NameRow}
use Rattle.pj_tree.specs.declared.keys.InodeKey.{InodeKey}
use Rattle.pj_tree.specs.Rows.{pair_cmp, row_cmp}
use Rattle.pj_tree.specs.RowOrder.{key_cmp}
use Rattle.pj_tree.specs.Maps.{inode_key_cmp}

pub bytes_tied : (xs ys : List ℕ) → slice_cmp nat_cmp xs ys ≡ Equal → xs ≡ ys
bytes_tied xs ys h = (bytes_decides xs ys).0 (sym (is_eq-slice_cmp xs ys) ∙ ap is_eq h)

bool_tied : (a b : Bool) → bool_cmp a b ≡ Equal → a ≡ b
bool_tied false false h = refl
bool_tied false true h = absurd (cc)
bool_tied true false h = absurd (cc)
bool_tied true true h = refl

-- rows of one pair
pub record IsSamePair (r s : NameRow) : Type 0 where
  pub parent : r.parent ≡ s.parent
  pub name : r.name ≡ s.name
  pub child : r.child ≡ s.child

pub pair_tied : (r s : NameRow) → pair_cmp r s ≡ Equal → IsSamePair r s
pair_tied r s h =
    let p = both_tie (place_cmp r.parent s.parent) _ h in
    let n = both_tie (slice_cmp nat_cmp r.name s.name) _ p.1 in
    record { parent = place_tied r.parent s.parent p.0; name = bytes_tied r.name s.name n.0; child = point_tied r.child s.child n.1 }

pub row_tied : (r s : NameRow) → row_cmp r s ≡ Equal → r ≡ s
row_tied r s h =
    let p = both_tie (pair_cmp r s) _ h in
    let same = pair_tied r s p.0 in
    let a = both_tie (point_cmp r.at s.at) _ p.1 in
    let d = both_tie (bool_cmp r.dir s.dir) _ a.1 in
    let at = point_tied r.at s.at a.0 in
    let dir = bool_tied r.dir s.dir d.0 in
    let exec = bool_tied r.exec s.exec d.1 in
    λ i. record { parent = same.parent i; name = same.name i; child = same.child i; at = at i; dir = dir i; exec = exec i }

pub key_tied : (k l : Option NameRow) → key_cmp k l ≡ Equal → k ≡ l
key_tied None None h = refl
key_tied None (Some s) h = absurd (cc)
key_tied (Some r) None h = absurd (cc)
key_tied (Some r) (Some s) h = ap Some (row_tied r s h)

pub inode_key_tied : (k l : InodeKey) → inode_key_cmp k l ≡ Equal → k ≡ l
inode_key_tied k l h = let e = by k.at l.at h in λ i. record { at = e i }
  where
    by : (p q : Option Point) → option_cmp point_cmp p q ≡ Equal → p ≡ q
    by None None h = refl
    by None (Some q) h = absurd (cc)
    by (Some p) None h = absurd (cc)
    by (Some p) (Some q) h = ap Some (point_tied p q h)

-- ---- the tests of equal points and places

pub same_point-is_eq : (p q : Point) → same_point p q ≡ is_eq (point_cmp p q)
same_point-is_eq p q = both_ways (same_point p q) (is_eq (point_cmp p q))
    (λ h. ap is_eq (subst (λ r. point_cmp p r ≡ Equal) (same_point_is p q h) (tied_itself point_total p)))
    (λ h. subst (λ r. same_point p r ≡ true) (point_tied p q ((Equal-is _).0 h)) (same_point_itself p))

pub same_place-is_eq : (p q : Place) → same_place p q ≡ is_eq (place_cmp p q)
same_place-is_eq Root Root = refl
same_place-is_eq Root (At q) = refl
same_place-is_eq (At p) Root = refl
same_place-is_eq (At p) (At q) = same_point-is_eq p q
