-- The rows and inodes of a tree after a change of its maps.
use Rattle.std.proofs.Common.{◌≡◌, ◌≢◌, ◌⊎◌, inl, inr, List, Some, None, Option, Bool, false, sym, ap, ◌∙◌, Contains, ⊎_elim, option_map}
use Rattle.std.specs.Cmp.{IsTotalOrder, on_total}
use Rattle.std.specs.Cmp.Lexicographic.{options_total}
use Rattle.std.specs.declared.cmp.Ordering.TheVariants.{Less}
use Rattle.std.specs.List.Sorted.{IsStrictlySortedBy}
use Rattle.pj_pmap.specs.Pairs.{IsRising, with_pair, without_key}
use Rattle.pj_change.specs.declared.point.Point.{Point}
use Rattle.std.specs.Option.{option_cmp}
use Rattle.std.specs.Ordering.{is_eq}
use Rattle.pj_change.specs.Graph.{point_cmp}
use Rattle.pj_change.proofs.Orders.{point_total}
use Rattle.pj_change.proofs.PickedMembers.{picked_from, picked_there}
use Rattle.pj_tree.specs.declared.row.NameRow.{NameRow}
use Rattle.pj_tree.specs.declared.row.Inode.{Inode}
use Rattle.pj_tree.specs.declared.keys.Here.{Here}
use Rattle.pj_tree.specs.declared.keys.InodeKey.{InodeKey}
use Rattle.pj_tree.specs.declared.keys.InodeKind.{InodeKind}
use Rattle.pj_tree.specs.Rows.{row_cmp, inode_cmp, HasAlso, LacksRow, HasInode, LacksInode}
use Rattle.pj_tree.specs.RowOrder.{key_cmp, key_total}
use Rattle.pj_tree.specs.Maps.{inode_key_cmp, rows_of, inode, inodes_of}
use Rattle.pj_tree.proofs.Ties.{key_tied, inode_key_tied}
use Rattle.pj_tree.proofs.MapMembers
use Rattle.pj_tree.proofs.FilterMaps.{in_order}

-- ---- rows

abbrev pub row_of : Option NameRow × Here → Option NameRow
row_of e = e.0

pub rows-in_order : (es : List (Option NameRow × Here)) → IsRising key_cmp es → IsStrictlySortedBy row_cmp (rows_of es)
rows-in_order es rising = in_order key_cmp row_cmp row_of (λ a b y z e f low. by a.0 b.0 y z e f low) es rising
  where
    by : (k l : Option NameRow) (y z : NameRow) → k ≡ Some y → l ≡ Some z → key_cmp k l ≡ Less → row_cmp y z ≡ Less
    by k l y z e f low = let h : key_cmp (Some y) (Some z) ≡ Less = rw (e, f) at low in h

pub rows-with : (row : NameRow) (h : Here) (es : List (Option NameRow × Here)) → IsRising key_cmp es → HasAlso (rows_of es) row (rows_of (with_pair key_cmp (Some row) h es))
rows-with row h es rising r = (there, back)
  where
    new : List (Option NameRow × Here)
    new = with_pair key_cmp (Some row) h es

    same : (k : Option NameRow) → k ≡ Some r → k ≡ Some row → r ≡ row
    same k e f = cc

    there : Contains (rows_of new) r → (r ≡ row) ⊎ Contains (rows_of es) r
    there m =
        let g = picked_from row_of new r m in
        ⊎_elim
        (λ (s : g.0 ≡ (Some row, h)). inl (same g.0.0 g.2 (ap row_of s)))
        (λ (o : Contains es g.0 × (g.0.0 ≢ Some row)). inr (picked_there row_of es g.0 r o.0 g.2))
        (MapMembers.member_with key_cmp key_total key_tied (Some row) h es rising g.0 g.1)

    mine : r ≡ row → Contains (rows_of new) r
    mine e = picked_there row_of new (Some row, h) r (MapMembers.member_same key_cmp key_total key_tied (Some row) h es rising) (ap Some (sym e))

    back : (r ≡ row) ⊎ Contains (rows_of es) r → Contains (rows_of new) r
    back c = ⊎_elim mine
        (λ (m : Contains (rows_of es) r).
        let g = picked_from row_of es r m in
        ⊎_elim
        (λ (e : g.0.0 ≡ Some row). mine (same g.0.0 g.2 e))
        (λ (d : (g.0.0 ≢ Some row) × (is_eq (key_cmp g.0.0 (Some row)) ≡ false)). picked_there row_of new g.0 r (MapMembers.member_other key_cmp key_total key_tied (Some row) h es rising g.0 g.1 d.0) g.2)
        (MapMembers.apart key_cmp key_total key_tied g.0.0 (Some row)))
        c

pub rows-without : (row : NameRow) (es : List (Option NameRow × Here)) → IsRising key_cmp es → LacksRow (rows_of es) row (rows_of (without_key key_cmp (Some row) es))
rows-without row es rising r = (there, back)
  where
    new : List (Option NameRow × Here)
    new = without_key key_cmp (Some row) es

    there : Contains (rows_of new) r → Contains (rows_of es) r × (r ≢ row)
    there m =
        let g = picked_from row_of new r m in
        let o = MapMembers.member_without key_cmp key_total key_tied (Some row) es rising g.0 g.1 in
        (picked_there row_of es g.0 r o.0 g.2, λ e. o.1 (g.2 ∙ ap Some e))

    back : Contains (rows_of es) r × (r ≢ row) → Contains (rows_of new) r
    back c =
        let g = picked_from row_of es r c.0 in
        let n : g.0.0 ≢ Some row = λ f. c.1 (some_is (sym g.2 ∙ f)) in
        picked_there row_of new g.0 r (MapMembers.member_left key_cmp key_total key_tied (Some row) es rising g.0 g.1 n) g.2
      where
        some_is : Some r ≡ Some row → r ≡ row
        some_is h = cc

-- ---- inodes

abbrev pub inode_of : InodeKey × InodeKind → Option Inode
inode_of e = option_map (λ p. inode p e.1.dir) e.0.at

pub inode_total : IsTotalOrder inode_cmp
inode_total = on_total (λ i. i.at) point_total

pub inode_key_total : IsTotalOrder inode_key_cmp
inode_key_total = on_total (λ k. k.at) (options_total point_total)

-- what gives an inode has its point
key_of : (at : Option Point) (dir : Bool) (i : Inode) → option_map (λ p. inode p dir) at ≡ Some i → (at ≡ Some i.at) × (dir ≡ i.dir)
key_of None dir i e = absurd (cc)
key_of (Some p) dir i e = let s : inode p dir ≡ i = some_is (inode p dir) i e in (ap (λ j. Some j.at) s, ap (λ j. j.dir) s)
  where
    some_is : (a b : Inode) → Some a ≡ Some b → a ≡ b
    some_is a b h = cc

abbrev pub at_point : Point → InodeKey
at_point p = record { at = Some p }

abbrev pub of_kind : Bool → InodeKind
of_kind dir = record { dir = dir }

key_is : (k : InodeKey) (p : Point) → k.at ≡ Some p → k ≡ at_point p
key_is k p e = λ i. record { at = e i }

pub inodes-in_order : (es : List (InodeKey × InodeKind)) → IsRising inode_key_cmp es → IsStrictlySortedBy inode_cmp (inodes_of es)
inodes-in_order es rising = in_order inode_key_cmp inode_cmp inode_of by es rising
  where
    by : (a b : InodeKey × InodeKind) (y z : Inode) → inode_of a ≡ Some y → inode_of b ≡ Some z → inode_key_cmp a.0 b.0 ≡ Less → inode_cmp y z ≡ Less
    by a b y z e f low =
        let k = (key_of a.0.at a.1.dir y e).0 in
        let l = (key_of b.0.at b.1.dir z f).0 in
        let h : option_cmp point_cmp (Some y.at) (Some z.at) ≡ Less = rw (k, l) at low in h

pub inodes-with : (p : Point) (dir : Bool) (es : List (InodeKey × InodeKind)) → IsRising inode_key_cmp es →
    HasInode (inodes_of es) (inode p dir) (inodes_of (with_pair inode_key_cmp (at_point p) (of_kind dir) es))
inodes-with p dir es rising i = (there, back)
  where
    new : List (InodeKey × InodeKind)
    new = with_pair inode_key_cmp (at_point p) (of_kind dir) es

    there : Contains (inodes_of new) i → (i ≡ inode p dir) ⊎ (Contains (inodes_of es) i × (i.at ≢ p))
    there m =
        let g = picked_from inode_of new i m in
        let k = key_of g.0.0.at g.0.1.dir i g.2 in
        ⊎_elim
        (λ (s : g.0 ≡ (at_point p, of_kind dir)).
        let a : Some i.at ≡ Some p = sym k.0 ∙ ap (λ e. e.0.at) s in
        let d : i.dir ≡ dir = sym k.1 ∙ ap (λ e. e.1.dir) s in
        inl (inode_is (some_is a) d))
        (λ (o : Contains es g.0 × (g.0.0 ≢ at_point p)).
        inr (picked_there inode_of es g.0 i o.0 g.2, λ a. o.1 (key_is g.0.0 p (k.0 ∙ ap Some a))))
        (MapMembers.member_with inode_key_cmp inode_key_total inode_key_tied (at_point p) (of_kind dir) es rising g.0 g.1)
      where
        some_is : Some i.at ≡ Some p → i.at ≡ p
        some_is h = cc

        inode_is : i.at ≡ p → i.dir ≡ dir → i ≡ inode p dir
        inode_is a d = λ j. record { at = a j; dir = d j }

    back : (i ≡ inode p dir) ⊎ (Contains (inodes_of es) i × (i.at ≢ p)) → Contains (inodes_of new) i
    back c = ⊎_elim
        (λ (e : i ≡ inode p dir). picked_there inode_of new (at_point p, of_kind dir) i (MapMembers.member_same inode_key_cmp inode_key_total inode_key_tied (at_point p) (of_kind dir) es rising) (ap Some (sym e)))
        (λ (o : Contains (inodes_of es) i × (i.at ≢ p)).
        let g = picked_from inode_of es i o.0 in
        let k = key_of g.0.0.at g.0.1.dir i g.2 in
        let n : g.0.0 ≢ at_point p = λ f. o.1 (some_is (sym k.0 ∙ ap (λ k. k.at) f)) in
        picked_there inode_of new g.0 i (MapMembers.member_other inode_key_cmp inode_key_total inode_key_tied (at_point p) (of_kind dir) es rising g.0 g.1 n) g.2)
        c
      where
        some_is : Some i.at ≡ Some p → i.at ≡ p
        some_is h = cc

pub inodes-without : (p : Point) (es : List (InodeKey × InodeKind)) → IsRising inode_key_cmp es → LacksInode (inodes_of es) p (inodes_of (without_key inode_key_cmp (at_point p) es))
inodes-without p es rising i = (there, back)
  where
    new : List (InodeKey × InodeKind)
    new = without_key inode_key_cmp (at_point p) es

    some_is : Some i.at ≡ Some p → i.at ≡ p
    some_is h = cc

    there : Contains (inodes_of new) i → Contains (inodes_of es) i × (i.at ≢ p)
    there m =
        let g = picked_from inode_of new i m in
        let k = key_of g.0.0.at g.0.1.dir i g.2 in
        let o = MapMembers.member_without inode_key_cmp inode_key_total inode_key_tied (at_point p) es rising g.0 g.1 in
        (picked_there inode_of es g.0 i o.0 g.2, λ a. o.1 (key_is g.0.0 p (k.0 ∙ ap Some a)))

    back : Contains (inodes_of es) i × (i.at ≢ p) → Contains (inodes_of new) i
    back c =
        let g = picked_from inode_of es i c.0 in
        let k = key_of g.0.0.at g.0.1.dir i g.2 in
        let n : g.0.0 ≢ at_point p = λ f. c.1 (some_is (sym k.0 ∙ ap (λ k. k.at) f)) in
        picked_there inode_of new g.0 i (MapMembers.member_left inode_key_cmp inode_key_total inode_key_tied (at_point p) es rising g.0 g.1 n) g.2
