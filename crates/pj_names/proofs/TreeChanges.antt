-- The tree of a lawful list with one change more, and with one less.
use Rattle.std.proofs.Common.{◌≡◌, ◌∙◌, sym, ap, subst, refl, ℕ, Bool, false, List, [], ◌∷◌, ◌++◌, append_assoc, length, inl, inr}
use Rattle.std.specs.Prelude.{Contains, ◌⊎◌, Option, Some, None, slice_get, option_and_then}
use Rattle.std.proofs.lemmas.Option.{same_Some, none-some, slice_get_within}
use Rattle.pj_change.specs.declared.point.Point.{Point}
use Rattle.pj_change.specs.declared.point.Place.{Place}
use Rattle.pj_change.specs.declared.point.Place.TheVariants as placed
use Rattle.pj_change.specs.declared.hunk.Hunk.{Hunk}
use Rattle.pj_change.specs.declared.hunk.Hunk.TheVariants.{File, Dir, NameOf, Insert, Order, Delete, Revive}
use Rattle.pj_change.specs.declared.change.Record.{Record}
use Rattle.pj_change.specs.Positions.{kind_at, place}
use Rattle.pj_change.specs.Children.{Naming, naming_of, IsInode}
use Rattle.pj_change.specs.Gathers.{Gathers, IsOfOne}
use Rattle.pj_change.specs.Lawful.{is_held, IsLawful, Follows}
use Rattle.pj_change.specs.Sets.{HaveSameMembers}
use Rattle.pj_change.proofs.Members.{first_member, uncons, no_member, before_member, middle_member, after_member, splits}
use Rattle.pj_change.proofs.LawfulLists.{append_cases, middle_cases, first_part, second_part, not_held, not_record}
use Rattle.pj_change.proofs.LawfulChanges.{lawful_push}
use Rattle.pj_change.proofs.EqualNames.{at_is}
use Rattle.pj_tree.specs.declared.row.NameRow.{NameRow}
use Rattle.pj_tree.specs.declared.row.Inode.{Inode}
use Rattle.pj_tree.specs.Rows.{Listing}
use Rattle.pj_tree.specs.TreeOf.{row_to, row_of, hunk_row, IsRowOf, IsTreeOf}
use Rattle.pj_tree.proofs.DirTests.{dir_told}
use Rattle.pj_tree.proofs.TreeNamespaces.{says}
use Rattle.pj_names.specs.Given.{IsInodeOf, IsInodeBelow, HasInodesBelow, IsAtInodeBelow, Leaves}
use Rattle.pj_names.proofs.Dirs.{dir_same, row_alike}
use Rattle.pj_names.proofs.InodesMade.{IsKindOf, Stands, stands, made}

-- ---- rows in two lists

more_inode : (S T : List Record) → ((w : Record) → Contains S w → Contains T w) → (p : Point) (dir : Bool) → IsInode S p dir → IsInode T p dir
more_inode S T within p dir h = record { owner = h.owner; member = within h.owner h.member; name = h.name; is = h.is }

module _ (S T : List Record) (small : IsLawful S) (large : IsLawful T) (within : (w : Record) → Contains S w → Contains T w) (s : Record) (member : Contains S s) where
  -- a change of the fewer has the same row by each of its hunks among the more
  row_same : (number : ℕ) (h : Hunk) → slice_get s.change.hunks number ≡ Some h → hunk_row S s (place s.change.hunks number) h ≡ hunk_row T s (place s.change.hunks number) h
  row_same number h there = row_alike S T s (place s.change.hunks number) h (λ n is p child.
      let said = says S small s member number n h there is in
      let at : said.child ≡ p = at_is said.child p (sym said.child_is ∙ child) in
      let inode : IsInode S p said.dir = subst (λ q. IsInode S q said.dir) at said.inode in
      dir_told S small p said.dir inode ∙ sym (dir_told T large p said.dir (more_inode S T within p said.dir inode)))

  row_up : (row : NameRow) → IsRowOf S s row → IsRowOf T s row
  row_up row h = record { number = h.number; hunk = h.hunk; there = h.there; is = sym (row_same h.number h.hunk h.there) ∙ h.is }

  row_down : (row : NameRow) → IsRowOf T s row → IsRowOf S s row
  row_down row h = record { number = h.number; hunk = h.hunk; there = h.there; is = row_same h.number h.hunk h.there ∙ h.is }

-- lists with the same members have the same rows
row_of_same : (S T : List Record) → HaveSameMembers S T → (s : Record) (row : NameRow) → IsRowOf S s row → IsRowOf T s row
row_of_same S T same s row h = record {
  number = h.number;
  hunk = h.hunk;
  there = h.there;
  is = sym (row_alike S T s (place s.change.hunks h.number) h.hunk (λ n is p child. dir_same S T same p)) ∙ h.is;
}

-- a row stands in its change
naming_at : (r : Record) (first : ℕ) (h : Hunk) (n : Naming) → naming_of r first h ≡ Some n → n.at.change ≡ r.name
naming_at r first (File parent name exec) n e = sym (ap (λ (m : Naming). m.at.change) (same_Some _ n e))
naming_at r first (Dir parent name) n e = sym (ap (λ (m : Naming). m.at.change) (same_Some _ n e))
naming_at r first (NameOf parent child name exec) n e = sym (ap (λ (m : Naming). m.at.change) (same_Some _ n e))
naming_at r first (Insert file ups downs bytes) n e = absurd (none-some n e)
naming_at r first (Order file source target) n e = absurd (none-some n e)
naming_at r first (Delete owner start end by) n e = absurd (none-some n e)
naming_at r first (Revive owner start end by) n e = absurd (none-some n e)

row_to_at : (S : List Record) (n : Naming) (child : Place) (row : NameRow) → row_to S n child ≡ Some row → row.at ≡ n.at
row_to_at S n placed.Root row e = absurd (none-some row e)
row_to_at S n (placed.At p) row e = sym (ap (λ (x : NameRow). x.at) (same_Some _ row e))

row_change : (S : List Record) (r : Record) (row : NameRow) → IsRowOf S r row → row.at.change ≡ r.name
row_change S r row h = go (naming_of r (place r.change.hunks h.number) h.hunk) refl
  where
    go : (o : Option Naming) → naming_of r (place r.change.hunks h.number) h.hunk ≡ o → row.at.change ≡ r.name
    go None e = absurd (none-some row (sym (ap (option_and_then (row_of S)) e) ∙ h.is))
    go (Some n) e = ap (λ (p : Point). p.change) (row_to_at S n n.child row (sym (ap (option_and_then (row_of S)) e) ∙ h.is)) ∙ naming_at r (place r.change.hunks h.number) h.hunk n e

-- a change that is held has another name than one that is not
other_name : (S : List Record) (r s : Record) → is_held S r.name ≡ false → Contains S s → s.name ≡ r.name → ⊥
other_name S r s fresh m e = not_record S r.name fresh s (record { member = m; named = e })

-- an inode of the change itself
own_inode : (r : Record) (i : Inode) (h : IsInodeOf r i) (S : List Record) → Contains S r → IsInode S i.at i.dir
own_inode r i h S m =
    let k = stands r i h in
    record { owner = r; member = m; name = sym k.of_change; is = kind_is r i k }
  where
    kind_is : (r : Record) (i : Inode) → (k : Stands r i h.number) → IsKindOf i.dir (kind_at r.change.hunks i.at.offset)
    kind_is r i k = subst (IsKindOf i.dir) (sym k.there) k.is

below_all : (r : Record) (i : Inode) → IsInodeOf r i → IsInodeBelow r (length r.change.hunks) i
below_all r i h = (h, slice_get_within r.change.hunks h.number h.hunk h.there)

-- ---- one change more

same_with : (others list : List Record) (r : Record) → HaveSameMembers others list → HaveSameMembers (others ++ r ∷ []) (list ++ r ∷ [])
same_with others list r same = record {
  there = λ w m. over others list (λ x k. same.there x k) w m;
  back = λ w m. over list others (λ x k. same.back x k) w m;
}
  where
    over : (a b : List Record) → ((w : Record) → Contains a w → Contains b w) → (w : Record) → Contains (a ++ r ∷ []) w → Contains (b ++ r ∷ []) w
    over a b f w m = elim (append_cases a (r ∷ []) w m) [ inl k ↦ first_part b (r ∷ []) w (f w k) | inr k ↦ second_part b (r ∷ []) w k ]

module _ (others list : List Record) (r : Record) (lawful : IsLawful list) (follows : Follows list r) (same : HaveSameMembers others list) (old new : Listing) (is : IsTreeOf list old)
    (rows : Gathers (IsRowOf (others ++ r ∷ []) r) old.rows new.rows) (inodes : HasInodesBelow r (length r.change.hunks) old.inodes new.inodes) where
  whole : IsLawful (list ++ r ∷ [])
  whole = lawful_push list r lawful follows

  within : (w : Record) → Contains list w → Contains (list ++ r ∷ []) w
  within w m = first_part list (r ∷ []) w m

  last : Contains (list ++ r ∷ []) r
  last = second_part list (r ∷ []) r (first_member r [])

  members : (w : Record) → Contains (list ++ r ∷ []) w → Contains list w ⊎ (r ≡ w)
  members w m = elim (append_cases list (r ∷ []) w m) [
    | inl k ↦ inl k
    | inr k ↦ elim (uncons r [] w k) [ inl e ↦ inr e | inr n ↦ absurd (no_member w n) ]
  ]

  all_members : HaveSameMembers (others ++ r ∷ []) (list ++ r ∷ [])
  all_members = same_with others list r same

  row_there : (row : NameRow) → Contains new.rows row → IsOfOne (IsRowOf (list ++ r ∷ [])) (list ++ r ∷ []) row
  row_there row m = elim (rows.only row m) [
    | inl k ↦ (
        let h = (is.rows row).0 k in
        record { one = h.one; member = within h.one h.member; is = row_up list (list ++ r ∷ []) lawful whole within h.one h.member row h.is })
    | inr k ↦ record { one = r; member = last; is = row_of_same (others ++ r ∷ []) (list ++ r ∷ []) all_members r row k }
  ]

  row_back : (row : NameRow) → IsOfOne (IsRowOf (list ++ r ∷ [])) (list ++ r ∷ []) row → Contains new.rows row
  row_back row h = elim (members h.one h.member) [
    | inl k ↦ rows.kept row ((is.rows row).1 (record { one = h.one; member = k; is = row_down list (list ++ r ∷ []) lawful whole within h.one k row h.is }))
    | inr e ↦ rows.all row (row_of_same (list ++ r ∷ []) (others ++ r ∷ []) (record { there = all_members.back; back = all_members.there }) r row
        (subst (λ s. IsRowOf (list ++ r ∷ []) s row) (sym e) h.is))
  ]

  inode_there : (i : Inode) → Contains new.inodes i → IsInode (list ++ r ∷ []) i.at i.dir
  inode_there i m = elim (inodes.only i m) [
    | inl k ↦ more_inode list (list ++ r ∷ []) within i.at i.dir ((is.inodes i).0 k)
    | inr k ↦ own_inode r i k.0 (list ++ r ∷ []) last
  ]

  inode_back : (i : Inode) → IsInode (list ++ r ∷ []) i.at i.dir → Contains new.inodes i
  inode_back i h = elim (members h.owner h.member) [
    | inl k ↦ inodes.kept i ((is.inodes i).1 (record { owner = h.owner; member = k; name = h.name; is = h.is })) (λ e. other_name list r h.owner follows.fresh k (h.name ∙ e))
    | inr e ↦ (
        let mine = subst (λ (w : Record). IsKindOf i.dir (kind_at w.change.hunks i.at.offset)) (sym e) h.is in
        let named : i.at.change ≡ r.name = sym h.name ∙ sym (ap (λ (w : Record). w.name) e) in
        inodes.all i (below_all r i (made r i named mine)))
  ]

  pub tree_more : IsTreeOf (list ++ r ∷ []) new
  tree_more = record { rows = λ row. (row_there row, row_back row); inodes = λ i. (inode_there i, inode_back i) }

-- ---- one change less

-- the others of a lawful list have other names
pub gone : (before : List Record) (r : Record) (after : List Record) → IsLawful (before ++ r ∷ after) → is_held (before ++ after) r.name ≡ false
gone before r after lawful = not_held (before ++ after) r.name (λ s h. elim (append_cases before after s h.member) [
  | inl b ↦ not_record before r.name (lawful before r after refl).fresh s (record { member = b; named = h.named })
  | inr a ↦ (
      let k = splits after s a in
      let place : before ++ r ∷ after ≡ (before ++ r ∷ k.before) ++ s ∷ k.after = ap (λ l. before ++ r ∷ l) k.is ∙ sym (append_assoc before (r ∷ k.before) (s ∷ k.after)) in
      not_record (before ++ r ∷ k.before) s.name (lawful (before ++ r ∷ k.before) s k.after place).fresh r (record { member = middle_member before k.before r; named = sym h.named }))
])

module _ (others before : List Record) (r : Record) (after : List Record) (lawful : IsLawful (before ++ r ∷ after)) (left : IsLawful (before ++ after)) (same : HaveSameMembers others (before ++ after))
    (old new : Listing) (is : IsTreeOf (before ++ r ∷ after) old) (rows : Leaves (IsRowOf (others ++ r ∷ []) r) old.rows new.rows)
    (inodes : Leaves (IsAtInodeBelow r (length r.change.hunks)) old.inodes new.inodes) where
  others_within : (w : Record) → Contains (before ++ after) w → Contains (before ++ r ∷ after) w
  others_within w m = elim (append_cases before after w m) [ inl b ↦ before_member before after r w b | inr a ↦ after_member before after r w a ]

  other_or_it : (w : Record) → Contains (before ++ r ∷ after) w → Contains (before ++ after) w ⊎ (r ≡ w)
  other_or_it w m = elim (middle_cases before r after w m) [
    | inl b ↦ inl (first_part before after w b)
    | inr k ↦ elim k [ inl e ↦ inr e | inr a ↦ inl (second_part before after w a) ]
  ]

  whole_members : HaveSameMembers (others ++ r ∷ []) (before ++ r ∷ after)
  whole_members = record {
    there = λ w m. elim (append_cases others (r ∷ []) w m) [
      | inl k ↦ others_within w (same.there w k)
      | inr k ↦ elim (uncons r [] w k) [ inl e ↦ subst (Contains (before ++ r ∷ after)) e (middle_member before after r) | inr n ↦ absurd (no_member w n) ]
    ];
    back = λ w m. elim (other_or_it w m) [
      | inl k ↦ first_part others (r ∷ []) w (same.back w k)
      | inr e ↦ second_part others (r ∷ []) w (subst (Contains (r ∷ [])) e (first_member r []))
    ];
  }

  row_left : (row : NameRow) → Contains new.rows row → IsOfOne (IsRowOf (before ++ after)) (before ++ after) row
  row_left row m =
      let k = (rows row).0 m in
      let h = (is.rows row).0 k.0 in
      elim (other_or_it h.one h.member) [
        | inl l ↦ record { one = h.one; member = l; is = row_down (before ++ after) (before ++ r ∷ after) left lawful others_within h.one l row h.is }
        | inr e ↦ absurd (k.1 (row_of_same (before ++ r ∷ after) (others ++ r ∷ []) (record { there = whole_members.back; back = whole_members.there }) r row
            (subst (λ s. IsRowOf (before ++ r ∷ after) s row) (sym e) h.is)))
      ]

  left_row : (row : NameRow) → IsOfOne (IsRowOf (before ++ after)) (before ++ after) row → Contains new.rows row
  left_row row h = (rows row).1 (
    (is.rows row).1 (record { one = h.one; member = others_within h.one h.member; is = row_up (before ++ after) (before ++ r ∷ after) left lawful others_within h.one h.member row h.is }),
    λ own. other_name (before ++ after) r h.one (gone before r after lawful) h.member (sym (row_change (before ++ after) h.one row h.is) ∙ row_change (others ++ r ∷ []) r row own),
  )

  inode_left : (i : Inode) → Contains new.inodes i → IsInode (before ++ after) i.at i.dir
  inode_left i m =
      let k = (inodes i).0 m in
      let h = (is.inodes i).0 k.0 in
      elim (other_or_it h.owner h.member) [
        | inl l ↦ record { owner = h.owner; member = l; name = h.name; is = h.is }
        | inr e ↦ absurd (
            let mine = subst (λ (w : Record). IsKindOf i.dir (kind_at w.change.hunks i.at.offset)) (sym e) h.is in
            let named : i.at.change ≡ r.name = sym h.name ∙ sym (ap (λ (w : Record). w.name) e) in
            k.1 (i, below_all r i (made r i named mine), refl))
      ]

  left_inode : (i : Inode) → IsInode (before ++ after) i.at i.dir → Contains new.inodes i
  left_inode i h = (inodes i).1 (
    (is.inodes i).1 (more_inode (before ++ after) (before ++ r ∷ after) others_within i.at i.dir h),
    λ own. other_name (before ++ after) r h.owner (gone before r after lawful) h.member (h.name ∙ ap (λ (p : Point). p.change) own.2 ∙ (stands r own.0 own.1.0).of_change),
  )

  pub tree_less : IsTreeOf (before ++ after) new
  tree_less = record { rows = λ row. (row_left row, left_row row); inodes = λ i. (inode_left i, left_inode i) }

-- ---- no change, and the same changes

pub tree_of_none : IsTreeOf [] (record { rows = []; inodes = [] })
tree_of_none = record {
  rows = λ row. (λ m. absurd (no_member row m), λ h. absurd (no_member h.one h.member));
  inodes = λ i. (λ m. absurd (no_member i m), λ h. absurd (no_member h.owner h.member));
}

pub tree_of_members : (S T : List Record) → HaveSameMembers S T → (tree : Listing) → IsTreeOf S tree → IsTreeOf T tree
tree_of_members S T same tree is = record {
  rows = λ row. (
    λ m. (let h = (is.rows row).0 m in record { one = h.one; member = same.there h.one h.member; is = row_of_same S T same h.one row h.is }),
    λ h. (is.rows row).1 (record { one = h.one; member = same.back h.one h.member; is = row_of_same T S (record { there = same.back; back = same.there }) h.one row h.is }),
  );
  inodes = λ i. (
    λ m. more_inode S T same.there i.at i.dir ((is.inodes i).0 m),
    λ h. (is.inodes i).1 (more_inode T S same.back i.at i.dir h),
  );
}
