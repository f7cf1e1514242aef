-- The names of a set, its inodes, and what is known of them.
use Rattle.std.proofs.Common.{◌≡◌, ℕ, ◌+◌, ◌<◌, List, [], ◌∷◌, refl, sym, ◌∙◌, ap, subst, inl, inr, arith, Bool, true, false}
use Rattle.std.specs.Prelude.{Contains, Option, Some, None, IsTrue, sum_by, if◌then◌else◌, ◌≢◌, slice_get}
use Rattle.pj_change.specs.declared.point.Point.{Point}
use Rattle.pj_change.specs.declared.point.Place.{Place}
use Rattle.pj_change.specs.declared.point.Place.TheVariants as placed
use Rattle.pj_change.specs.declared.point.Ref.{Ref}
use Rattle.pj_change.specs.declared.hunk.Hunk.{Hunk}
use Rattle.pj_change.specs.declared.hunk.Hunk.TheVariants.{File, Dir, NameOf, Insert, Order, Delete, Revive}
use Rattle.pj_change.specs.declared.kind.Kind.{Kind}
use Rattle.pj_change.specs.declared.kind.Kind.TheVariants.{NameAt, FileInode, DirInode, Text}
use Rattle.pj_change.specs.declared.graph.Status.TheVariants.{Dead}
use Rattle.pj_change.specs.declared.change.Record.{Record}
use Rattle.pj_change.specs.Children.{Naming, naming_of, IsNaming, IsInode, IsNamed, IsParent}
use Rattle.pj_change.specs.Context.{is_file_inode, is_dir_inode, is_inode, is_file, is_parent, kind_of, holds}
use Rattle.pj_change.specs.FileText.{IsLiveIn}
use Rattle.pj_change.specs.Lawful.{IsLawful, needs_of}
use Rattle.pj_change.specs.Positions.{kind_at, place, own_point}
use Rattle.pj_change.specs.Rules.{position_count}
use Rattle.pj_change.specs.Status.{status_of}
use Rattle.pj_change.specs.Walk.{IsOrphan}
use Rattle.pj_change.proofs.EqualNames.{at_is}
use Rattle.pj_change.proofs.Decided.{Known, known_as, known_both, known_three, known_one, known_not, known_some, known_name, known_place, known_status, HasAt}
use Rattle.pj_change.proofs.Members.{first_member, later_member, no_member, member_at, splits, all_member}
use Rattle.pj_change.proofs.NamedInodes.{child_named}
use Rattle.pj_change.proofs.PositionLemmas.{kind_at_below, kind_at_into, ref_is_numbered}
use Rattle.std.proofs.lemmas.Bool.{and_parts, or_left}
use Rattle.pj_answers.proofs.Finite as finite
use Rattle.pj_answers.proofs.LiveTexts.{live_ones}

-- whether there is one of finitely many
pub known_any : {X : Type 0} (P : X → Type 0) → finite.Finite P → Known ((x : X) × P x)
known_any {X} P f = by f.list (λ x m. f.only x m) (λ x p. f.all x p)
  where
    by : (xs : List X) → ((x : X) → Contains xs x → P x) → ((x : X) → P x → Contains xs x) → Known ((x : X) × P x)
    by [] only all = inr (λ h. no_member h.0 (all h.0 h.1))
    by (x ∷ xs) only all = inl (x, only x (first_member x xs))

-- ---- names

-- the names of a set are finitely many
pub namings : (S : List Record) → finite.Finite (IsNaming S)
namings S =
    finite.alike (λ n. (owner : Record) × Contains S owner × HasAt
    (λ number h. naming_of owner (place owner.change.hunks number) h ≡ Some n) owner.change.hunks) (IsNaming S)
    (λ n (owner, m, h). record { owner = owner; member = m; number = h.number; hunk = h.it; there = h.there; is = h.is })
    (λ n h. (h.owner, h.member, record { number = h.number; it = h.hunk; there = h.there; is = h.is }))
    (finite.some _ S (λ owner m. finite.at (λ number h n. naming_of owner (place owner.change.hunks number) h ≡ Some n) owner.change.hunks
    (λ number h. by (naming_of owner (place owner.change.hunks number) h))))
  where
    by : (o : Option Naming) → finite.Finite (λ n. o ≡ Some n)
    by None = finite.none (λ n. None ≡ Some n) (λ n e. cc)
    by (Some m) = finite.one (λ n. Some m ≡ Some n) m refl (λ n e. cc)

module _ (S : List Record) where
  -- whether a name that is not dead has this child
  pub known_named : (inode : Point) → Known (IsNamed S inode)
  known_named inode =
      let ns = namings S in
      known_as
      (λ h. record { naming = h.0; is = ns.only h.0 h.1; child = h.2.0; live = h.2.1 })
      (λ h. (h.naming, ns.all h.naming h.is, (h.child, h.live)))
      (known_some (λ (n : Naming). (n.child ≡ placed.At inode) × (status_of S n.at ≢ Dead)) ns.list
      (λ n. known_both (known_place n.child (placed.At inode)) (known_not (known_status (status_of S n.at) Dead))))

  -- whether one has this parent
  known_parent : (inode : Point) → Known (IsParent S inode)
  known_parent inode =
      let ns = namings S in
      known_as
      (λ h. record { naming = h.0; is = ns.only h.0 h.1; parent = h.2.0; live = h.2.1 })
      (λ h. (h.naming, ns.all h.naming h.is, (h.parent, h.live)))
      (known_some (λ (n : Naming). (n.parent ≡ placed.At inode) × (status_of S n.at ≢ Dead)) ns.list
      (λ n. known_both (known_place n.parent (placed.At inode)) (known_not (known_status (status_of S n.at) Dead))))

-- ---- inodes

-- the inode of a file or of a directory stands there
abbrev IsSomeInode : Option Kind → Type 0
IsSomeInode k = (dir : Bool) × IsTrue (if dir then is_dir_inode k else is_file_inode k)

-- whether an inode stands there
known_inode_kind : (k : Option Kind) → Known (IsSomeInode k)
known_inode_kind None = inr (λ h. neither h.0 h.1)
  where
    neither : (dir : Bool) → IsTrue (if dir then false else false) → ⊥
    neither true e = cc
    neither false e = cc
known_inode_kind (Some (NameAt hunk)) = inr (λ h. neither h.0 h.1)
  where
    neither : (dir : Bool) → IsTrue (if dir then false else false) → ⊥
    neither true e = cc
    neither false e = cc
known_inode_kind (Some (FileInode hunk)) = inl (false, refl)
known_inode_kind (Some (DirInode hunk)) = inl (true, refl)
known_inode_kind (Some (Text hunk first past)) = inr (λ h. neither h.0 h.1)
  where
    neither : (dir : Bool) → IsTrue (if dir then false else false) → ⊥
    neither true e = cc
    neither false e = cc

-- the point is an inode
abbrev pub HasInode : List Record → Point → Type 0
HasInode S p = (dir : Bool) × IsInode S p dir

-- whether a point is an inode
pub known_inode : (S : List Record) (p : Point) → Known (HasInode S p)
known_inode S p = known_as
    (λ h. (h.2.1.0, record { owner = h.0; member = h.1; name = h.2.0; is = h.2.1.1 }))
    (λ h. (let i = h.1 in (i.owner, i.member, (i.name, (h.0, i.is)))))
    (known_some (λ (owner : Record). (owner.name ≡ p.change) × IsSomeInode (kind_at owner.change.hunks p.offset)) S
    (λ owner. known_both (known_name owner.name p.change) (known_inode_kind (kind_at owner.change.hunks p.offset))))

-- the point is an inode of the change
abbrev IsInodeOf : Record → Point → Type 0
IsInodeOf owner p =
    (offset : ℕ) × (offset < sum_by position_count owner.change.hunks) ×
    (IsSomeInode (kind_at owner.change.hunks offset) × (record { change = owner.name; offset = offset } ≡ p))

-- an inode stands below the number of all positions
inode_low : (hs : List Hunk) (offset : ℕ) (k : Option Kind) → kind_at hs offset ≡ k → IsSomeInode k → offset < sum_by position_count hs
inode_low hs offset None e (true, i) = absurd (cc)
inode_low hs offset None e (false, i) = absurd (cc)
inode_low hs offset (Some kind) e i = kind_at_below hs offset kind e

-- the inodes of a set are finitely many
pub inodes : (S : List Record) → finite.Finite (HasInode S)
inodes S =
    finite.alike (λ p. (owner : Record) × Contains S owner × IsInodeOf owner p) (HasInode S) there back
    (finite.some IsInodeOf S (λ owner m. finite.below _ (sum_by position_count owner.change.hunks)
    (λ offset. by owner offset (known_inode_kind (kind_at owner.change.hunks offset)))))
  where
    by : (owner : Record) (offset : ℕ) → Known (IsSomeInode (kind_at owner.change.hunks offset)) →
        finite.Finite {X = Point} (λ p. IsSomeInode (kind_at owner.change.hunks offset) × (record { change = owner.name; offset = offset } ≡ p))
    by owner offset (inl i) = finite.one _ (record { change = owner.name; offset = offset }) (i, refl) (λ p h. h.1)
    by owner offset (inr n) = finite.none _ (λ p h. n h.0)

    there : (p : Point) → (owner : Record) × Contains S owner × IsInodeOf owner p → HasInode S p
    there p (owner, m, (offset, low, (i, same))) = subst (HasInode S) same (i.0, record { owner = owner; member = m; name = refl; is = i.1 })

    back : (p : Point) → HasInode S p → (owner : Record) × Contains S owner × IsInodeOf owner p
    back p (dir, i) = (
      i.owner,
      i.member,
      (
        p.offset,
        inode_low i.owner.change.hunks p.offset (kind_at i.owner.change.hunks p.offset) refl (dir, i.is),
        ((dir, i.is), (λ j. record { change = i.name j; offset = p.offset })),
      ),
    )

-- whether an inode is an orphan
pub known_orphan : (S : List Record) (p : Point) → Known (IsOrphan S p)
known_orphan S p = known_as
    (λ h. record { dir = h.0.0; is = h.0.1; unnamed = h.1; content = h.2 })
    (λ o. ((o.dir, o.is), o.unnamed, o.content))
    (known_three (known_inode S p) (known_not (known_named S p)) (known_one (known_any (IsLiveIn S p) (live_ones S p)) (known_parent S p)))

-- ---- the child of a name is an inode

-- the child of a name, if there is one
abbrev child_in : Option Naming → Place
child_in None = placed.Root
child_in (Some n) = n.child

module _ (S : List Record) (lawful : IsLawful S) where
  -- an inode that a change makes
  own_inode : (r : Record) → Contains S r → (at : ℕ) (dir : Bool) → IsTrue
      (if dir then is_dir_inode (kind_at r.change.hunks at) else is_file_inode (kind_at r.change.hunks at)) →
      (p : Point) → placed.At (own_point r at) ≡ placed.At p → HasInode S p
  own_inode r m at dir k p e = subst (HasInode S) (at_is (own_point r at) p e) (dir, record { owner = r; member = m; name = refl; is = k })

  -- the child of a further name is an inode
  child_ok : (r : Record) (needs : List Record) (parent child : Ref) (name : List ℕ) (exec : Bool) → holds r needs
      (NameOf parent child name exec) ≡ true → is_inode r needs child ≡ true
  child_ok r needs parent child name true e = or_left (is_file r needs child) (is_dir_inode (kind_of r needs child))
      (and_parts (is_parent r needs parent) (is_file r needs child) e).1
  child_ok r needs parent child name false e = (and_parts (is_parent r needs parent) (is_inode r needs child) e).1

  -- so is the child of each name of a hunk
  of_hunk : (r : Record) → Contains S r → (number : ℕ) (h : Hunk) → slice_get r.change.hunks number ≡ Some h → (n : Naming) → naming_of r
      (place r.change.hunks number) h ≡ Some n → (p : Point) → n.child ≡ placed.At p → HasInode S p
  of_hunk r m number (File parent name exec) there n is p e =
      own_inode r m (place r.change.hunks number + 1) false
      (ap is_file_inode (kind_at_into r.change.hunks number (File parent name exec) 1 there (omega arith))) p (ap child_in is ∙ e)
  of_hunk r m number (Dir parent name) there n is p e =
      own_inode r m (place r.change.hunks number + 1) true
      (ap is_dir_inode (kind_at_into r.change.hunks number (Dir parent name) 1 there (omega arith))) p (ap child_in is ∙ e)
  of_hunk r m number (NameOf parent child name exec) there n is p e =
      let h : Hunk = NameOf parent child name exec in
      let k = member_at r.change.hunks number h there in
      let s = splits S r m in
      let context = all_member (holds r (needs_of s.before r)) r.change.hunks h (lawful s.before r s.after s.is).context k in
      let c = child_named S lawful s.before r s.after s.is child (ref_is_numbered r child h k (later_member parent (child ∷ []) child (first_member child [])))
      (child_ok r (needs_of s.before r) parent child name exec context) in
      subst (HasInode S) (at_is c.0 p (sym c.2 ∙ ap child_in is ∙ e)) (c.1, c.3)
  of_hunk r m number (Insert file ups downs bytes) there n is p e = absurd (cc)
  of_hunk r m number (Order file source target) there n is p e = absurd (cc)
  of_hunk r m number (Delete owner start end by) there n is p e = absurd (cc)
  of_hunk r m number (Revive owner start end by) there n is p e = absurd (cc)

  -- the child of a name is an inode
  pub child_inode : (n : Naming) → IsNaming S n → (p : Point) → n.child ≡ placed.At p → HasInode S p
  child_inode n h p e = of_hunk h.owner h.member h.number h.hunk h.there n h.is p e
