-- The inodes of a change are those that its hunks make.
use Rattle.std.proofs.Common.{◌≡◌, ◌∙◌, sym, ap, subst, refl, ℕ, zero, suc, ◌+◌, ◌-◌, ◌<◌, ◌≤◌, Bool, true, false, List, [], ◌∷◌, take, nat_lt, arith}
use Rattle.std.specs.Prelude.{Option, Some, None, slice_get, IsTrue, if◌then◌else◌}
use Rattle.std.proofs.lemmas.Bool.Decides.{nat_tests}
use Rattle.std.proofs.lemmas.List.Sums.{sum_by-cons}
use Rattle.std.proofs.lemmas.Option.{same_Some, none-some}
use Rattle.pj_change.specs.declared.point.Point.{Point}
use Rattle.pj_change.specs.declared.hunk.Hunk.{Hunk}
use Rattle.pj_change.specs.declared.hunk.Hunk.TheVariants.{File, Dir, NameOf, Insert, Order, Delete, Revive}
use Rattle.pj_change.specs.declared.kind.Kind.{Kind}
use Rattle.pj_change.specs.declared.kind.Kind.TheVariants.{NameAt, FileInode, DirInode}
use Rattle.pj_change.specs.declared.change.Record.{Record}
use Rattle.pj_change.specs.Rules.{position_count}
use Rattle.pj_change.specs.Positions.{kind_in, kind_from, kind_at, place, own_point}
use Rattle.pj_change.specs.Context.{is_file_inode, is_dir_inode}
use Rattle.pj_change.specs.Makers.{maker}
use Rattle.pj_change.proofs.PositionLemmas.{kind_at_into}
use Rattle.pj_change.proofs.KindLemmas.{kind_cons_here, kind_cons_on}
use Rattle.pj_tree.specs.declared.row.Inode.{Inode}
use Rattle.pj_names.specs.Given.{inode_in, IsInodeOf}

-- a file or a directory
abbrev pub IsKindOf : Bool → Option Kind → Type 0
IsKindOf dir kind = IsTrue (if dir then is_dir_inode kind else is_file_inode kind)

-- what stands at the point of an inode that a hunk makes
pub record Stands (r : Record) (i : Inode) (number : ℕ) : Type 0 where
  pub kind : Kind
  pub there : kind_at r.change.hunks i.at.offset ≡ Some kind
  pub is : IsKindOf i.dir (Some kind)
  pub by_hunk : maker kind ≡ number
  pub of_change : i.at.change ≡ r.name

stands_in : (r : Record) (i : Inode) (number : ℕ) (h : Hunk) → slice_get r.change.hunks number ≡ Some h → inode_in r (place r.change.hunks number) h ≡ Some i → Stands r i number
stands_in r i number (File parent name exec) there e =
    let same = same_Some (record { at = own_point r (place r.change.hunks number + 1); dir = false }) i e in
    subst (λ (j : Inode). Stands r j number) same (record { kind = FileInode number; there = kind_at_into r.change.hunks number (File parent name exec) 1 there (omega arith); is = refl; by_hunk = refl; of_change = refl })
stands_in r i number (Dir parent name) there e =
    let same = same_Some (record { at = own_point r (place r.change.hunks number + 1); dir = true }) i e in
    subst (λ (j : Inode). Stands r j number) same (record { kind = DirInode number; there = kind_at_into r.change.hunks number (Dir parent name) 1 there (omega arith); is = refl; by_hunk = refl; of_change = refl })
stands_in r i number (NameOf parent child name exec) there e = absurd (none-some i e)
stands_in r i number (Insert file ups downs bytes) there e = absurd (none-some i e)
stands_in r i number (Order file source target) there e = absurd (none-some i e)
stands_in r i number (Delete owner start end by) there e = absurd (none-some i e)
stands_in r i number (Revive owner start end by) there e = absurd (none-some i e)

pub stands : (r : Record) (i : Inode) (h : IsInodeOf r i) → Stands r i h.number
stands r i h = stands_in r i h.number h.hunk h.there h.is

-- two inodes at one point are of one hunk
pub one_hunk : (r : Record) (i j : Inode) (h : IsInodeOf r i) (k : IsInodeOf r j) → i.at ≡ j.at → h.number ≡ k.number
one_hunk r i j h k e =
    let a = stands r i h in
    let b = stands r j k in
    let there : kind_at r.change.hunks i.at.offset ≡ Some b.kind = ap (λ (p : Point). kind_at r.change.hunks p.offset) e ∙ b.there in
    sym a.by_hunk ∙ ap maker (same_Some a.kind b.kind (sym a.there ∙ there)) ∙ b.by_hunk

-- ---- what makes an inode

-- a hunk of the list, of which the first has the first position first, makes an inode at the distance
record Makes (r : Record) (first : ℕ) (hs : List Hunk) (at : ℕ) (dir : Bool) : Type 0 where
  number : ℕ
  hunk : Hunk
  there : slice_get hs number ≡ Some hunk
  is : inode_in r (first + place hs number) hunk ≡ Some (record { at = own_point r (first + at); dir = dir })

not_kind : (k : Kind) (dir : Bool) → maker k ≡ maker k → IsKindOf dir (Some k) → is_file_inode (Some k) ≡ false → is_dir_inode (Some k) ≡ false → ⊥
not_kind k true e is f d = absurd (let clash : true ≡ false = sym is ∙ d in cc)
not_kind k false e is f d = absurd (let clash : true ≡ false = sym is ∙ f in cc)

makes_first : (r : Record) (k first at : ℕ) (dir : Bool) (h : Hunk) (hs : List Hunk) → at < position_count h → IsKindOf dir (Some (kind_in k first h at)) → Makes r first (h ∷ hs) at dir
makes_first r k first zero dir (File parent name exec) hs low is = absurd (not_kind (NameAt k) dir refl is refl refl)
makes_first r k first (suc at) true (File parent name exec) hs low is = absurd (let clash : false ≡ true = is in cc)
makes_first r k first (suc at) false (File parent name exec) hs low is =
    let e : first + place (File parent name exec ∷ hs) 0 + 1 ≡ first + suc at = omega (arith, low) in
    record { number = 0; hunk = File parent name exec; there = refl; is = ap (λ o. Some (record { at = own_point r o; dir = false })) e }
makes_first r k first zero dir (Dir parent name) hs low is = absurd (not_kind (NameAt k) dir refl is refl refl)
makes_first r k first (suc at) false (Dir parent name) hs low is = absurd (let clash : false ≡ true = is in cc)
makes_first r k first (suc at) true (Dir parent name) hs low is =
    let e : first + place (Dir parent name ∷ hs) 0 + 1 ≡ first + suc at = omega (arith, low) in
    record { number = 0; hunk = Dir parent name; there = refl; is = ap (λ o. Some (record { at = own_point r o; dir = true })) e }
makes_first r k first at dir (NameOf parent child name exec) hs low is = absurd (not_kind (NameAt k) dir refl is refl refl)
makes_first r k first at dir (Insert file ups downs bytes) hs low is = absurd (not_kind (kind_in k first (Insert file ups downs bytes) at) dir refl is refl refl)
makes_first r k first at dir (Order file source target) hs low is = absurd (omega (arith, low))
makes_first r k first at dir (Delete owner start end by) hs low is = absurd (omega (arith, low))
makes_first r k first at dir (Revive owner start end by) hs low is = absurd (omega (arith, low))

no_kind : (k first at : ℕ) → kind_from k first [] at ≡ None
unfolding kind_from
no_kind k first at = refl

nothing : (dir : Bool) → IsKindOf dir None → ⊥
nothing true is = absurd (let clash : false ≡ true = is in cc)
nothing false is = absurd (let clash : false ≡ true = is in cc)

makes_from : (r : Record) (k first : ℕ) (hs : List Hunk) (at : ℕ) (dir : Bool) → IsKindOf dir (kind_from k first hs at) → Makes r first hs at dir
makes_from r k first [] at dir is = absurd (nothing dir (subst (IsKindOf dir) (no_kind k first at) is))
makes_from r k first (h ∷ hs) at dir is = go (makes_from r (k + 1) (first + position_count h) hs (at - position_count h) dir) (nat_lt at (position_count h)) refl
  where
    go : (IsKindOf dir (kind_from (k + 1) (first + position_count h) hs (at - position_count h)) → Makes r (first + position_count h) hs (at - position_count h) dir) →
        (b : Bool) → nat_lt at (position_count h) ≡ b → Makes r first (h ∷ hs) at dir
    go rest true l = makes_first r k first at dir h hs (grind (arith, nat_tests)) (subst (IsKindOf dir) (kind_cons_here k first at h hs l) is)
    go rest false l =
        let m = rest (subst (IsKindOf dir) (kind_cons_on k first at h hs l) is) in
        let behind : position_count h ≤ at = grind (arith, nat_tests) in
        let begin : first + place (h ∷ hs) (suc m.number) ≡ first + position_count h + place hs m.number = omega (arith, sum_by-cons position_count h (take m.number hs)) in
        let position : first + position_count h + (at - position_count h) ≡ first + at = omega (arith, behind) in
        record {
          number = suc m.number;
          hunk = m.hunk;
          there = m.there;
          is = ap (λ f. inode_in r f m.hunk) begin ∙ m.is ∙ ap (λ o. Some (record { at = own_point r o; dir = dir })) position;
        }

-- what stands as an inode in a change, a hunk of it makes
pub made : (r : Record) (i : Inode) → i.at.change ≡ r.name → IsKindOf i.dir (kind_at r.change.hunks i.at.offset) → IsInodeOf r i
made r i named is =
    let m = makes_from r 0 0 r.change.hunks i.at.offset i.dir is in
    let begin : 0 + place r.change.hunks m.number ≡ place r.change.hunks m.number = omega arith in
    let position : 0 + i.at.offset ≡ i.at.offset = omega arith in
    record {
      number = m.number;
      hunk = m.hunk;
      there = m.there;
      is = ap (λ f. inode_in r f m.hunk) (sym begin) ∙ m.is ∙ ap (λ o. Some (record { at = own_point r o; dir = i.dir })) position
          ∙ (λ j. Some (record { at = record { change = sym named j; offset = i.at.offset }; dir = i.dir }));
    }
