-- The inodes of a lawful set, and that a name's child is one.
use Rattle.std.proofs.Common.{◌≡◌, ℕ, zero, suc, Bool, true, false, List, ◌∷◌, ◌++◌, length, refl, sym, ◌∙◌, ap, subst, arith}
use Rattle.std.specs.Prelude.{Contains, ◌||◌, IsTrue, Option, Some, None, option_and_then, if◌then◌else◌}
use Rattle.pj_change.specs.declared.point.Point.{Point}
use Rattle.pj_change.specs.declared.point.Place.{Place}
use Rattle.pj_change.specs.declared.point.Place.TheVariants as placed
use Rattle.pj_change.specs.declared.point.Ref.{Ref}
use Rattle.pj_change.specs.declared.point.Ref.TheVariants as ref
use Rattle.pj_change.specs.declared.kind.Kind.{Kind}
use Rattle.pj_change.specs.declared.kind.Kind.TheVariants.{NameAt, FileInode, DirInode, Text}
use Rattle.pj_change.specs.declared.change.Record.{Record}
use Rattle.pj_change.specs.Positions.{kind_at, own_point, resolve, numbered, IsNumbered}
use Rattle.pj_change.specs.Context.{is_file_inode, is_dir_inode, is_inode, kind_of}
use Rattle.pj_change.specs.Children.{IsInode}
use Rattle.pj_change.specs.Lawful.{IsLawful, needs_of}
use Rattle.pj_change.proofs.Inodes.{need_at}
use Rattle.pj_change.proofs.LawfulLists.{one_record}
use Rattle.pj_change.proofs.Members.{moved, before_member, middle_member}

-- ---- a file and a directory

pub not_both : (k : Option Kind) → is_file_inode k ≡ true → is_dir_inode k ≡ true → ⊥
not_both None a b = absurd (cc)
not_both (Some (NameAt hunk)) a b = absurd (cc)
not_both (Some (FileInode hunk)) a b = absurd (cc)
not_both (Some (DirInode hunk)) a b = absurd (cc)
not_both (Some (Text hunk first past)) a b = absurd (cc)

-- no point is both
pub no_file_and_dir : (S : List Record) → IsLawful S → (p : Point) → IsInode S p false → IsInode S p true → ⊥
no_file_and_dir S lawful p a b =
    let same : a.owner ≡ b.owner = one_record S lawful a.owner b.owner a.member b.member (a.name ∙ sym b.name) in
    not_both (kind_at b.owner.change.hunks p.offset) (subst (λ (o : Record). is_file_inode (kind_at o.change.hunks p.offset) ≡ true) same a.is) b.is

-- ---- what references name

-- a point of S, at which this stands
pub record Names (S : List Record) (at : Place) (kind : Option Kind) : Type 0 where
  pub point : Point
  pub is : at ≡ placed.At point
  pub owner : Record
  pub member : Contains S owner
  pub name : owner.name ≡ point.change
  pub kind_is : kind ≡ kind_at owner.change.hunks point.offset

module _ (S : List Record) (lawful : IsLawful S) (before : List Record) (d : Record) (after : List Record) (whole : S ≡ before ++ d ∷ after) where
  pub names : (owner offset : ℕ) → IsNumbered (length d.change.needs) (ref.At owner offset) → Names S (resolve d (ref.At owner offset)) (kind_of d (needs_of before d) (ref.At owner offset))
  names zero offset low = record {
    point = own_point d offset;
    is = refl;
    owner = d;
    member = moved d (sym whole) (middle_member before after d);
    name = refl;
    kind_is = refl;
  }
  names (suc k) offset low =
      let need = need_at before d.change.needs d.name k (lawful before d after whole).needs (omega (arith, low)) in
      record {
        point = record { change = numbered d (suc k); offset = offset };
        is = refl;
        owner = need.it;
        member = moved need.it (sym whole) (before_member before after d need.it need.record_is.member);
        name = need.record_is.named;
        kind_is = ap (option_and_then (λ (r : Record). kind_at r.change.hunks offset)) need.is;
      }

  inode_named : (at : Place) (kind : Option Kind) → Names S at kind → (dir : Bool) → IsTrue (if dir then is_dir_inode kind else is_file_inode kind) → (p : Point) × (at ≡ placed.At p) × IsInode S p dir
  inode_named at kind n true e = (n.point, n.is, record { owner = n.owner; member = n.member; name = n.name; is = ap is_dir_inode (sym n.kind_is) ∙ e })
  inode_named at kind n false e = (n.point, n.is, record { owner = n.owner; member = n.member; name = n.name; is = ap is_file_inode (sym n.kind_is) ∙ e })

  -- a child of a name is an inode
  pub child_named : (at : Ref) → IsNumbered (length d.change.needs) at → is_inode d (needs_of before d) at ≡ true → (p : Point) × (dir : Bool) × (resolve d at ≡ placed.At p) × IsInode S p dir
  child_named ref.Root low e = absurd (cc)
  child_named (ref.At owner offset) low e = go (is_file_inode kind) refl
    where
      kind : Option Kind
      kind = kind_of d (needs_of before d) (ref.At owner offset)

      go : (b : Bool) → is_file_inode kind ≡ b → (p : Point) × (dir : Bool) × (resolve d (ref.At owner offset) ≡ placed.At p) × IsInode S p dir
      go true f = (let i = inode_named (resolve d (ref.At owner offset)) kind (names owner offset low) false f in (i.0, false, i.1, i.2))
      go false f =
          let dirs : is_dir_inode kind ≡ true = right (is_file_inode kind) (is_dir_inode kind) f e in
          let i = inode_named (resolve d (ref.At owner offset)) kind (names owner offset low) true dirs in
          (i.0, true, i.1, i.2)
        where
          right : (a b : Bool) → a ≡ false → (a || b) ≡ true → b ≡ true
          right true b f e = absurd (cc)
          right false b f e = e
