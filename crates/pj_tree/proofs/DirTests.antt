-- The test tells which inodes of a lawful set are directories.
use Rattle.std.proofs.Common.{◌≡◌, Bool, true, false, List, refl}
use Rattle.std.specs.Prelude.{◌&&◌}
use Rattle.std.proofs.lemmas.Bool.{and_parts}
use Rattle.pj_name.specs.Name.{same_name}
use Rattle.pj_change.specs.declared.point.Point.{Point}
use Rattle.pj_change.specs.declared.change.Record.{Record}
use Rattle.pj_change.specs.Positions.{kind_at}
use Rattle.pj_change.specs.Context.{is_dir_inode}
use Rattle.pj_change.specs.Children.{IsInode}
use Rattle.pj_change.specs.Lawful.{IsLawful}
use Rattle.pj_change.proofs.EqualNames.{same_name_is, is_same_name}
use Rattle.pj_change.proofs.Members.{any_member, passes}
use Rattle.pj_change.proofs.NamedInodes.{no_file_and_dir}
use Rattle.pj_tree.specs.TreeOf.{is_dir}

pub dir_found : (S : List Record) (p : Point) → is_dir S p ≡ true → IsInode S p true
dir_found S p e =
    let found = passes (λ (r : Record). same_name r.name p.change && is_dir_inode (kind_at r.change.hunks p.offset)) S e in
    let both = and_parts (same_name found.it.name p.change) (is_dir_inode (kind_at found.it.change.hunks p.offset)) found.is in
    record { owner = found.it; member = found.member; name = same_name_is found.it.name p.change both.0; is = both.1 }

pub dir_there : (S : List Record) (p : Point) → IsInode S p true → is_dir S p ≡ true
dir_there S p h =
    any_member (λ (r : Record). same_name r.name p.change && is_dir_inode (kind_at r.change.hunks p.offset)) S h.owner h.member
    (both (same_name h.owner.name p.change) (is_dir_inode (kind_at h.owner.change.hunks p.offset)) (is_same_name h.owner.name p.change h.name) h.is)
  where
    both : (a b : Bool) → a ≡ true → b ≡ true → (a && b) ≡ true
    both a b f g = rw f g

-- what an inode is
pub dir_told : (S : List Record) → IsLawful S → (p : Point) (dir : Bool) → IsInode S p dir → is_dir S p ≡ dir
dir_told S lawful p true h = dir_there S p h
dir_told S lawful p false h = go (is_dir S p) refl
  where
    go : (b : Bool) → is_dir S p ≡ b → is_dir S p ≡ false
    go true e = absurd (no_file_and_dir S lawful p h (dir_found S p e))
    go false e = e
