-- In a lawful set no change touches an inode.
use Rattle.std.proofs.Common.{◌≡◌, ℕ, zero, suc, ◌+◌, ◌<◌, ◌≤◌, List, [], ◌∷◌, ◌++◌, length, refl, sym, ◌∙◌, ap, subst, arith, Bool, true, false}
use Rattle.std.specs.Prelude.{Contains, Option, Some, None, ◌&&◌, nat_le, nat_lt, nat_eq, slice_get, option_and_then}
use Rattle.std.specs.List.{list_all, slice_index_or, filter_map}
use Rattle.std.proofs.lemmas.Bool.Decides.{nat_tests}
use Rattle.pj_name.specs.declared.name.Name.{Name}
use Rattle.pj_name.specs.Name.{same_name}
use Rattle.pj_change.specs.declared.point.Point.{Point}
use Rattle.pj_change.specs.declared.point.Ref.TheVariants as ref
use Rattle.pj_change.specs.declared.hunk.Hunk.{Hunk}
use Rattle.pj_change.specs.declared.hunk.Hunk.TheVariants.{File, Dir, NameOf, Insert, Order, Delete, Revive}
use Rattle.pj_change.specs.declared.kind.Kind.{Kind}
use Rattle.pj_change.specs.declared.kind.Kind.TheVariants.{NameAt, FileInode, DirInode, Text}
use Rattle.pj_change.specs.declared.change.Record.{Record}
use Rattle.pj_change.specs.Positions.{kind_at, numbered}
use Rattle.pj_change.specs.Covers.{is_within, covers, touches}
use Rattle.pj_change.specs.Context.{is_file_inode, is_dir_inode, kind_of, is_one, is_answered_for, holds}
use Rattle.pj_change.specs.Lawful.{is_held, record_of, needs_of, IsLawful}
use Rattle.pj_change.proofs.Members.{passes, all_member, splits, before_member, moved}
use Rattle.pj_change.proofs.EqualNames.{same_name_is}
use Rattle.pj_change.proofs.NeedNumbers.{IsNeedNumber, delete_owner, revive_owner}
use Rattle.std.proofs.lemmas.Bool.{and_parts}
use Rattle.pj_change.proofs.LawfulLists.{IsRecord, found, one_record}
use Rattle.pj_change.proofs.Blocks.{block_at, block_starts}

-- ---- the record of a need

-- the record of the need with this number, which has its name
pub record NeedAt (list : List Record) (needs : List Name) (k : ℕ) (name : Name) : Type 0 where
  pub it : Record
  pub is : slice_get (filter_map (record_of list) needs) k ≡ Some it
  pub record_is : IsRecord list name it

-- there is one, where all needs are held
pub need_at : (list : List Record) (needs : List Name) (d : Name) (k : ℕ) → list_all (is_held list) needs ≡ true → k < length needs → NeedAt list needs k (slice_index_or needs k d)
need_at list [] d k e l = absurd (omega (arith, l))
need_at list (n ∷ needs) d zero e l =
    let f = found list n (and_parts (is_held list n) (list_all (is_held list) needs) e).0 in
    record { it = f.it; is = rw f.is refl; record_is = f.record_is }
need_at list (n ∷ needs) d (suc k) e l =
    let f = found list n (and_parts (is_held list n) (list_all (is_held list) needs) e).0 in
    let rest = need_at list needs d k (and_parts (is_held list n) (list_all (is_held list) needs) e).1 (omega (arith, l)) in
    record { it = rest.it; is = rw f.is rest.is; record_is = rest.record_is }

-- ---- what stands in a range

-- neither a file nor a directory
pub record NoInode (k : Option Kind) : Type 0 where
  pub no_file : is_file_inode k ≡ false
  pub no_dir : is_dir_inode k ≡ false

-- a range of one name, or of text of one block, has no inode
pub no_inode : (hs : List Hunk) (start end at : ℕ) → is_one (kind_at hs start) start end ≡ true → start ≤ at → at < end → NoInode (kind_at hs at)
no_inode hs start end at e l h = go (kind_at hs start) refl
  where
    in_block : (hunk first past : ℕ) → kind_at hs start ≡ Some (Text hunk first past) → NoInode (kind_at hs at)
    in_block hunk first past k =
        let one : nat_le end past ≡ true = sym (ap (λ k. is_one k start end) k) ∙ e in
        let inside : end ≤ past = grind (arith, nat_tests) in
        let low = block_starts hs start hunk first past k in
        let t : kind_at hs at ≡ Some (Text hunk first past) = block_at hs start hunk first past k at (omega arith) (omega arith) in
        record { no_file = ap is_file_inode t; no_dir = ap is_dir_inode t }

    at_name : (hunk : ℕ) → kind_at hs start ≡ Some (NameAt hunk) → NoInode (kind_at hs at)
    at_name hunk k =
        let one : nat_eq end (start + 1) ≡ true = sym (ap (λ k. is_one k start end) k) ∙ e in
        let single : end ≡ start + 1 = grind (arith, nat_tests) in
        let same : at ≡ start = omega arith in
        let t : kind_at hs at ≡ Some (NameAt hunk) = ap (kind_at hs) same ∙ k in
        record { no_file = ap is_file_inode t; no_dir = ap is_dir_inode t }

    no_one : kind_at hs start ≡ None → NoInode (kind_at hs at)
    no_one k = absurd (let f : false ≡ true = sym (ap (λ k. is_one k start end) k) ∙ e in cc)

    file_one : (hunk : ℕ) → kind_at hs start ≡ Some (FileInode hunk) → NoInode (kind_at hs at)
    file_one hunk k = absurd (let f : false ≡ true = sym (ap (λ k. is_one k start end) k) ∙ e in cc)

    dir_one : (hunk : ℕ) → kind_at hs start ≡ Some (DirInode hunk) → NoInode (kind_at hs at)
    dir_one hunk k = absurd (let f : false ≡ true = sym (ap (λ k. is_one k start end) k) ∙ e in cc)

    go : (k : Option Kind) → kind_at hs start ≡ k → NoInode (kind_at hs at)
    go None k = no_one k
    go (Some (NameAt hunk)) k = at_name hunk k
    go (Some (FileInode hunk)) k = file_one hunk k
    go (Some (DirInode hunk)) k = dir_one hunk k
    go (Some (Text hunk first past)) k = in_block hunk first past k

-- what is within a range is from its start and below its end
pub range_ends : (b : Bool) (start end at : ℕ) → (b && nat_le start at && nat_lt at end) ≡ true → (start ≤ at) × (at < end)
range_ends true start end at e = grind (arith, nat_tests)
range_ends false start end at e = absurd (cc)

-- ---- what a change touches

module _ (list : List Record) (lawful : IsLawful list) (p : Point) (o : Record) (member : Contains list o) (name : o.name ≡ p.change) where
  -- a range that a member deletes or revives has no inode
  pub within_range : (d : Record) (before after : List Record) → list ≡ before ++ d ∷ after →
      (owner start end : ℕ) (by : List ℕ) → IsNeedNumber (length d.change.needs) owner → is_answered_for d (needs_of before d) owner start end by ≡ true →
      is_within (numbered d owner) start end p ≡ true → NoInode (kind_at o.change.hunks p.offset)
  within_range d before after is zero start end by number holds_it within = absurd (let l = number.from in omega (arith, l))
  within_range d before after is (suc k) start end by number holds_it within =
      let f = lawful before d after is in
      let need = need_at before d.change.needs d.name k f.needs (let l = number.upto in omega (arith, l)) in
      let owner_is : slice_index_or d.change.needs k d.name ≡ p.change = same_name_is (numbered d (suc k)) p.change (and_parts _ _ (and_parts _ _ within).0).0 in
      let same : need.it ≡ o = one_record list lawful need.it o (moved need.it (sym is) (before_member before after d need.it need.record_is.member)) member (need.record_is.named ∙ owner_is ∙ sym name) in
      let one : is_one (kind_of d (needs_of before d) (ref.At (suc k) start)) start end ≡ true = (and_parts _ _ holds_it).0 in
      let kinds : kind_of d (needs_of before d) (ref.At (suc k) start) ≡ kind_at o.change.hunks start =
      ap (option_and_then (λ (r : Record). kind_at r.change.hunks start)) need.is ∙ ap (λ (r : Record). kind_at r.change.hunks start) same in
      let ends = range_ends (same_name (numbered d (suc k)) p.change) start end p.offset within in
      no_inode o.change.hunks start end p.offset (subst (λ k. is_one k start end ≡ true) kinds one) ends.0 ends.1

  -- what a hunk of a member deletes or revives is no inode
  pub hunk_within : (d : Record) (before after : List Record) → list ≡ before ++ d ∷ after → (h : Hunk) → Contains d.change.hunks h → covers d h p ≡ true → NoInode (kind_at o.change.hunks p.offset)
  hunk_within d before after is (Delete owner start end by) m c =
      within_range d before after is owner start end by (delete_owner d owner start end by m)
      (all_member (holds d (needs_of before d)) d.change.hunks (Delete owner start end by) (lawful before d after is).context m) c
  hunk_within d before after is (Revive owner start end by) m c =
      within_range d before after is owner start end by (revive_owner d owner start end by m)
      (all_member (holds d (needs_of before d)) d.change.hunks (Revive owner start end by) (lawful before d after is).context m) c
  hunk_within d before after is (File parent n exec) m c = absurd (cc)
  hunk_within d before after is (Dir parent n) m c = absurd (cc)
  hunk_within d before after is (NameOf parent child n exec) m c = absurd (cc)
  hunk_within d before after is (Insert file ups downs bytes) m c = absurd (cc)
  hunk_within d before after is (Order file source target) m c = absurd (cc)

  -- what a change touches is neither a file nor a directory
  pub touched : (d : Record) → Contains list d → touches d p ≡ true → NoInode (kind_at o.change.hunks p.offset)
  touched d m t =
      let s = splits list d m in
      let h = passes (λ h. covers d h p) d.change.hunks t in
      hunk_within d s.before s.after s.is h.it h.member h.is
