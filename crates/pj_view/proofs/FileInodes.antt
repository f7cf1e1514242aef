-- The inode of a file at a point of a lawful list, by the change of that name.
use Rattle.std.proofs.Common.{◌≡◌, ◌∙◌, sym, subst, List, Some, None, false}
use Rattle.std.specs.Prelude.{◌↔◌, IsTrue}
use Rattle.pj_change.specs.declared.point.Point.{Point}
use Rattle.pj_change.specs.declared.change.Record.{Record}
use Rattle.pj_change.specs.Children.{IsInode}
use Rattle.pj_change.specs.Context.{is_file_inode}
use Rattle.pj_change.specs.Lawful.{IsLawful, record_of}
use Rattle.pj_change.specs.Positions.{kind_at}
use Rattle.pj_change.proofs.LawfulLists.{not_record, one_record}
use Rattle.pj_apply.proofs.Distinct.{record_is, record_none}

module _ (S : List Record) (p : Point) where
  -- where no change has the name, there is none
  pub none_held : record_of S p.change ≡ None → IsInode S p false → ⊥
  none_held none i = not_record S p.change (record_none S p.change none) i.owner (record { member = i.member; named = i.name })

  -- else the change tells
  pub file_told : IsLawful S → (o : Record) → record_of S p.change ≡ Some o → IsTrue (is_file_inode (kind_at o.change.hunks p.offset)) ↔ IsInode S p false
  file_told lawful o found =
      let held = record_is S p.change o found in (
        λ is. record { owner = o; member = held.member; name = held.named; is = is },
        λ i. subst (λ (r : Record). IsTrue (is_file_inode (kind_at r.change.hunks p.offset))) (one_record S lawful i.owner o i.member held.member (i.name ∙ sym held.named)) i.is,
      )
