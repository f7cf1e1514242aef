-- A change that may leave a lawful list, where it stands, and the others.
use Rattle.std.proofs.Common.{◌≡◌, ◌∙◌, sym, ap, subst, refl, inl, inr, false, List, ◌∷◌, ◌++◌, Some}
use Rattle.pj_name.specs.declared.name.Name.{Name}
use Rattle.pj_change.specs.declared.change.Record.{Record}
use Rattle.pj_change.specs.Lawful.{is_held, record_of, Follows, IsLawful}
use Rattle.pj_change.specs.Unrecord.{MayLeave, without}
use Rattle.pj_change.proofs.LawfulChanges.{Stands, stands, none_later, unrecorded_lawful}
use Rattle.pj_change.proofs.LawfulLists.{append_cases, found, one_record, not_held, not_record}
use Rattle.pj_change.proofs.Members.{middle_member, moved}
use Rattle.pj_contest.specs.Contests.{IsFree}
use Rattle.pj_tables.proofs.Following.{unneeded}

pub record Leaves (list : List Record) (name : Name) (r : Record) : Type 0 where
  pub before : List Record
  pub after : List Record
  pub is : list ≡ before ++ r ∷ after
  pub named : r.name ≡ name
  pub left : without list name ≡ before ++ after
  pub follows : Follows before r
  pub others : is_held (before ++ after) r.name ≡ false
  pub lawful : IsLawful (before ++ r ∷ after)
  pub still : IsLawful (before ++ after)
  pub free : IsFree (before ++ after) r

pub leaves : (list : List Record) (name : Name) (r : Record) → IsLawful list → MayLeave list name → record_of list name ≡ Some r → Leaves list name r
leaves list name r lawful may there = at (stands list name lawful may.0)
  where
    at : Stands list name → Leaves list name r
    at s =
        let f = found list name may.0 in
        let one : Some r ≡ Some f.it = sym there ∙ f.is in
        let it : r ≡ f.it = cc in
        let same : s.change ≡ r =
        one_record list lawful s.change f.it (moved s.change (sym s.is) (middle_member s.before s.after s.change)) f.record_is.member (s.named ∙ sym f.record_is.named)
        ∙ sym it in
        let is : list ≡ s.before ++ r ∷ s.after = s.is ∙ ap (λ c. s.before ++ c ∷ s.after) same in
        let named : r.name ≡ name = ap (λ (c : Record). c.name) (sym same) ∙ s.named in
        let whole : IsLawful (s.before ++ r ∷ s.after) = subst IsLawful is lawful in
        let first : Follows s.before r = whole s.before r s.after refl in
        let here : MayLeave (s.before ++ r ∷ s.after) r.name = subst (λ l. MayLeave l r.name) is (subst (MayLeave list) (sym named) may) in
        record {
          before = s.before;
          after = s.after;
          is = is;
          named = named;
          left = s.left;
          follows = first;
          others = not_held (s.before ++ s.after) r.name (λ x h. elim (append_cases s.before s.after x h.member) [
            | inl b ↦ not_record s.before r.name first.fresh x (record { member = b; named = h.named })
            | inr a ↦ not_record s.after r.name (none_later s.before r s.after whole) x (record { member = a; named = h.named })
          ]);
          lawful = whole;
          still = subst IsLawful s.left (unrecorded_lawful list name lawful may);
          free = unneeded s.before r s.after here;
        }
