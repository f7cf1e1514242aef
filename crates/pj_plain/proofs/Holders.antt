-- The names of the changes that need one, as the members of a list.
use Rattle.std.proofs.Common.{◌≡◌, List, refl, sym, ◌∙◌, ap, subst, Bool, true, map, filter}
use Rattle.std.specs.Prelude.{Contains, ◌↔◌}
use Rattle.std.specs.List.{list_any}
use Rattle.std.specs.Arc.{arc_value}
use Rattle.std.specs.declared.alloc.Global.{Global}
use Rattle.std.specs.declared.sync.Arc.{Arc}
use Rattle.pj_name.specs.declared.name.Name.{Name}
use Rattle.pj_name.specs.Name.{same_name}
use Rattle.pj_change.specs.declared.change.Record.{Record}
use Rattle.pj_change.proofs.Members.{any_member, passes, same_member}
use Rattle.pj_change.proofs.EqualNames.{same_name_is, is_same_name}
use Rattle.pj_change.specs.Shared.{records}
use Rattle.pj_change.specs.Unrecord.{IsHolder}
use Rattle.pj_change.proofs.PickedMembers.{passed, kept, IsImage, image, mapped}

-- the change needs the one of this name
abbrev pub needs_it : Name → Arc Record Global → Bool
needs_it name a = list_any (λ m. same_name m name) (arc_value a).change.needs

abbrev pub name_of_shared : Arc Record Global → Name
name_of_shared a = (arc_value a).name

abbrev pub holders : List (Arc Record Global) → Name → List Name
holders list name = map name_of_shared (filter (needs_it name) list)

needed : (a : Arc Record Global) (name : Name) → needs_it name a ≡ true → Contains (arc_value a).change.needs name
needed a name e =
    let p = passes (λ m. same_name m name) (arc_value a).change.needs e in
    same_member (arc_value a).change.needs (same_name_is p.it name p.is) p.member

module _ (list : List (Arc Record Global)) (name holder : Name) where
  there : IsImage name_of_shared (filter (needs_it name) list) holder → IsHolder (records list) name holder
  there h =
      let p = passed (needs_it name) list h.it h.member in
      record { needing = arc_value h.it; member = mapped arc_value list h.it p.member; needs = needed h.it name p.passes; named = h.is }

  back : (h : IsHolder (records list) name holder) → IsImage arc_value list h.needing → Contains (holders list name) holder
  back h a =
      let r : Contains (arc_value a.it).change.needs name = subst (λ (r : Record). Contains r.change.needs name) (sym a.is) h.needs in
      let e : needs_it name a.it ≡ true = any_member (λ m. same_name m name) (arc_value a.it).change.needs name r (is_same_name name name refl) in
      same_member (holders list name) (ap (λ (r : Record). r.name) a.is ∙ h.named)
      (mapped name_of_shared (filter (needs_it name) list) a.it (kept (needs_it name) list a.it a.member e))

  pub are_holders : Contains (holders list name) holder ↔ IsHolder (records list) name holder
  are_holders = (λ m. there (image name_of_shared (filter (needs_it name) list) holder m), λ h. back h (image arc_value list h.needing h.member))
