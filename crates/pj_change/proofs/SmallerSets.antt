-- What an unrecord and an uproot take out.
use Rattle.std.proofs.Common.{◌≡◌, List, [], ◌∷◌, refl, sym, ap, subst, inl, inr, Bool, true, false, not, filter}
use Rattle.std.specs.Prelude.{Contains, ◌↔◌}
use Rattle.pj_name.specs.declared.name.Name.{Name}
use Rattle.pj_name.specs.Name.{same_name}
use Rattle.pj_change.specs.declared.change.Record.{Record}
use Rattle.pj_change.specs.ChannelLaws.{HaveOneGraph, HaveOnePrint}
use Rattle.pj_change.specs.Sets.{HaveSameMembers, HaveOneText}
use Rattle.pj_change.specs.Uproot.{Reaches, itself, by_need, IsWithout, IsUprooted}
use Rattle.pj_change.proofs.AgreeingPrints.{one_print}
use Rattle.pj_change.proofs.EqualRecords.{one_text_within}
use Rattle.pj_change.proofs.EqualNames.{same_name_is, is_same_name}
use Rattle.pj_change.proofs.Members.{first_member, later_member}
use Rattle.pj_change.proofs.OneGraph.{one_graph}
use Rattle.pj_change.specs.Unrecord.{MayLeave, without}
use Rattle.pj_change.proofs.PickedMembers.{passed, kept}

abbrev other : Name → Record → Bool
other name r = not (same_name r.name name)

other_differs : (name : Name) (r : Record) → other name r ≡ true → r.name ≡ name → ⊥
other_differs name r e h = (let k : same_name r.name name ≡ true = is_same_name r.name name h in let f : other name r ≡ false = ap not k in cc)

is_other : (name : Name) (r : Record) → (r.name ≡ name → ⊥) → other name r ≡ true
is_other name r f = go (same_name r.name name) refl
  where
    go : (b : Bool) → same_name r.name name ≡ b → other name r ≡ true
    go true h = absurd (f (same_name_is r.name name h))
    go false h = ap not h

is_named : (name : Name) (r : Record) → other name r ≡ false → r.name ≡ name
is_named name r e = go (same_name r.name name) refl
  where
    go : (b : Bool) → same_name r.name name ≡ b → r.name ≡ name
    go true h = same_name_is r.name name h
    go false h = absurd (let k : other name r ≡ true = ap not h in cc)

-- a list without a change has the members of a list that has the others
pub others_are : (list S : List Record) (name : Name) → ((r : Record) → Contains S r ↔ (Contains list r × (r.name ≡ name → ⊥))) →
    HaveSameMembers (without list name) S
others_are list S name members = record { there = there; back = back }
  where
    there : (r : Record) → Contains (without list name) r → Contains S r
    there r m = (let p = passed (other name) list r m in (members r).1 (p.member, other_differs name r p.passes))

    back : (r : Record) → Contains S r → Contains (without list name) r
    back r m = (let p = (members r).0 m in kept (other name) list r p.0 (is_other name r p.1))

pub smaller_graph : (list S : List Record) (name : Name) → ((r : Record) → Contains S r ↔ (Contains list r × (r.name ≡ name → ⊥))) →
    HaveOneGraph (without list name) S
smaller_graph list S name members g h a b = one_graph (without list name) S g h (others_are list S name members) a b

pub smaller_print : (list S : List Record) (name : Name) → HaveOneText list → ((r : Record) → Contains S r ↔ (Contains list r × (r.name ≡ name → ⊥))) →
    HaveOnePrint (without list name) S
smaller_print list S name unique members =
    one_print (without list name) S (one_text_within list (without list name) unique (λ r m. (passed (other name) list r m).member)) (others_are list S name members)

-- ---- uproot

-- a filter takes out what does not pass, where that is what Q holds of
filter_without : (Q : Record → Type 0) (p : Record → Bool) (list : List Record) →
    ((r : Record) → Contains list r → p r ≡ false → Q r) → ((r : Record) → Contains list r → p r ≡ true → Q r → ⊥) → IsWithout Q list (filter p list)
filter_without Q p [] out stays = refl
filter_without Q p (r ∷ list) out stays =
    go (filter_without Q p list (λ s m. out s (later_member r list s m)) (λ s m. stays s (later_member r list s m))) (p r) refl
  where
    go : IsWithout Q list (filter p list) → (b : Bool) → p r ≡ b → IsWithout Q (r ∷ list) (filter p (r ∷ list))
    go rest true h = inr (stays r (first_member r list) h, filter p list, (let e : filter p (r ∷ list) ≡ r ∷ filter p list = rw h refl in e), rest)
    go rest false h = inl (out r (first_member r list) h, subst (IsWithout Q list) (let e : filter p (r ∷ list) ≡ filter p list = rw h refl in sym e) rest)

module _ (list : List Record) (name : Name) (may : MayLeave list name) where
  -- what reaches it is the change itself
  reaches_itself : (r : Record) → Contains list r → Reaches list name r → r.name ≡ name
  reaches_itself r k (itself e) = e
  reaches_itself r k (by_need {s = s} m n q) =
      let e = reaches_itself s m q in
      absurd (may.1 r.name (record { needing = r; member = k; needs = subst (Contains r.change.needs) e n; named = refl }))

  pub uproots_one : IsUprooted list name (without list name)
  uproots_one =
      filter_without (Reaches list name) (other name) list (λ r m e. itself (is_named name r e)) (λ r m e q. other_differs name r e (reaches_itself r m q))
