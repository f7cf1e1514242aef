-- Lists of changes of which no two have one name.
use Rattle.std.specs.Prelude.{◌≡◌, ◌≢◌, ◌⊎◌, Bool, true, false, List, [], ◌∷◌, Contains}
use Rattle.std.proofs.Common.{refl, sym, ap, ◌∙◌, inl, inr}
use Rattle.pj_name.specs.Name.{same_name}
use Rattle.pj_change.specs.declared.change.Record.{Record}
use Rattle.pj_change.specs.Lawful.{is_held, IsLawful}
use Rattle.pj_change.specs.Sets.{HaveOneText}
use Rattle.pj_change.proofs.Decided.{Known, known_both, known_test}
use Rattle.pj_change.proofs.DistinctRecords.{lawful_distinct}
use Rattle.pj_change.proofs.EqualNames.{is_same_name, same_name_is}
use Rattle.pj_change.proofs.Listings.{IsRelated, related_pairs}
use Rattle.pj_change.proofs.Members.{uncons, no_member, none_member, none_passes}
use Rattle.pj_apply.specs.Links.{AreDistinct}

-- whether they are is decided
unfoldable pub known_distinct : (S : List Record) → Known (AreDistinct S)
known_distinct [] = inl tt
known_distinct (r ∷ S) = known_both (known_test (is_held S r.name) false) (known_distinct S)

-- ---- records of one name are one

not_behind : (r s : Record) (S : List Record) → is_held S r.name ≡ false → Contains S s → s.name ≡ r.name → ⊥
not_behind r s S none m e =
    let no : same_name s.name r.name ≡ false = none_member (λ (t : Record). same_name t.name r.name) S s none m in
    let yes : same_name s.name r.name ≡ true = is_same_name s.name r.name e in
    cc

pub distinct_one : (S : List Record) → AreDistinct S → (r s : Record) → Contains S r → Contains S s → r.name ≡ s.name → r ≡ s
distinct_one [] d r s m n e = absurd (no_member r m)
distinct_one (x ∷ S) d r s m n e = by (λ k l. distinct_one S d.1 r s k l e) (uncons x S r m) (uncons x S s n)
  where
    by : (Contains S r → Contains S s → r ≡ s) → (x ≡ r) ⊎ Contains S r → (x ≡ s) ⊎ Contains S s → r ≡ s
    by rest (inl a) (inl b) = sym a ∙ b
    by rest (inl a) (inr k) = absurd (not_behind x s S d.0 k (sym e ∙ sym (ap (λ (t : Record). t.name) a)))
    by rest (inr k) (inl b) = absurd (not_behind x r S d.0 k (e ∙ sym (ap (λ (t : Record). t.name) b)))
    by rest (inr k) (inr l) = rest k l

pub distinct_texts : (S : List Record) → AreDistinct S → HaveOneText S
distinct_texts S d r s m n e = ap (λ (t : Record). t.text) (distinct_one S d r s m n e)

-- ---- a lawful list

other_name : (b : Bool) → (b ≡ true → ⊥) → b ≡ false
other_name true h = absurd (h refl)
other_name false h = refl

related_distinct : (S : List Record) → IsRelated (λ r s. r.name ≢ s.name) S → AreDistinct S
related_distinct [] h = tt
related_distinct (r ∷ S) h = (
  none_passes (λ (s : Record). same_name s.name r.name) S (λ s m. other_name (same_name s.name r.name) (λ e. h.0 s m (sym (same_name_is s.name r.name e)))),
  related_distinct S h.1,
)

pub lawful_apart : (S : List Record) → IsLawful S → AreDistinct S
lawful_apart S lawful = related_distinct S (related_pairs (λ r s. r.name ≢ s.name) S (lawful_distinct S lawful))
