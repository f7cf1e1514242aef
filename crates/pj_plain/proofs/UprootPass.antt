-- One pass through a lawful list, which takes out what reaches a change: what it needs stands before it.
use Rattle.std.proofs.Common.{◌≡◌, List, [], ◌∷◌, ◌++◌, refl, sym, ap, subst, inl, inr, true, false}
use Rattle.std.specs.Prelude.{Contains, ◌⊎◌}
use Rattle.std.specs.List.{list_any}
use Rattle.std.proofs.lemmas.Bool.{or_cases, or_parts}
use Rattle.pj_name.specs.declared.name.Name.{Name}
use Rattle.pj_name.specs.Name.{same_name}
use Rattle.pj_change.specs.declared.change.Record.{Record}
use Rattle.pj_change.specs.Lawful.{is_held, Follows, IsLawful}
use Rattle.pj_change.specs.Uproot.{Reaches, itself, by_need, IsWithout}
use Rattle.pj_change.proofs.Members.{uncons, first_member, no_member, same_member, moved, any_member, Passes, passes, all_member, before_member}
use Rattle.pj_change.proofs.LawfulLists.{held, one_record, append_cases, first_part, second_part}
use Rattle.pj_change.proofs.EqualNames.{same_name_is, is_same_name}
use Rattle.pj_change.proofs.Without.{without_out, without_in}
use Rattle.pj_plain.specs.UprootPass.{goes, needs_any}

-- ---- the pass

-- a change of this name that reaches it, among those passed
pub record IsGone (list : List Record) (name : Name) (before : List Record) (n : Name) : Type 0 where
  pub change : Record
  pub member : Contains before change
  pub named : change.name ≡ n
  pub reaches : Reaches list name change

-- what stands once some are passed
pub record HasPassed (list : List Record) (name : Name) (before left : List Record) (gone : List Name) : Type 0 where
  pub left_is : IsWithout (Reaches list name) before left
  pub all : (r : Record) → Contains before r → Reaches list name r → Contains gone r.name
  pub only : (n : Name) → Contains gone n → IsGone list name before n

module _ (list : List Record) (name : Name) (lawful : IsLawful list) (before : List Record) (c : Record) (after : List Record) (is : list ≡ before ++ c ∷ after)
    (left : List Record) (gone : List Name) (p : HasPassed list name before left gone) where
  inside : (r : Record) → Contains before r → Contains list r
  inside r m = moved r (sym is) (before_member before after c r m)

  -- a need that is gone
  by_gone : (n : Name) → Contains c.change.needs n → IsGone list name before n → Reaches list name c
  by_gone n m g = by_need (inside g.change g.member) (same_member c.change.needs (sym g.named) m) g.reaches

  gone_need : Passes (λ n. list_any (λ m. same_name m n) gone) c.change.needs → Reaches list name c
  gone_need q =
      let g = passes (λ m. same_name m q.it) gone q.is in
      let same : g.it ≡ q.it = same_name_is g.it q.it g.is in
      by_gone q.it q.member (p.only q.it (same_member gone same g.member))

  pub goes_reaches : goes c name gone ≡ true → Reaches list name c
  goes_reaches e = elim (or_cases (same_name c.name name) (needs_any c gone) e) [
    | inl h ↦ itself (same_name_is c.name name h)
    | inr h ↦ gone_need (passes (λ n. list_any (λ m. same_name m n) gone) c.change.needs h)
  ]

  follows : Follows before c
  follows = lawful before c after is

  -- what c needs stands before it
  need_before : (s : Record) → Contains list s → Contains c.change.needs s.name → Contains before s
  need_before s m n =
      let h = held before s.name (all_member (is_held before) c.change.needs s.name follows.needs n) in
      same_member before (one_record list lawful h.0 s (inside h.0 h.1.member) m h.1.named) h.1.member

  need_gone : (s : Record) → Contains list s → Contains c.change.needs s.name → Reaches list name s → needs_any c gone ≡ true
  need_gone s m n q =
      let g : Contains gone s.name = p.all s (need_before s m n) q in
      let inner : list_any (λ k. same_name k s.name) gone ≡ true = any_member (λ k. same_name k s.name) gone s.name g (is_same_name s.name s.name refl) in
      any_member (λ k. list_any (λ j. same_name j k) gone) c.change.needs s.name n inner

  pub stays_apart : goes c name gone ≡ false → Reaches list name c → ⊥
  stays_apart e (itself h) = (let n = is_same_name c.name name h in let o = or_parts (same_name c.name name) (needs_any c gone) e in let f = o.0 in cc)
  stays_apart e (by_need {s = s} m n q) = (let t = need_gone s m n q in let o = or_parts (same_name c.name name) (needs_any c gone) e in let f = o.1 in cc)

  gone_later : (n : Name) → IsGone list name before n → IsGone list name (before ++ c ∷ []) n
  gone_later n g = record { change = g.change; member = first_part before (c ∷ []) g.change g.member; named = g.named; reaches = g.reaches }

  pub passed_out : goes c name gone ≡ true → HasPassed list name (before ++ c ∷ []) left (gone ++ c.name ∷ [])
  passed_out e = record {
    left_is = without_out (Reaches list name) c before left p.left_is (goes_reaches e);
    all = λ r m q. elim (append_cases before (c ∷ []) r m) [
      | inl k ↦ first_part gone (c.name ∷ []) r.name (p.all r k q)
      | inr k ↦ second_part gone (c.name ∷ []) r.name (of_last r (uncons c [] r k))
    ];
    only = λ n m. elim (append_cases gone (c.name ∷ []) n m) [
      | inl k ↦ gone_later n (p.only n k)
      | inr k ↦ last n (uncons c.name [] n k)
    ];
  }
    where
      of_last : (r : Record) → (c ≡ r) ⊎ Contains [] r → Contains (c.name ∷ []) r.name
      of_last r m = elim m [ inl k ↦ same_member (c.name ∷ []) (ap (λ (s : Record). s.name) k) (first_member c.name []) | inr k ↦ absurd (no_member r k) ]

      last : (n : Name) → (c.name ≡ n) ⊎ Contains [] n → IsGone list name (before ++ c ∷ []) n
      last n m = elim m [
        | inl k ↦ record { change = c; member = second_part before (c ∷ []) c (first_member c []); named = k; reaches = goes_reaches e }
        | inr k ↦ absurd (no_member n k)
      ]

  pub passed_in : goes c name gone ≡ false → HasPassed list name (before ++ c ∷ []) (left ++ c ∷ []) gone
  passed_in e = record {
    left_is = without_in (Reaches list name) c before left p.left_is (stays_apart e);
    all = λ r m q. elim (append_cases before (c ∷ []) r m) [
      | inl k ↦ p.all r k q
      | inr k ↦ elim (uncons c [] r k) [ inl s ↦ absurd (stays_apart e (subst (Reaches list name) (sym s) q)) | inr n ↦ absurd (no_member r n) ]
    ];
    only = λ n m. gone_later n (p.only n m);
  }

-- the same for equal lists
pub passed_same : (list : List Record) (name : Name) {before before' left left' : List Record} {gone gone' : List Name} →
    before' ≡ before → left' ≡ left → gone' ≡ gone → HasPassed list name before left gone → HasPassed list name before' left' gone'
passed_same list name {before} {before'} {left} {left'} {gone} {gone'} b l g p =
    subst (λ (z : List Record). HasPassed list name z left' gone') (sym b)
    (subst (λ (z : List Record). HasPassed list name before z gone') (sym l)
    (subst (λ (z : List Name). HasPassed list name before left z) (sym g) p))
