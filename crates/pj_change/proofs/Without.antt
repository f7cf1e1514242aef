-- A list without the changes of which something holds, and the laws on uprooted lists and on unions.
use Rattle.std.proofs.Common.{◌≡◌, List, [], ◌∷◌, ◌++◌, refl, sym, ◌∙◌, ap, subst, inl, inr, Bool, true, false}
use Rattle.std.specs.Prelude.{Contains, ◌⊎◌, ◌↔◌, not, filter}
use Rattle.std.proofs.lemmas.Bool.{not-false}
use Rattle.pj_name.specs.declared.name.Name.{Name}
use Rattle.pj_change.specs.declared.change.Record.{Record}
use Rattle.pj_change.specs.Lawful.{is_held, Follows, IsLawful, IsInOrder}
use Rattle.pj_change.specs.Uproot.{Reaches, by_need, IsWithout, IsUprooted}
use Rattle.pj_change.specs.Union.{union}
use Rattle.pj_change.proofs.Members.{uncons, first_member, later_member, no_member, same_member, moved, heads, tails, not_nil, all_member, all_from, before_member, middle_member}
use Rattle.pj_change.proofs.LawfulLists.{place_in, append_cases, first_part, second_part, IsRecord, held_member, held, not_held, not_record, fewer_held, follows_there, part_lawful, set_of}

-- where a place of what is left stood in the list
record Stood (Q : Record → Type 0) (list b : List Record) (x : Record) : Type 0 where
  before : List Record
  after : List Record
  is : list ≡ before ++ x ∷ after
  kept : Q x → ⊥
  front : IsWithout Q before b

module _ (Q : Record → Type 0) where
  stood_later : (r : Record) (list b : List Record) (x : Record) → Q r → Stood Q list b x → Stood Q (r ∷ list) b x
  stood_later r list b x q s = record { before = r ∷ s.before; after = s.after; is = ap (λ l. r ∷ l) s.is; kept = s.kept; front = inl (q, s.front) }

  stood_first : (r x : Record) (list : List Record) → r ≡ x → (Q r → ⊥) → Stood Q (r ∷ list) [] x
  stood_first r x list e n = record { before = []; after = list; is = ap (λ z. z ∷ list) e; kept = subst (λ z. Q z → ⊥) e n; front = refl }

  stood_next : (r y : Record) (list b : List Record) (x : Record) → r ≡ y → (Q r → ⊥) → Stood Q list b x → Stood Q (r ∷ list) (y ∷ b) x
  stood_next r y list b x e n s = record { before = r ∷ s.before; after = s.after; is = ap (λ l. r ∷ l) s.is; kept = s.kept; front = inr (n, b, ap (λ z. z ∷ b) (sym e), s.front) }

  stood : (list rest : List Record) → IsWithout Q list rest → (b : List Record) (x : Record) (a : List Record) → rest ≡ b ++ x ∷ a → Stood Q list b x
  stood [] rest w b x a e = absurd (not_nil b x a (sym w ∙ e))
  stood (r ∷ list) rest w [] x a e = elim w [
    | inl k ↦ stood_later r list [] x k.0 (stood list rest k.1 [] x a e)
    | inr k ↦ stood_first r x list (heads r x k.1 a (sym k.2 ∙ e)) k.0
  ]
  stood (r ∷ list) rest w (y ∷ b) x a e = elim w [
    | inl k ↦ stood_later r list (y ∷ b) x k.0 (stood list rest k.1 (y ∷ b) x a e)
    | inr k ↦ stood_next r y list b x (heads r y k.1 (b ++ x ∷ a) (sym k.2 ∙ e)) k.0 (stood list k.1 k.3 b x a (tails r y k.1 (b ++ x ∷ a) (sym k.2 ∙ e)))
  ]

  -- each member is left or was taken out
  without_cases : (list rest : List Record) → IsWithout Q list rest → (r : Record) → Contains list r → Q r ⊎ Contains rest r
  without_cases [] rest w r m = absurd (no_member r m)
  without_cases (s ∷ list) rest w r m = elim w [
    | inl k ↦ elim (uncons s list r m) [
      | inl e ↦ inl (subst Q e k.0)
      | inr n ↦ without_cases list rest k.1 r n
    ]
    | inr k ↦ elim (uncons s list r m) [
      | inl e ↦ inr (moved r (sym k.2) (same_member (s ∷ k.1) e (first_member s k.1)))
      | inr n ↦ elim (without_cases list k.1 k.3 r n) [ inl q ↦ inl q | inr l ↦ inr (moved r (sym k.2) (later_member s k.1 r l)) ]
    ]
  ]

  -- what is left was in the list
  pub without_within : (list rest : List Record) → IsWithout Q list rest → (r : Record) → Contains rest r → Contains list r
  without_within [] rest w r m = absurd (no_member r (moved r w m))
  without_within (s ∷ list) rest w r m = elim w [
    | inl k ↦ later_member s list r (without_within list rest k.1 r m)
    | inr k ↦ elim (uncons s k.1 r (moved r k.2 m)) [
      | inl e ↦ same_member (s ∷ list) e (first_member s list)
      | inr n ↦ later_member s list r (without_within list k.1 k.3 r n)
    ]
  ]

  -- at most one list is left
  pub without_one : (list rest rest' : List Record) → IsWithout Q list rest → IsWithout Q list rest' → rest ≡ rest'
  without_one [] rest rest' a b = a ∙ sym b
  without_one (r ∷ list) rest rest' a b = elim a [
    | inl h ↦ elim b [ inl k ↦ without_one list rest rest' h.1 k.1 | inr k ↦ absurd (k.0 h.0) ]
    | inr h ↦ elim b [
      | inl k ↦ absurd (h.0 k.0)
      | inr k ↦ h.2 ∙ ap (λ l. r ∷ l) (without_one list h.1 k.1 h.3 k.3) ∙ sym k.2
    ]
  ]

  -- Where each change with a need of which Q holds has it too, the list without them is lawful.
  without_those : (list rest : List Record) → IsLawful list → IsWithout Q list rest →
      ((r s : Record) → Contains list r → Contains list s → Contains r.change.needs s.name → Q s → Q r) → IsLawful rest
  without_those list rest lawful w spreads = part_lawful list rest (set_of list lawful) (without_within list rest w) order
    where
      order : IsInOrder rest
      order b x a e =
          let s = stood list rest w b x a e in
          let f = lawful s.before x s.after s.is in
          let x_in : Contains list x = moved x (sym s.is) (middle_member s.before s.after x) in
          let fresh : is_held b x.name ≡ false = fewer_held b s.before x.name (without_within s.before b s.front) f.fresh in
          (fresh, all_from (is_held b) x.change.needs (λ n m. need s x_in n m (held s.before n (all_member (is_held s.before) x.change.needs n f.needs m))))
        where
          need : (s : Stood Q list b x) → Contains list x → (n : Name) → Contains x.change.needs n → (r : Record) × IsRecord s.before n r → is_held b n ≡ true
          need s x_in n m h = elim (without_cases s.before b s.front h.0 h.1.member) [
            | inl q ↦ absurd (s.kept (spreads x h.0 x_in (moved h.0 (sym s.is) (before_member s.before s.after x h.0 h.1.member)) (same_member x.change.needs (sym h.1.named) m) q))
            | inr k ↦ held_member b n h.0 (record { member = k; named = h.1.named })
          ]

-- a lawful list without a change and all that reach it is lawful
pub uprooted_lawful : (list : List Record) (name : Name) (rest : List Record) → IsLawful list → IsUprooted list name rest → IsLawful rest
uprooted_lawful list name rest lawful u = without_those (Reaches list name) list rest lawful u (λ r s m n k q. by_need n k q)

-- ---- the union

-- a filter leaves the list without what does not pass
filter_without : (p : Record → Bool) (list : List Record) → IsWithout (λ r. p r ≡ false) list (filter p list)
filter_without p [] = refl
filter_without p (r ∷ list) = go (filter_without p list) (p r) refl
  where
    go : IsWithout (λ r. p r ≡ false) list (filter p list) → (b : Bool) → p r ≡ b → IsWithout (λ r. p r ≡ false) (r ∷ list) (filter p (r ∷ list))
    go rest true h = inr ((λ k. cc), filter p list, rw h refl, rest)
    go rest false h = inl (h, subst (λ l. IsWithout (λ r. p r ≡ false) list l) (let e : filter p (r ∷ list) ≡ filter p list = rw h refl in sym e) rest)

-- records with equal names are equal
abbrev pub HaveOneRecord : List Record → Type 0
HaveOneRecord S = (r s : Record) → Contains S r → Contains S s → r.name ≡ s.name → r ≡ s

module _ (a b : List Record) (unique : HaveOneRecord (a ++ b)) where
  without : IsWithout (λ r. not (is_held a r.name) ≡ false) b (filter (λ r. not (is_held a r.name)) b)
  without = filter_without (λ r. not (is_held a r.name)) b

  -- the members of the union are those of the two lists
  pub union_member : (r : Record) → Contains (union a b) r ↔ (Contains a r ⊎ Contains b r)
  union_member r = (there, back)
    where
      there : Contains (union a b) r → Contains a r ⊎ Contains b r
      there m = elim (append_cases a (filter (λ r. not (is_held a r.name)) b) r m) [
        | inl k ↦ inl k
        | inr k ↦ inr (without_within (λ r. not (is_held a r.name) ≡ false) b (filter (λ r. not (is_held a r.name)) b) without r k)
      ]

      is_in_a : Contains b r → (s : Record) × IsRecord a r.name s → Contains a r
      is_in_a m h = same_member a (unique h.0 r (first_part a b h.0 h.1.member) (second_part a b r m) h.1.named) h.1.member

      back : Contains a r ⊎ Contains b r → Contains (union a b) r
      back m = elim m [
        | inl k ↦ first_part a (filter (λ r. not (is_held a r.name)) b) r k
        | inr k ↦ elim (without_cases (λ r. not (is_held a r.name) ≡ false) b (filter (λ r. not (is_held a r.name)) b) without r k) [
          | inl q ↦ first_part a (filter (λ r. not (is_held a r.name)) b) r (is_in_a k (held a r.name (not-false (is_held a r.name) q)))
          | inr l ↦ second_part a (filter (λ r. not (is_held a r.name)) b) r l
        ]
      ]

  -- what follows a list of b follows a and what of that list a lacks
  module _ (lawful_b : IsLawful b) (front : List Record) (c : Record) (s : Stood (λ r. not (is_held a r.name) ≡ false) b front c) where
    follows_b : Follows s.before c
    follows_b = lawful_b s.before c s.after s.is

    in_b : (r : Record) → Contains s.before r → Contains b r
    in_b r m = moved r (sym s.is) (before_member s.before s.after c r m)

    in_front : (r : Record) → Contains front r → Contains s.before r
    in_front = without_within (λ r. not (is_held a r.name) ≡ false) s.before front s.front

    in_both : (r : Record) → Contains (a ++ front) r → Contains (a ++ b) r
    in_both r m = elim (append_cases a front r m) [ inl k ↦ first_part a b r k | inr k ↦ second_part a b r (in_b r (in_front r k)) ]

    c_lacked : is_held a c.name ≡ false
    c_lacked = go (is_held a c.name) refl
      where
        go : (x : Bool) → is_held a c.name ≡ x → is_held a c.name ≡ false
        go true h = absurd (s.kept (ap not h))
        go false h = h

    fresh : is_held (a ++ front) c.name ≡ false
    fresh = not_held (a ++ front) c.name (λ r h. elim (append_cases a front r h.member) [
      | inl k ↦ not_record a c.name c_lacked r (record { member = k; named = h.named })
      | inr k ↦ not_record s.before c.name follows_b.fresh r (record { member = in_front r k; named = h.named })
    ])

    need_held : (n : Name) → (r : Record) × IsRecord s.before n r → is_held (a ++ front) n ≡ true
    need_held n h = elim (without_cases (λ r. not (is_held a r.name) ≡ false) s.before front s.front h.0 h.1.member) [
      | inl q ↦ by_a (held a h.0.name (not-false (is_held a h.0.name) q))
      | inr k ↦ held_member (a ++ front) n h.0 (record { member = second_part a front h.0 k; named = h.1.named })
    ]
      where
        by_a : (t : Record) × IsRecord a h.0.name t → is_held (a ++ front) n ≡ true
        by_a t = held_member (a ++ front) n t.0 (record { member = first_part a front t.0 t.1.member; named = t.1.named ∙ h.1.named })

    follows_union : Follows (a ++ front) c
    follows_union = follows_there s.before (a ++ front)
        (λ r t m n e. unique r t (second_part a b r (in_b r m)) (in_both t n) e)
        c follows_b fresh
        (all_from (is_held (a ++ front)) c.change.needs (λ n m. need_held n (held s.before n (all_member (is_held s.before) c.change.needs n follows_b.needs m))))

  pub union_lawful : IsLawful a → IsLawful b → IsLawful (union a b)
  union_lawful lawful_a lawful_b before c after e = elim (place_in a (filter (λ r. not (is_held a r.name)) b) before c after e) [
    | inl i ↦ lawful_a before c i.rest i.first
    | inr i ↦ subst (λ l. Follows l c) (sym i.first)
        (follows_union lawful_b i.front c (stood (λ r. not (is_held a r.name) ≡ false) b (filter (λ r. not (is_held a r.name)) b) without i.front c after i.then))
  ]

-- ---- a list without some, with one more

module _ (Q : Record → Type 0) (r : Record) where
  pub without_out : (list left : List Record) → IsWithout Q list left → Q r → IsWithout Q (list ++ r ∷ []) left
  without_out [] left w q = inl (q, w)
  without_out (s ∷ list) left w q = elim w [
    | inl k ↦ inl (k.0, without_out list left k.1 q)
    | inr k ↦ inr (k.0, k.1, k.2, without_out list k.1 k.3 q)
  ]

  pub without_in : (list left : List Record) → IsWithout Q list left → (Q r → ⊥) → IsWithout Q (list ++ r ∷ []) (left ++ r ∷ [])
  without_in [] left w n = inr (n, left, (ap (λ l. l ++ r ∷ []) w ∙ ap (λ l. r ∷ l) (sym w)), w)
  without_in (s ∷ list) left w n = elim w [
    | inl k ↦ inl (k.0, without_in list left k.1 n)
    | inr k ↦ inr (k.0, k.1 ++ r ∷ [], ap (λ l. l ++ r ∷ []) k.2, without_in list k.1 k.3 n)
  ]
