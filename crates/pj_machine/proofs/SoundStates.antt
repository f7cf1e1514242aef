-- Sound states, and what keeps them so.
use Rattle.std.proofs.Common.{◌≡◌, List, [], ◌∷◌, ◌++◌, refl, sym, ◌∙◌, ap, subst, inl, inr, Bool, true, false, not, map, filter, get_or, arith}
use Rattle.std.specs.Prelude.{◌≢◌, ◌⊎◌, Contains, Option, Some, None, IsSome, AllPairs, find, if◌then◌else◌, codes}
use Rattle.std.specs.Option.{option_map, option_or}
use Rattle.std.proofs.lemmas.List.Elements.{Contains-get_or}
use Rattle.std.proofs.lemmas.List.Folds.{find-append}
use Rattle.std.proofs.lemmas.List.Kept.{AllPairs-filter}
use Rattle.std.proofs.lemmas.List.Quantifiers.{all_pairs_push}
use Rattle.std.specs.Cmp.Lexicographic.{bytes_decides}
use Rattle.pj_name.specs.declared.name.Name.{Name}
use Rattle.pj_name.specs.Name.{same_name}
use Rattle.pj_change.specs.declared.change.Record.{Record}
use Rattle.pj_change.specs.Lawful.{IsLawful, record_of}
use Rattle.pj_change.specs.Sets.{HaveOneText}
use Rattle.pj_change.proofs.EqualNames.{same_name_is}
use Rattle.pj_change.proofs.LawfulLists.{append_cases}
use Rattle.pj_change.proofs.Members.{uncons, no_member, not_nil}
use Rattle.pj_change.proofs.PickedMembers.{passed, image}
use Rattle.pj_machine.specs.declared.channel_name.ChannelName.{ChannelName}
use Rattle.pj_machine.specs.State.{Channel, State, channel, opening, is_named, list_of, with_channel, without_channel, with_list}
use Rattle.pj_machine.specs.Step.{IsListOf}
use Rattle.pj_machine.specs.Sound.{IsSound}
use Rattle.pj_machine.proofs.Found.{found_by, is_found, pairs_map}

-- ---- channels by their names

record IsChannel (s : State) (name : ChannelName) (list : List Record) : Type 0 where
  it : Channel
  member : Contains s.channels it
  is : it.list ≡ list

-- the list of a channel is of one that is there
list_member : (s : State) (name : ChannelName) (list : List Record) → IsListOf s name list → IsChannel s name list
list_member s name list e = go (find (is_named name) s.channels) refl e
  where
    go : (found : Option Channel) → find (is_named name) s.channels ≡ found → option_map (λ c. c.list) found ≡ Some list → IsChannel s name list
    go None f h = absurd (cc)
    go (Some c) f h = record { it = c; member = (found_by (is_named name) s.channels c f).member; is = (let k : c.list ≡ list = cc in k) }

-- a channel that is there has a list
is_there : (s : State) (c : Channel) → Contains s.channels c → IsSome (list_of s c.name)
is_there s c m = go (find (is_named c.name) s.channels) (is_found (is_named c.name) s.channels c m ((bytes_decides c.name c.name).1 refl))
  where
    go : (found : Option Channel) → IsSome found → IsSome (option_map (λ d. d.list) found)
    go None h = h
    go (Some d) h = h

-- ---- lists of a sound state

-- the changes of the list are in the store under their names
abbrev pub AreStored : List Record → List Record → Type 0
AreStored store list = (r : Record) → Contains list r → record_of store r.name ≡ Some r

pub none_lawful : IsLawful []
none_lawful before c after e = absurd (not_nil before c after e)

pub none_stored : (store : List Record) → AreStored store []
none_stored store r m = absurd (no_member r m)

pub list_lawful : (s : State) (name : ChannelName) (list : List Record) → IsSound s → IsListOf s name list → IsLawful list
list_lawful s name list sound e = (let h = list_member s name list e in subst (λ l. IsLawful l) h.is (sound.lawful h.it h.member))

pub list_stored : (s : State) (name : ChannelName) (list : List Record) → IsSound s → IsListOf s name list → AreStored s.store list
list_stored s name list sound e = (let h = list_member s name list e in subst (λ l. AreStored s.store l) h.is (sound.stored h.it h.member))

-- the record of a name has the name
pub record_named : (store : List Record) (name : Name) (r : Record) → record_of store name ≡ Some r → r.name ≡ name
record_named store name r e = same_name_is r.name name (found_by (λ q. same_name q.name name) store r e).passes

-- lists of one store have one text for each name
pub stored_one_text : (store a : List Record) → AreStored store a → HaveOneText a
stored_one_text store a stored r q m n e =
    let f = stored r m in
    let g = stored q n in
    let h : record_of store r.name ≡ record_of store q.name = ap (record_of store) e in
    let k : Some r ≡ Some q = sym f ∙ h ∙ g in
    let same : r ≡ q = cc in
    ap (λ (x : Record). x.text) same

-- ---- channels that are made, changed and taken away

-- a channel whose list is as it should be
record IsGood (store : List Record) (c : Channel) : Type 0 where
  lawful : IsLawful c.list
  stored : AreStored store c.list

good : (s : State) → IsSound s → (c : Channel) → Contains s.channels c → IsGood s.store c
good s sound c m = record { lawful = sound.lawful c m; stored = sound.stored c m }

abbrev AreApart : Channel → Channel → Type 0
AreApart c d = c.name ≢ d.name

sound_from : (s : State) → IsSound s → (channels : List Channel) → ((c : Channel) → Contains channels c → IsGood s.store c) → AllPairs AreApart channels →
    IsSound (record { store = s.store; channels = channels })
sound_from s sound channels each distinct = record {
  lawful = λ c m. (each c m).lawful;
  stored = λ c m. (each c m).stored;
  one_text = sound.one_text;
  once = sound.once;
  distinct = distinct;
}

module _ (s : State) (sound : IsSound s) (name : ChannelName) where
  pub sound_with_channel : (list : List Record) → IsLawful list → AreStored s.store list → (IsSome (list_of s name) → ⊥) → IsSound (with_channel s name list)
  sound_with_channel list lawful stored new =
      sound_from s sound (s.channels ++ channel name list ∷ []) each
      (all_pairs_push AreApart s.channels (channel name list) sound.distinct (λ k d low e.
      new (subst (λ n. IsSome (list_of s n)) e (is_there s (get_or s.channels k d) (Contains-get_or s.channels k d low)))))
    where
      each : (c : Channel) → Contains (s.channels ++ channel name list ∷ []) c → IsGood s.store c
      each c m = elim (append_cases s.channels (channel name list ∷ []) c m) [
        | inl n ↦ good s sound c n
        | inr n ↦ elim (uncons (channel name list) [] c n) [
          | inl e ↦ subst (λ d. IsGood s.store d) e (record { lawful = lawful; stored = stored })
          | inr k ↦ absurd (no_member c k)
        ]
      ]

  pub sound_without_channel : IsSound (without_channel s name)
  sound_without_channel =
      sound_from s sound (filter (λ c. not (is_named name c)) s.channels)
      (λ c m. good s sound c (passed (λ c. not (is_named name c)) s.channels c m).member)
      (AllPairs-filter AreApart (λ c. not (is_named name c)) s.channels sound.distinct)

  abbrev put_list : List Record → Channel → Channel
  put_list list c = if is_named name c then channel name list else c

  same_name_put : (list : List Record) (c : Channel) → (put_list list c).name ≡ c.name
  same_name_put list c = go (is_named name c) refl
    where
      go : (b : Bool) → is_named name c ≡ b → (put_list list c).name ≡ c.name
      go true h = rw h (sym ((bytes_decides c.name name).0 h))
      go false h = rw h refl

  pub sound_with_list : (list : List Record) → IsLawful list → AreStored s.store list → IsSound (with_list s name list)
  sound_with_list list lawful stored =
      sound_from s sound (map (put_list list) s.channels) each
      (pairs_map AreApart (put_list list) (λ c d apart e. apart (sym (same_name_put list c) ∙ e ∙ same_name_put list d)) s.channels sound.distinct)
    where
      put_good : (c : Channel) → IsGood s.store c → (b : Bool) → is_named name c ≡ b → IsGood s.store (put_list list c)
      put_good c h true e = rw e (record { lawful = lawful; stored = stored })
      put_good c h false e = rw e h

      each : (c : Channel) → Contains (map (put_list list) s.channels) c → IsGood s.store c
      each c m =
          let i = image (put_list list) s.channels c m in
          subst (λ d. IsGood s.store d) i.is (put_good i.it (good s sound i.it i.member) (is_named name i.it) refl)

-- ---- a change that is stored

module _ (s : State) (sound : IsSound s) (r : Record) (new : (q : Record) → Contains s.store q → q.name ≡ r.name → ⊥) where
  still_found : (name : Name) (q : Record) → record_of s.store name ≡ Some q → record_of (s.store ++ r ∷ []) name ≡ Some q
  still_found name q e = find-append (λ x. same_name x.name name) s.store (r ∷ []) ∙ ap (λ o. option_or o (find (λ x. same_name x.name name) (r ∷ []))) e

  stored_cases : (a : Record) → Contains (s.store ++ r ∷ []) a → Contains s.store a ⊎ (r ≡ a)
  stored_cases a m = elim (append_cases s.store (r ∷ []) a m) [
    | inl n ↦ inl n
    | inr n ↦ elim (uncons r [] a n) [ inl e ↦ inr e | inr k ↦ absurd (no_member a k) ]
  ]

  text_is : {a b : Record} → a ≡ b → a.text ≡ b.text
  text_is e = ap (λ (x : Record). x.text) e

  name_is : {a b : Record} → a ≡ b → a.name ≡ b.name
  name_is e = ap (λ (x : Record). x.name) e

  one_text : HaveOneText (s.store ++ r ∷ [])
  one_text a b m n e = elim (stored_cases a m) [
    | inl i ↦ elim (stored_cases b n) [ inl j ↦ sound.one_text a b i j e | inr k ↦ absurd (new a i (e ∙ sym (name_is k))) ]
    | inr k ↦ elim (stored_cases b n) [ inl j ↦ absurd (new b j (sym e ∙ sym (name_is k))) | inr l ↦ sym (text_is k) ∙ text_is l ]
  ]

  pub sound_put : IsSound (record { store = s.store ++ r ∷ []; channels = s.channels })
  sound_put = record {
    lawful = sound.lawful;
    stored = λ c m q n. still_found q.name q (sound.stored c m q n);
    one_text = one_text;
    once = all_pairs_push (λ a b. a.name ≢ b.name) s.store r sound.once (λ k d low e. new (get_or s.store k d) (Contains-get_or s.store k d low) e);
    distinct = sound.distinct;
  }

-- ---- the opening state

pub sound_opening : IsSound opening
sound_opening = record {
  lawful = λ c m. subst (λ d. IsLawful d.list) (only c m) none_lawful;
  stored = λ c m. subst (λ d. AreStored [] d.list) (only c m) (none_stored []);
  one_text = λ r q m n e. absurd (no_member r m);
  once = λ i j d below within. absurd (omega arith);
  distinct = λ i j d below within. absurd (omega arith);
}
  where
    only : (c : Channel) → Contains opening.channels c → channel (codes "main") [] ≡ c
    only c m = elim (uncons (channel (codes "main") []) [] c m) [ inl e ↦ e | inr k ↦ absurd (no_member c k) ]
