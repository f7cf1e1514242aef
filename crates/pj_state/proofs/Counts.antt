-- How many channels there are.
use Rattle.std.proofs.Common.{◌≡◌, ◌<◌, ℕ, List, [], ◌∷◌, refl, sym, ◌∙◌, ap, subst, Bool, true, false, length, map, arith, Some, None}
use Rattle.std.specs.Prelude.{Option, IsSome, AllPairs, find}
use Rattle.std.specs.List.{IsDistinct}
use Rattle.std.specs.Map.{lookup, keys_of}
use Rattle.std.specs.Option.{option_map}
use Rattle.std.specs.Ordering.{eq_by_cmp}
use Rattle.std.specs.Str.{bytes_eq}
use Rattle.std.specs.BTreeMap.{BTreeMap, get, btree_map_len, IsOrdered, keys}
use Rattle.std.specs.Cmp.Lexicographic.{bytes_decides}
use Rattle.std.specs.declared.sync.Arc.{Arc}
use Rattle.std.proofs.lemmas.List.{get_or-map, length-map}
use Rattle.std.proofs.lemmas.Map.Keys.{IsDistinct-from_sorted, IsDistinct-from_apart}
use Rattle.std.proofs.lemmas.Map.Steps.{length-le_from_keys}
use Rattle.std.proofs.lemmas.Map.Text.{is_eq-slice_cmp}
use Rattle.std.proofs.lemmas.Map.Views.{Contains-from_any, IsSome-lookup_from_Contains}
use Rattle.pj_name.specs.declared.name.Name.{Name}
use Rattle.pj_change.specs.declared.change.Record.{Record}
use Rattle.pj_machine.specs.declared.channel_name.ChannelName.{ChannelName}
use Rattle.pj_machine.specs.declared.journal.Entry.{Entry}
use Rattle.pj_machine.specs.declared.limits.Limits.{Limits}
use Rattle.pj_machine.specs.ChannelName.{channel_cmp, channel_equivalence}
use Rattle.pj_machine.specs.Sound.{IsSound}
use Rattle.pj_machine.specs.State.{Channel, channel, is_named, list_of}
use Rattle.pj_machine.proofs.SoundSteps.{legal_sound}
use Rattle.pj_state.specs.declared.standing.Standing.{Standing}
use Rattle.pj_state.specs.IsKept.{IsKept, standing}
use Rattle.pj_state.specs.LastEntry.{last_of}

abbrev pub same : ChannelName → ChannelName → Bool
same = eq_by_cmp channel_cmp

-- names of which the order says the same are one
pub same_is : (a b : ChannelName) → same a b ≡ true → a ≡ b
same_is a b e = (bytes_decides a b).0 (sym (is_eq-slice_cmp a b) ∙ e)

abbrev listed : List Channel → List (ChannelName × List Record)
listed channels = map (λ (c : Channel). (c.name, c.list)) channels

flip : (a b : ChannelName) → bytes_eq a b ≡ bytes_eq b a
flip a b = go (bytes_eq a b) refl (bytes_eq b a) refl
  where
    go : (x : Bool) → bytes_eq a b ≡ x → (y : Bool) → bytes_eq b a ≡ y → bytes_eq a b ≡ bytes_eq b a
    go true f true g = f ∙ sym g
    go false f false g = f ∙ sym g
    go true f false g = absurd (let k : bytes_eq b a ≡ true = (bytes_decides b a).1 (sym ((bytes_decides a b).0 f)) in let j : true ≡ false = sym k ∙ g in cc)
    go false f true g = absurd (let k : bytes_eq a b ≡ true = (bytes_decides a b).1 (sym ((bytes_decides b a).0 g)) in let j : true ≡ false = sym k ∙ f in cc)

lookup_listed : (q : ChannelName) (channels : List Channel) → lookup (same q) (listed channels) ≡ option_map (λ (c : Channel). c.list) (find (is_named q) channels)
lookup_listed q [] = refl
lookup_listed q (c ∷ channels) = go (lookup_listed q channels) (is_named q c) refl
  where
    test : same q c.name ≡ is_named q c
    test = is_eq-slice_cmp q c.name ∙ flip q c.name

    go : lookup (same q) (listed channels) ≡ option_map (λ (c : Channel). c.list) (find (is_named q) channels) → (b : Bool) → is_named q c ≡ b →
        lookup (same q) (listed (c ∷ channels)) ≡ option_map (λ (c : Channel). c.list) (find (is_named q) (c ∷ channels))
    go rest true h = (let g = test ∙ h in rw (g, h) refl)
    go rest false h = (let g = test ∙ h in rw (g, h) rest)

keys_listed : (channels : List Channel) → keys_of (listed channels) ≡ map (λ (c : Channel). c.name) channels
keys_listed [] = refl
keys_listed (c ∷ channels) = ap (λ ks. c.name ∷ ks) (keys_listed channels)

-- no name stands twice
distinct_names : (channels : List Channel) → AllPairs (λ (c d : Channel). c.name ≡ d.name → ⊥) channels → IsDistinct same (map (λ (c : Channel). c.name) channels)
distinct_names channels apart =
    IsDistinct-from_apart same (map (λ (c : Channel). c.name) channels) (λ i j d below within.
    let short : j < length channels = (let n = length-map channels (λ (c : Channel). c.name) in omega arith) in
    let low : i < length channels = omega arith in
    let first = get_or-map (λ (c : Channel). c.name) channels i (channel d []) d low in
    let second = get_or-map (λ (c : Channel). c.name) channels j (channel d []) d short in
    differ _ _ (λ e. apart i j (channel d []) below short (sym first ∙ e ∙ second)))
  where
    differ : (a b : ChannelName) → (a ≡ b → ⊥) → same a b ≡ false
    differ a b n = go (same a b) refl
      where
        go : (x : Bool) → same a b ≡ x → same a b ≡ false
        go true f = absurd (n (same_is a b f))
        go false f = f

module _ {Z : Type 0} (limits : Limits) (journal : List Entry) (pairs : List (Name × Arc Record Z)) (bytes : ℕ) (channels : BTreeMap ChannelName Standing)
    (h : IsKept limits journal pairs bytes channels) (ordered : IsOrdered channel_cmp channels) where
  there : (q : ChannelName) → IsSome (get channel_cmp channels q) → IsSome (lookup (same q) (listed h.state.channels))
  there q some = subst (λ o. IsSome o) (sym (lookup_listed q h.state.channels)) (of_list (list_of h.state q) (subst (λ o. IsSome o) (h.each q) some))
    where
      of_list : (o : Option (List Record)) → IsSome (option_map (λ list. standing list (last_of q journal)) o) → IsSome o
      of_list None i = i
      of_list (Some l) i = i

  back : (q : ChannelName) → IsSome (lookup (same q) (listed h.state.channels)) → IsSome (get channel_cmp channels q)
  back q some = subst (λ o. IsSome o) (sym (h.each q)) (of_list (list_of h.state q) (subst (λ o. IsSome o) (lookup_listed q h.state.channels) some))
    where
      of_list : (o : Option (List Record)) → IsSome o → IsSome (option_map (λ list. standing list (last_of q journal)) o)
      of_list None i = i
      of_list (Some l) i = i

  -- as many as the state has
  pub channel_count : btree_map_len channels ≡ length h.state.channels
  channel_count =
      let sound : IsSound h.state = legal_sound limits journal h.state h.legal h.replayed in
      let low = length-le_from_keys channel_equivalence (keys channels) (listed h.state.channels) (IsDistinct-from_sorted channel_cmp (keys channels) ordered)
      (λ q any. there q (IsSome-lookup_from_Contains channel_equivalence q channels.entries (Contains-from_any same_is q (keys channels) any))) in
      let apart = subst (λ ks. IsDistinct same ks) (sym (keys_listed h.state.channels)) (distinct_names h.state.channels sound.distinct) in
      let high = length-le_from_keys channel_equivalence (keys_of (listed h.state.channels)) channels.entries apart
      (λ q any. back q (IsSome-lookup_from_Contains channel_equivalence q (listed h.state.channels) (Contains-from_any same_is q (keys_of (listed h.state.channels)) any))) in
      let a : length (keys channels) ≡ btree_map_len channels = length-map channels.entries (λ (e : ChannelName × Standing). e.0) in
      let b : length (listed h.state.channels) ≡ length h.state.channels = length-map h.state.channels (λ (c : Channel). (c.name, c.list)) in
      let d : length (keys_of (listed h.state.channels)) ≡ length (listed h.state.channels) = length-map (listed h.state.channels) (λ (e : ChannelName × List Record). e.0) in
      let e : btree_map_len channels ≡ length channels.entries = refl in
      omega arith
