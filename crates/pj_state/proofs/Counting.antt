-- The channels of a map, each with how many changes it has.
use Rattle.std.proofs.Common.{◌≡◌, ℕ, List, [], ◌∷◌, refl, sym, ◌∙◌, ap, subst, length, map, Some, None}
use Rattle.std.specs.Prelude.{Option, MatchOption, Contains}
use Rattle.std.specs.List.{AllByRecursion}
use Rattle.std.specs.List.Sorted.{IsStrictlySortedBy}
use Rattle.std.specs.Map.{keys_of}
use Rattle.std.specs.Option.{option_map}
use Rattle.std.specs.Ordering.{on}
use Rattle.std.specs.BTreeMap.{BTreeMap, get, IsOrdered}
use Rattle.std.specs.declared.cmp.Ordering.TheVariants.{Less}
use Rattle.std.proofs.lemmas.Map.Keys.{IsDistinct-from_sorted}
use Rattle.std.proofs.lemmas.Map.Views.{Contains-from_lookup, lookup-from_Contains}
use Rattle.pj_change.specs.declared.change.Record.{Record}
use Rattle.pj_change.proofs.PickedMembers.{image, mapped}
use Rattle.pj_machine.specs.declared.channel_name.ChannelName.{ChannelName}
use Rattle.pj_machine.specs.declared.journal.Entry.{Entry}
use Rattle.pj_machine.specs.declared.listings.ChannelCount.{ChannelCount}
use Rattle.pj_machine.specs.Answer.{IsCount, AreCounts}
use Rattle.pj_machine.specs.ChannelName.{channel_cmp, channel_equivalence}
use Rattle.pj_machine.specs.State.{State, list_of}
use Rattle.pj_state.specs.declared.standing.Standing.{Standing}
use Rattle.pj_state.specs.IsKept.{standing, standing_of, count}
use Rattle.pj_state.specs.LastEntry.{last_of}
use Rattle.pj_state.proofs.Counts.{same_is}

above : (a : ChannelName × Standing) (es : List (ChannelName × Standing)) → AllByRecursion (λ y. channel_cmp a.0 y ≡ Less) (keys_of es) →
    AllByRecursion (λ (d : ChannelCount). on (λ (c : ChannelCount). c.name) channel_cmp (count a) d ≡ Less) (map count es)
above a [] h = tt
above a (e ∷ es) h = (h.0, above a es h.1)

-- they are in the order of the names
sorted : (es : List (ChannelName × Standing)) → IsStrictlySortedBy channel_cmp (keys_of es) → IsStrictlySortedBy (on (λ (c : ChannelCount). c.name) channel_cmp) (map count es)
unfolding IsStrictlySortedBy
sorted [] h = tt
sorted (e ∷ es) h = (above e es h.0, sorted es h.1)

module _ (s : State) (journal : List Entry) (channels : BTreeMap ChannelName Standing) (each : (name : ChannelName) → get channel_cmp channels name ≡ standing_of s journal name)
    (ordered : IsOrdered channel_cmp channels) where
  only : (c : ChannelCount) → Contains (map count channels.entries) c → IsCount s c
  only c m =
      let it = image count channels.entries c m in
      let e : ChannelName × Standing = it.it in
      let found : get channel_cmp channels e.0 ≡ Some e.1 = lookup-from_Contains channel_equivalence e.0 e.1 channels.entries (IsDistinct-from_sorted channel_cmp (keys_of channels.entries) ordered) it.member in
      subst (λ (d : ChannelCount). IsCount s d) it.is (go (last_of e.0 journal) e.1 (list_of s e.0) (sym found ∙ each e.0))
    where
      go : (n : ℕ) (x : Standing) (o : Option (List Record)) → Some x ≡ option_map (λ list. standing list n) o → MatchOption o ⊥ (λ list. length x.channel ≡ length list)
      go n x None e = absurd (cc)
      go n x (Some list) e = (let k : x ≡ standing list n = cc in ap (λ (y : Standing). length y.channel) k)

  all : (c : ChannelCount) → IsCount s c → Contains (map count channels.entries) c
  all c h = go (list_of s c.name) refl h
    where
      go : (o : Option (List Record)) → list_of s c.name ≡ o → MatchOption o ⊥ (λ list. c.changes ≡ length list) → Contains (map count channels.entries) c
      go None e h = absurd h
      go (Some list) e h =
          let x : Standing = standing list (last_of c.name journal) in
          let found : get channel_cmp channels c.name ≡ Some x = each c.name ∙ ap (option_map (λ l. standing l (last_of c.name journal))) e in
          let m = Contains-from_lookup same_is c.name x channels.entries found in
          let is : count (c.name, x) ≡ c = ap (λ n. record { name = c.name; changes = n }) (sym h) in
          subst (λ (d : ChannelCount). Contains (map count channels.entries) d) is (mapped count channels.entries (c.name, x) m)

  -- each channel of the state stands among them
  pub are_counts : AreCounts s (map count channels.entries)
  are_counts = record { sorted = sorted channels.entries ordered; only = only; all = all }
