-- The channels of a state have a list.
use Rattle.std.proofs.Common.{◌≡◌, List, length, refl, sym, ◌∙◌, ap, subst, inr, find}
use Rattle.std.specs.Prelude.{Contains, Option, Some, None, MatchOption}
use Rattle.std.specs.Option.{option_map}
use Rattle.std.specs.declared.cmp.Ordering.TheVariants.{Equal}
use Rattle.std.specs.Cmp.Lexicographic.{bytes_decides}
use Rattle.std.specs.Ordering.{on, is_eq}
use Rattle.std.proofs.lemmas.Cmp.{on_total}
use Rattle.std.proofs.lemmas.Map.Text.{is_eq-slice_cmp}
use Rattle.pj_change.specs.declared.change.Record.{Record}
use Rattle.pj_change.proofs.Decided.{Known, known_number}
use Rattle.pj_machine.specs.declared.listings.ChannelCount.{ChannelCount}
use Rattle.pj_machine.specs.Answer.{IsCount, AreCounts}
use Rattle.pj_machine.specs.ChannelName.{channel_cmp, channel_total}
use Rattle.pj_machine.specs.State.{State, Channel, is_named, list_of}
use Rattle.pj_machine.proofs.Found.{found_by}
use Rattle.pj_answers.proofs.Finite as finite

-- a channel with how many changes it has
count : Channel → ChannelCount
count ch = record { name = ch.name; changes = length ch.list }

module _ (s : State) where
  -- whether it is the count of a channel
  known_count : (c : ChannelCount) → Known (IsCount s c)
  known_count c = by (list_of s c.name)
    where
      by : (o : Option (List Record)) → Known (MatchOption o ⊥ (λ list. c.changes ≡ length list))
      by None = inr (λ h. h)
      by (Some list) = known_number c.changes (length list)

  -- the channel of which it is the count
  counted : (c : ChannelCount) → IsCount s c → (ch : Channel) × Contains s.channels ch × (count ch ≡ c)
  unfolding count
  counted c h = by (find (is_named c.name) s.channels) refl h
    where
      by : (o : Option Channel) → find (is_named c.name) s.channels ≡ o → MatchOption (option_map (λ (ch : Channel). ch.list) o) ⊥
          (λ list. c.changes ≡ length list) →
          (ch : Channel) × Contains s.channels ch × (count ch ≡ c)
      by None e h = absurd h
      by (Some ch) e h =
          let f = found_by (is_named c.name) s.channels ch e in
          let name : ch.name ≡ c.name = (bytes_decides ch.name c.name).0 f.passes in
          (ch, f.member, λ i. record { name = name i; changes = sym h i })

  -- a channel has one count
  one_count : (c d : ChannelCount) → IsCount s c → IsCount s d → c.name ≡ d.name → c.changes ≡ d.changes
  one_count c d a b e = by (list_of s d.name) (subst (λ n. MatchOption (list_of s n) ⊥ (λ list. c.changes ≡ length list)) e a) b
    where
      by : (o : Option (List Record)) → MatchOption o ⊥ (λ list. c.changes ≡ length list) → MatchOption o ⊥ (λ list. d.changes ≡ length list) →
          c.changes ≡ d.changes
      by None a b = absurd a
      by (Some list) a b = a ∙ sym b

  -- counts that the order does not tell apart are equal
  counts_tied : (c d : ChannelCount) → IsCount s c → IsCount s d → on (λ (c : ChannelCount). c.name) channel_cmp c d ≡ Equal → c ≡ d
  counts_tied c d a b tie =
      let name : c.name ≡ d.name = (bytes_decides c.name d.name).0 (sym (is_eq-slice_cmp c.name d.name) ∙ ap is_eq tie) in
      let changes = one_count c d a b name in
      λ i. record { name = name i; changes = changes i }

  -- the channels have their list
  pub counts_there : (counts : List ChannelCount) × AreCounts s counts
  counts_there = finite.listed (on (λ (c : ChannelCount). c.name) channel_cmp) (on_total (λ (c : ChannelCount). c.name) channel_total) (IsCount s)
      (finite.alike (λ c. ((ch : Channel) × Contains s.channels ch × (count ch ≡ c)) × IsCount s c) (IsCount s) (λ c h. h.1) (λ c h. (counted c h, h))
      (finite.known_ones (λ c. (ch : Channel) × Contains s.channels ch × (count ch ≡ c)) (IsCount s)
      (finite.some (λ ch c. count ch ≡ c) s.channels (λ ch m. finite.one (λ c. count ch ≡ c) (count ch) refl (λ c e. e))) (λ c h. known_count c)))
      counts_tied
