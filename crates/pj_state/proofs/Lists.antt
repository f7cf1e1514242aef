-- The lists of channels after a channel is made, changed or taken away.
use Rattle.std.proofs.Common.{◌≡◌, List, [], ◌∷◌, refl, sym, ◌∙◌, ap, Bool, true, false, not, map, filter}
use Rattle.std.specs.Prelude.{Option, Some, None, find, if◌then◌else◌}
use Rattle.std.specs.Option.{option_map, option_or}
use Rattle.std.specs.Str.{bytes_eq}
use Rattle.std.specs.Cmp.Lexicographic.{bytes_decides}
use Rattle.std.proofs.lemmas.List.Folds.{find-append}
use Rattle.pj_change.specs.declared.change.Record.{Record}
use Rattle.pj_machine.specs.declared.channel_name.ChannelName.{ChannelName}
use Rattle.pj_machine.specs.State.{Channel, State, channel, is_named, list_of, with_channel, without_channel, with_list}

abbrev found : ChannelName → List Channel → Option (List Record)
found q channels = option_map (λ (c : Channel). c.list) (find (is_named q) channels)

here : (q : ChannelName) (c : Channel) (channels : List Channel) → is_named q c ≡ true → found q (c ∷ channels) ≡ Some c.list
here q c channels h = rw h refl

later : (q : ChannelName) (c : Channel) (channels : List Channel) → is_named q c ≡ false → found q (c ∷ channels) ≡ found q channels
later q c channels h = rw h refl

-- equal names have the same test
like : (a b q : ChannelName) → bytes_eq a b ≡ true → bytes_eq a q ≡ bytes_eq b q
like a b q h = ap (λ n. bytes_eq n q) ((bytes_decides a b).0 h)

module _ (s : State) (name : ChannelName) (list : List Record) where
  -- a channel of a new name
  pub list_with_channel : list_of s name ≡ None → (q : ChannelName) → list_of (with_channel s name list) q ≡ (if bytes_eq name q then Some list else list_of s q)
  list_with_channel none q = ap (option_map (λ (c : Channel). c.list)) (find-append (is_named q) s.channels (channel name list ∷ [])) ∙ go (bytes_eq name q) refl
    where
      both : (a b : Option Channel) → option_map (λ (c : Channel). c.list) (option_or a b) ≡ option_or (option_map (λ (c : Channel). c.list) a) (option_map (λ (c : Channel). c.list) b)
      both None b = refl
      both (Some x) b = refl

      or_none : (o : Option (List Record)) → option_or o None ≡ o
      or_none None = refl
      or_none (Some x) = refl

      go : (b : Bool) → bytes_eq name q ≡ b → option_map (λ (c : Channel). c.list) (option_or (find (is_named q) s.channels) (find (is_named q) (channel name list ∷ []))) ≡ (if bytes_eq name q then Some list else list_of s q)
      go true h =
          let is : name ≡ q = (bytes_decides name q).0 h in
          let gone : list_of s q ≡ None = ap (list_of s) (sym is) ∙ none in
          both (find (is_named q) s.channels) (find (is_named q) (channel name list ∷ []))
          ∙ ap (option_or (list_of s q)) (here q (channel name list) [] h) ∙ ap (λ o. option_or o (Some list)) gone ∙ sym (ap (λ b. if b then Some list else list_of s q) h)
      go false h =
          both (find (is_named q) s.channels) (find (is_named q) (channel name list ∷ []))
          ∙ ap (option_or (list_of s q)) (later q (channel name list) [] h) ∙ or_none (list_of s q) ∙ sym (ap (λ b. if b then Some list else list_of s q) h)

  abbrev put_list : Channel → Channel
  put_list c = if is_named name c then channel name list else c

  named_put : (q : ChannelName) (c : Channel) → is_named q (put_list c) ≡ is_named q c
  named_put q c = go (is_named name c) refl
    where
      go : (b : Bool) → is_named name c ≡ b → is_named q (put_list c) ≡ is_named q c
      go true h = ap (λ b. is_named q (if b then channel name list else c)) h ∙ sym (like c.name name q h)
      go false h = ap (λ b. is_named q (if b then channel name list else c)) h

  -- another channel has the list that it had
  put_other : (q : ChannelName) → bytes_eq name q ≡ false → (channels : List Channel) → found q (map put_list channels) ≡ found q channels
  put_other q apart [] = refl
  put_other q apart (c ∷ channels) = go (put_other q apart channels) (is_named q c) refl (is_named name c) refl
    where
      go : found q (map put_list channels) ≡ found q channels → (a : Bool) → is_named q c ≡ a → (b : Bool) → is_named name c ≡ b → found q (map put_list (c ∷ channels)) ≡ found q (c ∷ channels)
      go rest true h true g = absurd (let k : bytes_eq name q ≡ true = sym (like c.name name q g) ∙ h in let j : true ≡ false = sym k ∙ apart in cc)
      go rest true h false g =
          let same : put_list c ≡ c = rw g refl in
          here q (put_list c) (map put_list channels) (named_put q c ∙ h) ∙ ap (λ (d : Channel). Some d.list) same ∙ sym (here q c channels h)
      go rest false h b g = later q (put_list c) (map put_list channels) (named_put q c ∙ h) ∙ rest ∙ sym (later q c channels h)

  -- the channel has the new list
  put_name : (old : List Record) (channels : List Channel) → found name channels ≡ Some old → found name (map put_list channels) ≡ Some list
  put_name old [] e = absurd (cc)
  put_name old (c ∷ channels) e = go (put_name old channels) (is_named name c) refl
    where
      go : (found name channels ≡ Some old → found name (map put_list channels) ≡ Some list) → (b : Bool) → is_named name c ≡ b → found name (map put_list (c ∷ channels)) ≡ Some list
      go rest true h =
          let same : put_list c ≡ channel name list = rw h refl in
          here name (put_list c) (map put_list channels) (named_put name c ∙ h) ∙ ap (λ (d : Channel). Some d.list) same
      go rest false h = later name (put_list c) (map put_list channels) (named_put name c ∙ h) ∙ rest (sym (later name c channels h) ∙ e)

  -- a channel that has another list
  pub list_with_list : (old : List Record) → list_of s name ≡ Some old → (q : ChannelName) → list_of (with_list s name list) q ≡ (if bytes_eq name q then Some list else list_of s q)
  list_with_list old e q = go (bytes_eq name q) refl
    where
      go : (b : Bool) → bytes_eq name q ≡ b → list_of (with_list s name list) q ≡ (if bytes_eq name q then Some list else list_of s q)
      go true h =
          let is : name ≡ q = (bytes_decides name q).0 h in
          ap (list_of (with_list s name list)) (sym is) ∙ put_name old s.channels e ∙ sym (ap (λ b. if b then Some list else list_of s q) h)
      go false h = put_other q h s.channels ∙ sym (ap (λ b. if b then Some list else list_of s q) h)

module _ (name : ChannelName) where
  abbrev stays : Channel → Bool
  stays c = not (is_named name c)

  dropped : (q : ChannelName) (channels : List Channel) → found q (filter stays channels) ≡ (if bytes_eq name q then None else found q channels)
  dropped q [] = go (bytes_eq name q)
    where
      go : (b : Bool) → ◌≡◌ {A = Option (List Record)} None (if b then None else None)
      go true = refl
      go false = refl
  dropped q (c ∷ channels) = go (dropped q channels) (is_named name c) refl (is_named q c) refl (bytes_eq name q) refl
    where
      go : found q (filter stays channels) ≡ (if bytes_eq name q then None else found q channels) → (a : Bool) → is_named name c ≡ a → (b : Bool) → is_named q c ≡ b → (d : Bool) → bytes_eq name q ≡ d →
          found q (filter stays (c ∷ channels)) ≡ (if bytes_eq name q then None else found q (c ∷ channels))
      go rest true g b h true f =
          let gone : filter stays (c ∷ channels) ≡ filter stays channels = rw g refl in
          ap (found q) gone ∙ rest ∙ ap (λ b. if b then None else found q channels) f ∙ sym (ap (λ b. if b then None else found q (c ∷ channels)) f)
      go rest true g b h false f =
          let gone : filter stays (c ∷ channels) ≡ filter stays channels = rw g refl in
          let other : is_named q c ≡ false = like c.name name q g ∙ f in
          ap (found q) gone ∙ rest ∙ ap (λ o. if bytes_eq name q then None else o) (sym (later q c channels other))
      go rest false g true h true f = absurd (
          let k : c.name ≡ name = (bytes_decides c.name q).0 h ∙ sym ((bytes_decides name q).0 f) in
          let j : is_named name c ≡ true = (bytes_decides c.name name).1 k in
          let i : true ≡ false = sym j ∙ g in
          cc)
      go rest false g true h false f =
          let kept : filter stays (c ∷ channels) ≡ c ∷ filter stays channels = rw g refl in
          ap (found q) kept ∙ here q c (filter stays channels) h ∙ sym (ap (λ b. if b then None else found q (c ∷ channels)) f ∙ here q c channels h)
      go rest false g false h d f =
          let kept : filter stays (c ∷ channels) ≡ c ∷ filter stays channels = rw g refl in
          ap (found q) kept ∙ later q c (filter stays channels) h ∙ rest ∙ ap (λ o. if bytes_eq name q then None else o) (sym (later q c channels h))

  -- a channel that is taken away
  pub list_without_channel : (s : State) (q : ChannelName) → list_of (without_channel s name) q ≡ (if bytes_eq name q then None else list_of s q)
  list_without_channel s q = dropped q s.channels
