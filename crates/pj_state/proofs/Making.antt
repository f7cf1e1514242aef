-- Why a channel may be made, or not.
use Rattle.std.proofs.Common.{◌≡◌, refl, ℕ, Bor, ◌≤◌, List, length, true, false, Option, Some, None, is_some, inl, inr}
use Rattle.std.specs.Prelude.{IsSome, MatchOption}
use Rattle.std.specs.Option.{option_map}
use Rattle.pj_change.specs.declared.change.Record.{Record}
use Rattle.pj_machine.specs.declared.channel_name.ChannelName.{ChannelName}
use Rattle.pj_machine.specs.declared.command.Write.{Write}
use Rattle.pj_machine.specs.declared.limits.Limits.{Limits}
use Rattle.pj_machine.specs.declared.reply.Refusal.TheVariants.{Taken, FullChannels}
use Rattle.pj_machine.specs.Answer.{Makes}
use Rattle.pj_machine.specs.Outcome.{refuses}
use Rattle.pj_machine.specs.State.{State, list_of}
use Rattle.pj_state.specs.declared.standing.Standing.{Standing}
use Rattle.pj_state.specs.IsKept.{standing}

module _ (limits : Limits) (s : State) (entries : ℕ) (name : ChannelName) (write : Write) where
  pub name_taken : IsSome (list_of s name) → Makes limits s entries name write (refuses Taken)
  name_taken some = inl (some, refl)

  pub channels_full : list_of s name ≡ None → limits.channels ≤ length s.channels → Makes limits s entries name write (refuses FullChannels)
  channels_full none full = inr (no_list (list_of s name) none, inl (full, refl))
    where
      no_list : (o : Option (List Record)) → o ≡ None → IsSome o → ⊥
      no_list None e h = (let c : false ≡ true = h in cc)
      no_list (Some list) e h = absurd (cc)

-- a channel of the name was found exactly where the state has a list of it
pub some_found : (o : Option (Bor Standing)) (l : Option (List Record)) (n : ℕ) → MatchOption o (l ≡ None) (λ c. option_map (λ list. standing list n) l ≡ Some c.now) → is_some o ≡ true → IsSome l
some_found None l n m e = absurd (cc)
some_found (Some c) None n m e = absurd (cc)
some_found (Some c) (Some list) n m e = refl

pub none_found : (o : Option (Bor Standing)) (l : Option (List Record)) (n : ℕ) → MatchOption o (l ≡ None) (λ c. option_map (λ list. standing list n) l ≡ Some c.now) → is_some o ≡ false → l ≡ None
none_found None l n m e = m
none_found (Some c) l n m e = absurd (cc)
