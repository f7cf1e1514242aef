-- Names of channels.
use Rattle.std.proofs.Common.{◌≡◌, [], ◌∷◌, refl, arith}
use Rattle.std.specs.Prelude.{true}
use Rattle.std.proofs.lemmas.List.Elements.{All-nil, All-cons}
use Rattle.pj_machine.specs.ChannelName.{is_channel_byte, IsChannelName}

-- the name `a`
pub a_channel : IsChannelName (97 ∷ [])
a_channel = record { some = omega arith; short = omega arith; bytes = All-cons (λ b. is_channel_byte b ≡ true) 97 [] refl (All-nil (λ b. is_channel_byte b ≡ true)) }
