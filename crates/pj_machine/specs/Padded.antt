-- The bytes of a channel's name with zeros behind them.
use Rattle.std.specs.Prelude.{◌≡◌, ℕ, ◌-◌, List, ◌++◌, length, take, replicate}
use Rattle.pj_machine.specs.ChannelName.{IsChannelName}

-- 64 bytes: the text, and zeros
abbrev pub padded : List ℕ → List ℕ
padded text = text ++ replicate (64 - length text) 0

-- the first bytes, as many as len says, are a channel's name, and the others are zeros
pub record IsPadded (bytes : List ℕ) (len : ℕ) : Type 0 where
  pub name : IsChannelName (take len bytes)
  pub zeros : bytes ≡ padded (take len bytes)
  pub count : length (take len bytes) ≡ len
