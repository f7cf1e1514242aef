-- The bodies of `log` and of `channels`: a line for each.
use Rattle.std.specs.Prelude.{ℕ, List, [], ◌∷◌, decimal}
use Rattle.std.specs.List.{flat_map}
use Rattle.pj_name.specs.declared.name.Name.{Name}
use Rattle.pj_name.specs.Name.{hex}
use Rattle.pj_change.specs.Text.{line}
use Rattle.pj_machine.specs.declared.listings.ChannelCount.{ChannelCount}

-- the name of a change
abbrev pub log_line : Name → List ℕ
log_line name = line (hex name.bytes ∷ [])

-- a line for each name
abbrev pub log_text : List Name → List ℕ
log_text = flat_map log_line

-- the name of a channel, and how many changes it has
abbrev pub channel_line : ChannelCount → List ℕ
channel_line c = line (c.name ∷ decimal c.changes ∷ [])

-- a line for each channel
abbrev pub channels_text : List ChannelCount → List ℕ
channels_text = flat_map channel_line
