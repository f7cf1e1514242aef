-- The limits of the program.
use Rattle.std.specs.Prelude.{◌≡◌}
use Rattle.pj_machine.specs.declared.limits.Limits.{Limits}

-- the limits of the program
pub record AreFull (limits : Limits) : Type 0 where
  pub changes : limits.changes ≡ 65536
  pub bytes : limits.bytes ≡ 1073741824
  pub channels : limits.channels ≡ 4096
  pub entries : limits.entries ≡ 4194304
  pub live : limits.live ≡ 16384
  pub session : limits.session ≡ 1073741824
