-- What the life of a kept repository leaves.
use Rattle.std.specs.Prelude.{◌≡◌}
use Rattle.pj_io.specs.Meanings.{Streams}
use Rattle.pj_machine.specs.declared.limits.Limits.{Limits}
use Rattle.pj_stored.specs.declared.store.StoreRefusal.{StoreRefusal}
use Rattle.pj_stored.specs.declared.store.StoreRefusal.TheVariants as refusal
use Rattle.pj_keep.specs.declared.stop.Stop.{Stop}
use Rattle.pj_keep.specs.declared.stop.Stop.TheVariants as stop
use Rattle.pj_keep.specs.Disks.{Disks}
use Rattle.pj_keep.specs.Life.{HasKept, HasLeftOff}
use Rattle.pj_kept.specs.declared.life.Ending.{Ending}
use Rattle.pj_kept.specs.declared.life.Ending.TheVariants.{Spoke, Stopped}
use Rattle.pj_kept.specs.declared.life.Life.{Life}

-- the disk of a refusal
abbrev pub store_left : {K : Type 0} → StoreRefusal K → K
store_left (refusal.Foreign store) = store
store_left (refusal.Store store) = store
store_left (refusal.Memory store) = store

-- the refusal without the disk
abbrev pub stop_left : {K : Type 0} → StoreRefusal K → Stop
stop_left (refusal.Foreign store) = stop.Foreign
stop_left (refusal.Store store) = stop.Store
stop_left (refusal.Memory store) = stop.Memory

-- it was restored and spoke; or it was not restored, and then nothing was taken or given
abbrev pub HasEnded : {K S D : Type 0} → Disks K → Streams S D → Limits → K → S → D → Life K S D → Ending → Type 0
HasEnded disks streams limits given source sink life (Spoke end) =
    HasKept disks limits given life.store life.journal streams source life.source sink life.sink end
HasEnded disks streams limits given source sink life (Stopped why) =
    HasLeftOff disks limits given life.store life.journal why × (life.source ≡ source) × (life.sink ≡ sink)

-- what a life over this disk and these streams left, by how it ended
abbrev pub HasLived : {K S D : Type 0} → Disks K → Streams S D → Limits → K → S → D → Life K S D → Type 0
HasLived disks streams limits given source sink life = HasEnded disks streams limits given source sink life life.ending
