-- The stretch that ends is kept.
use Rattle.std.proofs.Common.{◌≡◌, ◌∙◌, sym, ap, ◌++◌, option_to_list}
use Rattle.pj_disk.specs.MemDisk.{DiskInMemory, stretch_of}
use Rattle.pj_disk.proofs.Stretches.{ended_elapses}
use Rattle.pj_disk.proofs.mem_disk.MemDiskDisk.sync.Goals as goal

pub returns-in-Ok-clause-time : goal.returns-in-Ok-clause-time
returns-in-Ok-clause-time c =
    let new : DiskInMemory = record {
      bytes = c.self.inside.bytes.items;
      stretch = stretch_of c.self.inside.bytes.items c.keep.new.unsynced;
      past = c.keep.new.past.items;
      calls_left = c.spend.new.calls_left;
      faults = c.self.inside.faults;
    } in
    let bytes : c.self.inside.bytes.items ≡ c.args.self.now.bytes = ap (λ disk. disk.bytes) c.self.view_is in
    ended_elapses c.self.inside.unsynced c.args.self.now new
    (sym (ap (λ disk. disk.stretch) c.self.view_is) ∙ ap (λ file. stretch_of file c.self.inside.unsynced) bytes)
    (c.in-Ok.ensures.1 ∙ ap (λ disk. disk.past ++ option_to_list c.self.inside.unsynced) c.self.view_is)
    bytes
