-- The range is noted before it is written, so each image of now is a torn one of before.
use Rattle.std.proofs.Common.{◌≤◌, length, subst, sym, ap, inl, inr, refl}
use Rattle.pj_disk.specs.Image.{Torn}
use Rattle.pj_disk.specs.MemDisk.{DiskInMemory, stretch_of}
use Rattle.pj_disk.proofs.Ranges.{torn_whole}
use Rattle.pj_disk.proofs.Stretches.{Steps, failed_steps, steps_reached, steps_follow, steps_elapse}
use Rattle.pj_disk.proofs.mem_disk.MemDiskDisk.write_at.Goals as goal

pub returns-then-not-spend-clause-images : goal.returns-then-not-spend-clause-images
returns-then-not-spend-clause-images c =
    let old = c.args.self.now in
    let new : DiskInMemory = record {
      bytes = c.self.inside.bytes.items;
      stretch = stretch_of c.self.inside.bytes.items c.self.inside.unsynced;
      past = c.self.inside.past.items;
      calls_left = c.spend.new.calls_left;
      faults = c.fail.new.faults;
    } in
    let same : Steps old new c.args.at (length c.args.bytes.now) = inr (record {
      bytes = ap (λ disk. disk.bytes) c.self.view_is;
      stretch = ap (λ disk. disk.stretch) c.self.view_is;
      past = ap (λ disk. disk.past) c.self.view_is;
    }) in
    steps_follow old new _ _ same

pub invariant_of-self-in-Ok : goal.invariant_of-self-in-Ok
invariant_of-self-in-Ok c =
    let inside : DiskInMemory = record {
      bytes = c.self.inside.bytes.items;
      stretch = stretch_of c.self.inside.bytes.items c.self.inside.unsynced;
      past = c.self.inside.past.items;
      calls_left = c.self.inside.calls_left;
      faults = c.self.inside.faults;
    } in
    let new : DiskInMemory = record {
      bytes = c.write_noted.new.file.items;
      stretch = stretch_of c.write_noted.new.file.items c.write_noted.new.unsynced;
      past = c.self.inside.past.items;
      calls_left = c.spend.new.calls_left;
      faults = c.self.inside.faults;
    } in
    let within : c.args.at ≤ length c.self.inside.bytes.items = subst (λ disk. c.args.at ≤ length disk.bytes) (sym c.self.view_is) c.requires in
    let torn : Torn c.args.at (length c.args.bytes.now) c.self.inside.bytes.items c.write_noted.new.file.items =
    subst (λ file. Torn c.args.at (length c.args.bytes.now) c.self.inside.bytes.items file) (sym c.in-Ok.ensures.bytes) (torn_whole c.self.inside.bytes.items c.args.at c.args.bytes.now within) in
    let step : Steps inside new c.args.at (length c.args.bytes.now) =
    inl (record { reached = c.self.invariant; torn = torn; noted = c.in-Ok.ensures.stretch; past = refl }) in
    steps_reached inside new _ _ c.self.invariant step

pub invariant_of-self-in-Err : goal.invariant_of-self-in-Err
invariant_of-self-in-Err c =
    let inside : DiskInMemory = record {
      bytes = c.self.inside.bytes.items;
      stretch = stretch_of c.self.inside.bytes.items c.self.inside.unsynced;
      past = c.self.inside.past.items;
      calls_left = c.self.inside.calls_left;
      faults = c.self.inside.faults;
    } in
    let new : DiskInMemory = record {
      bytes = c.write_noted.new.file.items;
      stretch = stretch_of c.write_noted.new.file.items c.write_noted.new.unsynced;
      past = c.self.inside.past.items;
      calls_left = c.spend.new.calls_left;
      faults = c.fail-in-Err.new.faults;
    } in
    let step : Steps inside new c.args.at (length c.args.bytes.now) =
    failed_steps inside new c.args.at (length c.args.bytes.now) c.self.invariant c.in-Err.ensures.bytes refl c.in-Err.ensures.stretch in
    steps_reached inside new _ _ c.self.invariant step

pub returns-in-Ok-clause-images : goal.returns-in-Ok-clause-images
returns-in-Ok-clause-images c =
    let inside : DiskInMemory = record {
      bytes = c.self.inside.bytes.items;
      stretch = stretch_of c.self.inside.bytes.items c.self.inside.unsynced;
      past = c.self.inside.past.items;
      calls_left = c.self.inside.calls_left;
      faults = c.self.inside.faults;
    } in
    let new : DiskInMemory = record {
      bytes = c.write_noted.new.file.items;
      stretch = stretch_of c.write_noted.new.file.items c.write_noted.new.unsynced;
      past = c.self.inside.past.items;
      calls_left = c.spend.new.calls_left;
      faults = c.self.inside.faults;
    } in
    let within : c.args.at ≤ length c.self.inside.bytes.items = subst (λ disk. c.args.at ≤ length disk.bytes) (sym c.self.view_is) c.requires in
    let torn : Torn c.args.at (length c.args.bytes.now) c.self.inside.bytes.items c.write_noted.new.file.items =
    subst (λ file. Torn c.args.at (length c.args.bytes.now) c.self.inside.bytes.items file) (sym c.in-Ok.ensures.bytes) (torn_whole c.self.inside.bytes.items c.args.at c.args.bytes.now within) in
    let step : Steps inside new c.args.at (length c.args.bytes.now) =
    inl (record { reached = c.self.invariant; torn = torn; noted = c.in-Ok.ensures.stretch; past = refl }) in
    steps_follow c.args.self.now new _ _ (subst (λ (disk : DiskInMemory). Steps disk new c.args.at (length c.args.bytes.now)) c.self.view_is step)

pub returns-in-Ok-clause-time : goal.returns-in-Ok-clause-time
returns-in-Ok-clause-time c =
    let inside : DiskInMemory = record {
      bytes = c.self.inside.bytes.items;
      stretch = stretch_of c.self.inside.bytes.items c.self.inside.unsynced;
      past = c.self.inside.past.items;
      calls_left = c.self.inside.calls_left;
      faults = c.self.inside.faults;
    } in
    let new : DiskInMemory = record {
      bytes = c.write_noted.new.file.items;
      stretch = stretch_of c.write_noted.new.file.items c.write_noted.new.unsynced;
      past = c.self.inside.past.items;
      calls_left = c.spend.new.calls_left;
      faults = c.self.inside.faults;
    } in
    let within : c.args.at ≤ length c.self.inside.bytes.items = subst (λ disk. c.args.at ≤ length disk.bytes) (sym c.self.view_is) c.requires in
    let torn : Torn c.args.at (length c.args.bytes.now) c.self.inside.bytes.items c.write_noted.new.file.items =
    subst (λ file. Torn c.args.at (length c.args.bytes.now) c.self.inside.bytes.items file) (sym c.in-Ok.ensures.bytes) (torn_whole c.self.inside.bytes.items c.args.at c.args.bytes.now within) in
    let step : Steps inside new c.args.at (length c.args.bytes.now) =
    inl (record { reached = c.self.invariant; torn = torn; noted = c.in-Ok.ensures.stretch; past = refl }) in
    steps_elapse c.args.self.now new _ _ (subst (λ (disk : DiskInMemory). Steps disk new c.args.at (length c.args.bytes.now)) c.self.view_is step)

pub returns-in-Err-clause-images : goal.returns-in-Err-clause-images
returns-in-Err-clause-images c =
    let inside : DiskInMemory = record {
      bytes = c.self.inside.bytes.items;
      stretch = stretch_of c.self.inside.bytes.items c.self.inside.unsynced;
      past = c.self.inside.past.items;
      calls_left = c.self.inside.calls_left;
      faults = c.self.inside.faults;
    } in
    let new : DiskInMemory = record {
      bytes = c.write_noted.new.file.items;
      stretch = stretch_of c.write_noted.new.file.items c.write_noted.new.unsynced;
      past = c.self.inside.past.items;
      calls_left = c.spend.new.calls_left;
      faults = c.fail-in-Err.new.faults;
    } in
    let step : Steps inside new c.args.at (length c.args.bytes.now) =
    failed_steps inside new c.args.at (length c.args.bytes.now) c.self.invariant c.in-Err.ensures.bytes refl c.in-Err.ensures.stretch in
    steps_follow c.args.self.now new _ _ (subst (λ (disk : DiskInMemory). Steps disk new c.args.at (length c.args.bytes.now)) c.self.view_is step)

pub returns-in-Err-clause-time : goal.returns-in-Err-clause-time
returns-in-Err-clause-time c =
    let inside : DiskInMemory = record {
      bytes = c.self.inside.bytes.items;
      stretch = stretch_of c.self.inside.bytes.items c.self.inside.unsynced;
      past = c.self.inside.past.items;
      calls_left = c.self.inside.calls_left;
      faults = c.self.inside.faults;
    } in
    let new : DiskInMemory = record {
      bytes = c.write_noted.new.file.items;
      stretch = stretch_of c.write_noted.new.file.items c.write_noted.new.unsynced;
      past = c.self.inside.past.items;
      calls_left = c.spend.new.calls_left;
      faults = c.fail-in-Err.new.faults;
    } in
    let step : Steps inside new c.args.at (length c.args.bytes.now) =
    failed_steps inside new c.args.at (length c.args.bytes.now) c.self.invariant c.in-Err.ensures.bytes refl c.in-Err.ensures.stretch in
    steps_elapse c.args.self.now new _ _ (subst (λ (disk : DiskInMemory). Steps disk new c.args.at (length c.args.bytes.now)) c.self.view_is step)
