-- How the images of a disk in memory follow one another.
use Rattle.std.proofs.Common.{◌≡◌, ◌∙◌, ◌⊎◌, inl, inr, ⊎_elim, ℕ, zero, suc, ◌≤◌, Bool, true, false, if◌then◌else◌, List, [], ◌∷◌, ◌++◌, length, drop, Option, None, Some, option_to_list, refl, sym, ap, subst, arith, length-append}
use Rattle.std.proofs.lemmas.List.{append-nil}
use Rattle.pj_disk.specs.Image.{Torn, Follows}
use Rattle.pj_disk.specs.Moments.{Elapses}
use Rattle.pj_disk.specs.MemDisk.{Stretch, DiskInMemory, stretch_of, MayLeaveIn, MayLeave, HadLeft, LeftSince}
use Rattle.pj_disk.proofs.Ranges.{torn_same, reaches_add, reaches_last, reaches_same}

-- a range is noted in the stretch, and what is there is torn in it
pub record Noted (old new : DiskInMemory) (at n : ℕ) : Type 0 where
  pub reached : MayLeaveIn old.stretch old.bytes
  pub torn : Torn at n old.bytes new.bytes
  pub noted : new.stretch ≡ record old.stretch { ranges = old.stretch.ranges ++ (at, n) ∷ [] }
  pub past : new.past ≡ old.past

-- what is there is reached by then too
noted_reached : (old new : DiskInMemory) (at n : ℕ) → Noted old new at n → MayLeaveIn new.stretch new.bytes
noted_reached old new at n step =
    subst (λ stretch. MayLeaveIn stretch new.bytes) (sym step.noted) (reaches_add old.stretch.synced old.stretch.ranges (at, n) old.bytes new.bytes step.reached step.torn)

noted_in : (old new : DiskInMemory) (at n : ℕ) → Noted old new at n → (c : List ℕ) → MayLeaveIn old.stretch c → MayLeaveIn new.stretch c
noted_in old new at n step c reached =
    subst (λ stretch. MayLeaveIn stretch c) (sym step.noted) (reaches_add old.stretch.synced old.stretch.ranges (at, n) c c reached (torn_same at n c))

-- each image of before is one of now
noted_grows : (old new : DiskInMemory) (at n : ℕ) → Noted old new at n → (c : List ℕ) → MayLeave old c → MayLeave new c
noted_grows old new at n step c (inl same) = inr (noted_in old new at n step c (subst (λ file. MayLeaveIn old.stretch file) (sym same) step.reached))
noted_grows old new at n step c (inr reached) = inr (noted_in old new at n step c reached)

-- each image of now is a torn one of before
noted_follows : (old new : DiskInMemory) (at n : ℕ) → Noted old new at n → Follows (Torn at n) (MayLeave old) (MayLeave new)
noted_follows old new at n step c (inl same) = (old.bytes, inl refl, subst (λ file. Torn at n old.bytes file) (sym same) step.torn)
noted_follows old new at n step c (inr reached) =
    let last = reaches_last old.stretch.synced old.stretch.ranges (at, n) c (subst (λ stretch. MayLeaveIn stretch c) step.noted reached) in
    (last.0, inr last.1, last.2)

-- nothing was written
pub record Unwritten (old new : DiskInMemory) : Type 0 where
  pub bytes : new.bytes ≡ old.bytes
  pub stretch : new.stretch ≡ old.stretch
  pub past : new.past ≡ old.past

unwritten_grows : (old new : DiskInMemory) → Unwritten old new → (c : List ℕ) → MayLeave old c → MayLeave new c
unwritten_grows old new step c (inl same) = inl (same ∙ sym step.bytes)
unwritten_grows old new step c (inr reached) = inr (subst (λ stretch. MayLeaveIn stretch c) (sym step.stretch) reached)

unwritten_none : (old new : DiskInMemory) → Unwritten old new → (c : List ℕ) → MayLeave new c → MayLeave old c
unwritten_none old new step c (inl same) = inl (same ∙ step.bytes)
unwritten_none old new step c (inr reached) = inr (subst (λ stretch. MayLeaveIn stretch c) step.stretch reached)

unwritten_follows : (old new : DiskInMemory) (at n : ℕ) → Unwritten old new → Follows (Torn at n) (MayLeave old) (MayLeave new)
unwritten_follows old new at n step c left = (c, unwritten_none old new step c left, torn_same at n c)

-- what is written at most: the range is noted, or nothing changes
abbrev pub Steps : DiskInMemory → DiskInMemory → ℕ → ℕ → Type 0
Steps old new at n = Noted old new at n ⊎ Unwritten old new

-- a write that failed
pub failed_steps : (old new : DiskInMemory) (at n : ℕ) → MayLeaveIn old.stretch old.bytes → new.bytes ≡ old.bytes → new.past ≡ old.past
    → (new.stretch ≡ old.stretch) ⊎ (new.stretch ≡ record old.stretch { ranges = old.stretch.ranges ++ (at, n) ∷ [] })
    → Steps old new at n
failed_steps old new at n reached bytes past (inl same) = inr (record { bytes = bytes; stretch = same; past = past })
failed_steps old new at n reached bytes past (inr noted) =
    inl (record {
      reached = reached;
      torn = subst (λ file. Torn at n old.bytes file) (sym bytes) (torn_same at n old.bytes);
      noted = noted;
      past = past;
    })

pub steps_reached : (old new : DiskInMemory) (at n : ℕ) → MayLeaveIn old.stretch old.bytes → Steps old new at n → MayLeaveIn new.stretch new.bytes
steps_reached old new at n reached (inl step) = noted_reached old new at n step
steps_reached old new at n reached (inr step) =
    subst (λ stretch. MayLeaveIn stretch new.bytes) (sym step.stretch) (subst (λ file. MayLeaveIn old.stretch file) (sym step.bytes) reached)

pub steps_follow : (old new : DiskInMemory) (at n : ℕ) → Steps old new at n → Follows (Torn at n) (MayLeave old) (MayLeave new)
steps_follow old new at n (inl step) = noted_follows old new at n step
steps_follow old new at n (inr step) = unwritten_follows old new at n step

-- the stretch goes on
elapses_on : (old new : DiskInMemory) → new.past ≡ old.past → ((c : List ℕ) → MayLeave old c → MayLeave new c)
    → Elapses (length old.past) (length new.past) (LeftSince old) (LeftSince new) (MayLeave new)
elapses_on old new same grows = record {
  later = omega (arith, ap length same);
  nothing_else = λ t c le. ⊎_elim (λ now. inr now) (λ had. inl (inr (subst (λ past. HadLeft (drop t past) c) same had)));
  keeps = λ t c le. ⊎_elim (λ was. inl (grows c was)) (λ had. inr (subst (λ past. HadLeft (drop t past) c) (sym same) had));
}

pub steps_elapse : (old new : DiskInMemory) (at n : ℕ) → Steps old new at n
    → Elapses (length old.past) (length new.past) (LeftSince old) (LeftSince new) (MayLeave new)
steps_elapse old new at n (inl step) = elapses_on old new step.past (noted_grows old new at n step)
steps_elapse old new at n (inr step) = elapses_on old new step.past (unwritten_grows old new step)

had_before : (past : List Stretch) (last : Stretch) (c : List ℕ) → HadLeft past c → HadLeft (past ++ last ∷ []) c
had_before [] last c had = absurd had
had_before (stretch ∷ past) last c (inl here) = inl here
had_before (stretch ∷ past) last c (inr there) = inr (had_before past last c there)

had_last : (past : List Stretch) (last : Stretch) (c : List ℕ) → MayLeaveIn last c → HadLeft (past ++ last ∷ []) c
had_last [] last c left = inl left
had_last (stretch ∷ past) last c left = inr (had_last past last c left)

had_either : (past : List Stretch) (last : Stretch) (c : List ℕ) → HadLeft (past ++ last ∷ []) c → HadLeft past c ⊎ MayLeaveIn last c
had_either [] last c (inl here) = inr here
had_either [] last c (inr none) = absurd none
had_either (stretch ∷ past) last c (inl here) = inl (inl here)
had_either (stretch ∷ past) last c (inr there) = ⊎_elim (λ had. inl (inr had)) (λ left. inr left) (had_either past last c there)

drop_push : (t : ℕ) (past : List Stretch) (last : Stretch) → t ≤ length past → drop t (past ++ last ∷ []) ≡ drop t past ++ last ∷ []
drop_push zero past last le = refl
drop_push (suc t) [] last le = absurd (omega arith)
drop_push (suc t) (stretch ∷ past) last le = drop_push t past last (omega arith)

-- the stretch ends, where there is one, and all that a read gives is on the disk
pub ended_elapses : (ended : Option Stretch) (old new : DiskInMemory)
    → old.stretch ≡ stretch_of old.bytes ended → new.past ≡ old.past ++ option_to_list ended → new.bytes ≡ old.bytes
    → Elapses (length old.past) (length new.past) (LeftSince old) (LeftSince new) (MayLeave new)
ended_elapses None old new was past same = elapses_on old new (past ∙ append-nil old.past) (λ c. ⊎_elim
    (λ now. inl (now ∙ sym same))
    (λ reached. inl (subst (λ stretch. MayLeaveIn stretch c) was reached ∙ sym same)))
ended_elapses (Some last) old new was past same = record {
  later = omega (arith, ap length past, length-append old.past (last ∷ []));
  nothing_else = λ t c le. ⊎_elim
      (λ now. inr now)
      (λ had. inl (⊎_elim (λ before. inr before) (λ left. inl (inr (subst (λ stretch. MayLeaveIn stretch c) (sym was) left))) (had_either (drop t old.past) last c (subst (λ stretches. HadLeft stretches c) (at_place t le) had))));
  keeps = λ t c le. ⊎_elim
      (⊎_elim
      (λ now. inl (inl (now ∙ sym same)))
      (λ left. inr (subst (λ stretches. HadLeft stretches c) (sym (at_place t le)) (had_last (drop t old.past) last c (subst (λ stretch. MayLeaveIn stretch c) was left)))))
      (λ had. inr (subst (λ stretches. HadLeft stretches c) (sym (at_place t le)) (had_before (drop t old.past) last c had)));
}
  where
    at_place : (t : ℕ) → t ≤ length old.past → drop t new.past ≡ drop t old.past ++ last ∷ []
    at_place t le = ap (drop t) past ∙ drop_push t old.past last le

-- both that a crash makes of a disk in memory are images of it
pub left_by_crash : (disk : DiskInMemory) (synced : Bool) → MayLeave disk (if synced then disk.stretch.synced else disk.bytes)
left_by_crash disk true = inr (reaches_same disk.stretch.synced disk.stretch.ranges)
left_by_crash disk false = inl refl
