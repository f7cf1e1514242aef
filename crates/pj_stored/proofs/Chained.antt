-- What the disk has behind a chain of recorded commands.
use Rattle.std.proofs.Common.{◌≡◌, ◌∙◌, ℕ, ◌-◌, ◌≤◌, Bool, true, false, cond, IsTrue, List, [], ◌∷◌, ◌++◌, length, map, take, inl, inr, refl, sym, ap, subst, arith, append_assoc, append-nil, length-append}
use Rattle.pj_disk.specs.Image.{Only}
use Rattle.pj_disk.specs.Moments.{LeavesOnly}
use Rattle.pj_journal.specs.Appended.{IsBeforeOrAfter}
use Rattle.pj_journal.specs.Log.{LogOver}
use Rattle.pj_journal.specs.Stored.{Stores}
use Rattle.pj_journal.proofs.Moments.{and_then, weaker}
use Rattle.pj_machine.specs.declared.command.Command.{Command}
use Rattle.pj_machine.specs.declared.reply.Numbered.{Numbered}
use Rattle.pj_machine.specs.Told.{is_entered}
use Rattle.pj_session.specs.Calls.{Chain}
use Rattle.pj_session.specs.Entering.{accepted}
use Rattle.pj_wire.specs.Requests.{spelling}
use Rattle.pj_stored.specs.Prefixes.{StoresPrefix}
use Rattle.pj_stored.specs.Kept.{KeptBehind, kept_of}
use Rattle.pj_stored.specs.Recorded.{Recorded}

-- ---- prefixes

-- the first strings of a list are the ones that it begins with
take_first : (first more : List (List ℕ)) → take (length first) (first ++ more) ≡ first
take_first [] [] = refl
take_first [] (s ∷ more) = refl
take_first (s ∷ first) more = ap (λ t. s ∷ t) (take_first first more)

-- what stores the first strings stores a prefix
pub prefix : (first more : List (List ℕ)) (least : ℕ) (c : List ℕ) → least ≤ length first → Stores c first → StoresPrefix least (first ++ more) c
prefix first more least c enough stored = record {
  count = length first;
  enough = enough;
  within = omega (arith, length-append first more);
  stored = subst (λ l. Stores c l) (sym (take_first first more)) stored;
}

-- so does what stores them all
pub prefix_all : (all : List (List ℕ)) (least : ℕ) (c : List ℕ) → least ≤ length all → Stores c all → StoresPrefix least all c
prefix_all all least c enough stored = subst (λ l. StoresPrefix least l c) (append-nil all) (prefix all [] least c enough stored)

-- a prefix is one where fewer are asked for
fewer : (low high : ℕ) (all : List (List ℕ)) (c : List ℕ) → low ≤ high → StoresPrefix high all c → StoresPrefix low all c
fewer low high all c under f = record { count = f.count; enough = omega (arith, f.enough); within = f.within; stored = f.stored }

-- the list of before or with one string more is a prefix
either_prefix : (strings : List (List ℕ)) (string : List ℕ) (more : List (List ℕ)) (c : List ℕ) → IsBeforeOrAfter strings string c →
    StoresPrefix (length strings) (strings ++ string ∷ more) c
either_prefix strings string more c (inl before) = prefix strings (string ∷ more) (length strings) c (omega arith) before
either_prefix strings string more c (inr after) =
    subst (λ l. StoresPrefix (length strings) l c) (append_assoc strings (string ∷ []) more)
    (prefix (strings ++ string ∷ []) more (length strings) c (omega (arith, length-append strings (string ∷ []))) after)

module _ {K : Type 0} (tells : K → Bool) (seen : K → List ℕ) (may_leave : K → List ℕ → Type 0) (moment : K → ℕ)
    (left_since : K → ℕ → List ℕ → Type 0) (faults : K → ℕ) where
  -- one link
  abbrev Link : LogOver K → Command → Numbered → LogOver K → Type 0
  Link s x r t = Recorded tells seen may_leave moment left_since faults s x r t

  -- the disk tells what it told
  pub told_all : (s t : LogOver K) (xs : List Command) (rs : List Numbered) → Chain Link s xs rs t → tells t.disk ≡ tells s.disk
  told_all s t [] [] p = ap (λ (l : LogOver K). tells l.disk) p
  told_all s t (x ∷ xs) (r ∷ rs) p = told_all p.0 t xs rs p.2 ∙ p.1.told
  told_all s t [] (r ∷ rs) p = absurd p
  told_all s t (x ∷ xs) [] p = absurd p

  -- after a failed append nothing is entered
  stays : (s t : LogOver K) (xs : List Command) (rs : List Numbered) → Chain Link s xs rs t → s.failed ≡ true → (t ≡ s) × (accepted xs rs ≡ [])
  stays s t [] [] p failed = (p, refl)
  stays s t (x ∷ xs) (r ∷ rs) p failed = by_told (is_entered r) refl (stays p.0 t xs rs p.2)
    where
      by_told : (b : Bool) → is_entered r ≡ b → (p.0.failed ≡ true → (t ≡ p.0) × (accepted xs rs ≡ [])) →
          (t ≡ s) × (accepted (x ∷ xs) (r ∷ rs) ≡ [])
      by_told true is rest = absurd (let fine = p.1.sound is in cc)
      by_told false is rest =
          let same = p.1.quiet is in
          let more = rest (ap (λ (l : LogOver K). l.failed) same ∙ failed) in
          (more.0 ∙ same, ap (λ b. cond b (x ∷ accepted xs rs) (accepted xs rs)) is ∙ more.1)
  stays s t [] (r ∷ rs) p failed = absurd p
  stays s t (x ∷ xs) [] p failed = absurd p

  -- the same where less is asked before the end is told
  pub sounder : (s t : LogOver K) (Sound Safe : Type 0) (strings all : List (List ℕ)) → (Safe → Sound) →
      KeptBehind seen may_leave moment left_since s t Sound strings all → KeptBehind seen may_leave moment left_since s t Safe strings all
  sounder s t Sound Safe strings all safe k = record {
    moments = k.moments;
    durable = λ h. k.durable (safe h);
    stored = λ h. k.stored (safe h);
    all_but_last = k.all_but_last;
  }

  module _ (counts_now : (disk : K) (t : ℕ) (c : List ℕ) → t ≤ moment disk → may_leave disk c → left_since disk t c)
      (only_now : (disk : K) (c : List ℕ) → left_since disk (moment disk) c → may_leave disk c) where
    -- nothing was done
    kept_none : (s : LogOver K) (strings : List (List ℕ)) → Only (seen s.disk) (may_leave s.disk) → Stores (seen s.disk) strings →
        KeptBehind seen may_leave moment left_since s s (s.failed ≡ false) strings strings
    kept_none s strings only stored =
        let has : (least : ℕ) → least ≤ length strings → (c : List ℕ) → may_leave s.disk c → StoresPrefix least strings c =
        λ least enough c leaves. prefix_all strings least c enough (subst (λ f. Stores f strings) (sym (only c leaves)) stored) in
        record {
          moments = record {
            later = omega arith;
            each = λ c left. has (length strings) (omega arith) c (only_now s.disk c left);
            before = λ t c le left. inl left;
          };
          durable = λ h. only;
          stored = λ h. stored;
          all_but_last = has (length strings - 1) (omega arith);
        }

    module _ (s m t : LogOver K) (x : Command) (r : Numbered) (strings more : List (List ℕ)) (link : Link s x r m) (is : is_entered r ≡ true)
        (told : IsTrue (tells s.disk)) (stored : Stores (seen s.disk) strings) where
      -- the append of one request, over its moments
      run : LeavesOnly moment left_since s.disk m.disk (IsBeforeOrAfter strings (spelling x))
      run = link.moments is told strings stored

      -- each of these moments leaves a prefix
      prefixes : LeavesOnly moment left_since s.disk m.disk (StoresPrefix (length strings) (strings ++ spelling x ∷ more))
      prefixes = weaker moment left_since s.disk m.disk (StoresPrefix (length strings) (strings ++ spelling x ∷ more))
          (IsBeforeOrAfter strings (spelling x)) run
          (either_prefix strings (spelling x) more)

      -- one request that is on the disk, and those behind it
      kept_more : KeptBehind seen may_leave moment left_since m t (t.failed ≡ false) (strings ++ spelling x ∷ []) ((strings ++ spelling x ∷ []) ++ more) →
          KeptBehind seen may_leave moment left_since s t (t.failed ≡ false) strings (strings ++ spelling x ∷ more)
      kept_more behind =
          let all : List (List ℕ) = strings ++ spelling x ∷ more in
          let rest : KeptBehind seen may_leave moment left_since m t (t.failed ≡ false) (strings ++ spelling x ∷ []) all =
          subst (λ l. KeptBehind seen may_leave moment left_since m t (t.failed ≡ false) (strings ++ spelling x ∷ []) l)
          (append_assoc strings (spelling x ∷ []) more) behind in
          record {
            moments = and_then moment left_since s.disk m.disk t.disk (StoresPrefix (length strings) all)
                (StoresPrefix (length (strings ++ spelling x ∷ [])) all) prefixes rest.moments
                (λ c. fewer (length strings) (length (strings ++ spelling x ∷ [])) all c (omega (arith, length-append strings (spelling x ∷ []))));
            durable = rest.durable;
            stored = rest.stored;
            all_but_last = rest.all_but_last;
          }

    -- one request whose append failed
    kept_last : (s m : LogOver K) (x : Command) (r : Numbered) (strings : List (List ℕ)) → Link s x r m → is_entered r ≡ true →
        IsTrue (tells s.disk) → Stores (seen s.disk) strings → m.failed ≡ true →
        KeptBehind seen may_leave moment left_since s m (m.failed ≡ false) strings (strings ++ spelling x ∷ [])
    kept_last s m x r strings link is told stored failed =
        let last = run s m m x r strings [] link is told stored in
        let size = length-append strings (spelling x ∷ []) in
        record {
          moments = prefixes s m m x r strings [] link is told stored;
          durable = λ h. absurd (let k : true ≡ false = sym failed ∙ h in cc k);
          stored = λ h. absurd (let k : true ≡ false = sym failed ∙ h in cc k);
          all_but_last = λ c leaves.
              fewer (length (strings ++ spelling x ∷ []) - 1) (length strings) (strings ++ spelling x ∷ []) c (omega arith)
              (either_prefix strings (spelling x) [] c (last.each c (counts_now m.disk (moment s.disk) c last.later leaves)));
        }

    -- what the rest of a chain keeps, whatever was stored before it
    abbrev Keeps : LogOver K → LogOver K → List (List ℕ) → Type 0
    Keeps m t more = IsTrue (tells m.disk) → Only (seen m.disk) (may_leave m.disk) → (strings : List (List ℕ)) → Stores (seen m.disk) strings →
        KeptBehind seen may_leave moment left_since m t (t.failed ≡ false) strings (strings ++ more)

    module _ (s m t : LogOver K) (x : Command) (r : Numbered) (xs : List Command) (rs : List Numbered) (link : Link s x r m) (chain : Chain Link m xs rs t)
        (told : IsTrue (tells s.disk)) (only : Only (seen s.disk) (may_leave s.disk)) (strings : List (List ℕ)) (stored : Stores (seen s.disk) strings) where
      -- what is kept where the rest of the chain keeps these strings
      abbrev Goal : List (List ℕ) → Type 0
      Goal more = KeptBehind seen may_leave moment left_since s t (t.failed ≡ false) strings (strings ++ more)

      -- the disk tells behind the request what it told before
      told_there : IsTrue (tells m.disk)
      told_there = subst IsTrue (sym link.told) told

      -- an accepted request, by whether its append failed
      by_failed : (b : Bool) → m.failed ≡ b → is_entered r ≡ true → Keeps m t (kept_of xs rs) → Goal (spelling x ∷ kept_of xs rs)
      by_failed false fine is rest =
          kept_more s m t x r strings (kept_of xs rs) link is told stored
          (rest told_there (link.durable is fine told) (strings ++ spelling x ∷ []) (link.appended is fine told strings stored))
      by_failed true failed is rest =
          let end = stays m t xs rs chain failed in
          subst (λ l. KeptBehind seen may_leave moment left_since s l (l.failed ≡ false) strings (strings ++ spelling x ∷ kept_of xs rs)) (sym end.0)
          (subst (λ l. KeptBehind seen may_leave moment left_since s m (m.failed ≡ false) strings (strings ++ spelling x ∷ map spelling l)) (sym end.1)
          (kept_last s m x r strings link is told stored failed))

      -- one command more, by whether it was accepted
      kept_on : (b : Bool) → is_entered r ≡ b → Keeps m t (kept_of xs rs) → Goal (kept_of (x ∷ xs) (r ∷ rs))
      kept_on true is rest =
          subst (λ b. Goal (map spelling (cond b (x ∷ accepted xs rs) (accepted xs rs)))) (sym is) (by_failed m.failed refl is rest)
      kept_on false is rest =
          let same = link.quiet is in
          subst (λ b. Goal (map spelling (cond b (x ∷ accepted xs rs) (accepted xs rs)))) (sym is)
          (subst (λ l. KeptBehind seen may_leave moment left_since l t (t.failed ≡ false) strings (strings ++ kept_of xs rs)) same
          (rest told_there (subst (λ l. Only (seen l.disk) (may_leave l.disk)) (sym same) only) strings
          (subst (λ l. Stores (seen l.disk) strings) (sym same) stored)))

    -- from what is read and is the only image, each list that it stores is kept
    pub kept : (s t : LogOver K) (xs : List Command) (rs : List Numbered) → Chain Link s xs rs t → IsTrue (tells s.disk) →
        Only (seen s.disk) (may_leave s.disk) → (strings : List (List ℕ)) → Stores (seen s.disk) strings →
        KeptBehind seen may_leave moment left_since s t (t.failed ≡ false) strings (strings ++ kept_of xs rs)
    kept s t [] [] p told only strings stored =
        subst (λ l. KeptBehind seen may_leave moment left_since s l (l.failed ≡ false) strings (strings ++ [])) (sym p)
        (subst (λ l. KeptBehind seen may_leave moment left_since s s (s.failed ≡ false) strings l) (sym (append-nil strings))
        (kept_none s strings only stored))
    kept s t (x ∷ xs) (r ∷ rs) p told only strings stored =
        kept_on s p.0 t x r xs rs p.1 p.2 told only strings stored (is_entered r) refl (kept p.0 t xs rs p.2)
    kept s t [] (r ∷ rs) p told only strings stored = absurd p
    kept s t (x ∷ xs) [] p told only strings stored = absurd p
