-- A session that has all its requests, and no fault, ends well.
use Rattle.std.proofs.Common.{◌≡◌, ◌≢◌, ◌⊎◌, ℕ, ◌+◌, ◌<◌, ◌≤◌, Bool, true, false, IsTrue, List, [], ◌∷◌, ◌++◌, length, All, refl, sym, ◌∙◌, ap, subst, inl, inr, arith, append_assoc, append-nil, length-append}
use Rattle.std.proofs.lemmas.List.Elements.{All-head, All-tail}
use Rattle.pj_io.specs.Told.{Where}
use Rattle.pj_machine.specs.declared.command.Command.{Command}
use Rattle.pj_machine.specs.declared.command.Command.TheVariants.{Quit}
use Rattle.pj_machine.specs.declared.reply.Numbered.{Numbered}
use Rattle.pj_wire.specs.Requests.{spelling, spellings, quitting, IsCall, IsStrange, Begins, HasRequests}
use Rattle.pj_wire.proofs.Fronts.{either_begins}
use Rattle.pj_wire.proofs.Readings.{one_reading, strange_stays}
use Rattle.pj_wire.proofs.Readings.{spellings_append}
use Rattle.pj_session.proofs.FirstRequests.{first_requests}
use Rattle.pj_session.specs.declared.end.End.{End}
use Rattle.pj_session.specs.declared.end.End.TheVariants.{Done, ReadFault, WriteFault, Bad, Cut, Spent, Memory, StoreFault}
use Rattle.pj_session.specs.declared.end.Ended.{Ended}
use Rattle.pj_session.specs.Session.{IsSession}
use Rattle.pj_serve.specs.declared.status.Status.TheVariants as status
use Rattle.pj_serve.specs.Complete.{IsComplete}
use Rattle.pj_serve.specs.Status.{unless_done, first_end, status_after}
use Rattle.pj_load.proofs.ScriptEnds.{same_behind, behind}

-- bytes that begin no request do not stand among complete bytes
not_strange : (limit : ℕ) (taken left : List ℕ) (xs : List Command) (rest : List ℕ) → Begins taken xs false rest → IsStrange rest → IsComplete limit (taken ++ left) → ⊥
not_strange limit taken left xs rest begins strange complete =
    let all : Begins (taken ++ left) xs false (rest ++ left) = record {
      whole = ap (λ t. t ++ left) begins.whole ∙ append_assoc (spellings xs ++ []) rest left;
      each = begins.each;
    } in
    let first = first_requests (taken ++ left) (rest ++ left) complete.rest xs complete.commands complete.quit all complete.requests in
    let after : spellings xs ++ (rest ++ left) ≡ spellings xs ++ (spellings first.0 ++ (quitting complete.quit ++ complete.rest)) =
    ap (λ t. t ++ (rest ++ left)) (sym (append-nil (spellings xs))) ∙ sym all.whole ∙ complete.requests.begins.whole ∙ append_assoc (spellings complete.commands) (quitting complete.quit) complete.rest
    ∙ ap (λ ys. spellings ys ++ (quitting complete.quit ++ complete.rest)) (sym first.1) ∙ ap (λ t. t ++ (quitting complete.quit ++ complete.rest)) (spellings_append xs first.0)
    ∙ append_assoc (spellings xs) (spellings first.0) (quitting complete.quit ++ complete.rest) in
    by_more first.0 complete.quit complete.rest (subst (λ ys. All IsCall ys) (sym first.1) complete.requests.begins.each)
    (λ none. nothing_more complete.quit complete.rest complete.within none)
    (same_behind (spellings xs) (rest ++ left) (spellings first.0 ++ (quitting complete.quit ++ complete.rest)) after)
  where
    stays : IsStrange (rest ++ left)
    stays = strange_stays rest left strange

    nothing_more : (quit : Bool) (end : List ℕ) → ((quit ≡ true) × (length (taken ++ left) ≤ limit + length end)) ⊎ ((end ≡ []) × (length (taken ++ left) < limit)) → quit ≡ false → end ≡ []
    nothing_more quit end within none = elim within [ inl w ↦ let h : true ≡ false = sym w.0 ∙ none in cc | inr w ↦ w.0 ]

    by_more : (zs : List Command) (quit : Bool) (end : List ℕ) → All IsCall (xs ++ zs) → (quit ≡ false → end ≡ []) → rest ++ left ≡ spellings zs ++ (quitting quit ++ end) → ⊥
    by_more [] true end calls none e = stays.has_none Quit end tt e
    by_more [] false end calls none e = stays.begins_none Quit (spelling Quit) tt (ap (λ t. t ++ spelling Quit) (e ∙ none refl))
    by_more (z ∷ zs) quit end calls none e = stays.has_none z (spellings zs ++ (quitting quit ++ end)) (behind IsCall xs z zs calls).allowed (e ∙ append_assoc (spelling z) (spellings zs) (quitting quit ++ end))

-- complete bytes do not end within a request
not_cut : (limit : ℕ) (taken : List ℕ) (xs : List Command) (rest : List ℕ) → HasRequests taken xs false rest → 0 < length rest → IsComplete limit taken → ⊥
not_cut limit taken xs rest requests some complete =
    let same = one_reading taken xs complete.commands false complete.quit rest complete.rest requests complete.requests in
    elim complete.within [
      | inl w ↦ let h : false ≡ true = same.1 ∙ w.0 in cc
      | inr w ↦ let size : length rest ≡ 0 = ap (λ (t : List ℕ). length t) (same.2 ∙ w.0) in absurd (omega arith)
    ]

-- the requests, and the one to quit
abbrev to_quit : List Command → List ℕ
to_quit xs = spellings xs ++ quitting true

-- complete bytes are not cut off by the limit
not_spent : (limit : ℕ) (taken left : List ℕ) (xs : List Command) (rest : List ℕ) → HasRequests taken xs false rest → length taken ≡ limit → IsComplete limit (taken ++ left) → ⊥
not_spent limit taken left xs rest requests full complete =
    elim complete.within [ inl w ↦ quits w.0 w.1 | inr w ↦ let size = length-append taken left in let short = w.1 in absurd (omega arith) ]
  where
    -- the request to quit stands within what was taken
    quits_within : (more : List ℕ) → taken ≡ to_quit complete.commands ++ more → ⊥
    quits_within more e =
        let others : HasRequests taken complete.commands true more = record {
          begins = record { whole = e; each = complete.requests.begins.each };
          no_more = λ h. absurd (cc h);
        } in
        let same = (one_reading taken xs complete.commands false true rest more requests others).1 in cc

    quits : complete.quit ≡ true → length (taken ++ left) ≤ limit + length complete.rest → ⊥
    quits quit few =
        let whole : taken ++ left ≡ to_quit complete.commands ++ complete.rest = complete.requests.begins.whole ∙ ap (λ q. (spellings complete.commands ++ quitting q) ++ complete.rest) quit in
        let size : length (taken ++ left) ≡ length (to_quit complete.commands) + length complete.rest = ap (λ (t : List ℕ). length t) whole ∙ length-append (to_quit complete.commands) complete.rest in
        elim (either_begins taken left (to_quit complete.commands) complete.rest whole) [
          | inl more ↦ let size' : length taken + length more.0 ≡ length (to_quit complete.commands) = sym (length-append taken more.0) ∙ ap (λ (t : List ℕ). length t) more.1 in
              let none : more.0 ≡ [] = nothing more.0 (omega arith) in
              quits_within [] (sym (append-nil taken) ∙ ap (λ t. taken ++ t) (sym none) ∙ more.1 ∙ sym (append-nil (to_quit complete.commands)))
          | inr more ↦ quits_within more.0 more.1
        ]
      where
        nothing : (t : List ℕ) → length t ≡ 0 → t ≡ []
        nothing [] e = refl
        nothing (b ∷ t) e = absurd (omega arith)

-- done, or want of memory
abbrev pub IsGood : End → Type 0
IsGood end = (end ≡ Done) ⊎ (end ≡ Memory)

module _ (limit : ℕ) (tells : Bool) (bytes later : List ℕ) (told : IsTrue tells) (complete : IsComplete limit bytes) where
  Took : List ℕ → Type 0
  Took taken = Where tells (bytes ≡ taken ++ later)

  pub good_end : (Did : List Command → List Numbered → Type 0) (end : End) → IsSession limit (λ taken. Where tells (bytes ≡ taken ++ later)) (Where tells (later ≡ [])) Did end
      → end ≢ ReadFault → end ≢ WriteFault → end ≢ StoreFault → IsGood end
  good_end Did Done s read write store = inl refl
  good_end Did Memory s read write store = inr refl
  good_end Did ReadFault s read write store = absurd (read refl)
  good_end Did WriteFault s read write store = absurd (write refl)
  good_end Did StoreFault s read write store = absurd (store refl)
  good_end Did Bad s read write store =
      absurd (not_strange limit s.taken later s.requests s.rest (subst (λ q. Begins s.taken s.requests q s.rest) s.ends.0 s.asked.begins) s.ends.1 (subst (IsComplete limit) (s.took told) complete))
  good_end Did Cut s read write store =
      let none : bytes ≡ s.taken = s.took told ∙ ap (λ t. s.taken ++ t) (s.ends.4 told) ∙ append-nil s.taken in
      absurd (not_cut limit s.taken s.requests s.rest (subst (λ q. HasRequests s.taken s.requests q s.rest) s.ends.0 s.asked) s.ends.2 (subst (IsComplete limit) none complete))
  good_end Did Spent s read write store =
      absurd (not_spent limit s.taken later s.requests s.rest (subst (λ q. HasRequests s.taken s.requests q s.rest) s.ends.0 s.asked) s.ends.2 (subst (IsComplete limit) (s.took told) complete))

-- the first end and the others
good_first : (end : End) (ends : List Ended) → IsGood end → (status_after (first_end ends) true ≡ status.Done) ⊎ (status_after (first_end ends) true ≡ status.Memory)
    → (status_after (unless_done end (first_end ends)) true ≡ status.Done) ⊎ (status_after (unless_done end (first_end ends)) true ≡ status.Memory)
good_first Done ends good rest = rest
good_first Memory ends good rest = inr refl
good_first ReadFault ends good rest = absurd (elim good [ inl e ↦ cc | inr e ↦ cc ])
good_first WriteFault ends good rest = absurd (elim good [ inl e ↦ cc | inr e ↦ cc ])
good_first Bad ends good rest = absurd (elim good [ inl e ↦ cc | inr e ↦ cc ])
good_first Cut ends good rest = absurd (elim good [ inl e ↦ cc | inr e ↦ cc ])
good_first Spent ends good rest = absurd (elim good [ inl e ↦ cc | inr e ↦ cc ])
good_first StoreFault ends good rest = absurd (elim good [ inl e ↦ cc | inr e ↦ cc ])

-- where all sessions ended well, so does the call
pub good_status : (ends : List Ended) → All (λ e. IsGood e.end) ends → (status_after (first_end ends) true ≡ status.Done) ⊎ (status_after (first_end ends) true ≡ status.Memory)
good_status [] all = inl refl
good_status (e ∷ ends) all = good_first e.end ends (All-head (λ e. IsGood e.end) e ends all) (good_status ends (All-tail (λ e. IsGood e.end) e ends all))
