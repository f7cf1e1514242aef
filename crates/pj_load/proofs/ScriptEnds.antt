-- A session that has no fault comes to the end of its script.
use Rattle.std.proofs.Common.{◌≡◌, ◌≢◌, ℕ, ◌+◌, ◌<◌, true, false, List, [], ◌∷◌, ◌++◌, length, All, inl, inr, refl, sym, ◌∙◌, ap, subst, arith, append_assoc, append-nil, length-append}
use Rattle.std.proofs.lemmas.List.Elements.{All-head, All-tail}
use Rattle.pj_io.specs.Causes.{Rose}
use Rattle.pj_io.specs.Told.{Where}
use Rattle.pj_machine.specs.declared.command.Command.{Command}
use Rattle.pj_machine.specs.declared.command.Command.TheVariants.{Quit}
use Rattle.pj_machine.specs.declared.reply.Numbered.{Numbered}
use Rattle.pj_wire.specs.Requests.{spelling, spellings, IsCall, IsStrange, Begins, HasRequests}
use Rattle.pj_wire.proofs.Readings.{one_reading, strange_stays}
use Rattle.pj_wire.proofs.Readings.{spellings_append}
use Rattle.pj_session.proofs.FirstRequests.{first_requests}
use Rattle.pj_session.specs.declared.end.End.{End}
use Rattle.pj_session.specs.declared.end.End.TheVariants.{Done, ReadFault, WriteFault, Bad, Cut, Spent, Memory, StoreFault}
use Rattle.pj_session.specs.Session.{IsSession}
use Rattle.pj_load.specs.Speech.{EndsWith, IsScriptOf}

-- what follows one front of a list
pub same_behind : {A : Type 0} (front a b : List A) → front ++ a ≡ front ++ b → a ≡ b
same_behind [] a b e = e
same_behind (x ∷ front) a b e = let tail : front ++ a ≡ front ++ b = cc in same_behind front a b tail

pub behind : {A : Type 0} (P : A → Type 0) (xs : List A) (z : A) (zs : List A) → All P (xs ++ z ∷ zs) → P z
behind P [] z zs all = All-head P z zs all
behind P (x ∷ xs) z zs all = behind P xs z zs (All-tail P x (xs ++ z ∷ zs) all)

module _ (bytes : List ℕ) (xs : List Command) (script : IsScriptOf bytes xs) where
  -- requests with which the script begins, up to what begins none
  none_strange : (taken later : List ℕ) (ys : List Command) (rest : List ℕ) → bytes ≡ taken ++ later → Begins taken ys false rest → IsStrange rest → ⊥
  none_strange taken later ys rest took begins strange =
      let whole : bytes ≡ (spellings ys ++ []) ++ (rest ++ later) = took ∙ ap (λ t. t ++ later) begins.whole ∙ append_assoc (spellings ys ++ []) rest later in
      let first = first_requests bytes (rest ++ later) [] ys xs true (record { whole = whole; each = begins.each }) script in
      let after : spellings ys ++ (rest ++ later) ≡ spellings ys ++ (spellings first.0 ++ (spelling Quit ++ [])) =
      ap (λ t. t ++ (rest ++ later)) (sym (append-nil (spellings ys))) ∙ sym whole ∙ script.begins.whole ∙ append_assoc (spellings xs) (spelling Quit) []
      ∙ ap (λ zs. spellings zs ++ (spelling Quit ++ [])) (sym first.1) ∙ ap (λ t. t ++ (spelling Quit ++ [])) (spellings_append ys first.0)
      ∙ append_assoc (spellings ys) (spellings first.0) (spelling Quit ++ []) in
      next first.0 (subst (λ zs. All IsCall zs) (sym first.1) script.begins.each) (same_behind (spellings ys) (rest ++ later) (spellings first.0 ++ (spelling Quit ++ [])) after)
    where
      stays : IsStrange (rest ++ later)
      stays = strange_stays rest later strange

      next : (zs : List Command) → All IsCall (ys ++ zs) → rest ++ later ≡ spellings zs ++ (spelling Quit ++ []) → ⊥
      next [] calls e = stays.has_none Quit [] tt e
      next (z ∷ zs) calls e = stays.has_none z (spellings zs ++ (spelling Quit ++ [])) (behind IsCall ys z zs calls).allowed (e ∙ append_assoc (spelling z) (spellings zs) (spelling Quit ++ []))

  -- a front of the script that has the request to quit has all the others
  all_asked : (taken later : List ℕ) (ys : List Command) (rest : List ℕ) → bytes ≡ taken ++ later → HasRequests taken ys true rest → ys ≡ xs
  all_asked taken later ys rest took asked =
      let more : HasRequests bytes ys true (rest ++ later) = record {
        begins = record { whole = took ∙ ap (λ t. t ++ later) asked.begins.whole ∙ append_assoc (spellings ys ++ spelling Quit) rest later; each = asked.begins.each };
        no_more = λ h. absurd (cc h);
      } in
      (one_reading bytes ys xs true true (rest ++ later) [] more script).0

  -- the whole script does not lack it
  quits : (taken later : List ℕ) (ys : List Command) (rest : List ℕ) → bytes ≡ taken ++ later → later ≡ [] → HasRequests taken ys false rest → ⊥
  quits taken later ys rest took none asked =
      let whole : bytes ≡ taken = took ∙ ap (λ t. taken ++ t) none ∙ append-nil taken in
      let same = (one_reading bytes ys xs false true rest [] (subst (λ t. HasRequests t ys false rest) (sym whole) asked) script).1 in cc

  module _ (limit : ℕ) (later : List ℕ) (short : length bytes < limit) (Did : List Command → List Numbered → Type 0) (B : Type 0) (so : (rs : List Numbered) → Did xs rs → B) where
    pub script_ends : (end : End) → IsSession limit (λ taken. Where true (bytes ≡ taken ++ later)) (Where true (later ≡ [])) Did end
        → end ≢ ReadFault → end ≢ WriteFault → end ≢ StoreFault → EndsWith B end
    script_ends Done s read write store = elim s.ends [
      | inl quit ↦ so s.replies (subst (λ ys. Did ys s.replies) (all_asked s.taken later s.requests s.rest (s.took refl) (subst (λ q. HasRequests s.taken s.requests q s.rest) quit.0 s.asked)) s.did)
      | inr all ↦ absurd (quits s.taken later s.requests s.rest (s.took refl) (all.3 refl) (subst (λ q. HasRequests s.taken s.requests q s.rest) all.0 s.asked))
    ]
    script_ends Memory s read write store = tt
    script_ends ReadFault s read write store = absurd (read refl)
    script_ends WriteFault s read write store = absurd (write refl)
    script_ends StoreFault s read write store = absurd (store refl)
    script_ends Bad s read write store =
        none_strange s.taken later s.requests s.rest (s.took refl) (subst (λ q. Begins s.taken s.requests q s.rest) s.ends.0 s.asked.begins) s.ends.1
    script_ends Cut s read write store =
        quits s.taken later s.requests s.rest (s.took refl) (s.ends.4 refl) (subst (λ q. HasRequests s.taken s.requests q s.rest) s.ends.0 s.asked)
    script_ends Spent s read write store =
        let size : length bytes ≡ length s.taken + length later = ap (λ (t : List ℕ). length t) (s.took refl) ∙ length-append s.taken later in
        let full = s.ends.2 in absurd (omega arith)

-- a count that is 0 has not risen
pub no_rise : (before now : ℕ) → now ≡ 0 → Rose before now → ⊥
no_rise before now zero rose = let above : 0 < now = grind (arith, rose) in absurd (omega arith)
