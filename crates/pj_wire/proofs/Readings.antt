-- Bytes have one list of requests, however they are cut.
use Rattle.std.proofs.Common.{◌≡◌, ℕ, Bool, true, false, List, [], ◌∷◌, ◌++◌, length, All, refl, sym, ◌∙◌, ap, inl, inr, arith, append_assoc, append-nil, length-append}
use Rattle.std.proofs.lemmas.List.{append_cancel_left}
use Rattle.std.proofs.lemmas.List.Concat.{flat_map-append}
use Rattle.std.proofs.lemmas.List.Elements.{All-head, All-tail}
use Rattle.std.specs.Prelude.{if◌then◌else◌}
use Rattle.pj_machine.specs.declared.command.Command.{Command}
use Rattle.pj_machine.specs.declared.command.Command.TheVariants.{Quit}
use Rattle.pj_wire.specs.Requests.{spelling, spellings, quitting, IsCall, HasNone, IsPart, IsStrange, HasRequests}
use Rattle.pj_wire.specs.Runs.{Event, Ran, fed, given}
use Rattle.pj_wire.specs.Runs.Event.{Fed, Given}
use Rattle.pj_wire.proofs.Fronts.{either_begins}
use Rattle.pj_wire.proofs.OneRequest.{one_request}

-- less than a whole request begins with no whole request
pub part_has_none : (bytes : List ℕ) → IsPart bytes → HasNone bytes
part_has_none bytes p x more allowed e =
    let longer : spelling x ++ (more ++ p.missing) ≡ spelling p.value ++ [] = sym (append_assoc (spelling x) more p.missing) ∙ ap (λ t. t ++ p.missing) (sym e) ∙ p.whole ∙ sym (append-nil (spelling p.value)) in
    let same = one_request x p.value (more ++ p.missing) [] allowed p.allowed longer in
    let gone : length (more ++ p.missing) ≡ 0 = ap (λ (t : List ℕ). length t) same.1 in
    let some = p.some in
    absurd (omega (arith, length-append more p.missing, gone, some))

pub strange_stays : (bytes more : List ℕ) → IsStrange bytes → IsStrange (bytes ++ more)
strange_stays bytes more s = record {
  has_none = λ x rest allowed e. elim (either_begins bytes more (spelling x) rest e) [ inl h ↦ s.begins_none x h.0 allowed h.1 | inr h ↦ s.has_none x h.0 allowed h.1 ];
  begins_none = λ x next allowed e. s.begins_none x (more ++ next) allowed (sym (append_assoc bytes more next) ∙ e);
}

quit_apart : (x : Command) (a b : List ℕ) → IsCall x → spelling x ++ a ≡ spelling Quit ++ b → ⊥
quit_apart x a b call e = call.replied (one_request x Quit a b call.allowed tt e).0

one_reading_from : (xs ys : List Command) (quit other : Bool) (rest left : List ℕ) → All IsCall xs → All IsCall ys → (quit ≡ false → HasNone rest) → (other ≡ false → HasNone left)
    → spellings xs ++ (quitting quit ++ rest) ≡ spellings ys ++ (quitting other ++ left) → (xs ≡ ys) × (quit ≡ other) × (rest ≡ left)
one_reading_from [] [] true true rest left p q none none' e = (refl, refl, append_cancel_left (spelling Quit) rest left e)
one_reading_from [] [] true false rest left p q none none' e = absurd (none' refl Quit rest tt (sym e))
one_reading_from [] [] false true rest left p q none none' e = absurd (none refl Quit left tt e)
one_reading_from [] [] false false rest left p q none none' e = (refl, refl, e)
one_reading_from [] (y ∷ ys) true other rest left p q none none' e = absurd (quit_apart y (spellings ys ++ (quitting other ++ left)) rest (All-head IsCall y ys q) (sym (append_assoc (spelling y) (spellings ys) (quitting other ++ left)) ∙ sym e))
one_reading_from [] (y ∷ ys) false other rest left p q none none' e = absurd (none refl y (spellings ys ++ (quitting other ++ left)) (All-head IsCall y ys q).allowed (e ∙ append_assoc (spelling y) (spellings ys) (quitting other ++ left)))
one_reading_from (x ∷ xs) [] quit true rest left p q none none' e = absurd (quit_apart x (spellings xs ++ (quitting quit ++ rest)) left (All-head IsCall x xs p) (sym (append_assoc (spelling x) (spellings xs) (quitting quit ++ rest)) ∙ e))
one_reading_from (x ∷ xs) [] quit false rest left p q none none' e = absurd (none' refl x (spellings xs ++ (quitting quit ++ rest)) (All-head IsCall x xs p).allowed (sym e ∙ append_assoc (spelling x) (spellings xs) (quitting quit ++ rest)))
one_reading_from (x ∷ xs) (y ∷ ys) quit other rest left p q none none' e =
    let first = one_request x y (spellings xs ++ (quitting quit ++ rest)) (spellings ys ++ (quitting other ++ left)) (All-head IsCall x xs p).allowed (All-head IsCall y ys q).allowed
    (sym (append_assoc (spelling x) (spellings xs) (quitting quit ++ rest)) ∙ e ∙ append_assoc (spelling y) (spellings ys) (quitting other ++ left)) in
    let more = one_reading_from xs ys quit other rest left (All-tail IsCall x xs p) (All-tail IsCall y ys q) none none' first.1 in
    (ap (λ z. z ∷ xs) first.0 ∙ ap (λ zs. y ∷ zs) more.0, more.1, more.2)

pub one_reading : (bytes : List ℕ) (xs ys : List Command) (quit other : Bool) (rest left : List ℕ) → HasRequests bytes xs quit rest → HasRequests bytes ys other left → (xs ≡ ys) × (quit ≡ other) × (rest ≡ left)
one_reading bytes xs ys quit other rest left p q =
    one_reading_from xs ys quit other rest left p.begins.each q.begins.each p.no_more q.no_more
    (sym (append_assoc (spellings xs) (quitting quit) rest) ∙ sym p.begins.whole ∙ q.begins.whole ∙ append_assoc (spellings ys) (quitting other) left)

-- ---- a decoder

pub spellings_append : (xs ys : List Command) → spellings (xs ++ ys) ≡ spellings xs ++ spellings ys
spellings_append xs ys = flat_map-append spelling xs ys

-- what was left over and what was fed are the requests that were given and what is left over
ran_all : (old new : List ℕ) (events : List Event) → Ran old events new → old ++ fed events ≡ spellings (given events) ++ new
ran_all old new [] is = append-nil old ∙ sym is
ran_all old new (Fed piece ∷ events) ran = sym (append_assoc old piece (fed events)) ∙ ran_all (old ++ piece) new events ran
ran_all old new (Given x ∷ events) ran =
    ap (λ (s : List ℕ). s ++ fed events) ran.1.1 ∙ append_assoc (spelling x) ran.0 (fed events) ∙ ap (λ (s : List ℕ). spelling x ++ s) (ran_all ran.0 new events ran.2)
    ∙ sym (append_assoc (spelling x) (spellings (given events)) new)

pub gives_all : (events : List Event) (left : List ℕ) (xs : List Command) (quit : Bool) → Ran [] events left → given events ≡ xs ++ (if quit then Quit ∷ [] else []) → All IsCall xs → (quit ≡ false → HasNone left)
    → HasRequests (fed events) xs quit left
gives_all events left xs quit ran is calls none = record {
  begins = record {
    whole = ran_all [] left events ran ∙ ap (λ (l : List Command). spellings l ++ left) is ∙ ap (λ (s : List ℕ). s ++ left) (spellings_append xs (if quit then Quit ∷ [] else []) ∙ ap (λ (s : List ℕ). spellings xs ++ s) (quits quit));
    each = calls;
  };
  no_more = none;
}
  where
    quits : (quit : Bool) → spellings (if quit then Quit ∷ [] else []) ≡ quitting quit
    quits true = refl
    quits false = refl
