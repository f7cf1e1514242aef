-- What the next change adds to a session.
use Rattle.std.proofs.Common.{◌≡◌, ◌≢◌, ◌⊎◌, inl, inr, refl, sym, ap, ◌∙◌, ℕ, suc, ◌+◌, ◌-◌, ◌%◌, ◌<◌, true, false, length, arith, List, [], ◌∷◌, ◌++◌, Option, None, append_assoc, add-one}
use Rattle.std.specs.Prelude.{nat_eq, replicate, slice_index_or, slice_set}
use Rattle.std.proofs.lemmas.Bool.{ne_eqb}
use Rattle.std.proofs.lemmas.Bool.Decides.{eqb_tells}
use Rattle.std.proofs.lemmas.List.{get_or-set_other, get_or-replicate}
use Rattle.std.proofs.lemmas.Grind.{flat_map-append, get_or-set_at}
use Rattle.std.proofs.lemmas.List.{append-nil}
use Rattle.pj_name.specs.declared.name.Name.{Name}
use Rattle.pj_name.specs.Name.{name_of}
use Rattle.pj_change.specs.Text.{text_of}
use Rattle.pj_machine.specs.declared.command.Command.TheVariants.{Put, Apply, Unrecord}
use Rattle.pj_wire.specs.Requests.{spelling, spellings}
use Rattle.pj_gen.specs.declared.changes.Insertion.{Insertion}
use Rattle.pj_gen.specs.declared.draws.Draws.{Draws}
use Rattle.pj_gen.specs.Draws.{drawn, draws_from, number_after}
use Rattle.pj_gen.specs.Changes.{line_name, change_after, last_after, last_insertion, change_text}
use Rattle.pj_gen.specs.Requests.{main, requests_for, script, session_requests, session_scripts}

-- ---- the requests for one change

pub every_fifteenth : (l i : ℕ) (text channel : List ℕ) (name : Name) → channel ≡ line_name l → name ≡ name_of text → nat_eq (i % 15) 0 ≡ true →
    requests_for l i text ≡ Put text ∷ Apply channel name ∷ Apply main name ∷ Unrecord channel name ∷ Apply channel name ∷ []
unfolding requests_for
every_fifteenth l i text channel name ec en e = rw (ec, en, e) refl

pub the_others : (l i : ℕ) (text channel : List ℕ) (name : Name) → channel ≡ line_name l → name ≡ name_of text → nat_eq (i % 15) 0 ≡ false →
    requests_for l i text ≡ Put text ∷ Apply channel name ∷ Apply main name ∷ []
unfolding requests_for
the_others l i text channel name ec en e = rw (ec, en, e) refl

pub three_appended : (o p a m x y z : List ℕ) → x ≡ o ++ p → y ≡ x ++ a → z ≡ y ++ m → z ≡ o ++ (p ++ (a ++ (m ++ [])))
three_appended o p a m x y z ex ey ez = rw (ez, ey, ex, append-nil m) (simp append_assoc)

pub five_appended : (o p a m u x y z v w : List ℕ) →
    x ≡ o ++ p → y ≡ x ++ a → z ≡ y ++ m → v ≡ z ++ u → w ≡ v ++ a → w ≡ o ++ (p ++ (a ++ (m ++ (u ++ (a ++ [])))))
five_appended o p a m u x y z v w ex ey ez ev ew = rw (ew, ev, ez, ey, ex, append-nil a) (simp append_assoc)

-- ---- one change more

pub number_more : (number n : ℕ) → number_after number (n + 1) ≡ drawn (drawn (drawn (number_after number n)))
unfolding number_after
number_more number n = rw add-one refl

last_own_suc : (number k n : ℕ) (before : Option Insertion) (d : Draws) → nat_eq (n % 8) k ≡ true →
    before ≡ last_insertion number k n → d ≡ draws_from (number_after number n) →
    last_insertion number k (suc n) ≡ last_after before d (name_of (text_of (change_after before (n + 1) d)))
unfolding last_insertion
last_own_suc number k n before d here eb ed = rw (here, eb, ed) refl

pub last_own : (number k n : ℕ) (before : Option Insertion) (d : Draws) → nat_eq (n % 8) k ≡ true →
    before ≡ last_insertion number k n → d ≡ draws_from (number_after number n) →
    last_insertion number k (n + 1) ≡ last_after before d (name_of (text_of (change_after before (n + 1) d)))
last_own number k n before d here eb ed = ap (last_insertion number k) (add-one n) ∙ last_own_suc number k n before d here eb ed

last_other_suc : (number k n : ℕ) → nat_eq (n % 8) k ≡ false → last_insertion number k (suc n) ≡ last_insertion number k n
unfolding last_insertion
last_other_suc number k n there = rw there refl

pub last_other : (number k n : ℕ) → nat_eq (n % 8) k ≡ false → last_insertion number k (n + 1) ≡ last_insertion number k n
last_other number k n there = ap (last_insertion number k) (add-one n) ∙ last_other_suc number k n there

requests_own_suc : (number sessions s n : ℕ) (before : Option Insertion) (d : Draws) → nat_eq (n % 8 % sessions) s ≡ true →
    before ≡ last_insertion number (n % 8) n → d ≡ draws_from (number_after number n) →
    session_requests number sessions s (suc n)
    ≡ session_requests number sessions s n ++ requests_for (n % 8) (n + 1) (text_of (change_after before (n + 1) d))
unfolding session_requests change_text
requests_own_suc number sessions s n before d here eb ed = rw (here, eb, ed) refl

pub requests_own : (number sessions s n : ℕ) (before : Option Insertion) (d : Draws) → nat_eq (n % 8 % sessions) s ≡ true →
    before ≡ last_insertion number (n % 8) n → d ≡ draws_from (number_after number n) →
    spellings (session_requests number sessions s (n + 1))
    ≡ spellings (session_requests number sessions s n) ++ spellings (requests_for (n % 8) (n + 1) (text_of (change_after before (n + 1) d)))
requests_own number sessions s n before d here eb ed =
    ap (λ k. spellings (session_requests number sessions s k)) (add-one n)
    ∙ ap spellings (requests_own_suc number sessions s n before d here eb ed)
    ∙ flat_map-append spelling (session_requests number sessions s n) (requests_for (n % 8) (n + 1) (text_of (change_after before (n + 1) d)))

requests_other_suc : (number sessions s n : ℕ) → nat_eq (n % 8 % sessions) s ≡ false →
    session_requests number sessions s (suc n) ≡ session_requests number sessions s n ++ []
unfolding session_requests
requests_other_suc number sessions s n there = rw there refl

pub requests_other : (number sessions s n : ℕ) → nat_eq (n % 8 % sessions) s ≡ false →
    spellings (session_requests number sessions s (n + 1)) ≡ spellings (session_requests number sessions s n)
requests_other number sessions s n there =
    ap (λ k. spellings (session_requests number sessions s k)) (add-one n)
    ∙ ap spellings (requests_other_suc number sessions s n there ∙ append-nil (session_requests number sessions s n))

-- ---- one session more

scripts_more_suc : (number changes sessions n : ℕ) →
    session_scripts number changes sessions (suc n)
    ≡ session_scripts number changes sessions n ++ script (session_requests number sessions n (changes - 1)) ∷ []
unfolding session_scripts
scripts_more_suc number changes sessions n = refl

pub scripts_more : (number changes sessions n : ℕ) →
    session_scripts number changes sessions (n + 1)
    ≡ session_scripts number changes sessions n ++ script (session_requests number sessions n (changes - 1)) ∷ []
scripts_more number changes sessions n =
    ap (session_scripts number changes sessions) (add-one n) ∙ scripts_more_suc number changes sessions n

-- ---- no change, and no session

pub number_none : (number : ℕ) → number_after number 0 ≡ number
unfolding number_after
number_none number = refl

pub last_none : (number k : ℕ) → last_insertion number k 0 ≡ None
unfolding last_insertion
last_none number k = refl

pub requests_none : (number sessions s : ℕ) → spellings (session_requests number sessions s 0) ≡ []
unfolding session_requests
requests_none number sessions s = refl

pub scripts_none : (number changes sessions : ℕ) → session_scripts number changes sessions 0 ≡ []
unfolding session_scripts
scripts_none number changes sessions = refl

-- ---- the lists of last insertions

lasts_at : (number sessions s n k : ℕ) (last last' : List (Option Insertion)) (here now : Option Insertion) (d : Draws) →
    length last ≡ 8 →
    ((k : ℕ) → k < 8 → k % sessions ≡ s → slice_index_or last k None ≡ last_insertion number k n) →
    here ≡ last_insertion number (n % 8) n → d ≡ draws_from (number_after number n) →
    now ≡ last_after here d (name_of (text_of (change_after here (n + 1) d))) →
    last' ≡ slice_set last (n % 8) now →
    k < 8 → k % sessions ≡ s → ((nat_eq (n % 8) k ≡ true) × (n % 8 ≡ k)) ⊎ ((nat_eq (n % 8) k ≡ false) × (n % 8 ≢ k)) → slice_index_or last' k None ≡ last_insertion number k (n + 1)
lasts_at number sessions s n k last last' here now d eight are is_here draws is_now is_set small own (inl (line, e')) =
    let e : k ≡ n % 8 = sym e' in
    let this : here ≡ last_insertion number k n = is_here ∙ ap (λ j. last_insertion number j n) (sym e) in
    rw is_set (get_or-set_at last (n % 8) k now None e (omega arith)) ∙ is_now ∙ sym (last_own number k n here d line this draws)
lasts_at number sessions s n k last last' here now d eight are is_here draws is_now is_set small own (inr (line, e')) =
    let e : k ≢ n % 8 = λ h. e' (sym h) in
    rw is_set (get_or-set_other last (n % 8) k now None e) ∙ are k small own ∙ sym (last_other number k n line)

pub lasts_own : (number sessions s n : ℕ) (last last' : List (Option Insertion)) (here now : Option Insertion) (d : Draws) →
    length last ≡ 8 →
    ((k : ℕ) → k < 8 → k % sessions ≡ s → slice_index_or last k None ≡ last_insertion number k n) →
    here ≡ last_insertion number (n % 8) n → d ≡ draws_from (number_after number n) →
    now ≡ last_after here d (name_of (text_of (change_after here (n + 1) d))) →
    last' ≡ slice_set last (n % 8) now →
    (k : ℕ) → k < 8 → k % sessions ≡ s → slice_index_or last' k None ≡ last_insertion number k (n + 1)
lasts_own number sessions s n last last' here now d eight are is_here draws is_now is_set k small own =
    lasts_at number sessions s n k last last' here now d eight are is_here draws is_now is_set small own (eqb_tells (n % 8) k)

-- the line of another session is not this session's
pub lasts_other : (number sessions s n : ℕ) (last : List (Option Insertion)) → n % 8 % sessions ≢ s →
    ((k : ℕ) → k < 8 → k % sessions ≡ s → slice_index_or last k None ≡ last_insertion number k n) →
    (k : ℕ) → k < 8 → k % sessions ≡ s → slice_index_or last k None ≡ last_insertion number k (n + 1)
lasts_other number sessions s n last there are k small own =
    let line : nat_eq (n % 8) k ≡ false = ne_eqb (n % 8) k (λ h. there (ap (λ j. j % sessions) h ∙ own)) in
    are k small own ∙ sym (last_other number k n line)

-- no line has an insertion yet
pub nones : (k : ℕ) → k < 8 → slice_index_or (replicate {A = Option Insertion} 8 None) k None ≡ None
nones k small = get_or-replicate 8 k None None small
