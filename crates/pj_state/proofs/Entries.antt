-- One entry more.
use Rattle.std.proofs.Common.{◌≡◌, ◌+◌, ◌<◌, ℕ, List, [], ◌∷◌, ◌++◌, refl, sym, ◌∙◌, ap, subst, inl, inr, length, arith, append-nil, length-append}
use Rattle.std.specs.Prelude.{if◌then◌else◌}
use Rattle.pj_change.proofs.LawfulLists.{place_in}
use Rattle.pj_change.proofs.Members.{heads, tails, not_nil}
use Rattle.pj_machine.specs.declared.channel_name.ChannelName.{ChannelName}
use Rattle.pj_machine.specs.declared.journal.Entry.{Entry}
use Rattle.pj_machine.specs.declared.limits.Limits.{Limits}
use Rattle.pj_machine.specs.Legal.{Enters, IsLegal}
use Rattle.pj_state.specs.LastEntry.{changes, last_from, last_of}

last_from-push : (name : ChannelName) (next last : ℕ) (entries : List Entry) (e : Entry) →
    last_from name next last (entries ++ e ∷ []) ≡ (if changes name e.write then next + length entries else last_from name next last entries)
last_from-push name next last [] e = ap (λ n. if changes name e.write then n else last) (omega arith)
last_from-push name next last (f ∷ entries) e =
    last_from-push name (next + 1) (if changes name f.write then next else last) entries e
    ∙ ap (λ n. if changes name e.write then n else last_from name (next + 1) (if changes name f.write then next else last) entries) (omega arith)

-- the last entry that changes a channel is the new one, or else that of before
pub last_push : (name : ChannelName) (journal : List Entry) (e : Entry) → last_of name (journal ++ e ∷ []) ≡ (if changes name e.write then length journal + 1 else last_of name journal)
last_push name journal e = last_from-push name 1 0 journal e ∙ ap (λ n. if changes name e.write then n else last_of name journal) (omega arith)

alone : (c : Entry) (front : List Entry) (x : Entry) (after : List Entry) → c ∷ [] ≡ front ++ x ∷ after → (c ≡ x) × (front ≡ [])
alone c [] x after e = (heads c x [] after e, refl)
alone c (y ∷ front) x after e = absurd (not_nil front x after (tails c y [] (front ++ x ∷ after) e))

-- a legal journal with an entry that is entered after it is legal
pub legal_push : (limits : Limits) (journal : List Entry) (c : Entry) → IsLegal limits journal → length journal < limits.entries → Enters limits journal c → IsLegal limits (journal ++ c ∷ [])
legal_push limits journal c legal room entered = record {
  few = (let n = length-append journal (c ∷ []) in omega arith);
  each = λ before x after e. elim (place_in journal (c ∷ []) before x after e) [
    | inl i ↦ legal.each before x i.rest i.first
    | inr i ↦ last before x i.front (alone c i.front x after i.then) i.first
  ];
}
  where
    last : (before : List Entry) (x : Entry) (front : List Entry) → (c ≡ x) × (front ≡ []) → before ≡ journal ++ front → Enters limits before x
    last before x front a b =
        let is : before ≡ journal = b ∙ ap (λ l. journal ++ l) a.1 ∙ append-nil journal in
        subst (λ l. Enters limits l x) (sym is) (subst (Enters limits journal) a.0 entered)
