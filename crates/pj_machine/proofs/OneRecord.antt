-- Records with one text are one.
use Rattle.std.proofs.Common.{◌≡◌, [], ◌∷◌, sym, ◌∙◌, ap, inl, inr}
use Rattle.std.specs.Prelude.{Contains}
use Rattle.pj_name.specs.Name.{name_of}
use Rattle.pj_change.specs.declared.change.Record.{Record}
use Rattle.pj_change.proofs.EqualRecords.{have_one_record}
use Rattle.pj_change.proofs.Members.{uncons, first_member, later_member, no_member}

-- a text is of one record
pub record_of_text : (r q : Record) → r.text ≡ q.text → r ≡ q
record_of_text r q e =
    have_one_record (r ∷ q ∷ []) (λ a b m n same. one a m ∙ sym (one b n)) r q (first_member r (q ∷ [])) (later_member r (q ∷ []) q (first_member q [])) (r.named ∙ ap name_of e ∙ sym q.named)
  where
    text : {a b : Record} → a ≡ b → b.text ≡ a.text
    text s = ap (λ (x : Record). x.text) (sym s)

    one : (a : Record) → Contains (r ∷ q ∷ []) a → a.text ≡ q.text
    one a m = elim (uncons r (q ∷ []) a m) [
      | inl s ↦ text s ∙ e
      | inr n ↦ elim (uncons q [] a n) [ inl s ↦ text s | inr k ↦ absurd (no_member a k) ]
    ]
