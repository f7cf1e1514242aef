-- Replies with a body at the beginning of bytes.
use Rattle.std.proofs.Common.{◌≡◌, ◌≢◌, ℕ, ◌+◌, ◌-◌, ◌<◌, ◌≤◌, List, [], ◌∷◌, ◌++◌, length, drop, take, get_or, replicate, codes, decimal, refl, sym, ◌∙◌, ap, inl, inr, arith, append-nil, append_assoc, length-append}
use Rattle.std.proofs.lemmas.List.{drop-drop, get_or_append_left, get_or_at, length-replicate, length-take-le, take_more, take-append-drop}
use Rattle.pj_machine.specs.declared.reply.Reply.TheVariants.{Body}
use Rattle.pj_machine.specs.declared.reply.Numbered.{Numbered}
use Rattle.pj_machine.specs.declared.reply.Numbered.TheVariants.{At}
use Rattle.pj_wire.specs.Replies.{reply_bytes}
use Rattle.pj_wire.specs.Spelled.{EndsWithin}
use Rattle.pj_wire.proofs.Fronts.{either_begins}
use Rattle.pj_replies.specs.Apart.{IsSpelled, IsApart}
use Rattle.pj_replies.specs.Lines.{AreShort, body_line}
use Rattle.pj_replies.specs.Bodies.{IsBodied, IsLong}
use Rattle.pj_replies.proofs.Digits.{one_number}
use Rattle.pj_replies.proofs.Replied.{one_place, ok_place, length_bytes}

-- the line of a body shows where it ends
pub one_body_line : (p q : ℕ × ℕ) (a b : List ℕ) → AreShort p → AreShort q → body_line p ++ a ≡ body_line q ++ b → (p ≡ q) × (a ≡ b)
one_body_line p q a b s t e =
    let sp = s.0 in
    let tp = t.0 in
    let sl = s.1 in
    let tl = t.1 in
    let first = one_place (codes "ok ") p.0 q.0 ((decimal p.1 ++ 10 ∷ []) ++ a) ((decimal q.1 ++ 10 ∷ []) ++ b) (omega (arith, sp)) (omega (arith, tp))
    (sym (append_assoc (ok_place p.0) (decimal p.1 ++ 10 ∷ []) a) ∙ ap (λ (l : List ℕ). l ++ a) (length_bytes p) ∙ e ∙ ap (λ (l : List ℕ). l ++ b) (sym (length_bytes q))
    ∙ append_assoc (ok_place q.0) (decimal q.1 ++ 10 ∷ []) b) in
    let second = one_number 18446744073709551615 10 (omega arith) (inr refl) p.1 q.1 a b (omega (arith, sl)) (omega (arith, tl)) first.1 in
    (λ i. (first.0 i, second.0 i), second.1)

-- a reply with a body is the line of it, the body and a newline
bodied_bytes : (place count : ℕ) (body : List ℕ) → length body ≡ count → body_line (place, count) ++ (body ++ 10 ∷ []) ≡ reply_bytes (At place (Body body))
bodied_bytes place count body size = ap (λ (n : ℕ). body_line (place, n) ++ (body ++ 10 ∷ [])) (sym size)

-- each reply with a body is one
bodied_is : (r : Numbered) (b : IsBodied r) → reply_bytes r ≡ body_line (b.0, length b.1) ++ (b.1 ++ 10 ∷ [])
bodied_is r b = ap reply_bytes b.4

-- the line is cut
pub head_part : (bytes : List ℕ) → EndsWithin body_line AreShort bytes → EndsWithin reply_bytes IsBodied bytes
head_part bytes h =
    let some = h.some in
    let small = h.allowed.1 in
    record {
      value = At h.value.0 (Body (replicate h.value.1 0));
      allowed = (h.value.0, replicate h.value.1 0, h.allowed.0, omega (arith, small, length-replicate {A = ℕ} h.value.1 0), refl);
      missing = h.missing ++ (replicate h.value.1 0 ++ 10 ∷ []);
      whole = sym (append_assoc bytes h.missing (replicate h.value.1 0 ++ 10 ∷ [])) ∙ ap (λ (l : List ℕ). l ++ (replicate h.value.1 0 ++ 10 ∷ [])) h.whole
          ∙ bodied_bytes h.value.0 h.value.1 (replicate h.value.1 0) (length-replicate {A = ℕ} h.value.1 0);
      some = omega (arith, some, length-append h.missing (replicate h.value.1 0 ++ 10 ∷ []));
    }

-- then it says nothing yet
pub head_part_short : (most : ℕ) (bytes : List ℕ) → EndsWithin body_line AreShort bytes → IsLong most bytes → ⊥
head_part_short most bytes h l =
    let same = one_body_line l.0 h.value (l.1 ++ h.missing) [] l.2 h.allowed
    (sym (append_assoc (body_line l.0) l.1 h.missing) ∙ ap (λ (t : List ℕ). t ++ h.missing) (sym l.4) ∙ h.whole ∙ sym (append-nil (body_line h.value))) in
    let none : length (l.1 ++ h.missing) ≡ 0 = ap (λ (t : List ℕ). length t) same.1 in
    let some = h.some in
    omega (arith, none, some, length-append l.1 h.missing)

-- no line stands there
pub head_apart : (bytes : List ℕ) → IsApart body_line AreShort bytes → IsApart reply_bytes IsBodied bytes
head_apart bytes n = record {
  has_none = λ r rest b e. n.has_none (b.0, length b.1) ((b.1 ++ 10 ∷ []) ++ rest) (b.2, b.3)
      (e ∙ ap (λ (t : List ℕ). t ++ rest) (bodied_is r b) ∙ append_assoc (body_line (b.0, length b.1)) (b.1 ++ 10 ∷ []) rest);
  begins_none = λ r more b e. elim (either_begins bytes more (body_line (b.0, length b.1)) (b.1 ++ 10 ∷ []) (e ∙ bodied_is r b)) [
    | inl h ↦ n.begins_none (b.0, length b.1) h.0 (b.2, b.3) h.1
    | inr h ↦ n.has_none (b.0, length b.1) h.0 (b.2, b.3) h.1
  ];
}

-- the line stands there, and these bytes behind it
module _ (bytes : List ℕ) (p : ℕ × ℕ) (at : ℕ) (rest : List ℕ) (is : rest ≡ drop at bytes) (h : IsSpelled body_line AreShort bytes p at) where
  -- all bytes are the line and the rest
  stands : bytes ≡ body_line p ++ rest
  stands = h.stands ∙ ap (λ (t : List ℕ). body_line p ++ t) (sym is)

  -- a length above the most makes the body too long
  pub is_long : (most : ℕ) → most < p.1 → IsLong most bytes
  is_long most more = (p, rest, h.allowed, more, stands)

  -- and one that is not above it does not
  pub is_short : (most : ℕ) → p.1 ≤ most → IsLong most bytes → ⊥
  is_short most few l =
      let same = one_body_line p l.0 rest l.1 h.allowed l.2 (sym stands ∙ l.4) in
      let count : p.1 ≡ l.0.1 = ap (λ (q : ℕ × ℕ). q.1) same.0 in
      let more = l.3 in
      omega (arith, count, more, few)

  -- the body or the newline behind it is cut
  pub body_part : length rest ≤ p.1 → EndsWithin reply_bytes IsBodied bytes
  body_part few =
      let size : length (rest ++ replicate (p.1 - length rest) 0) ≡ p.1 =
      omega (arith, few, length-append {A = ℕ} rest (replicate (p.1 - length rest) 0), length-replicate {A = ℕ} (p.1 - length rest) 0) in
      let short = h.allowed.1 in
      record {
        value = At p.0 (Body (rest ++ replicate (p.1 - length rest) 0));
        allowed = (p.0, rest ++ replicate (p.1 - length rest) 0, h.allowed.0, omega (arith, size, short), refl);
        missing = replicate (p.1 - length rest) 0 ++ 10 ∷ [];
        whole = ap (λ (t : List ℕ). t ++ (replicate (p.1 - length rest) 0 ++ 10 ∷ [])) stands
            ∙ append_assoc (body_line p) rest (replicate (p.1 - length rest) 0 ++ 10 ∷ [])
            ∙ ap (λ (t : List ℕ). body_line p ++ t) (sym (append_assoc rest (replicate (p.1 - length rest) 0) (10 ∷ [])))
            ∙ bodied_bytes p.0 p.1 (rest ++ replicate (p.1 - length rest) 0) size;
        some = omega (arith, length-append {A = ℕ} (replicate (p.1 - length rest) 0) (10 ∷ []));
      }

  -- no newline stands behind it
  pub body_apart : p.1 < length rest → get_or rest p.1 0 ≢ 10 → IsApart reply_bytes IsBodied bytes
  body_apart within other = record {
    has_none = λ r left b e. none r b [] left (append-nil bytes ∙ e);
    begins_none = λ r more b e. none r b more [] (e ∙ sym (append-nil (reply_bytes r)));
  }
    where
      none : (r : Numbered) (b : IsBodied r) (more left : List ℕ) → bytes ++ more ≡ reply_bytes r ++ left → ⊥
      none r b more left e =
          let same = one_body_line p (b.0, length b.1) (rest ++ more) (b.1 ++ 10 ∷ left) h.allowed (b.2, b.3)
          (sym (append_assoc (body_line p) rest more) ∙ ap (λ (t : List ℕ). t ++ more) (sym stands) ∙ e ∙ ap (λ (t : List ℕ). t ++ left) (bodied_is r b)
          ∙ append_assoc (body_line (b.0, length b.1)) (b.1 ++ 10 ∷ []) left ∙ ap (λ (t : List ℕ). body_line (b.0, length b.1) ++ t) (append_assoc b.1 (10 ∷ []) left)) in
          let count : p.1 ≡ length b.1 = ap (λ (q : ℕ × ℕ). q.1) same.0 in
          other (sym (get_or_append_left rest more 0 p.1 within) ∙ ap (λ (t : List ℕ). get_or t p.1 0) same.1 ∙ get_or_at b.1 10 left 0 p.1 (sym count))

  -- it stands there whole
  pub body_whole : p.1 < length rest → get_or rest p.1 0 ≡ 10 → IsBodied (At p.0 (Body (take p.1 rest))) × (bytes ≡ reply_bytes (At p.0 (Body (take p.1 rest))) ++ drop (at + p.1 + 1) bytes)
  body_whole within newline =
      let size : length (take p.1 rest) ≡ p.1 = length-take-le p.1 rest (omega (arith, within)) in
      let short = h.allowed.1 in (
        (p.0, take p.1 rest, h.allowed.0, omega (arith, size, short), refl),
        stands ∙ ap (λ (t : List ℕ). body_line p ++ t)
            (sym (take-append-drop (p.1 + 1) rest) ∙ ap (λ (t : List ℕ). t ++ drop (p.1 + 1) rest) (take_more rest p.1 0 within ∙ ap (λ (b : ℕ). take p.1 rest ++ b ∷ []) newline)
            ∙ ap (λ (t : List ℕ). (take p.1 rest ++ 10 ∷ []) ++ t) (ap (λ (t : List ℕ). drop (p.1 + 1) t) is ∙ drop-drop (p.1 + 1) at bytes ∙ ap (λ (n : ℕ). drop n bytes) (omega arith)))
            ∙ sym (append_assoc (body_line p) (take p.1 rest ++ 10 ∷ []) (drop (at + p.1 + 1) bytes)) ∙ ap (λ (t : List ℕ). t ++ drop (at + p.1 + 1) bytes) (bodied_bytes p.0 p.1 (take p.1 rest) size),
      )
