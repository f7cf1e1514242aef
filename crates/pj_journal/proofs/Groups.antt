-- What is staged behind a closed gate, one string more, and the file whose gate was opened.
use Rattle.std.proofs.Common.{◌≡◌, ◌∙◌, ◌≢◌, ◌⊎◌, inl, inr, ⊎_elim, ℕ, ◌+◌, ◌-◌, ◌≤◌, ◌<◌, min, List, [], ◌∷◌, ◌++◌, length, take, drop, refl, sym, ap, subst, arith, length-append}
use Rattle.std.proofs.lemmas.List.{take_at, drop-drop, append_assoc, length-take-le}
use Rattle.std.proofs.Math.Seq.{take-append-add}
use Rattle.std.specs.Int.{w64, from_be_bytes, to_be_bytes}
use Rattle.pj_disk.specs.Image.{overwritten, Torn}
use Rattle.pj_journal.specs.Format.{framed, IsStorable}
use Rattle.pj_journal.specs.Stored.{IsClosedAt, EntryAt, Spans, end_of, Reads}
use Rattle.pj_journal.specs.Group.{gate_opened, Stages}
use Rattle.pj_journal.proofs.Slices.{same_within, same_front, same_behind, overwritten_front, overwritten_behind, overwritten_rest, overwritten_length}
use Rattle.pj_journal.proofs.Entries.{closed_within, end_behind, end_push, spans_agree, spans_push}
use Rattle.pj_journal.proofs.Appends.{one_not_zero, closed_or_open, entry_framed, gate_framed, reads_less}

-- ---- writes one behind another

-- are one write of both
joined : (file : List ℕ) (at : ℕ) (first second : List ℕ) → at ≤ length file
    → overwritten (overwritten file at first) (at + length first) second ≡ overwritten file at (first ++ second)
joined file at first second within =
    let mid = overwritten file at first in
    let long : length (take at file ++ first) ≡ at + length first =
    length-append (take at file) first ∙ ap (λ n. n + length first) (length-take-le at file within) in
    let before : take (at + length first) mid ≡ take at file ++ first =
    take_at (take at file ++ first) (drop (at + length first) file) (at + length first) long in
    let behind : drop (at + length first + length second) mid ≡ drop (at + length first + length second) file =
    sym (drop-drop (length second) (at + length first) mid) ∙ ap (drop (length second)) (overwritten_rest file at first within)
    ∙ drop-drop (length second) (at + length first) file in
    let end : at + length first + length second ≡ at + length (first ++ second) = omega (arith, length-append first second) in
    ap (λ l. (l ++ second) ++ drop (at + length first + length second) mid) before
    ∙ ap (λ l. ((take at file ++ first) ++ second) ++ l) behind
    ∙ ap (λ l. l ++ drop (at + length first + length second) file) (append_assoc (take at file) first second)
    ∙ ap (λ n. (take at file ++ (first ++ second)) ++ drop n file) end

-- the same by the files that were read
pub write_joined : (file : List ℕ) (at next : ℕ) (first second mid after : List ℕ) → at ≤ length file → mid ≡ overwritten file at first
    → next ≡ at + length first → after ≡ overwritten mid next second → after ≡ overwritten file at (first ++ second)
write_joined file at next first second mid after within is behind then =
    then ∙ ap (λ f. overwritten f next second) is ∙ ap (λ n. overwritten (overwritten file at first) n second) behind
    ∙ joined file at first second within

-- the bytes of a frame, as they are written
pub framed_in_parts : (head body tail : List ℕ)
    → (((to_be_bytes w64 (length (head ++ body ++ tail)) ++ head) ++ body) ++ tail) ++ 0 ∷ [] ≡ framed (head ++ body ++ tail)
framed_in_parts head body tail =
    let size = to_be_bytes w64 (length (head ++ body ++ tail)) in
    ap (λ l. (l ++ tail) ++ 0 ∷ []) (append_assoc size head body) ∙ ap (λ l. l ++ 0 ∷ []) (append_assoc size (head ++ body) tail)

-- ---- files that agree

-- what is written within the first bytes of two files that agree in them leaves them so
overwritten_agree : (m at : ℕ) (bytes a b : List ℕ) → take m a ≡ take m b → at + length bytes ≤ m → m ≤ length a → m ≤ length b
    → take m (overwritten a at bytes) ≡ take m (overwritten b at bytes)
overwritten_agree m at bytes a b same within a_long b_long =
    let k = m - (at + length bytes) in
    let fits : at + length bytes + k ≡ m = omega arith in
    let of_a = first_bytes a (omega arith) in
    let of_b = first_bytes b (omega arith) in
    ap (λ n. take n (overwritten a at bytes)) (sym fits) ∙ of_a k
    ∙ ap (λ l. (l ++ bytes) ++ take k (drop (at + length bytes) a)) (same_front m at a b same (omega arith))
    ∙ ap (λ l. (take at b ++ bytes) ++ l) (same_within m (at + length bytes) k a b same (omega arith))
    ∙ sym (of_b k) ∙ ap (λ n. take n (overwritten b at bytes)) fits
  where
    first_bytes : (f : List ℕ) → at ≤ length f → (k : ℕ) → take (at + length bytes + k) (overwritten f at bytes)
        ≡ (take at f ++ bytes) ++ take k (drop (at + length bytes) f)
    first_bytes f short k =
        let long : length (take at f ++ bytes) ≡ at + length bytes = length-append (take at f) bytes ∙ ap (λ n. n + length bytes) (length-take-le at f short) in
        ap (λ n. take (n + k) (overwritten f at bytes)) (sym long) ∙ take-append-add (take at f ++ bytes) (drop (at + length bytes) f) k

-- files that agree from a place on have the same entries there
entry_later : (m : ℕ) (a b : List ℕ) (place : ℕ) (string : List ℕ) → drop m a ≡ drop m b → m ≤ place → EntryAt a place string → EntryAt b place string
entry_later m a b place string same behind entry =
    let gate = same_behind m place 1 a b same behind in
    let size = same_behind m (place + 1) 8 a b same (omega arith) in
    let text = same_behind m (place + 9) (length string) a b same (omega arith) in
    record {
      is_open = λ closed. entry.is_open (gate ∙ closed);
      storable = entry.storable;
      size = ap (from_be_bytes w64) (sym size) ∙ entry.size;
      text = sym text ∙ entry.text;
    }

-- so all behind the first
spans_later : (m : ℕ) (a b : List ℕ) (place : ℕ) (strings : List (List ℕ))
    → drop m a ≡ drop m b → m ≤ place → Spans a place strings → Spans b place strings
spans_later m a b place [] same behind spans = tt
spans_later m a b place (string ∷ strings) same behind spans =
    (entry_later m a b place string same behind spans.0, spans_later m a b (place + (9 + length string)) strings same (omega arith) spans.1)

-- so have those that agree behind an open gate
spans_open : (a b : List ℕ) (place : ℕ) (strings : List (List ℕ)) → drop (place + 1) a ≡ drop (place + 1) b → take 1 (drop place b) ≢ 0 ∷ []
    → Spans a place strings → Spans b place strings
spans_open a b place [] same is_open spans = tt
spans_open a b place (string ∷ strings) same is_open spans =
    let size = same_behind (place + 1) (place + 1) 8 a b same (omega arith) in
    let text = same_behind (place + 1) (place + 9) (length string) a b same (omega arith) in (
      record {
        is_open = is_open;
        storable = spans.0.storable;
        size = ap (from_be_bytes w64) (sym size) ∙ spans.0.size;
        text = sym text ∙ spans.0.text;
      },
      spans_later (place + 1) a b (place + (9 + length string)) strings same (omega arith) spans.1,
    )

-- ---- entries of two lists

-- one list behind another
spans_append : (file : List ℕ) (place : ℕ) (strings more : List (List ℕ))
    → Spans file place strings → Spans file (end_of place strings) more → Spans file place (strings ++ more)
spans_append file place [] more spans behind = behind
spans_append file place (string ∷ strings) more spans behind = (spans.0, spans_append file (place + (9 + length string)) strings more spans.1 behind)

-- where they end
pub end_append : (place : ℕ) (strings more : List (List ℕ)) → end_of place (strings ++ more) ≡ end_of (end_of place strings) more
end_append place [] more = refl
end_append place (string ∷ strings) more = end_append (place + (9 + length string)) strings more

-- where they end where they begin, there are none
pub none_between : (place : ℕ) (strings : List (List ℕ)) → end_of place strings ≡ place → strings ≡ []
none_between place [] same = refl
none_between place (string ∷ strings) same = absurd (omega (arith, same, end_behind (place + (9 + length string)) strings))

-- ---- what is staged

-- nothing is staged at a closed gate
pub stages_none : (file : List ℕ) (place : ℕ) → IsClosedAt file place → Stages file place place []
stages_none file place closed = record { closed = closed; entries = tt; end_is = refl; end_closed = closed }

-- an opened gate is open
open_at : (file : List ℕ) (place : ℕ) → place ≤ length file → take 1 (drop place (gate_opened file place)) ≢ 0 ∷ []
open_at file place within closed = one_not_zero (sym (ap (take 1) (overwritten_behind file place (1 ∷ []) within)) ∙ closed)

module _ (file : List ℕ) (place end : ℕ) (group : List (List ℕ)) (stages : Stages file place end group) (string : List ℕ) (storable : IsStorable string) where
  -- both gates are there
  place_within : place + 1 ≤ length file
  place_within = closed_within file place stages.closed

  -- the second one
  end_within : end + 1 ≤ length file
  end_within = closed_within file end stages.end_closed

  -- the file with the string's frame
  abbrev framed_file : List ℕ
  framed_file = overwritten file (end + 1) (framed string)

  -- which has all up to its gate
  framed_front : take (end + 1) framed_file ≡ take (end + 1) file
  framed_front = overwritten_front file (end + 1) (framed string) end_within

  -- and is no shorter
  framed_long : end + 1 ≤ length framed_file
  framed_long = omega (arith, overwritten_length file (end + 1) (framed string) end_within)

  -- the first string
  first : place ≡ end → Stages framed_file place (end + (9 + length string)) (group ++ string ∷ [])
  first none =
      let empty : group ≡ [] = none_between place group (stages.end_is ∙ sym none) in
      let here : place + 1 ≤ length framed_file = omega (arith, framed_long) in
      let rest : drop (end + 1) (gate_opened framed_file end) ≡ drop (end + 1) framed_file =
      overwritten_rest framed_file end (1 ∷ []) (omega (arith, framed_long)) in
      let entry : EntryAt (gate_opened framed_file end) end string =
      entry_framed file end end_within string (gate_opened framed_file end) rest storable (open_at framed_file end (omega (arith, framed_long))) in
      subst (λ list. Stages framed_file place (end + (9 + length string)) (list ++ string ∷ [])) (sym empty) (record {
        closed = same_within (end + 1) place 1 framed_file file framed_front (omega arith) ∙ stages.closed;
        entries = (subst (λ p. EntryAt (gate_opened framed_file p) p string) (sym none) entry, tt);
        end_is = ap (λ p. p + (9 + length string)) none;
        end_closed = gate_framed file end end_within string framed_file refl;
      })

  -- the file with the frame and the open gate before it
  abbrev put_file : List ℕ
  put_file = overwritten framed_file end (1 ∷ [])

  -- a string behind another
  next : place < end → Stages put_file place (end + (9 + length string)) (group ++ string ∷ [])
  next some =
      let short : end ≤ length framed_file = omega (arith, framed_long) in
      let put_front : take end put_file ≡ take end file =
      overwritten_front framed_file end (1 ∷ []) short ∙ same_front (end + 1) end framed_file file framed_front (omega arith) in
      let put_long : end ≤ length put_file = omega (arith, overwritten_length framed_file end (1 ∷ []) short) in
      let rest : drop (end + 1) put_file ≡ drop (end + 1) framed_file = overwritten_rest framed_file end (1 ∷ []) short in
      let entry : EntryAt put_file end string = entry_framed file end end_within string put_file rest storable (open_at framed_file end short) in
      let opened : drop (place + 1) (gate_opened put_file place) ≡ drop (place + 1) put_file = overwritten_rest put_file place (1 ∷ []) (omega arith) in
      let agrees : take end (gate_opened file place) ≡ take end (gate_opened put_file place) =
      overwritten_agree end place (1 ∷ []) file put_file (sym put_front) (omega arith) (omega (arith, end_within)) put_long in
      let before : Spans (gate_opened put_file place) place group =
      spans_agree end (gate_opened file place) (gate_opened put_file place) place group agrees (omega (arith, stages.end_is)) stages.entries in
      record {
        closed = same_within end place 1 put_file file put_front (omega arith) ∙ stages.closed;
        entries = spans_push (gate_opened put_file place) place group string before
            (subst (λ p. EntryAt (gate_opened put_file place) p string) (sym stages.end_is)
            (entry_later (place + 1) put_file (gate_opened put_file place) end string (sym opened) (omega arith) entry));
        end_is = end_push place group string ∙ ap (λ p. p + (9 + length string)) stages.end_is;
        end_closed = gate_framed file end end_within string put_file rest;
      }

  -- the first one, by the file that was read
  pub stages_first : (after : List ℕ) → place ≡ end → after ≡ framed_file → Stages after place (end + (9 + length string)) (group ++ string ∷ [])
  stages_first after none is = subst (λ f. Stages f place (end + (9 + length string)) (group ++ string ∷ [])) (sym is) (first none)

  -- one behind another, by the files that were read
  pub stages_next : (mid after : List ℕ) → place < end → mid ≡ framed_file → after ≡ overwritten mid end (1 ∷ [])
      → Stages after place (end + (9 + length string)) (group ++ string ∷ [])
  stages_next mid after some is then =
      subst (λ f. Stages f place (end + (9 + length string)) (group ++ string ∷ [])) (sym (then ∙ ap (λ f. overwritten f end (1 ∷ [])) is)) (next some)

-- ---- the opened gate

module _ (file : List ℕ) (strings : List (List ℕ)) (reads : Reads file strings) (place : ℕ) (place_is : end_of 8 strings ≡ place)
    (end : ℕ) (group : List (List ℕ)) (stages : Stages file place end group) (some : place < end) where
  -- the gate is there
  within : place + 1 ≤ length file
  within = closed_within file place stages.closed

  -- what agrees with the file but at the gate, which is open, has the group too
  all : (c : List ℕ) → take place c ≡ take place file → drop (place + 1) c ≡ drop (place + 1) file → take 1 (drop place c) ≢ 0 ∷ [] → Reads c (strings ++ group)
  all c front rest is_open =
      let behind : 8 ≤ place = omega (arith, place_is, end_behind 8 strings) in
      let opened : drop (place + 1) (gate_opened file place) ≡ drop (place + 1) c = overwritten_rest file place (1 ∷ []) (omega (arith, within)) ∙ sym rest in
      let whole : end_of 8 (strings ++ group) ≡ end = end_append 8 strings group ∙ ap (λ p. end_of p group) place_is ∙ stages.end_is in
      record {
        header = same_front place 8 c file front behind ∙ reads.header;
        entries = spans_append c 8 strings group (spans_agree place file c 8 strings (sym front) (omega (arith, place_is)) reads.entries)
            (subst (λ p. Spans c p group) (sym place_is) (spans_open (gate_opened file place) c place group opened is_open stages.entries));
        closed = subst (IsClosedAt c) (sym whole) (same_behind (place + 1) end 1 c file rest (omega arith) ∙ stages.end_closed);
      }

  -- the file whose gate was opened has it
  pub reads_opened_gate : Reads (gate_opened file place) (strings ++ group)
  reads_opened_gate =
      all (gate_opened file place) (overwritten_front file place (1 ∷ []) (omega (arith, within)))
      (overwritten_rest file place (1 ∷ []) (omega (arith, within)))
      (open_at file place (omega (arith, within)))

  -- and what a crash leaves while it is opened has all of it or none
  pub reads_torn_gate : (c : List ℕ) → Torn place 1 file c → Reads c strings ⊎ Reads c (strings ++ group)
  reads_torn_gate c torn =
      let most : min place (length file) ≡ place = omega (arith, within) in
      let front : take place c ≡ take place file = ap (λ m. take m c) (sym most) ∙ torn.before in
      let less : IsClosedAt c place → Reads c strings = λ closed.
      reads_less file strings reads c (subst (λ p. take p c ≡ take p file) (sym place_is) front) (subst (IsClosedAt c) (sym place_is) closed) in
      ⊎_elim (λ closed. inl (less closed)) (λ is_open. inr (all c front torn.after is_open)) (closed_or_open (drop place c))
