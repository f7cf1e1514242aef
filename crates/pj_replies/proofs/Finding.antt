-- What is found where spellings are renamed, chosen or put one behind the other.
use Rattle.std.proofs.Common.{◌≡◌, ◌≢◌, ℕ, ◌+◌, List, ◌++◌, length, drop, refl, sym, ◌∙◌, ap, inl, inr, arith, append_assoc, length-append, length-drop}
use Rattle.std.specs.Prelude.{◌⊎◌}
use Rattle.std.proofs.lemmas.List.{append_cancel_left, drop-drop}
use Rattle.pj_wire.specs.Spelled.{EndsWithin}
use Rattle.pj_wire.proofs.Fronts.{either_begins}
use Rattle.pj_replies.specs.declared.found.Found.{Found}
use Rattle.pj_replies.specs.declared.found.Found.TheVariants.{Whole, Part, Apart}
use Rattle.pj_replies.specs.Apart.{IsSpelled, IsApart}
use Rattle.pj_replies.specs.Finds.{Finds, first_of}

-- ---- one spelling in other words

-- each allowed value of the one is one of the other, with the same bytes
pub record AreSame {V U : Type 0} (f : V → List ℕ) (A : V → Type 0) (g : U → List ℕ) (B : U → Type 0) (to : V → U) : Type 0 where
  pub there : (v : V) → A v → B (to v) × (f v ≡ g (to v))
  pub back : (u : U) → B u → (v : V) × A v × (f v ≡ g u)

module _ {V U : Type 0} (f : V → List ℕ) (A : V → Type 0) (g : U → List ℕ) (B : U → Type 0) (to : V → U) (same : AreSame f A g B to) (bytes : List ℕ) where
  -- what stands there as one value stands there as the other
  pub whole_as : (v : V) (count : ℕ) → IsSpelled f A bytes v count → IsSpelled g B bytes (to v) count
  whole_as v count s =
      let there = same.there v s.allowed in
      record { allowed = there.0; within = s.within; stands = s.stands ∙ ap (λ t. t ++ drop count bytes) there.1 }

  -- what may become one value may become the other
  pub part_as : EndsWithin f A bytes → EndsWithin g B bytes
  part_as p =
      let there = same.there p.value p.allowed in
      record { value = to p.value; allowed = there.0; missing = p.missing; whole = p.whole ∙ there.1; some = p.some }

  -- where no value stands of the one kind, none stands of the other
  pub apart_as : IsApart f A bytes → IsApart g B bytes
  apart_as s = record {
    has_none = λ u rest allowed e. let v = same.back u allowed in s.has_none v.0 rest v.1 (e ∙ ap (λ t. t ++ rest) (sym v.2));
    begins_none = λ u more allowed e. let v = same.back u allowed in s.begins_none v.0 more v.1 (e ∙ sym v.2);
  }

-- the same values, with the same bytes
pub allowed_as : {V : Type 0} (f g : V → List ℕ) (A B : V → Type 0) (bytes : List ℕ) (r : Found V) → ((v : V) → A v → B v × (f v ≡ g v)) → ((v : V) → B v → A v × (f v ≡ g v))
    → Finds f A bytes r → Finds g B bytes r
allowed_as {V} f g A B bytes (Whole v count) there back s = whole_as f A g B (λ (u : V). u) (record { there = there; back = λ u b. (u, (back u b).0, (back u b).1) }) bytes v count s
allowed_as {V} f g A B bytes Part there back s = part_as f A g B (λ (u : V). u) (record { there = there; back = λ u b. (u, (back u b).0, (back u b).1) }) bytes s
allowed_as {V} f g A B bytes Apart there back s = apart_as f A g B (λ (u : V). u) (record { there = there; back = λ u b. (u, (back u b).0, (back u b).1) }) bytes s

-- ---- one of two

module _ {V : Type 0} (f : V → List ℕ) (A B : V → Type 0) (bytes : List ℕ) where
  -- a value of one of two kinds
  abbrev Either : V → Type 0
  Either v = A v ⊎ B v

  -- what is found of the first kind is found of either
  first : (r : Found V) → r ≢ Apart → Finds f A bytes r → Finds f Either bytes r
  first (Whole v count) other s = record { allowed = inl s.allowed; within = s.within; stands = s.stands }
  first Part other p = record { value = p.value; allowed = inl p.allowed; missing = p.missing; whole = p.whole; some = p.some }
  first Apart other s = absurd (other refl)

  -- where none is of the first kind, what is found of the second is found of either
  second : (r : Found V) → IsApart f A bytes → Finds f B bytes r → Finds f Either bytes r
  second (Whole v count) none s = record { allowed = inr s.allowed; within = s.within; stands = s.stands }
  second Part none p = record { value = p.value; allowed = inr p.allowed; missing = p.missing; whole = p.whole; some = p.some }
  second Apart none s = record {
    has_none = λ v rest either e. elim either [ inl a ↦ none.has_none v rest a e | inr b ↦ s.has_none v rest b e ];
    begins_none = λ v more either e. elim either [ inl a ↦ none.begins_none v more a e | inr b ↦ s.begins_none v more b e ];
  }

  -- the first of the two that is found is what is found of either
  pub one_of : (r q : Found V) → Finds f A bytes r → Finds f B bytes q → Finds f Either bytes (first_of r q)
  one_of (Whole v count) q s t = first (Whole v count) (λ e. cc e) s
  one_of Part q s t = first Part (λ e. cc e) s
  one_of Apart q s t = second q s t

-- ---- one behind the other

-- what is allowed is made of two, of which the first shows where it ends
pub record IsSequence {K W U : Type 0} (head : K → List ℕ) (AllowedK : K → Type 0) (tail : W → List ℕ) (AllowedW : W → Type 0) (spelled : U → List ℕ) (Allowed : U → Type 0) (make : K → W → U) : Type 0 where
  pub one : (v w : K) (a b : List ℕ) → AllowedK v → AllowedK w → head v ++ a ≡ head w ++ b → (v ≡ w) × (a ≡ b)
  pub some : W
  pub allowed : AllowedW some
  pub made : (k : K) (w : W) → AllowedK k → AllowedW w → Allowed (make k w) × (head k ++ tail w ≡ spelled (make k w))
  pub from : (u : U) → Allowed u → (k : K) × (w : W) × AllowedK k × AllowedW w × (head k ++ tail w ≡ spelled u)

module _ {K W U : Type 0} (head : K → List ℕ) (AllowedK : K → Type 0) (tail : W → List ℕ) (AllowedW : W → Type 0) (spelled : U → List ℕ) (Allowed : U → Type 0) (make : K → W → U)
    (s : IsSequence head AllowedK tail AllowedW spelled Allowed make) (bytes : List ℕ) where
  -- a part of the first is a part of the whole
  pub first_part : EndsWithin head AllowedK bytes → EndsWithin spelled Allowed bytes
  first_part p =
      let made = s.made p.value s.some p.allowed s.allowed in
      let more = p.some in
      record {
        value = make p.value s.some;
        allowed = made.0;
        missing = p.missing ++ tail s.some;
        whole = sym (append_assoc bytes p.missing (tail s.some)) ∙ ap (λ t. t ++ tail s.some) p.whole ∙ made.1;
        some = omega (arith, more, length-append p.missing (tail s.some));
      }

  -- where the first does not stand, the whole does not
  pub first_apart : IsApart head AllowedK bytes → IsApart spelled Allowed bytes
  first_apart n = record {
    has_none = λ u rest allowed e.
        let f = s.from u allowed in
        n.has_none f.0 (tail f.1 ++ rest) f.2 (e ∙ ap (λ t. t ++ rest) (sym f.4) ∙ append_assoc (head f.0) (tail f.1) rest);
    begins_none = λ u more allowed e.
        let f = s.from u allowed in
        elim (either_begins bytes more (head f.0) (tail f.1) (e ∙ sym f.4)) [ inl h ↦ n.begins_none f.0 h.0 f.2 h.1 | inr h ↦ n.has_none f.0 h.0 f.2 h.1 ];
  }

  -- the first stands, and the rest is behind it
  module _ (k : K) (at : ℕ) (rest : List ℕ) (is : rest ≡ drop at bytes) (h : IsSpelled head AllowedK bytes k at) where
    -- all bytes are the first and the rest
    stands : bytes ≡ head k ++ rest
    stands = h.stands ∙ ap (λ b. head k ++ b) (sym is)

    -- the second behind it makes the whole
    pub second_whole : (w : W) (count : ℕ) → IsSpelled tail AllowedW rest w count → IsSpelled spelled Allowed bytes (make k w) (at + count)
    second_whole w count t =
        let made = s.made k w h.allowed t.allowed in
        let within = h.within in
        let more = t.within in
        record {
          allowed = made.0;
          within = omega (arith, within, more, ap (λ (b : List ℕ). length b) is, length-drop at bytes);
          stands = stands ∙ ap (λ b. head k ++ b) (t.stands ∙ ap (λ b. tail w ++ drop count b) is ∙ ap (λ b. tail w ++ b) (drop-drop count at bytes))
              ∙ sym (append_assoc (head k) (tail w) (drop (at + count) bytes)) ∙ ap (λ b. b ++ drop (at + count) bytes) made.1;
        }

    -- a part of the second makes a part of the whole
    pub second_part : EndsWithin tail AllowedW rest → EndsWithin spelled Allowed bytes
    second_part p =
        let made = s.made k p.value h.allowed p.allowed in
        record {
          value = make k p.value;
          allowed = made.0;
          missing = p.missing;
          whole = ap (λ b. b ++ p.missing) stands ∙ append_assoc (head k) rest p.missing ∙ ap (λ b. head k ++ b) p.whole ∙ made.1;
          some = p.some;
        }

    -- where the second does not stand behind it, the whole does not stand
    pub second_apart : IsApart tail AllowedW rest → IsApart spelled Allowed bytes
    second_apart n = record {
      has_none = λ u left allowed e.
          let f = s.from u allowed in
          let same = s.one k f.0 rest (tail f.1 ++ left) h.allowed f.2 (sym stands ∙ e ∙ ap (λ t. t ++ left) (sym f.4) ∙ append_assoc (head f.0) (tail f.1) left) in
          n.has_none f.1 left f.3 same.1;
      begins_none = λ u more allowed e.
          let f = s.from u allowed in
          let same = s.one k f.0 (rest ++ more) (tail f.1) h.allowed f.2 (sym (append_assoc (head k) rest more) ∙ ap (λ t. t ++ more) (sym stands) ∙ e ∙ sym f.4) in
          n.begins_none f.1 more f.3 same.1;
    }

-- nothing stands where nothing is allowed
pub none_allowed : {V : Type 0} (f : V → List ℕ) (A : V → Type 0) (bytes : List ℕ) → ((v : V) → A v → ⊥) → IsApart f A bytes
none_allowed f A bytes none = record { has_none = λ v rest a e. none v a; begins_none = λ v more a e. none v a }

-- bytes show where they end themselves
pub one_text : {V : Type 0} (text : List ℕ) (x v w : V) (a b : List ℕ) → v ≡ x → w ≡ x → text ++ a ≡ text ++ b → (v ≡ w) × (a ≡ b)
one_text text x v w a b p q e = (p ∙ sym q, append_cancel_left text a b e)
