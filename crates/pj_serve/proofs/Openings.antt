-- One opening after the other.
use Rattle.std.proofs.Common.{◌≡◌, ◌≢◌, ℕ, ◌+◌, ◌<◌, ◌≤◌, List, [], ◌∷◌, ◌++◌, length, get_or, Option, Some, None, String, string_bytes, refl, sym, ◌∙◌, ap, subst, inl, inr, arith}
use Rattle.std.proofs.lemmas.List.{get_or_append_left, get_or_push, get_or_read}
use mathlib.Core.Logic.{dite}
use native.Mathlib.Decide.{dec_le}
use Rattle.pj_io.specs.Causes.{Rose}
use Rattle.pj_io.specs.Meanings.{Offices, Streams}
use Rattle.pj_serve.specs.declared.finish.Finish.{Finish}
use Rattle.pj_serve.specs.declared.opening.Opened.{Opened}
use Rattle.pj_serve.specs.declared.status.Status.{Status}
use Rattle.pj_serve.specs.declared.status.Status.TheVariants.{Done, Malformed, Words, ReadFault, WriteFault, Memory, Session, Journal, Store}
use Rattle.pj_serve.specs.Outside.{KeepsOffice}
use Rattle.pj_serve.specs.Opening.{IsSource, IsScript, AreFirst, AreScripts, OpeningFailed, handed_back, IsUnpaired, LacksPair, StopsWriting, LacksScript, LacksRun}
use Rattle.pj_serve.specs.Sessions.{HoldsNone, HasNoSession, HasStopped}
use Rattle.pj_serve.specs.Status.{exit_status}

-- what an office keeps over two calls
pub keeps_on : {O : Type 0} (offices : Offices O) (a b c : O) → KeepsOffice offices a b → KeepsOffice offices b c → KeepsOffice offices a c
keeps_on offices a b c p q = record {
  same_telling = q.same_telling ∙ p.same_telling;
  same_contents = λ h. q.same_contents (p.same_telling ∙ h) ∙ p.same_contents h;
  read_never_falls = (let x = p.read_never_falls in let y = q.read_never_falls in omega arith);
  write_never_falls = (let x = p.write_never_falls in let y = q.write_never_falls in omega arith);
}

module _ {O S D : Type 0} (offices : Offices O) (streams : Streams S D) where
  script_before : (old mid : O) (path : List ℕ) (o : Opened S D) → KeepsOffice offices old mid → IsScript offices streams mid path o → IsScript offices streams old path o
  script_before old mid path o k f = record {
    source = record { told = λ h. f.source.told (k.same_telling ∙ h); not_shut = f.source.not_shut; no_fault = f.source.no_fault };
    bytes_are = λ h. f.bytes_are (k.same_telling ∙ h) ∙ ap (λ c. c.script path) (k.same_contents h);
    sink = f.sink;
    label_is = f.label_is;
  }

  abbrev pub AllBelow : {A : Type 0} → O → List (String A) → List (Opened S D) → ℕ → Type 0
  AllBelow {A} office paths opened n = (i : ℕ) (p : String A) (o : Opened S D) → i < n → IsScript offices streams office (string_bytes (get_or paths i p)) (get_or opened i o)

  -- one script more
  pub script_pushed : {A : Type 0} (old mid : O) (paths : List (String A)) (opened opened' : List (Opened S D)) (one : Opened S D) (n : ℕ) (item : String A) (text : List ℕ) → KeepsOffice offices old mid → length opened ≡ n → opened' ≡ opened ++ one ∷ [] → n < length paths → item ≡ get_or paths n item → text ≡ string_bytes item
      → IsScript offices streams mid text one → AllBelow old paths opened n → AllBelow old paths opened' (n + 1)
  script_pushed {A} old mid paths opened opened' one n item text keeps size made inside read text_is f all i p o lt =
      dite (dec_le n i)
      (λ le. let here : i ≡ n = omega (arith, le) in
      let path : text ≡ string_bytes (get_or paths i p) = text_is ∙ ap string_bytes (get_or_read paths n item inside read p) ∙ ap (λ k. string_bytes (get_or paths k p)) (sym here) in
      let is : one ≡ get_or opened' i o = sym (get_or_push opened one o n size) ∙ ap (λ l. get_or l n o) (sym made) ∙ ap (λ k. get_or opened' k o) (sym here) in
      subst (λ t. IsScript offices streams old t (get_or opened' i o)) path (subst (λ q. IsScript offices streams old text q) is (script_before old mid text one keeps f)))
      (λ below. let under : i < length opened = omega (arith, below) in
      let is : get_or opened i o ≡ get_or opened' i o = sym (get_or_append_left opened (one ∷ []) o i under) ∙ ap (λ l. get_or l i o) (sym made) in
      subst (λ q. IsScript offices streams old (string_bytes (get_or paths i p)) q) is (all i p o (omega (arith, below))))

-- a count that rose since a later time rose since an earlier one
pub rose_since : (a b c : ℕ) → a ≤ b → Rose b c → Rose a c
rose_since a b c le rose = grind (arith, le, rose)

module _ {O S D : Type 0} (offices : Offices O) (streams : Streams S D) (old mid new : O) (keeps : KeepsOffice offices old mid) where
  source_before : (path : List ℕ) (s : S) → IsSource streams.sources (offices.tells mid) ((offices.contents mid).script path) s →
      IsSource streams.sources (offices.tells old) ((offices.contents old).script path) s
  source_before path s f = record {
    new = record { told = λ h. f.new.told (keeps.same_telling ∙ h); not_shut = f.new.not_shut; no_fault = f.new.no_fault };
    bytes_are = λ h. f.bytes_are (keeps.same_telling ∙ h) ∙ ap (λ c. c.script path) (keeps.same_contents h);
  }

  module _ {A : Type 0} (paths : List (String A)) (opened : List (Opened S D)) where
    module _ (n : ℕ) (item : String A) (text : List ℕ) (size : length opened ≡ n) (inside : n < length paths) (read : item ≡ get_or paths n item) (text_is : text ≡ string_bytes item)
        (all : AllBelow offices streams old paths opened n) where
      first : AreFirst offices streams old paths opened
      first = record { few = omega (arith, size, inside); each = λ i p o lt. all i p o (omega (arith, lt, size)) }

      stops : (source : Option S) → IsUnpaired offices streams mid new ((offices.contents mid).script text) source → StopsWriting offices streams old new paths (length opened) source
      stops None u = absurd u
      stops (Some s) u = (
        omega (arith, size, inside),
        λ p.
            let path : text ≡ string_bytes (get_or paths (length opened) p) = text_is ∙ ap string_bytes (get_or_read paths n item inside read p) ∙ ap (λ k. string_bytes (get_or paths k p)) (sym size) in
            subst (λ t. IsSource streams.sources (offices.tells old) ((offices.contents old).script t) s) path (source_before text s u),
      )

      -- the next script was not opened
      pub script_lacks : (source : Option S) (ended : Status) → LacksPair offices streams mid new ((offices.contents mid).script text) source ended →
          LacksScript offices streams old new paths opened source ended
      script_lacks source ReadFault l = (first, omega (arith, size, inside), l.0, rose_since _ _ _ keeps.read_never_falls l.1)
      script_lacks source WriteFault l = (first, stops source l.0, rose_since _ _ _ keeps.write_never_falls l.1)
      script_lacks source Memory l = l
      script_lacks source Done l = absurd l
      script_lacks source Malformed l = absurd l
      script_lacks source Words l = absurd l
      script_lacks source Session l = absurd l
      script_lacks source Journal l = absurd l
      script_lacks source Store l = absurd l

    -- all scripts were opened, but not the output
    pub output_lacks : (ended : Status) → AreScripts offices streams old paths opened → OpeningFailed WriteFault (Rose (offices.write_faults mid) (offices.write_faults new)) ended →
        LacksScript offices streams old new paths opened None ended
    output_lacks ended scripts why = elim why [
      | inl fault ↦
          subst (LacksScript offices streams old new paths opened None) (sym fault.0) (
            record { few = (let many = scripts.as_many in omega arith); each = λ i p o lt. scripts.each i p o (let many = scripts.as_many in omega arith) },
            scripts.as_many,
            rose_since _ _ _ keeps.write_never_falls fault.1,
          )
      | inr memory ↦ subst (LacksScript offices streams old new paths opened None) (sym memory) refl
    ]

-- what `run` hands back where not all was opened
pub run_stops : {O S D V A : Type 0} (offices : Offices O) (streams : Streams S D) (old new : O) (paths : List (String A)) (opened : List (Opened S D)) (source : Option S) (ended : Status) (result : Finish S D V) →
    LacksScript offices streams old new paths opened source ended → result.status ≡ exit_status ended → (ended ≡ Memory → HoldsNone result) → (ended ≢ Memory → result.kept.items ≡ handed_back 1 opened) →
    (ended ≢ Memory → result.input ≡ source) → HasNoSession result → HasStopped (LacksRun offices streams old new paths) result
run_stops offices streams old new paths opened source ended result why is memory kept input none = record { ended = ended; status = is; lacks = lacks ended why memory kept input; none = none }
  where
    lacks : (e : Status) → LacksScript offices streams old new paths opened source e → (e ≡ Memory → HoldsNone result) → (e ≢ Memory → result.kept.items ≡ handed_back 1 opened) →
        (e ≢ Memory → result.input ≡ source) → LacksRun offices streams old new paths result.kept.items result.input e
    lacks ReadFault l m k i = (opened, k (λ e. cc), subst (λ s. LacksScript offices streams old new paths opened s ReadFault) (sym (i (λ e. cc))) l)
    lacks WriteFault l m k i = (opened, k (λ e. cc), subst (λ s. LacksScript offices streams old new paths opened s WriteFault) (sym (i (λ e. cc))) l)
    lacks Memory l m k i = let holds = m refl in (holds.idle.kept, holds.input)
    lacks Done l m k i = absurd l
    lacks Malformed l m k i = absurd l
    lacks Words l m k i = absurd l
    lacks Session l m k i = absurd l
    lacks Journal l m k i = absurd l
    lacks Store l m k i = absurd l
