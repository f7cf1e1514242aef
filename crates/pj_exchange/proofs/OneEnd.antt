-- The causes of ends exclude each other.
use Rattle.std.proofs.Common.{◌≡◌, ℕ, List, [], ◌∷◌, refl, sym, ◌∙◌, ap, subst, inl, inr, arith}
use Rattle.std.specs.Prelude.{◌⊎◌}
use Rattle.pj_change.proofs.Members.{heads}
use Rattle.pj_machine.specs.declared.channel_name.ChannelName.{ChannelName}
use Rattle.pj_machine.specs.declared.command.Command.{Command}
use Rattle.pj_machine.specs.declared.reply.Numbered.{Numbered}
use Rattle.pj_machine.specs.declared.reply.Numbered.TheVariants.{At}
use Rattle.pj_machine.specs.declared.reply.Refusal.{Refusal}
use Rattle.pj_machine.specs.declared.reply.Reply.TheVariants.{No}
use Rattle.pj_replies.specs.Reads.{IsStrangeTo, IsTooLong}
use Rattle.pj_exchange.specs.declared.end.SyncEnd.TheVariants.{Done, Remote, Strange, Local, Cut, Spent, ReadFault, WriteFault, StoreFault, Memory}
use Rattle.pj_exchange.specs.Ends.{Course, IsDueIn, IsForeseen, IsLastHere, IsLastThere, IsLess, IsNo, IsOdd, IsOddLast, IsUnfit}
use Rattle.pj_exchange.specs.Events.{Here, There}
use Rattle.pj_exchange.specs.Laws.{AtMostOneEnd}
use Rattle.pj_exchange.specs.Phases.{Phase, Asking, Making, Listing, Getting, Storing, Applying, Giving, Sending, Offering, Over, Requests}

-- ---- what excludes what

-- a reply that is odd is no refusal
odd_is_told : (phase : Phase) (r : Numbered) → IsOdd phase r → IsNo r → ⊥
odd_is_told (Listing names) r odd refused = subst IsNo odd.1.1 refused
odd_is_told (Getting n ns offer) r odd refused = subst IsNo odd.1.1 refused
odd_is_told Asking r odd refused = odd
odd_is_told Making r odd refused = odd
odd_is_told (Storing n text ns offer) r odd refused = odd
odd_is_told (Applying n ns offer) r odd refused = odd
odd_is_told (Giving n ns) r odd refused = odd
odd_is_told (Sending n text ns) r odd refused = odd
odd_is_told (Offering n ns) r odd refused = odd
odd_is_told Over r odd refused = odd

-- a change that is unfit is a refusal that is foreseen
unfit_foreseen : (phase : Phase) (why : Refusal) → IsUnfit phase why → IsForeseen phase why
unfit_foreseen Asking why unfit = absurd unfit
unfit_foreseen Making why unfit = unfit
unfit_foreseen (Listing names) why unfit = unfit
unfit_foreseen (Getting n ns offer) why unfit = unfit
unfit_foreseen (Storing n text ns offer) why unfit = unfit
unfit_foreseen (Applying n ns offer) why unfit = unfit
unfit_foreseen (Giving n ns) why unfit = unfit
unfit_foreseen (Sending n text ns) why unfit = unfit
unfit_foreseen (Offering n ns) why unfit = unfit
unfit_foreseen Over why unfit = unfit

-- less than a reply is neither strange nor too long
less_is_fine : (x : Command) (rest : List ℕ) → IsLess rest x → IsStrangeTo x rest ⊎ IsTooLong x rest → ⊥
less_is_fine x rest less (inl strange) = strange.begins_none less.0.value less.0.missing less.0.allowed less.0.whole
less_is_fine x rest less (inr long) = less.1 long

module _ (c : ChannelName) (s : Course) where
  -- the requests that are due are one
  one_request : {P Q : Command → Type 0} (d : IsDueIn c s P) (e : IsDueIn c s Q) → d.request ≡ e.request
  one_request d e = heads d.request e.request [] [] (sym d.is ∙ e.is)

  -- strange bytes are not less than a reply
  strange_less : IsDueIn c s (λ x. IsStrangeTo x s.rest ⊎ IsTooLong x s.rest) → IsDueIn c s (IsLess s.rest) → ⊥
  strange_less d e = less_is_fine d.request s.rest (subst (λ x. IsLess s.rest x) (sym (one_request d e)) e.of) d.of

  -- where a reply is due nothing happened last
  due_there : {P : Command → Type 0} {Q : Numbered → Type 0} → IsDueIn c s P → IsLastThere c s Q → ⊥
  due_there d l = (let k : There l.request l.reply ∷ [] ≡ [] = sym l.is ∙ d.none in cc k)

  -- nor was anything refused here
  due_here : {P : Command → Type 0} (why : Refusal) → IsDueIn c s P → IsLastHere c s why → ⊥
  due_here why d l = (let k : Here l.command (At l.place (No why)) ∷ [] ≡ [] = sym l.is ∙ d.none in cc k)

  -- and nothing was odd
  due_odd : {P : Command → Type 0} → IsDueIn c s P → IsOddLast c s → ⊥
  due_odd d (inl l) = due_there d l
  due_odd d (inr u) = due_here u.0 d u.1

  -- and none is due at the end
  over_due : {P : Command → Type 0} → s.phase ≡ Over → IsDueIn c s P → ⊥
  over_due over d = subst (λ p. Requests c p d.request) over d.sends

  -- what happened last happened here or there
  here_there : {Q : Numbered → Type 0} (why : Refusal) → IsLastHere c s why → IsLastThere c s Q → ⊥
  here_there why l m =
      let k : Here l.command (At l.place (No why)) ∷ [] ≡ There m.request m.reply ∷ [] = sym l.is ∙ m.is in
      let same : Here l.command (At l.place (No why)) ≡ There m.request m.reply = heads (Here l.command (At l.place (No why)))
      (There m.request m.reply) [] [] k in
      cc same

  -- nothing did where the end says so
  last_here : (why : Refusal) → s.last ≡ [] → IsLastHere c s why → ⊥
  last_here why none l = (let k : Here l.command (At l.place (No why)) ∷ [] ≡ [] = sym l.is ∙ none in cc k)

  -- nor there
  last_there : {Q : Numbered → Type 0} → s.last ≡ [] → IsLastThere c s Q → ⊥
  last_there none l = (let k : There l.request l.reply ∷ [] ≡ [] = sym l.is ∙ none in cc k)

  -- nor was anything odd
  last_odd : s.last ≡ [] → IsOddLast c s → ⊥
  last_odd none (inl l) = last_there none l
  last_odd none (inr u) = last_here u.0 none u.1

  -- one refusal was told here
  one_refusal : (why other : Refusal) → IsLastHere c s why → IsLastHere c s other → why ≡ other
  one_refusal why other l m =
      let k = heads (Here l.command (At l.place (No why))) (Here m.command (At m.place (No other))) [] [] (sym l.is ∙ m.is) in
      (let same : why ≡ other = cc (k) in same)

  -- an odd reply is no refusal there
  odd_there : IsOddLast c s → IsLastThere c s IsNo → ⊥
  odd_there (inl l) m =
      let k : There l.request l.reply ≡ There m.request m.reply = heads (There l.request l.reply) (There m.request m.reply) [] [] (sym l.is ∙ m.is) in
      let same : l.reply ≡ m.reply = cc in
      odd_is_told s.phase l.reply l.of (subst IsNo (sym same) m.of)
  odd_there (inr u) m = here_there u.0 u.1 m

  -- nor a refusal here that is not foreseen
  odd_here : (why : Refusal) → IsOddLast c s → IsLastHere c s why → (IsForeseen s.phase why → ⊥) → ⊥
  odd_here why (inl l) m other = here_there why m l
  odd_here why (inr u) m other = other (subst (λ w. IsForeseen s.phase w) (one_refusal u.0 why u.1 m) (unfit_foreseen s.phase u.0 u.2))

-- the law
pub one_end : AtMostOneEnd
one_end c limit s left (Done t g) (Done t' g') ok ok' a b = (λ i. Done ((a.2 ∙ sym b.2) i) ((a.3 ∙ sym b.3) i))
one_end c limit s left (Done t g) (Remote k) ok ok' a b = absurd (last_there c s a.1 b.1)
one_end c limit s left (Done t g) (Strange k) ok ok' a (inl d) = absurd (over_due c s a.0 d.1)
one_end c limit s left (Done t g) (Strange k) ok ok' a (inr o) = absurd (last_odd c s a.1 o.1)
one_end c limit s left (Done t g) (Local why) ok ok' a b = absurd (last_here c s why a.1 b.0)
one_end c limit s left (Done t g) Cut ok ok' a b = absurd (over_due c s a.0 b.0)
one_end c limit s left (Done t g) Spent ok ok' a b = absurd (over_due c s a.0 b.0)
one_end c limit s left (Remote k) (Done t g) ok ok' a b = absurd (last_there c s b.1 a.1)
one_end c limit s left (Remote k) (Remote l) ok ok' a b = ap Remote (a.0 ∙ sym b.0)
one_end c limit s left (Remote k) (Strange l) ok ok' a (inl d) = absurd (due_there c s d.1 a.1)
one_end c limit s left (Remote k) (Strange l) ok ok' a (inr o) = absurd (odd_there c s o.1 a.1)
one_end c limit s left (Remote k) (Local why) ok ok' a b = absurd (here_there c s why b.0 a.1)
one_end c limit s left (Remote k) Cut ok ok' a b = absurd (due_there c s b.0 a.1)
one_end c limit s left (Remote k) Spent ok ok' a b = absurd (due_there c s b.0 a.1)
one_end c limit s left (Strange k) (Done t g) ok ok' (inl d) b = absurd (over_due c s b.0 d.1)
one_end c limit s left (Strange k) (Done t g) ok ok' (inr o) b = absurd (last_odd c s b.1 o.1)
one_end c limit s left (Strange k) (Remote l) ok ok' (inl d) b = absurd (due_there c s d.1 b.1)
one_end c limit s left (Strange k) (Remote l) ok ok' (inr o) b = absurd (odd_there c s o.1 b.1)
one_end c limit s left (Strange k) (Strange l) ok ok' (inl d) (inl e) = ap Strange (d.0 ∙ sym e.0)
one_end c limit s left (Strange k) (Strange l) ok ok' (inl d) (inr o) = absurd (due_odd c s d.1 o.1)
one_end c limit s left (Strange k) (Strange l) ok ok' (inr o) (inl d) = absurd (due_odd c s d.1 o.1)
one_end c limit s left (Strange k) (Strange l) ok ok' (inr o) (inr p) = ap Strange (o.0 ∙ sym p.0)
one_end c limit s left (Strange k) (Local why) ok ok' (inl d) b = absurd (due_here c s why d.1 b.0)
one_end c limit s left (Strange k) (Local why) ok ok' (inr o) b = absurd (odd_here c s why o.1 b.0 b.1)
one_end c limit s left (Strange k) Cut ok ok' (inl d) b = absurd (strange_less c s d.1 b.0)
one_end c limit s left (Strange k) Cut ok ok' (inr o) b = absurd (due_odd c s b.0 o.1)
one_end c limit s left (Strange k) Spent ok ok' (inl d) b = absurd (strange_less c s d.1 b.0)
one_end c limit s left (Strange k) Spent ok ok' (inr o) b = absurd (due_odd c s b.0 o.1)
one_end c limit s left (Local why) (Done t g) ok ok' a b = absurd (last_here c s why b.1 a.0)
one_end c limit s left (Local why) (Remote k) ok ok' a b = absurd (here_there c s why a.0 b.1)
one_end c limit s left (Local why) (Strange k) ok ok' a (inl d) = absurd (due_here c s why d.1 a.0)
one_end c limit s left (Local why) (Strange k) ok ok' a (inr o) = absurd (odd_here c s why o.1 a.0 a.1)
one_end c limit s left (Local why) (Local other) ok ok' a b = ap Local (one_refusal c s why other a.0 b.0)
one_end c limit s left (Local why) Cut ok ok' a b = absurd (due_here c s why b.0 a.0)
one_end c limit s left (Local why) Spent ok ok' a b = absurd (due_here c s why b.0 a.0)
one_end c limit s left Cut (Done t g) ok ok' a b = absurd (over_due c s b.0 a.0)
one_end c limit s left Cut (Remote k) ok ok' a b = absurd (due_there c s a.0 b.1)
one_end c limit s left Cut (Strange k) ok ok' a (inl d) = absurd (strange_less c s d.1 a.0)
one_end c limit s left Cut (Strange k) ok ok' a (inr o) = absurd (due_odd c s a.0 o.1)
one_end c limit s left Cut (Local why) ok ok' a b = absurd (due_here c s why a.0 b.0)
one_end c limit s left Cut Cut ok ok' a b = refl
one_end c limit s left Cut Spent ok ok' a b = absurd (let low = a.1 in let at = b.1 in omega arith)
one_end c limit s left Spent (Done t g) ok ok' a b = absurd (over_due c s b.0 a.0)
one_end c limit s left Spent (Remote k) ok ok' a b = absurd (due_there c s a.0 b.1)
one_end c limit s left Spent (Strange k) ok ok' a (inl d) = absurd (strange_less c s d.1 a.0)
one_end c limit s left Spent (Strange k) ok ok' a (inr o) = absurd (due_odd c s a.0 o.1)
one_end c limit s left Spent (Local why) ok ok' a b = absurd (due_here c s why a.0 b.0)
one_end c limit s left Spent Cut ok ok' a b = absurd (let at = a.1 in let low = b.1 in omega arith)
one_end c limit s left Spent Spent ok ok' a b = refl
one_end c limit s left ReadFault end ok ok' a b = absurd ok
one_end c limit s left WriteFault end ok ok' a b = absurd ok
one_end c limit s left StoreFault end ok ok' a b = absurd ok
one_end c limit s left Memory end ok ok' a b = absurd ok
one_end c limit s left end ReadFault ok ok' a b = absurd ok'
one_end c limit s left end WriteFault ok ok' a b = absurd ok'
one_end c limit s left end StoreFault ok ok' a b = absurd ok'
one_end c limit s left end Memory ok ok' a b = absurd ok'
