use Rattle.std.proofs.Common.{◌≡◌, ℕ, ◌<◌, List, [], ◌++◌, length, take, drop, refl, sym, ◌∙◌, ap, arith, length-take}
use Rattle.std.specs.Prelude.{replicate}
use Rattle.std.proofs.lemmas.List.{length-replicate}
use Rattle.pj_session.proofs.Bytes.{got_facts}
use Rattle.pj_sync.proofs.link.Link.take.Goals as goal

pub returns-in-Err-clause-taken : goal.returns-in-Err-clause-taken
returns-in-Err-clause-taken g c =
    record { taken = []; took = λ h. sym (c.in-Err.ensures.bytes h); counted = omega arith; feeds = (refl, refl) }

pub returns-then-count-eq0-clause-taken : goal.returns-then-count-eq0-clause-taken
returns-then-count-eq0-clause-taken g c =
    let piece : List ℕ = replicate 4096 0 in
    let into = c.take.new.into in
    let left = g.S.Source.meaning.left c.take.new.self in
    let some : 0 < c.args.self.now.room = c.requires in
    let wanted : 0 < length (take c.min-wanted.result piece) =
    (let least = c.min-wanted.ensures in omega (arith, length-take c.min-wanted.result piece, length-replicate {A = ℕ} 4096 0)) in
    let none : c.in-Ok.count ≡ 0 = c.if-count-eq0.true in
    record {
      taken = [];
      took = λ h. (c.in-Ok.ensures.bytes h).moved ∙ ap (λ n. take n into ++ left) none;
      counted = omega arith;
      feeds = (
        refl,
        refl,
        λ h.
            sym ((c.in-Ok.ensures.bytes h).moved ∙ ap (λ n. take n into ++ left) none) ∙ ((c.in-Ok.ensures.bytes h).end wanted).0 none,
      );
    }

pub returns-in-Err-feed-clause-taken : goal.returns-in-Err-feed-clause-taken
returns-in-Err-feed-clause-taken g c =
    let piece : List ℕ = replicate 4096 0 in
    let into = c.take.new.into in
    let rest = drop c.min-wanted.result piece in
    let fits = c.in-Ok.ensures.bound in
    let facts = got_facts into rest piece c.in-Ok.count c.min-wanted.result c.args.self.now.room fits c.take.auto.into c.min-wanted.ensures in
    let size = facts.1 in
    let room = facts.2 in
    record {
      taken = take c.in-Ok.count (into ++ rest);
      took = λ h. (c.in-Ok.ensures.bytes h).moved ∙ ap (λ t. t ++ g.S.Source.meaning.left c.take.new.self) (sym facts.0);
      counted = omega arith;
      feeds = tt;
    }

pub returns-in-Ok-feed-clause-taken : goal.returns-in-Ok-feed-clause-taken
returns-in-Ok-feed-clause-taken g c =
    let piece : List ℕ = replicate 4096 0 in
    let into = c.take.new.into in
    let rest = drop c.min-wanted.result piece in
    let fits = c.in-Ok.ensures.bound in
    let facts = got_facts into rest piece c.in-Ok.count c.min-wanted.result c.args.self.now.room fits c.take.auto.into c.min-wanted.ensures in
    let size = facts.1 in
    let room = facts.2 in
    let some = c.if-count-eq0.false in
    record {
      taken = take c.in-Ok.count (into ++ rest);
      took = λ h. (c.in-Ok.ensures.bytes h).moved ∙ ap (λ t. t ++ g.S.Source.meaning.left c.take.new.self) (sym facts.0);
      counted = omega arith;
      feeds = (c.in-Ok-feed.ensures.ok, omega arith);
    }
