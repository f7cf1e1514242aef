use Rattle.std.proofs.Common.{ℕ, ◌++◌, List, ap, subst, ◌∙◌, arith}
use Rattle.pj_io.specs.Sink.{AppendsFront}
use Rattle.pj_serve.proofs.Listings.{listed_more, listed_front, listed_all}
use Rattle.pj_serve.proofs.listing.write_journal.Goals as goal

pub returns-in_default-clause-bytes : goal.returns-in_default-clause-bytes
returns-in_default-clause-bytes g c h =
    let before = c.loop-index.invariant in
    let P : List ℕ → Type 0 = λ bytes. AppendsFront (g.D.Sink.meaning.written c.loop-index.sink) (g.D.Sink.meaning.written c.give_all.new.sink) bytes in
    listed_front _ _ _ c.loop-index.index c.args.entries.now c.index-entries-index.result (before.listed h) c.index-entries-index.is c.loop-index-test.true
    (subst P c.journal_line-count.ensures.bytes (c.in_default.ensures.bytes (before.told ∙ h)))

pub loop-index-preserved : goal.loop-index-preserved
loop-index-preserved g c =
    let before = c.loop-index.invariant in
    record {
      listed = λ h. listed_more _ _ _ c.loop-index.index c.args.entries.now c.index-entries-index.result (before.listed h) c.index-entries-index.is c.loop-index-test.true
          (c.in-Ok.ensures.bytes (before.told ∙ h) ∙ ap (λ bytes. g.D.Sink.meaning.written c.loop-index.sink ++ bytes) c.journal_line-count.ensures.bytes);
      told = c.in-Ok.ensures.told ∙ before.told;
      label = λ h. c.in-Ok.ensures.label (before.told ∙ h) ∙ before.label h;
      count = omega (arith, before.count, c.in-Ok.ensures.cause.never_falls);
    }

pub returns-clause-bytes : goal.returns-clause-bytes
returns-clause-bytes g c h = listed_all _ _ c.loop-index.index c.args.entries.now (c.loop-index.invariant.listed h) (omega (arith, c.loop-index-test.false))
