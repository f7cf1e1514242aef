use Rattle.std.proofs.Common.{◌≡◌, ◌+◌, ◌≤◌, suc, ◌∷◌, ◌++◌, [], take, length, arith, sym, ◌∙◌, ap, subst, inl, inr, true, rules}
use Rattle.std.specs.Prelude.{All}
use Rattle.std.proofs.lemmas.Bool.{cases_order}
use Rattle.std.proofs.lemmas.List.Elements.{All-push}
use Rattle.pj_change.specs.Inverse.{AreInverseNeeds, IsUndoable, HasInverse, IsFirstWithoutInverse}
use Rattle.pj_change.proofs.PositionLemmas.{hunk_read}
use Rattle.pj_inverse.proofs.InverseNeeds.{needs_start}
use Rattle.pj_inverse.proofs.FirstRefused.{first_not_undoable, first_too_many}
use Rattle.pj_inverse.proofs.UndoneHunks.{take_item}
use Rattle.pj_inverse.proofs.needs.inverse_needs.Goals as goal

pub loop-number-init : goal.loop-number-init
loop-number-init c =
    let alone : c.insert.new.self.keys ≡ c.args.record.now.name ∷ [] = search rules in
    record {
      needs = subst (λ ks. AreInverseNeeds c.args.record.now [] ks) (sym alone) (needs_start c.args.record.now);
      few = (let e = ap length alone in omega (arith, e));
      undoable = λ k d low. absurd (omega (arith, low));
      before = λ j low. absurd (omega (arith, low));
    }

pub returns-then-not-is_undoable-clause-hunk : goal.returns-then-not-is_undoable-clause-hunk
returns-then-not-is_undoable-clause-hunk c = λ k e.
    let n = c.loop-number.number in
    let at = hunk_read c.args.record.now c.items-hunk-items.result.now n c.hunk-item.result c.items-hunk-items.ensures c.hunk-item.is c.loop-number-test.true in
    let first : IsFirstWithoutInverse c.args.record.now n = first_not_undoable c.args.record.now n c.hunk-item.result at.there (λ u. (let yes : c.is_undoable.result ≡ true = c.is_undoable.ensures.1 u in let no = c.if-not-is_undoable.true in cc)) c.loop-number.invariant.before in
    let same : n ≡ k = cc in
    subst (IsFirstWithoutInverse c.args.record.now) same first

pub returns-then-len-gt-MOST_NEEDS-clause-hunk : goal.returns-then-len-gt-MOST_NEEDS-clause-hunk
returns-then-len-gt-MOST_NEEDS-clause-hunk c = λ k e.
    let n = c.loop-number.number in
    let r = c.args.record.now in
    let hunks = c.items-hunk-items.result.now in
    let at = hunk_read r hunks n c.hunk-item.result c.items-hunk-items.ensures c.hunk-item.is c.loop-number-test.true in
    let are : AreInverseNeeds r (take n hunks ++ c.hunk-item.result ∷ []) c.add_deleted.new.needs.keys = c.in_ok-add_deleted.ensures (take n hunks) c.loop-number.invariant.needs in
    let upto : take n hunks ++ c.hunk-item.result ∷ [] ≡ take (suc n) r.change.hunks = sym (take_item hunks n c.hunk-item.result c.loop-number-test.true c.hunk-item.is) ∙ ap (λ m. take m hunks) (let o : n + 1 ≡ suc n = omega arith in o) ∙ ap (take (suc n)) c.items-hunk-items.ensures in
    let first : IsFirstWithoutInverse r n = first_too_many r n c.hunk-item.result c.add_deleted.new.needs.keys at.there (subst (λ hs. AreInverseNeeds r hs c.add_deleted.new.needs.keys) upto are) (omega (arith, c.len.ensures.len, c.if-len-gt-MOST_NEEDS.true)) c.loop-number.invariant.before in
    let same : n ≡ k = cc in
    subst (IsFirstWithoutInverse r) same first

pub loop-number-preserved : goal.loop-number-preserved
loop-number-preserved c =
    let n = c.loop-number.number in
    let r = c.args.record.now in
    let hunks = c.items-hunk-items.result.now in
    let h = c.hunk-item.result in
    let keys = c.add_deleted.new.needs.keys in
    let at = hunk_read r hunks n h c.items-hunk-items.ensures c.hunk-item.is c.loop-number-test.true in
    let are : AreInverseNeeds r (take n hunks ++ h ∷ []) keys = c.in_ok-add_deleted.ensures (take n hunks) c.loop-number.invariant.needs in
    let item = take_item hunks n h c.loop-number-test.true c.hunk-item.is in
    let upto : take n hunks ++ h ∷ [] ≡ take (suc n) r.change.hunks = sym item ∙ ap (λ m. take m hunks) (let o : n + 1 ≡ suc n = omega arith in o) ∙ ap (take (suc n)) c.items-hunk-items.ensures in
    let few : length keys ≤ 256 = omega (arith, c.len.ensures.len, c.if-len-gt-MOST_NEEDS.false) in
    let undoable : IsUndoable h = c.is_undoable.ensures.0 c.if-not-is_undoable.false in
    let here : HasInverse r n = record { hunk = h; there = at.there; undoable = undoable; needs = keys; needs_are = subst (λ hs. AreInverseNeeds r hs keys) upto are; few = few } in
    record {
      needs = subst (λ hs. AreInverseNeeds r hs keys) (sym item) are;
      few = few;
      undoable = subst (λ hs. All IsUndoable hs) (sym item) (All-push IsUndoable (take n hunks) h c.loop-number.invariant.undoable undoable);
      before = λ j low. elim (cases_order j n) [
        | inl e ↦ subst (HasInverse r) (sym e) here
        | inr (inl below) ↦ c.loop-number.invariant.before j below
        | inr (inr above) ↦ absurd (omega (arith, low, above))
      ];
    }
