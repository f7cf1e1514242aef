use Rattle.std.proofs.Common.{◌≡◌, ◌∙◌, refl, sym, ap, subst, [], arith}
use Rattle.std.proofs.lemmas.List.{nil_from_length}
use Rattle.std.proofs.Common.{Contains, append-nil}
use Rattle.pj_change.proofs.Members.{no_member}
use Rattle.std.specs.declared.cmp.Ordering.TheVariants.{Less}
use Rattle.pj_tree.specs.declared.pairings.Pairing.{Pairing}
use Rattle.pj_tree.specs.Rows.{pair_cmp}
use Rattle.pj_tree.proofs.Naming.{below_last, naming_new, naming_more}
use Rattle.pj_tree.proofs.pairings.add.Goals as goal
use Rattle.pj_tree.proofs.pairings.add.Goals.{in-Some+else-has_pair_of+in_ok-push-2, in_default}

pub returns-then-has_pair_of : goal.returns-then-has_pair_of
returns-then-has_pair_of c status rows a sorted live =
    let tie = sym c.has_pair_of.ensures ∙ c.if-has_pair_of.true in
    rw (c.in_ok-push.ensures.items, c.with_name.ensures)
    (naming_more status rows c.args.row.now c.pop.new.self.items c.in-Some.last c.args.word (rw c.in-Some.ensures.items at a) tie live)

pub returns : goal.returns
returns c status rows a sorted live =
    let before : (c.match-pop.pairings.items ≡ c.args.pairings.now.items) × ((e : Pairing) → Contains c.args.pairings.now.items e → pair_cmp e.row.now c.args.row.now ≡ Less) =
    elim c.match-pop.branch [
      | in-Some+else-has_pair_of+in_ok-push-2 w ↦ (
        ap (λ v. v.items) w.pairings-is ∙ w.in_ok-push-2.ensures.items ∙ sym w.in-Some.ensures.items,
        rw w.in-Some.ensures.items (below_last status rows c.args.row.now c.pop.new.self.items w.in-Some.last (rw w.in-Some.ensures.items at a) sorted (sym w.has_pair_of.ensures ∙ w.if-has_pair_of.false)),
      )
      | in_default w ↦
          let none : c.args.pairings.now.items ≡ [] = nil_from_length _ (let h = w.in_default.ensures.cases.0 in let ok = c.args.pairings.now.ok in omega arith) in
          (ap (λ v. v.items) w.pairings-is ∙ sym (w.in_default.ensures.items ∙ append-nil _), λ e m. absurd (no_member e (subst (λ l. Contains l e) none m)))
    ] in
    rw c.in_ok-push-3.ensures.items
    (rw before.0 (naming_new status rows c.args.row.now c.args.pairings.now.items _ c.args.word a before.1 live refl refl refl))
