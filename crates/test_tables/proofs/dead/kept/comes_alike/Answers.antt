use Rattle.std.proofs.Common.{◌≡◌, ◌∙◌, sym, subst, true, false}
use Rattle.pj_dead.specs.DeadRows.{Enters}
use Rattle.test_tables.specs.States.{shown}
use Rattle.test_tables.proofs.dead.kept.comes_alike.Goals as goal

pub returns-then-not-dead : goal.returns-then-not-dead
returns-then-not-dead c = λ h. record {
  dead = λ d. absurd (let k : true ≡ false = sym d.dead ∙ sym c.dead.ensures ∙ c.if-not-dead.true in cc);
  live = λ l. subst (Enters (shown c.args.after.now) c.args.at) c.last.ensures (c.is_entered.ensures h);
}
