use Rattle.std.proofs.Common.{◌∙◌, sym}
use Rattle.test_tables.proofs.dead.kept.is_entered.Goals as goal

pub returns : goal.returns
returns c = λ h. record {
  from = c.in-Some.from;
  live = c.is_live.ensures c.if-not-is_live.false;
  edge = c.has_edge.ensures h;
  last_is = sym c.last.ensures ∙ c.are_one.ensures c.if-not-are_one.false;
}
