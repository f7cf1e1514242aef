use Rattle.std.proofs.Common.{◌≡◌, ℕ, suc, ◌<◌, true, false, get_or}
use Rattle.pj_print.proofs.only_order.are_all_joined.Given as goal

abbrev pub invariant-loop-next : goal.invariant-loop-next
invariant-loop-next l = (at : ℕ) → suc at < l.next → get_or l.joined at false ≡ true
