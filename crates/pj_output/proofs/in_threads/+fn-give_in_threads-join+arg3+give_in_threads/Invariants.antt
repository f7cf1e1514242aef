use Rattle.std.proofs.Common.{◌+◌, ◌*◌}
use Rattle.pj_output.proofs.in_threads.+fn-give_in_threads-join+arg3+give_in_threads.Given as goal

-- a call with fewer threads
abbrev pub decreases-join+arg3 : goal.decreases-join+arg3
decreases-join+arg3 g l = 2 * l.others + 1

abbrev pub decreases-give_in_threads : goal.decreases-give_in_threads
decreases-give_in_threads g l = 2 * l.threads
