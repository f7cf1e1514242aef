use Rattle.std.proofs.Common.{◌≡◌, take}
use Rattle.pj_replies.specs.Digits.{digits_read, IsBelow}
use Rattle.pj_replies.proofs.fields.digits.Given as goal

abbrev pub invariant-loop-place : goal.invariant-loop-place
invariant-loop-place l = IsBelow l.most l.value × (take l.place l.bytes ≡ digits_read l.value)
