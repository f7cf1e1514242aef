-- Neither the source, nor the sink, nor what sees the replies has had a fault.
use Rattle.std.proofs.Common.{◌+◌, length, refl, arith}
use Rattle.pj_load.proofs.ScriptEnds.{script_ends, no_rise}
use Rattle.pj_load.proofs.speaking.speak.Goals as goal

pub returns-clause-speech : goal.returns-clause-speech
returns-clause-speech g c = λ xs script.
    script_ends c.args.script.now xs script (length c.args.script.now + 1) _ (omega arith) _ _ (λ rs did. (rs, did.0, did.1)) c.session_by.result c.session_by.ensures.session
    (λ is. no_rise 0 0 refl (c.session_by.ensures.read_cause is))
    (λ is. no_rise 0 0 refl (c.session_by.ensures.write_cause is))
    (λ is. no_rise _ _ (c.requires.sure c.session_by.new.step) (c.session_by.ensures.store_cause is))
