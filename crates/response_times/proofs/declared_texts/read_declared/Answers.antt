use Rattle.response_times.proofs.Texts.{read_text, refused_text}
use Rattle.response_times.proofs.declared_texts.read_declared.Goals as goal

pub returns-in-Ok-clause-meaning : goal.returns-in-Ok-clause-meaning
returns-in-Ok-clause-meaning c =
    rw (read_text _ _ c.in-Ok.ensures.ok.0 c.in-Ok.ensures.ok.1) c.declared_of.ensures.meaning

pub returns-in-Err-clause-meaning : goal.returns-in-Err-clause-meaning
returns-in-Err-clause-meaning c = refused_text _ c.in-Err.error _ c.in-Err.ensures.refused c.refusal.ensures
