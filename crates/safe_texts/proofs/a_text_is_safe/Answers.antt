use Rattle.scj_rules.proofs.RowsOfClasses.{one_safelet}
use Rattle.scj_check.proofs.SampleLaws.{sample_reads, sample_report}
use Rattle.scope_sound.proofs.Safe.{safe}
use Rattle.safe_texts.proofs.Sample.{sample_is_accepted}
use Rattle.safe_texts.proofs.a_text_is_safe.Goals as goal

pub returns-clause-accepted : goal.returns-clause-accepted
returns-clause-accepted c = sample_report

pub returns-clause-safe : goal.returns-clause-safe
returns-clause-safe c = (one_safelet, sample_reads, safe one_safelet sample_is_accepted)
