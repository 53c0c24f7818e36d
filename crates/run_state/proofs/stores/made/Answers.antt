use Rattle.std.proofs.Common.{◌∙◌, ap, sym}
use Rattle.std.proofs.lemmas.List.{append-nil}
use Rattle.scj_base.specs.declared.values.Value.TheVariants.{At}
use Rattle.scj_model.specs.State.{Activity, with_activity}
use Rattle.run_state.specs.Seen.{job_seen, state_of}
use Rattle.run_state.specs.Calls.{made_or_full}
use Rattle.run_state.proofs.MakingLemmas.{operand_on_top}
use Rattle.run_state.proofs.stores.made.Goals as goal

pub fault_in-requires : goal.fault_in-requires
fault_in-requires c = c.requires c.in-None.is

pub returns-in_ok-put_back-in-Some : goal.returns-in_ok-put_back-in-Some
unfolding made_or_full
returns-in_ok-put_back-in-Some c = λ code f below e.
    rw c.in-Some.is (record {
      state = c.in_ok-put_back-in-Some.ensures.put code ∙ ap (λ (a : Activity).
          with_activity (state_of code c.args.state.now) (job_seen c.args.acting.job) a)
          (operand_on_top code c.args.activity c.push_on_top.new.self f below (At c.in-Some.r)
          c.in_ok-push_on_top-in-Some.ensures.pushed e);
      reported = sym (append-nil c.args.reported.now.items);
    })

pub returns-in_ok-fault_in-in-None : goal.returns-in_ok-fault_in-in-None
unfolding made_or_full
returns-in_ok-fault_in-in-None c = λ code f below e.
    rw c.in-None.is (c.in_ok-fault_in-in-None.ensures code)
