use Rattle.std.proofs.Common.{◌∙◌, ℕ, List, Option, None, ap, subst, sym}
use Rattle.scj_model.specs.Memory.{closed}
use Rattle.scj_model.specs.State.{State}
use Rattle.scj_model.specs.declared.handlers.HandlerRow.{HandlerRow}
use Rattle.region_heap.specs.Contents.{Contents, with_memory}
use Rattle.run_state.specs.declared.states.RunState.{RunState}
use Rattle.run_state.specs.Seen.{state_of}
use Rattle.run_state.specs.Standing.{ClosesLast}
use Rattle.run_state.proofs.Standing.{closed_is}
use Rattle.mission_steps.proofs.Done.{mission_left}
use Rattle.mission_steps.proofs.applied.close_mission.Goals as goal

pub returns : goal.returns
unfolding state_of
returns c = record {
  closed = λ code.
      ap (λ (rows : List HandlerRow). (let s : State = record (state_of code
      (let st : RunState = record c.args.state.now { memory = c.close_opened.new.memory; mission = None } in st)) {
        activity = record (state_of code c.args.state.now).activity { areas = c.drop_innermost.new.self };
        registry = rows;
      } in s)) c.clear.ensures.items
      ∙ mission_left code c.args.state.now c.close_opened.new.memory c.drop_innermost.new.self
      (λ s. ap (λ (area : Option ℕ). closed (with_memory s c.args.state.now.memory) area) (sym c.innermost-area.ensures)
      ∙ (closed_is s c.args.state.now.memory c.innermost-area.result
      ∙ ap (λ (m : Contents). with_memory s m) (sym c.close_opened.ensures))) c.drop_innermost.ensures;
}

pub close_opened-requires : goal.close_opened-requires
close_opened-requires c =
    subst (λ (area : Option ℕ). ClosesLast c.args.state.now.memory area) (sym c.innermost-area.ensures) c.requires
