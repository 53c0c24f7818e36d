use Rattle.std.proofs.Common.{◌∙◌, ℕ, IfOk, ap, subst, sym}
use Rattle.scj_model.specs.Code.{code_of}
use Rattle.scj_model.specs.Effects.{Effect}
use Rattle.op_list.specs.declared.instructions.Instruction.{Instruction}
use Rattle.op_list.specs.Instructions.{instruction_of}
use Rattle.op_list.specs.Meanings.{effect_by}
use Rattle.job_frames.specs.EffectsSeen.{Does, world}
use Rattle.job_frames.specs.Frames.{frame_of}
use Rattle.call_operations.proofs.Choosing.{chooses}
use Rattle.call_operations.proofs.all_operations.operate.Goals as goal

pub follow-requires : goal.follow-requires
follow-requires c =
    chooses c.args.code.now c.args.row.now c.node_number-id.result c.args.frame.now.index c.node_number-id.ensures
    c.requires.asks c.requires.goes

pub returns-clause-does : goal.returns-clause-does
returns-clause-does c =
    let code = code_of c.args.code.now.program in
    let world = world c.args.world.memory.now c.args.world.plan.now.readings c.args.world.unit in
    let frame = frame_of c.args.code.now c.args.frame.now in
    let op = c.args.row.now.op in
    subst
    (λ (what : Effect). IfOk c.follow.result (λ effect. Does c.args.code.now what effect c.follow.new.frame))
    (sym (c.instructions_mean_operations.ensures code world frame op
    ∙ (ap (λ (n : ℕ). effect_by code world frame n (instruction_of code op)) (sym c.node_number-id.ensures)
    ∙ ap (λ (i : Instruction). effect_by code world frame c.node_number-id.result i) (sym c.requires.asks))))
    c.follow.ensures.does
