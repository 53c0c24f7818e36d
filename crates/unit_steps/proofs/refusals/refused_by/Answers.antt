use Rattle.std.specs.Prelude.{IfOk}
use Rattle.std.proofs.Common.{◌≡◌, ◌∙◌, ℕ, subst, sym}
use Rattle.std.proofs.lemmas.List.{length-replicate}
use Rattle.scj_model.specs.Memory.{default_value}
use Rattle.area_needs.specs.Refusals.{refused_by, refused_in}
use Rattle.region_heap.specs.Contents.{with_memory}
use Rattle.job_frames.specs.EffectsSeen.{effect_seen}
use Rattle.unit_steps.proofs.refusals.refused_by.Goals as goal

pub returns-in-Makes-clause-refused : goal.returns-in-Makes-clause-refused
unfolding refused_by effect_seen
returns-in-Makes-clause-refused c = λ code s f below e.
    rw c.in-Makes.is
    (subst (λ (n : ℕ). IfOk c.refused_on_top.result (λ refusal. refusal
    ≡ refused_in (with_memory s c.args.memory.now) f.area n)) (c.len.ensures ∙ c.in-Makes.slots.ok.0)
    (c.refused_on_top.ensures.refused s f below e))

pub returns-in-MakesArray-clause-refused : goal.returns-in-MakesArray-clause-refused
unfolding refused_by effect_seen
returns-in-MakesArray-clause-refused c = λ code s f below e.
    rw c.in-MakesArray.is
    (subst (λ (n : ℕ). IfOk c.refused_on_top-in-MakesArray.result (λ refusal. refusal
    ≡ refused_in (with_memory s c.args.memory.now) f.area n))
    (sym (length-replicate c.in-MakesArray.count (default_value c.in-MakesArray.kind)))
    (c.refused_on_top-in-MakesArray.ensures.refused s f below e))
