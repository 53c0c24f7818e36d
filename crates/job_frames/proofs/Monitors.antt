-- The monitors that frames hold.
use Rattle.std.proofs.Common.{◌≡◌, ℕ, Bool, true, false, Option, None, if◌then◌else◌, refl, ap, sym, ◌∙◌}
use Rattle.scj_tree.specs.Forest.{Forest}
use Rattle.scj_rules.specs.declared.views.Body.{Body}
use Rattle.scj_rules.specs.declared.views.Body.TheVariants.{Written, Empty}
use Rattle.scj_rules.specs.Bodies.{is_synchronized_body}
use Rattle.scj_rules.specs.Contexts.{declarations_of}
use Rattle.scj_model.specs.Code.{code_of}
use Rattle.scj_model.specs.Effects.{monitor_of}
use Rattle.op_list.specs.Listed.{Listing}
use Rattle.job_frames.specs.Frames.{StoredFrame, frame_of}

-- the monitor of a body, called on an object
abbrev held : Forest → Option ℕ → Body → Option ℕ
held forest this body =
    elim body [
      | Written node ↦ if is_synchronized_body (declarations_of forest) node then this else None
      | Empty ↦ None
    ]

held_by : (code : Listing) (f : StoredFrame) →
    monitor_of (code_of code.program) (frame_of code f) ≡ held code.program f.this f.body
unfolding monitor_of code_of
held_by code f = refl

pub monitor_is : (code : Listing) (f : StoredFrame) (node : ℕ) → f.body ≡ Written node →
    is_synchronized_body (declarations_of code.program) node ≡ true →
    f.this ≡ monitor_of (code_of code.program) (frame_of code f)
monitor_is code f node e h =
    sym (held_by code f ∙ ap (held code.program f.this) e ∙ ap (λ (b : Bool). if b then f.this else None) h)

pub no_monitor : (code : Listing) (f : StoredFrame) (node : ℕ) → f.body ≡ Written node →
    is_synchronized_body (declarations_of code.program) node ≡ false →
    None ≡ monitor_of (code_of code.program) (frame_of code f)
no_monitor code f node e h =
    sym (held_by code f ∙ ap (held code.program f.this) e ∙ ap (λ (b : Bool). if b then f.this else None) h)
