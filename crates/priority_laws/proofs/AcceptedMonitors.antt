-- An accepted program enters its monitors, where the framework's methods are called on what their types say.
use Rattle.std.proofs.Common.{◌≡◌, ℕ, zero, suc, ◌+◌, ◌<◌, ◌==◌, nat_lt, true, false, List, length, arith, Option, Some, None, if◌then◌else◌, refl, ap, subst}
use Rattle.std.specs.Prelude.{slice_get}
use Rattle.std.proofs.lemmas.Bool.Decides.{nat_tests}
use Rattle.scj_rules.specs.declared.views.SlotKind.TheVariants.{Number, Truth, Reference}
use Rattle.scj_rules.specs.Layout.{element_kind, first_array_class}
use Rattle.scj_rules.specs.ScopeRules.{is_handler}
use Rattle.scj_rules.proofs.WithinLemmas.{as_many_names}
use Rattle.scj_tree.specs.Forest.{Forest}
use Rattle.scj_rules.specs.declared.views.Body.{Body}
use Rattle.scj_rules.specs.declared.views.Body.TheVariants.{Written, Empty}
use Rattle.scj_rules.specs.Bodies.{is_synchronized_body}
use Rattle.scj_rules.specs.Contexts.{Declarations, declarations_of}
use Rattle.accepted_laws.specs.Programs.{IsAcceptedProgram}
use Rattle.scj_model.specs.declared.handlers.HandlerRow.{HandlerRow}
use Rattle.scj_model.specs.declared.operations.Op.{Op}
use Rattle.scj_model.specs.Code.{Code, code_of}
use Rattle.scj_model.specs.Plan.{Plan}
use Rattle.scj_model.specs.State.{Frame, ReleaseAt, State}
use Rattle.scj_model.specs.Registry.{handler_row}
use Rattle.scj_model.specs.Effects.{Effect, Opens, monitor_of}
use Rattle.scj_model.specs.Choice.{by_priority}
use Rattle.scj_model.specs.Run.{environment}
use Rattle.scj_model.specs.Reached.{Arrived, Reached}
use Rattle.priority_laws.specs.Handlers.{IsHandlerClass, RowsAreOfHandlers}
use Rattle.priority_laws.specs.Premises.{Does, EntersItsMonitors, CallsFrameworkByTypes, is_synchronized}
use Rattle.priority_laws.proofs.AcceptedConstructors.{constructors_plain}
use Rattle.priority_laws.proofs.FrameworkBodies.{run_plain, handle_plain}
use Rattle.priority_laws.proofs.OperationShapes.{scene_of, formed_at}
use Rattle.priority_laws.proofs.RightRuns.{right_priorities}
use Rattle.priority_laws.proofs.Shapes.{Formed, OpensRightly}

-- a frame of a body that isn't synchronized holds no monitor
no_monitor : (code : Code) (g : Frame) → is_synchronized code g.body ≡ false → monitor_of code g ≡ None
unfolding monitor_of
no_monitor code g h = go g.body h
  where
    go : (body : Body) → is_synchronized code body ≡ false →
        (elim body as (λ z. Option ℕ) [
          | Written node ↦ if is_synchronized_body code.program node then g.this else None
          | Empty ↦ None
        ]) ≡ None
    go (Written node) h = ap (λ b. if b then g.this else None) h
    go Empty h = refl

class_of_row : {p : Declarations} {registry : List HandlerRow} → RowsAreOfHandlers p registry →
    (handler : ℕ) (row : HandlerRow) → handler_row registry handler ≡ Some row → IsHandlerClass p row.class
class_of_row h zero row e = absurd (cc (e))
class_of_row h (suc n) row e = h.is n row e

pub accepted_enters : (forest : Forest) → IsAcceptedProgram forest → CallsFrameworkByTypes (code_of forest) →
    EntersItsMonitors (code_of forest)
unfolding code_of
accepted_enters forest a t =
    record {
      constructors = constructors_plain forest a.is_accepted;
      opens = λ plan s index op f g scope bytes h d. opened plan s index op f g scope bytes h d
          (subst (λ (e : Effect). Formed (scene_of (code_of forest) (environment plan.readings s) d.frame d.rest op) e)
          d.is_effect (formed_at (code_of forest) (environment plan.readings s) d.frame d.rest op)).is.1;
      starts = λ plan s index r row body h there waits is_row is_body.
          let c : IsHandlerClass (code_of forest).program row.class =
          class_of_row (right_priorities (code_of forest) plan t.spares h).classes r.handler row is_row in
          handle_plain forest a row.class body c.is_class c.is_handler is_body;
    }
  where
    opened : (plan : Plan) (s : State) (index : ℕ) (op : Op) (f g : Frame) (scope bytes : ℕ) →
        Reached (code_of forest) plan by_priority Arrived s → Does (code_of forest) plan.readings s (ReleaseAt index) op
        (Opens f g scope bytes) → OpensRightly (code_of forest) (λ r. slice_get s.objects r) g →
        monitor_of (code_of forest) g ≡ None
    opened plan s index op f g scope bytes h d o =
        let c = t.opens plan s index op f g scope bytes o.runnable o.object h d o.is_this o.is_there in
        no_monitor (code_of forest) g (run_plain forest a o.object.class g.body c.is_class c.is_runnable o.is_run)

-- ---- a class is no array's

pub handler_class : (forest : Forest) (class : ℕ) → class < length (declarations_of forest).classes →
    is_handler (declarations_of forest) class ≡ true → IsHandlerClass (declarations_of forest) class
unfolding element_kind
handler_class forest class l h =
    record {
      is_class = l;
      is_handler = h;
      is_no_array = ap (λ b. if b then None else (if class == first_array_class p then Some Number
          else (if class == first_array_class p + 1 then Some Truth
          else (if nat_lt class (first_array_class p + 2 + length p.names) then Some Reference else None))))
          (named (length p.names) (subst (λ n. class < n) (as_many_names forest) l));
    }
  where
    p : Declarations
    p = declarations_of forest

    named : (n : ℕ) → class < n → nat_lt class n ≡ true
    named n l = grind (arith, nat_tests)
