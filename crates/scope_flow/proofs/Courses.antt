-- What flows from the beginning of a body, or behind operations that are put in front of the rest, does so along a way
-- through the body; and what was pushed on it is known at each place.
use Rattle.std.specs.Prelude.{Some}
use Rattle.std.proofs.Common.{◌≡◌, ℕ, List, [], ◌∷◌, ◌++◌, Bool, true, subst}
use Rattle.scj_rules.specs.declared.views.Body.{Body}
use Rattle.scj_rules.specs.declared.views.Body.TheVariants.{Written}
use Rattle.accepted_laws.specs.Kinds.{Kind}
use Rattle.scj_model.specs.declared.operations.Op.{Op}
use Rattle.scj_model.specs.Code.{Code}
use Rattle.scj_model.specs.Ops.{body_ops, ops_of, put_in_front}
use Rattle.scope_flow.specs.Signatures.{Signature, IsBody, parameters_of}
use Rattle.scope_flow.specs.Pushers.{Pusher, ArePushed}
use Rattle.scope_flow.specs.Flow.{Flow}
use Rattle.scope_flow.specs.Ways.{goes_into, Comes, at_entry, into, Stood, Course}
use Rattle.scope_flow.specs.Facts.{Facts}
use Rattle.scope_flow.proofs.Entries.{entry_flows}
use Rattle.scope_flow.proofs.Behind.{needs_more}
use Rattle.scope_flow.proofs.Stood.{needs_stood}

-- a course is a flow
pub flow_of_course : (code : Code) (body : Body) (c : ℕ) (sig : Signature) (ops : List Op) (ks : List ℕ)
    (s : List Kind) → Course code body c sig ops ks s → Flow code body c sig ops ks s
flow_of_course code body c sig [] ks s f = f
flow_of_course code body c sig (op ∷ ops) ks s f =
    needs_more (Course code body c sig ops) (Flow code body c sig ops) (flow_of_course code body c sig ops) code body c
    sig op ks s f.1

-- ---- courses

pub courses : (code : Code) (body : Body) (c : ℕ) (sig : Signature) (ops : List Op) (ks : List ℕ) (s : List Kind) →
    Stood code body c ops s → Flow code body c sig ops ks s → Course code body c sig ops ks s
courses code body c sig [] ks s st f = f
courses code body c sig (op ∷ ops) ks s st f = (
  st,
  needs_more (λ ls t. Stood code body c ops t × Flow code body c sig ops ls t) (Course code body c sig ops)
      (λ ls t x. courses code body c sig ops ls t x.0 x.1) code body c sig op ks s
      (needs_stood code body c sig ops (Flow code body c sig ops) op ks s st f),
)

pub course_stood : (code : Code) (body : Body) (c : ℕ) (sig : Signature) (ops : List Op) (ks : List ℕ)
    (s : List Kind) → Course code body c sig ops ks s → Stood code body c ops s
course_stood code body c sig [] ks s f = absurd f
course_stood code body c sig (op ∷ ops) ks s f = f.0

-- at the beginning of a body
pub entry_stood : (code : Code) (body : Body) (c : ℕ) → Stood code body c (body_ops code body) []
entry_stood code body c = record { pushers = []; came = at_entry; pushed = tt }

pub entry_courses : (code : Code) → Facts code → (b c : ℕ) (sig : Signature) → IsBody code.program b c sig →
    Course code (Written b) c sig (ops_of code b) (parameters_of code.program b) []
unfolding body_ops
entry_courses code facts b c sig body =
    courses code (Written b) c sig (ops_of code b) (parameters_of code.program b) [] (entry_stood code (Written b) c)
    (entry_flows code facts b c sig body)

-- behind a condition that goes into a part
pub into_stood : (code : Code) (body : Body) (c : ℕ) (op : Op) (condition : Bool) (front ops : List Op) (k : Kind)
    (s others : List Kind) → s ≡ k ∷ others → Stood code body c (op ∷ ops) s → goes_into op condition ≡ true →
    put_in_front code op condition ≡ Some front → Stood code body c (front ++ ops) others
into_stood code body c op condition front ops k s others e st goes is =
    go st.pushers (subst (ArePushed code.program c st.pushers) e st.pushed) st.came
  where
    go : (pushers : List Pusher) → ArePushed code.program c pushers (k ∷ others) →
        Comes code body (op ∷ ops) pushers → Stood code body c (front ++ ops) others
    go [] h came = absurd h
    go (q ∷ left) h came =
        record { pushers = left; came = into op condition front ops q left came goes is; pushed = h.1 }
