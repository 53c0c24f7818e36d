-- What is known of an accepted program that was read: names, texts, and where faults may be.
use Rattle.std.proofs.Common.{◌≡◌, ℕ, zero, suc, ◌+◌, ◌<◌, ◌≤◌, ◌^◌, get_or, true, All, List, [], ◌∷◌, arith, length, Option, Some, None, refl, ap, ◌∙◌, subst}
use Rattle.std.specs.Prelude.{slice_get}
use Rattle.std.proofs.lemmas.Option.{slice_get_within}
use Rattle.scj_base.specs.Lexeme.{is_name}
use Rattle.scj_rules.specs.Classes.{ClassRow}
use Rattle.scj_rules.specs.Contexts.{Declarations}
use Rattle.scj_rules.specs.Types.{is_concrete}
use Rattle.scj_rules.specs.Words.{holds}
use Rattle.scj_tree.specs.Forest.{Forest}
use Rattle.accepted_laws.specs.Programs.{IsAcceptedProgram}
use Rattle.scj_model.specs.declared.operations.SeqOp.{SeqOp}
use Rattle.scj_model.specs.declared.operations.SeqOp.TheVariants.{OpenMission}
use Rattle.scj_model.specs.Apply.{class_name, class_name_at}
use Rattle.scj_model.specs.Choice.{by_priority}
use Rattle.scj_model.specs.Code.{Code, code_of}
use Rattle.scj_model.specs.Plan.{Plan}
use Rattle.scj_model.specs.Reached.{Between, Operated, Reached}
use Rattle.scj_model.specs.Run.{trace}
use Rattle.scj_model.specs.State.{Object, State}
use Rattle.run_plan.specs.Limits.{KeepsLimits}
use Rattle.trace_audit.specs.Printed.{HaveForms}
use Rattle.scope_flow.specs.Signatures.{IsConcrete}
use Rattle.mission_sound.specs.Invariant.{OperandThere}
use Rattle.priority_laws.specs.Premises.{SparesPriorities}
use Rattle.scope_sound.specs.Sound.{SoundAfter}
use Rattle.scope_sound.proofs.CallsByTypes.{calls_by_types}
use Rattle.scope_sound.proofs.Safe.{has_facts}
use Rattle.source_nodes.specs.Nodes.{IsPosition, NodesFit}
use Rattle.trace_audit.specs.Parts.{is_file_name}
use Rattle.audited_runs.proofs.proper.Places.{ask_position, first_place, op_position, open_position, start_position}
use Rattle.source_nodes.proofs.ClassNames.{classes_are_named, labels_fit}
use Rattle.audited_runs.proofs.Accepted.{sound_at, traces_are_audited}
use Rattle.audited_runs.proofs.Forms.{forms_of}
use Rattle.audited_runs.proofs.PartsFit.{parts_fit}
use Rattle.audited_runs.proofs.Ints.{trace_fits}
use Rattle.audited_runs.proofs.proper.Alone.{Placed, few_rows, trace_proper}
use Rattle.audited_runs.proofs.proper.Lengths.{trace_short}
use Rattle.audited_runs.proofs.proper.Steps.{IsProper}

-- ---- classes

pub concrete_within : (p : Declarations) (class : ℕ) → IsConcrete p class → class < length p.classes
concrete_within p class h = go (slice_get p.classes class) refl h
  where
    go : (o : Option ClassRow) → slice_get p.classes class ≡ o →
        holds o (λ (row : ClassRow). is_concrete row.kind) ≡ true → class < length p.classes
    go None e k = absurd (cc (k))
    go (Some row) e k = slice_get_within p.classes class row e

nothing_within : {A : Type 0} (xs : List A) (n : ℕ) → slice_get xs n ≡ None → n < length xs → ⊥
nothing_within [] n e l = omega (arith, l)
nothing_within (x ∷ xs) zero e l = cc (e)
nothing_within (x ∷ xs) (suc n) e l = nothing_within xs n e (omega (arith, l))

module _ (forest : Forest) (accepted : IsAcceptedProgram forest) (files longest : ℕ)
    (fit : NodesFit forest.nodes files longest) where
  abbrev code : Code
  code = code_of forest

  names : (class : ℕ) → class < length code.program.classes → is_name (class_name code class) ≡ true
  unfolding code_of
  names class l = go (slice_get code.program.classes class) refl
    where
      none : slice_get code.program.classes class ≡ None → class < length code.program.classes → ⊥
      none e k = nothing_within code.program.classes class e k

      go : (o : Option ClassRow) → slice_get code.program.classes class ≡ o →
          is_name (elim o as (λ _. List ℕ) [ None ↦ [] | Some row ↦ row.name ]) ≡ true
      go None e = absurd (none e l)
      go (Some row) e = classes_are_named forest files longest fit class row e

  spares : SparesPriorities code
  spares = (calls_by_types code (has_facts forest accepted)).spares

  module _ (plan : Plan) where
    after : (s : State) → Reached code plan by_priority Operated s → SoundAfter code s
    after s reached = sound_at forest accepted plan Operated s reached

    opens : (s : State) → Reached code plan by_priority Operated s → (r : ℕ) → s.operation ≡ OpenMission r →
        is_name (class_name_at code s r) ≡ true
    opens s reached r e =
        let q = (after s reached).after.invariant.sequencer in
        let m = q.mission r (subst (λ (op : SeqOp). OperandThere s op) e q.there).0 in
        ap (λ (o : Option Object). is_name (elim o as (λ _. List ℕ) [ None ↦ [] | Some x ↦ class_name code x.class ])) m.found
        ∙ names m.object.class (concrete_within code.program m.object.class m.concrete)

    placed : Placed (IsPosition files longest) code plan
    placed =
        record {
          operations = op_position forest accepted files longest fit plan;
          starts = start_position forest accepted files longest fit plan;
          safelet = first_place forest accepted files longest fit plan;
          mission = open_position forest accepted files longest fit plan;
          asks = ask_position forest accepted files longest fit plan;
          opens = opens;
        }

    all_proper : (n : ℕ) → All (IsProper forest.nodes (IsPosition files longest)) (trace code plan n)
    all_proper n =
        trace_proper forest.nodes (IsPosition files longest) code plan spares names
        (labels_fit forest.nodes files longest fit)
        placed n

    few_there : (s : State) → Reached code plan by_priority Between s → length s.registry ≤ 64
    few_there s reached =
        few_rows forest.nodes (IsPosition files longest) code plan spares names (labels_fit forest.nodes files longest fit)
        placed reached

    -- the events have the forms of lines
    pub all_forms : (file_names : List (List ℕ)) → length file_names ≡ files →
        All (λ name. is_file_name name ≡ true) file_names → longest + 1 < 2 ^ 64 → KeepsLimits plan →
        HaveForms forest.nodes file_names (trace code plan plan.units)
    all_forms file_names many named short keeps =
        forms_of forest.nodes file_names plan (trace code plan plan.units) keeps
        (traces_are_audited forest accepted plan)
        (λ k d l. parts_fit forest.nodes file_names files longest many named short (get_or (trace code plan plan.units) k d)
        (all_proper plan.units k d l) (trace_fits forest accepted plan keeps plan.units k d l))
        (trace_short code plan keeps.fires.few few_there keeps.units)
