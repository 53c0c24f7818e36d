-- No release of a handler class finds its memory full where the answer for the class is Yes.
use Rattle.std.specs.Prelude.{Some, Result, Ok, Err, IfOk}
use Rattle.std.proofs.Common.{◌≡◌, ℕ, zero, suc, List, Bool, length, sym, ◌∙◌, ap, subst}
use Rattle.scj_tree.specs.Forest.{Forest}
use Rattle.scj_rules.specs.declared.views.Body.TheVariants.{Written}
use Rattle.scj_rules.specs.Contexts.{Declarations}
use Rattle.scj_rules.specs.ScopeRules.{is_handler}
use Rattle.scj_rules.specs.Types.{kind_is, is_concrete}
use Rattle.accepted_laws.specs.Programs.{IsAcceptedProgram}
use Rattle.scj_model.specs.declared.handlers.HandlerRow.{HandlerRow}
use Rattle.scj_model.specs.Code.{Code, code_of}
use Rattle.scj_model.specs.Plan.{Plan}
use Rattle.scj_model.specs.State.{State}
use Rattle.scj_model.specs.Registry.{handler_row}
use Rattle.scj_model.specs.Choice.{by_list}
use Rattle.scj_model.specs.Reached.{Arrived, Reached}
use Rattle.frame_sound.specs.Places.{world_of}
use Rattle.mission_sound.specs.Invariant.{Invariant, RowFine}
use Rattle.scope_sound.specs.Sound.{HasFacts}
use Rattle.scope_sound.proofs.Safe.{has_facts}
use Rattle.certain_faults.proofs.Runs.{classes_ask_nothing, invariant_of}
use Rattle.memory_needs.specs.declared.answers.BoundAnswer.TheVariants.{Yes}
use Rattle.memory_needs.specs.declared.answers.BoundRow.{BoundRow}
use Rattle.memory_needs.specs.declared.answers.NoBound.{NoBound}
use Rattle.memory_needs.specs.declared.answers.NoBound.TheVariants.{Recursion}
use Rattle.memory_needs.specs.Causes.{Shows, IsNowhere, storage, storage_node}
use Rattle.memory_needs.specs.Need.{AreNeeds, Table}
use Rattle.memory_needs.specs.Reach.{Reaches}
use Rattle.memory_needs.specs.Rows.{AreRows, IsAnswer}
use Rattle.memory_bounds.specs.Theorem.{IsYes, NeverFillsMemory, YesNeverFull}
use Rattle.memory_bounds.proofs.Deciding.{Decides, decided, is_reach, reached_by}
use Rattle.memory_bounds.proofs.HandlerClasses.{IsConcreteHandler}
use Rattle.memory_bounds.proofs.StoredForms.{has_storage}
use Rattle.memory_bounds.proofs.Suffices.{is_yes, reported}
use Rattle.memory_bounds.proofs.Theorem.{never_full_at}
use Rattle.memory_bounds.proofs.WellFormed.{is_plain}

module _ (forest : Forest) (a : IsAcceptedProgram forest) where
  abbrev code : Code
  code = code_of forest

  abbrev p : Declarations
  p = code.program

  facts : HasFacts (code_of forest)
  facts = has_facts forest a

  -- a handler that is registered is of a concrete handler class
  pub row_is_handler : (plan : Plan) (choices : List ℕ) (s : State) →
      Reached (code_of forest) plan (by_list choices) Arrived s → (handler : ℕ) (row : HandlerRow) →
      handler_row s.registry handler ≡ Some row → IsConcreteHandler p row.class
  row_is_handler plan choices s h zero row there = absurd (cc (there))
  row_is_handler plan choices s h (suc k) row there = record {
    concrete = ap (kind_is is_concrete p) fine.is_class ∙ fine.concrete;
    handler = ap (is_handler p) fine.is_class ∙ fine.is_a_handler;
  }
    where
      i : Invariant (code_of forest) s
      i = invariant_of (code_of forest) facts (classes_ask_nothing forest a) plan choices Arrived s h

      fine : RowFine p (world_of s) i.base row
      fine = i.handlers.rows k row there

  -- by what is reached the Needs of the answer bound each body
  module _ (class bytes : ℕ) (answer : IsAnswer (code_of forest) class (Yes bytes)) where
    abbrev table : Table
    table = answer.table

    none : (cause : NoBound) → IsNowhere (Shows (code_of forest) class answer.table cause)
    none = answer.is.no_cause

    needs : AreNeeds (code_of forest) class answer.table
    needs = answer.are_needs (none Recursion)

    stored : IsConcreteHandler p class → (m : ℕ) × (storage_node (code_of forest).program class ≡ Some m)
    unfolding code_of
    stored k = has_storage forest a class k.concrete k.handler

    yes_by : (test : ℕ → Bool) → Decides (λ n. Reaches (code_of forest) class (Written n)) (length p.nodes) test →
        IsConcreteHandler p class →
        (bound : Table) × IsYes (code_of forest) (storage (code_of forest).program) bound class
    yes_by test d k = (
      reported (code_of forest) (is_plain forest a) class answer.table (reached_by (code_of forest) class test d)
          (is_reach (code_of forest) class test d) needs none,
      is_yes (code_of forest) (is_plain forest a) class answer.table (reached_by (code_of forest) class test d)
          (is_reach (code_of forest) class test d) needs none bytes answer.is (stored k),
    )

    pub yes_never_full : NeverFillsMemory (code_of forest) class
    yes_never_full plan choices s place row step h may of same e unit pos reported =
        decided (λ n. Reaches (code_of forest) class (Written n)) (length p.nodes) (λ test d.
        (let y = yes_by test d
        (subst (IsConcreteHandler p) same (row_is_handler plan choices s h of.release.handler row of.is_row)) in
        never_full_at forest a plan choices s place row y.0 step h may of
        (subst (IsYes (code_of forest) (storage (code_of forest).program) y.0) (sym same) y.1) e unit pos reported))

pub yes_rows : (forest : Forest) → IsAcceptedProgram forest → (rows : List BoundRow) →
    AreRows (code_of forest) rows → YesNeverFull (code_of forest) rows
yes_rows forest a rows are row bytes c yes_is =
    yes_never_full forest a row.handler bytes
    (subst (IsAnswer (code_of forest) row.handler) yes_is (are.are_answers row c))

-- of rows that are found, if any are
pub yes_found : {A E : Type 0} (forest : Forest) → IsAcceptedProgram forest → (rows : A → List BoundRow) (o : Result A E) →
    IfOk o (λ found. AreRows (code_of forest) (rows found)) →
    IfOk o (λ found. YesNeverFull (code_of forest) (rows found))
yes_found forest a rows (Ok found) are = yes_rows forest a (rows found) are
yes_found forest a rows (Err e) are = tt
