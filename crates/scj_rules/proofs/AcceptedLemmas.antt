-- A program is accepted where its phases compute to empty lists.
use Rattle.std.proofs.Common.{◌≡◌, List, [], subst}
use Rattle.scj_base.specs.declared.findings.Found.{Found}
use Rattle.scj_tree.specs.Forest.{Forest}
use Rattle.scj_rules.specs.Contexts.{declarations_of}
use Rattle.scj_rules.specs.Phases.{IsFound, NothingBreaks, IsAccepted, class_phase, type_phase, scope_phase, use_phase}
use Rattle.scj_rules.proofs.ReportLemmas.{none_contained}

pub nothing_in : (found : List Found) → found ≡ [] → NothingBreaks (IsFound found)
nothing_in found e rule position h =
    none_contained (record { pos = position; rule = rule }) (subst (λ fs. IsFound fs rule position) e h)

pub accepted : (forest : Forest) → class_phase (declarations_of forest) ≡ [] → type_phase (declarations_of forest) ≡ []
    → scope_phase (declarations_of forest) ≡ [] → use_phase (declarations_of forest) ≡ [] → IsAccepted forest
accepted forest c t s u =
    record {
      classes = nothing_in (class_phase (declarations_of forest)) c;
      types = nothing_in (type_phase (declarations_of forest)) t;
      scopes = nothing_in (scope_phase (declarations_of forest)) s;
      uses = nothing_in (use_phase (declarations_of forest)) u;
    }
