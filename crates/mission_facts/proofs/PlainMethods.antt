-- The methods that a mission's class and those above it declare for `cleanUp`: each takes and gives nothing, as the
-- framework's does (C6).
use Rattle.std.proofs.Common.{arith, ◌≡◌, ℕ, zero, suc, ◌<◌, ◌≤◌, List, [], ◌++◌, length, sym, ap, ◌∙◌, subst, refl, Option, Some, None, Bool, true, false, not, ◌||◌, ◌&&◌, ◌==◌, true≢false, ◌⊎◌, inl, inr, is_some, if◌then◌else◌, codes}
use Rattle.scj_base.specs.Bytes.{is_same}
use Rattle.scj_builtins.specs.declared.kinds.GivesKind.{GivesKind}
use Rattle.scj_builtins.specs.declared.kinds.GivesKind.TheVariants.{Nothing}
use Rattle.scj_builtins.specs.declared.kinds.Parameters.{Parameters}
use Rattle.scj_builtins.specs.declared.kinds.Parameters.TheVariants.{Empty as no_parameters}
use Rattle.scj_builtins.specs.declared.methods.FrameworkMethod.{FrameworkMethod}
use Rattle.scj_builtins.specs.Framework.{mission, mission_clean_up, framework_methods, parameter_list}
use Rattle.scj_tree.specs.Forest.{Forest, IsForest}
use Rattle.scj_rules.specs.declared.views.WrittenType.TheVariants.{Void as void_type}
use Rattle.scj_rules.specs.Words.{chain_behind, is_among, along}
use Rattle.scj_rules.specs.Views.{DeclaredMethod}
use Rattle.scj_rules.specs.Classes.{FoundMethod, superclass_in, superclasses, classes_above, all_interfaces, is_user_class, framework_method, own_method, method_above, result_written}
use Rattle.scj_rules.specs.ClassRules.{have_same_types, is_result_of}
use Rattle.scj_rules.specs.Contexts.{Declarations, declarations_of}
use Rattle.scj_rules.specs.Phases.{IsAccepted}
use Rattle.scj_rules.proofs.ChainLemmas.{or_cases, same_number}
use Rattle.scj_rules.proofs.WithinLemmas.{counted-stays}
use Rattle.accepted_laws.specs.Sorts.{IsWellSorted}
use Rattle.accepted_laws.proofs.Dispatch.{own_declaration, overrides_rightly, user_method}
use Rattle.accepted_laws.proofs.Fields.{in_among}
use Rattle.accepted_laws.proofs.Positions.{same_name}
use Rattle.accepted_laws.proofs.ScopesOfClasses.{chain_is}
use Rattle.accepted_laws.proofs.Tools.{some_inj}
use Rattle.accepted_facts.proofs.OverridingKinds.{and_true}
use Rattle.flow_facts.proofs.FrameworkMethods.{of_framework as row_of_framework}
use Rattle.mission_facts.proofs.FrameworkTable.{clean_up, clean_up_among}
use Rattle.mission_facts.proofs.Implemented.{has_itself}
use Rattle.mission_facts.proofs.Searches.{along_there, all_pass, each_passes, along_front}
use Rattle.mission_facts.proofs.Tests.{not_true, not_or, none_taken, parameters_written}
use Rattle.mission_facts.proofs.Results.{void_result}

unfoldable takes_nothing : Parameters → Bool
takes_nothing no_parameters = true
takes_nothing _ = false

unfoldable gives_nothing : GivesKind → Bool
gives_nothing Nothing = true
gives_nothing _ = false

abbrev is_plain : FrameworkMethod → Bool
is_plain m =
    not (is_same (codes "cleanUp") m.name)
    || (takes_nothing m.parameters && gives_nothing m.gives && not m.is_static && (m.number == mission_clean_up))

all_plain : all_pass is_plain framework_methods ≡ true
unfolding framework_methods all_pass takes_nothing gives_nothing
all_plain = refl

none_listed : (ps : Parameters) → takes_nothing ps ≡ true → parameter_list ps ≡ []
unfolding takes_nothing parameter_list
none_listed no_parameters e = refl
none_listed _ e = absurd (true≢false (sym e))

void_written : (g : GivesKind) → gives_nothing g ≡ true → result_written g ≡ void_type
unfolding gives_nothing result_written
void_written Nothing e = refl
void_written _ e = absurd (true≢false (sym e))

-- a method takes and gives nothing, and isn't static
pub record IsPlain (f : FoundMethod) : Type 0 where
  pub takes_none : f.method.parameters ≡ []
  pub gives_none : f.method.declared.declared_type ≡ void_type
  pub for_object : f.method.declared.modifiers.is_static ≡ false

module _ (forest : Forest) (accepted : IsAccepted forest) (whole : IsForest forest) (sorted : IsWellSorted forest.nodes)
  where
    abbrev p : Declarations
    p = declarations_of forest

    abbrev next : ℕ → Option ℕ
    next = superclass_in p.classes

    abbrev name : List ℕ
    name = codes "cleanUp"

    abbrev own : ℕ → Option FoundMethod
    own = own_method p.classes name

    -- the framework's
    pub record OfTable (f : FoundMethod) : Type 0 where
      pub plain : IsPlain f
      pub number : f.method.builtin ≡ Some mission_clean_up

    pub of_table : (y : ℕ) (f : FoundMethod) → own y ≡ Some f → is_some f.method.builtin ≡ true → OfTable f
    unfolding framework_method
    of_table y f e b =
        let r = row_of_framework forest accepted whole sorted y name f e b in
        let d = own_declaration forest accepted y name f e in
        let same : name ≡ r.row.name = d.same_name ∙ ap (λ (m : DeclaredMethod). m.declared.name) (sym r.is) in
        let passes =
        not_or (is_same name r.row.name) _ (ap (is_same name) (sym same) ∙ same_name name)
        (each_passes is_plain framework_methods all_plain r.row r.among) in
        let one =
        and_true (takes_nothing r.row.parameters && gives_nothing r.row.gives && not r.row.is_static)
        (r.row.number == mission_clean_up) passes in
        let two = and_true (takes_nothing r.row.parameters && gives_nothing r.row.gives) (not r.row.is_static) one.0 in
        let three = and_true (takes_nothing r.row.parameters) (gives_nothing r.row.gives) two.0 in
        record {
          plain = record {
            takes_none = ap (λ (m : DeclaredMethod). m.parameters) (sym r.is)
                ∙ ap (λ ks. parameters_written ks) (none_listed r.row.parameters three.0);
            gives_none = ap (λ (m : DeclaredMethod). m.declared.declared_type) (sym r.is)
                ∙ void_written r.row.gives three.1;
            for_object = ap (λ (m : DeclaredMethod). m.declared.modifiers.is_static) (sym r.is)
                ∙ not_true r.row.is_static two.1;
          };
          number = ap (λ (m : DeclaredMethod). m.builtin) (sym r.is)
              ∙ ap (λ n. Some n) (same_number r.row.number mission_clean_up one.1);
        }

    -- ---- a user's

    -- what overrides a plain method is plain
    overriding : (a : ℕ) (g h : FoundMethod) → own a ≡ Some g → is_some g.method.builtin ≡ false →
        method_above p.classes a name ≡ Some h → IsPlain h → IsPlain g
    overriding a g h e user up x =
        let o = overrides_rightly forest accepted whole sorted a name g h e user up in
        record {
          takes_none = none_taken g.method.parameters
              (ap (have_same_types g.method.parameters) (sym x.takes_none) ∙ o.same_parameters);
          gives_none = void_result p a g.method.declared.name g.method.declared.declared_type
              (ap (is_result_of p a g.method.declared.name g.method.declared.declared_type) (sym x.gives_none)
              ∙ o.right_result);
          for_object = both g.method.declared.modifiers.is_static h.method.declared.modifiers.is_static x.for_object
              o.both_are_static;
        }
      where
        both : (s t : Bool) → t ≡ false → (if s then t else not t) ≡ true → s ≡ false
        both true t e h = absurd (true≢false (sym h ∙ e))
        both false t e h = refl

    above_is : (a z : ℕ) (h : FoundMethod) → next a ≡ Some z → along own (superclasses p.classes z) ≡ Some h →
        method_above p.classes a name ≡ Some h
    unfolding method_above classes_above superclasses chain_behind
    above_is a z h up e =
        ap (λ (o : Option ℕ). along own ((elim o as (λ _. List ℕ) [ None ↦ [] | Some b ↦ superclasses p.classes b ])
        ++ all_interfaces p.classes a)) up
        ∙ along_front own (superclasses p.classes z) (all_interfaces p.classes a) h e

    abbrev Rest : Option ℕ → List ℕ
    Rest o = elim o as (λ _. List ℕ) [ None ↦ [] | Some b ↦ superclasses p.classes b ]

    pub plain_down : (d a : ℕ) (f : FoundMethod) → a < length p.classes → length (superclasses p.classes a) ≤ d →
        is_among mission (superclasses p.classes a) ≡ true → along own (superclasses p.classes a) ≡ Some f → IsPlain f
    unfolding along
    plain_down zero a f l m h e =
        absurd (let c : length (superclasses p.classes a) ≡ suc (length (Rest (next a))) =
        ap length (chain_is forest accepted a l) in omega (arith, c, m))
    plain_down (suc d) a f l m h e =
        by_own (own a) refl (ap (along own) (sym (chain_is forest accepted a l)) ∙ e) (plain_down d)
      where
        shorter : (z : ℕ) → next a ≡ Some z → length (superclasses p.classes z) ≤ d
        shorter z s =
            let c : length (superclasses p.classes a) ≡ suc (length (superclasses p.classes z)) =
            ap length (chain_is forest accepted a l) ∙ ap (λ (o : Option ℕ). suc (length (Rest o))) s in
            omega (arith, c, m)

        mission_own : (g : FoundMethod) × (own mission ≡ Some g)
        mission_own = has_itself forest accepted whole sorted clean_up clean_up_among (omega arith)

        -- a class that isn't Mission itself has a superclass under it
        higher : (mission ≡ a → ⊥) → (z : ℕ) × (next a ≡ Some z) × (is_among mission (superclasses p.classes z) ≡ true)
        higher other =
            go (next a) refl (or_cases (mission == a) (is_among mission (Rest (next a)))
            (ap (is_among mission) (sym (chain_is forest accepted a l)) ∙ h))
          where
            go : (o : Option ℕ) → next a ≡ o → ((mission == a) ≡ true) ⊎ (is_among mission (Rest (next a)) ≡ true) →
                (z : ℕ) × (next a ≡ Some z) × (is_among mission (superclasses p.classes z) ≡ true)
            go o s (inl k) = absurd (other (same_number mission a k))
            go None s (inr k) =
                absurd (true≢false (sym (ap (λ (o : Option ℕ). is_among mission (Rest o)) (sym s) ∙ k)))
            go (Some z) s (inr k) = (z, s, ap (λ (o : Option ℕ). is_among mission (Rest o)) (sym s) ∙ k)

        of_user : (g : FoundMethod) → own a ≡ Some g → is_some g.method.builtin ≡ false →
            ((a : ℕ) (f : FoundMethod) → a < length p.classes → length (superclasses p.classes a) ≤ d →
            is_among mission (superclasses p.classes a) ≡ true → along own (superclasses p.classes a) ≡ Some f →
            IsPlain f) → IsPlain g
        of_user g k user ih =
            let u = user_method forest accepted whole sorted a name g k user in
            let on = (own_declaration forest accepted a name g k).on in
            let other : mission ≡ a → ⊥ =
            λ s. true≢false (sym (ap is_user_class (s ∙ sym on) ∙ u.on_user_class)) in
            let z = higher other in
            let found = along_there own mission mission_own.0 (superclasses p.classes z.0)
            (in_among mission (superclasses p.classes z.0) z.2) mission_own.1 in
            overriding a g found.0 k user (above_is a z.0 found.0 z.1 found.1)
            (ih z.0 found.0 (counted-stays forest a z.0 z.1) (shorter z.0 z.1) z.2 found.1)

        by_own : (o : Option FoundMethod) → own a ≡ o →
            (elim o as (λ _. Option FoundMethod) [ None ↦ along own (Rest (next a)) | Some g ↦ Some g ]) ≡ Some f →
            ((a : ℕ) (f : FoundMethod) → a < length p.classes → length (superclasses p.classes a) ≤ d →
            is_among mission (superclasses p.classes a) ≡ true → along own (superclasses p.classes a) ≡ Some f →
            IsPlain f) → IsPlain f
        by_own None k e ih =
            let z = higher (λ s. (let n : None ≡ Some mission_own.0 = sym (ap own s ∙ k) ∙ mission_own.1 in cc (n))) in
            ih z.0 f (counted-stays forest a z.0 z.1) (shorter z.0 z.1) z.2
            (ap (λ (o : Option ℕ). along own (Rest o)) (sym z.1) ∙ e)
        by_own (Some g) k e ih = subst IsPlain (some_inj g f e) (by_builtin (is_some g.method.builtin) refl)
          where
            by_builtin : (t : Bool) → is_some g.method.builtin ≡ t → IsPlain g
            by_builtin true b = (of_table a g k b).plain
            by_builtin false b = of_user g k b ih
