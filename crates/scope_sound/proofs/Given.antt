-- The value with which an operation of the sequencer is done that called a body: what the body gives, in immortal
-- memory where the sequencer asks for an object.
use Rattle.std.specs.Prelude.{Option, Some, None, ◌<◌, length, unwrap_or, codes, option_to_list, ◌++◌}
use Rattle.std.proofs.Common.{◌≡◌, ℕ, List, [], ◌∷◌, true, refl, sym, ◌∙◌, ap, subst, inl, inr}
use Rattle.scj_base.specs.declared.values.Value.{Value}
use Rattle.scj_base.specs.declared.values.Value.TheVariants.{Null, At}
use Rattle.scj_builtins.specs.Framework.{safelet as safelet_interface, mission as mission_class, mission_sequencer as sequencer_class}
use Rattle.scj_rules.specs.declared.typing.Scope.{Scope}
use Rattle.scj_rules.specs.declared.typing.Ty.TheVariants.{Class as ClassTy}
use Rattle.scj_rules.specs.declared.views.Body.{Body}
use Rattle.scj_rules.specs.Words.{is_among, ◌>>=◌}
use Rattle.scj_rules.specs.Contexts.{Declarations}
use Rattle.scj_rules.specs.Classes.{is_sub}
use Rattle.scj_rules.specs.Types.{assigns}
use Rattle.scj_rules.specs.Bodies.{body_named}
use Rattle.accepted_laws.specs.Kinds.{Kind, reference}
use Rattle.accepted_laws.proofs.Tools.{some_inj}
use Rattle.scj_model.specs.declared.operations.SeqOp.{SeqOp}
use Rattle.scj_model.specs.declared.operations.SeqOp.TheVariants.{OpenImmortal, AllocSafelet, ConstructSafelet, InitializeApplication, GetSequencer, GetNextMission, OpenMission, Initialize, CleanUp, Execute, Finished}
use Rattle.scj_model.specs.Code.{Code}
use Rattle.scj_model.specs.State.{Frame, Object, TheSequencer, State}
use Rattle.scope_flow.specs.Facts.{Facts}
use Rattle.scope_flow.specs.Signatures.{Runs, Signature}
use Rattle.scope_flow.specs.Slots.{IsOfType}
use Rattle.frame_sound.specs.Places.{World, Place, Has, IsObject, denote, held, world_of}
use Rattle.frame_sound.specs.Fine.{HeapFine, IsOnList, list_of}
use Rattle.frame_sound.specs.EffectsFine.{ReturnFine}
use Rattle.frame_sound.specs.OwnJob.{HasLeft}
use Rattle.frame_sound.proofs.GivenValues.{IsOne, one_signature}
use Rattle.mission_sound.specs.Bases.{Base, areas_of, in_immortal, BaseBefore}
use Rattle.mission_sound.specs.Invariant.{IsCalledBy, IsImmortalOf, IsNullOr, OperandThere, SequencerFine, ValueSuits, body_called_by, method_on}
use Rattle.mission_sound.specs.SequencerFacts.{GivesUnder, IsCalledOn, SequencerFacts, SafeletFact, MissionSequencerFact}
use Rattle.mission_sound.proofs.MissionClosed.{among_immortal}
use Rattle.scope_sound.proofs.Registers.{is_concrete_instance}

-- the object of a reference lies in immortal memory
abbrev LiesFirst : World → Option Value → Type 0
LiesFirst w value = (r : ℕ) → value ≡ Some (At r) → (o : Object) → w.objects r ≡ Some o → o.area ≡ 0

module _ (code : Code) (facts : Facts code) (w : World) (heap : HeapFine code.program w) (above : ℕ) where
  class_of_type : (class c : ℕ) → IsOfType code.program class (ClassTy c) → class < length code.program.classes
  unfolding IsOfType
  class_of_type class c h = h.0

  under_both : (class c : ℕ) → IsOfType code.program class (ClassTy c) →
      is_sub code.program.classes c above ≡ true → is_sub code.program.classes class above ≡ true
  unfolding IsOfType assigns
  under_both class c h e = (facts.assigned class (ClassTy c) (ClassTy above) h e).1

  is_immortal : (c : ℕ) → is_sub code.program.classes c above ≡ true → (place : Place) (v : Value) →
      LiesFirst w (Some v) → IsObject code.program w (ClassTy c) place v → IsNullOr code.program w above v
  is_immortal c under place v first o =
      inr (
        o.r,
        o.is,
        record {
          object = o.object;
          found = o.found;
          concrete = is_concrete_instance code facts o.object.class (class_of_type o.object.class c o.of_type)
              (heap o.r o.object o.found).is_instance;
          is_under = under_both o.object.class c o.of_type under;
          lies = first o.r (ap (λ v. Some v) o.is) o.object o.found;
        },
      )

  of_kind : (den : Scope → Place) (c : ℕ) (scope : Scope) → is_sub code.program.classes c above ≡ true →
      (v : Value) → Has code.program w (held den (reference (ClassTy c) scope)) v → LiesFirst w (Some v) →
      IsNullOr code.program w above v
  unfolding held
  of_kind den c scope under v (inl e) first = inl e
  of_kind den c scope under v (inr o) first = is_immortal c under (den scope) v first o

  null_or_immortal : (den : Scope → Place) (given : Option Kind) → GivesUnder code.program above given →
      (value : Option Value) → ReturnFine code.program w den given value → LiesFirst w value →
      IsNullOr code.program w above (unwrap_or value Null)
  null_or_immortal den given g value h first =
      go value (subst (λ k. ReturnFine code.program w den k value) g.is h) first
    where
      go : (value : Option Value) → ReturnFine code.program w den (Some (reference (ClassTy g.class) g.scope)) value →
          LiesFirst w value → IsNullOr code.program w above (unwrap_or value Null)
      go None h first = absurd h
      go (Some v) h first = of_kind den g.class g.scope g.is_under v h first

-- the body that the framework finds on an object has the signature of which the rules speak
given_under : (p : Declarations) (w : World) (r : ℕ) (name : List ℕ) (body : Body) (class above c : ℕ)
    (sig : Signature) (object : Object) → w.objects r ≡ Some object → object.class ≡ class →
    (called : IsCalledOn p class (body_named p class name)) → GivesUnder p above called.sig.gives →
    method_on p w r name ≡ Some body → Runs p body c sig → GivesUnder p above sig.gives
unfolding method_on
given_under p w r name body class above c sig object found is_class called gives on runs =
    subst (GivesUnder p above) (ap (λ (x : Signature). x.gives) (sym one.signature)) gives
  where
    named : body_named p class name ≡ Some body
    named =
        ap (λ n. body_named p n name) (sym is_class)
        ∙ (ap (λ (o : Option Object). o >>= (λ o. body_named p o.class name)) (sym found) ∙ on)

    same : called.body ≡ body
    same = some_inj called.body body (sym called.is ∙ named)

    one : IsOne c called.on sig called.sig
    one = one_signature p body c called.on sig called.sig runs
        (subst (λ b. Runs p b called.on called.sig) same called.runs)

module _ (code : Code) (facts : Facts code) (promised : SequencerFacts code) (s : State) (base : Base)
    (q : SequencerFine code s base) (last : Frame) (after : State)
    (x : HasLeft code s TheSequencer (areas_of base) last after) where
  -- without areas of its own the frame had immortal memory alone
  lies_first : base ≡ in_immortal → last.opened ≡ None → LiesFirst (world_of after) x.value
  lies_first immortal none r e o there =
      among_immortal o.area
      (subst (λ (b : Object). is_among b.area (0 ∷ []) ≡ true) same
      (subst (λ list. is_among on.object.area list ≡ true) list on.on_list))
    where
      on : IsOnList (world_of after) (list_of (areas_of base) (last ∷ [])) r
      on = x.lies r e

      same : on.object ≡ o
      same = some_inj on.object o (sym on.found ∙ there)

      list : list_of (areas_of base) (last ∷ []) ≡ 0 ∷ []
      list = ap (λ (o : Option ℕ). option_to_list o ++ areas_of base) none ∙ ap areas_of immortal

  gives_or_null : (above : ℕ) → base ≡ in_immortal → last.opened ≡ None → GivesUnder code.program above x.sig.gives →
      IsNullOr code.program (world_of after) above (unwrap_or x.value Null)
  gives_or_null above immortal none g =
      null_or_immortal code facts (world_of after) x.memory.heap above
      (denote (world_of s) (list_of (areas_of base) (last ∷ [])) last.this last.area) x.sig.gives g x.value x.gives
      (lies_first immortal none)

  pub given_suits : (operation : SeqOp) → IsCalledBy code.program (world_of s) operation last →
      OperandThere s operation → BaseBefore operation base →
      ValueSuits code.program (world_of after) operation (unwrap_or x.value Null)
  unfolding body_called_by
  given_suits (GetSequencer r) called there before =
      let i : IsImmortalOf code.program (world_of s) safelet_interface r = q.safelet r there in
      let fact : SafeletFact code.program i.object.class =
      promised.safelets i.object.class i.concrete i.is_under in
      gives_or_null sequencer_class before called.opens_none
      (given_under code.program (world_of s) r (codes "getSequencer") last.body i.object.class sequencer_class x.class
      x.sig i.object i.found refl fact.sequencer.called fact.gives called.runs x.runs)
  given_suits (GetNextMission r) called there before =
      let i : IsImmortalOf code.program (world_of s) sequencer_class r = q.mission_sequencer r there in
      let fact : MissionSequencerFact code.program i.object.class =
      promised.sequencers i.object.class i.concrete i.is_under in
      gives_or_null mission_class before called.opens_none
      (given_under code.program (world_of s) r (codes "getNextMission") last.body i.object.class mission_class x.class
      x.sig i.object i.found refl fact.next_mission.called fact.gives called.runs x.runs)
  given_suits (ConstructSafelet r) called there before = tt
  given_suits (InitializeApplication r) called there before = tt
  given_suits (Initialize r) called there before = tt
  given_suits (CleanUp r) called there before = tt
  given_suits (OpenMission r) called there before = tt
  given_suits OpenImmortal called there before = tt
  given_suits AllocSafelet called there before = absurd (let e = called.runs in cc (e))
  given_suits Execute called there before = absurd (let e = called.runs in cc (e))
  given_suits Finished called there before = absurd (let e = called.runs in cc (e))
