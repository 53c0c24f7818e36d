-- The empty state has the invariant: there is nothing yet but the static fields, which are null, plain, or as their
-- literals say.
use Rattle.std.specs.Prelude.{Option, Some, None, slice_get, map, ℤ}
use Rattle.std.proofs.Common.{◌≡◌, ℕ, zero, suc, List, [], ◌∷◌, Bool, true, false, refl, sym, ◌∙◌, ap, subst, inl}
use Rattle.scj_base.specs.declared.values.Value.{Value}
use Rattle.scj_base.specs.declared.values.Value.TheVariants.{Int, Bool as Truth, Null}
use Rattle.scj_tree.specs.declared.nodes.Node.{Node}
use Rattle.scj_tree.specs.declared.nodes.Node.TheVariants.{Number as NumberNode, True as TrueNode, False as FalseNode, Null as NullNode}
use Rattle.scj_rules.specs.declared.typing.Scope.{Scope}
use Rattle.scj_rules.specs.declared.typing.Scope.TheVariants.{This, Caller, Any}
use Rattle.scj_rules.specs.declared.typing.Ty.TheVariants.{NullTy}
use Rattle.scj_rules.specs.declared.views.Declared.{Declared}
use Rattle.scj_rules.specs.Definitions.{read}
use Rattle.scj_rules.specs.Words.{◌>>=◌}
use Rattle.scj_rules.specs.Contexts.{Declarations, in_class}
use Rattle.scj_rules.specs.Layout.{static_fields, field_literal, kind_of_type}
use Rattle.scj_rules.specs.StaticScopes.{field_scope}
use Rattle.accepted_laws.specs.Kinds.{Kind, number, truth, yes, reference, fresh, kind_of_field, Fits}
use Rattle.accepted_laws.proofs.Tools.{some_inj}
use Rattle.scj_model.specs.Code.{Code}
use Rattle.scj_model.specs.Plan.{Plan}
use Rattle.scj_model.specs.Memory.{literal_value, default_value}
use Rattle.scj_model.specs.Run.{first_static, empty_state}
use Rattle.scope_flow.specs.Slots.{kind_of_literal, kind_of_static}
use Rattle.frame_sound.specs.Places.{World, Place, within, held, Has, world_of}
use Rattle.frame_sound.specs.Fine.{StaticFine}
use Rattle.frame_sound.proofs.Defaults.{default_has}
use Rattle.mission_sound.specs.Bases.{unopened}
use Rattle.mission_sound.specs.Invariant.{Settled, phase_of, lowest}
use Rattle.mission_sound.specs.SequencerFacts.{SequencerFacts}
use Rattle.mission_sound.proofs.Jobs.{quiet_is_fine}

-- ---- literals

-- the value of a literal of this kind
abbrev IsLiteral : Kind → Value → Type 0
IsLiteral number v = (z : ℤ) × (v ≡ Int z)
IsLiteral truth v = (b : Bool) × (v ≡ Truth b)
IsLiteral yes v = v ≡ Truth true
IsLiteral (reference t s) v = v ≡ Null
IsLiteral (fresh c s) v = ⊥

literal_as : (j k : Kind) (u v : Value) → Some k ≡ Some j → Some u ≡ Some v → IsLiteral k u → IsLiteral j v
literal_as j k u v e f h =
    subst (λ k. IsLiteral k v) (some_inj k j e) (subst (IsLiteral k) (some_inj u v f) h)

literal_is : (node : Node) (j : Kind) (v : Value) → kind_of_literal node ≡ Some j → literal_value node ≡ Some v →
    IsLiteral j v
unfolding kind_of_literal literal_value
literal_is (NumberNode position value is_negative) j v e f = literal_as j number _ v e f (_, refl)
literal_is (TrueNode position) j v e f = literal_as j yes (Truth true) v e f refl
literal_is (FalseNode position) j v e f = literal_as j truth (Truth false) v e f (false, refl)
literal_is (NullNode position) j v e f = literal_as j (reference NullTy Any) Null v e f refl
literal_is _ j v e f = absurd (cc (e))

module _ (p : Declarations) (w : World) (den : Scope → Place) where
  fitting_has : (j k : Kind) (v : Value) → Fits p This Caller j k → IsLiteral j v → Has p w (held den k) v
  unfolding held
  fitting_has number number v f h = h
  fitting_has truth truth v f h = h
  fitting_has yes truth v f h = (true, h)
  fitting_has (reference t s) (reference u r) v f h = inl h
  fitting_has _ _ v f h = absurd f

-- ---- static fields before the run

module _ (code : Code) (facts : SequencerFacts code) (w : World) (den : Scope → Place) where
  first_has : (index : ℕ) (d : Declared) (k : Kind) → slice_get (static_fields code.program) index ≡ Some d →
      kind_of_field code.program d ≡ Some k → Has code.program w (held den k) (first_static code d)
  unfolding first_static kind_of_field
  first_has index d k there is = go (field_literal code.program d) refl
    where
      begins : Has code.program w (held den k) (default_value (kind_of_type d.declared_type))
      begins =
          default_has code.program w den code.program.names d.declared_type
          (in_class code.program d.node (λ class. field_scope code.program class d)) k is

      valued : (id : ℕ) → field_literal code.program d ≡ Some id → (node : Node) →
          slice_get code.program.nodes id ≡ Some node → (value : Value) → literal_value node ≡ Some value →
          Has code.program w (held den k) value
      valued id e node f value g =
          let l = facts.statics index d id there e in
          let same : l.kind ≡ k = some_inj l.kind k (sym l.is_kind ∙ is) in
          subst (λ k. Has code.program w (held den k) value) same
          (fitting_has code.program w den l.literal l.kind value l.fit
          (literal_is node l.literal value (ap (λ (o : Option Node). o >>= kind_of_literal) (sym f) ∙ l.is_literal) g))

      at_value : (id : ℕ) → field_literal code.program d ≡ Some id → (node : Node) →
          slice_get code.program.nodes id ≡ Some node → (o : Option Value) → literal_value node ≡ o →
          Has code.program w (held den k)
          (elim o [ Some value ↦ value | None ↦ default_value (kind_of_type d.declared_type) ])
      at_value id e node f None g = begins
      at_value id e node f (Some value) g = valued id e node f value g

      at_node : (id : ℕ) → field_literal code.program d ≡ Some id → (o : Option Node) →
          slice_get code.program.nodes id ≡ o →
          Has code.program w (held den k)
          (elim (o >>= literal_value) [ Some value ↦ value | None ↦ default_value (kind_of_type d.declared_type) ])
      at_node id e None f = begins
      at_node id e (Some node) f = at_value id e node f (literal_value node) refl

      go : (o : Option ℕ) → field_literal code.program d ≡ o →
          Has code.program w (held den k)
          (elim (o >>= read code.program.nodes literal_value) [
            | Some value ↦ value
            | None ↦ default_value (kind_of_type d.declared_type)
          ])
      go None e = begins
      go (Some id) e = at_node id e (slice_get code.program.nodes id) refl

  get_mapped : (ds : List Declared) (i : ℕ) (d : Declared) → slice_get ds i ≡ Some d →
      slice_get (map (first_static code) ds) i ≡ Some (first_static code d)
  get_mapped [] i d e = absurd (cc (e))
  get_mapped (x ∷ ds) zero d e = ap (λ o. Some (first_static code o)) (some_inj x d e)
  get_mapped (x ∷ ds) (suc i) d e = get_mapped ds i d e

  first_fine : (index : ℕ) (k : Kind) → kind_of_static code.program index ≡ Some k →
      (value : Value) × (slice_get (map (first_static code) (static_fields code.program)) index ≡ Some value)
      × Has code.program w (held den k) value
  unfolding kind_of_static
  first_fine index k is = go (slice_get (static_fields code.program) index) refl is
    where
      go : (o : Option Declared) → slice_get (static_fields code.program) index ≡ o →
          o >>= kind_of_field code.program ≡ Some k →
          (value : Value) × (slice_get (map (first_static code) (static_fields code.program)) index ≡ Some value)
          × Has code.program w (held den k) value
      go None there e = absurd (cc (e))
      go (Some d) there e =
          (first_static code d, get_mapped (static_fields code.program) index d there, first_has index d k there e)

-- ---- the empty state

pub empty_is_settled : (code : Code) (plan : Plan) → SequencerFacts code → Settled code (empty_state code plan)
unfolding empty_state phase_of lowest
empty_is_settled code plan facts =
    record {
      invariant = record {
        base = unopened;
        memories = quiet_is_fine code (empty_state code plan) unopened (record {
          memory = record {
            areas = record { parents = λ a x there. absurd (cc (there)); reach = λ a n x there h. absurd (cc (there)) };
            heap = λ r o there. absurd (cc (there));
            statics = λ index k is. statics index k is;
          };
          job = record { is_list = refl; frames = tt };
          none_started = refl;
          none_opened = refl;
          only_base = λ a x there opens. absurd (cc (there));
          nested = λ a b x there opens up. absurd (cc (there));
        });
        sequencer = record {
          phase = refl;
          base_suits = refl;
          base_fine = (refl, refl);
          there = tt;
          safelet = λ r e. absurd (cc (e));
          mission_sequencer = λ r e. absurd (cc (e));
          mission = λ r e. absurd (cc (e));
          called = λ f h e. absurd (cc (e));
          frameless = λ h. refl;
        };
        handlers = record {
          rows = λ k row there. absurd (cc (there));
          handled = λ index r there h. absurd (cc (there));
          none_started = λ h. refl;
          none_waits = λ h. refl;
        };
      };
      followed = refl;
    }
  where
    statics : (index : ℕ) (k : Kind) → kind_of_static code.program index ≡ Some k →
        StaticFine code.program (world_of (empty_state code plan)) (empty_state code plan).statics index k
    statics index k is =
        let x = first_fine code facts (world_of (empty_state code plan))
        (within (world_of (empty_state code plan)).areas 0) index k is in
        record { value = x.0; is = x.1; has = x.2 }
