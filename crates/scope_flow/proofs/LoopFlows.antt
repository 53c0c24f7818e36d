-- The operations of loops flow, where those of the nodes before them do: a loop whose condition is the literal true is
-- never left, so that what stands behind it may be anything.
use Rattle.std.specs.Prelude.{Option, Some, None, slice_get, is_some}
use Rattle.std.proofs.Common.{◌≡◌, ℕ, ◌<◌, List, [], ◌∷◌, ◌++◌, Bool, true, false, refl, sym, ◌∙◌, ap, subst, true≢false, ◌⊎◌, inl, inr}
use Rattle.scj_tree.specs.declared.nodes.Node.{Node}
use Rattle.scj_tree.specs.declared.nodes.Node.TheVariants.{While, For, True}
use Rattle.scj_tree.specs.Recursion.{below}
use Rattle.scj_tree.proofs.RecursionLemmas.{by_smaller-is}
use Rattle.scj_rules.specs.declared.typing.Scope.TheVariants.{This, Caller}
use Rattle.scj_rules.specs.declared.views.Body.TheVariants.{Written}
use Rattle.scj_rules.specs.Words.{holds}
use Rattle.scj_rules.specs.Views.{variable_of}
use Rattle.scj_rules.specs.Contexts.{Declarations, known_variables}
use Rattle.scj_rules.specs.Types.{returns_of, is_true_literal}
use Rattle.scj_rules.specs.TypeRules.{always_returns}
use Rattle.accepted_laws.specs.Kinds.{Kind, truth, yes, Fits}
use Rattle.accepted_laws.specs.Judgements.{Judged, Inside, Among, known_behind}
use Rattle.scj_model.specs.declared.operations.Op.{Op}
use Rattle.scj_model.specs.declared.operations.Op.TheVariants.{Loop as LOOP}
use Rattle.scj_model.specs.Code.{Code}
use Rattle.scope_flow.specs.Pushers.{scope_in}
use Rattle.scope_flow.specs.Slots.{kind_of_literal}
use Rattle.scope_flow.specs.Signatures.{Signature}
use Rattle.scope_flow.specs.Flow.{Flow, AreLoopParts}
use Rattle.scope_flow.specs.Needs.{IsStatementPart, pushed}
use Rattle.scope_flow.specs.StatementFacts.{WhileFact, ForFact}
use Rattle.scope_flow.specs.ValueFacts.{HasNext}
use Rattle.scope_flow.proofs.Known.{among_self, among_trans, IsSetBy, known_set}
use Rattle.scope_flow.proofs.FlowTools.{Behind, FlowsBelow, statement, join2}

pub returns_at : (p : Declarations) (id : ℕ) (n : Node) → slice_get p.nodes id ≡ Some n →
    always_returns p id ≡ returns_of p.nodes (below false id (always_returns p)) n
returns_at p id n there =
    by_smaller-is false (λ (x : ℕ) (reported : ℕ → Bool). holds (slice_get p.nodes x) (returns_of p.nodes reported)) id
    ∙ ap (λ o. holds o (returns_of p.nodes (below false id (always_returns p)))) there

-- a node that declares no variable
pub no_variable : (p : Declarations) (id : ℕ) (n : Node) → slice_get p.nodes id ≡ Some n →
    variable_of p.nodes id n ≡ None → (ms : List ℕ) → IsSetBy p id ms
no_variable p id n there e ms h =
    absurd (true≢false (sym h ∙ ap (λ (o : Option Node). is_some (elim o [ None ↦ None | Some x ↦ variable_of p.nodes id x ])) there ∙ ap (λ x. is_some x) e))

-- after a statement whose end is reached
pub then_ : (code : Code) (b c : ℕ) (sig : Signature) (id : ℕ) (ls : List ℕ) (os : List Op) (s : List Kind) →
    always_returns code.program id ≡ false → Behind code b c sig id ls os s → (ms : List ℕ) → Among ls ms →
    IsSetBy code.program id ms → Flow code (Written b) c sig os ms s
then_ code b c sig id ls os s e (inl h) ms m st = absurd (true≢false (sym h ∙ e))
then_ code b c sig id ls os s e (inr h) ms m st = h ms m st

true_or : (n : Node) →
    (is_true_literal n ≡ None) ⊎ ((kind_of_literal n ≡ Some yes) × (is_true_literal n ≡ Some true))
unfolding is_true_literal kind_of_literal
true_or (True position) = inr (refl, refl)
true_or _ = inl refl

module _ (code : Code) (b c : ℕ) (sig : Signature) (id bound : ℕ) (sub : ℕ → List Op) (hyp : FlowsBelow code b c sig bound sub) where
  abbrev F : List Op → List ℕ → List Kind → Type 0
  F xs ms t = Flow code (Written b) c sig xs ms t

  abbrev returns : ℕ → Bool
  returns = always_returns code.program

  module _ (node : Node) (there : slice_get code.program.nodes id ≡ Some node) (ls : List ℕ) (parts : (ms : List ℕ) → Among ls ms → AreLoopParts code.program b c ms node) (os : List Op) (s : List Kind) where
    turn : (top : Kind) → Fits code.program This Caller top truth → (ms : List ℕ) → Among ls ms →
        ((top ≡ yes) × (returns id ≡ true)) ⊎ F os ms s → F (LOOP id ∷ os) ms (top ∷ s)
    turn top fit ms m goes =
        record {
          node = node;
          is = there;
          parts = parts ms m;
          others = s;
          condition = record { kind = top; takes = refl; fits = fit };
          goes = goes;
        }

    -- a condition in front of LOOP
    pub condition_flow : (condition : ℕ) → condition < bound → Inside code.program b c condition →
        Judged code.program condition (Some truth) → Among (known_variables code.program condition) ls →
        ((n : Node) → slice_get code.program.nodes condition ≡ Some n → returns id ≡ true → is_true_literal n ≡ Some true) →
        (returns id ≡ true) ⊎ ((ms : List ℕ) → Among ls ms → F os ms s) → F (sub condition ++ (LOOP id ∷ os)) ls s
    unfolding pushed scope_in
    condition_flow condition l inside judged known literal (inr h) =
        hyp.values condition l (Some truth) inside judged ls known (LOOP id ∷ os) s (λ ms m.
        turn truth tt ms m (inr (h ms m)))
    condition_flow condition l inside judged known literal (inl h) =
        go inside.here.0 inside.here.1 (true_or inside.here.0)
      where
        go : (n : Node) → slice_get code.program.nodes condition ≡ Some n →
            (is_true_literal n ≡ None) ⊎ ((kind_of_literal n ≡ Some yes) × (is_true_literal n ≡ Some true)) →
            F (sub condition ++ (LOOP id ∷ os)) ls s
        go n e (inl f) = absurd (let x : None ≡ Some true = sym f ∙ literal n e h in cc (x))
        go n e (inr t) =
            subst (λ x. F (x ++ (LOOP id ∷ os)) ls s) (sym (hyp.literals condition l n e t.0))
            (record {
              out = yes ∷ s;
              needed = record {
                exact = yes;
                is = ap (λ (o : Option Node). elim o [ None ↦ None | Some x ↦ kind_of_literal x ]) e ∙ t.0;
                kind = yes;
                loose = inl refl;
                by_expression = λ t none. absurd (cc (none));
                leaves = refl;
              };
              goes = turn yes tt ls (among_self ls) (inl (refl, h));
            })

module _ (code : Code) (b c : ℕ) (sig : Signature) (id : ℕ) (sub : ℕ → List Op) (hyp : FlowsBelow code b c sig id sub) where
  abbrev G : List Op → List ℕ → List Kind → Type 0
  G xs ms t = Flow code (Written b) c sig xs ms t

  abbrev always_so : Bool
  always_so = always_returns code.program id

  part_of : (known : List ℕ) (x : ℕ) → HasNext code.program b c id known x → (ms : List ℕ) → Among known ms →
      IsStatementPart code.program b c ms x
  part_of known x r ms m = record { is = r.is; are_set = among_trans _ known ms r.known m }

  pub always : (position : _) (condition body : ℕ) → slice_get code.program.nodes id ≡ Some (While position condition body) →
      (n : Node) → slice_get code.program.nodes condition ≡ Some n → always_so ≡ true → is_true_literal n ≡ Some true
  unfolding returns_of
  always position condition body there n e h = go (is_true_literal n) refl (true_or n)
    where
      go : (o : Option Bool) → is_true_literal n ≡ o →
          (is_true_literal n ≡ None) ⊎ ((kind_of_literal n ≡ Some yes) × (is_true_literal n ≡ Some true)) →
          is_true_literal n ≡ Some true
      go o f (inr t) = t.1
      go o f (inl t) =
          absurd (true≢false (sym h ∙ returns_at code.program id _ there
          ∙ ap (λ (o : Option Node). is_some (elim o [ None ↦ None | Some x ↦ is_true_literal x ])) e ∙ ap (λ x. is_some x) t))

  pub while_flow : (position : _) (condition body : ℕ) →
      slice_get code.program.nodes id ≡ Some (While position condition body) →
      WhileFact code.program b c id condition body → (ls : List ℕ) → Among (known_variables code.program id) ls →
      (os : List Op) (s : List Kind) → Behind code b c sig id ls os s → G (sub condition ++ (LOOP id ∷ os)) ls s
  unfolding AreLoopParts variable_of
  while_flow position condition body there r ls am os s k =
      condition_flow code b c sig id id sub hyp (While position condition body) there ls parts os s condition r.condition_is.0.smaller
      r.condition_is.0.inside r.condition_is.1 (among_trans _ _ ls r.condition_is.0.known am)
      (always position condition body there) (go k)
    where
      parts : (ms : List ℕ) → Among ls ms → AreLoopParts code.program b c ms (While position condition body)
      parts ms m = (
        record {
          inside = r.condition_is.0.inside;
          judged = r.condition_is.1;
          are_set = among_trans _ _ ms r.condition_is.0.known (among_trans _ ls ms am m);
        },
        record { is = r.body_is.1; are_set = among_trans _ _ ms r.body_is.0.known (among_trans _ ls ms am m) },
      )

      go : Behind code b c sig id ls os s → (always_so ≡ true) ⊎ ((ms : List ℕ) → Among ls ms → G os ms s)
      go (inl h) = inl h
      go (inr h) = inr (λ ms m. h ms m (no_variable code.program id _ there refl ms))

  pub for_flow : (position : _) (first condition step body : ℕ) →
      slice_get code.program.nodes id ≡ Some (For position first condition step body) →
      ForFact code.program b c id first condition step body → (ls : List ℕ) →
      Among (known_variables code.program id) ls → (os : List Op) (s : List Kind) → Behind code b c sig id ls os s →
      G ((sub first ++ (sub condition ++ LOOP id ∷ [])) ++ os) ls s
  unfolding AreLoopParts variable_of returns_of
  for_flow position first condition step body there r ls am os s k =
      join2 code b c sig id sub hyp (sub first) (sub condition ++ LOOP id ∷ []) os ls s
      (statement code b c sig id sub hyp first r.first_is ls am _ s (inr (λ ms m st.
      join2 code b c sig id sub hyp (sub condition) (LOOP id ∷ []) os ms s
      (condition_flow code b c sig id id sub hyp (For position first condition step body) there ms (parts ms m st) os s condition r.condition_smaller
      r.condition_inside r.condition_judged (among_trans _ _ ms r.condition_known (behind ms m st))
      (λ n e h. absurd (true≢false (sym h ∙ returns_at code.program id _ there))) (inr (λ ns n. next ns (among_trans ls ms ns m n)))))))
    where
      behind : (ms : List ℕ) → Among ls ms → IsSetBy code.program first ms →
          Among (known_behind code.program first (known_variables code.program id)) ms
      behind ms m st = known_set code.program first _ ms (among_trans _ ls ms am m) st

      parts : (ms : List ℕ) → Among ls ms → IsSetBy code.program first ms → (ns : List ℕ) → Among ms ns →
          AreLoopParts code.program b c ns (For position first condition step body)
      parts ms m st ns n = (
        record {
          inside = r.condition_inside;
          judged = r.condition_judged;
          are_set = among_trans _ _ ns r.condition_known (among_trans _ ms ns (behind ms m st) n);
        },
        part_of _ step r.step_is ns (among_trans _ ms ns (behind ms m st) n),
        part_of _ body r.body_is ns (among_trans _ ms ns (behind ms m st) n),
      )

      next : (ms : List ℕ) → Among ls ms → G os ms s
      next ms m =
          then_ code b c sig id ls os s (returns_at code.program id _ there) k ms m
          (no_variable code.program id _ there refl ms)
