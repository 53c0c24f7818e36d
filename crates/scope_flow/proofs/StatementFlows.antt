-- The operations of each statement flow, where those of the nodes before it do. What always returns is told by the parts.
use Rattle.std.specs.Prelude.{Option, Some, None, slice_get, flat_map, ◌||◌, ◌&&◌, is_some, if◌then◌else◌}
use Rattle.std.specs.List.{list_any}
use Rattle.std.proofs.Common.{◌≡◌, ℕ, ◌<◌, List, [], ◌∷◌, ◌++◌, Bool, true, false, refl, sym, ◌∙◌, ap, subst, true≢false, ◌⊎◌, inl, inr}
use Rattle.scj_tree.specs.declared.nodes.Node.{Node}
use Rattle.scj_tree.specs.declared.nodes.Node.TheVariants.{Block, Empty, Local as LocalNode, LocalWithValue, Assign, ExpressionStatement, If, While, For, Return}
use Rattle.scj_tree.specs.Recursion.{below}
use Rattle.scj_rules.specs.declared.views.Body.TheVariants.{Written}
use Rattle.scj_rules.specs.Words.{holds, ◌>>=◌}
use Rattle.scj_rules.specs.Views.{variable_of}
use Rattle.scj_rules.specs.Contexts.{known_variables}
use Rattle.scj_rules.specs.Types.{returns_of}
use Rattle.scj_rules.specs.TypeRules.{always_returns}
use Rattle.accepted_laws.specs.Kinds.{Kind, truth}
use Rattle.accepted_laws.specs.Judgements.{Among, known_behind}
use Rattle.scj_model.specs.declared.operations.Op.{Op}
use Rattle.scj_model.specs.declared.operations.Op.TheVariants.{Store as STORE, If as IF, Loop as LOOP, LeaveWith as LEAVEWITH, Drop as DROP}
use Rattle.scj_model.specs.Code.{Code, binding}
use Rattle.scj_model.specs.Ops.{node_ops, return_ops, if_parts}
use Rattle.scj_model.specs.Operations.{assigned_node, bound_local}
use Rattle.scope_flow.specs.Signatures.{Signature}
use Rattle.scope_flow.specs.Flow.{Flow, both_return}
use Rattle.scope_flow.specs.Needs.{pushed, IsStatement, IsOptionPart}
use Rattle.scope_flow.specs.ValueFacts.{HasStatement, HasOptionStatement, HaveStatements}
use Rattle.scope_flow.specs.StatementFacts.{ReturnFact, StatementFact}
use Rattle.scope_flow.proofs.Known.{bool_cases, below_lt, among_self, among_trans, among_more, among_first, IsSetBy, known_set}
use Rattle.scope_flow.proofs.FlowTools.{Behind, FlowsBelow, expression, value, join2}
use Rattle.scope_flow.proofs.AssignmentFlows.{assignment_flow}
use Rattle.scope_flow.proofs.LoopFlows.{returns_at, then_, no_variable, while_flow, for_flow}

or_second : (x y : Bool) → (x || y) ≡ true → x ≡ false → y ≡ true
or_second true y e f = absurd (true≢false f)
or_second false y e f = e

module _ (code : Code) (b c : ℕ) (sig : Signature) (id : ℕ) (sub : ℕ → List Op) (hyp : FlowsBelow code b c sig id sub) where
  abbrev F : List Op → List ℕ → List Kind → Type 0
  F xs ms t = Flow code (Written b) c sig xs ms t

  abbrev returns : ℕ → Bool
  returns = always_returns code.program

  abbrev at_reading : {A : Type 0} → (Node → Option A) → Option Node → Option A
  at_reading f node = elim node [ None ↦ None | Some x ↦ f x ]

  -- ---- blocks

  block_flow : (xs : List ℕ) (known : List ℕ) → HaveStatements code.program b c id known xs → (ls : List ℕ) →
      Among known ls → (os : List Op) (s : List Kind) →
      (list_any returns xs ≡ true) ⊎ ((ms : List ℕ) → Among ls ms → F os ms s) → F (flat_map sub xs ++ os) ls s
  block_flow [] known r ls am os s (inl h) = absurd (true≢false (sym h))
  block_flow [] known r ls am os s (inr h) = h ls (among_self ls)
  block_flow (x ∷ xs) known r ls am os s k =
      join2 code b c sig id sub hyp (sub x) (flat_map sub xs) os ls s
      (hyp.statements x r.0.smaller r.0.is ls (among_trans _ known ls r.0.known am) (flat_map sub xs ++ os) s
      (go
      (λ e ms m st. block_flow xs (known_behind code.program x known) r.1 ms
      (known_set code.program x known ms (among_trans known ls ms am m) st) os s (rest e k ms m))
      (bool_cases (returns x))))
    where
      rest : returns x ≡ false → (list_any returns (x ∷ xs) ≡ true) ⊎ ((ms : List ℕ) → Among ls ms → F os ms s) →
          (ms : List ℕ) → Among ls ms → (list_any returns xs ≡ true) ⊎ ((ns : List ℕ) → Among ms ns → F os ns s)
      rest e (inl h) ms m = inl (or_second (returns x) _ h e)
      rest e (inr h) ms m = inr (λ ns n. h ns (among_trans ls ms ns m n))

      go : (returns x ≡ false → (ms : List ℕ) → Among ls ms → IsSetBy code.program x ms →
          F (flat_map sub xs ++ os) ms s) → (returns x ≡ true) ⊎ (returns x ≡ false) →
          Behind code b c sig x ls (flat_map sub xs ++ os) s
      go more (inl t) = inl t
      go more (inr e) = inr (more e)

  smaller : (x : ℕ) → x < id → below false id returns x ≡ returns x
  smaller x l = below_lt false id returns x l

  any_smaller : (xs : List ℕ) (known : List ℕ) → HaveStatements code.program b c id known xs →
      list_any (below false id returns) xs ≡ list_any returns xs
  any_smaller [] known r = refl
  any_smaller (x ∷ xs) known r = cc (smaller x r.0.smaller, any_smaller xs _ r.1)

  both_smaller : (x : ℕ) (o : Option ℕ) → HasStatement code.program b c id x →
      HasOptionStatement code.program b c id o →
      holds o (λ y. below false id returns x && below false id returns y) ≡ both_return code.program (x, o)
  both_smaller x None e f = refl
  both_smaller x (Some y) e f = cc (smaller x e.0.smaller, smaller y f.0.smaller)

  option_part : (o : Option ℕ) → HasOptionStatement code.program b c id o → (ls : List ℕ) →
      Among (known_variables code.program id) ls → IsOptionPart code.program b c ls o
  option_part None r ls am = tt
  option_part (Some x) r ls am = record { is = r.1; are_set = among_trans _ _ ls r.0.known am }

  drop_flow : (o : Option Kind) (t : Bool) → t ≡ is_some o → (ls : List ℕ) (os : List Op) (s : List Kind) →
      F os ls s → F ((if t then DROP id ∷ [] else []) ++ os) ls (pushed o s)
  unfolding pushed
  drop_flow None t e ls os s f = subst (λ x. F ((if x then DROP id ∷ [] else []) ++ os) ls s) (sym e) f
  drop_flow (Some k) t e ls os s f =
      subst (λ x. F ((if x then DROP id ∷ [] else []) ++ os) ls (k ∷ s)) (sym e)
      (record { out = s; needed = record { kind = k; takes = refl }; goes = f })

  -- ---- all statements

  pub statement_node : (n : Node) → slice_get code.program.nodes id ≡ Some n → IsStatement code.program b c id →
      StatementFact code b c sig id n → (ls : List ℕ) → Among (known_variables code.program id) ls →
      (os : List Op) (s : List Kind) → Behind code b c sig id ls os s → F (node_ops code sub id n ++ os) ls s
  unfolding node_ops StatementFact returns_of variable_of assigned_node bound_local return_ops ReturnFact if_parts
  statement_node (Block position xs) there me r ls am os s k =
      block_flow xs (known_variables code.program id) r ls am os s (go k)
    where
      go : Behind code b c sig id ls os s →
          (list_any returns xs ≡ true) ⊎ ((ms : List ℕ) → Among ls ms → F os ms s)
      go (inl h) = inl (sym (any_smaller xs _ r) ∙ sym (returns_at code.program id _ there) ∙ h)
      go (inr h) = inr (λ ms m. h ms m (no_variable code.program id _ there refl ms))
  statement_node (Empty position) there me r ls am os s k =
      then_ code b c sig id ls os s (returns_at code.program id _ there) k ls (among_self ls)
      (no_variable code.program id _ there refl ls)
  statement_node (LocalNode position name flags declared_type) there me r ls am os s k =
      record {
        local = r.local;
        is = r.is;
        is_variable = r.is_variable;
        spares = r.spares;
        goes =
            then_ code b c sig id ls os s (returns_at code.program id _ there) k (id ∷ ls) (among_more ls id)
            (λ h. among_first ls id);
      }
  statement_node (LocalWithValue position name_position name flags declared_type v) there me r ls am os s k =
      join2 code b c sig id sub hyp (sub v) (STORE id ∷ []) os ls s
      (value code b c sig id sub hyp v r.fits.kind r.fits.value_is ls am (STORE id ∷ os) s (λ ms m. record {
        local = r.declared.local;
        is =
            ap (λ (x : Option ℕ). x >>= (λ node. Some (binding code node)) >>= bound_local)
            (ap (at_reading (assigned_node id)) there) ∙ r.declared.is;
        variable = id;
        is_variable = r.declared.is_variable;
        spares = r.declared.spares;
        value = r.fits.kind;
        others = s;
        takes = refl;
        fit = r.fits.fits;
        goes =
            then_ code b c sig id ls os s (returns_at code.program id _ there) k (id ∷ ms)
            (among_trans ls ms (id ∷ ms) m (among_more ms id)) (λ h. among_first ms id);
      }))
  statement_node (Assign position target v) there me r ls am os s k =
      assignment_flow code b c sig id sub hyp position target v there r ls am os s
      (λ ms m. then_ code b c sig id ls os s (returns_at code.program id _ there) k ms m
      (no_variable code.program id _ there refl ms))
  statement_node (ExpressionStatement position e) there me r ls am os s k =
      join2 code b c sig id sub hyp (sub e) _ os ls s
      (expression code b c sig id sub hyp e r.gives r.expression_is ls am _ s (λ ms m.
      drop_flow r.gives _ r.is ms os s
      (then_ code b c sig id ls os s (returns_at code.program id _ there) k ms m
      (no_variable code.program id _ there refl ms))))
  statement_node (If position condition then_part else_part) there me r ls am os s k =
      join2 code b c sig id sub hyp (sub condition) (IF id ∷ []) os ls s
      (value code b c sig id sub hyp condition truth r.condition_is ls am (IF id ∷ os) s (λ ms m. record {
        parts = (then_part, else_part);
        is = ap (at_reading if_parts) there;
        others = s;
        condition = record { kind = truth; takes = refl; fits = tt };
        first = record {
          is = r.then_is.1;
          are_set = among_trans _ _ ms r.then_is.0.known (among_trans _ ls ms am m);
        };
        second = option_part else_part r.else_is ms (among_trans _ ls ms am m);
        goes = go ms m k;
      }))
    where
      go : (ms : List ℕ) → Among ls ms → Behind code b c sig id ls os s →
          (both_return code.program (then_part, else_part) ≡ true) ⊎ F os ms s
      go ms m (inl h) =
          inl (sym (both_smaller then_part else_part r.then_is r.else_is)
          ∙ sym (returns_at code.program id _ there) ∙ h)
      go ms m (inr h) = inr (h ms m (no_variable code.program id _ there refl ms))
  statement_node (While position condition body) there me r ls am os s k =
      join2 code b c sig id sub hyp (sub condition) (LOOP id ∷ []) os ls s
      (while_flow code b c sig id sub hyp position condition body there r ls am os s k)
  statement_node (For position first condition step body) there me r ls am os s k =
      for_flow code b c sig id sub hyp position first condition step body there r ls am os s k
  statement_node (Return position None) there me r ls am os s k = r
  statement_node (Return position (Some v)) there me r ls am os s k =
      join2 code b c sig id sub hyp (sub v) (LEAVEWITH id ∷ []) os ls s
      (value code b c sig id sub hyp v r.fits.kind r.fits.value_is ls am (LEAVEWITH id ∷ os) s (λ ms m. record {
        wanted = r.wanted;
        is = r.is;
        kind = r.fits.kind;
        others = s;
        takes = refl;
        fit = r.fits.fits;
      }))
  statement_node _ there me r ls am os s k = absurd r
