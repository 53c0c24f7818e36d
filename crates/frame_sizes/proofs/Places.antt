-- A node of a body, and room for its parts: nine operands of its own, and what each part needs.
use Rattle.std.specs.Prelude.{Option, Some, None, is_some, slice_get, flat_map, max}
use Rattle.std.proofs.Common.{◌≡◌, ◌≤◌, ◌<◌, ℕ, ◌+◌, ◌*◌, suc, List, [], ◌∷◌, length, refl, sym, ◌∙◌, ap, subst, arith}
use Rattle.scj_base.specs.declared.positions.Position.{Position}
use Rattle.scj_tree.specs.declared.nodes.Node.{Node}
use Rattle.scj_tree.specs.declared.nodes.Node.TheVariants.{Call, Text}
use Rattle.scj_tree.specs.Heights.{highest, height, body_height}
use Rattle.scj_rules.specs.declared.typing.Scope.{Scope}
use Rattle.scj_rules.specs.declared.views.Body.{Body}
use Rattle.scj_rules.specs.declared.views.Body.TheVariants.{Written}
use Rattle.scj_rules.specs.Words.{◌>>=◌}
use Rattle.scj_rules.specs.Contexts.{Declarations}
use Rattle.accepted_laws.specs.Judgements.{Inside, Judged}
use Rattle.accepted_laws.specs.Kinds.{Kind, AllFit}
use Rattle.accepted_laws.proofs.TypesBelow.{BehindChildren}
use Rattle.scj_model.specs.declared.operations.Op.{Op}
use Rattle.scj_model.specs.Code.{Code}
use Rattle.scj_model.specs.Operations.{argument_count, super_count}
use Rattle.scope_flow.specs.CallFacts.{CallFact}
use Rattle.scope_flow.specs.Needs.{IsStatement}
use Rattle.scope_flow.specs.Signatures.{Signature, Runs, IsBody}
use Rattle.scope_flow.specs.ValueFacts.{HasValue, HaveValues, HasStatement}
use Rattle.frame_sizes.specs.Sizes.{most_operands}
use Rattle.frame_sizes.proofs.Counts.{with_result, Value, Statement, Brings, brings_none, brings_then, more}

-- ---- what is small in an accepted program

pub record Limits (code : Code) : Type 0 where
  pub behind : BehindChildren code.program
  pub takes : (body : Body) (c : ℕ) (sig : Signature) → Runs code.program body c sig → length sig.takes ≤ 8
  pub called : (b c : ℕ) (sig : Signature) (id : ℕ) (position : Position) (name : List ℕ) (object : Option ℕ)
      (arguments : List ℕ) (gives : Option Kind) → IsBody code.program b c sig → Inside code.program b c id →
      slice_get code.program.nodes id ≡ Some (Call position name object arguments) → Judged code.program id gives →
      CallFact code b c sig id object arguments gives → length arguments ≤ 8
  pub low : (b c : ℕ) (sig : Signature) (body : IsBody code.program b c sig) →
      body_height code.program.nodes body.node ≤ 64

abbrev pub with_kind : Option Kind → ℕ → ℕ
with_kind o d = with_result (is_some o) d

pub as_many : (p : Declarations) (b c id : ℕ) (xs : List ℕ) (ks : List Kind) → HaveValues p b c id xs ks →
    length xs ≡ length ks
as_many p b c id [] [] h = refl
as_many p b c id (x ∷ xs) (k ∷ ks) h = ap suc (as_many p b c id xs ks h.1)
as_many p b c id [] (k ∷ ks) h = absurd h
as_many p b c id (x ∷ xs) [] h = absurd h

pub as_many_fit : (p : Declarations) (home now : Scope) (js ks : List Kind) → AllFit p home now js ks →
    length js ≡ length ks
as_many_fit p home now [] [] h = refl
as_many_fit p home now (j ∷ js) (k ∷ ks) h = ap suc (as_many_fit p home now js ks h.1)
as_many_fit p home now [] (k ∷ ks) h = absurd h
as_many_fit p home now (j ∷ js) [] h = absurd h

-- the operations of the nodes before one
pub record Before (code : Code) (b c : ℕ) (id : ℕ) (sub : ℕ → List Op) : Type 0 where
  pub values : (x : ℕ) → x < id → (o : Option Kind) → Inside code.program b c x → Judged code.program x o →
      (d : ℕ) → d + 9 * height code.program.nodes x ≤ most_operands → Brings code (sub x) d (with_kind o d)
  pub statements : (x : ℕ) → x < id → IsStatement code.program b c x → (d : ℕ) →
      d + 9 * height code.program.nodes x ≤ most_operands → Brings code (sub x) d d
  pub texts : (x : ℕ) → x < id → (position : Position) (text : List ℕ) →
      slice_get code.program.nodes x ≡ Some (Text position text) → sub x ≡ []

-- a node of a body, behind nodes that leave what they should, where so many operands are there
pub record Place (code : Code) : Type 0 where
  pub member : ℕ
  pub class : ℕ
  pub sig : Signature
  pub body : IsBody code.program member class sig
  pub limits : Limits code
  pub id : ℕ
  pub sub : ℕ → List Op
  pub hyp : Before code member class id sub
  pub depth : ℕ
  pub room : depth + 9 * height code.program.nodes id ≤ most_operands

module _ (code : Code) (at : Place code) where
  abbrev b : ℕ
  b = at.member

  abbrev c : ℕ
  c = at.class

  abbrev sig : Signature
  sig = at.sig

  abbrev id : ℕ
  id = at.id

  abbrev sub : ℕ → List Op
  sub = at.sub

  abbrev d : ℕ
  d = at.depth

  abbrev H : ℕ → ℕ
  H = height code.program.nodes

  abbrev B : List Op → ℕ → ℕ → Type 0
  B xs e g = Brings code xs e g

  pub value : (x : ℕ) (k : Kind) → HasValue code.program b c id x (Some k) → (e : ℕ) → e + 9 * H x ≤ most_operands →
      B (sub x) e (suc e)
  value x k h e l = at.hyp.values x h.0.smaller (Some k) h.0.inside h.1 e l

  pub statement : (x : ℕ) → HasStatement code.program b c id x → (e : ℕ) → e + 9 * H x ≤ most_operands → B (sub x) e e
  statement x h e l = at.hyp.statements x h.0.smaller h.1 e l

  pub value_part : (x : ℕ) (k : Kind) → HasValue code.program b c id x (Some k) → (e : ℕ) →
      e + 9 * H x ≤ most_operands → Value code x e
  value_part x k h e l =
      record {
        body = b;
        class = c;
        sig = sig;
        is_body = at.body;
        inside = h.0.inside;
        kind = k;
        judged = h.1;
        room = l;
      }

  pub statement_part : (x : ℕ) → IsStatement code.program b c x → (e : ℕ) → e + 9 * H x ≤ most_operands →
      Statement code x e
  statement_part x h e l = record { body = b; class = c; sig = sig; is_body = at.body; is = h; room = l }

  pub takes_few : (x k : ℕ) (static : Signature) → IsBody code.program x k static → length static.takes ≤ 8
  unfolding Runs
  takes_few x k static h = at.limits.takes (Written x) k static h

  -- ---- room for parts, beside nine operands of the node's own

  abbrev pub Roomy : ℕ → Type 0
  Roomy n = d + 9 + 9 * n ≤ most_operands

  pub roomy : (n : ℕ) → H id ≡ 1 + n → Roomy n
  roomy n e = (let l = at.room in omega (arith, e, l))

  pub less_roomy : (m n : ℕ) → m ≤ n → Roomy n → Roomy m
  less_roomy m n l r = omega (arith, l, r)

  -- with so many more than before, and without any part
  pub with_more : (e n : ℕ) → e ≤ d + 9 → Roomy n → e + 9 * n ≤ most_operands
  with_more e n l r = omega (arith, l, r)

  pub alone : (e n : ℕ) → e ≤ d + 9 → Roomy n → e ≤ most_operands
  alone e n l r = omega (arith, l, r)

  abbrev pub AllRoomy : List ℕ → Type 0
  AllRoomy [] = Unit {0}
  AllRoomy (x ∷ xs) = Roomy (H x) × AllRoomy xs

  pub all_roomy : (xs : List ℕ) → Roomy (highest H xs) → AllRoomy xs
  unfolding highest
  all_roomy [] r = tt
  all_roomy (x ∷ xs) r = (
    less_roomy (H x) (max (H x) (highest H xs)) (omega arith) r,
    all_roomy xs (less_roomy (highest H xs) (max (H x) (highest H xs)) (omega arith) r),
  )

  pub one_roomy : (x : ℕ) → H id ≡ 1 + highest H (x ∷ []) → Roomy (H x)
  one_roomy x e = (all_roomy (x ∷ []) (roomy (highest H (x ∷ [])) e)).0

  pub done : (xs : List Op) (o : Option Kind) (k : Kind) → o ≡ Some k → B xs d (suc d) → B xs d (with_kind o d)
  done xs o k e a = subst (λ (p : Option Kind). Brings code xs d (with_kind p d)) (sym e) a

  pub done_void : (xs : List Op) (o : Option Kind) → o ≡ None → B xs d d → B xs d (with_kind o d)
  done_void xs o e a = subst (λ (p : Option Kind). Brings code xs d (with_kind p d)) (sym e) a

  -- ---- arguments

  pub arguments : (xs : List ℕ) (ks : List Kind) → HaveValues code.program b c id xs ks → AllRoomy xs → (e : ℕ) →
      e + length xs ≤ d + 9 → B (flat_map sub xs) e (more (length xs) e)
  arguments [] [] h r e l = brings_none code e
  arguments (x ∷ xs) (k ∷ ks) h r e l =
      brings_then code (sub x) (flat_map sub xs) e (suc e) (more (length xs) (suc e))
      (value x k h.0 e (with_more e (H x) (omega (arith, l)) r.0))
      (arguments xs ks h.1 r.1 (suc e) (omega (arith, l)))
  arguments [] (k ∷ ks) h r e l = absurd h
  arguments (x ∷ xs) [] h r e l = absurd h

  pub counted : (node : Node) (n : ℕ) → slice_get code.program.nodes id ≡ Some node → argument_count node ≡ Some n →
      super_count code id ≡ n
  counted node n there e =
      ap (λ (o : Option Node). elim (o >>= argument_count) as (λ z. ℕ) [ None ↦ 0 | Some n ↦ n ]) there
      ∙ ap (λ (o : Option ℕ). elim o as (λ z. ℕ) [ None ↦ 0 | Some n ↦ n ]) e
