-- What the rules say of single nodes of an accepted program, in the words of the machine's proofs.
use Rattle.std.proofs.Common.{◌≡◌, ℕ, ◌<◌, [], length, refl, sym, ap, ◌∙◌, arith, Option, Some, None, Bool, true, false, not, ◌&&◌, true≢false, option_and_then, option_map, if◌then◌else◌, slice_get, nat_lt, unwrap_or}
use Rattle.std.proofs.lemmas.Bool.Decides.{nat_tests}
use Rattle.std.proofs.lemmas.Option.{slice_get_within}
use Rattle.scj_tree.specs.declared.nodes.Node.{Node}
use Rattle.scj_tree.specs.declared.nodes.Node.TheVariants.{Parenthesized, FieldAccess, Call, Element, Cast, This as ThisNode}
use Rattle.scj_tree.specs.Forest.{AllBelow}
use Rattle.scj_tree.specs.Shape.{children}
use Rattle.scj_tree.specs.Recursion.{lookup, bottom_up, below}
use Rattle.scj_tree.proofs.RecursionLemmas.{bottom_up-is, listed-at}
use Rattle.scj_rules.specs.declared.typing.Ty.{Ty}
use Rattle.scj_rules.specs.declared.typing.Ty.TheVariants.{Class as ClassTy}
use Rattle.scj_rules.specs.declared.typing.Scope.{Scope}
use Rattle.scj_rules.specs.declared.typing.Binding.TheVariants.{Plain}
use Rattle.scj_rules.specs.declared.typing.Receiver.{Receiver}
use Rattle.scj_rules.specs.Words.{holds, broken}
use Rattle.scj_rules.specs.Classes.{class_number}
use Rattle.scj_rules.specs.Contexts.{Declarations, context, has_object, is_static_member}
use Rattle.scj_rules.specs.Types.{receiver, call_receiver, accessed_field, called_method}
use Rattle.scj_base.specs.declared.findings.Rule.TheVariants.{T13}
use Rattle.scj_rules.specs.TypeRules.{Types, types_in, type_of, type_breaks, t1, t2, t3, t4, t5, t6, t7, t8, t9, t10, t11, t12, t13, t14}
use Rattle.scj_rules.specs.UseRules.{Scopes, scopes_in, scope_of, scope_of_next, scope_of_field, scope_of_call, scope_of_element, scope_in_class, receiver_scope, current_at}
use Rattle.scj_rules.specs.StaticScopes.{this_in}
use Rattle.scj_rules.specs.Bindings.{binding_of, binding_at, bindings_in}
use Rattle.scj_rules.specs.Phases.{type_phase}
use Rattle.accepted_laws.specs.Kinds.{Kind, reference, kind_of}
use Rattle.accepted_laws.specs.Judgements.{Judged, Inside, OwnObject}
use Rattle.accepted_laws.proofs.Typed.{types_are}
use Rattle.accepted_laws.proofs.TypesBelow.{BehindChildren}
use Rattle.accepted_laws.proofs.Breaks.{both_empty, right}
use Rattle.accepted_laws.proofs.Tools.{some_inj}

-- ---- the scope of a node, by the scopes of all nodes

abbrev SameScopes : ℕ → Scopes → Scopes → Type 0
SameScopes id t u = (c : ℕ) → c < id → t c ≡ u c

module _ (p : Declarations) (types : Types) where
  scope-same : (id : ℕ) (t u : Scopes) (node : Node) → SameScopes id t u → AllBelow id (children node) → scope_of p types t id node ≡ scope_of p types u id node
  unfolding AllBelow children scope_of receiver_scope
  scope-same id t u (Parenthesized position inner) same b = same inner b.0
  scope-same id t u (FieldAccess position name object) same b =
      ap (λ (o : Option Scope). option_and_then (λ (r : Receiver). option_and_then (scope_of_field p o) (accessed_field p r name)) (receiver p types object)) (same object b.0)
  scope-same id t u (Call position name None ids) same b = refl
  scope-same id t u (Call position name (Some object) ids) same b =
      ap (λ (o : Option Scope). option_and_then (λ (r : Receiver). option_and_then (scope_of_call p o (current_at p id)) (called_method p r name)) (call_receiver p types id (Some object))) (same object b.0)
  scope-same id t u (Element position array index) same b = ap (λ (o : Option Scope). option_and_then (scope_of_element p o) (types array)) (same array b.0)
  scope-same id t u (Cast position name_position name child) same b = ap (λ (o : Option Scope). option_and_then (λ class. scope_in_class p class o) (class_number p.names name)) (same child b.0)
  scope-same id t u _ same b = refl

  pub scopes_are : BehindChildren p → (id : ℕ) (node : Node) → slice_get p.nodes id ≡ Some node → lookup None (scopes_in p types) id ≡ scope_of p types (lookup None (scopes_in p types)) id node
  unfolding scopes_in scope_of_next
  scopes_are first id node at =
      let all : Scopes = lookup None (bottom_up None (scope_of_next p types) (length p.nodes)) in
      let same : SameScopes id (below None id all) all = λ c l. (let t : nat_lt c id ≡ true = grind (arith, nat_tests) in rw t refl) in
      bottom_up-is None (scope_of_next p types) (length p.nodes) id (slice_get_within p.nodes id node at)
      ∙ ap (λ o. option_and_then (scope_of p types (below None id all) id) o) at ∙ scope-same id (below None id all) all node same (first id node at)

-- ---- what a node stands for
pub bindings_are : (p : Declarations) (id : ℕ) (node : Node) → slice_get p.nodes id ≡ Some node → lookup Plain (bindings_in p) id ≡ binding_of p (lookup None (types_in p)) id node
unfolding bindings_in binding_at
bindings_are p id node at =
    let l : nat_lt id (length p.nodes) ≡ true = (let h = slice_get_within p.nodes id node at in grind (arith, nat_tests)) in
    listed-at Plain (binding_at p (lookup None (types_in p))) (length p.nodes) id ∙ ap (λ t. if t then binding_at p (lookup None (types_in p)) id else Plain) l
    ∙ ap (λ o. unwrap_or (option_map (binding_of p (lookup None (types_in p)) id) o) Plain) at

-- ---- kinds

is_reference_kind : (t : Ty) (o : Option Scope) (c : ℕ) (k : Kind) → kind_of (Some (ClassTy c)) o ≡ Some k → (s : Scope) × (o ≡ Some s) × (k ≡ reference (ClassTy c) s)
unfolding kind_of
is_reference_kind t None c k e = absurd (cc (e))
is_reference_kind t (Some s) c k e = (s, refl, sym (some_inj _ _ e))

pub has_object_static : (p : Declarations) (id b : ℕ) → (context p id).member ≡ Some b → not (has_object p id) ≡ false → is_static_member p.nodes b ≡ false
unfolding has_object
has_object_static p id b member e = sym (ap (λ o. holds o (is_static_member p.nodes)) member) ∙ second (context p id).in_super_call (holds (context p id).member (is_static_member p.nodes)) (not_false _ e)
  where
    not_false : (t : Bool) → not t ≡ false → t ≡ true
    not_false true e = refl
    not_false false e = absurd (true≢false e)

    second : (a b : Bool) → (not a && not b) ≡ true → b ≡ false
    second true b e = absurd (true≢false (sym e))
    second false true e = absurd (true≢false (sym e))
    second false false e = refl

module _ (p : Declarations) (first : BehindChildren p) (none : type_phase p ≡ []) where
  abbrev types : Types
  types = lookup None (types_in p)

  -- `this`
  pub this_fine : (b c id : ℕ) (position : _) → slice_get p.nodes id ≡ Some (ThisNode position) → Inside p b c id → (k : Kind) → Judged p id (Some k) → (own : OwnObject p b c) × (Some k ≡ Some (reference (ClassTy c) own.home))
  unfolding Judged type_of scope_of type_breaks t1 t2 t3 t4 t5 t6 t7 t8 t9 t10 t11 t12 t13 t14
  this_fine b c id position at inside k j =
      let ts = types_are p first none id (ThisNode position) at in
      let s = scopes_are p types first id (ThisNode position) at in
      let ty : lookup None (types_in p) id ≡ Some (ClassTy c) = ts.1 ∙ ap (λ o. option_map (λ class. ClassTy class) o) inside.class in
      let sc : lookup None (scopes_in p types) id ≡ this_in p c = s ∙ ap (λ o. option_and_then (this_in p) o) inside.class in
      let q = is_reference_kind (ClassTy c) (this_in p c) c k (sym (ap (λ t. kind_of t (lookup None (scopes_in p types) id)) ty ∙ ap (λ o. kind_of (Some (ClassTy c)) o) sc) ∙ j) in
      (record { has_object = static_ (right (not (has_object p id)) T13 position (both_empty (broken (not (has_object p id)) T13 position) [] ts.0).0); home = q.0; is_home = q.1 }, ap (λ k. Some k) q.2)
    where
      static_ : not (has_object p id) ≡ false → is_static_member p.nodes b ≡ false
      static_ e = has_object_static p id b inside.member e
