-- The arguments of a call or a `new` fit the parameters, where T6 and E3 aren't broken.
use Rattle.std.proofs.Common.{◌≡◌, ℕ, List, [], ◌∷◌, map, refl, sym, ap, ◌∙◌, subst, Option, Some, None, Bool, true, false, ◌&&◌, true≢false, ◌⊎◌, inl, inr, option_and_then, option_map, ◌==◌}
use Rattle.scj_base.specs.declared.findings.Rule.TheVariants.{E3}
use Rattle.scj_base.specs.declared.positions.Position.{Position}
use Rattle.scj_tree.specs.declared.nodes.Node.{Node}
use Rattle.scj_tree.specs.declared.nodes.Node.TheVariants.{Text, Binary, Unary, Cast, Parenthesized, SimpleName, FieldAccess, Call, Element, New, NewArray, Number, True, False, Null, This as ThisNode}
use Rattle.scj_tree.specs.Forest.{Forest, IsForest}
use Rattle.scj_rules.specs.declared.typing.Scope.{Scope}
use Rattle.scj_rules.specs.declared.typing.Scope.TheVariants.{Any, This, Caller, In, Unknown, Lost}
use Rattle.scj_rules.specs.declared.typing.Ty.{Ty}
use Rattle.scj_rules.specs.declared.typing.Ty.TheVariants.{Int, Bool as Boolean, Void, NullTy, Label, Class as ClassTy, IntArray, BoolArray, ClassArray}
use Rattle.scj_rules.specs.declared.views.Declared.{Declared}
use Rattle.scj_rules.specs.Words.{is_among, holds, broken}
use Rattle.scj_rules.specs.Views.{position_at}
use Rattle.scj_rules.specs.Classes.{ClassRow}
use Rattle.scj_rules.specs.Contexts.{Declarations, declarations_of}
use Rattle.scj_rules.specs.StaticScopes.{substitute}
use Rattle.scj_rules.specs.Types.{assigns, are_same, accepts_arguments, all_types}
use Rattle.scj_rules.specs.TypeRules.{Types, type_of, declared_type_of}
use Rattle.scj_rules.specs.UseRules.{Scopes, misfit_scope, misfit_arguments}
use Rattle.scj_rules.specs.Phases.{IsAccepted}
use Rattle.accepted_laws.specs.Judgements.{type_at_node, scope_at_node, Judged}
use Rattle.accepted_laws.specs.Kinds.{Kind, kind_of, seen_as, seen_kind, seen_kinds, seen_option}
use Rattle.accepted_laws.specs.Sorts.{IsWellSorted, is_argument, is_expression}
use Rattle.accepted_laws.proofs.Breaks.{both_empty, right}
use Rattle.accepted_laws.proofs.Fields.{In as Element_of, here, there}
use Rattle.accepted_laws.proofs.Tools.{some_inj}
use Rattle.scj_rules.proofs.ChainLemmas.{or_left, or_right, is_same_number}
use Rattle.accepted_nodes.proofs.FormParts.{held}
use Rattle.accepted_nodes.proofs.ScopesComplete.{of_option}
use Rattle.accepted_nodes.proofs.TypesComplete.{type_is, ValueAt}
use Rattle.accepted_facts.specs.Calls.{AllFitAsSeen, Passes}
use Rattle.accepted_facts.specs.Expressions.{Operand}
use Rattle.accepted_facts.specs.Statements.{FitsAsSeen}
use Rattle.accepted_facts.proofs.StatementFacts.{value_fits}

-- ---- kinds as they are seen

substituted : (home now s : Scope) → substitute (Some home) (Some now) s ≡ Some (seen_as home now s)
unfolding substitute seen_as
substituted home now This = refl
substituted home now Any = refl
substituted home now Caller = refl
substituted home now (In n) = refl
substituted home now Unknown = refl
substituted home now Lost = refl

seen_kind_of : (home now : Scope) (t : Option Ty) (s : Scope) → kind_of t (Some (seen_as home now s)) ≡ seen_option home now (kind_of t (Some s))
unfolding kind_of seen_option seen_kind seen_as
seen_kind_of home now (Some Int) s = refl
seen_kind_of home now (Some Boolean) s = refl
seen_kind_of home now (Some NullTy) s = refl
seen_kind_of home now (Some (ClassTy c)) s = refl
seen_kind_of home now (Some IntArray) s = refl
seen_kind_of home now (Some BoolArray) s = refl
seen_kind_of home now (Some (ClassArray c)) s = refl
seen_kind_of home now (Some Void) s = refl
seen_kind_of home now (Some Label) s = refl
seen_kind_of home now None s = refl

plain_kind : (home now : Scope) (t : Option Ty) → kind_of t None ≡ seen_option home now (kind_of t None)
unfolding kind_of seen_option seen_kind seen_as
plain_kind home now (Some Int) = refl
plain_kind home now (Some Boolean) = refl
plain_kind home now (Some NullTy) = refl
plain_kind home now (Some (ClassTy c)) = refl
plain_kind home now (Some IntArray) = refl
plain_kind home now (Some BoolArray) = refl
plain_kind home now (Some (ClassArray c)) = refl
plain_kind home now (Some Void) = refl
plain_kind home now (Some Label) = refl
plain_kind home now None = refl

-- the kind of what is declared, with what the scopes THIS and CALLER stand for
pub seen_there : (home now : Scope) (t : Option Ty) (o : Option Scope) → kind_of t (option_and_then (substitute (Some home) (Some now)) o) ≡ seen_option home now (kind_of t o)
seen_there home now t None = plain_kind home now t
seen_there home now t (Some s) = ap (kind_of t) (substituted home now s) ∙ seen_kind_of home now t s

seen_some : (home now : Scope) (k : Kind) → seen_option home now (Some k) ≡ Some (seen_kind home now k)
unfolding seen_option
seen_some home now k = refl

seen_cons : (home now : Scope) (k : Kind) (ks : List Kind) → seen_kinds home now (k ∷ ks) ≡ seen_kind home now k ∷ seen_kinds home now ks
unfolding seen_kinds
seen_cons home now k ks = refl

seen_nil : (home now : Scope) → seen_kinds home now [] ≡ []
unfolding seen_kinds
seen_nil home now = refl

-- an argument is a text, or an expression
text_or_expression : (n : Node) → is_argument n ≡ true → (is_expression n ≡ true) ⊎ ((position : Position) × (text : List ℕ) × (n ≡ Text position text))
unfolding is_argument is_expression
text_or_expression (Text position text) e = inr (position, text, refl)
text_or_expression (Binary a b c d) e = inl refl
text_or_expression (Unary a b c) e = inl refl
text_or_expression (Cast a b c d) e = inl refl
text_or_expression (Parenthesized a b) e = inl refl
text_or_expression (SimpleName a b) e = inl refl
text_or_expression (FieldAccess a b c) e = inl refl
text_or_expression (Call a b c d) e = inl refl
text_or_expression (Element a b c) e = inl refl
text_or_expression (New a b c d) e = inl refl
text_or_expression (NewArray a b c) e = inl refl
text_or_expression (Number a b c) e = inl refl
text_or_expression (True a) e = inl refl
text_or_expression (False a) e = inl refl
text_or_expression (Null a) e = inl refl
text_or_expression (ThisNode a) e = inl refl
text_or_expression _ e = absurd (true≢false (sym e))

label_to : (rows : List ClassRow) (u : Ty) → assigns rows Label u ≡ true → u ≡ Label
unfolding assigns are_same
label_to rows Label e = refl
label_to rows _ e = absurd (true≢false (sym e))

label_no_kind : (s : Option Scope) (k : Kind) → kind_of (Some Label) s ≡ Some k → ⊥
unfolding kind_of
label_no_kind s k e = cc (e)

mapped : (o : Option (List Ty)) (t : Ty) (ts : List Ty) → option_map (λ (ts : List Ty). t ∷ ts) o ≡ Some ts → (us : List Ty) × (o ≡ Some us) × (t ∷ us ≡ ts)
mapped None t ts e = absurd (cc (e))
mapped (Some us) t ts e = (us, refl, some_inj (t ∷ us) ts e)

and_true : (a b : Bool) → (a && b) ≡ true → (a ≡ true) × (b ≡ true)
and_true true b e = (refl, e)
and_true false b e = absurd (true≢false (sym e))

module _ (forest : Forest) (accepted : IsAccepted forest) (whole : IsForest forest) (sorted : IsWellSorted forest.nodes) where
  abbrev p : Declarations
  p = declarations_of forest

  abbrev types : Types
  types = type_at_node p

  abbrev scopes : Scopes
  scopes = scope_at_node p

  text_type : (id : ℕ) (position : Position) (text : List ℕ) → type_of p types id (Text position text) ≡ Some Label
  unfolding type_of
  text_type id position text = refl

  argument_fits : (b c id x : ℕ) (u : Ty) (r : Option Scope) (k : Kind) → (v : ValueAt forest accepted whole sorted b c id x) → (t : Ty) → types x ≡ Some t → kind_of (Some u) r ≡ Some k → assigns p.classes t u ≡ true → misfit_scope (scopes x) r ≡ false → (j : Kind) × Judged p x (Some j) × FitsAsSeen p j k
  argument_fits b c id x u r k v t e kind fit scope =
      let w = v.value in
      elim (text_or_expression v.node w.is_argument) as (λ z. (j : Kind) × Judged p x (Some j) × FitsAsSeen p j k) [
        | inl h ↦ value_fits forest accepted whole sorted b c id x u r k v v.node v.is_there h kind (λ t2 f. ap (λ t. assigns p.classes t u) (some_inj t2 t (sym f ∙ e)) ∙ fit) scope
        | inr q ↦ absurd (
            let label : t ≡ Label = some_inj t Label (sym e ∙ type_is forest accepted whole sorted x v.node v.is_there ∙ ap (type_of p types x) q.2 ∙ text_type x q.0 q.1) in
            let other : u ≡ Label = label_to p.classes u (sym (ap (λ t. assigns p.classes t u) label) ∙ fit) in
            label_no_kind r k (sym (ap (λ u. kind_of (Some u) r) other) ∙ kind))
      ]

  abbrev Result : ℕ → ℕ → ℕ → List ℕ → List Declared → (Declared → Option Scope) → Scope → Scope → Type 0
  Result b c id xs ds scope home now = (taken : List Kind) × (map (λ d. kind_of (declared_type_of p d) (scope d)) ds ≡ map (λ (k : Kind). Some k) taken) × Passes p b c id xs home now taken

  -- one argument more
  one_more : (b c id x : ℕ) (xs : List ℕ) (d : Declared) (ds : List Declared) (scope : Declared → Option Scope) (home now : Scope) (k j : Kind) → kind_of (declared_type_of p d) (scope d) ≡ Some k → Operand p b c id x j → FitsAsSeen p j (seen_kind home now k) → Result b c id xs ds scope home now → Result b c id (x ∷ xs) (d ∷ ds) scope home now
  one_more b c id x xs d ds scope home now k j kind operand fit q =
      let r = q.2 in (
        k ∷ q.0,
        ap (λ (o : Option Kind). o ∷ map (λ d. kind_of (declared_type_of p d) (scope d)) ds) kind ∙ ap (λ os. Some k ∷ os) q.1,
        record { given = j ∷ r.given; operands = (operand, r.operands); fit = subst (AllFitAsSeen p (j ∷ r.given)) (sym (seen_cons home now k q.0)) (fit, r.fit) },
      )

  pub pass : (b c id : ℕ) (xs : List ℕ) (ts : List Ty) (ds : List Declared) (scope : Declared → Option Scope) (home now : Scope) → ((x : ℕ) → is_among x xs ≡ true → ValueAt forest accepted whole sorted b c id x) → ((x : ℕ) (k : Kind) → is_among x xs ≡ true → Judged p x (Some k) → Operand p b c id x k)
      → all_types types xs ≡ Some ts → accepts_arguments p ds ts ≡ true → misfit_arguments p scopes (λ d. option_and_then (substitute (Some home) (Some now)) (scope d)) ds xs ≡ [] → ((d : Declared) → Element_of d ds → (k : Kind) × (kind_of (declared_type_of p d) (scope d) ≡ Some k))
      → Result b c id xs ds scope home now
  unfolding all_types accepts_arguments misfit_arguments
  pass b c id [] ts [] scope home now at operand e a m kinds = ([], refl, record { given = []; operands = tt; fit = subst (AllFitAsSeen p []) (sym (seen_nil home now)) tt })
  pass b c id [] ts (d ∷ ds) scope home now at operand e a m kinds = absurd (true≢false (sym (ap (accepts_arguments p (d ∷ ds)) (some_inj [] ts e) ∙ a)))
  pass b c id (x ∷ xs) ts [] scope home now at operand e a m kinds =
      absurd (
      let t = of_option (types x) (λ t. option_map (λ ts. t ∷ ts) (all_types types xs)) ts e in
      let q = mapped (all_types types xs) t.0 ts t.2 in true≢false (sym (ap (accepts_arguments p []) q.2 ∙ a)))
  pass b c id (x ∷ xs) ts (d ∷ ds) scope home now at operand e a m kinds =
      let t = of_option (types x) (λ t. option_map (λ ts. t ∷ ts) (all_types types xs)) ts e in
      let q = mapped (all_types types xs) t.0 ts t.2 in
      let parts = and_true (holds (declared_type_of p d) (assigns p.classes t.0)) (accepts_arguments p ds q.0) (ap (accepts_arguments p (d ∷ ds)) q.2 ∙ a) in
      let u = held (declared_type_of p d) (assigns p.classes t.0) parts.0 in
      let both = both_empty (broken (misfit_scope (scopes x) (option_and_then (substitute (Some home) (Some now)) (scope d))) E3 (position_at p.nodes x)) (misfit_arguments p scopes (λ d. option_and_then (substitute (Some home) (Some now)) (scope d)) ds xs) m in
      let k = kinds d here in
      let seen : kind_of (Some u.0) (option_and_then (substitute (Some home) (Some now)) (scope d)) ≡ Some (seen_kind home now k.0)
      = ap (λ (o : Option Ty). kind_of o (option_and_then (substitute (Some home) (Some now)) (scope d))) (sym u.1) ∙ seen_there home now (declared_type_of p d) (scope d) ∙ ap (seen_option home now) k.1 ∙ seen_some home now k.0 in
      let among : is_among x (x ∷ xs) ≡ true = or_left (x == x) (is_among x xs) (is_same_number x x refl) in
      let j = argument_fits b c id x u.0 (option_and_then (substitute (Some home) (Some now)) (scope d)) (seen_kind home now k.0) (at x among) t.0 t.1 seen u.2 (right _ E3 (position_at p.nodes x) both.0) in
      one_more b c id x xs d ds scope home now k.0 j.0 k.1 (operand x j.0 among j.1) j.2
      (pass b c id xs q.0 ds scope home now (λ y h. at y (or_right (y == x) (is_among y xs) h)) (λ y k h. operand y k (or_right (y == x) (is_among y xs) h)) q.1 parts.1 both.1 (λ y i. kinds y (there i)))
