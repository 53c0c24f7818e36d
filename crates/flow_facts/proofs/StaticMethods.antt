-- Static methods of users: they run in CALLER, have bodies, and neither take nor give what lies in THIS.
use Rattle.std.proofs.Common.{◌≡◌, ℕ, List, [], ◌∷◌, ◌++◌, map, flat_map, refl, sym, ap, ◌∙◌, subst, Option, Some, None, Bool, true, false, not, ◌||◌, ◌&&◌, true≢false, inl, inr, option_and_then, is_some, slice_get, if◌then◌else◌}
use Rattle.std.proofs.lemmas.Option.{slice_get_within}
use Rattle.scj_base.specs.declared.findings.Rule.TheVariants.{C7, C11}
use Rattle.scj_tree.specs.declared.nodes.Node.{Node}
use Rattle.scj_tree.specs.declared.nodes.Node.TheVariants.{Method as MethodNode}
use Rattle.scj_tree.specs.Forest.{Forest, IsForest}
use Rattle.scj_rules.specs.declared.typing.Scope.{Scope}
use Rattle.scj_rules.specs.declared.typing.Scope.TheVariants.{Any, This, Caller, In, Unknown, Lost}
use Rattle.scj_rules.specs.declared.typing.Ty.{Ty}
use Rattle.scj_rules.specs.declared.typing.Ty.TheVariants.{Int, Bool as Boolean, Void, NullTy, Label, Class as ClassTy, IntArray, BoolArray, ClassArray}
use Rattle.scj_rules.specs.declared.views.Declared.{Declared}
use Rattle.scj_rules.specs.declared.views.Modifiers.{Modifiers}
use Rattle.scj_rules.specs.Words.{along, holds, broken}
use Rattle.scj_rules.specs.Views.{DeclaredMethod, method_of, modifiers_at}
use Rattle.scj_rules.specs.Classes.{FoundMethod, superclass_in, superclasses, all_interfaces, own_method, method_named}
use Rattle.scj_rules.specs.ClassRules.{c7, c9, c11, node_breaks, at_node, c9_type, leaves_open, has_wrong_body, has_class_words, is_wrongly_synchronized, is_misplaced_on_method}
use Rattle.scj_rules.specs.Contexts.{Declarations, declarations_of, member_flags, is_static_member}
use Rattle.scj_rules.specs.StaticScopes.{has_wrong_runs_in, fixed_for, free_runs_in, runs_in, parameter_scope}
use Rattle.scj_rules.specs.AnnotationRules.{result_scope}
use Rattle.scj_rules.specs.Types.{assigns, are_same, is_reference}
use Rattle.scj_rules.specs.TypeRules.{declared_type_of}
use Rattle.scj_rules.specs.Phases.{IsAccepted}
use Rattle.scj_rules.proofs.ChainLemmas.{is_same_number}
use Rattle.accepted_laws.specs.Judgements.{HasScope}
use Rattle.accepted_laws.specs.Kinds.{Kind, number, truth, yes, reference, fresh, kind_of, seen_as, GoesTo, NamesArea}
use Rattle.accepted_laws.specs.Overriding.{IsUserMethod}
use Rattle.accepted_laws.specs.Sorts.{IsWellSorted}
use Rattle.accepted_laws.proofs.Breaks.{both_empty, right, no_break_at_node}
use Rattle.accepted_laws.proofs.Dispatch.{own_declaration, written_of}
use Rattle.accepted_laws.proofs.Interfaces.{row_is, own_of_framework}
use Rattle.accepted_laws.proofs.MethodNodes.{flat_none, method_node}
use Rattle.accepted_laws.proofs.RealScopes.{result_named}
use Rattle.accepted_laws.proofs.Rows.{at_class_unbroken}
use Rattle.accepted_laws.proofs.ScopesOfClasses.{chain_is}
use Rattle.accepted_laws.proofs.Subtypes.{assigns_itself}
use Rattle.accepted_laws.proofs.Tools.{some_inj}
use Rattle.accepted_nodes.proofs.DeclaredScopes.{static_not_this, static_result_not_this}
use Rattle.accepted_facts.specs.Methods.{kind_of_parameter, kind_given as kind_given_by}
use Rattle.flow_facts.proofs.RealKinds.{known_result}
use Rattle.scope_flow.specs.Needs.{pushed}
use Rattle.scope_flow.specs.Signatures.{Gives, IsWithoutThis, AreWithoutThis}

-- ---- scopes of what is taken and given

module _ (p : Declarations) where
  -- what a static method takes never lies in THIS
  pub never_this : (class : ℕ) (m : DeclaredMethod) (d : Declared) → m.declared.modifiers.is_static ≡ true →
      parameter_scope p class m d ≡ Some This → ⊥
  never_this class m d k e = static_not_this p true class m d k e

  pub static_runs : (class : ℕ) (m : DeclaredMethod) → m.declared.modifiers.is_static ≡ true →
      HasScope (runs_in p class m) → runs_in p class m ≡ Some Caller
  unfolding runs_in
  static_runs class m k h = go (has_wrong_runs_in p class m) h
    where
      inner : Option Scope
      inner =
          elim (fixed_for p class m.declared.name)
          [ Some s ↦ Some s | None ↦ free_runs_in p class m.declared.modifiers.runs_in ]

      go : (t : Bool) → HasScope (if t then None else (if m.declared.modifiers.is_static then Some Caller else inner)) →
          (if t then None else (if m.declared.modifiers.is_static then Some Caller else inner)) ≡ Some Caller
      go true h = absurd (let e : None ≡ Some h.0 = h.1 in cc (e))
      go false h = ap (λ t. if t then Some Caller else inner) k

without_this : (s : Scope) → (s ≡ This → ⊥) → IsWithoutThis s
without_this This n = absurd (n refl)
without_this Any n = tt
without_this Caller n = tt
without_this (In m) n = tt
without_this Unknown n = tt
without_this Lost n = tt

abbrev KindWithoutThis : Kind → Type 0
KindWithoutThis (reference t s) = IsWithoutThis s
KindWithoutThis _ = Unit {0}

add_without : (k : Kind) (ks : List Kind) → KindWithoutThis k → AreWithoutThis ks → AreWithoutThis (k ∷ ks)
add_without number ks h r = r
add_without truth ks h r = r
add_without yes ks h r = r
add_without (fresh c s) ks h r = r
add_without (reference t s) ks h r = (h, r)

some_this : (s : Scope) → (Some s ≡ Some This → ⊥) → IsWithoutThis s
some_this s n = without_this s (λ e. n (ap (λ s. Some s) e))

kind_without : (t : Option Ty) (o : Option Scope) (k : Kind) → (o ≡ Some This → ⊥) → kind_of t o ≡ Some k →
    KindWithoutThis k
unfolding kind_of
kind_without (Some Int) o k n e = subst KindWithoutThis (some_inj number k e) tt
kind_without (Some Boolean) o k n e = subst KindWithoutThis (some_inj truth k e) tt
kind_without (Some NullTy) o k n e = subst KindWithoutThis (some_inj (reference NullTy Any) k e) tt
kind_without (Some (ClassTy c)) (Some s) k n e =
    subst KindWithoutThis (some_inj (reference (ClassTy c) s) k e) (some_this s n)
kind_without (Some IntArray) (Some s) k n e =
    subst KindWithoutThis (some_inj (reference IntArray s) k e) (some_this s n)
kind_without (Some BoolArray) (Some s) k n e =
    subst KindWithoutThis (some_inj (reference BoolArray s) k e) (some_this s n)
kind_without (Some (ClassArray c)) (Some s) k n e =
    subst KindWithoutThis (some_inj (reference (ClassArray c) s) k e) (some_this s n)
kind_without (Some (ClassTy c)) None k n e = absurd (cc (e))
kind_without (Some IntArray) None k n e = absurd (cc (e))
kind_without (Some BoolArray) None k n e = absurd (cc (e))
kind_without (Some (ClassArray c)) None k n e = absurd (cc (e))
kind_without (Some Void) o k n e = absurd (cc (e))
kind_without (Some Label) o k n e = absurd (cc (e))
kind_without None o k n e = absurd (cc (e))

goes_itself : (s : Scope) → (Some s ≡ Some This → ⊥) → NamesArea s → GoesTo Any Caller s s
unfolding seen_as
goes_itself This n h = absurd (n refl)
goes_itself Caller n h = inr (inr (inl (h, refl)))
goes_itself (In m) n h = inr (inr (inl (h, refl)))
goes_itself Any n h = absurd h
goes_itself Unknown n h = absurd h
goes_itself Lost n h = absurd h

module _ (forest : Forest) (accepted : IsAccepted forest) (whole : IsForest forest) (sorted : IsWellSorted forest.nodes)
  where
    abbrev p : Declarations
    p = declarations_of forest

    pub all_without : (f : FoundMethod) (ds : List Declared) (ks : List Kind) →
        f.method.declared.modifiers.is_static ≡ true → map (kind_of_parameter p f) ds ≡ map (λ (k : Kind). Some k) ks →
        AreWithoutThis ks
    unfolding kind_of_parameter
    all_without f [] [] s e = tt
    all_without f (d ∷ ds) (k ∷ ks) s e =
        let first : kind_of (declared_type_of p d) (parameter_scope p f.on f.method d) ≡ Some k = cc (e) in
        let others : map (λ d. kind_of (declared_type_of p d) (parameter_scope p f.on f.method d)) ds ≡ map
        (λ (k : Kind). Some k) ks = cc (e) in
        add_without k ks
        (kind_without (declared_type_of p d) (parameter_scope p f.on f.method d) k
        (λ e. never_this p f.on f.method d s e) first) (all_without f ds ks s others)
    all_without f [] (k ∷ ks) s e = absurd (cc (e))
    all_without f (d ∷ ds) [] s e = absurd (cc (e))

    itself_given : (t : Option Ty) (o : Option Scope) → (o ≡ Some This → ⊥) →
        ((s : Scope) → o ≡ Some s → NamesArea s) → Gives p Any (kind_of t o) (kind_of t o)
    unfolding kind_of assigns are_same is_reference
    itself_given (Some Int) o n h = (tt, tt)
    itself_given (Some Boolean) o n h = (tt, tt)
    itself_given (Some NullTy) o n h = ((refl, inl refl), tt)
    itself_given (Some (ClassTy c)) (Some s) n h =
        ((assigns_itself forest accepted c, goes_itself s n (h s refl)), known_result (ClassTy c) s (h s refl))
    itself_given (Some IntArray) (Some s) n h =
        ((refl, goes_itself s n (h s refl)), known_result IntArray s (h s refl))
    itself_given (Some BoolArray) (Some s) n h =
        ((refl, goes_itself s n (h s refl)), known_result BoolArray s (h s refl))
    itself_given (Some (ClassArray c)) (Some s) n h =
        ((is_same_number c c refl, goes_itself s n (h s refl)), known_result (ClassArray c) s (h s refl))
    itself_given (Some (ClassTy c)) None n h = tt
    itself_given (Some IntArray) None n h = tt
    itself_given (Some BoolArray) None n h = tt
    itself_given (Some (ClassArray c)) None n h = tt
    itself_given (Some Void) o n h = tt
    itself_given (Some Label) o n h = tt
    itself_given None o n h = tt

    pub result_itself : (f : FoundMethod) → f.method.declared.modifiers.is_static ≡ true →
        Gives p Any (kind_given_by p f) (kind_given_by p f)
    unfolding kind_given_by
    result_itself f s = itself_given (declared_type_of p f.method.declared) (result_scope p f.on f.method)
        (λ e. static_result_not_this p f.on f.method s e) (λ r e. result_named p r f.on f.method e)

    pub result_without : (f : FoundMethod) → f.method.declared.modifiers.is_static ≡ true →
        AreWithoutThis (pushed (kind_given_by p f) [])
    unfolding kind_given_by pushed
    result_without f s = go (kind_of (declared_type_of p f.method.declared) (result_scope p f.on f.method)) refl
      where
        go : (o : Option Kind) → kind_of (declared_type_of p f.method.declared) (result_scope p f.on f.method) ≡ o →
            AreWithoutThis (pushed o [])
        go None e = tt
        go (Some k) e =
            add_without k [] (kind_without (declared_type_of p f.method.declared) (result_scope p f.on f.method) k
            (λ e. static_result_not_this p f.on f.method s e) e) tt

    -- ---- bodies

    second : (a b c : Bool) → (a || b || c) ≡ false → b ≡ false
    second true b c e = absurd (true≢false e)
    second false true c e = absurd (true≢false e)
    second false false c e = refl

    and_second : (a b : Bool) → a ≡ true → (a && b) ≡ false → b ≡ false
    and_second true b k e = e
    and_second false b k e = absurd (true≢false (sym k))

    -- a static method is not abstract (C11)
    not_abstract : (b : ℕ) (node : Node) (m : DeclaredMethod) → slice_get p.nodes b ≡ Some node →
        method_of p.nodes b node ≡ Some m → m.declared.modifiers.is_static ≡ true →
        m.declared.modifiers.is_abstract ≡ false
    unfolding method_of node_breaks c9 c11
    not_abstract b (MethodNode position name flags result_type parameters body) m stands is s =
        let w : Modifiers = modifiers_at p.nodes flags in
        let same : w ≡ m.declared.modifiers = ap (λ (m : DeclaredMethod). m.declared.modifiers) (some_inj _ m is) in
        let e =
        right (is_misplaced_on_method p b name w) C11 position
        (both_empty (at_node p (c9_type p) result_type) (broken (is_misplaced_on_method p b name w) C11 position)
        (no_break_at_node forest accepted b (MethodNode position name flags result_type parameters body)
        stands).no_class_rule).1 in
        ap (λ (w : Modifiers). w.is_abstract) (sym same)
        ∙ and_second w.is_static w.is_abstract (ap (λ (w : Modifiers). w.is_static) same ∙ s)
        (second (has_class_words w) (w.is_static && w.is_abstract) (is_wrongly_synchronized p b name w) e)
    not_abstract b _ m stands is s = absurd (cc (is))

    body_there : (m : DeclaredMethod) → m.declared.modifiers.is_abstract ≡ false → has_wrong_body m ≡ false →
        is_some m.body ≡ true
    body_there m a e = go (is_some m.body) (sym (ap (λ t. if t then is_some m.body else not (is_some m.body)) a) ∙ e)
      where
        go : (t : Bool) → not t ≡ false → t ≡ true
        go true e = refl
        go false e = absurd (true≢false e)

    pub static_body : (y : ℕ) (name : List ℕ) (f : FoundMethod) → own_method p.classes name y ≡ Some f →
        IsUserMethod p f → f.method.declared.modifiers.is_static ≡ true → is_some f.method.body ≡ true
    unfolding c7
    static_body y name f own user s =
        let d = own_declaration forest accepted y name f own in
        let n = method_node p.nodes f.method.declared.node f.method user.is_there in
        elim (row_is forest accepted y d.row d.is_row) as (λ z. is_some f.method.body ≡ true) [
          | inl k ↦ absurd
              (true≢false (sym (own_of_framework forest accepted y d.row name f d.is_row k own)
              ∙ ap is_some user.not_builtin))
          | inr w ↦ (
              let c =
              at_class_unbroken forest accepted y d.row w.2.class d.is_row
              (written_of forest accepted whole sorted w.0 d.row w.2) in
              let wrong = right (has_wrong_body f.method) C7 f.method.declared.position
              (flat_none (λ (m : DeclaredMethod). broken (has_wrong_body m) C7 m.declared.position) f.method d.row.methods
              (both_empty (broken (leaves_open p y w.2.class) C7 w.2.class.position)
              (flat_map (λ (m : DeclaredMethod). broken (has_wrong_body m) C7 m.declared.position) d.row.methods)
              c.left_open).1 d.among) in
              body_there f.method (not_abstract f.method.declared.node n.node f.method n.is_there n.is s) wrong)
        ]

    -- a class has what it declares itself
    pub own_is_named : (y : ℕ) (name : List ℕ) (f : FoundMethod) → own_method p.classes name y ≡ Some f →
        method_named p.classes f.on f.method.declared.name ≡ Some f
    unfolding method_named along
    own_is_named y name f own =
        let d = own_declaration forest accepted y name f own in
        let l = slice_get_within p.classes y d.row d.is_row in
        let chain = chain_is forest accepted y l in
        ap (λ n. method_named p.classes f.on n) (sym d.same_name) ∙ ap (λ y. method_named p.classes y name) d.on
        ∙ ap (λ xs. along (own_method p.classes name) (xs ++ all_interfaces p.classes y)) chain
        ∙ ap (λ (o : Option FoundMethod). elim o as (λ _. Option FoundMethod) [
          | None ↦ along (own_method p.classes name)
              ((elim (superclass_in p.classes y) as (λ _. List ℕ) [ None ↦ [] | Some b ↦ superclasses p.classes b ])
              ++ all_interfaces p.classes y)
          | Some g ↦ Some g
        ]) own

    static_at : (b : ℕ) (node : Node) (m : DeclaredMethod) → slice_get p.nodes b ≡ Some node →
        method_of p.nodes b node ≡ Some m → is_static_member p.nodes b ≡ m.declared.modifiers.is_static
    unfolding method_of member_flags
    static_at b (MethodNode position name flags result_type parameters body) m stands is =
        ap (λ (o : Option Node). holds (option_and_then member_flags o) (λ flags. (modifiers_at p.nodes flags).is_static))
        stands ∙ ap (λ (m : DeclaredMethod). m.declared.modifiers.is_static) (some_inj _ m is)
    static_at b _ m stands is = absurd (cc (is))

    pub static_node : (f : FoundMethod) → IsUserMethod p f → f.method.declared.modifiers.is_static ≡ true →
        is_static_member p.nodes f.method.declared.node ≡ true
    static_node f user s =
        (let n = method_node p.nodes f.method.declared.node f.method user.is_there in
        static_at f.method.declared.node n.node f.method n.is_there n.is ∙ s)
