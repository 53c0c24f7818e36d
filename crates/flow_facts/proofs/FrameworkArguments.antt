-- Calls of the framework's methods: their arguments, what they give, and the object on which they are called.
use Rattle.std.proofs.Common.{◌≡◌, ℕ, List, [], ◌∷◌, refl, sym, ap, ◌∙◌, Option, Some, None, Bool, true, false, not, ◌&&◌, true≢false, inl, inr, option_and_then, option_map, slice_get, ◌==◌}
use Rattle.scj_base.specs.declared.positions.Position.{Position}
use Rattle.scj_tree.specs.declared.nodes.Node.{Node}
use Rattle.scj_tree.specs.declared.nodes.Node.TheVariants.{Text, Call}
use Rattle.scj_tree.specs.Forest.{Forest, IsForest}
use Rattle.scj_tree.specs.Shape.{children}
use Rattle.scj_rules.specs.declared.typing.Receiver.TheVariants.{Class as the_class, Value as the_value, Own as own_object}
use Rattle.scj_rules.specs.declared.typing.Scope.{Scope}
use Rattle.scj_rules.specs.declared.typing.Scope.TheVariants.{Any}
use Rattle.scj_rules.specs.declared.typing.Ty.{Ty}
use Rattle.scj_rules.specs.declared.typing.Ty.TheVariants.{Int, Void, NullTy, Label, Class as ClassTy, IntArray, BoolArray, ClassArray}
use Rattle.scj_rules.specs.declared.views.Declared.{Declared}
use Rattle.scj_rules.specs.Words.{is_among, holds}
use Rattle.scj_rules.specs.Classes.{ClassRow, FoundMethod, method_named}
use Rattle.scj_rules.specs.Contexts.{Declarations, declarations_of, object_of, declared_before, has_object}
use Rattle.scj_rules.specs.Types.{assigns, are_same, is_reference, accepts_arguments, all_types, class_at_name, call_receiver, called_method, class_of_receiver, names_class, is_value, method_called}
use Rattle.scj_rules.specs.TypeRules.{Types, declared_type_of, lacks_method, lacks_object_of_method}
use Rattle.scj_rules.specs.UseRules.{Scopes}
use Rattle.scj_rules.specs.Phases.{IsAccepted}
use Rattle.scj_rules.proofs.ChainLemmas.{or_left, or_right, is_same_number}
use Rattle.accepted_laws.specs.Judgements.{type_at_node, scope_at_node, HasScope, Inside, Judged, OwnObject}
use Rattle.accepted_laws.specs.Kinds.{Kind, number, reference, kind_of}
use Rattle.accepted_laws.specs.Sorts.{HasRightChildren, IsWellSorted, is_argument, is_expression}
use Rattle.accepted_laws.proofs.DeclarationScopes.{this_has_scope}
use Rattle.accepted_laws.proofs.Judged.{has_object_static}
use Rattle.accepted_laws.proofs.Tools.{some_inj}
use Rattle.accepted_nodes.proofs.FormParts.{takes_parts}
use Rattle.accepted_nodes.proofs.ScopesComplete.{of_option, static_call, call_rules, class_value, class_is_reference}
use Rattle.accepted_nodes.proofs.TypeBreaks.{right_call}
use Rattle.accepted_nodes.proofs.TypesComplete.{unbroken, ValueAt, value_at, of_expression, same_first, of_class, receiver_cases}
use Rattle.accepted_facts.proofs.AccessFacts.{operand_at, type_of_value, scope_of_value, class_judged, int_judged}
use Rattle.accepted_facts.proofs.JudgedValues.{judged}
use Rattle.scope_flow.specs.ValueFacts.{HasValue}
use Rattle.scope_flow.specs.CallFacts.{ReceiverIs}
use Rattle.flow_facts.proofs.CallParts.{CallParts, call_parts}
use Rattle.flow_facts.proofs.Literals.{value_of, object_of_own}
use Rattle.flow_facts.proofs.TextArguments.{text_or_expression, mapped, and_true}

-- ---- types that a parameter of the framework takes

pub int_taken : (rows : List ClassRow) (t : Ty) → assigns rows t Int ≡ true → t ≡ Int
unfolding assigns are_same is_reference
int_taken rows Int e = refl
int_taken rows (ClassTy c) e = absurd (true≢false (sym e))
int_taken rows NullTy e = absurd (true≢false (sym e))
int_taken rows _ e = absurd (true≢false (sym e))

pub label_taken : (rows : List ClassRow) (t : Ty) → assigns rows t Label ≡ true → t ≡ Label
unfolding assigns are_same is_reference
label_taken rows Label e = refl
label_taken rows (ClassTy c) e = absurd (true≢false (sym e))
label_taken rows NullTy e = absurd (true≢false (sym e))
label_taken rows _ e = absurd (true≢false (sym e))

pub class_taken : (rows : List ClassRow) (t : Ty) (c : ℕ) → assigns rows t (ClassTy c) ≡ true → is_reference t ≡ true
unfolding assigns are_same is_reference
class_taken rows NullTy c e = refl
class_taken rows (ClassTy a) c e = refl
class_taken rows IntArray c e = refl
class_taken rows BoolArray c e = refl
class_taken rows (ClassArray a) c e = refl
class_taken rows _ c e = absurd (true≢false (sym e))

module _ (forest : Forest) (accepted : IsAccepted forest) (whole : IsForest forest) (sorted : IsWellSorted forest.nodes)
  where
    abbrev p : Declarations
    p = declarations_of forest

    abbrev types : Types
    types = type_at_node p

    abbrev scopes : Scopes
    scopes = scope_at_node p

    -- ---- arguments

    -- each parameter takes its argument
    abbrev pub AllTaken : List ℕ → List Declared → Type 0
    AllTaken [] [] = Unit {0}
    AllTaken (x ∷ xs) (d ∷ ds) =
        ((t : Ty) × (types x ≡ Some t) × (holds (declared_type_of p d) (assigns p.classes t) ≡ true)) × AllTaken xs ds
    AllTaken [] (d ∷ ds) = ⊥
    AllTaken (x ∷ xs) [] = ⊥

    pub all_taken : (xs : List ℕ) (ts : List Ty) (ds : List Declared) → all_types types xs ≡ Some ts →
        accepts_arguments p ds ts ≡ true → AllTaken xs ds
    unfolding all_types accepts_arguments
    all_taken [] ts [] e a = tt
    all_taken [] ts (d ∷ ds) e a = absurd (true≢false (sym (ap (accepts_arguments p (d ∷ ds)) (some_inj [] ts e) ∙ a)))
    all_taken (x ∷ xs) ts [] e a =
        absurd (
        let t = of_option (types x) (λ t. option_map (λ ts. t ∷ ts) (all_types types xs)) ts e in
        let q = mapped (all_types types xs) t.0 ts t.2 in true≢false (sym (ap (accepts_arguments p []) q.2 ∙ a)))
    all_taken (x ∷ xs) ts (d ∷ ds) e a =
        let t = of_option (types x) (λ t. option_map (λ ts. t ∷ ts) (all_types types xs)) ts e in
        let q = mapped (all_types types xs) t.0 ts t.2 in
        let parts = and_true (holds (declared_type_of p d) (assigns p.classes t.0)) (accepts_arguments p ds q.0)
        (ap (accepts_arguments p (d ∷ ds)) q.2 ∙ a) in
        ((t.0, t.1, parts.0), all_taken xs q.0 ds q.1 parts.1)

    -- two arguments, and one
    pub record Two (xs : List ℕ) (d e : Declared) : Type 0 where
      pub first : ℕ
      pub second : ℕ
      pub are : xs ≡ first ∷ (second ∷ [])
      pub t : Ty
      pub u : Ty
      pub first_typed : types first ≡ Some t
      pub second_typed : types second ≡ Some u
      pub first_taken : holds (declared_type_of p d) (assigns p.classes t) ≡ true
      pub second_taken : holds (declared_type_of p e) (assigns p.classes u) ≡ true

    pub two : (xs : List ℕ) (d e : Declared) → AllTaken xs (d ∷ (e ∷ [])) → Two xs d e
    two [] d e h = absurd h
    two (x ∷ []) d e h = absurd h.1
    two (x ∷ (y ∷ [])) d e h =
        let a = h.0 in
        let b = h.1.0 in
        record {
          first = x;
          second = y;
          are = refl;
          t = a.0;
          u = b.0;
          first_typed = a.1;
          second_typed = b.1;
          first_taken = a.2;
          second_taken = b.2;
        }
    two (x ∷ (y ∷ (z ∷ zs))) d e h = absurd h.1.1

    pub record One (xs : List ℕ) (d : Declared) : Type 0 where
      pub first : ℕ
      pub are : xs ≡ first ∷ []
      pub t : Ty
      pub first_typed : types first ≡ Some t
      pub first_taken : holds (declared_type_of p d) (assigns p.classes t) ≡ true

    pub one : (xs : List ℕ) (d : Declared) → AllTaken xs (d ∷ []) → One xs d
    one [] d h = absurd h
    one (x ∷ []) d h = (let a = h.0 in record { first = x; are = refl; t = a.0; first_typed = a.1; first_taken = a.2 })
    one (x ∷ (y ∷ ys)) d h = absurd h.1

    pub first_among : (x : ℕ) (xs ys : List ℕ) → ys ≡ x ∷ xs → is_among x ys ≡ true
    first_among x xs ys e = ap (is_among x) e ∙ or_left (x == x) (is_among x xs) (is_same_number x x refl)

    pub second_among : (x y : ℕ) (xs ys : List ℕ) → ys ≡ x ∷ (y ∷ xs) → is_among y ys ≡ true
    second_among x y xs ys e = ap (is_among y) e
        ∙ or_right (y == x) _ (or_left (y == y) (is_among y xs) (is_same_number y y refl))

    -- ---- what arguments are

    module _ (b c id : ℕ) (name : List ℕ) (object : Option ℕ) (arguments : List ℕ)
        (x : CallParts forest accepted whole sorted b c id name object arguments) where
      pub number_argument : (y : ℕ) (t : Ty) (d : Declared) → is_among y arguments ≡ true → types y ≡ Some t →
          declared_type_of p d ≡ Some Int → holds (declared_type_of p d) (assigns p.classes t) ≡ true →
          HasValue p b c id y (Some number)
      number_argument y t d among e k h =
          let is_int : t ≡ Int = int_taken p.classes t (sym (ap (λ (o : Option Ty). holds o (assigns p.classes t)) k) ∙ h)
          in
          value_of p b c id y number
          (x.operands y number among (int_judged forest accepted whole sorted y (e ∙ ap (λ t. Some t) is_int)))

      reference_judged : (y : ℕ) (t : Ty) → types y ≡ Some t → is_reference t ≡ true → HasScope (scopes y) →
          (u : Ty) × (s : Scope) × Judged p y (Some (reference u s))
      unfolding is_reference kind_of Judged
      reference_judged y NullTy e k h = (NullTy, Any, ap (λ (o : Option Ty). kind_of o (scopes y)) e)
      reference_judged y (ClassTy c) e k h =
          (ClassTy c, h.0, ap (λ (o : Option Ty). kind_of o (scopes y)) e ∙ ap (kind_of (Some (ClassTy c))) h.1)
      reference_judged y IntArray e k h =
          (IntArray, h.0, ap (λ (o : Option Ty). kind_of o (scopes y)) e ∙ ap (kind_of (Some IntArray)) h.1)
      reference_judged y BoolArray e k h =
          (BoolArray, h.0, ap (λ (o : Option Ty). kind_of o (scopes y)) e ∙ ap (kind_of (Some BoolArray)) h.1)
      reference_judged y (ClassArray c) e k h =
          (ClassArray c, h.0, ap (λ (o : Option Ty). kind_of o (scopes y)) e ∙ ap (kind_of (Some (ClassArray c))) h.1)
      reference_judged y _ e k h = absurd (true≢false (sym k))

      pub record ReferenceArgument (y : ℕ) : Type 0 where
        pub type : Ty
        pub scope : Scope
        pub is : HasValue p b c id y (Some (reference type scope))
        pub judgement : Judged p y (Some (reference type scope))
        pub scoped : HasScope (scopes y)

      pub reference_argument : (y : ℕ) (t : Ty) → is_among y arguments ≡ true → types y ≡ Some t → is_reference t ≡ true →
          ReferenceArgument y
      reference_argument y t among e k =
          let h = scope_of_value forest accepted whole sorted b c id y t (x.values y among) e k in
          let q = reference_judged y t e k h in
          record {
            type = q.0;
            scope = q.1;
            is = value_of p b c id y (reference q.0 q.1)
                (x.operands y (reference q.0 q.1) among q.2);
            judgement = q.2;
            scoped = h;
          }

      label_not_judged : (y : ℕ) (o : Option Kind) → types y ≡ Some Label → Judged p y o → ⊥
      unfolding Judged kind_of
      label_not_judged y None e j = (let f : Label ≡ Void = some_inj Label Void (sym e ∙ j) in cc (f))
      label_not_judged y (Some k) e j =
          (let z : None ≡ Some k = sym (ap (λ (o : Option Ty). kind_of o (scopes y)) e) ∙ j in cc (z))

      pub text_argument : (y : ℕ) → is_among y arguments ≡ true → types y ≡ Some Label → (position : Position) × (text : List ℕ) ×
          (slice_get forest.nodes y ≡ Some (Text position text))
      text_argument y among e =
          let v = x.values y among in
          let w = v.value in
          elim (text_or_expression v.node w.is_argument) as
          (λ z. (position : Position) × (text : List ℕ) × (slice_get forest.nodes y ≡ Some (Text position text))) [
            | inl k ↦ absurd (let j = judged forest accepted whole sorted b c y v.node v.is_there v.inside w k in
                label_not_judged y j.0 e j.1)
            | inr q ↦ (q.0, q.1, v.is_there ∙ ap (λ n. Some n) q.2)
          ]

    -- ---- receivers

    -- T13: a method of the own object is called where there is one
    own_called : (id class : ℕ) (name : List ℕ) (f : FoundMethod) → called_method p (own_object class) name ≡ Some f →
        f.method.declared.modifiers.is_static ≡ false → lacks_method p (own_object class) name ≡ false →
        lacks_object_of_method p id name (own_object class) ≡ false → not (has_object p id) ≡ false
    unfolding names_class is_value
    own_called id class name f m plain l e =
        first (not (has_object p id)) _
        (ap
        (λ t. not t && holds (called_method p (own_object class) name)
        (λ (f : FoundMethod). not f.method.declared.modifiers.is_static)) l
        ∙ ap (λ (o : Option FoundMethod). holds o (λ (f : FoundMethod). not f.method.declared.modifiers.is_static)) m
        ∙ ap not plain) e
      where
        first : (a b : Bool) → b ≡ true → (a && b) ≡ false → a ≡ false
        first true b h e = absurd (true≢false (sym h ∙ e))
        first false b h e = refl

    -- the object on which a method that isn't static is called
    pub record CalledOn (b c id : ℕ) (object : Option ℕ) (name : List ℕ) (f : FoundMethod) : Type 0 where
      pub class : ℕ
      pub scope : Scope
      pub receiver_is : ReceiverIs p b c id object class scope
      pub named : method_named p.classes class name ≡ Some f

    pub called_on_object : (b c id : ℕ) (position : Position) (name : List ℕ) (object : Option ℕ) (arguments : List ℕ)
        (f : FoundMethod) → slice_get forest.nodes id ≡ Some (Call position name object arguments) → Inside p b c id →
        method_called p types id object name ≡ Some f → f.method.declared.modifiers.is_static ≡ false →
        CalledOn b c id object name f
    unfolding children is_argument is_expression object_of takes_parts HasRightChildren declared_before call_receiver
        class_of_receiver object_of_own
    called_on_object b c id position name None arguments f there inside method plain =
        let x = call_parts forest accepted whole sorted b c id position name None arguments there inside in
        let e : call_receiver p types id None ≡ Some (own_object c) =
        ap (option_map (λ class. own_object class)) inside.class in
        let m : called_method p (own_object c) name ≡ Some f = sym (ap (option_and_then (λ r. called_method p r name)) e)
        ∙ method in
        let w =
        right_call p types id position name None arguments
        (unbroken forest accepted whole sorted id (Call position name None arguments) there) in
        let rules = call_rules forest accepted whole sorted id name None arguments (own_object c) x.ts e x.typed w in
        let h = this_has_scope forest accepted whole sorted c in
        let own : OwnObject p b c =
        record {
          has_object = has_object_static p id b inside.member
              (own_called id c name f m plain rules.has_method rules.has_object);
          home = h.0;
          is_home = h.1;
        } in
        record { class = c; scope = h.0; receiver_is = (object_of_own p b c own, refl, refl); named = m }
    called_on_object b c id position name (Some object) arguments f there inside method plain =
        let node : Node = Call position name (Some object) arguments in
        let s = sorted.each id node there in
        let o = of_expression forest accepted whole sorted object s.0 in
        let x = call_parts forest accepted whole sorted b c id position name (Some object) arguments there inside in
        let at : class_at_name p object o.node ≡ None → ValueAt forest accepted whole sorted b c id object =
        λ k. value_at forest accepted whole sorted b c id node there inside refl object
        (same_first forest accepted whole sorted object arguments) o k refl in
        let w =
        right_call p types id position name (Some object) arguments (unbroken forest accepted whole sorted id node there)
        in
        elim (receiver_cases forest accepted whole sorted object o.node o.is_there
        (λ k. type_of_value forest accepted whole sorted b c id object (at k))) as
        (λ z. CalledOn b c id (Some object) name f) [
          | inl q ↦ absurd (
              let m : called_method p (the_class q.0) name ≡ Some f =
              sym (ap (option_and_then (λ r. called_method p r name)) q.2) ∙ method in
              let rules = call_rules forest accepted whole sorted id name (Some object) arguments
              (the_class q.0) x.ts q.2 x.typed w in
              true≢false (sym (static_call forest accepted whole sorted id q.0 name f m rules.has_method rules.has_object)
              ∙ plain))
          | inr q ↦ (
              let m : called_method p (the_value q.0) name ≡ Some f =
              sym (ap (option_and_then (λ r. called_method p r name)) q.3) ∙ method in
              let v = at q.1 in
              let k = of_class (class_of_receiver (the_value q.0)) (λ class. method_named p.classes class name) f m in
              let same = class_value forest accepted whole sorted q.0 k.0 k.1 in
              let h = scope_of_value forest accepted whole sorted b c id object q.0 v q.2
              (class_is_reference forest accepted whole sorted q.0 k.0 same) in
              record {
                class = k.0;
                scope = h.0;
                receiver_is =
                    value_of p b c id object (reference (ClassTy k.0) h.0)
                    (operand_at forest accepted whole sorted b c id object node (reference (ClassTy k.0) h.0) there
                    (same_first forest accepted whole sorted object arguments) refl v
                    (class_judged forest accepted whole sorted object k.0 h.0 (q.2 ∙ ap (λ t. Some t) same) h.1));
                named = k.2;
              })
        ]
