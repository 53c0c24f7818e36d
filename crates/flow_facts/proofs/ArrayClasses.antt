-- The classes of arrays: their numbers, what their elements hold, and where their arrays lie.
use Rattle.std.proofs.Common.{◌≡◌, ℕ, zero, suc, ◌+◌, ◌-◌, ◌<◌, ◌≤◌, nat_lt, List, [], ◌∷◌, ◌++◌, length, length-append, map, flat_map, refl, sym, ap, ◌∙◌, subst, arith, Option, Some, None, Bool, true, false, not, ◌&&◌, ◌||◌, ◌==◌, inl, inr, option_and_then, option_map, slice_get, if◌then◌else◌}
use Rattle.std.proofs.lemmas.Bool.{lt-ltb, le-ltb}
use Rattle.scj_builtins.specs.declared.classes.FrameworkClass.{FrameworkClass}
use Rattle.scj_builtins.specs.Framework.{framework_class_count, framework_classes, safelet, mission, mission_sequencer}
use Rattle.scj_tree.specs.Forest.{Forest}
use Rattle.scj_rules.specs.declared.scopes.ClassScope.{ClassScope}
use Rattle.scj_rules.specs.declared.scopes.ClassScope.TheVariants.{Unannotated as unannotated, Annotated as annotated, Missing as scopeless}
use Rattle.scj_rules.specs.declared.typing.Scope.{Scope}
use Rattle.scj_rules.specs.declared.typing.Scope.TheVariants.{This, In}
use Rattle.scj_rules.specs.declared.typing.Ty.{Ty}
use Rattle.scj_rules.specs.declared.typing.Ty.TheVariants.{Int, Bool as Boolean, Class as ClassTy, IntArray, BoolArray, ClassArray}
use Rattle.scj_rules.specs.declared.views.SlotKind.{SlotKind}
use Rattle.scj_rules.specs.declared.views.SlotKind.TheVariants.{Number as NumberSlot, Truth as TruthSlot, Reference as ReferenceSlot}
use Rattle.scj_rules.specs.declared.views.WrittenType.{WrittenType}
use Rattle.scj_rules.specs.declared.views.WrittenType.TheVariants.{Class as class_type, ClassArray as class_array}
use Rattle.scj_rules.specs.Words.{is_among, chain}
use Rattle.scj_rules.specs.Views.{WrittenClass}
use Rattle.scj_rules.specs.Bindings.{array_class}
use Rattle.scj_rules.specs.Classes.{ClassRow, is_user_class, class_names, user_classes, class_number, superclass_in, superclasses, interfaces_in, all_interfaces}
use Rattle.scj_rules.specs.Contexts.{Declarations, declarations_of}
use Rattle.scj_rules.specs.Layout.{element_kind, class_of_elements, first_array_class}
use Rattle.scj_rules.specs.ScopeRules.{immortal_scope, is_outer, scope_written_in}
use Rattle.scj_rules.specs.StaticScopes.{is_implied_immortal, has_unknown_scope, differs_from_above, scope_of_right_class, class_scope_on, class_scope_under, class_scope, scope_or, this_in}
use Rattle.scj_rules.specs.Types.{array_of, type_written}
use Rattle.scj_rules.specs.Phases.{IsAccepted}
use Rattle.scj_rules.proofs.ChainLemmas.{same_number, is_same_number}
use Rattle.accepted_laws.specs.Kinds.{Kind, number, truth, reference}
use Rattle.accepted_laws.proofs.Subtypes.{some_classes}
use Rattle.accepted_laws.proofs.Tools.{some_inj}
use Rattle.accepted_facts.proofs.ClassBounds.{names_and_classes}
use Rattle.scope_flow.specs.Slots.{array_type, array_type_by, kind_of_elements, kind_of_own_slot, kind_of_slot}
use Rattle.scope_flow.specs.Signatures.{LiesHere, LiesAround, SlotsReach}

pub differ : (a b : ℕ) → (a ≡ b → ⊥) → (a == b) ≡ false
differ a b n = go (a == b) refl
  where
    go : (t : Bool) → (a == b) ≡ t → (a == b) ≡ false
    go false e = e
    go true e = absurd (n (same_number a b e))

-- ---- classes of arrays

pub record IsArrayClass (p : Declarations) (of : Ty) (array : Ty) : Type 0 where
  pub class : ℕ
  pub numbered : array_class p array ≡ Some class
  pub behind : length p.names ≤ class
  pub slot : SlotKind
  pub elements : element_kind p class ≡ Some slot
  pub is_type : array_type p class ≡ Some array

-- the class of the elements, where they are of a class
abbrev pub NamesClass : Declarations → Ty → Type 0
NamesClass p of = (c : ℕ) → of ≡ ClassTy c → c < length p.names

module _ (p : Declarations) where
  abbrev n : ℕ
  n = length p.names

  abbrev rest : ℕ → Option SlotKind
  rest class =
      if class == first_array_class p + 1 then Some TruthSlot
      else (if nat_lt class (first_array_class p + 2 + length p.names) then Some ReferenceSlot else None)

  abbrev by_first : ℕ → Option SlotKind
  by_first class = if class == first_array_class p then Some NumberSlot else rest class

  of_ints : element_kind p n ≡ Some NumberSlot
  unfolding element_kind
  of_ints = ap (λ t. if t then None else by_first n) (le-ltb n n (omega arith))
      ∙ ap (λ t. if t then Some NumberSlot else rest n) (is_same_number n n refl)

  of_truths : element_kind p (n + 1) ≡ Some TruthSlot
  unfolding element_kind
  of_truths =
      ap (λ t. if t then None else by_first (n + 1)) (le-ltb (n + 1) n (omega arith))
      ∙ ap (λ t. if t then Some NumberSlot else rest (n + 1)) (differ (n + 1) n (λ e. omega (arith, e)))
      ∙ ap (λ t. if t then Some TruthSlot else (if nat_lt (n + 1) (n + 2 + n) then Some ReferenceSlot else None))
      (is_same_number (n + 1) (n + 1) refl)

  of_references : (c : ℕ) → c < n → element_kind p (n + 2 + c) ≡ Some ReferenceSlot
  unfolding element_kind
  of_references c l =
      ap (λ t. if t then None else by_first (n + 2 + c)) (le-ltb (n + 2 + c) n (omega arith))
      ∙ ap (λ t. if t then Some NumberSlot else rest (n + 2 + c)) (differ (n + 2 + c) n (λ e. omega (arith, e)))
      ∙ ap (λ t. if t then Some TruthSlot else (if nat_lt (n + 2 + c) (n + 2 + n) then Some ReferenceSlot else None))
      (differ (n + 2 + c) (n + 1) (λ e. omega (arith, e)))
      ∙ ap (λ t. if t then Some ReferenceSlot else None) (lt-ltb (n + 2 + c) (n + 2 + n) (omega (arith, l)))

  elements_class : (c : ℕ) → c < n → class_of_elements p (n + 2 + c) ≡ Some c
  unfolding class_of_elements
  elements_class c l =
      let k : (n + 2 + c) - (n + 2) ≡ c = omega arith in
      ap (λ t. if t || not (nat_lt (n + 2 + c) (n + 2 + n)) then None else Some ((n + 2 + c) - (n + 2)))
      (le-ltb (n + 2 + c) (n + 2) (omega arith))
      ∙ ap (λ t. if not t then None else Some ((n + 2 + c) - (n + 2)))
      (lt-ltb (n + 2 + c) (n + 2 + n) (omega (arith, l)))
      ∙ ap (λ m. Some m) k

  pub array_class_is : (of array : Ty) → array_of of ≡ Some array → NamesClass p of → IsArrayClass p of array
  unfolding array_of array_class array_type array_type_by
  array_class_is Int array e h =
      subst (IsArrayClass p Int) (some_inj IntArray array e)
      (record {
        class = n;
        numbered = refl;
        behind = omega arith;
        slot = NumberSlot;
        elements = of_ints;
        is_type = ap
            (option_and_then (array_type_by p n)) of_ints;
      })
  array_class_is Boolean array e h =
      subst (IsArrayClass p Boolean) (some_inj BoolArray array e)
      (record {
        class = n + 1;
        numbered = refl;
        behind = omega arith;
        slot = TruthSlot;
        elements = of_truths;
        is_type = ap (option_and_then (array_type_by p (n + 1))) of_truths;
      })
  array_class_is (ClassTy c) array e h =
      let l : c < n = h c refl in
      subst (IsArrayClass p (ClassTy c)) (some_inj (ClassArray c) array e)
      (record {
        class = n + 2 + c;
        numbered = refl;
        behind = omega arith;
        slot = ReferenceSlot;
        elements = of_references c l;
        is_type = ap (option_and_then (array_type_by p (n + 2 + c))) (of_references c l)
            ∙ ap (option_map (λ c. ClassArray c)) (elements_class c l);
      })
  array_class_is _ array e h = absurd (cc (e))

  -- a written type of a class names it
  pub names_class : (w : WrittenType) (c : ℕ) → type_written p.names w ≡ Some (ClassTy c) → (name : List ℕ) ×
      (class_number p.names name ≡ Some c)
  unfolding type_written
  names_class (class_type name) c e = go (class_number p.names name) refl e
    where
      go : (o : Option ℕ) → class_number p.names name ≡ o → option_map (λ class. ClassTy class) o ≡ Some (ClassTy c) →
          (name : List ℕ) × (class_number p.names name ≡ Some c)
      go None k e = absurd (cc (e))
      go (Some d) k e =
          (name, k ∙ ap (λ d. Some d) (let f : ClassTy d ≡ ClassTy c = some_inj (ClassTy d) (ClassTy c) e in cc (f)))
  names_class (class_array name) c e = absurd (go (class_number p.names name) e)
    where
      go : (o : Option ℕ) → option_map (λ class. ClassArray class) o ≡ Some (ClassTy c) → ⊥
      go None e = cc (e)
      go (Some d) e = (let f : ClassArray d ≡ ClassTy c = some_inj (ClassArray d) (ClassTy c) e in cc (f))
  names_class _ c e = absurd (cc (e))

-- ---- where arrays lie

get_none : {A : Type 0} (xs : List A) (k : ℕ) → length xs ≤ k → slice_get xs k ≡ None
get_none [] k l = refl
get_none (x ∷ xs) zero l = absurd (omega (arith, l))
get_none (x ∷ xs) (suc k) l = get_none xs k (omega (arith, l))

chain_one : (next : ℕ → Option ℕ) (n a : ℕ) → 0 < n → next a ≡ None → chain next n a ≡ a ∷ []
unfolding chain
chain_one next zero a l e = absurd (omega (arith, l))
chain_one next (suc n) a l e =
    ap (λ (o : Option ℕ). a ∷ (elim o as (λ _. List ℕ) [ None ↦ [] | Some b ↦ chain next n b ])) e

and_no : (t : Bool) → (t && false) ≡ false
and_no true = refl
and_no false = refl

module _ (forest : Forest) (accepted : IsAccepted forest) where
  abbrev q : Declarations
  q = declarations_of forest

  -- there are the classes of the framework
  sixteen : framework_class_count ≤ length q.classes
  unfolding declarations_of class_names framework_classes
  sixteen =
      let e : length q.names ≡ 16 + length (map (λ (c : WrittenClass). c.name) (user_classes forest)) =
      length-append (map (λ (c : FrameworkClass). c.name) framework_classes)
      (map (λ (c : WrittenClass). c.name) (user_classes forest)) in
      let s = names_and_classes forest in
      omega (arith, e, s)

  pub alone : (class : ℕ) → length q.classes ≤ class → superclasses q.classes class ≡ class ∷ []
  unfolding superclasses
  alone class l =
      chain_one (superclass_in q.classes) (length q.classes) class (some_classes forest accepted)
      (ap (λ (o : Option ClassRow). option_and_then (λ (row : ClassRow). row.superclass) o)
      (get_none q.classes class l))

  not_implied : (class : ℕ) → length q.classes ≤ class → is_implied_immortal q class ≡ false
  unfolding is_implied_immortal all_interfaces
  not_implied class l =
      let many = sixteen in
      ap (λ xs. is_user_class class
      && (is_among mission xs
      || (is_among mission_sequencer xs || is_among safelet (flat_map (interfaces_in q.classes) xs))))
      (alone class l)
      ∙ ap (λ t. is_user_class class
      && ((t || false)
      || (((mission_sequencer == class) || false) || is_among safelet (interfaces_in q.classes class ++ []))))
      (differ mission class (λ e. omega (arith, e, l, many)))
      ∙ ap (λ t. is_user_class class && ((t || false) || is_among safelet (interfaces_in q.classes class ++ [])))
      (differ mission_sequencer class (λ e. omega (arith, e, l, many)))
      ∙ ap (λ (o : Option ClassRow). is_user_class class
      && is_among safelet ((elim o as (λ _. List ℕ) [ None ↦ [] | Some row ↦ row.interfaces ]) ++ []))
      (get_none q.classes class l)
      ∙ and_no (is_user_class class)

  -- what is no class is unannotated
  unannotated_array : (class : ℕ) → length q.classes ≤ class → class_scope q class ≡ unannotated
  unfolding class_scope class_scope_on class_scope_under scope_written_in differs_from_above scope_of_right_class
  unannotated_array class l =
      let w : scope_written_in q class ≡ None =
      ap (λ (o : Option ClassRow). option_and_then (λ (c : WrittenClass). c.modifiers.scope)
      (option_and_then (λ (row : ClassRow). row.written) o)) (get_none q.classes class l) in
      ap (class_scope_on q) (alone class l)
      ∙ ap (λ w. if has_unknown_scope q w
      || differs_from_above q w unannotated (is_implied_immortal q class) then scopeless else scope_of_right_class q w
      unannotated (is_implied_immortal q class)) w
      ∙ ap (λ t. if t then annotated immortal_scope else unannotated) (not_implied class l)

  pub array_lies : (class : ℕ) (now : Scope) → length q.classes ≤ class → LiesHere q class now
  unfolding this_in
  array_lies class now l home e =
      inl (sym (some_inj This home (sym (ap (λ s. scope_or s (Some This)) (unannotated_array class l)) ∙ e)))

  -- what an element's slot names lies around the current scope
  slots_of_type : (array : Ty) (now : Scope) →
      ((c s : ℕ) → array ≡ ClassArray c → class_scope q c ≡ annotated s → (current : ℕ) × (now ≡ In current) ×
      (is_outer q s current ≡ true)) → (t : Ty) (n : ℕ) → kind_of_elements q array ≡ Some (reference t (In n)) →
      LiesAround q n now
  unfolding kind_of_elements this_in
  slots_of_type IntArray now h t n e =
      absurd (let f : number ≡ reference t (In n) = some_inj number (reference t (In n)) e in cc (f))
  slots_of_type BoolArray now h t n e =
      absurd (let f : truth ≡ reference t (In n) = some_inj truth (reference t (In n)) e in cc (f))
  slots_of_type (ClassArray c) now h t n e = go (class_scope q c) refl e
    where
      go : (s : ClassScope) → class_scope q c ≡ s → option_map (λ r. reference (ClassTy c) r) (scope_or s (Some This))
          ≡ Some (reference t (In n)) → LiesAround q n now
      go unannotated k e =
          absurd (let f : reference (ClassTy c) This ≡ reference t (In n) = some_inj _ _ e in
          let g : This ≡ In n = cc (f) in cc (g))
      go (annotated m) k e =
          let f : reference (ClassTy c) (In m) ≡ reference t (In n) = some_inj _ _ e in
          let g : In m ≡ In n = cc (f) in
          let same : m ≡ n = cc (g) in inr (h c n refl (k ∙ ap (λ m. annotated m) same))
      go scopeless k e = absurd (cc (e))
  slots_of_type _ now h t n e = absurd (cc (e))

  pub array_reaches : (class : ℕ) (array : Ty) (now : Scope) → array_type q class ≡ Some array →
      ((c s : ℕ) → array ≡ ClassArray c → class_scope q c ≡ annotated s → (current : ℕ) × (now ≡ In current) ×
      (is_outer q s current ≡ true)) → SlotsReach q class now
  unfolding kind_of_slot
  array_reaches class array now a h slot t n e =
      slots_of_type array now h t n
      (sym
      (ap
      (λ (o : Option Ty). elim o as (λ _. Option Kind) [
        | None ↦ kind_of_own_slot q class slot
        | Some t ↦ kind_of_elements q t
      ]) a) ∙ e)
