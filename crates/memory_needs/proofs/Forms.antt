-- The storage in a form is the last of the arguments.
use Rattle.std.specs.Prelude.{Option, Some, None, slice_get, option_map, if◌then◌else◌, not}
use Rattle.std.proofs.Common.{◌≡◌, ℕ, List, [], ◌∷◌, Bool, true, false, ◌==◌, ◌&&◌, refl, sym, ◌∙◌, ap}
use Rattle.scj_builtins.specs.Framework.{mission_sequencer}
use Rattle.scj_rules.specs.Classes.{superclass_in}
use Rattle.scj_rules.specs.Contexts.{Declarations}
use Rattle.scj_rules.specs.Definitions.{read}
use Rattle.scj_rules.specs.Words.{◌>>=◌}
use Rattle.scj_rules.specs.Types.{have_priority_and_storage, release_part, form_parts, has_form, super_call_in, form_in}
use Rattle.memory_needs.specs.Causes.{class_with_form, only_argument, storage_node}
use Rattle.memory_needs.specs.Formed.{IsFormed, storage_argument}

module _ (p : Declarations) where
  second_part : (superclass : ℕ) (arguments parts : List ℕ) → form_parts p superclass arguments ≡ Some parts →
      slice_get parts 1 ≡ storage_argument arguments
  unfolding form_parts storage_argument
  second_part superclass [] parts e = absurd (cc (e))
  second_part superclass (a ∷ []) parts e = absurd (cc (e))
  second_part superclass (a ∷ b ∷ []) parts e =
      of ((superclass == mission_sequencer) && have_priority_and_storage p a b) e
    where
      of : (t : Bool) → (if t then Some (a ∷ b ∷ []) else None) ≡ Some parts → slice_get parts 1 ≡ Some b
      of true q = (let s : a ∷ b ∷ [] ≡ parts = cc (q) in ap (λ xs. slice_get xs 1) (sym s))
      of false q = absurd (cc (q))
  second_part superclass (a ∷ r ∷ b ∷ []) parts e =
      of (not (superclass == mission_sequencer) && have_priority_and_storage p a b) (release_part p superclass r) e
    where
      of : (t : Bool) (o : Option (List ℕ)) →
          (if t then option_map (λ xs. a ∷ b ∷ xs) o else None) ≡ Some parts → slice_get parts 1 ≡ Some b
      of true None q = absurd (cc (q))
      of true (Some xs) q = (let s : a ∷ b ∷ xs ≡ parts = cc (q) in ap (λ ys. slice_get ys 1) (sym s))
      of false o q = absurd (cc (q))
  second_part superclass (a ∷ r ∷ b ∷ d ∷ more) parts e = absurd (cc (e))

  pub storage_in : (class : ℕ) (parts : List ℕ) → form_in p class ≡ Some parts →
      slice_get parts 1 ≡ (super_call_in p class >>= storage_argument)
  unfolding form_in
  storage_in class parts e = of (superclass_in p.classes class) e
    where
      by_call : (superclass : ℕ) (o : Option (List ℕ)) → (o >>= form_parts p superclass) ≡ Some parts →
          slice_get parts 1 ≡ (o >>= storage_argument)
      by_call superclass None q = absurd (cc (q))
      by_call superclass (Some arguments) q = second_part superclass arguments parts q

      by_form : (superclass : ℕ) (t : Bool) →
          (if t then super_call_in p class >>= form_parts p superclass else None) ≡ Some parts →
          slice_get parts 1 ≡ (super_call_in p class >>= storage_argument)
      by_form superclass true q = by_call superclass (super_call_in p class) q
      by_form superclass false q = absurd (cc (q))

      of : (o : Option ℕ) →
          (o >>= (λ superclass. if has_form superclass then super_call_in p class >>= form_parts p superclass else None))
          ≡ Some parts → slice_get parts 1 ≡ (super_call_in p class >>= storage_argument)
      of None q = absurd (cc (q))
      of (Some superclass) q = by_form superclass (has_form superclass) q

  -- so it is found by the arguments alone
  pub storage_is : (class : ℕ) → IsFormed p class →
      storage_node p class
      ≡ (class_with_form p class >>= (λ c. super_call_in p c >>= storage_argument) >>= read p.nodes only_argument)
  unfolding storage_node
  storage_is class f = of (class_with_form p class) refl
    where
      of : (o : Option ℕ) → class_with_form p class ≡ o →
          (o >>= form_in p >>= (λ parts. slice_get parts 1) >>= read p.nodes only_argument)
          ≡ (o >>= (λ c. super_call_in p c >>= storage_argument) >>= read p.nodes only_argument)
      of None e = refl
      of (Some c) e =
          (let h = f.formed c e in
          ap (λ (o : Option (List ℕ)). o >>= (λ parts. slice_get parts 1) >>= read p.nodes only_argument) h.1
          ∙ ap (λ (o : Option ℕ). o >>= read p.nodes only_argument) (storage_in c h.0 h.1))

-- where it is found, the class is formed
pub stored_formed : (p : Declarations) (class number : ℕ) → storage_node p class ≡ Some number → IsFormed p class
unfolding storage_node
stored_formed p class number e = record { formed = λ c h. of c h (form_in p c) refl }
  where
    of : (c : ℕ) → class_with_form p class ≡ Some c → (o : Option (List ℕ)) → form_in p c ≡ o →
        (parts : List ℕ) × (form_in p c ≡ Some parts)
    of c h (Some parts) q = (parts, q)
    of c h None q =
        absurd (let a : (class_with_form p class >>= form_in p >>= (λ parts. slice_get parts 1) >>= read p.nodes only_argument)
        ≡ None =
        ap (λ (o : Option ℕ). o >>= form_in p >>= (λ parts. slice_get parts 1) >>= read p.nodes only_argument) h
        ∙ ap (λ (o : Option (List ℕ)). o >>= (λ parts. slice_get parts 1) >>= read p.nodes only_argument) q in
        cc (a, e))
