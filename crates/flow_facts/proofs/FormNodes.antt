-- The parts of a framework's form are new objects.
use Rattle.std.proofs.Common.{◌≡◌, ℕ, List, [], ◌∷◌, refl, sym, ap, ◌∙◌, subst, Option, Some, None, Bool, true, false, not, ◌&&◌, ◌==◌, true≢false, inl, inr, option_and_then, option_map, is_some, slice_get, if◌then◌else◌}
use Rattle.scj_builtins.specs.Framework.{mission_sequencer, periodic_handler, priority_parameters, periodic_parameters, aperiodic_parameters, storage_parameters, relative_time}
use Rattle.scj_tree.specs.declared.nodes.Node.{Node}
use Rattle.scj_tree.specs.declared.nodes.Node.TheVariants.{New}
use Rattle.scj_tree.specs.Forest.{Forest, IsForest}
use Rattle.scj_rules.specs.Definitions.{read}
use Rattle.scj_rules.specs.Words.{is_among, holds}
use Rattle.scj_rules.specs.Contexts.{Declarations, declarations_of, context}
use Rattle.scj_rules.specs.Types.{new_of, is_new, periodic_part, release_part, have_priority_and_storage, form_parts, form_in, is_form_part}
use Rattle.scj_rules.specs.Phases.{IsAccepted}
use Rattle.scj_rules.proofs.ChainLemmas.{or_cases, same_number}
use Rattle.accepted_laws.proofs.MethodNodes.{and_true}
use Rattle.accepted_laws.proofs.Tools.{some_inj}
use Rattle.accepted_nodes.proofs.FormParts.{bound, held, if_some, form_of}

unfoldable pub is_new_node : Node → Bool
is_new_node (New position name_position name arguments) = true
is_new_node _ = false

module _ (p : Declarations) where
  abbrev IsNew : ℕ → Type 0
  IsNew x = (node : Node) × (slice_get p.nodes x ≡ Some node) × (is_new_node node ≡ true)

  of_node : (class count x : ℕ) (node : Node) (arguments : List ℕ) → slice_get p.nodes x ≡ Some node →
      new_of p class count node ≡ Some arguments → IsNew x
  unfolding new_of is_new_node
  of_node class count x (New position name_position name list) arguments there e =
      (New position name_position name list, there, refl)
  of_node class count x _ arguments there e = absurd (cc (e))

  of_read : (class count x : ℕ) (arguments : List ℕ) → read p.nodes (new_of p class count) x ≡ Some arguments → IsNew x
  of_read class count x arguments e =
      (let a = bound (slice_get p.nodes x) (new_of p class count) arguments e in
      of_node class count x a.0 arguments a.1 a.2)

  of_test : (class count x : ℕ) → is_new p class count x ≡ true → IsNew x
  of_test class count x e = go (read p.nodes (new_of p class count) x) refl e
    where
      go : (o : Option (List ℕ)) → read p.nodes (new_of p class count) x ≡ o → is_some o ≡ true → IsNew x
      go None r e = absurd (true≢false (sym e))
      go (Some list) r e = of_read class count x list r

  same_as : (x y : ℕ) → (x == y) ≡ true → IsNew y → IsNew x
  same_as x y e n = subst IsNew (sym (same_number x y e)) n

  none_among : (x : ℕ) → is_among x [] ≡ true → IsNew x
  none_among x h = absurd (true≢false (sym h))

  abbrev AllNew : List ℕ → Type 0
  AllNew parts = (x : ℕ) → is_among x parts ≡ true → IsNew x

  one_more : (y : ℕ) (parts : List ℕ) → IsNew y → AllNew parts → AllNew (y ∷ parts)
  one_more y parts n h x k =
      elim (or_cases (x == y) (is_among x parts) k) as (λ z. IsNew x) [ inl e ↦ same_as x y e n | inr e ↦ h x e ]

  periodic_new : (id : ℕ) (arguments parts : List ℕ) → IsNew id → periodic_part p id arguments ≡ Some parts →
      AllNew parts
  unfolding periodic_part
  periodic_new id (start ∷ period ∷ []) parts n e =
      let a = if_some (is_new p relative_time 2 start && is_new p relative_time 2 period)
      (Some (id ∷ start ∷ period ∷ [])) parts e in
      let b = and_true (is_new p relative_time 2 start) (is_new p relative_time 2 period) a.0 in
      subst AllNew (some_inj (id ∷ start ∷ period ∷ []) parts a.1)
      (one_more id (start ∷ period ∷ []) n
      (one_more start (period ∷ []) (of_test relative_time 2 start b.0)
      (one_more period [] (of_test relative_time 2 period b.1) none_among)))
  periodic_new id _ parts n e = absurd (cc (e))

  release_new : (superclass id : ℕ) (parts : List ℕ) → release_part p superclass id ≡ Some parts → AllNew parts
  unfolding release_part
  release_new superclass id parts e = go (superclass == periodic_handler) e
    where
      go : (t : Bool) →
          (if t then option_and_then (periodic_part p id) (read p.nodes (new_of p periodic_parameters 2) id)
          else (if is_new p aperiodic_parameters 0 id then Some (id ∷ []) else None)) ≡ Some parts → AllNew parts
      go true e =
          (let a = bound (read p.nodes (new_of p periodic_parameters 2) id) (periodic_part p id) parts e in
          periodic_new id a.0 parts (of_read periodic_parameters 2 id a.0 a.1) a.2)
      go false e =
          let a = if_some (is_new p aperiodic_parameters 0 id) (Some (id ∷ [])) parts e in
          subst AllNew (some_inj (id ∷ []) parts a.1)
          (one_more id [] (of_test aperiodic_parameters 0 id a.0) none_among)

  both_new : (priority storage : ℕ) → have_priority_and_storage p priority storage ≡ true → IsNew priority ×
      IsNew storage
  both_new priority storage e =
      let b = and_true (is_new p priority_parameters 1 priority) (is_new p storage_parameters 1 storage) e in
      (of_test priority_parameters 1 priority b.0, of_test storage_parameters 1 storage b.1)

  parts_new : (superclass : ℕ) (arguments parts : List ℕ) → form_parts p superclass arguments ≡ Some parts →
      AllNew parts
  unfolding form_parts
  parts_new superclass (priority ∷ storage ∷ []) parts e =
      let a = if_some ((superclass == mission_sequencer) && have_priority_and_storage p priority storage)
      (Some (priority ∷ storage ∷ [])) parts e in
      let b =
      both_new priority storage
      (and_true (superclass == mission_sequencer) (have_priority_and_storage p priority storage) a.0).1 in
      subst AllNew (some_inj (priority ∷ storage ∷ []) parts a.1)
      (one_more priority (storage ∷ []) b.0 (one_more storage [] b.1 none_among))
  parts_new superclass (priority ∷ release ∷ storage ∷ []) parts e =
      let a = if_some (not (superclass == mission_sequencer) && have_priority_and_storage p priority storage)
      (option_map (λ parts. priority ∷ storage ∷ parts) (release_part p superclass release)) parts e in
      let b =
      both_new priority storage
      (and_true (not (superclass == mission_sequencer)) (have_priority_and_storage p priority storage) a.0).1 in
      mapped b (release_part p superclass release) refl a.1
    where
      mapped : IsNew priority × IsNew storage → (o : Option (List ℕ)) → release_part p superclass release ≡ o →
          option_map (λ (parts : List ℕ). priority ∷ storage ∷ parts) o ≡ Some parts → AllNew parts
      mapped b None r f = absurd (cc (f))
      mapped b (Some rest) r f =
          subst AllNew (some_inj _ parts f)
          (one_more priority (storage ∷ rest) b.0 (one_more storage rest b.1 (release_new superclass release rest r)))
  parts_new superclass _ parts e = absurd (cc (e))

module _ (forest : Forest) (accepted : IsAccepted forest) (whole : IsForest forest) where
  abbrev q : Declarations
  q = declarations_of forest

  -- what is no new object is no part of a form
  pub no_form_part : (id : ℕ) (node : Node) → slice_get q.nodes id ≡ Some node → is_new_node node ≡ false →
      is_form_part q id ≡ false
  unfolding is_form_part
  no_form_part id node there plain = go (is_form_part q id) refl
    where
      other : (n : Node) → slice_get q.nodes id ≡ Some n → is_new_node n ≡ true → ⊥
      other n e k = true≢false (sym k ∙ ap is_new_node (some_inj n node (sym e ∙ there)) ∙ plain)

      go : (t : Bool) → is_form_part q id ≡ t → is_form_part q id ≡ false
      go false e = e
      go true e =
          absurd (
          let a =
          and_true (context q id).in_super_call
          (holds (context q id).class (λ class. holds (form_in q class) (is_among id))) e in
          let b = held (context q id).class (λ class. holds (form_in q class) (is_among id)) a.1 in
          let c = held (form_in q b.0) (is_among id) b.2 in
          let f = form_of forest whole accepted b.0 c.0 c.1 in
          let n = parts_new q f.superclass f.arguments c.0 f.parts_are id c.2 in other n.0 n.1 n.2)
