-- What is small in an accepted program: bodies are low, and members have few parameters and few variables.
use Rattle.std.specs.Prelude.{Option, Some, None, is_some, slice_get, filter, drop, ◌==◌, unwrap_or}
use Rattle.std.proofs.Common.{◌≡◌, ◌≤◌, ℕ, List, [], length, Bool, true, false, refl, sym, ◌∙◌, ap, subst, arith}
use Rattle.std.proofs.lemmas.Bool.Decides.{nat_tests}
use Rattle.scj_base.specs.declared.positions.Position.{Position}
use Rattle.scj_tree.specs.declared.nodes.Node.{Node}
use Rattle.scj_tree.specs.declared.nodes.Node.TheVariants.{Class, Method as MethodNode, Constructor, Call}
use Rattle.scj_tree.specs.Forest.{Forest}
use Rattle.scj_rules.specs.declared.views.Body.{Body}
use Rattle.scj_rules.specs.declared.views.Body.TheVariants.{Written, Empty}
use Rattle.scj_rules.specs.Words.{◌>>=◌, holds}
use Rattle.scj_rules.specs.Definitions.{read}
use Rattle.scj_rules.specs.Views.{DeclaredMethod, parameters_of as parameters_in, variable_at, method_of, method_at, parameters_at}
use Rattle.scj_rules.specs.ClassRules.{numbers_from}
use Rattle.scj_rules.specs.Contexts.{Declarations, declarations_of, context, is_member}
use Rattle.scj_rules.specs.LimitRules.{is_variable_of, variables_of, k2, k3, node_limits}
use Rattle.accepted_laws.specs.Judgements.{Inside, Judged}
use Rattle.accepted_laws.specs.Kinds.{Kind}
use Rattle.accepted_laws.specs.Programs.{IsAcceptedProgram}
use Rattle.accepted_laws.specs.Sorts.{IsWellSorted}
use Rattle.accepted_laws.specs.Variables.{body_parameters, parameter_list}
use Rattle.accepted_laws.proofs.Breaks.{both_empty, no_break_at_node}
use Rattle.accepted_laws.proofs.ClassSorts.{well_sorted}
use Rattle.accepted_laws.proofs.MemberContexts.{member_is}
use Rattle.accepted_laws.proofs.Tools.{some_inj}
use Rattle.accepted_laws.proofs.Typed.{behind_children}
use Rattle.accepted_facts.proofs.CallFacts.{call_facts}
use Rattle.accepted_facts.proofs.FrameworkCalls.{argument_facts}
use Rattle.scj_model.specs.Code.{code_of}
use Rattle.scope_flow.specs.CallFacts.{CallFact}
use Rattle.scope_flow.specs.Signatures.{Signature, Runs, IsBody, may_run, parameters_of, variables_in}
use Rattle.flow_facts.proofs.Bodies.{parameters_declared}
use Rattle.flow_facts.proofs.Calls.{Invoked, invoked}
use Rattle.flow_facts.proofs.FrameworkCalls.{builtin_fact}
use Rattle.flow_facts.proofs.StaticCalls.{static_call_fact}
use Rattle.frame_sizes.proofs.Heights.{files_low}
use Rattle.frame_sizes.proofs.Places.{Limits}
use Rattle.frame_sizes.proofs.Lengths.{none_mapped, none_dropped, filtered_give, dropped_give, none_give, none_pass, first_true, second_true, as_many_kinds, as_many_declared, as_many_typed, as_many_taken}

module _ (forest : Forest) (a : IsAcceptedProgram forest) where
  abbrev p : Declarations
  p = declarations_of forest

  sorted : IsWellSorted forest.nodes
  sorted = well_sorted forest a.is_read

  -- ---- K3

  k3_few : (parameters : Option ℕ) → k3 p parameters ≡ [] → length (parameters_at p.nodes parameters) ≤ 8
  unfolding k3
  k3_few parameters e = none_dropped 8 (parameters_at p.nodes parameters) (none_mapped _ _ e)

  few_parameters : (id : ℕ) (node : Node) → slice_get p.nodes id ≡ Some node → (m : DeclaredMethod) →
      method_of p.nodes id node ≡ Some m → length m.parameters ≤ 8
  unfolding method_of node_limits
  few_parameters id (MethodNode position name flags result_type parameters body) there m e =
      subst (λ (q : DeclaredMethod). length q.parameters ≤ 8) (some_inj _ m e)
      (k3_few parameters
      (both_empty (k2 p id) (k3 p parameters) (no_break_at_node forest a.is_accepted id _ there).no_limit).1)
  few_parameters id _ there m e = absurd (cc (e))

  few_of_method : (id : ℕ) (m : DeclaredMethod) → method_at p.nodes id ≡ Some m → length m.parameters ≤ 8
  few_of_method id m e = go (slice_get p.nodes id) refl e
    where
      go : (o : Option Node) → slice_get p.nodes id ≡ o → (o >>= method_of p.nodes id) ≡ Some m →
          length m.parameters ≤ 8
      go None there k = absurd (cc (k))
      go (Some node) there k = few_parameters id node there m k

  few_of_body : (id : ℕ) (node : Node) → slice_get p.nodes id ≡ Some node → may_run node ≡ true →
      length (body_parameters p id) ≤ 8
  unfolding body_parameters parameter_list node_limits may_run
  few_of_body id node there e =
      subst
      (λ (o : Option Node).
      length (unwrap_or ((o >>= parameter_list) >>= read p.nodes (parameters_in p.nodes)) []) ≤ 8) (sym there)
      (go node there e)
    where
      go : (n : Node) → slice_get p.nodes id ≡ Some n → may_run n ≡ true →
          length (parameters_at p.nodes (parameter_list n)) ≤ 8
      go (MethodNode position name flags result_type parameters (Some body)) at r =
          k3_few parameters
          (both_empty (k2 p id) (k3 p parameters) (no_break_at_node forest a.is_accepted id _ at).no_limit).1
      go (MethodNode position name flags result_type parameters None) at r = absurd (cc (r))
      go (Constructor position name flags parameters super_call body) at r =
          k3_few parameters
          (both_empty (k2 p id) (k3 p parameters) (no_break_at_node forest a.is_accepted id _ at).no_limit).1
      go (Class position name flags header members) at r = omega arith
      go _ at r = absurd (cc (r))

  few_taken : (body : Body) (c : ℕ) (sig : Signature) → Runs p body c sig → length sig.takes ≤ 8
  unfolding Runs
  few_taken (Written b) c sig h =
      let few = few_of_body b h.node h.is_there h.runs in
      let declared = as_many_declared p.nodes (parameters_of p b) (body_parameters p b)
      (parameters_declared forest a.is_accepted a.whole sorted a.is_read b) in
      let kinds = as_many_kinds p (parameters_of p b) sig.takes h.takes in
      omega (arith, few, declared, kinds)
  few_taken Empty c sig h =
      let none : length sig.takes ≡ 0 = ap (λ (s : Signature). length s.takes) h.1 in omega (arith, none)

  -- ---- K2

  k2_few : (member : ℕ) → k2 p member ≡ [] → length (variables_of p member) ≤ 32
  unfolding k2 variables_of
  k2_few member e =
      none_dropped 32 (filter (is_variable_of p member) (numbers_from 0 p.nodes))
      (none_give (variable_at p.nodes) (drop 32 (filter (is_variable_of p member) (numbers_from 0 p.nodes)))
      (dropped_give (variable_at p.nodes) 32 (filter (is_variable_of p member) (numbers_from 0 p.nodes))
      (filtered_give (variable_at p.nodes) (is_variable_of p member)
      (λ x t. first_true (is_some (variable_at p.nodes x)) (holds (context p x).member (λ m. m == member)) t)
      (numbers_from 0 p.nodes))) (none_mapped _ _ e))

  none_in_class : (id : ℕ) (node : Node) → slice_get p.nodes id ≡ Some node → is_member node ≡ false →
      length (variables_of p id) ≤ 32
  unfolding variables_of
  none_in_class id node there e =
      let none = ap length (none_pass (is_variable_of p id) (λ x t. outside x
      (second_true (is_some (variable_at p.nodes x)) (holds (context p x).member (λ m. m == id)) t))
      (numbers_from 0 p.nodes)) in
      omega (arith, none)
    where
      outside : (x : ℕ) → holds (context p x).member (λ m. m == id) ≡ true → ⊥
      outside x t = go (context p x).member refl t
        where
          go : (o : Option ℕ) → (context p x).member ≡ o → holds o (λ m. m == id) ≡ true → ⊥
          go None s h = cc (h)
          go (Some b) s h =
              let same : b ≡ id = grind (arith, nat_tests) in
              let m = member_is forest a.whole sorted x b s in
              let it : m.node ≡ node =
              some_inj m.node node (sym m.is_there ∙ ap (slice_get p.nodes) same ∙ there) in
              let yes : is_member node ≡ true = ap is_member (sym it) ∙ m.is_a_member in
              cc (yes, e)

  few_of_node : (id : ℕ) (node : Node) → slice_get p.nodes id ≡ Some node → may_run node ≡ true →
      length (variables_of p id) ≤ 32
  unfolding node_limits may_run is_member
  few_of_node id (MethodNode position name flags result_type parameters body) there r =
      k2_few id
      (both_empty (k2 p id) (k3 p parameters) (no_break_at_node forest a.is_accepted id _ there).no_limit).0
  few_of_node id (Constructor position name flags parameters super_call body) there r =
      k2_few id
      (both_empty (k2 p id) (k3 p parameters) (no_break_at_node forest a.is_accepted id _ there).no_limit).0
  few_of_node id (Class position name flags header members) there r = none_in_class id _ there refl
  few_of_node id _ there r = absurd (cc (r))

  pub few_variables : (body : Body) (c : ℕ) (sig : Signature) → Runs p body c sig → length (variables_in p body) ≤ 32
  unfolding Runs
  few_variables (Written b) c sig h = few_of_node b h.node h.is_there h.runs
  few_variables Empty c sig h = omega arith

  -- ---- calls

  few_passed : (b c : ℕ) (sig : Signature) (id : ℕ) (position : Position) (name : List ℕ) (object : Option ℕ)
      (arguments : List ℕ) (gives : Option Kind) → IsBody p b c sig → Inside p b c id →
      slice_get forest.nodes id ≡ Some (Call position name object arguments) → Judged p id gives →
      CallFact (code_of forest) b c sig id object arguments gives → length arguments ≤ 8
  few_passed b c sig id position name object arguments gives body inside there judged fact =
      by_method v.method.method.builtin refl
    where
      v : Invoked forest a.is_accepted a.whole sorted a.is_read id name object
      v = invoked forest a.is_accepted a.whole sorted a.is_read id position name object arguments gives there judged

      of_user : length v.method.method.parameters ≤ 8 → length arguments ≤ 8
      of_user few =
          let x = argument_facts forest a.is_accepted a.whole sorted b c id position name object arguments v.method there
          inside v.is in
          let typed = as_many_typed _ arguments x.types x.typed in
          let taken = as_many_taken p v.method.method.parameters x.types x.accepts in
          omega (arith, few, typed, taken)

      by_static : v.method.method.builtin ≡ None → (t : Bool) → v.method.method.declared.modifiers.is_static ≡ t →
          length arguments ≤ 8
      by_static n false s =
          let x = call_facts forest a.is_accepted a.whole sorted b c id position name object arguments v.method gives there
          inside v.is n s judged in
          of_user (few_of_method v.method.method.declared.node v.method.method x.is_user.is_there)
      by_static n true s =
          let x = static_call_fact forest a.is_accepted a.whole sorted a.is_read b c sig id position name object arguments
          gives body there inside v n s judged in
          absurd (let e = fact.is in let k = x.is in cc (e, k))

      by_method : (n : Option ℕ) → v.method.method.builtin ≡ n → length arguments ≤ 8
      by_method None n = by_static n v.method.method.declared.modifiers.is_static refl
      by_method (Some m) n =
          let x = builtin_fact forest a.is_accepted a.whole sorted a.is_read b c sig id position name object arguments gives
          m body there inside v n judged in
          absurd (let e = fact.is in let k = x.is in cc (e, k))

  -- ---- all of it

  pub limits_of : Limits (code_of forest)
  unfolding code_of declarations_of
  limits_of =
      record {
        behind = behind_children forest a.whole;
        takes = few_taken;
        called = few_passed;
        low = λ b c sig h.
            files_low a.is_read.reads.files_read b h.node (omega arith) h.is_there
            (behind_children forest a.whole b h.node h.is_there);
      }
