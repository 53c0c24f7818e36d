-- The operations of every body flow from its beginning, where its parameters are set.
use Rattle.std.specs.Prelude.{Option, Some, None, slice_get, flat_map, map, ◌+◌, ◌==◌, ◌⊎◌, if◌then◌else◌}
use Rattle.std.proofs.Common.{◌≡◌, ℕ, zero, suc, List, [], ◌∷◌, ◌++◌, Bool, true, false, refl, sym, ◌∙◌, ap, subst, arith, append_assoc, append-nil, true≢false, length, inl, inr}
use Rattle.scj_builtins.specs.Framework.{periodic_handler}
use Rattle.scj_tree.specs.declared.nodes.Node.{Node}
use Rattle.scj_tree.specs.declared.nodes.Node.TheVariants.{Class, Method as MethodNode, Constructor, New}
use Rattle.scj_tree.specs.Recursion.{below}
use Rattle.scj_rules.specs.declared.typing.Binding.{Binding}
use Rattle.scj_rules.specs.declared.typing.Binding.TheVariants.{Plain, Class as ClassNamed}
use Rattle.scj_rules.specs.declared.views.Body.TheVariants.{Written}
use Rattle.scj_rules.specs.declared.views.Declared.{Declared}
use Rattle.scj_rules.specs.declared.views.WrittenType.TheVariants.{Void as void_type}
use Rattle.scj_rules.specs.Words.{◌>>=◌}
use Rattle.scj_rules.specs.Views.{type_at}
use Rattle.scj_rules.specs.Classes.{is_user_class}
use Rattle.scj_rules.specs.ClassRules.{is_same_type}
use Rattle.scj_rules.specs.Contexts.{known_variables}
use Rattle.scj_rules.specs.Types.{has_form}
use Rattle.scj_rules.specs.Layout.{fields_with_literal}
use Rattle.scj_rules.specs.Bodies.{class_node}
use Rattle.accepted_laws.specs.Kinds.{Kind, number, fresh}
use Rattle.accepted_laws.specs.Judgements.{Among}
use Rattle.scj_model.specs.declared.operations.Op.{Op}
use Rattle.scj_model.specs.declared.operations.Op.TheVariants.{This as THIS, Super as SUPER, Params as PARAMS, Init as INIT, Leave as LEAVE}
use Rattle.scj_model.specs.Code.{Code, binding}
use Rattle.scj_model.specs.Ops.{node_ops, new_ops, super_ops, unwritten_super_ops, literal_ops, constructor_ops, method_ops, ops_of}
use Rattle.scj_model.specs.Operations.{bound_class, argument_count, super_count}
use Rattle.scope_flow.specs.Signatures.{Signature, IsBody, parameters_of}
use Rattle.scope_flow.specs.Flow.{Flow}
use Rattle.scope_flow.specs.Needs.{pushed, stacked, numbers, parameter_count, super_call_of, IsSuperCall}
use Rattle.scope_flow.specs.Facts.{Facts, AreSmaller, Numbers, one_number, form_part, AllNumbers, no_numbers, more_numbers, SuperCallFact, FormFact, SuperFact, WrittenSuperFact, UnwrittenSuperFact, OptionSuperFact, LiteralFacts, BodyFact, ConstructorFact, MethodFact, EntryFact}
use Rattle.scope_flow.specs.ValueFacts.{HasObject}
use Rattle.scope_flow.proofs.Known.{below_lt, among_self, among_trans}
use Rattle.scope_flow.proofs.FlowTools.{Behind, FlowsBelow, join2, arguments, as_many, own_fresh}
use Rattle.scope_flow.proofs.Flows.{ops_at, value_flows, statement_flows, all_flow}

-- numbers that are pushed one behind the other
more_stacked : (m n : ℕ) (s : List Kind) → stacked (numbers n) (stacked (numbers m) s) ≡ stacked (numbers (m + n)) s
more_stacked zero n s = let e : n ≡ 0 + n = omega arith in ap (λ k. stacked (numbers k) s) e
more_stacked (suc m) n s =
    let e : suc (m + n) ≡ suc m + n = omega arith in
    more_stacked m n (number ∷ s) ∙ ap (λ k. stacked (numbers k) s) e

module _ (code : Code) (facts : Facts code) (b c : ℕ) (sig : Signature) (body : IsBody code.program b c sig) where
  abbrev F : List Op → List ℕ → List Kind → Type 0
  F xs ms t = Flow code (Written b) c sig xs ms t

  abbrev at_reading : {A : Type 0} → (Node → Option A) → Option Node → Option A
  at_reading f node = elim node [ None ↦ None | Some x ↦ f x ]

  -- ---- forms: each part stands for its arguments

  same_below : (id : ℕ) (xs : List ℕ) → AreSmaller id xs →
      flat_map (below [] id (ops_of code)) xs ≡ flat_map (ops_of code) xs
  same_below id [] l = refl
  same_below id (x ∷ xs) l = cc (below_lt [] id (ops_of code) x l.0, same_below id xs l.1)

  form_ops : (x : ℕ) (position name_position : _) (name xs : List ℕ) →
      slice_get code.program.nodes x ≡ Some (New position name_position name xs) → binding code x ≡ Plain → AreSmaller x xs →
      ops_of code x ≡ flat_map (ops_of code) xs
  unfolding node_ops new_ops
  form_ops x position name_position name xs there plain l =
      ops_at code x _ there
      ∙ ap (λ (y : Binding). new_ops (below [] x (ops_of code)) x xs y) plain ∙ same_below x xs l

  module _ (known : List ℕ) where
    mutual
      unfolding pushed

      numbers_flow : (x n : ℕ) → Numbers code b c known x n → (ls : List ℕ) → Among known ls → (os : List Op)
          (s : List Kind) → ((ms : List ℕ) → Among ls ms → F os ms (stacked (numbers n) s)) →
          F (ops_of code x ++ os) ls s
      numbers_flow x _ (one_number inside judged set) ls am os s a =
          value_flows code facts b c sig body x (Some number) inside judged ls (among_trans _ known ls set am) os s a
      numbers_flow _ _ (form_part {x} {n} {position} {name_position} {name} {xs} there plain l all) ls am os s a =
          subst (λ ys. F (ys ++ os) ls s) (sym (form_ops x position name_position name xs there plain l))
          (all_numbers_flow xs n all ls am os s a)

      all_numbers_flow : (xs : List ℕ) (n : ℕ) → AllNumbers code b c known xs n → (ls : List ℕ) → Among known ls →
          (os : List Op) (s : List Kind) → ((ms : List ℕ) → Among ls ms → F os ms (stacked (numbers n) s)) →
          F (flat_map (ops_of code) xs ++ os) ls s
      all_numbers_flow _ _ no_numbers ls am os s a = a ls (among_self ls)
      all_numbers_flow _ _ (more_numbers {x} {m} {n} {xs} first rest) ls am os s a =
          subst (λ ys. F ys ls s) (sym (append_assoc (ops_of code x) (flat_map (ops_of code) xs) os))
          (numbers_flow x m first ls am (flat_map (ops_of code) xs ++ os) s (λ ms k.
          all_numbers_flow xs n rest ms (among_trans known ls ms am k) os (stacked (numbers m) s) (λ ns j.
          subst (λ t. F os ns t) (sym (more_stacked m n s)) (a ns (among_trans ls ms ns k j)))))

  -- ---- the super part: it stands before the rest, at a node whose variables are set

  no_arguments : (known xs : List ℕ) (n : ℕ) → AllNumbers code b c known xs n → xs ≡ [] → n ≡ 0
  no_arguments known _ _ no_numbers e = refl
  no_arguments known _ _ (more_numbers one rest) e = absurd (cc (e))

  module _ (own : HasObject code.program b c) (runs : sig.runs_in ≡ own.home) (id : ℕ) (xs : List ℕ) (count : super_count code id ≡ length xs) (ls : List ℕ) (am : Among (known_variables code.program id) ls) (call : (xs ≡ []) ⊎ IsSuperCall code.program b id) (os : List Op) (next : (ms : List ℕ) → Among ls ms → F os ms []) where
    abbrev before : FlowsBelow code b c sig id (ops_of code)
    before = all_flow code facts b c sig body id

    abbrev with_arguments : Op → List Op
    with_arguments op = flat_map (ops_of code) xs ++ op ∷ []

    called_flow : (superclass : ℕ) → binding code id ≡ ClassNamed superclass →
        SuperCallFact code b c sig id xs superclass → F (with_arguments (SUPER id) ++ os) ls (fresh c sig.runs_in ∷ [])
    unfolding bound_class
    called_flow superclass is r =
        join2 code b c sig id (ops_of code) before (flat_map (ops_of code) xs) (SUPER id ∷ []) os ls _
        (arguments code b c sig id (ops_of code) before xs r.kinds r.arguments_are ls am (SUPER id ∷ os)
        (fresh c sig.runs_in ∷ []) (λ ms m. record {
          out = [];
          needed = record {
            superclass = superclass;
            is = ap bound_class is;
            arguments = r.kinds;
            count = count ∙ as_many code b c sig id (ops_of code) before xs r.kinds r.arguments_are;
            above = r.above;
            own = own.is_home ∙ ap (λ x. Some x) (sym runs);
            takes = refl;
            constructor = r.constructor;
          };
          goes = next ms m;
        }))

    -- a form has numbers, so it is written
    is_written : (superclass : ℕ) →
        AllNumbers code b c (known_variables code.program id) xs (parameter_count superclass) →
        IsSuperCall code.program b id
    unfolding parameter_count
    is_written superclass r = by call
      where
        counts : (t : Bool) (n : ℕ) → n ≡ (if t then 6 else 2) → n ≡ 0 → ⊥
        counts true n e z = omega (arith, e, z)
        counts false n e z = omega (arith, e, z)

        by : (xs ≡ []) ⊎ IsSuperCall code.program b id → IsSuperCall code.program b id
        by (inl e) =
            absurd (counts (superclass == periodic_handler) (parameter_count superclass) refl
            (no_arguments (known_variables code.program id) xs (parameter_count superclass) r e))
        by (inr c) = c

    form_flow : (superclass : ℕ) → binding code id ≡ ClassNamed superclass → is_user_class superclass ≡ false →
        has_form superclass ≡ true → FormFact code b c id xs superclass → F (with_arguments (PARAMS id) ++ os) ls []
    unfolding bound_class
    form_flow superclass is framework form r =
        join2 code b c sig id (ops_of code) before (flat_map (ops_of code) xs) (PARAMS id ∷ []) os ls []
        (all_numbers_flow (known_variables code.program id) xs (parameter_count superclass) r.are ls am (PARAMS id ∷ os) []
        (λ ms m. record {
          out = [];
          needed = record {
            is_written = is_written superclass r.are;
            for_object = own.for_object;
            superclass = superclass;
            is = ap bound_class is;
            framework = framework;
            form = form;
            hidden = r.hidden;
            takes = refl;
          };
          goes = next ms m;
        }))

    super_flow : SuperFact code b c sig id xs → F (super_ops (ops_of code) id xs (binding code id) ++ os) ls []
    unfolding super_ops
    super_flow r =
        subst (λ (y : Binding). F (super_ops (ops_of code) id xs y ++ os) ls []) (sym r.is)
        (go (is_user_class r.superclass) (has_form r.superclass) refl refl)
      where
        go : (user has : Bool) → is_user_class r.superclass ≡ user → has_form r.superclass ≡ has →
            F ((if user then THIS id ∷ with_arguments (SUPER id)
            else (if has then with_arguments (PARAMS id) else [])) ++ os) ls []
        go true has e f =
            own_fresh code b c sig id (ops_of code) before own ls (with_arguments (SUPER id) ++ os) [] id
            (subst (λ s. F (with_arguments (SUPER id) ++ os) ls (fresh c s ∷ [])) runs
            (called_flow r.superclass r.is (r.user e)))
        go false true e f = form_flow r.superclass r.is e f (r.form e f)
        go false false e f = next ls (among_self ls)

  -- the operations of a super part by those of its arguments
  same_super : (id : ℕ) (ops : ℕ → List Op) (xs : List ℕ) → flat_map ops xs ≡ flat_map (ops_of code) xs →
      (x : Binding) → super_ops ops id xs x ≡ super_ops (ops_of code) id xs x
  unfolding super_ops
  same_super id ops xs e (ClassNamed superclass) =
      ap (λ (ys : List Op). if is_user_class superclass then THIS id ∷ ys ++ SUPER id ∷ []
      else (if has_form superclass then ys ++ PARAMS id ∷ [] else [])) e
  same_super id ops xs e _ = refl

  written_ops : (call : ℕ) (r : WrittenSuperFact code b c sig call) →
      ops_of code call ≡ super_ops (ops_of code) call r.arguments (binding code call)
  unfolding node_ops
  written_ops call r =
      ops_at code call _ r.is_there
      ∙ same_super call (below [] call (ops_of code)) r.arguments (same_below call r.arguments r.are_smaller) (binding code call)

  -- ---- the literals

  literals_flow : (own : HasObject code.program b c) (fs : List Declared) → LiteralFacts code c own.home fs →
      (ls : List ℕ) (os : List Op) → F os ls [] → F (map (λ (f : Declared). INIT f.node) fs ++ os) ls []
  literals_flow own [] r ls os h = h
  literals_flow own (f ∷ fs) r ls os h =
      record {
        out = [];
        needed = record {
          for_object = own.for_object;
          home = own.home;
          is_home = own.is_home;
          literal = r.0.literal;
          is_literal = r.0.is_literal;
          field = r.0.field;
          is = r.0.is;
          has = r.0.has;
          fit = r.0.fit;
          leaves = refl;
        };
        goes = literals_flow own fs r.1 ls os h;
      }

  -- ---- whole bodies

  body_flow : (x : ℕ) → BodyFact code.program b c x → (ls : List ℕ) → Among (parameters_of code.program b) ls →
      (os : List Op) → Behind code b c sig x ls os [] → F (below [] b (ops_of code) x ++ os) ls []
  body_flow x r ls am os k =
      subst (λ ys. F (ys ++ os) ls []) (sym (below_lt [] b (ops_of code) x r.smaller))
      (statement_flows code facts b c sig body x r.is ls (among_trans _ _ ls r.known am) os [] k)

  method_flow : (result_type x : ℕ) → MethodFact code.program b c sig result_type x →
      F (method_ops code (below [] b (ops_of code)) result_type (Some x)) (parameters_of code.program b) []
  unfolding method_ops
  method_flow result_type x r = go (is_same_type (type_at code.program.nodes result_type) void_type) refl
    where
      go : (t : Bool) → is_same_type (type_at code.program.nodes result_type) void_type ≡ t →
          F (if t then below [] b (ops_of code) x ++ LEAVE ∷ [] else below [] b (ops_of code) x)
          (parameters_of code.program b) []
      go true e = body_flow x r.body_is (parameters_of code.program b) (among_self _) (LEAVE ∷ []) (inr (λ ms m st. r.is_void e))
      go false e =
          subst (λ ys. F ys (parameters_of code.program b) []) (append-nil (below [] b (ops_of code) x))
          (body_flow x r.body_is (parameters_of code.program b) (among_self _) [] (inl (r.returns e)))

  -- the literals, the body and LEAVE
  rest_flow : (own : HasObject code.program b c) → sig.gives ≡ None →
      LiteralFacts code c own.home (fields_with_literal code.program c) → (xs : List Op) → (ls : List ℕ) →
      F (xs ++ LEAVE ∷ []) ls [] → F (literal_ops code c ++ (xs ++ LEAVE ∷ [])) ls []
  unfolding literal_ops
  rest_flow own e r xs ls h = literals_flow own (fields_with_literal code.program c) r ls (xs ++ LEAVE ∷ []) h

  -- ---- constructors

  module _ (own : HasObject code.program b c) (runs : sig.runs_in ≡ own.home) (rest : List Op) (next : (ls : List ℕ) → Among (parameters_of code.program b) ls → F rest ls []) where
    abbrev sub : ℕ → List Op
    sub = below [] b (ops_of code)

    abbrev start : List ℕ
    start = parameters_of code.program b

    written_flow : (call : ℕ) → super_call_of body.node ≡ Some call → WrittenSuperFact code b c sig call →
        F (sub call ++ rest) start []
    unfolding argument_count
    written_flow call is_call r =
        subst (λ ys. F (ys ++ rest) start [])
        (sym (below_lt [] b (ops_of code) call r.smaller ∙ written_ops call r))
        (super_flow own runs call r.arguments count start r.known
        (inr (record {
          node = body.node;
          is_body = body.is_there;
          is_call = is_call;
          position = r.position;
          arguments = r.arguments;
          is_there = r.is_there;
        })) rest next r.super_fact)
      where
        count : super_count code call ≡ length r.arguments
        count =
            ap (λ (o : Option Node). elim (o >>= argument_count) as (λ z. ℕ) [ None ↦ 0 | Some n ↦ n ])
            r.is_there

    unwritten_flow : ((node : ℕ) → class_node code.program c ≡ Some node → UnwrittenSuperFact code b c sig node) →
        F (unwritten_super_ops code sub c ++ rest) start []
    unfolding unwritten_super_ops
    unwritten_flow r = go (class_node code.program c) refl
      where
        go : (o : Option ℕ) → class_node code.program c ≡ o →
            F ((elim o [ None ↦ [] | Some node ↦ super_ops sub node [] (binding code node) ]) ++ rest) start []
        go None e = next start (among_self start)
        go (Some node) e =
            subst (λ ys. F (ys ++ rest) start []) (sym (same_super node sub [] refl (binding code node)))
            (super_flow own runs node [] (r node e).count start
            (λ v h. absurd (true≢false (sym ((r node e).known v h)))) (inl refl) rest next (r node e).super_fact)

    super_part_flow : (o : Option ℕ) → ((call : ℕ) → o ≡ Some call → super_call_of body.node ≡ Some call) →
        OptionSuperFact code b c sig o →
        F ((elim o [ None ↦ unwritten_super_ops code sub c | Some call ↦ sub call ]) ++ rest) start []
    super_part_flow None is_call r = unwritten_flow r
    super_part_flow (Some call) is_call r = written_flow call (is_call call refl) r

  constructor_flow : (o : Option ℕ) → ((call : ℕ) → o ≡ Some call → super_call_of body.node ≡ Some call) →
      ConstructorFact code b c sig o → (xs : List Op) →
      ((ls : List ℕ) → Among (parameters_of code.program b) ls → F (xs ++ LEAVE ∷ []) ls []) →
      F (constructor_ops code (below [] b (ops_of code)) b o xs) (parameters_of code.program b) []
  unfolding constructor_ops
  constructor_flow o is_call r xs h =
      subst
      (λ (k : Option ℕ). F (elim k [
        | None ↦ []
        | Some class ↦
            (elim o [
              | None ↦ unwritten_super_ops code (below [] b (ops_of code)) class
              | Some call ↦ below [] b (ops_of code) call
            ]) ++ (literal_ops code class ++ (xs ++ LEAVE ∷ []))
      ]) (parameters_of code.program b) [])
      (sym r.is_class)
      (super_part_flow r.own r.runs (literal_ops code c ++ (xs ++ LEAVE ∷ []))
      (λ ls am. rest_flow r.own r.gives r.literals xs ls (h ls am)) o is_call r.super_fact)

  entry_node : (n : Node) → body.node ≡ n → EntryFact code b c sig n →
      F (node_ops code (below [] b (ops_of code)) b n) (parameters_of code.program b) []
  unfolding EntryFact node_ops super_call_of
  entry_node (MethodNode position name flags result_type parameters (Some x)) e r = method_flow result_type x r
  entry_node (MethodNode position name flags result_type parameters None) e r = absurd r
  entry_node (Constructor position name flags parameters super_call x) e r =
      constructor_flow super_call (λ call k. ap super_call_of e ∙ k) r.0 (below [] b (ops_of code) x)
      (λ ls am. body_flow x r.1 ls am (LEAVE ∷ []) (inr (λ ms m st. r.0.gives)))
  entry_node (Class position name flags header members) e r =
      constructor_flow None (λ call k. absurd (cc (k))) r [] (λ ls am. r.gives)
  entry_node _ e r = absurd r

  -- a body begins with its parameters and without operands
  pub entry_flows : F (ops_of code b) (parameters_of code.program b) []
  entry_flows =
      subst (λ ys. F ys (parameters_of code.program b) []) (sym (ops_at code b body.node body.is_there))
      (entry_node body.node refl (facts.entries b c sig body))
