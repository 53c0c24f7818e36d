-- The operations of each expression flow, where those of the nodes before it do.
use Rattle.std.specs.Prelude.{Option, Some, None, slice_get, flat_map, ◌==◌, if◌then◌else◌, is_some}
use Rattle.std.proofs.Common.{◌≡◌, ℕ, List, [], ◌∷◌, ◌++◌, Bool, true, false, refl, sym, ◌∙◌, ap, subst, true≢false, ◌⊎◌, inl, inr}
use Rattle.scj_base.specs.Vocabulary.{sign_and_and, sign_or_or}
use Rattle.scj_tree.specs.declared.nodes.Node.{Node}
use Rattle.scj_tree.specs.declared.nodes.Node.TheVariants.{Binary, Unary, New, This as ThisNode}
use Rattle.scj_rules.specs.declared.typing.Binding.{Binding}
use Rattle.scj_rules.specs.declared.typing.Scope.TheVariants.{Caller}
use Rattle.scj_rules.specs.declared.typing.Ty.{Ty}
use Rattle.scj_rules.specs.declared.typing.Ty.TheVariants.{Class as ClassTy}
use Rattle.scj_rules.specs.declared.views.Body.TheVariants.{Written}
use Rattle.scj_rules.specs.Words.{is_among}
use Rattle.scj_rules.specs.Contexts.{known_variables}
use Rattle.scj_rules.specs.Types.{conditional_operators}
use Rattle.accepted_laws.specs.Kinds.{Kind, number, truth, reference, fresh, seen_kind}
use Rattle.accepted_laws.specs.Judgements.{Among, Inside, Judged}
use Rattle.scj_model.specs.declared.operations.Op.{Op}
use Rattle.scj_model.specs.declared.operations.Op.TheVariants.{Push as PUSH, Get as GET, GetStatic as GETSTATIC, Length as LENGTH, Elem as ELEM, Unary as UNARY, Bin as BIN, And as AND, Or as OR, Construct as CONSTRUCT, AllocArray as ALLOCARRAY, Cast as CAST}
use Rattle.scj_model.specs.Code.{Code, binding, part}
use Rattle.scj_model.specs.Ops.{name_ops, access_ops, binary_ops, new_ops, node_ops, right_operand}
use Rattle.scj_model.specs.Operations.{bound_local, bound_field, bound_static, bound_class, operator_of, argument_count}
use Rattle.scope_flow.specs.Slots.{kind_of_literal}
use Rattle.scope_flow.specs.Signatures.{Signature}
use Rattle.scope_flow.specs.Flow.{Flow}
use Rattle.scope_flow.specs.Pushers.{scope_in, IsKindOfExpression, IsScopeOfExpression}
use Rattle.scope_flow.specs.Needs.{Loosely, kind_of_unary, IsValuePart}
use Rattle.scope_flow.specs.ValueFacts.{HasValue, ThisFact, LocalFact, OwnFieldFact, StaticFact, FieldFact, LengthFact, ElementFact, UnaryFact, ShortFact, BinaryFact, NewFact, NewArrayFact, CastFact}
use Rattle.scope_flow.proofs.Known.{among_self, among_trans}
use Rattle.scope_flow.proofs.FlowTools.{After, FlowsBelow, value, join2, join3, arguments, as_many, behind, own_reference}

module _ (code : Code) (b c : ℕ) (sig : Signature) (id : ℕ) (sub : ℕ → List Op) (hyp : FlowsBelow code b c sig id sub) (o : Option Kind) (j : Judged code.program id o) (ls : List ℕ) (am : Among (known_variables code.program id) ls) (os : List Op) (s : List Kind) (a : After code b c sig o ls os s) where
  abbrev F : List Op → List ℕ → List Kind → Type 0
  F xs ms t = Flow code (Written b) c sig xs ms t

  abbrev at_reading : {A : Type 0} → (Node → Option A) → Option Node → Option A
  at_reading f node = elim node [ None ↦ None | Some x ↦ f x ]

  next : (k : Kind) → o ≡ Some k → (ms : List ℕ) → Among ls ms → F os ms (k ∷ s)
  next k e ms m = behind code b c sig id sub hyp o k e ls os s a ms m

  -- the scope of a kind that the node has is the node's
  judged : (k : Kind) → o ≡ Some k → IsKindOfExpression code.program id k
  judged k e s is = (k, subst (Judged code.program id) e j, is)

  -- with what a name or a node stands for told
  by_binding : (f : Binding → List Op) (x : Binding) → binding code id ≡ x → F (f x ++ os) ls s →
      F (f (binding code id) ++ os) ls s
  by_binding f x e h = subst (λ y. F (f y ++ os) ls s) (sym e) h

  -- ---- literals and names

  pub literal_flow : (k : Kind) → part code kind_of_literal id ≡ Some k → (m : Kind) → Loosely k m → IsKindOfExpression code.program id m →
      F os ls (m ∷ s) → F (PUSH id ∷ os) ls s
  literal_flow k e m l by f =
      record {
        out = m ∷ s;
        needed = record { exact = k; is = e; kind = m; loose = l; by_expression = by; leaves = refl };
        goes = f;
      }

  pub this_flow : (position : _) → ThisFact code.program b c o → F (node_ops code sub id (ThisNode position) ++ os) ls s
  unfolding node_ops
  this_flow position r = own_reference code b c sig id sub hyp r.own ls os s id (next _ r.is_given ls (among_self ls))

  local_flow : LocalFact code b id o → F (name_ops id (binding code id) ++ os) ls s
  unfolding name_ops bound_local
  local_flow r =
      by_binding (name_ops id) _ r.is
      (record {
        out = r.is_variable.kind ∷ s;
        needed = record {
          local = r.local;
          is = ap bound_local r.is;
          variable = r.variable;
          is_variable = r.is_variable;
          is_set = am r.variable r.known;
          by_expression = judged _ r.is_given;
          leaves = refl;
        };
        goes = next _ r.is_given ls (among_self ls);
      })

  own_field_flow : OwnFieldFact code b c id o → F (name_ops id (binding code id) ++ os) ls s
  unfolding name_ops bound_field
  own_field_flow r =
      by_binding (name_ops id) _ r.is
      (own_reference code b c sig id sub hyp r.own ls (GET id ∷ os) s id
      (record {
        out = seen_kind r.own.home Caller r.has.kind ∷ s;
        needed = record {
          field = r.field;
          is = ap bound_field r.is;
          class = c;
          scope = r.own.home;
          others = s;
          takes = refl;
          has = r.has;
          by_expression = judged _ r.is_given;
          leaves = refl;
        };
        goes = next _ r.is_given ls (among_self ls);
      }))

  static_flow : StaticFact code id o → F (GETSTATIC id ∷ os) ls s
  unfolding bound_static
  static_flow r =
      record {
        out = r.has.kind ∷ s;
        needed = record { field = r.field; is = ap bound_static r.is; has = r.has; by_expression = judged _ r.is_given; leaves = refl };
        goes = next _ r.is_given ls (among_self ls);
      }

  pub name_flow : LocalFact code b id o ⊎ (OwnFieldFact code b c id o ⊎ StaticFact code id o) →
      F (name_ops id (binding code id) ++ os) ls s
  unfolding name_ops
  name_flow (inl r) = local_flow r
  name_flow (inr (inl r)) = own_field_flow r
  name_flow (inr (inr r)) = by_binding (name_ops id) _ r.is (static_flow r)

  -- ---- accesses

  field_flow : (object : ℕ) → FieldFact code b c id object o →
      F (access_ops sub id object (binding code id) ++ os) ls s
  unfolding access_ops bound_field
  field_flow object r =
      by_binding (access_ops sub id object) _ r.is
      (join2 code b c sig id sub hyp (sub object) (GET id ∷ []) os ls s
      (value code b c sig id sub hyp object _ r.object_is ls am (GET id ∷ os) s (λ ms m. record {
        out = seen_kind r.scope Caller r.has.kind ∷ s;
        needed = record {
          field = r.field;
          is = ap bound_field r.is;
          class = r.class;
          scope = r.scope;
          others = s;
          takes = refl;
          has = r.has;
          by_expression = judged _ r.is_given;
          leaves = refl;
        };
        goes = next _ r.is_given ms m;
      })))

  length_flow : (array : ℕ) → LengthFact code b c id array o →
      F (access_ops sub id array (binding code id) ++ os) ls s
  unfolding access_ops
  length_flow array r =
      by_binding (access_ops sub id array) _ r.is
      (join2 code b c sig id sub hyp (sub array) (LENGTH id ∷ []) os ls s
      (value code b c sig id sub hyp array _ r.array_is ls am (LENGTH id ∷ os) s (λ ms m. record {
        out = number ∷ s;
        needed = record { type = r.type; scope = r.scope; others = s; takes = refl; leaves = refl };
        goes = next _ r.is_given ms m;
      })))

  pub access_flow : (object : ℕ) →
      FieldFact code b c id object o ⊎ (StaticFact code id o ⊎ LengthFact code b c id object o) →
      F (access_ops sub id object (binding code id) ++ os) ls s
  unfolding access_ops
  access_flow object (inl r) = field_flow object r
  access_flow object (inr (inl r)) = by_binding (access_ops sub id object) _ r.is (static_flow r)
  access_flow object (inr (inr r)) = length_flow object r

  pub element_flow : (array index : ℕ) → ElementFact code.program b c id array index o →
      F ((sub array ++ (sub index ++ ELEM id ∷ [])) ++ os) ls s
  element_flow array index r =
      join3 code b c sig id sub hyp (sub array) (sub index) (ELEM id ∷ []) os ls s
      (value code b c sig id sub hyp array _ r.array_is ls am _ s (λ ms m.
      value code b c sig id sub hyp index number r.index_is ms (among_trans _ ls ms am m) (ELEM id ∷ os) _ (λ ns n.
      record {
        out = seen_kind r.scope Caller r.kind ∷ s;
        needed = record {
          type = r.type;
          scope = r.scope;
          others = s;
          takes = refl;
          kind = r.kind;
          elements = r.elements;
          by_expression = judged _ r.is_given;
          leaves = refl;
        };
        goes = next _ r.is_given ns (among_trans ls ms ns m n);
      })))

  -- ---- operators

  pub unary_flow : (position : _) (operator operand : ℕ) →
      slice_get code.program.nodes id ≡ Some (Unary position operator operand) →
      UnaryFact code.program b c id operator operand o → F ((sub operand ++ UNARY id ∷ []) ++ os) ls s
  unfolding operator_of
  unary_flow position operator operand there r =
      join2 code b c sig id sub hyp (sub operand) (UNARY id ∷ []) os ls s
      (value code b c sig id sub hyp operand r.kind r.operand_is ls am (UNARY id ∷ os) s (λ ms m.
      go (kind_of_unary operator r.kind) refl ms m))
    where
      go : (k : Option Kind) → kind_of_unary operator r.kind ≡ k → (ms : List ℕ) → Among ls ms →
          F (UNARY id ∷ os) ms (r.kind ∷ s)
      go None e ms m = absurd (true≢false (sym r.is_some ∙ ap (λ x. is_some x) (r.is_given ∙ e)))
      go (Some k) e ms m =
          record {
            out = k ∷ s;
            needed = record {
              operator = operator;
              is = ap (at_reading operator_of) there;
              operand = r.kind;
              others = s;
              takes = refl;
              kind = k;
              gives = e;
              leaves = refl;
            };
            goes = next _ (r.is_given ∙ e) ms m;
          }

  binary_flow : (position : _) (operator left right : ℕ) →
      slice_get code.program.nodes id ≡ Some (Binary position operator left right) →
      BinaryFact code.program b c id operator left right o →
      F ((sub left ++ (sub right ++ BIN id ∷ [])) ++ os) ls s
  unfolding operator_of
  binary_flow position operator left right there r =
      join3 code b c sig id sub hyp (sub left) (sub right) (BIN id ∷ []) os ls s
      (value code b c sig id sub hyp left r.left_kind r.left_is ls am _ s (λ ms m.
      value code b c sig id sub hyp right r.right_kind r.right_is ms (among_trans _ ls ms am m) (BIN id ∷ os) _ (λ ns n.
      record {
        out = r.kind ∷ s;
        needed = record {
          operator = operator;
          is = ap (at_reading operator_of) there;
          left = r.left_kind;
          right = r.right_kind;
          others = s;
          takes = refl;
          kind = r.kind;
          gives = r.is_kind;
          leaves = refl;
        };
        goes = next _ r.is_given ns (among_trans ls ms ns m n);
      })))

  right_part : (right : ℕ) → HasValue code.program b c id right (Some truth) → (ms : List ℕ) → Among ls ms →
      IsValuePart code.program b c ms right truth
  right_part right e ms m =
      record {
        inside = e.0.inside;
        judged = e.1;
        are_set = among_trans _ _ ms e.0.known (among_trans _ ls ms am m);
      }

  and_flow : (position : _) (operator left right : ℕ) →
      slice_get code.program.nodes id ≡ Some (Binary position operator left right) →
      ShortFact code.program b c id left right o → F ((sub left ++ AND id ∷ []) ++ os) ls s
  unfolding right_operand
  and_flow position operator left right there r =
      join2 code b c sig id sub hyp (sub left) (AND id ∷ []) os ls s
      (value code b c sig id sub hyp left truth r.left_is ls am (AND id ∷ os) s (λ ms m. record {
        out = truth ∷ s;
        needed = record {
          right = right;
          is = ap (at_reading right_operand) there;
          others = s;
          left = record { kind = truth; takes = refl; fits = tt };
          right_part = right_part right r.right_is ms m;
          leaves = refl;
        };
        goes = next _ r.is_given ms m;
      }))

  or_flow : (position : _) (operator left right : ℕ) →
      slice_get code.program.nodes id ≡ Some (Binary position operator left right) →
      ShortFact code.program b c id left right o → F ((sub left ++ OR id ∷ []) ++ os) ls s
  unfolding right_operand
  or_flow position operator left right there r =
      join2 code b c sig id sub hyp (sub left) (OR id ∷ []) os ls s
      (value code b c sig id sub hyp left truth r.left_is ls am (OR id ∷ os) s (λ ms m. record {
        out = truth ∷ s;
        needed = record {
          right = right;
          is = ap (at_reading right_operand) there;
          others = s;
          left = record { kind = truth; takes = refl; fits = tt };
          right_part = right_part right r.right_is ms m;
          leaves = refl;
        };
        goes = next _ r.is_given ms m;
      }))

  pub operator_flow : (position : _) (operator left right : ℕ) →
      slice_get code.program.nodes id ≡ Some (Binary position operator left right) →
      ((is_among operator conditional_operators ≡ true) × ShortFact code.program b c id left right o)
      ⊎ BinaryFact code.program b c id operator left right o → F (binary_ops sub id operator left right ++ os) ls s
  unfolding binary_ops
  operator_flow position operator left right there (inr r) =
      rw (r.is_not_and, r.is_not_or) (binary_flow position operator left right there r)
  operator_flow position operator left right there (inl r) =
      go (operator == sign_and_and) (operator == sign_or_or) refl refl
    where
      go : (x y : Bool) → (operator == sign_and_and) ≡ x → (operator == sign_or_or) ≡ y →
          F ((if x then sub left ++ AND id ∷ []
          else (if y then sub left ++ OR id ∷ [] else (sub left ++ (sub right ++ BIN id ∷ [])))) ++ os) ls s
      go true y e f = and_flow position operator left right there r.1
      go false true e f = or_flow position operator left right there r.1
      go false false e f =
          absurd (true≢false (sym r.0 ∙ (let z : is_among operator conditional_operators ≡ false = rw (e, f) refl in z)))

  -- ---- new objects, arrays and casts

  array_is : (t : Ty) → o ≡ Some (reference t sig.runs_in) → IsScopeOfExpression code.program id sig.runs_in
  unfolding scope_in
  array_is t e = judged (reference t sig.runs_in) e sig.runs_in refl

  new_is : (class : ℕ) → o ≡ Some (reference (ClassTy class) sig.runs_in) →
      IsScopeOfExpression code.program id sig.runs_in
  new_is class e = array_is (ClassTy class) e

  pub new_flow : (position name_position : _) (name xs : List ℕ) → Inside code.program b c id →
      slice_get code.program.nodes id ≡ Some (New position name_position name xs) → NewFact code b c sig id xs o →
      F (new_ops sub id xs (binding code id) ++ os) ls s
  unfolding new_ops bound_class argument_count
  new_flow position name_position name xs inside there r =
      by_binding (new_ops sub id xs) _ r.is
      (record {
        out = fresh r.class sig.runs_in ∷ s;
        needed = record {
          inside = inside;
          class = r.class;
          is = ap bound_class r.is;
          is_concrete = r.is_concrete;
          lies = r.lies;
          reach = r.reach;
          by_expression = new_is r.class r.is_given;
          leaves = refl;
        };
        goes =
            join2 code b c sig id sub hyp (flat_map sub xs) (CONSTRUCT id ∷ []) os ls _
            (arguments code b c sig id sub hyp xs r.kinds r.arguments_are ls am (CONSTRUCT id ∷ os)
            (fresh r.class sig.runs_in ∷ s) (λ ms m. record {
              out = reference (ClassTy r.class) sig.runs_in ∷ s;
              needed = record {
                class = r.class;
                is = ap bound_class r.is;
                arguments = r.kinds;
                count =
                    ap (at_reading argument_count) there
                    ∙ ap (λ n. Some n) (as_many code b c sig id sub hyp xs r.kinds r.arguments_are);
                others = s;
                takes = refl;
                constructor = r.constructor;
                by_expression = new_is r.class r.is_given;
                leaves = refl;
              };
              goes = next _ r.is_given ms m;
            }));
      })

  pub new_array_flow : (count : ℕ) → NewArrayFact code b c sig id count o →
      F ((sub count ++ ALLOCARRAY id ∷ []) ++ os) ls s
  unfolding bound_class
  new_array_flow count r =
      join2 code b c sig id sub hyp (sub count) (ALLOCARRAY id ∷ []) os ls s
      (value code b c sig id sub hyp count number r.count_is ls am (ALLOCARRAY id ∷ os) s (λ ms m. record {
        out = reference r.type sig.runs_in ∷ s;
        needed = record {
          class = r.class;
          is = ap bound_class r.is;
          slot = r.slot;
          elements = r.elements;
          type = r.type;
          is_type = r.is_type;
          lies = r.lies;
          reach = r.reach;
          others = s;
          takes = refl;
          by_expression = array_is r.type r.is_given;
          leaves = refl;
        };
        goes = next _ r.is_given ms m;
      }))

  pub cast_flow : (operand : ℕ) → CastFact code b c id operand o → F ((sub operand ++ CAST id ∷ []) ++ os) ls s
  unfolding bound_class
  cast_flow operand r =
      join2 code b c sig id sub hyp (sub operand) (CAST id ∷ []) os ls s
      (value code b c sig id sub hyp operand _ r.operand_is ls am (CAST id ∷ os) s (λ ms m. record {
        out = reference (ClassTy r.class) r.seen ∷ s;
        needed = record {
          class = r.class;
          is = ap bound_class r.is;
          type = r.type;
          scope = r.scope;
          others = s;
          takes = refl;
          is_no_array = r.is_no_array;
          seen = r.seen;
          lies = r.lies;
          by_expression = judged _ r.is_given;
          leaves = refl;
        };
        goes = next _ r.is_given ms m;
      }))
