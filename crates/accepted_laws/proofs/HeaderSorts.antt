-- The children of annotations, types, parameters and the heads of classes that were read are of the right sorts.
use Rattle.std.specs.Prelude.{Bool, List, None, Option, Some, [], false, ℕ, ◌++◌, ◌∷◌, ◌≡◌, true, if◌then◌else◌}
use Rattle.std.proofs.Common.{refl, sym, ap, ◌∙◌, subst, true≢false, ◌||◌, ◌==◌}
use Rattle.scj_rules.specs.Words.{is_among}
use Rattle.scj_rules.proofs.ChainLemmas.{or_left, is_same_number}
use Rattle.scj_base.specs.declared.positions.Position.{Position}
use Rattle.scj_tree.specs.declared.nodes.Node.{Node}
use Rattle.scj_tree.specs.declared.nodes.Node.TheVariants.{Flags, DefineScope, TypeArgument}
use Rattle.scj_tree.specs.declared.parsed_parts.FlagSet.{FlagSet}
use Rattle.scj_tree.specs.Lexemes.{Lexeme}
use Rattle.scj_tree.specs.Nodes.{put, next}
use Rattle.scj_tree.specs.Shape.{children, optional}
use Rattle.scj_tree.specs.Terminals.{placed, with_define_scope, with_scope, with_runs_in, add_modifier, with_modifier, unless_there, flags_at, flags_node, has_effect, with_flags, flags_number}
use Rattle.scj_tree.specs.Headers.{ScopeValue, quoted_scope, bare_scope, qualified_scope, FlagRow, no_flag, modifier, effectless, scope_flag, runs_in_flag, define_scope_flag, define_scope_flag_parent_first, TypeRead, int_type, int_array, boolean_type, boolean_array, class_type, class_array, argument_type, argument_array, ResultRead, typed_result, void_result, long_result, ParameterRead, parameter, ParametersBegun, no_parameter_yet, parameter_and_comma, ParametersRead, no_parameters, parameters, SuperRead, super_type, super_type_with_argument, InterfacesBegun, no_interface_yet, interface_and_comma, HeaderRead, no_header, extends_header, implements_header, extends_implements_header}
use Rattle.accepted_laws.specs.Sorts.{OptionOf, HasRightChildren, is_type, is_result, is_type_argument, is_flags, is_define_scope, is_scope_name, is_parameter, is_parameter_list, is_super_type, is_header}
use Rattle.accepted_laws.specs.Intervals.{AreInOrder}
use Rattle.accepted_laws.proofs.SortSteps.{GoesOn, Reads, ReadsOption, ReadsAll, made, stays, goes_then, goes_as, put_in_order, of_later, option_later, of_last, one_more, wider, type_is_result}

-- ---- annotations and modifiers

pub scope_sorted : {N N1 : List Node} {i o : List Lexeme} {id : ℕ} → ScopeValue N i N1 o id → Reads is_scope_name N N1 id
unfolding HasRightChildren children is_scope_name
scope_sorted (quoted_scope e) = made is_scope_name _ stays refl tt
scope_sorted bare_scope = made is_scope_name _ stays refl tt
scope_sorted qualified_scope = made is_scope_name _ stays refl tt

-- the children of the row's node
abbrev row_children : FlagSet → List ℕ
row_children flags = optional flags.define_scope ++ (optional flags.scope ++ optional flags.runs_in)

-- the nodes of a row are of their sorts, and are its children; a row without a place has none
pub record ReadsFlags (N N1 : List Node) (flags : FlagSet) : Type 0 where
  pub ids : List ℕ
  pub goes : GoesOn N N1 ids
  pub same : (child : ℕ) → is_among child ids ≡ is_among child (row_children flags)
  pub none : flags.position ≡ None → ids ≡ []
  pub define_scope : OptionOf is_define_scope N1 flags.define_scope
  pub scope : OptionOf is_scope_name N1 flags.scope
  pub runs_in : OptionOf is_scope_name N1 flags.runs_in

-- a modifier changes none of them
record SameNodes (a b : FlagSet) : Type 0 where
  define_scope : b.define_scope ≡ a.define_scope
  scope : b.scope ≡ a.scope
  runs_in : b.runs_in ≡ a.runs_in

unless_same : (t : Bool) (f g h : FlagSet) → SameNodes f g → unless_there t g ≡ Some h → SameNodes f h
unless_same true f g h s e = absurd (cc (e))
unless_same false f g h s e = (let q : g ≡ h = cc (e) in subst (SameNodes f) q s)

either : (t : Bool) (f h : FlagSet) (a b : Option FlagSet) → (a ≡ Some h → SameNodes f h) → (b ≡ Some h → SameNodes f h) → (if t then a else b) ≡ Some h → SameNodes f h
either true f h a b p q e = p e
either false f h a b p q e = q e

same : {f g : FlagSet} → g.define_scope ≡ f.define_scope → g.scope ≡ f.scope → g.runs_in ≡ f.runs_in → SameNodes f g
same a b c = record { define_scope = a; scope = b; runs_in = c }

none_is : {f h : FlagSet} → None ≡ Some h → SameNodes f h
none_is e = absurd (cc (e))

modifier_same : (w : ℕ) (f h : FlagSet) → with_modifier w f ≡ Some h → SameNodes f h
unfolding with_modifier
modifier_same w f h e =
    either _ f h _ _ (unless_same f.is_public f (record f { is_public = true }) h (same refl refl refl))
    (either _ f h _ _ (unless_same f.is_protected f (record f { is_protected = true }) h (same refl refl refl))
    (either _ f h _ _ (unless_same f.is_private f (record f { is_private = true }) h (same refl refl refl))
    (either _ f h _ _ (unless_same f.is_static f (record f { is_static = true }) h (same refl refl refl))
    (either _ f h _ _ (unless_same f.is_final f (record f { is_final = true }) h (same refl refl refl))
    (either _ f h _ _ (unless_same f.is_abstract f (record f { is_abstract = true }) h (same refl refl refl))
    (either _ f h _ _ (unless_same f.is_synchronized f (record f { is_synchronized = true }) h (same refl refl refl)) none_is))))))
    e

added_same : (is_local : Bool) (w : ℕ) (f h : FlagSet) → add_modifier is_local w f ≡ Some h → SameNodes f h
unfolding add_modifier
added_same is_local w f h e = either _ f h _ _ none_is (modifier_same w f h) e

same_children : (f g : FlagSet) → SameNodes f g → row_children f ≡ row_children g
same_children f g s =
    ap (λ (o : Option ℕ). optional o ++ (optional f.scope ++ optional f.runs_in)) (sym s.define_scope)
    ∙ ap (λ (o : Option ℕ). optional g.define_scope ++ (optional o ++ optional f.runs_in)) (sym s.scope)
    ∙ ap (λ (o : Option ℕ). optional g.define_scope ++ (optional g.scope ++ optional o)) (sym s.runs_in)

has_place : (p : Position) (o : Option Position) → (elim o as (λ _. Option Position) [ None ↦ Some p | Some q ↦ Some q ]) ≡ None → ⊥
has_place p None e = cc (e)
has_place p (Some q) e = cc (e)

placed_is : (p : Position) (flags : FlagSet) → (placed p flags).position ≡ None → ⊥
unfolding placed
placed_is p flags e = has_place p flags.position e

-- a modifier more
modified_sorted : {N N1 : List Node} (p : Position) (f g : FlagSet) → SameNodes f g → ReadsFlags N N1 f → ReadsFlags N N1 (placed p g)
unfolding placed
modified_sorted {N} {N1} p f g s r =
    record {
      ids = r.ids;
      goes = r.goes;
      same = λ child. r.same child ∙ ap (is_among child) (same_children f g s);
      none = λ e. absurd (has_place p g.position e);
      define_scope = subst (OptionOf is_define_scope N1) (sym s.define_scope) r.define_scope;
      scope = subst (OptionOf is_scope_name N1) (sym s.scope) r.scope;
      runs_in = subst (OptionOf is_scope_name N1) (sym s.runs_in) r.runs_in;
    }

among_both : (child : ℕ) (xs ys : List ℕ) → is_among child (xs ++ ys) ≡ (is_among child xs || is_among child ys)
among_both child [] ys = refl
among_both child (x ∷ xs) ys = ap (λ t. (child == x) || t) (among_both child xs ys) ∙ go (child == x)
  where
    go : (t : Bool) → (t || (is_among child xs || is_among child ys)) ≡ ((t || is_among child xs) || is_among child ys)
    go true = refl
    go false = refl

-- one more may stand behind the others, or among them
moved : (a b c d : Bool) → (a || (false || c)) ≡ d → (d || b) ≡ (a || (b || c))
moved true b c d e = ap (λ t. t || b) (sym e)
moved false true c d e = go d
  where
    go : (d : Bool) → (d || true) ≡ true
    go true = refl
    go false = refl
moved false false c d e = ap (λ t. t || false) (sym e) ∙ go c
  where
    go : (c : Bool) → (c || false) ≡ c
    go true = refl
    go false = refl

moved_first : (b c d : Bool) → (false || c) ≡ d → (d || b) ≡ (b || c)
moved_first true c d e = go d
  where
    go : (d : Bool) → (d || true) ≡ true
    go true = refl
    go false = refl
moved_first false c d e = ap (λ t. t || false) (sym e) ∙ go c
  where
    go : (c : Bool) → (c || false) ≡ c
    go true = refl
    go false = refl

moved_last : (a b d : Bool) → (a || false) ≡ d → (d || b) ≡ (a || b)
moved_last true b d e = ap (λ t. t || b) (sym e)
moved_last false b d e = ap (λ t. t || b) (sym e)

-- one node more
added : (child id : ℕ) (ids : List ℕ) → is_among child (ids ++ id ∷ []) ≡ (is_among child ids || is_among child (optional (Some id)))
added child id ids = among_both child ids (id ∷ [])

three_rows : (child : ℕ) (d s r : Option ℕ) → is_among child (optional d ++ (optional s ++ optional r)) ≡ (is_among child (optional d) || (is_among child (optional s) || is_among child (optional r)))
three_rows child d s r =
    among_both child (optional d) (optional s ++ optional r) ∙ ap (λ t. is_among child (optional d) || t) (among_both child (optional s) (optional r))

scoped : {N N1 N2 : List Node} {flags : FlagSet} {id : ℕ} (p : Position) → flags.scope ≡ None → ReadsFlags N N1 flags → Reads is_scope_name N1 N2 id → ReadsFlags N N2 (with_scope id (placed p flags))
unfolding with_scope placed
scoped {flags = flags} {id = id} p e r x =
    record {
      ids = r.ids ++ id ∷ [];
      goes = goes_then r.goes x.goes;
      same = λ child.
          added child id r.ids
          ∙ moved (is_among child (optional flags.define_scope)) (is_among child (optional (Some id))) (is_among child (optional flags.runs_in)) (is_among child r.ids)
          (sym (r.same child ∙ three_rows child flags.define_scope flags.scope flags.runs_in
          ∙ ap (λ (o : Option ℕ). is_among child (optional flags.define_scope) || (is_among child (optional o) || is_among child (optional flags.runs_in))) e))
          ∙ sym (three_rows child flags.define_scope (Some id) flags.runs_in);
      none = λ h. absurd (has_place p flags.position h);
      define_scope = option_later is_define_scope x.goes flags.define_scope r.define_scope;
      scope = x.is;
      runs_in = option_later is_scope_name x.goes flags.runs_in r.runs_in;
    }

running : {N N1 N2 : List Node} {flags : FlagSet} {id : ℕ} (p : Position) → flags.runs_in ≡ None → ReadsFlags N N1 flags → Reads is_scope_name N1 N2 id → ReadsFlags N N2 (with_runs_in id (placed p flags))
unfolding with_runs_in placed
running {flags = flags} {id = id} p e r x =
    record {
      ids = r.ids ++ id ∷ [];
      goes = goes_then r.goes x.goes;
      same = λ child.
          added child id r.ids
          ∙ moved_behind child (is_among child (optional flags.define_scope)) (is_among child (optional flags.scope)) (is_among child (optional (Some id))) (is_among child r.ids)
          (sym (r.same child ∙ three_rows child flags.define_scope flags.scope flags.runs_in
          ∙ ap (λ (o : Option ℕ). is_among child (optional flags.define_scope) || (is_among child (optional flags.scope) || is_among child (optional o))) e))
          ∙ sym (three_rows child flags.define_scope flags.scope (Some id));
      none = λ h. absurd (has_place p flags.position h);
      define_scope = option_later is_define_scope x.goes flags.define_scope r.define_scope;
      scope = option_later is_scope_name x.goes flags.scope r.scope;
      runs_in = x.is;
    }
  where
    moved_behind : (child : ℕ) (a s b d : Bool) → (a || (s || false)) ≡ d → (d || b) ≡ (a || (s || b))
    moved_behind child true s b d e = ap (λ t. t || b) (sym e)
    moved_behind child false s b d e = moved_last s b d e

defining : {N N1 N2 : List Node} {flags : FlagSet} {id : ℕ} (p : Position) → flags.define_scope ≡ None → ReadsFlags N N1 flags → Reads is_define_scope N1 N2 id → ReadsFlags N N2 (with_define_scope id (placed p flags))
unfolding with_define_scope placed
defining {flags = flags} {id = id} p e r x =
    record {
      ids = r.ids ++ id ∷ [];
      goes = goes_then r.goes x.goes;
      same = λ child.
          added child id r.ids
          ∙ moved_first (is_among child (optional (Some id))) (is_among child (optional flags.scope) || is_among child (optional flags.runs_in)) (is_among child r.ids)
          (sym (r.same child ∙ three_rows child flags.define_scope flags.scope flags.runs_in
          ∙ ap (λ (o : Option ℕ). is_among child (optional o) || (is_among child (optional flags.scope) || is_among child (optional flags.runs_in))) e))
          ∙ sym (three_rows child (Some id) flags.scope flags.runs_in);
      none = λ h. absurd (has_place p flags.position h);
      define_scope = x.is;
      scope = option_later is_scope_name x.goes flags.scope r.scope;
      runs_in = option_later is_scope_name x.goes flags.runs_in r.runs_in;
    }

define : {N N1 N2 : List Node} {first second : ℕ} (p : Position) (parent_first : Bool) → Reads is_scope_name N N1 first → Reads is_scope_name N1 N2 second → Reads is_define_scope N (put N2 (DefineScope p first second parent_first)) (next N2)
unfolding HasRightChildren children is_define_scope
define {first = first} {second = second} p parent_first a b = made is_define_scope (DefineScope p first second parent_first) (goes_then a.goes b.goes) refl (of_later is_scope_name b.goes a.is, b.is)

pub row_sorted : {is_local : Bool} {N N1 : List Node} {i o : List Lexeme} {flags : FlagSet} → FlagRow is_local N i N1 o flags → ReadsFlags N N1 flags
row_sorted no_flag = record { ids = []; goes = stays; same = λ child. refl; none = λ e. refl; define_scope = tt; scope = tt; runs_in = tt }
row_sorted (modifier {p = p} d e) = modified_sorted p _ _ (added_same _ _ _ _ e) (row_sorted d)
row_sorted (effectless {p = p} d e a) = modified_sorted p _ _ (same refl refl refl) (row_sorted d)
row_sorted (scope_flag {p = p} d e s) = scoped p e (row_sorted d) (scope_sorted s)
row_sorted (runs_in_flag {p = p} d e s) = running p e (row_sorted d) (scope_sorted s)
row_sorted (define_scope_flag {p = p} d e a b) = defining p e (row_sorted d) (define p false (scope_sorted a) (scope_sorted b))
row_sorted (define_scope_flag_parent_first {p = p} d e a b) = defining p e (row_sorted d) (define p true (scope_sorted a) (scope_sorted b))

-- what has no element is empty
no_element : (ids : List ℕ) → ((child : ℕ) → is_among child ids ≡ false) → ids ≡ []
no_element [] h = refl
no_element (x ∷ ids) h = absurd (true≢false (sym (or_left (x == x) (is_among x ids) (is_same_number x x refl)) ∙ h x))

-- without effect there are no nodes
effectless_row : (flags : FlagSet) → has_effect flags ≡ false → (child : ℕ) → is_among child (row_children flags) ≡ false
unfolding has_effect
effectless_row flags e child = go flags.define_scope flags.scope flags.runs_in e
  where
    go : (d s r : Option ℕ) → has_effect (record flags { define_scope = d; scope = s; runs_in = r }) ≡ false → is_among child (optional d ++ (optional s ++ optional r)) ≡ false
    go None None None h = refl
    go (Some x) s r h = absurd (true≢false h)
    go None (Some x) r h = absurd (true≢false h)
    go None None (Some x) h = absurd (true≢false h)

-- with the node of the row, where there is one
pub flags_sorted : {is_local : Bool} {N N1 : List Node} {i o : List Lexeme} {flags : FlagSet} → FlagRow is_local N i N1 o flags → ReadsOption is_flags N (with_flags N1 flags) (flags_number N1 flags)
unfolding with_flags flags_number flags_node flags_at HasRightChildren children is_flags
flags_sorted {N = N} {N1 = N1} {flags = flags} d = go (has_effect flags) refl flags.position refl
  where
    r : ReadsFlags N N1 flags
    r = row_sorted d

    row : Position → Node
    row p = Flags p flags.define_scope flags.scope flags.runs_in flags.is_static flags.is_abstract flags.is_synchronized

    flag_node : Bool → Option Position → Option Node
    flag_node t o = if t then (elim o as (λ _. Option Node) [ None ↦ None | Some p ↦ Some (row p) ]) else None

    go : (t : Bool) → has_effect flags ≡ t → (o : Option Position) → flags.position ≡ o
        → ReadsOption is_flags N (elim (flag_node t o) as (λ _. List Node) [ None ↦ N1 | Some node ↦ put N1 node ])
        (elim (flag_node t o) as (λ _. Option ℕ) [ None ↦ None | Some node ↦ Some (next N1) ])
    go false e o f = record { goes = goes_as r.ids [] (no_element r.ids (λ child. r.same child ∙ effectless_row flags e child)) r.goes; is = tt }
    go true e None f = record { goes = goes_as r.ids [] (r.none f) r.goes; is = tt }
    go true e (Some p) f =
        let order : AreInOrder (row p) r.ids = record { as_listed = λ h. absurd (true≢false h); same = r.same } in
        record { goes = put_in_order (row p) r.goes order (r.define_scope, r.scope, r.runs_in); is = of_last is_flags N1 (row p) refl }

-- ---- types

argument_made : (N : List Node) (q : Position) (v : List ℕ) → Reads is_type_argument N (put N (TypeArgument q v)) (next N)
unfolding HasRightChildren children is_type_argument
argument_made N q v = made is_type_argument (TypeArgument q v) stays refl tt

pub type_sorted : {N N1 : List Node} {i o : List Lexeme} {id : ℕ} → TypeRead N i N1 o id → Reads is_type N N1 id
unfolding HasRightChildren children is_type
type_sorted int_type = made is_type _ stays refl tt
type_sorted int_array = made is_type _ stays refl tt
type_sorted boolean_type = made is_type _ stays refl tt
type_sorted boolean_array = made is_type _ stays refl tt
type_sorted class_type = made is_type _ stays refl tt
type_sorted class_array = made is_type _ stays refl tt
type_sorted (argument_type {N = N} {v = v} {r = r} e) = let a = argument_made N r v in made is_type _ a.goes refl a.is
type_sorted (argument_array {N = N} {v = v} {r = r} e) = let a = argument_made N r v in made is_type _ a.goes refl a.is

pub result_sorted : {N N1 : List Node} {i o : List Lexeme} {id : ℕ} → ResultRead N i N1 o id → Reads is_result N N1 id
unfolding HasRightChildren children is_result
result_sorted (typed_result d) = wider is_type is_result type_is_result (type_sorted d)
result_sorted void_result = made is_result _ stays refl tt
result_sorted long_result = made is_result _ stays refl tt

-- ---- parameters

pub parameter_sorted : {N N1 : List Node} {i o : List Lexeme} {id : ℕ} → ParameterRead N i N1 o id → Reads is_parameter N N1 id
unfolding HasRightChildren children is_parameter
parameter_sorted (parameter f t) =
    let a = flags_sorted f in let b = type_sorted t in
    made is_parameter _ (goes_then a.goes b.goes) refl (option_later is_flags b.goes _ a.is, b.is)

parameters_begun : {N N1 : List Node} {i o : List Lexeme} {ids : List ℕ} → ParametersBegun N i N1 o ids → ReadsAll is_parameter N N1 ids
parameters_begun no_parameter_yet = record { goes = stays; are = tt }
parameters_begun (parameter_and_comma d a) = one_more is_parameter _ _ (parameters_begun d) (parameter_sorted a)

pub parameters_sorted : {N N1 : List Node} {i o : List Lexeme} {id : Option ℕ} → ParametersRead N i N1 o id → ReadsOption is_parameter_list N N1 id
unfolding HasRightChildren children is_parameter_list
parameters_sorted no_parameters = record { goes = stays; is = tt }
parameters_sorted (parameters d a) =
    let x = one_more is_parameter _ _ (parameters_begun d) (parameter_sorted a) in
    let m = made is_parameter_list _ x.goes refl x.are in record { goes = m.goes; is = m.is }

-- ---- the heads of classes

pub super_sorted : {N N1 : List Node} {i o : List Lexeme} {id : ℕ} → SuperRead N i N1 o id → Reads is_super_type N N1 id
unfolding HasRightChildren children is_super_type
super_sorted super_type = made is_super_type _ stays refl tt
super_sorted (super_type_with_argument {N = N} {v = v} {r = r} e) = let a = argument_made N r v in made is_super_type _ a.goes refl a.is

interfaces_begun : {N N1 : List Node} {i o : List Lexeme} {ids : List ℕ} → InterfacesBegun N i N1 o ids → ReadsAll is_super_type N N1 ids
interfaces_begun no_interface_yet = record { goes = stays; are = tt }
interfaces_begun (interface_and_comma d a) = one_more is_super_type _ _ (interfaces_begun d) (super_sorted a)

pub header_sorted : {N N1 : List Node} {i o : List Lexeme} {id : Option ℕ} → HeaderRead N i N1 o id → ReadsOption is_header N N1 id
unfolding HasRightChildren children is_header
header_sorted no_header = record { goes = stays; is = tt }
header_sorted (extends_header s) = let a = super_sorted s in let m = made is_header _ a.goes refl (a.is, tt) in record { goes = m.goes; is = m.is }
header_sorted (implements_header d s) =
    let x = one_more is_super_type _ _ (interfaces_begun d) (super_sorted s) in
    let m = made is_header _ x.goes refl (tt, x.are) in record { goes = m.goes; is = m.is }
header_sorted (extends_implements_header e d s) =
    let a = super_sorted e in
    let x = one_more is_super_type _ _ (interfaces_begun d) (super_sorted s) in
    let m = made is_header _ (goes_then a.goes x.goes) refl (of_later is_super_type x.goes a.is, x.are) in record { goes = m.goes; is = m.is }
