-- Reading a file gives each node that it makes one place, so that a forest stays a forest.
use Rattle.std.proofs.Common.{ap, append-nil, arith, length-append, refl, subst, sym, ◌^◌, ◌∙◌}
use Rattle.std.proofs.lemmas.Bool.{ltb-false, ltb-true}
use Rattle.std.proofs.lemmas.Bool.Decides.{nat_tests}
use Rattle.std.specs.Prelude.{Bool, List, None, Option, Some, [], false, if◌then◌else◌, length, nat_lt, not, slice_get, suc, true, zero, ℕ, ◌&&◌, ◌++◌, ◌+◌, ◌<◌, ◌==◌, ◌∷◌, ◌≡◌, ◌≤◌}
use Rattle.machine_laws.proofs.Growth.{Grown, and_then, below-grows, below-low, below-one, counted, made, none_grown, times-none}
use Rattle.scj_base.specs.Vocabulary.{word_abstract, word_final, word_private, word_protected, word_public, word_static, word_synchronized}
use Rattle.scj_base.specs.declared.positions.Position.{Position}
use Rattle.scj_tree.proofs.ForestLemmas.{AllClasses-append, AllClasses-more, joined-append, times-append}
use Rattle.scj_tree.specs.Counts.{times}
use Rattle.scj_tree.specs.Expressions.{ArgumentRead, ArgumentsBegun, ArgumentsRead, Level, PostRead, Unary1Read, UnaryRead, argument_and_comma, arguments, binary, call_of, cast, complement, element_of, expression_argument, false_value, field_of, minimum_number, minimum_unary, minus, negation, new_booleans, new_ints, new_object, new_references, no_argument_yet, no_arguments, null_value, number, operand, parenthesized, parenthesized_name, plain_unary, post_unary, simple_call, simple_name, text_argument, this_value, tighter, true_value}
use Rattle.scj_tree.specs.Forest.{AllBelow, AllClasses, ChildrenFirst, IsForest, all_children, forest_of, is_class, joined}
use Rattle.scj_tree.specs.Grammar.{ClassRead, ClassesRead, LiteralRead, MemberRead, MembersRead, Tree, bare_method, class, constructor, constructor_with_super, false_literal, field, field_with_value, file, file_of_package, method, negative_literal, no_class, no_member, null_literal, number_literal, one_class_more, one_member_more, true_literal}
use Rattle.scj_tree.specs.Headers.{FlagRow, HeaderRead, InterfacesBegun, ParameterRead, ParametersBegun, ParametersRead, ResultRead, ScopeValue, SuperRead, TypeRead, argument_array, argument_type, bare_scope, boolean_array, boolean_type, class_array, class_type, define_scope_flag, define_scope_flag_parent_first, effectless, extends_header, extends_implements_header, implements_header, int_array, int_type, interface_and_comma, long_result, modifier, no_flag, no_header, no_interface_yet, no_parameter_yet, no_parameters, parameter, parameter_and_comma, parameters, qualified_scope, quoted_scope, runs_in_flag, scope_flag, super_type, super_type_with_argument, typed_result, void_result}
use Rattle.scj_tree.specs.Lexemes.{Lexeme}
use Rattle.scj_tree.specs.Shape.{children, optional}
use Rattle.scj_tree.specs.Statements.{AssignmentRead, LocalTypeRead, StatementRead, StatementsRead, assign_statement, assignment, block, call_statement, compound_assignment, empty, flagged_local, for_assignment, for_local, if_alone, if_else, local, local_with_value, no_statement, one_statement_more, plain_local, return_alone, return_value, step_assignment, while_statement}
use Rattle.scj_tree.specs.Terminals.{add_modifier, flags_at, flags_node, flags_number, has_effect, placed, with_define_scope, with_flags, with_modifier, with_runs_in, with_scope}
use Rattle.scj_tree.specs.declared.nodes.Node.{Node}
use Rattle.scj_tree.specs.declared.parsed_parts.FlagSet.{FlagSet}
use Rattle.scj_tree.specs.declared.parsed_parts.PostKind.{PostKind}
use mathlib.Core.Bool.{true≢false}

-- ---- flags

abbrev ids_of : Option ℕ → Option ℕ → Option ℕ → List ℕ
ids_of a b c = optional a ++ (optional b ++ optional c)

abbrev flag_ids : FlagSet → List ℕ
flag_ids flags = ids_of flags.define_scope flags.scope flags.runs_in

none_is_some : {A : Type 0} {B : Type 0} (a : A) → None ≡ Some a → B
none_is_some {A} {B} a e = let P : Option A → Type 0 = λ x. elim x [ None ↦ Unit {0} | Some y ↦ B ] in subst P e tt

some_is_none : {A : Type 0} {B : Type 0} (a : A) → Some a ≡ None → B
some_is_none a e = none_is_some a (sym e)

abbrev or_place : Position → Option Position → Option Position
or_place p position = elim position [ None ↦ Some p | Some q ↦ Some q ]

placed_somewhere : {B : Type 0} (p : Position) (flags : FlagSet) (position : Option Position) → or_place p position ≡ None → B
placed_somewhere p flags None e = some_is_none p e
placed_somewhere p flags (Some q) e = some_is_none q e

-- flags without a place are none
bare_flags : {is_local : Bool} {N N1 : List Node} {i o : List Lexeme} {flags : FlagSet} →
    FlagRow is_local N i N1 o flags → flags.position ≡ None → flag_ids flags ≡ []
unfolding placed with_scope with_runs_in with_define_scope
bare_flags no_flag e = refl
bare_flags (modifier {more = more} {p = p} d h) e = placed_somewhere p more more.position e
bare_flags (effectless {flags = flags} {p = p} d h a) e = placed_somewhere p flags flags.position e
bare_flags (scope_flag {flags = flags} {p = p} d h v) e = placed_somewhere p flags flags.position e
bare_flags (runs_in_flag {flags = flags} {p = p} d h v) e = placed_somewhere p flags flags.position e
bare_flags (define_scope_flag {flags = flags} {p = p} d h v w) e = placed_somewhere p flags flags.position e
bare_flags (define_scope_flag_parent_first {flags = flags} {p = p} d h v w) e = placed_somewhere p flags flags.position e

-- a modifier leaves the annotations
choose : {A : Type 0} {B : Type 0} (b : Bool) (x y : Option A) (r : Option A) → (x ≡ r → B) → (y ≡ r → B) →
    (if b then x else y) ≡ r → B
choose true x y r f g e = f e
choose false x y r f g e = g e

set_ids : (b : Bool) (new flags more : FlagSet) → flag_ids new ≡ flag_ids flags →
    (if b then None else Some new) ≡ Some more → flag_ids more ≡ flag_ids flags
set_ids true new flags more h e = none_is_some more e
set_ids false new flags more h e = let P : Option FlagSet → Type 0 =
    λ x. elim x [ None ↦ Unit {0} | Some f ↦ flag_ids f ≡ flag_ids flags ] in subst P e h

modifier_ids : (w : ℕ) (flags more : FlagSet) → with_modifier w flags ≡ Some more → flag_ids more ≡ flag_ids flags
unfolding with_modifier
modifier_ids w flags more =
    choose (w == word_public) _ _ (Some more) (set_ids flags.is_public _ flags more refl)
    (choose (w == word_protected) _ _ (Some more) (set_ids flags.is_protected _ flags more refl)
    (choose (w == word_private) _ _ (Some more) (set_ids flags.is_private _ flags more refl)
    (choose (w == word_static) _ _ (Some more) (set_ids flags.is_static _ flags more refl)
    (choose (w == word_final) _ _ (Some more) (set_ids flags.is_final _ flags more refl)
    (choose (w == word_abstract) _ _ (Some more) (set_ids flags.is_abstract _ flags more refl)
    (choose (w == word_synchronized) _ _ (Some more) (set_ids flags.is_synchronized _ flags more refl)
    (none_is_some more)))))))

added_ids : (is_local : Bool) (w : ℕ) (flags more : FlagSet) → add_modifier is_local w flags ≡ Some more →
    flag_ids more ≡ flag_ids flags
unfolding add_modifier
added_ids is_local w flags more = choose (is_local && not (w == word_final)) _ _ (Some more) (none_is_some more)
    (modifier_ids w flags more)

-- flags without effect have no nodes
no_effect : (position : Option Position) (a b c : Option ℕ) (x0 x1 x2 x3 x4 x5 x6 : Bool) →
    has_effect
    (record {
      position = position;
      define_scope = a;
      scope = b;
      runs_in = c;
      is_public = x0;
      is_protected = x1;
      is_private = x2;
      is_static = x3;
      is_final = x4;
      is_abstract = x5;
      is_synchronized = x6;
    }) ≡ false →
    ids_of a b c ≡ []
unfolding has_effect
no_effect position None None None x0 x1 x2 x3 x4 x5 x6 e = refl
no_effect position (Some a) b c x0 x1 x2 x3 x4 x5 x6 e = absurd (true≢false e)
no_effect position None (Some b) c x0 x1 x2 x3 x4 x5 x6 e = absurd (true≢false e)
no_effect position None None (Some c) x0 x1 x2 x3 x4 x5 x6 e = absurd (true≢false e)

scope_value_grown : {N N1 : List Node} {i o : List Lexeme} {id : ℕ} → ScopeValue N i N1 o id → Grown N N1 (id ∷ [])
unfolding children
scope_value_grown (quoted_scope h) = made _ (none_grown _)
scope_value_grown bare_scope = made _ (none_grown _)
scope_value_grown qualified_scope = made _ (none_grown _)

-- a number more among the annotations
scope_times : (a b c : Option ℕ) (id x : ℕ) → b ≡ None →
    times x (ids_of a b c ++ id ∷ []) ≡ times x (ids_of a (Some id) c)
unfolding times
scope_times a (Some b) c id x e = some_is_none b e
scope_times None None None id x e = omega arith
scope_times None None (Some c) id x e = omega arith
scope_times (Some a) None None id x e = omega arith
scope_times (Some a) None (Some c) id x e = omega arith

runs_in_times : (a b c : Option ℕ) (id x : ℕ) → c ≡ None →
    times x (ids_of a b c ++ id ∷ []) ≡ times x (ids_of a b (Some id))
unfolding times
runs_in_times a b (Some c) id x e = some_is_none c e
runs_in_times None None None id x e = omega arith
runs_in_times None (Some b) None id x e = omega arith
runs_in_times (Some a) None None id x e = omega arith
runs_in_times (Some a) (Some b) None id x e = omega arith

define_scope_times : (a b c : Option ℕ) (id x : ℕ) → a ≡ None →
    times x (ids_of a b c ++ id ∷ []) ≡ times x (ids_of (Some id) b c)
unfolding times
define_scope_times (Some a) b c id x e = some_is_none a e
define_scope_times None None None id x e = omega arith
define_scope_times None None (Some c) id x e = omega arith
define_scope_times None (Some b) None id x e = omega arith
define_scope_times None (Some b) (Some c) id x e = omega arith

same_ids : {N N1 : List Node} {a b : List ℕ} → Grown N N1 a → b ≡ a → Grown N N1 b
same_ids g e = counted g (λ x. ap (times x) (sym e))

row_grown : {is_local : Bool} {N N1 : List Node} {i o : List Lexeme} {flags : FlagSet} →
    FlagRow is_local N i N1 o flags → Grown N N1 (flag_ids flags)
unfolding placed with_scope with_runs_in with_define_scope children
row_grown no_flag = none_grown _
row_grown {is_local = is_local} (modifier {flags = flags} {more = more} {w = w} d h) =
    same_ids (row_grown d) (added_ids is_local w flags more h)
row_grown (effectless d h a) = row_grown d
row_grown (scope_flag {flags = flags} {id = id} d h v) =
    counted (and_then (row_grown d) (scope_value_grown v))
    (λ x. scope_times flags.define_scope flags.scope flags.runs_in id x h)
row_grown (runs_in_flag {flags = flags} {id = id} d h v) =
    counted (and_then (row_grown d) (scope_value_grown v))
    (λ x. runs_in_times flags.define_scope flags.scope flags.runs_in id x h)
row_grown (define_scope_flag {N3 = N3} {flags = flags} d h v w) =
    counted (and_then (row_grown d) (made _ (and_then (scope_value_grown v) (scope_value_grown w))))
    (λ x. define_scope_times flags.define_scope flags.scope flags.runs_in (length N3) x h)
row_grown (define_scope_flag_parent_first {N3 = N3} {flags = flags} d h v w) =
    counted (and_then (row_grown d) (made _ (and_then (scope_value_grown v) (scope_value_grown w))))
    (λ x. define_scope_times flags.define_scope flags.scope flags.runs_in (length N3) x h)

-- the flags' node, where there is one
flags_put : (N N1 : List Node) (flags : FlagSet) (effect : Bool) (position : Option Position) →
    (effect ≡ false → flag_ids flags ≡ []) → (position ≡ None → flag_ids flags ≡ []) → Grown N N1 (flag_ids flags) →
    let node : Option Node = if effect then elim position [ None ↦ None | Some p ↦ Some (flags_at p flags) ] else None in
    Grown N (elim node [ None ↦ N1 | Some m ↦ N1 ++ m ∷ [] ])
    (optional (elim node [ None ↦ None | Some m ↦ Some (length N1) ]))
unfolding flags_at children
flags_put N N1 flags false position h k g = same_ids g (sym (h refl))
flags_put N N1 flags true None h k g = same_ids g (sym (k refl))
flags_put N N1 flags true (Some p) h k g = made (flags_at p flags) g

flags_grown : {is_local : Bool} {N N1 : List Node} {i o : List Lexeme} {flags : FlagSet} →
    FlagRow is_local N i N1 o flags → Grown N (with_flags N1 flags) (optional (flags_number N1 flags))
unfolding with_flags flags_number flags_node
flags_grown {N = N} {N1 = N1} {flags = flags} d = flags_put N N1 flags (has_effect flags) flags.position
    (no_effect flags.position flags.define_scope flags.scope flags.runs_in flags.is_public flags.is_protected
    flags.is_private flags.is_static flags.is_final flags.is_abstract flags.is_synchronized)
    (bare_flags d) (row_grown d)

-- ---- types and parameters

type_grown : {N N1 : List Node} {i o : List Lexeme} {id : ℕ} → TypeRead N i N1 o id → Grown N N1 (id ∷ [])
unfolding children
type_grown int_type = made _ (none_grown _)
type_grown int_array = made _ (none_grown _)
type_grown boolean_type = made _ (none_grown _)
type_grown boolean_array = made _ (none_grown _)
type_grown class_type = made _ (none_grown _)
type_grown class_array = made _ (none_grown _)
type_grown (argument_type h) = made _ (made _ (none_grown _))
type_grown (argument_array h) = made _ (made _ (none_grown _))

result_grown : {N N1 : List Node} {i o : List Lexeme} {id : ℕ} → ResultRead N i N1 o id → Grown N N1 (id ∷ [])
unfolding children
result_grown (typed_result d) = type_grown d
result_grown void_result = made _ (none_grown _)
result_grown long_result = made _ (none_grown _)

parameter_grown : {N N1 : List Node} {i o : List Lexeme} {id : ℕ} → ParameterRead N i N1 o id → Grown N N1 (id ∷ [])
unfolding children
parameter_grown (parameter f t) = made _ (and_then (flags_grown f) (type_grown t))

parameters_begun_grown : {N N1 : List Node} {i o : List Lexeme} {ids : List ℕ} → ParametersBegun N i N1 o ids →
    Grown N N1 ids
parameters_begun_grown no_parameter_yet = none_grown _
parameters_begun_grown (parameter_and_comma b d) = and_then (parameters_begun_grown b) (parameter_grown d)

parameters_grown : {N N1 : List Node} {i o : List Lexeme} {id : Option ℕ} → ParametersRead N i N1 o id →
    Grown N N1 (optional id)
unfolding children
parameters_grown no_parameters = none_grown _
parameters_grown (parameters b d) = made _ (and_then (parameters_begun_grown b) (parameter_grown d))

-- ---- heads of classes

super_grown : {N N1 : List Node} {i o : List Lexeme} {id : ℕ} → SuperRead N i N1 o id → Grown N N1 (id ∷ [])
unfolding children
super_grown super_type = made _ (none_grown _)
super_grown (super_type_with_argument h) = made _ (made _ (none_grown _))

interfaces_grown : {N N1 : List Node} {i o : List Lexeme} {ids : List ℕ} → InterfacesBegun N i N1 o ids → Grown N N1 ids
interfaces_grown no_interface_yet = none_grown _
interfaces_grown (interface_and_comma b d) = and_then (interfaces_grown b) (super_grown d)

header_grown : {N N1 : List Node} {i o : List Lexeme} {id : Option ℕ} → HeaderRead N i N1 o id →
    Grown N N1 (optional id)
unfolding children
header_grown no_header = none_grown _
header_grown (extends_header d) = made _ (super_grown d)
header_grown (implements_header b d) = made _ (and_then (interfaces_grown b) (super_grown d))
header_grown (extends_implements_header s b d) =
    made _ (and_then (super_grown s) (and_then (interfaces_grown b) (super_grown d)))

-- ---- expressions

mutual
  unfolding children

  level_grown : {n : ℕ} {N N1 : List Node} {i o : List Lexeme} {id : ℕ} → Level n N i N1 o id → Grown N N1 (id ∷ [])
  level_grown (operand d) = unary_grown d
  level_grown (tighter d) = level_grown d
  level_grown (binary h l r) = made _ (and_then (level_grown l) (level_grown r))

  unary_grown : {N N1 : List Node} {i o : List Lexeme} {id : ℕ} → UnaryRead N i N1 o id → Grown N N1 (id ∷ [])
  unary_grown (minus h d) = made _ (unary_grown d)
  unary_grown (minimum_unary d) = post_grown d
  unary_grown (plain_unary d) = unary1_grown d

  unary1_grown : {N N1 : List Node} {i o : List Lexeme} {id : ℕ} → Unary1Read N i N1 o id → Grown N N1 (id ∷ [])
  unary1_grown (negation d) = made _ (unary_grown d)
  unary1_grown (complement d) = made _ (unary_grown d)
  unary1_grown (cast h d) = made _ (unary1_grown d)
  unary1_grown (post_unary d) = post_grown d

  post_grown : {minimum : Bool} {kind : PostKind} {p : Position} {N N1 : List Node} {i o : List Lexeme} {id : ℕ} →
      PostRead minimum kind p N i N1 o id → Grown N N1 (id ∷ [])
  post_grown simple_name = made _ (none_grown _)
  post_grown (simple_call d) = made _ (arguments_grown d)
  post_grown (field_of d) = made _ (post_grown d)
  post_grown (call_of d e) = made _ (and_then (post_grown d) (arguments_grown e))
  post_grown (element_of h d e) = made _ (and_then (post_grown d) (level_grown e))
  post_grown (number h) = made _ (none_grown _)
  post_grown minimum_number = made _ (none_grown _)
  post_grown true_value = made _ (none_grown _)
  post_grown false_value = made _ (none_grown _)
  post_grown null_value = made _ (none_grown _)
  post_grown this_value = made _ (none_grown _)
  post_grown (parenthesized h d) = made _ (level_grown d)
  post_grown (parenthesized_name h) = made _ (made _ (none_grown _))
  post_grown (new_object d) = made _ (arguments_grown d)
  post_grown (new_ints d) = made _ (and_then (made _ (none_grown _)) (level_grown d))
  post_grown (new_booleans d) = made _ (and_then (made _ (none_grown _)) (level_grown d))
  post_grown (new_references d) = made _ (and_then (made _ (none_grown _)) (level_grown d))

  argument_grown : {N N1 : List Node} {i o : List Lexeme} {id : ℕ} → ArgumentRead N i N1 o id → Grown N N1 (id ∷ [])
  argument_grown (expression_argument d) = level_grown d
  argument_grown text_argument = made _ (none_grown _)

  arguments_begun_grown : {N N1 : List Node} {i o : List Lexeme} {ids : List ℕ} → ArgumentsBegun N i N1 o ids →
      Grown N N1 ids
  arguments_begun_grown no_argument_yet = none_grown _
  arguments_begun_grown (argument_and_comma b d) = and_then (arguments_begun_grown b) (argument_grown d)

  arguments_grown : {N N1 : List Node} {i o : List Lexeme} {ids : List ℕ} → ArgumentsRead N i N1 o ids → Grown N N1 ids
  arguments_grown no_arguments = none_grown _
  arguments_grown (arguments b d) = and_then (arguments_begun_grown b) (argument_grown d)

-- ---- statements

assignment_grown : {N N1 : List Node} {i o : List Lexeme} {id : ℕ} → AssignmentRead N i N1 o id → Grown N N1 (id ∷ [])
unfolding children
assignment_grown (assignment x e) = made _ (and_then (post_grown x) (level_grown e))
assignment_grown (compound_assignment h e) =
    made _ (and_then (made _ (none_grown _)) (made _ (and_then (made _ (none_grown _)) (made _ (level_grown e)))))
assignment_grown (step_assignment h) =
    made _ (and_then (made _ (none_grown _)) (made _ (and_then (made _ (none_grown _)) (made _ (none_grown _)))))

local_type_grown : {N N1 : List Node} {i o : List Lexeme} {flags : Option ℕ} {t : ℕ} → LocalTypeRead N i N1 o flags t →
    Grown N N1 (optional flags ++ t ∷ [])
local_type_grown (plain_local t) = type_grown t
local_type_grown (flagged_local h f t) = and_then (flags_grown f) (type_grown t)

value_behind : (flags : Option ℕ) (t e : ℕ) → optional flags ++ (t ∷ e ∷ []) ≡ (optional flags ++ t ∷ []) ++ e ∷ []
value_behind None t e = refl
value_behind (Some f) t e = refl

mutual
  unfolding children

  statement_grown : {N N1 : List Node} {i o : List Lexeme} {id : ℕ} → StatementRead N i N1 o id → Grown N N1 (id ∷ [])
  statement_grown (block d) = made _ (statements_grown d)
  statement_grown empty = made _ (none_grown _)
  statement_grown (local t) = made _ (local_type_grown t)
  statement_grown (local_with_value {flags = flags} {t = t} {e = e} d v) =
      made _ (same_ids (and_then (local_type_grown d) (level_grown v)) (value_behind flags t e))
  statement_grown (assign_statement d) = assignment_grown d
  statement_grown (call_statement d) = made _ (post_grown d)
  statement_grown (if_alone c s h) = made _ (and_then (level_grown c) (statement_grown s))
  statement_grown (if_else c s e) = made _ (and_then (level_grown c) (and_then (statement_grown s) (statement_grown e)))
  statement_grown (while_statement c s) = made _ (and_then (level_grown c) (statement_grown s))
  statement_grown (for_local t e c u s) =
      made _
      (and_then (made _ (and_then (type_grown t) (level_grown e)))
      (and_then (level_grown c) (and_then (assignment_grown u) (statement_grown s))))
  statement_grown (for_assignment f c u s) =
      made _
      (and_then (assignment_grown f) (and_then (level_grown c) (and_then (assignment_grown u) (statement_grown s))))
  statement_grown return_alone = made _ (none_grown _)
  statement_grown (return_value e) = made _ (level_grown e)

  statements_grown : {N N1 : List Node} {i o : List Lexeme} {ids : List ℕ} → StatementsRead N i N1 o ids →
      Grown N N1 ids
  statements_grown no_statement = none_grown _
  statements_grown (one_statement_more b d) = and_then (statements_grown b) (statement_grown d)

-- ---- members and classes

literal_grown : {N N1 : List Node} {i o : List Lexeme} {id : ℕ} → LiteralRead N i N1 o id → Grown N N1 (id ∷ [])
unfolding children
literal_grown (number_literal h) = made _ (none_grown _)
literal_grown negative_literal = made _ (none_grown _)
literal_grown true_literal = made _ (none_grown _)
literal_grown false_literal = made _ (none_grown _)
literal_grown null_literal = made _ (none_grown _)

member_grown : {N N1 : List Node} {i o : List Lexeme} {id : ℕ} → MemberRead N i N1 o id → Grown N N1 (id ∷ [])
unfolding children
member_grown (field f t) = made _ (and_then (flags_grown f) (type_grown t))
member_grown (field_with_value f t v) = made _ (and_then (flags_grown f) (and_then (type_grown t) (literal_grown v)))
member_grown (bare_method {ps = ps} f t d) =
    made _
    (and_then (flags_grown f) (and_then (result_grown t) (same_ids (parameters_grown d) (append-nil (optional ps)))))
member_grown (method f t d s) =
    made _
    (and_then (flags_grown f) (and_then (result_grown t) (and_then (parameters_grown d) (made _ (statements_grown s)))))
member_grown (constructor f d s) =
    made _ (and_then (flags_grown f) (and_then (parameters_grown d) (made _ (statements_grown s))))
member_grown (constructor_with_super f d a s) =
    made _
    (and_then (flags_grown f)
    (and_then (parameters_grown d) (and_then (made _ (arguments_grown a)) (made _ (statements_grown s)))))

members_grown : {N N1 : List Node} {i o : List Lexeme} {ids : List ℕ} → MembersRead N i N1 o ids → Grown N N1 ids
members_grown no_member = none_grown _
members_grown (one_member_more b d) = and_then (members_grown b) (member_grown d)

class_grown : {N N1 : List Node} {i o : List Lexeme} {id : ℕ} → ClassRead N i N1 o id → Grown N N1 (id ∷ [])
unfolding children
class_grown (class f h m) = made _ (and_then (flags_grown f) (and_then (header_grown h) (members_grown m)))

classes_grown : {N N1 : List Node} {i o : List Lexeme} {ids : List ℕ} → ClassesRead N i N1 o ids → Grown N N1 ids
classes_grown no_class = none_grown _
classes_grown (one_class_more b d) = and_then (classes_grown b) (class_grown d)

-- ---- files

last_got : (N : List Node) (node : Node) → slice_get (N ++ node ∷ []) (length N) ≡ Some node
last_got [] node = refl
last_got (m ∷ N) node = last_got N node

class_is : {N N1 : List Node} {i o : List Lexeme} {id : ℕ} → ClassRead N i N1 o id → AllClasses N1 (id ∷ [])
unfolding AllClasses
class_is (class {N3 = N3} f h m) = ((_, last_got N3 _, is_class), tt)

classes_are : {N N1 : List Node} {i o : List Lexeme} {ids : List ℕ} → ClassesRead N i N1 o ids → AllClasses N1 ids
unfolding AllClasses
classes_are no_class = tt
classes_are (one_class_more {N1 = N1} {N2 = N2} {ids = ids} {id = id} b d) =
    let g = class_grown d in
    let P : List Node → Type 0 = λ M. AllClasses M ids in
    AllClasses-append N2 ids (id ∷ []) (subst P (sym g.whole) (AllClasses-more N1 g.more ids (classes_are b)))
    (class_is d)

pub tree_grown : {N N1 : List Node} {i : List Lexeme} {ids : List ℕ} → Tree N i N1 ids → Grown N N1 ids
tree_grown (file d c) = classes_grown c
tree_grown (file_of_package p d c) = classes_grown c

tree_classes : {N N1 : List Node} {i : List Lexeme} {ids : List ℕ} → Tree N i N1 ids → AllClasses N1 ids
tree_classes (file d c) = classes_are c
tree_classes (file_of_package p d c) = classes_are c

-- a number that is no node's has no place
got_below : (N : List Node) (x : ℕ) (node : Node) → slice_get N x ≡ Some node → x < length N
got_below [] x node e = none_is_some node e
got_below (m ∷ N) zero node e = omega arith
got_below (m ∷ N) (suc x) node e = omega (arith, got_below N x node e)

times-apart : (x y n : ℕ) → y < n → n ≤ x → times x (y ∷ []) ≡ 0
unfolding times
times-apart x y n h k = grind (arith, nat_tests)

no_class_at : (N : List Node) (ids : List ℕ) (x : ℕ) → AllClasses N ids → length N ≤ x → times x ids ≡ 0
unfolding AllClasses
no_class_at N [] x h k = times-none x
no_class_at N (y ∷ ids) x h k =
    omega (
      arith,
      times-append x (y ∷ []) ids,
      times-apart x y (length N) (got_below N y h.0.0 h.0.1) k,
      no_class_at N ids x h.1 k,
    )

none_at : (ids : List ℕ) (n x : ℕ) → AllBelow n ids → n ≤ x → times x ids ≡ 0
unfolding AllBelow
none_at [] n x h k = times-none x
none_at (y ∷ ids) n x h k = omega (arith, times-append x (y ∷ []) ids, times-apart x y n h.0 k, none_at ids n x h.1 k)

no_child_at : (from : ℕ) (N : List Node) (x : ℕ) → ChildrenFirst from N → from + length N ≤ x →
    times x (all_children N) ≡ 0
unfolding ChildrenFirst all_children
no_child_at from [] x h k = times-none x
no_child_at from (m ∷ N) x h k =
    omega (
      arith,
      times-append x (children m) (all_children N),
      none_at (children m) from x h.0 (omega arith),
      no_child_at (from + 1) N x h.1 (omega arith),
    )

one_place_at : (b : Bool) (N N1 : List Node) (files : List (List ℕ)) (ids : List ℕ) (x : ℕ) → nat_lt x (length N) ≡ b →
    IsForest (forest_of N files) → Grown N N1 ids → times x (joined files) + times x ids + times x (all_children N1) ≤ 1
one_place_at true N N1 files ids x e h g =
    omega (
      arith,
      g.once x,
      h.one_place x,
      times-append x (joined files) (all_children N),
      below-grows x (length N) (length g.more),
      ap length g.whole,
      length-append N g.more,
      below-one x (length N1),
      below-low x (length N) (ltb-true x (length N) e),
    )
one_place_at false N N1 files ids x e h g =
    let k : length N ≤ x = ltb-false x (length N) e in
    omega (
      arith,
      g.once x,
      no_class_at N (joined files) x h.classes k,
      no_child_at 0 N x h.children_first (omega arith),
      below-one x (length N1),
    )

-- a tree keeps a forest a forest
pub forest_kept : {N N1 : List Node} {i : List Lexeme} {ids : List ℕ} (files : List (List ℕ)) → Tree N i N1 ids →
    IsForest (forest_of N files) → length files < 16 → length N1 < 2 ^ 32 → IsForest (forest_of N1 (files ++ ids ∷ []))
unfolding joined
forest_kept {N} {N1} {i} {ids} files d h room fits =
    let g = tree_grown d in
    let whole : joined (files ++ ids ∷ []) ≡ joined files ++ ids = joined-append files (ids ∷ [])
    ∙ ap (λ t. joined files ++ t) (append-nil ids) in
    let P : List Node → Type 0 = λ M. AllClasses M (joined files) in
    record {
      children_first = g.first h.children_first;
      one_place =
          λ x. rw whole
          (omega (
            arith,
            one_place_at (nat_lt x (length N)) N N1 files ids x refl h g,
            times-append x (joined files ++ ids) (all_children N1),
            times-append x (joined files) ids,
          ));
      classes =
          rw whole
          (AllClasses-append N1 (joined files) ids
          (subst P (sym g.whole) (AllClasses-more N g.more (joined files) h.classes)) (tree_classes d));
      fits = fits;
      few = rw length-append (omega (arith, room));
    }
