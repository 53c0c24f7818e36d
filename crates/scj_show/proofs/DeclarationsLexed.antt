-- A text may hold the lexemes of types, flags, parameters and the heads of classes that were read from a source.
use Rattle.std.proofs.Common.{◌≡◌, ℕ, nat_lt, Bool, true, false, List, Option, Some, None, slice_get, refl, ap, ◌∙◌}
use Rattle.scj_tree.specs.declared.nodes.Node.TheVariants.{DefineScope}
use Rattle.scj_base.specs.Vocabulary.{words, word_abstract, word_static, word_synchronized}
use Rattle.scj_tree.specs.declared.nodes.Node.{Node}
use Rattle.scj_tree.specs.declared.parsed_parts.FlagSet.{FlagSet}
use Rattle.scj_tree.specs.Lexemes.{Lexeme}
use Rattle.scj_base.specs.Lexeme.{is_digit, is_letter, is_name, is_name_byte}
use Rattle.scj_tree.specs.Terminals.{with_flags, flags_number, flags_node, flags_at}
use Rattle.scj_tree.specs.Headers.{FlagRow, TypeRead, int_type, int_array, boolean_type, boolean_array, class_type, class_array, argument_type, argument_array, ResultRead, typed_result, void_result, long_result, ParameterRead, parameter, ParametersBegun, no_parameter_yet, parameter_and_comma, ParametersRead, no_parameters, parameters, SuperRead, super_type, super_type_with_argument, InterfacesBegun, no_interface_yet, interface_and_comma, HeaderRead, no_header, extends_header, implements_header, extends_implements_header}
use Rattle.scj_tree.specs.Forest.{ChildrenFirst}
use Rattle.scj_show.specs.Parts.{parts_of, annotation, scope_definition, word_if_set, flag_parts, argument_in_brackets, brackets, class_type_parts, extended}
use Rattle.scj_show.specs.Symbols.{own_symbols}
use Rattle.scj_show.proofs.Sources.{AreOfSource, behind, behind2, name_first, name_is_text}
use Rattle.scj_show.proofs.Rests.{row_rest, type_rest, parameters_begun_rest, super_rest, interfaces_rest}
use Rattle.scj_show.proofs.Again.{Front, front-then, front-put, front-at}
use Rattle.scj_show.proofs.FlagsAgain.{IsScope, IsDefinition, MaybeIs, not_there, is_there, Facts, facts, has_node, with_node, number_of}
use Rattle.scj_show.proofs.HeadersAgain.{type_front, super_front}
use Rattle.scj_show.proofs.DeclarationsAgain.{parameter_front, interfaces_front}
use Rattle.scj_show.proofs.NodesLexed.{IsLexed, AllLexed, none_lexed, MaybeLexed, not_lexed, is_lexed, PartsLexed, last, whole_part, name_part, text_part, word_part, sign_part, node_lexed, and_then, all-put, maybe_lexed, in_parentheses_lexed, implemented_lexed}

-- ---- types

pub type_lexed : {W N N1 : List Node} {i o : List Lexeme} {id : ℕ} → ChildrenFirst 0 W → TypeRead N i N1 o id →
    AreOfSource i → Front N1 W → IsLexed W id
unfolding own_symbols parts_of class_type_parts argument_in_brackets brackets
type_lexed first int_type a f = node_lexed first (front-at _ _ f) refl (word_part refl last)
type_lexed first int_array a f =
    node_lexed first (front-at _ _ f) refl (word_part refl (sign_part refl (sign_part refl last)))
type_lexed first boolean_type a f = node_lexed first (front-at _ _ f) refl (word_part refl last)
type_lexed first boolean_array a f =
    node_lexed first (front-at _ _ f) refl (word_part refl (sign_part refl (sign_part refl last)))
type_lexed first class_type a f = node_lexed first (front-at _ _ f) refl (name_part (name_first a) last)
type_lexed first class_array a f =
    node_lexed first (front-at _ _ f) refl (name_part (name_first a) (sign_part refl (sign_part refl last)))
type_lexed first (argument_type h) a f =
    let argument = node_lexed first (front-at _ _ (front-put _ _ f)) refl (name_part (name_first (behind2 a)) last) in
    node_lexed first (front-at _ _ f) refl
    (name_part (name_first a) (sign_part refl (whole_part argument (sign_part refl last))))
type_lexed first (argument_array h) a f =
    let argument = node_lexed first (front-at _ _ (front-put _ _ f)) refl (name_part (name_first (behind2 a)) last) in
    node_lexed first (front-at _ _ f) refl
    (name_part (name_first a)
    (sign_part refl (whole_part argument (sign_part refl (sign_part refl (sign_part refl last))))))

pub result_lexed : {W N N1 : List Node} {i o : List Lexeme} {id : ℕ} → ChildrenFirst 0 W → ResultRead N i N1 o id →
    AreOfSource i → Front N1 W → IsLexed W id
unfolding own_symbols parts_of
result_lexed first (typed_result d) a f = type_lexed first d a f
result_lexed first void_result a f = node_lexed first (front-at _ _ f) refl (word_part refl last)
result_lexed first long_result a f = node_lexed first (front-at _ _ f) refl (word_part refl last)

-- ---- flags

scope_lexed : {W : List Node} {id : ℕ} → ChildrenFirst 0 W → IsScope W id → IsLexed W id
unfolding own_symbols parts_of
scope_lexed first s = node_lexed first s.there refl (text_part (name_is_text s.name s.is) last)

scopes_lexed : {W : List Node} {x y : ℕ} → IsLexed W x → IsLexed W y → PartsLexed W (scope_definition x y)
unfolding scope_definition is_name is_letter is_digit is_name_byte words
scopes_lexed h k =
    sign_part refl
    (name_part refl
    (sign_part refl
    (name_part refl
    (sign_part refl
    (whole_part h (sign_part refl (name_part refl (sign_part refl (whole_part k (sign_part refl last))))))))))

definition_lexed : {W : List Node} {id : ℕ} → ChildrenFirst 0 W → IsDefinition W id → IsLexed W id
unfolding own_symbols parts_of
definition_lexed {W} {id} first d = go d.parent_first d.there
  where
    go : (b : Bool) → slice_get W id ≡ Some (DefineScope d.position d.first d.second b) → IsLexed W id
    go false e = node_lexed first e refl (scopes_lexed (scope_lexed first d.of_first) (scope_lexed first d.of_second))
    go true e = node_lexed first e refl (scopes_lexed (scope_lexed first d.of_second) (scope_lexed first d.of_first))

annotation_lexed : {W : List Node} {id : Option ℕ} (w : List ℕ) → ChildrenFirst 0 W → is_name w ≡ true →
    MaybeIs (IsScope W) id → PartsLexed W (annotation w id)
unfolding annotation
annotation_lexed w first h not_there = last
annotation_lexed w first h (is_there s) =
    sign_part refl (name_part h (sign_part refl (whole_part (scope_lexed first s) (sign_part refl last))))

defined_lexed : {W : List Node} {id : Option ℕ} → ChildrenFirst 0 W → MaybeIs (IsDefinition W) id → MaybeLexed W id
defined_lexed first not_there = not_lexed
defined_lexed first (is_there d) = is_lexed (definition_lexed first d)

word_lexed : {W : List Node} (b : Bool) (n : ℕ) → nat_lt n 53 ≡ true → PartsLexed W (word_if_set b n)
unfolding word_if_set
word_lexed false n h = last
word_lexed true n h = word_part h last

flag_parts_lexed : {W : List Node} {flags : FlagSet} → ChildrenFirst 0 W → Facts W flags →
    PartsLexed W
    (flag_parts flags.define_scope flags.scope flags.runs_in flags.is_static flags.is_abstract flags.is_synchronized)
unfolding flag_parts is_name is_letter is_digit is_name_byte words
flag_parts_lexed {W} {flags} first k =
    and_then (maybe_lexed (defined_lexed first k.define))
    (and_then (annotation_lexed _ first refl k.scope)
    (and_then (annotation_lexed _ first refl k.runs_in)
    (and_then (word_lexed flags.is_static word_static refl)
    (and_then (word_lexed flags.is_abstract word_abstract refl)
    (word_lexed flags.is_synchronized word_synchronized refl)))))

node_of_flags : {W : List Node} (N : List Node) (flags : FlagSet) (node : Option Node) → ChildrenFirst 0 W →
    (Front N W → Facts W flags) → flags_node flags ≡ node → Front (with_node N node) W → MaybeLexed W (number_of N node)
unfolding own_symbols parts_of flags_at
node_of_flags N flags None first known e f = not_lexed
node_of_flags N flags (Some node) first known e f =
    let h = has_node flags node e in
    is_lexed (node_lexed first (front-at _ _ f ∙ ap Some h.is) refl (flag_parts_lexed first (known (front-put _ _ f))))

pub flags_lexed : {is_local : Bool} {W N N1 : List Node} {i o : List Lexeme} {flags : FlagSet} → ChildrenFirst 0 W →
    FlagRow is_local N i N1 o flags → AreOfSource i → Front (with_flags N1 flags) W →
    MaybeLexed W (flags_number N1 flags)
unfolding with_flags flags_number
flags_lexed {N1 = N1} {flags = flags} first d a f =
    node_of_flags N1 flags (flags_node flags) first (λ g. facts d a g) refl f

-- ---- parameters

parameter_lexed : {W N N1 : List Node} {i o : List Lexeme} {id : ℕ} → ChildrenFirst 0 W → ParameterRead N i N1 o id →
    AreOfSource i → Front N1 W → IsLexed W id
unfolding own_symbols parts_of
parameter_lexed first (parameter d e) a f =
    let f1 = front-put _ _ f in
    let a1 = row_rest d a in
    node_lexed first (front-at _ _ f) refl
    (and_then (maybe_lexed (flags_lexed first d a (front-then (type_front e) f1)))
    (whole_part (type_lexed first e a1 f1) (name_part (name_first (type_rest e a1)) last)))

parameters_begun_lexed : {W N N1 : List Node} {i o : List Lexeme} {ids : List ℕ} → ChildrenFirst 0 W →
    ParametersBegun N i N1 o ids → AreOfSource i → Front N1 W → AllLexed W ids
parameters_begun_lexed first no_parameter_yet a f = none_lexed
parameters_begun_lexed first (parameter_and_comma d e) a f =
    all-put (parameters_begun_lexed first d a (front-then (parameter_front e) f))
    (parameter_lexed first e (parameters_begun_rest d a) f)

pub parameters_lexed : {W N N1 : List Node} {i o : List Lexeme} {id : Option ℕ} → ChildrenFirst 0 W →
    ParametersRead N i N1 o id → AreOfSource i → Front N1 W → MaybeLexed W id
unfolding own_symbols parts_of
parameters_lexed first no_parameters a f = not_lexed
parameters_lexed first (parameters d e) a f =
    let f1 = front-put _ _ f in
    is_lexed
    (node_lexed first (front-at _ _ f) refl
    (in_parentheses_lexed (all-put (parameters_begun_lexed first d (behind a) (front-then (parameter_front e) f1))
    (parameter_lexed first e (parameters_begun_rest d (behind a)) f1))))

-- ---- heads of classes

super_lexed : {W N N1 : List Node} {i o : List Lexeme} {id : ℕ} → ChildrenFirst 0 W → SuperRead N i N1 o id →
    AreOfSource i → Front N1 W → IsLexed W id
unfolding own_symbols parts_of argument_in_brackets
super_lexed first super_type a f = node_lexed first (front-at _ _ f) refl (name_part (name_first a) last)
super_lexed first (super_type_with_argument h) a f =
    let argument = node_lexed first (front-at _ _ (front-put _ _ f)) refl (name_part (name_first (behind2 a)) last) in
    node_lexed first (front-at _ _ f) refl
    (name_part (name_first a) (sign_part refl (whole_part argument (sign_part refl last))))

interfaces_lexed : {W N N1 : List Node} {i o : List Lexeme} {ids : List ℕ} → ChildrenFirst 0 W →
    InterfacesBegun N i N1 o ids → AreOfSource i → Front N1 W → AllLexed W ids
interfaces_lexed first no_interface_yet a f = none_lexed
interfaces_lexed first (interface_and_comma d e) a f =
    all-put (interfaces_lexed first d a (front-then (super_front e) f)) (super_lexed first e (interfaces_rest d a) f)

pub header_lexed : {W N N1 : List Node} {i o : List Lexeme} {id : Option ℕ} → ChildrenFirst 0 W →
    HeaderRead N i N1 o id → AreOfSource i → Front N1 W → MaybeLexed W id
unfolding own_symbols parts_of extended
header_lexed first no_header a f = not_lexed
header_lexed first (extends_header d) a f =
    is_lexed
    (node_lexed first (front-at _ _ f) refl
    (word_part refl (whole_part (super_lexed first d (behind a) (front-put _ _ f)) (implemented_lexed none_lexed))))
header_lexed first (implements_header d e) a f =
    let f1 = front-put _ _ f in
    is_lexed
    (node_lexed first (front-at _ _ f) refl
    (implemented_lexed
    (all-put (interfaces_lexed first d (behind a) (front-then (super_front e) f1))
    (super_lexed first e (interfaces_rest d (behind a)) f1))))
header_lexed first (extends_implements_header d e g) a f =
    let f1 = front-put _ _ f in
    let f2 = front-then (super_front g) f1 in
    let a1 = behind (super_rest d (behind a)) in
    is_lexed
    (node_lexed first (front-at _ _ f) refl
    (word_part refl
    (whole_part (super_lexed first d (behind a) (front-then (interfaces_front e) f2))
    (implemented_lexed
    (all-put (interfaces_lexed first e a1 f2) (super_lexed first g (interfaces_rest e a1) f1))))))
