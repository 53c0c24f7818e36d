-- The machine runs members, classes and files: each file's lexemes lead to its tree.
use Rattle.std.proofs.Common.{ap, refl, sym, ◌∙◌}
use Rattle.std.proofs.lemmas.Bool.{eqb-true}
use Rattle.std.specs.Prelude.{Bool, List, None, Option, Some, [], false, length, not, true, ℕ, ◌&&◌, ◌++◌, ◌==◌, ◌∷◌, ◌≡◌}
use Rattle.machine_laws.proofs.Begins.{and_left, and_right, both, differs, never, not_false, not_true}
use Rattle.machine_laws.proofs.BlocksRun.{no_super, statement_begins, statements_run}
use Rattle.machine_laws.proofs.ExpressionsRun.{arguments_run}
use Rattle.machine_laws.proofs.HeadersRun.{flags_run, imports_run, member_type, package_run, parameter_run, parameters_begun_run, type_opens, type_run}
use Rattle.machine_laws.proofs.Tools.{after, fails, holds, machine}
use Rattle.parser_machine.specs.Files.{super_ended}
use Rattle.parser_machine.specs.Machine.{answer, parsed, start}
use Rattle.parser_machine.specs.States.{at}
use Rattle.parser_machine.specs.declared.entries.Entry.{Entry}
use Rattle.parser_machine.specs.declared.entries.Entry.TheVariants.{BlockOpen, ClassBody, ClassOpen, ConstructorBody, ConstructorOpen, FieldOpen, FileOpen, MemberOpen, MethodBody, MethodOpen, ParametersOpen, SuperCallOpen, SupersOpen}
use Rattle.parser_machine.specs.declared.modes.Mode.{Mode}
use Rattle.parser_machine.specs.declared.modes.Mode.TheVariants.{ClassNamed, ConstructorStart, FileStart, FlagsRead, ImportStart, InClasses, InImports, InMembers, InStatements, LiteralDone, LiteralStart, MemberNamed, MethodNamed, ParametersDone, ParametersFirst, StatementEnd, SuperName, TypeName}
use Rattle.scj_base.specs.Vocabulary.{sign_at, sign_greater, sign_left_parenthesis, sign_less, sign_right_brace, sign_right_parenthesis, word_import, word_package, word_super}
use Rattle.scj_base.specs.declared.positions.Position.{Position}
use Rattle.scj_tree.specs.Grammar.{ClassRead, ClassesRead, LiteralRead, MemberRead, MembersRead, Tree, bare_method, class, constructor, constructor_with_super, false_literal, field, field_with_value, file, file_of_package, method, negative_literal, no_class, no_member, null_literal, number_literal, one_class_more, one_member_more, true_literal}
use Rattle.scj_tree.specs.Headers.{FlagRow, HeaderRead, Imports, InterfacesBegun, ParameterRead, ParametersBegun, ParametersRead, ResultRead, SuperRead, TypeRead, argument_array, argument_type, boolean_array, boolean_type, class_array, class_type, define_scope_flag, define_scope_flag_parent_first, effectless, extends_header, extends_implements_header, implements_header, int_array, int_type, interface_and_comma, long_result, modifier, no_flag, no_header, no_imports, no_interface_yet, no_parameter_yet, no_parameters, parameter, parameter_and_comma, parameters, plain_import, runs_in_flag, scope_flag, static_import, super_type, super_type_with_argument, typed_result, void_result}
use Rattle.scj_tree.specs.Nodes.{put}
use Rattle.scj_tree.specs.Lexemes.{Lexeme, a_name, a_number, a_sign, a_text, a_word, the_end}
use Rattle.scj_tree.specs.Statements.{StatementsRead, no_statement, one_statement_more}
use Rattle.scj_tree.specs.Terminals.{add_modifier, begins_with_sign, begins_with_word, flags_number, no_flags, with_flags, with_modifier}
use Rattle.scj_tree.specs.declared.nodes.Node.{Node}
use Rattle.scj_tree.specs.declared.nodes.Node.TheVariants.{Block, Constructor, Method}
use Rattle.scj_tree.specs.declared.parsed_parts.FlagSet.{FlagSet}
use mathlib.Core.Bool.{true≢false}

-- ---- what a declaration begins with

unfoldable begins_declaration : List Lexeme → Bool
begins_declaration (a_name w p ∷ o) = true
begins_declaration (a_word n p ∷ o) = not (n == word_import) && not (n == word_package)
begins_declaration (a_sign n p ∷ o) = n == sign_at
begins_declaration _ = false

no_modifier : (b : Bool) (n k : ℕ) (flags more : FlagSet) → add_modifier b n flags ≡ Some more →
    add_modifier b k flags ≡ None → (n == k) ≡ false
no_modifier b n k flags more e g =
    decide (n == k) (λ h. none_is_some (sym (sym e ∙ (ap (λ m. add_modifier b m flags) (eqb-true n k h) ∙ g))))
  where
    decide : (c : Bool) → (c ≡ true → Prim.⊥) → c ≡ false
    decide true impossible = absurd (impossible refl)
    decide false impossible = refl

    there : Option FlagSet → Bool
    there None = false
    there (Some x) = true

    none_is_some : None ≡ Some more → Prim.⊥
    none_is_some q = true≢false (sym (ap there q))

import_is_none : (b : Bool) (flags : FlagSet) → add_modifier b word_import flags ≡ None
unfolding add_modifier with_modifier
import_is_none true flags = refl
import_is_none false flags = refl

package_is_none : (b : Bool) (flags : FlagSet) → add_modifier b word_package flags ≡ None
unfolding add_modifier with_modifier
package_is_none true flags = refl
package_is_none false flags = refl

flags_declare : {b : Bool} {N N1 : List Node} {i o : List Lexeme} {flags : FlagSet} → FlagRow b N i N1 o flags →
    begins_declaration o ≡ true → begins_declaration i ≡ true
unfolding begins_declaration
flags_declare no_flag h = h
flags_declare {b = b} (modifier {flags = flags} {more = more} {w = w} d e) h =
    flags_declare d (both _ _ (not_false _ (no_modifier b w word_import flags more e (import_is_none b flags)))
    (not_false _ (no_modifier b w word_package flags more e (package_is_none b flags))))
flags_declare (effectless d e a) h = flags_declare d refl
flags_declare (scope_flag d e v) h = flags_declare d refl
flags_declare (runs_in_flag d e v) h = flags_declare d refl
flags_declare (define_scope_flag d e v x) h = flags_declare d refl
flags_declare (define_scope_flag_parent_first d e v x) h = flags_declare d refl

type_declares : {N N1 : List Node} {i o : List Lexeme} {t : ℕ} → TypeRead N i N1 o t → begins_declaration i ≡ true
unfolding begins_declaration
type_declares int_type = refl
type_declares int_array = refl
type_declares boolean_type = refl
type_declares boolean_array = refl
type_declares class_type = refl
type_declares class_array = refl
type_declares (argument_type e) = refl
type_declares (argument_array e) = refl

result_declares : {N N1 : List Node} {i o : List Lexeme} {t : ℕ} → ResultRead N i N1 o t → begins_declaration i ≡ true
unfolding begins_declaration
result_declares (typed_result d) = type_declares d
result_declares void_result = refl
result_declares long_result = refl

result_opens : {N N1 : List Node} {i o : List Lexeme} {t : ℕ} → ResultRead N i N1 o t →
    begins_with_sign sign_left_parenthesis i ≡ false
unfolding begins_with_sign
result_opens (typed_result d) = type_opens d
result_opens void_result = refl
result_opens long_result = refl

parameter_declares : {N N1 : List Node} {i o : List Lexeme} {id : ℕ} → ParameterRead N i N1 o id →
    begins_declaration i ≡ true
parameter_declares (parameter f t) = flags_declare f (type_declares t)

parameters_declare : {N N1 : List Node} {i o : List Lexeme} {ids : List ℕ} → ParametersBegun N i N1 o ids →
    begins_declaration o ≡ true → begins_declaration i ≡ true
parameters_declare no_parameter_yet h = h
parameters_declare (parameter_and_comma b d) h = parameters_declare b (parameter_declares d)

member_declares : {N N1 : List Node} {i o : List Lexeme} {id : ℕ} → MemberRead N i N1 o id → begins_declaration i ≡ true
unfolding begins_declaration
member_declares (field f t) = flags_declare f (type_declares t)
member_declares (field_with_value f t v) = flags_declare f (type_declares t)
member_declares (bare_method f t ps) = flags_declare f (result_declares t)
member_declares (method f t ps b) = flags_declare f (result_declares t)
member_declares (constructor f ps b) = flags_declare f refl
member_declares (constructor_with_super f ps a b) = flags_declare f refl

class_declares : {N N1 : List Node} {i o : List Lexeme} {id : ℕ} → ClassRead N i N1 o id → begins_declaration i ≡ true
unfolding begins_declaration
class_declares (class f h m) = flags_declare f refl

-- ---- where a declaration is due

first_parameter_run : (p : Position) (N : List Node) (s : List Entry) (i : List Lexeme) → begins_declaration i ≡ true →
    answer (at (ParametersFirst p) s N) i ≡ answer (at (FlagsRead false no_flags) (ParametersOpen p [] ∷ s) N) i
unfolding machine begins_declaration
first_parameter_run p N s [] e = refl
first_parameter_run p N s (a_name w q ∷ o) e = refl
first_parameter_run p N s (a_word n q ∷ o) e = refl
first_parameter_run p N s (a_number n q ∷ o) e = refl
first_parameter_run p N s (a_text w q ∷ o) e = refl
first_parameter_run p N s (a_sign n q ∷ o) e =
    fails _ _ _ o (differs (λ m. m == sign_at) n sign_right_parenthesis e refl)
first_parameter_run p N s (the_end q ∷ o) e = refl

in_members_run : (N : List Node) (s : List Entry) (i : List Lexeme) → begins_declaration i ≡ true →
    answer (at InMembers s N) i ≡ answer (at (FlagsRead false no_flags) s N) i
unfolding machine begins_declaration
in_members_run N s [] e = refl
in_members_run N s (a_name w q ∷ o) e = refl
in_members_run N s (a_word n q ∷ o) e = refl
in_members_run N s (a_number n q ∷ o) e = refl
in_members_run N s (a_text w q ∷ o) e = refl
in_members_run N s (a_sign n q ∷ o) e = fails _ _ _ o (differs (λ m. m == sign_at) n sign_right_brace e refl)
in_members_run N s (the_end q ∷ o) e = refl

in_classes_run : (N : List Node) (s : List Entry) (i : List Lexeme) → begins_declaration i ≡ true →
    answer (at InClasses s N) i ≡ answer (at (FlagsRead false no_flags) s N) i
unfolding machine begins_declaration
in_classes_run N s [] e = refl
in_classes_run N s (a_name w q ∷ o) e = refl
in_classes_run N s (a_word n q ∷ o) e = refl
in_classes_run N s (a_number n q ∷ o) e = refl
in_classes_run N s (a_text w q ∷ o) e = refl
in_classes_run N s (a_sign n q ∷ o) e = refl
in_classes_run N s (the_end q ∷ o) e = never e

-- ---- parameters

parameters_run : {N N1 : List Node} {i o : List Lexeme} {ps : Option ℕ} → ParametersRead N i N1 o ps →
    (m : Mode) (s0 s : List Entry) →
    ((p : Position) (j : List Lexeme) → answer (at m s0 N) (a_sign sign_left_parenthesis p ∷ j) ≡ answer
    (at (ParametersFirst p) s N) j) → answer (at m s0 N) i ≡ answer (at (ParametersDone ps) s N1) o
unfolding machine
parameters_run {o = o} (no_parameters {p = p} {q = q}) m s0 s f = f p (a_sign sign_right_parenthesis q ∷ o)
parameters_run {N = N} (parameters {i = i} {ids = ids} {p = p} b d) m s0 s f =
    f p i
    ∙ (first_parameter_run p N s i (parameters_declare b (parameter_declares d))
    ∙ (parameters_begun_run b p s ∙ parameter_run d p ids s))

-- ---- members

literal_run : {N N1 : List Node} {i o : List Lexeme} {v : ℕ} → LiteralRead N i N1 o v → (s : List Entry) →
    answer (at LiteralStart s N) i ≡ answer (at (LiteralDone v) s N1) o
unfolding machine
literal_run {o = o} (number_literal u) s = fails _ _ _ o u
literal_run negative_literal s = refl
literal_run true_literal s = refl
literal_run false_literal s = refl
literal_run null_literal s = refl

method_head_run : (N : List Node) (flags : FlagSet) {N1 N2 : List Node} {i i1 o : List Lexeme} {t : ℕ} {ps : Option ℕ}
    {w : List ℕ} {p : Position} → ResultRead (with_flags N flags) i N1 (a_name w p ∷ i1) t → ParametersRead N1 i1 N2 o ps →
    (cf : Option ℕ) (cp : Position) (cw : List ℕ) (ch : Option ℕ) (ids : List ℕ) (s : List Entry) →
    answer (at (FlagsRead false flags) (ClassBody cf cp cw ch ids ∷ s) N) i ≡ answer
    (at (ParametersDone ps) (MethodOpen (flags_number N flags) t p w ∷ ClassBody cf cp cw ch ids ∷ s) N2) o
unfolding machine
method_head_run N flags {t = t} {w = w} {p = p} (typed_result d) ps cf cp cw ch ids s =
    member_type d flags cf cp cw ch ids s N
    ∙ (type_run d (MemberOpen (flags_number N flags) ∷ ClassBody cf cp cw ch ids ∷ s)
    ∙ parameters_run ps (MemberNamed (flags_number N flags) t p w) (ClassBody cf cp cw ch ids ∷ s)
    (MethodOpen (flags_number N flags) t p w ∷ ClassBody cf cp cw ch ids ∷ s) (λ q j. refl))
method_head_run N flags {t = t} {w = w} {p = p} void_result ps cf cp cw ch ids s =
    parameters_run ps (MethodNamed (flags_number N flags) t p w) (ClassBody cf cp cw ch ids ∷ s)
    (MethodOpen (flags_number N flags) t p w ∷ ClassBody cf cp cw ch ids ∷ s) (λ q j. refl)
method_head_run N flags {t = t} {w = w} {p = p} long_result ps cf cp cw ch ids s =
    parameters_run ps (MethodNamed (flags_number N flags) t p w) (ClassBody cf cp cw ch ids ∷ s)
    (MethodOpen (flags_number N flags) t p w ∷ ClassBody cf cp cw ch ids ∷ s) (λ q j. refl)

constructor_head_run : (N : List Node) (flags : FlagSet) {N1 : List Node} {i o : List Lexeme} {ps : Option ℕ} →
    ParametersRead (with_flags N flags) i N1 o ps → (w : List ℕ) (p : Position) (cf : Option ℕ) (cp : Position) (cw : List ℕ)
    (ch : Option ℕ) (ids : List ℕ) (s : List Entry) →
    answer (at (FlagsRead false flags) (ClassBody cf cp cw ch ids ∷ s) N) (a_name w p ∷ i) ≡ answer
    (at (ParametersDone ps) (ConstructorOpen (flags_number N flags) p w ∷ ClassBody cf cp cw ch ids ∷ s) N1) o
unfolding machine
constructor_head_run N flags ps w p cf cp cw ch ids s =
    parameters_run ps (TypeName p w) (MemberOpen (flags_number N flags) ∷ ClassBody cf cp cw ch ids ∷ s)
    (ConstructorOpen (flags_number N flags) p w ∷ ClassBody cf cp cw ch ids ∷ s) (λ q j. refl)

method_ends : (b : ℕ) (fl : Option ℕ) (t : ℕ) (p : Position) (w : List ℕ) (ps : Option ℕ) (cf : Option ℕ) (cp : Position)
    (cw : List ℕ) (ch : Option ℕ) (ids : List ℕ) (s : List Entry) (N : List Node) (o : List Lexeme) →
    answer (at (StatementEnd b) (MethodBody fl t p w ps ∷ ClassBody cf cp cw ch ids ∷ s) N) o ≡ answer
    (at InMembers (ClassBody cf cp cw ch (ids ++ length N ∷ []) ∷ s) (put N (Method p w fl t ps (Some b)))) o
unfolding machine
method_ends b fl t p w ps cf cp cw ch ids s N [] = refl
method_ends b fl t p w ps cf cp cw ch ids s N (u ∷ o) = refl

constructor_ends : (b : ℕ) (fl : Option ℕ) (p : Position) (w : List ℕ) (ps sc : Option ℕ) (cf : Option ℕ) (cp : Position)
    (cw : List ℕ) (ch : Option ℕ) (ids : List ℕ) (s : List Entry) (N : List Node) (o : List Lexeme) →
    answer (at (StatementEnd b) (ConstructorBody fl p w ps sc ∷ ClassBody cf cp cw ch ids ∷ s) N) o ≡ answer
    (at InMembers (ClassBody cf cp cw ch (ids ++ length N ∷ []) ∷ s) (put N (Constructor p w fl ps sc b))) o
unfolding machine
constructor_ends b fl p w ps sc cf cp cw ch ids s N [] = refl
constructor_ends b fl p w ps sc cf cp cw ch ids s N (u ∷ o) = refl

statements_begin : {N N1 : List Node} {i o : List Lexeme} {ids : List ℕ} → StatementsRead N i N1 o ids →
    begins_with_word word_super o ≡ false → begins_with_word word_super i ≡ false
statements_begin no_statement h = h
statements_begin (one_statement_more {i1 = i1} b d) h = statements_begin b (no_super i1 (statement_begins d))

constructor_start_run : (q : Position) (N : List Node) (s : List Entry) (i : List Lexeme) →
    begins_with_word word_super i ≡ false →
    answer (at (ConstructorStart q) s N) i ≡ answer (at InStatements (BlockOpen q [] ∷ s) N) i
unfolding machine
constructor_start_run q N s [] e = refl
constructor_start_run q N s (a_name w p ∷ o) e = refl
constructor_start_run q N s (a_word n p ∷ o) e = fails _ _ _ o e
constructor_start_run q N s (a_number n p ∷ o) e = refl
constructor_start_run q N s (a_text w p ∷ o) e = refl
constructor_start_run q N s (a_sign n p ∷ o) e = refl
constructor_start_run q N s (the_end p ∷ o) e = refl

-- what follows the flags of a member
after_flags : {N N1 : List Node} {i : List Lexeme} {id : ℕ} {o : List Lexeme} → MemberRead N i N1 o id →
    (cf : Option ℕ) (cp : Position) (cw : List ℕ) (ch : Option ℕ) (ids : List ℕ) (s : List Entry) →
    answer (at (FlagsRead false no_flags) (ClassBody cf cp cw ch ids ∷ s) N) i ≡ answer
    (at InMembers (ClassBody cf cp cw ch (ids ++ id ∷ []) ∷ s) N1) o
unfolding machine
after_flags (field {N1 = N1} {flags = flags} f t) cf cp cw ch ids s =
    flags_run f (ClassBody cf cp cw ch ids ∷ s) (type_opens t)
    ∙ (member_type t flags cf cp cw ch ids s N1
    ∙ type_run t (MemberOpen (flags_number N1 flags) ∷ ClassBody cf cp cw ch ids ∷ s))
after_flags (field_with_value {N1 = N1} {flags = flags} {t = t} {w = w} {p = p} {q = q} f d v) cf cp cw ch ids s =
    flags_run f (ClassBody cf cp cw ch ids ∷ s) (type_opens d)
    ∙ (member_type d flags cf cp cw ch ids s N1
    ∙ (type_run d (MemberOpen (flags_number N1 flags) ∷ ClassBody cf cp cw ch ids ∷ s)
    ∙ literal_run v (FieldOpen (flags_number N1 flags) t p w q ∷ ClassBody cf cp cw ch ids ∷ s)))
after_flags (bare_method {N1 = N1} {flags = flags} f t ps) cf cp cw ch ids s =
    flags_run f (ClassBody cf cp cw ch ids ∷ s) (result_opens t)
    ∙ method_head_run N1 flags t ps cf cp cw ch ids s
after_flags {o = o}
    (method {N1 = N1} {N4 = N4} {flags = flags} {t = t} {ps = ps} {ids = b} {w = w} {p = p} {q = q} f d e g) cf cp cw ch
    ids s =
    flags_run f (ClassBody cf cp cw ch ids ∷ s) (result_opens d)
    ∙ (method_head_run N1 flags d e cf cp cw ch ids s
    ∙ (statements_run g q (MethodBody (flags_number N1 flags) t p w ps ∷ ClassBody cf cp cw ch ids ∷ s)
    ∙ method_ends (length N4) (flags_number N1 flags) t p w ps cf cp cw ch ids s (put N4 (Block q b)) o))
after_flags {o = o}
    (constructor {N1 = N1} {N2 = N2} {N3 = N3} {i2 = i2} {flags = flags} {ps = ps} {ids = b} {w = w} {p = p} {q = q} f e
    g) cf cp cw ch ids s =
    flags_run f (ClassBody cf cp cw ch ids ∷ s) refl
    ∙ (constructor_head_run N1 flags e w p cf cp cw ch ids s
    ∙ (constructor_start_run q N2 (ConstructorBody (flags_number N1 flags) p w ps None ∷ ClassBody cf cp cw ch ids ∷ s)
    i2 (statements_begin g refl)
    ∙ (statements_run g q (ConstructorBody (flags_number N1 flags) p w ps None ∷ ClassBody cf cp cw ch ids ∷ s)
    ∙ constructor_ends (length N3) (flags_number N1 flags) p w ps None cf cp cw ch ids s (put N3 (Block q b)) o)))
after_flags {o = o}
    (constructor_with_super {N1 = N1} {N3 = N3} {N4 = N4} {flags = flags} {ps = ps} {ids = b} {w = w} {p = p} {q = q}
    {s = r} f e a g) cf cp cw ch ids s =
    flags_run f (ClassBody cf cp cw ch ids ∷ s) refl
    ∙ (constructor_head_run N1 flags e w p cf cp cw ch ids s
    ∙ (arguments_run a (SuperCallOpen q r ∷ ConstructorBody (flags_number N1 flags) p w ps None
    ∷ ClassBody cf cp cw ch ids ∷ s)
    ∙ (statements_run g q (ConstructorBody (flags_number N1 flags) p w ps (Some (length N3)) ∷ ClassBody cf cp cw ch ids
    ∷ s)
    ∙ constructor_ends (length N4) (flags_number N1 flags) p w ps (Some (length N3)) cf cp cw ch ids s
    (put N4 (Block q b)) o)))

members_run : {N N1 : List Node} {i o : List Lexeme} {ids : List ℕ} → MembersRead N i N1 o ids →
    (cf : Option ℕ) (cp : Position) (cw : List ℕ) (ch : Option ℕ) (s : List Entry) →
    answer (at InMembers (ClassBody cf cp cw ch [] ∷ s) N) i ≡ answer (at InMembers (ClassBody cf cp cw ch ids ∷ s) N1)
    o
members_run no_member cf cp cw ch s = refl
members_run (one_member_more {N1 = N1} {i1 = i1} {ids = ids} b d) cf cp cw ch s =
    members_run b cf cp cw ch s
    ∙ (in_members_run N1 (ClassBody cf cp cw ch ids ∷ s) i1 (member_declares d)
    ∙ after_flags d cf cp cw ch ids s)

-- ---- heads of classes

super_sign_run : {N N1 : List Node} {i o : List Lexeme} {n id : ℕ} {q : Position} → SuperRead N i N1 (a_sign n q ∷ o) id →
    (s : List Entry) → (n == sign_less) ≡ false →
    answer (at SuperName s N) i ≡ after (super_ended id N1 s (a_sign n q)) o
unfolding machine
super_sign_run {o = o} super_type s h = fails _ _ _ o h
super_sign_run {o = o} {n = n} {q = q} (super_type_with_argument {v = v} {r = r} {s = u} e) s h =
    holds _ _ _ (a_name v r ∷ a_sign sign_greater u ∷ a_sign n q ∷ o) e

super_word_run : {N N1 : List Node} {i o : List Lexeme} {n id : ℕ} {q : Position} → SuperRead N i N1 (a_word n q ∷ o) id →
    (s : List Entry) → answer (at SuperName s N) i ≡ after (super_ended id N1 s (a_word n q)) o
unfolding machine
super_word_run super_type s = refl
super_word_run {o = o} {n = n} {q = q} (super_type_with_argument {v = v} {r = r} {s = u} e) s =
    holds _ _ _ (a_name v r ∷ a_sign sign_greater u ∷ a_word n q ∷ o) e

interfaces_run : {N N1 : List Node} {i o : List Lexeme} {ids : List ℕ} → InterfacesBegun N i N1 o ids →
    (p : Position) (x : Option ℕ) (s : List Entry) → answer (at SuperName (SupersOpen p false x [] ∷ s) N) i ≡ answer
    (at SuperName (SupersOpen p false x ids ∷ s) N1) o
unfolding machine
interfaces_run no_interface_yet p x s = refl
interfaces_run (interface_and_comma {ids = ids} b d) p x s = interfaces_run b p x s
    ∙ super_sign_run d (SupersOpen p false x ids ∷ s) refl

header_run : {N N1 : List Node} {i o : List Lexeme} {header : Option ℕ} → HeaderRead N i N1 o header →
    (cf : Option ℕ) (cp : Position) (cw : List ℕ) (s : List Entry) →
    answer (at ClassNamed (ClassOpen cf cp cw ∷ s) N) i ≡ answer (at InMembers (ClassBody cf cp cw header [] ∷ s) N1) o
unfolding machine
header_run no_header cf cp cw s = refl
header_run (extends_header {p = p} d) cf cp cw s =
    super_sign_run d (SupersOpen p true None [] ∷ ClassOpen cf cp cw ∷ s) refl
header_run (implements_header {ids = ids} {p = p} b d) cf cp cw s = interfaces_run b p None (ClassOpen cf cp cw ∷ s)
    ∙ super_sign_run d (SupersOpen p false None ids ∷ ClassOpen cf cp cw ∷ s) refl
header_run (extends_implements_header {super = x} {ids = ids} {p = p} d b e) cf cp cw s =
    super_word_run d (SupersOpen p true None [] ∷ ClassOpen cf cp cw ∷ s)
    ∙ (interfaces_run b p (Some x) (ClassOpen cf cp cw ∷ s)
    ∙ super_sign_run e (SupersOpen p false (Some x) ids ∷ ClassOpen cf cp cw ∷ s) refl)

-- ---- classes and files

class_run : {N N1 : List Node} {i o : List Lexeme} {id : ℕ} → ClassRead N i N1 o id → (ids : List ℕ) (s : List Entry) →
    answer (at (FlagsRead false no_flags) (FileOpen ids ∷ s) N) i ≡ answer
    (at InClasses (FileOpen (ids ++ id ∷ []) ∷ s) N1) o
unfolding machine
class_run (class {N1 = N1} {flags = flags} {header = header} {w = w} {p = p} f h m) ids s =
    flags_run f (FileOpen ids ∷ s) refl
    ∙ (header_run h (flags_number N1 flags) p w (FileOpen ids ∷ s)
    ∙ members_run m (flags_number N1 flags) p w header (FileOpen ids ∷ s))

classes_run : {N N1 : List Node} {i o : List Lexeme} {ids : List ℕ} → ClassesRead N i N1 o ids → (s : List Entry) →
    answer (at InClasses (FileOpen [] ∷ s) N) i ≡ answer (at InClasses (FileOpen ids ∷ s) N1) o
classes_run no_class s = refl
classes_run (one_class_more {N1 = N1} {i1 = i1} {ids = ids} b d) s =
    classes_run b s ∙ (in_classes_run N1 (FileOpen ids ∷ s) i1 (class_declares d) ∙ class_run d ids s)

-- no `package` and no `import`
unfoldable imports_over : List Lexeme → Bool
imports_over (a_word n p ∷ o) = not (n == word_import) && not (n == word_package)
imports_over _ = true

declared_over : (i : List Lexeme) → begins_declaration i ≡ true → imports_over i ≡ true
unfolding begins_declaration imports_over
declared_over [] e = refl
declared_over (a_word n p ∷ o) e = e
declared_over (a_name w p ∷ o) e = refl
declared_over (a_number n p ∷ o) e = refl
declared_over (a_text w p ∷ o) e = refl
declared_over (a_sign n p ∷ o) e = refl
declared_over (the_end p ∷ o) e = refl

classes_over : {N N1 : List Node} {i o : List Lexeme} {ids : List ℕ} → ClassesRead N i N1 o ids →
    imports_over o ≡ true → imports_over i ≡ true
classes_over no_class h = h
classes_over (one_class_more {i1 = i1} b d) h = classes_over b (declared_over i1 (class_declares d))

over_run : (s : List Entry) (N : List Node) (i : List Lexeme) → imports_over i ≡ true →
    answer (at InImports s N) i ≡ answer (at InClasses s N) i
unfolding machine imports_over
over_run s N [] e = refl
over_run s N (a_name w p ∷ o) e = refl
over_run s N (a_word n p ∷ o) e =
    fails (n == word_import) (Some (at ImportStart s N)) _ o
    (not_true (n == word_import) (and_left (not (n == word_import)) (not (n == word_package)) e))
over_run s N (a_number n p ∷ o) e = refl
over_run s N (a_text w p ∷ o) e = refl
over_run s N (a_sign n p ∷ o) e = refl
over_run s N (the_end p ∷ o) e = refl

no_package_run : (s : List Entry) (N : List Node) (i : List Lexeme) → imports_over i ≡ true →
    answer (at FileStart s N) i ≡ answer (at InImports s N) i
unfolding machine imports_over
no_package_run s N [] e = refl
no_package_run s N (a_name w p ∷ o) e = refl
no_package_run s N (a_word n p ∷ o) e =
    fails _ _ _ o (not_true (n == word_package) (and_right (not (n == word_import)) (not (n == word_package)) e))
no_package_run s N (a_number n p ∷ o) e = refl
no_package_run s N (a_text w p ∷ o) e = refl
no_package_run s N (a_sign n p ∷ o) e = refl
no_package_run s N (the_end p ∷ o) e = refl

imports_first_run : {i o : List Lexeme} → Imports i o → imports_over o ≡ true → (s : List Entry) (N : List Node) →
    answer (at FileStart s N) i ≡ answer (at InImports s N) i
unfolding machine
imports_first_run {i = i} no_imports h s N = no_package_run s N i h
imports_first_run (plain_import d ds) h s N = refl
imports_first_run (static_import d ds) h s N = refl

-- the machine gives the tree of each file
pub file_run : {N N1 : List Node} {i : List Lexeme} {ids : List ℕ} → Tree N i N1 ids →
    answer (start N) i ≡ Some (parsed N1 ids)
unfolding machine imports_over
file_run {N = N} (file {i1 = i1} d c) =
    imports_first_run d (classes_over c refl) (FileOpen [] ∷ []) N
    ∙ (imports_run d (FileOpen [] ∷ []) N
    ∙ (over_run (FileOpen [] ∷ []) N i1 (classes_over c refl)
    ∙ classes_run c []))
file_run {N = N} (file_of_package {i2 = i2} p d c) =
    package_run p (FileOpen [] ∷ []) N
    ∙ (imports_run d (FileOpen [] ∷ []) N
    ∙ (over_run (FileOpen [] ∷ []) N i2 (classes_over c refl)
    ∙ classes_run c []))
