-- The machine runs headers: imports, flags, types, parameters, and the heads of classes.
use Rattle.std.proofs.Common.{refl, subst, sym, ◌∙◌}
use Rattle.std.specs.Cmp.Lexicographic.{bytes_decides}
use Rattle.std.specs.Prelude.{Bool, List, None, Option, Some, [], codes, false, if◌then◌else◌, length, true, ℕ, ◌++◌, ◌==◌, ◌∷◌, ◌≡◌}
use Rattle.machine_laws.proofs.Tools.{after, fails, holds, is_none_there, is_some_there, machine, next}
use Rattle.parser_machine.specs.Declarations.{pair_ended, plain_ended, type_start, typed, valued}
use Rattle.parser_machine.specs.Machine.{answer}
use Rattle.parser_machine.specs.States.{State, at}
use Rattle.parser_machine.specs.declared.entries.Entry.{Entry}
use Rattle.parser_machine.specs.declared.entries.Entry.TheVariants.{AnnotationOpen, ClassBody, DefineFirst, DefineSecond, LocalOpen, MemberOpen, ParameterOpen, ParametersOpen, RunsInOpen, ScopeOpen, Simple}
use Rattle.parser_machine.specs.declared.modes.Mode.TheVariants.{FlagsRead, ImportDot, ImportEnd, ImportName, ImportStart, InImports, PackageEnd, PackageName, ParameterDone, PlainAssigned, PlainDot, PlainFirst, PlainNext, PlainOpen, PlainPath, ValueStart}
use Rattle.scj_base.specs.Vocabulary.{sign_assign, sign_at, sign_comma, sign_dot, sign_greater, sign_left_bracket, sign_left_parenthesis, sign_right_bracket, sign_right_parenthesis, sign_semicolon}
use Rattle.scj_base.specs.declared.positions.Position.{Position}
use Rattle.scj_tree.specs.Headers.{Dotted, FlagRow, Imported, Imports, ParameterRead, ParametersBegun, PlainArguments, PlainPair, PlainPairs, PlainValue, ScopeValue, TypeRead, argument_array, argument_type, bare_scope, boolean_array, boolean_type, class_array, class_type, define_scope_flag, define_scope_flag_parent_first, dotted_longer, dotted_name, effectless, empty_parentheses, imported_all, imported_name, int_array, int_type, last_pair, modifier, more_pairs, named_value, no_flag, no_imports, no_parameter_yet, no_parentheses, pairs_in_parentheses, parameter, parameter_and_comma, plain_dotted, plain_false, plain_import, plain_text, plain_true, qualified_scope, quoted_scope, runs_in_flag, scope_flag, static_import, value_alone}
use Rattle.scj_tree.specs.Nodes.{put}
use Rattle.scj_tree.specs.Lexemes.{Lexeme, a_name, a_number, a_sign, a_text, a_word, the_end}
use Rattle.scj_base.specs.Bytes.{is_same}
use Rattle.scj_tree.specs.Terminals.{add_modifier, begins_with_sign, flags_number, is_effectless, no_flags, placed, has_type_argument, with_define_scope, with_flags, with_runs_in, with_scope}
use Rattle.scj_tree.specs.declared.nodes.Node.{Node}
use Rattle.scj_tree.specs.declared.nodes.Node.TheVariants.{DefineScope, Parameter, ScopeName}
use Rattle.scj_tree.specs.declared.parsed_parts.FlagSet.{FlagSet}

-- ---- packages and imports

pub package_run : {i o : List Lexeme} → Dotted i o → (s : List Entry) (N : List Node) →
    answer (at PackageName s N) i ≡ answer (at PackageEnd s N) o
unfolding machine
package_run dotted_name s N = refl
package_run (dotted_longer d) s N = package_run d s N

import_dot_run : {i o : List Lexeme} → Dotted i o → (s : List Entry) (N : List Node) →
    answer (at ImportDot s N) i ≡ answer (at ImportEnd s N) o
unfolding machine
import_dot_run dotted_name s N = refl
import_dot_run (dotted_longer d) s N = import_dot_run d s N

import_name_run : {i o : List Lexeme} → Dotted i o → (s : List Entry) (N : List Node) →
    answer (at ImportName s N) i ≡ answer (at ImportEnd s N) o
unfolding machine
import_name_run dotted_name s N = refl
import_name_run (dotted_longer d) s N = import_dot_run d s N

import_start_run : {i o : List Lexeme} → Dotted i o → (s : List Entry) (N : List Node) →
    answer (at ImportStart s N) i ≡ answer (at ImportEnd s N) o
unfolding machine
import_start_run dotted_name s N = refl
import_start_run (dotted_longer d) s N = import_dot_run d s N

plain_import_run : {i o : List Lexeme} {p : Position} → Imported i (a_sign sign_semicolon p ∷ o) →
    (s : List Entry) (N : List Node) → answer (at ImportStart s N) i ≡ answer (at InImports s N) o
unfolding machine
plain_import_run (imported_name d) s N = import_start_run d s N
plain_import_run (imported_all d) s N = import_start_run d s N

static_import_run : {i o : List Lexeme} {p : Position} → Imported i (a_sign sign_semicolon p ∷ o) →
    (s : List Entry) (N : List Node) → answer (at ImportName s N) i ≡ answer (at InImports s N) o
unfolding machine
static_import_run (imported_name d) s N = import_name_run d s N
static_import_run (imported_all d) s N = import_name_run d s N

pub imports_run : {i o : List Lexeme} → Imports i o → (s : List Entry) (N : List Node) →
    answer (at InImports s N) i ≡ answer (at InImports s N) o
unfolding machine
imports_run no_imports s N = refl
imports_run (plain_import d ds) s N = plain_import_run d s N ∙ imports_run ds s N
imports_run (static_import d ds) s N = static_import_run d s N ∙ imports_run ds s N

-- ---- annotations without effect

plain_dot_run : {i o : List Lexeme} → Dotted i o → (s : List Entry) (N : List Node) →
    answer (at PlainDot s N) i ≡ answer (at PlainPath s N) o
unfolding machine
plain_dot_run dotted_name s N = refl
plain_dot_run (dotted_longer d) s N = plain_dot_run d s N

-- a pair and the comma or `)` behind it
alone_run : {i o : List Lexeme} {n : ℕ} {p : Position} → PlainValue i (a_sign n p ∷ o) → (s : List Entry) (N : List Node) →
    (n == sign_dot) ≡ false → (n == sign_assign) ≡ false → answer (at PlainNext s N) i ≡ after (pair_ended N s n) o
unfolding machine
alone_run plain_text s N h g = refl
alone_run (plain_dotted dotted_name) s N h g = fails _ _ _ _ g ∙ fails _ _ _ _ h
alone_run (plain_dotted (dotted_longer d)) s N h g = plain_dot_run d s N ∙ fails _ _ _ _ h
alone_run plain_true s N h g = refl
alone_run plain_false s N h g = refl

named_run : {i o : List Lexeme} {n : ℕ} {p : Position} → PlainValue i (a_sign n p ∷ o) → (s : List Entry) (N : List Node) →
    (n == sign_dot) ≡ false → answer (at PlainAssigned s N) i ≡ after (pair_ended N s n) o
unfolding machine
named_run plain_text s N h = refl
named_run (plain_dotted dotted_name) s N h = fails _ _ _ _ h
named_run (plain_dotted (dotted_longer d)) s N h = plain_dot_run d s N ∙ fails _ _ _ _ h
named_run plain_true s N h = refl
named_run plain_false s N h = refl

pair_run : {i o : List Lexeme} {n : ℕ} {p : Position} → PlainPair i (a_sign n p ∷ o) → (s : List Entry) (N : List Node) →
    (n == sign_dot) ≡ false → (n == sign_assign) ≡ false → answer (at PlainNext s N) i ≡ after (pair_ended N s n) o
unfolding machine
pair_run (value_alone v) s N h g = alone_run v s N h g
pair_run (named_value v) s N h g = named_run v s N h

pairs_run : {i o : List Lexeme} → PlainPairs i o → (s : List Entry) (N : List Node) →
    answer (at PlainNext s N) i ≡ after (plain_ended N s) o
unfolding machine
pairs_run (last_pair v) s N = pair_run v s N refl refl
pairs_run (more_pairs v vs) s N = pair_run v s N refl refl ∙ pairs_run vs s N

-- the first pair is no `)`
value_first : {i o : List Lexeme} → PlainValue i o → (s : List Entry) (N : List Node) →
    answer (at PlainFirst s N) i ≡ answer (at PlainNext s N) i
unfolding machine
value_first plain_text s N = refl
value_first (plain_dotted dotted_name) s N = refl
value_first (plain_dotted (dotted_longer d)) s N = refl
value_first plain_true s N = refl
value_first plain_false s N = refl

pair_first : {i o : List Lexeme} → PlainPair i o → (s : List Entry) (N : List Node) →
    answer (at PlainFirst s N) i ≡ answer (at PlainNext s N) i
unfolding machine
pair_first (value_alone v) s N = value_first v s N
pair_first (named_value v) s N = refl

pairs_first : {i o : List Lexeme} → PlainPairs i o → (s : List Entry) (N : List Node) →
    answer (at PlainFirst s N) i ≡ answer (at PlainNext s N) i
pairs_first (last_pair v) s N = pair_first v s N
pairs_first (more_pairs v vs) s N = pair_first v s N

no_parentheses_run : (o : List Lexeme) (b : Bool) (flags : FlagSet) (s : List Entry) (N : List Node) →
    begins_with_sign sign_left_parenthesis o ≡ false → answer (at PlainOpen (AnnotationOpen b flags ∷ s) N) o ≡ answer
    (at (FlagsRead b flags) s N) o
unfolding machine
no_parentheses_run [] b flags s N h = refl
no_parentheses_run (a_name w p ∷ o) b flags s N h = refl
no_parentheses_run (a_word n p ∷ o) b flags s N h = refl
no_parentheses_run (a_number n p ∷ o) b flags s N h = refl
no_parentheses_run (a_text w p ∷ o) b flags s N h = refl
no_parentheses_run (a_sign n p ∷ o) b flags s N h = fails _ _ _ _ h
no_parentheses_run (the_end p ∷ o) b flags s N h = refl

plain_run : {i o : List Lexeme} → PlainArguments i o → (b : Bool) (flags : FlagSet) (s : List Entry) (N : List Node) →
    begins_with_sign sign_left_parenthesis o ≡ false → answer (at PlainOpen (AnnotationOpen b flags ∷ s) N) i ≡ answer
    (at (FlagsRead b flags) s N) o
unfolding machine
plain_run (no_parentheses {o = o}) b flags s N h = no_parentheses_run o b flags s N h
plain_run empty_parentheses b flags s N h = refl
plain_run (pairs_in_parentheses ps) b flags s N h = pairs_first ps (AnnotationOpen b flags ∷ s) N
    ∙ pairs_run ps (AnnotationOpen b flags ∷ s) N

-- ---- annotations and modifiers

-- the name `Scope` where no dot stands behind it
same_is : (w v : List ℕ) → is_same w v ≡ true → w ≡ v
same_is w v e = (bytes_decides w v).0 e

bare_scope_name : (N : List Node) (p : Position) (o : List Lexeme) (n : ℕ) (q : Position) (s : List Entry) →
    (n == sign_dot) ≡ false → answer (at ValueStart s N) (a_name (codes "Scope") p ∷ a_sign n q ∷ o) ≡ after
    (valued (length N) (put N (ScopeName p (codes "Scope"))) s n) o
unfolding machine
bare_scope_name N p o n q s h = fails _ _ _ _ h

bare_run : (N : List Node) (w : List ℕ) (p : Position) (o : List Lexeme) (n : ℕ) (q : Position) (s : List Entry) →
    (n == sign_dot) ≡ false → (b : Bool) → is_same w (codes "Scope") ≡ b →
    answer (at ValueStart s N) (a_name w p ∷ a_sign n q ∷ o) ≡ after (valued (length N) (put N (ScopeName p w)) s n) o
unfolding machine
bare_run N w p o n q s h false e = fails _ _ _ (a_sign n q ∷ o) e
bare_run N w p o n q s h true e =
    subst
    (λ v. answer (at ValueStart s N) (a_name v p ∷ a_sign n q ∷ o) ≡ after
    (valued (length N) (put N (ScopeName p v)) s n) o) (sym (same_is w (codes "Scope") e))
    (bare_scope_name N p o n q s h)

value_run : {N N1 : List Node} {i o : List Lexeme} {n id : ℕ} {q : Position} → ScopeValue N i N1 (a_sign n q ∷ o) id →
    (s : List Entry) → (n == sign_dot) ≡ false → answer (at ValueStart s N) i ≡ after (valued id N1 s n) o
unfolding machine
value_run {o = o} {n = n} {q = q} (quoted_scope e) s h = holds _ _ _ (a_sign n q ∷ o) e
value_run bare_scope s h = bare_run _ _ _ _ _ _ s h _ refl
value_run qualified_scope s h = refl

-- a modifier
modifier_run : (N : List Node) (w : ℕ) (p : Position) (o : List Lexeme) (b : Bool) (flags more : FlagSet) (s : List Entry) →
    add_modifier b w flags ≡ Some more → answer (at (FlagsRead b flags) s N) (a_word w p ∷ o) ≡ answer
    (at (FlagsRead b (placed p more)) s N) o
unfolding machine
modifier_run N w p o b flags more s e = is_some_there _ _ _ _ _ e

effectless_run : (N : List Node) (w : List ℕ) (p q : Position) (i : List Lexeme) (b : Bool) (flags : FlagSet)
    (s : List Entry) → is_effectless w ≡ true → answer (at (FlagsRead b flags) s N) (a_sign sign_at p ∷ a_name w q ∷ i)
    ≡ answer (at PlainOpen (AnnotationOpen b (placed p flags) ∷ s) N) i
unfolding machine
effectless_run N w p q i b flags s e = holds _ _ _ _ e

scope_run : (N : List Node) (p q r : Position) (i : List Lexeme) (b : Bool) (flags : FlagSet) (s : List Entry) →
    flags.scope ≡ None →
    answer (at (FlagsRead b flags) s N) (a_sign sign_at p ∷ a_name (codes "Scope") q ∷ a_sign sign_left_parenthesis r
    ∷ i) ≡ answer (at ValueStart (ScopeOpen ∷ AnnotationOpen b (placed p flags) ∷ s) N) i
unfolding machine
scope_run N p q r i b flags s e = is_none_there _ _ _ (a_sign sign_left_parenthesis r ∷ i) e

runs_in_run : (N : List Node) (p q r : Position) (i : List Lexeme) (b : Bool) (flags : FlagSet) (s : List Entry) →
    flags.runs_in ≡ None →
    answer (at (FlagsRead b flags) s N) (a_sign sign_at p ∷ a_name (codes "RunsIn") q ∷ a_sign sign_left_parenthesis r
    ∷ i) ≡ answer (at ValueStart (RunsInOpen ∷ AnnotationOpen b (placed p flags) ∷ s) N) i
unfolding machine
runs_in_run N p q r i b flags s e = is_none_there _ _ _ (a_sign sign_left_parenthesis r ∷ i) e

name_first_run : (N : List Node) (p q r u v : Position) (i : List Lexeme) (b : Bool) (flags : FlagSet) (s : List Entry) →
    flags.define_scope ≡ None → answer (at (FlagsRead b flags) s N) (a_sign sign_at p ∷ a_name (codes "DefineScope") q
    ∷ a_sign sign_left_parenthesis r ∷ a_name (codes "name") u ∷ a_sign sign_assign v ∷ i) ≡ answer
    (at ValueStart (DefineFirst p false ∷ AnnotationOpen b (placed p flags) ∷ s) N) i
unfolding machine
name_first_run N p q r u v i b flags s e =
    is_none_there _ _ _ (a_sign sign_left_parenthesis r ∷ a_name (codes "name") u ∷ a_sign sign_assign v ∷ i) e

parent_first_run : (N : List Node) (p q r u v : Position) (i : List Lexeme) (b : Bool) (flags : FlagSet) (s : List Entry) →
    flags.define_scope ≡ None → answer (at (FlagsRead b flags) s N) (a_sign sign_at p ∷ a_name (codes "DefineScope") q
    ∷ a_sign sign_left_parenthesis r ∷ a_name (codes "parent") u ∷ a_sign sign_assign v ∷ i) ≡ answer
    (at ValueStart (DefineFirst p true ∷ AnnotationOpen b (placed p flags) ∷ s) N) i
unfolding machine
parent_first_run N p q r u v i b flags s e =
    is_none_there _ _ _ (a_sign sign_left_parenthesis r ∷ a_name (codes "parent") u ∷ a_sign sign_assign v ∷ i) e

scope_value_run : {N N1 : List Node} {i o : List Lexeme} {id : ℕ} {u : Position} →
    ScopeValue N i N1 (a_sign sign_right_parenthesis u ∷ o) id → (b : Bool) (flags : FlagSet) (s : List Entry) →
    answer (at ValueStart (ScopeOpen ∷ AnnotationOpen b flags ∷ s) N) i ≡ answer
    (at (FlagsRead b (with_scope id flags)) s N1) o
unfolding machine
scope_value_run v b flags s = value_run v (ScopeOpen ∷ AnnotationOpen b flags ∷ s) refl

runs_in_value_run : {N N1 : List Node} {i o : List Lexeme} {id : ℕ} {u : Position} →
    ScopeValue N i N1 (a_sign sign_right_parenthesis u ∷ o) id → (b : Bool) (flags : FlagSet) (s : List Entry) →
    answer (at ValueStart (RunsInOpen ∷ AnnotationOpen b flags ∷ s) N) i ≡ answer
    (at (FlagsRead b (with_runs_in id flags)) s N1) o
unfolding machine
runs_in_value_run v b flags s = value_run v (RunsInOpen ∷ AnnotationOpen b flags ∷ s) refl

name_value_run : {N N1 : List Node} {i o : List Lexeme} {id : ℕ} {u x y : Position} →
    ScopeValue N i N1 (a_sign sign_comma u ∷ a_name (codes "parent") x ∷ a_sign sign_assign y ∷ o) id →
    (p : Position) (s : List Entry) → answer (at ValueStart (DefineFirst p false ∷ s) N) i ≡ answer
    (at ValueStart (DefineSecond p false id ∷ s) N1) o
unfolding machine
name_value_run v p s = value_run v (DefineFirst p false ∷ s) refl

parent_value_run : {N N1 : List Node} {i o : List Lexeme} {id : ℕ} {u x y : Position} →
    ScopeValue N i N1 (a_sign sign_comma u ∷ a_name (codes "name") x ∷ a_sign sign_assign y ∷ o) id →
    (p : Position) (s : List Entry) → answer (at ValueStart (DefineFirst p true ∷ s) N) i ≡ answer
    (at ValueStart (DefineSecond p true id ∷ s) N1) o
unfolding machine
parent_value_run v p s = value_run v (DefineFirst p true ∷ s) refl

second_value_run : {N N1 : List Node} {i o : List Lexeme} {id : ℕ} {u : Position} →
    ScopeValue N i N1 (a_sign sign_right_parenthesis u ∷ o) id → (p : Position) (first : ℕ) (parent_first : Bool) (b : Bool)
    (flags : FlagSet) (s : List Entry) →
    answer (at ValueStart (DefineSecond p parent_first first ∷ AnnotationOpen b flags ∷ s) N) i ≡ answer
    (at (FlagsRead b (with_define_scope (length N1) flags)) s (put N1 (DefineScope p first id parent_first))) o
unfolding machine
second_value_run v p first parent_first b flags s =
    value_run v (DefineSecond p parent_first first ∷ AnnotationOpen b flags ∷ s) refl

pub flags_run : {b : Bool} {N N1 : List Node} {i o : List Lexeme} {flags : FlagSet} → FlagRow b N i N1 o flags →
    (s : List Entry) → begins_with_sign sign_left_parenthesis o ≡ false →
    answer (at (FlagsRead b no_flags) s N) i ≡ answer (at (FlagsRead b flags) s N1) o
unfolding begins_with_sign
flags_run no_flag s h = refl
flags_run (modifier d e) s h = flags_run d s refl ∙ modifier_run _ _ _ _ _ _ _ s e
flags_run (effectless d e a) s h = flags_run d s refl ∙ (effectless_run _ _ _ _ _ _ _ s e ∙ plain_run a _ _ s _ h)
flags_run (scope_flag d e v) s h = flags_run d s refl ∙ (scope_run _ _ _ _ _ _ _ s e ∙ scope_value_run v _ _ s)
flags_run (runs_in_flag d e v) s h = flags_run d s refl ∙ (runs_in_run _ _ _ _ _ _ _ s e ∙ runs_in_value_run v _ _ s)
flags_run (define_scope_flag d e v x) s h = flags_run d s refl
    ∙ (name_first_run _ _ _ _ _ _ _ _ _ s e ∙ (name_value_run v _ _ ∙ second_value_run x _ _ _ _ _ s))
flags_run (define_scope_flag_parent_first d e v x) s h = flags_run d s refl
    ∙ (parent_first_run _ _ _ _ _ _ _ _ _ s e ∙ (parent_value_run v _ _ ∙ second_value_run x _ _ _ _ _ s))

-- ---- types

argument_holds : (w : List ℕ) (x : Option State) (o : List Lexeme) → has_type_argument w ≡ true →
    after (if has_type_argument w then x else None) o ≡ after x o
argument_holds w x o e = holds (has_type_argument w) x None o e

pub type_run : {N N1 : List Node} {i o : List Lexeme} {t : ℕ} {w : List ℕ} {p : Position} →
    TypeRead N i N1 (a_name w p ∷ o) t → (s : List Entry) →
    next (type_start N s) i ≡ next (typed t N1 s) (a_name w p ∷ o)
unfolding machine
type_run int_type s = refl
type_run int_array s = refl
type_run boolean_type s = refl
type_run boolean_array s = refl
type_run class_type s = refl
type_run class_array s = refl
type_run {o = o} {w = x} {p = y} (argument_type {v = v} {r = r} {s = u} e) s =
    holds _ _ _ (a_name v r ∷ a_sign sign_greater u ∷ a_name x y ∷ o) e
type_run {o = o} {w = x} {p = y} (argument_array {v = v} {r = r} {s = u} {x = a} {y = b} e) s =
    holds _ _ _ (a_name v r ∷ a_sign sign_greater u ∷ a_sign sign_left_bracket a ∷ a_sign sign_right_bracket b
    ∷ a_name x y ∷ o) e

-- a type begins with no `(`
pub type_opens : {N N1 : List Node} {i o : List Lexeme} {t : ℕ} → TypeRead N i N1 o t →
    begins_with_sign sign_left_parenthesis i ≡ false
unfolding begins_with_sign
type_opens int_type = refl
type_opens int_array = refl
type_opens boolean_type = refl
type_opens boolean_array = refl
type_opens class_type = refl
type_opens class_array = refl
type_opens (argument_type e) = refl
type_opens (argument_array e) = refl

-- where flags end before a type
pub parameter_type : {N N1 : List Node} {i o : List Lexeme} {t : ℕ} → TypeRead N i N1 o t →
    (flags : FlagSet) (p : Position) (ids : List ℕ) (s : List Entry) (M : List Node) →
    answer (at (FlagsRead false flags) (ParametersOpen p ids ∷ s) M) i ≡ next
    (type_start (with_flags M flags) (ParameterOpen (flags_number M flags) ∷ ParametersOpen p ids ∷ s)) i
unfolding machine
parameter_type int_type flags p ids s M = refl
parameter_type int_array flags p ids s M = refl
parameter_type boolean_type flags p ids s M = refl
parameter_type boolean_array flags p ids s M = refl
parameter_type class_type flags p ids s M = refl
parameter_type class_array flags p ids s M = refl
parameter_type (argument_type e) flags p ids s M = refl
parameter_type (argument_array e) flags p ids s M = refl

pub local_type : {N N1 : List Node} {i o : List Lexeme} {t : ℕ} → TypeRead N i N1 o t →
    (flags : FlagSet) (s : List Entry) (M : List Node) → answer (at (FlagsRead true flags) (Simple ∷ s) M) i ≡ next
    (type_start (with_flags M flags) (LocalOpen (flags_number M flags) ∷ Simple ∷ s)) i
unfolding machine
local_type int_type flags s M = refl
local_type int_array flags s M = refl
local_type boolean_type flags s M = refl
local_type boolean_array flags s M = refl
local_type class_type flags s M = refl
local_type class_array flags s M = refl
local_type (argument_type e) flags s M = refl
local_type (argument_array e) flags s M = refl

pub member_type : {N N1 : List Node} {i o : List Lexeme} {t : ℕ} → TypeRead N i N1 o t →
    (flags : FlagSet) (f : Option ℕ) (p : Position) (w : List ℕ) (h : Option ℕ) (ids : List ℕ) (s : List Entry)
    (M : List Node) → answer (at (FlagsRead false flags) (ClassBody f p w h ids ∷ s) M) i ≡ next
    (type_start (with_flags M flags) (MemberOpen (flags_number M flags) ∷ ClassBody f p w h ids ∷ s)) i
unfolding machine
member_type int_type flags f p w h ids s M = refl
member_type int_array flags f p w h ids s M = refl
member_type boolean_type flags f p w h ids s M = refl
member_type boolean_array flags f p w h ids s M = refl
member_type class_type flags f p w h ids s M = refl
member_type class_array flags f p w h ids s M = refl
member_type (argument_type e) flags f p w h ids s M = refl
member_type (argument_array e) flags f p w h ids s M = refl

-- ---- parameters

typed_parameter : (t : ℕ) (N : List Node) (flags : Option ℕ) (q : Position) (ids : List ℕ) (s : List Entry) (w : List ℕ)
    (p : Position) (o : List Lexeme) → next (typed t N (ParameterOpen flags ∷ ParametersOpen q ids ∷ s)) (a_name w p ∷ o)
    ≡ answer (at (ParameterDone (length N)) (ParametersOpen q ids ∷ s) (put N (Parameter p w flags t))) o
unfolding machine
typed_parameter t N flags q ids s w p o = refl

pub parameter_run : {N N1 : List Node} {i o : List Lexeme} {id : ℕ} → ParameterRead N i N1 o id →
    (q : Position) (ids : List ℕ) (s : List Entry) → answer (at (FlagsRead false no_flags) (ParametersOpen q ids ∷ s) N) i
    ≡ answer (at (ParameterDone id) (ParametersOpen q ids ∷ s) N1) o
parameter_run (parameter f t) q ids s = flags_run f _ (type_opens t)
    ∙ (parameter_type t _ q ids s _ ∙ (type_run t _ ∙ typed_parameter _ _ _ q ids s _ _ _))

comma_run : (id : ℕ) (N : List Node) (q : Position) (ids : List ℕ) (s : List Entry) (p : Position) (o : List Lexeme) →
    answer (at (ParameterDone id) (ParametersOpen q ids ∷ s) N) (a_sign sign_comma p ∷ o) ≡ answer
    (at (FlagsRead false no_flags) (ParametersOpen q (ids ++ id ∷ []) ∷ s) N) o
unfolding machine
comma_run id N q ids s p o = refl

pub parameters_begun_run : {N N1 : List Node} {i o : List Lexeme} {ids : List ℕ} → ParametersBegun N i N1 o ids →
    (q : Position) (s : List Entry) → answer (at (FlagsRead false no_flags) (ParametersOpen q [] ∷ s) N) i ≡ answer
    (at (FlagsRead false no_flags) (ParametersOpen q ids ∷ s) N1) o
parameters_begun_run no_parameter_yet q s = refl
parameters_begun_run (parameter_and_comma b d) q s = parameters_begun_run b q s
    ∙ (parameter_run d q _ s ∙ comma_run _ _ q _ s _ _)
