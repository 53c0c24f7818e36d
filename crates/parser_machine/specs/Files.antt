-- Files: packages, imports, and the heads of classes.
use Rattle.std.specs.Prelude.{List, None, Option, Some, [], false, if◌then◌else◌, length, true, ℕ, ◌++◌, ◌==◌, ◌∷◌}
use Rattle.parser_machine.specs.Declarations.{flags_step}
use Rattle.parser_machine.specs.States.{State, at}
use Rattle.parser_machine.specs.declared.entries.Entry.{Entry}
use Rattle.parser_machine.specs.declared.entries.Entry.TheVariants.{ClassBody, ClassOpen, SupersOpen}
use Rattle.parser_machine.specs.declared.modes.Mode.TheVariants.{ClassNamed, Finished, ImportDot, ImportEnd, ImportName, ImportStar, ImportStart, InImports, InMembers, PackageEnd, PackageName, SuperArgumentEnd, SuperArgumentName, SuperDone, SuperName, SuperNamed}
use Rattle.scj_base.specs.Vocabulary.{sign_comma, sign_dot, sign_greater, sign_left_brace, sign_less, sign_semicolon, sign_star, word_extends, word_implements, word_import, word_package, word_static}
use Rattle.scj_base.specs.declared.positions.Position.{Position}
use Rattle.scj_tree.specs.Nodes.{put}
use Rattle.scj_tree.specs.Lexemes.{Lexeme, a_name, a_sign, a_word, the_end}
use Rattle.scj_tree.specs.Terminals.{no_flags, has_type_argument}
use Rattle.scj_tree.specs.declared.nodes.Node.{Node}
use Rattle.scj_tree.specs.declared.nodes.Node.TheVariants.{SuperType, Supers, TypeArgument}

unfoldable pub package_name_step : List Node → List Entry → Lexeme → Option State
package_name_step N s (a_name w p) = Some (at PackageEnd s N)
package_name_step N s _ = None

unfoldable pub package_end_step : List Node → List Entry → Lexeme → Option State
package_end_step N s (a_sign n p) =
    if n == sign_dot then Some (at PackageName s N) else
    if n == sign_semicolon then Some (at InImports s N) else
    None
package_end_step N s _ = None

unfoldable pub import_name_step : List Node → List Entry → Lexeme → Option State
import_name_step N s (a_name w p) = Some (at ImportEnd s N)
import_name_step N s _ = None

unfoldable pub import_start_step : List Node → List Entry → Lexeme → Option State
import_start_step N s (a_word n p) = if n == word_static then Some (at ImportName s N) else None
import_start_step N s t = import_name_step N s t

unfoldable pub import_dot_step : List Node → List Entry → Lexeme → Option State
import_dot_step N s (a_sign n p) = if n == sign_star then Some (at ImportStar s N) else None
import_dot_step N s t = import_name_step N s t

unfoldable pub import_end_step : List Node → List Entry → Lexeme → Option State
import_end_step N s (a_sign n p) =
    if n == sign_dot then Some (at ImportDot s N) else
    if n == sign_semicolon then Some (at InImports s N) else
    None
import_end_step N s _ = None

unfoldable pub import_star_step : List Node → List Entry → Lexeme → Option State
import_star_step N s (a_sign n p) = if n == sign_semicolon then Some (at InImports s N) else None
import_star_step N s _ = None

unfoldable pub classes_step : List Node → List Entry → Lexeme → Option State
classes_step N s (the_end p) = Some (at Finished s N)
classes_step N s t = flags_step false no_flags N s t

unfoldable pub imports_step : List Node → List Entry → Lexeme → Option State
imports_step N s (a_word n p) = if n == word_import then Some (at ImportStart s N) else classes_step N s (a_word n p)
imports_step N s t = classes_step N s t

unfoldable pub file_start_step : List Node → List Entry → Lexeme → Option State
file_start_step N s (a_word n p) = if n == word_package then Some (at PackageName s N) else imports_step N s
    (a_word n p)
file_start_step N s t = imports_step N s t

-- ---- heads of classes

unfoldable pub class_name_step : Option ℕ → List Node → List Entry → Lexeme → Option State
class_name_step flags N s (a_name w p) = Some (at ClassNamed (ClassOpen flags p w ∷ s) N)
class_name_step flags N s _ = None

-- `{` behind a head
unfoldable pub class_opened : Option ℕ → List Node → List Entry → Option State
class_opened header N (ClassOpen flags p w ∷ s) = Some (at InMembers (ClassBody flags p w header [] ∷ s) N)
class_opened header N _ = None

unfoldable pub class_named_step : List Node → List Entry → Lexeme → Option State
class_named_step N s (a_word n p) =
    if n == word_extends then Some (at SuperName (SupersOpen p true None [] ∷ s) N) else
    if n == word_implements then Some (at SuperName (SupersOpen p false None [] ∷ s) N) else
    None
class_named_step N s (a_sign n p) = if n == sign_left_brace then class_opened None N s else None
class_named_step N s _ = None

unfoldable pub super_name_step : List Node → List Entry → Lexeme → Option State
super_name_step N s (a_name w p) = Some (at (SuperNamed p w) s N)
super_name_step N s _ = None

-- behind a class named after `extends`, and behind one named after `implements`
unfoldable pub superclass_sign : ℕ → Position → List Node → List Entry → ℕ → Option State
superclass_sign id p N s n =
    if n == sign_left_brace then class_opened (Some (length N)) (put N (Supers p (Some id) [])) s else None

unfoldable pub interface_sign : ℕ → Position → Option ℕ → List ℕ → List Node → List Entry → ℕ → Option State
interface_sign id p superclass ids N s n =
    if n == sign_comma then Some (at SuperName (SupersOpen p false superclass (ids ++ id ∷ []) ∷ s) N) else
    if n == sign_left_brace then class_opened (Some (length N)) (put N (Supers p superclass (ids ++ id ∷ []))) s else
    None

unfoldable pub super_ended : ℕ → List Node → List Entry → Lexeme → Option State
super_ended id N (SupersOpen p true superclass ids ∷ s) (a_word n q) =
    if n == word_implements then Some (at SuperName (SupersOpen p false (Some id) [] ∷ s) N) else None
super_ended id N (SupersOpen p true superclass ids ∷ s) (a_sign n q) = superclass_sign id p N s n
super_ended id N (SupersOpen p false superclass ids ∷ s) (a_sign n q) = interface_sign id p superclass ids N s n
super_ended id N _ _ = None

unfoldable pub super_named_step : Position → List ℕ → List Node → List Entry → Lexeme → Option State
super_named_step p w N s (a_sign n q) =
    if n == sign_less then (if has_type_argument w then Some (at (SuperArgumentName p w) s N) else None) else
    super_ended (length N) (put N (SuperType p w None)) s (a_sign n q)
super_named_step p w N s t = super_ended (length N) (put N (SuperType p w None)) s t

unfoldable pub super_argument_name_step : Position → List ℕ → List Node → List Entry → Lexeme → Option State
super_argument_name_step p w N s (a_name v q) = Some (at (SuperArgumentEnd p w (length N)) s (put N (TypeArgument q v)))
super_argument_name_step p w N s _ = None

unfoldable pub super_argument_end_step : Position → List ℕ → ℕ → List Node → List Entry → Lexeme → Option State
super_argument_end_step p w argument N s (a_sign n q) =
    if n == sign_greater then Some (at (SuperDone (length N)) s (put N (SuperType p w (Some argument)))) else None
super_argument_end_step p w argument N s _ = None
