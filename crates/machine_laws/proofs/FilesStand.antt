-- Steps of files and of heads of classes keep what the stack stands for.
use Rattle.std.proofs.Common.{subst}
use Rattle.std.specs.Prelude.{List, Option, Some, [], false, length, ℕ, ◌∷◌}
use Rattle.machine_laws.proofs.DeclarationsStand.{flags_step_stands}
use Rattle.machine_laws.proofs.Standing.{Due, Header, Source, TypeArgumentBegun, argument_begun, both_begun, class_body, class_open, extends_begun, file_open, for_class, for_header, for_super, implements_begun, on_class, supers_open}
use Rattle.machine_laws.proofs.Stands.{AtFile, FileDue, ImportedDue, ImportsDue, Leads, PackageDue, Stands, behind, file_due, leads_if, on_number, past}
use Rattle.machine_laws.proofs.Tools.{machine}
use Rattle.parser_machine.specs.Files.{class_name_step, class_named_step, class_opened, classes_step, file_start_step, import_dot_step, import_end_step, import_name_step, import_star_step, import_start_step, imports_step, package_end_step, package_name_step, super_argument_end_step, super_argument_name_step, super_ended, super_name_step, super_named_step}
use Rattle.parser_machine.specs.declared.entries.Entry.{Entry}
use Rattle.parser_machine.specs.declared.entries.Entry.TheVariants.{FileOpen}
use Rattle.parser_machine.specs.declared.modes.Mode.TheVariants.{ClassName, ClassNamed, FileStart, ImportDot, ImportEnd, ImportName, ImportStar, ImportStart, PackageEnd, PackageName, SuperArgumentEnd, SuperArgumentName, SuperName, SuperNamed}
use Rattle.scj_base.specs.Vocabulary.{sign_comma, sign_dot, sign_greater, sign_left_brace, sign_less, sign_semicolon, sign_star, word_extends, word_implements, word_import, word_package, word_static}
use Rattle.scj_base.specs.declared.positions.Position.{Position}
use Rattle.scj_tree.specs.Grammar.{ClassesRead, Tree, file, file_of_package, no_class, no_member}
use Rattle.scj_tree.specs.Headers.{HeaderRead, Imported, SuperRead, dotted_longer, dotted_name, extends_header, extends_implements_header, implements_header, imported_all, imported_name, interface_and_comma, no_flag, no_header, no_imports, no_interface_yet, plain_import, static_import, super_type, super_type_with_argument}
use Rattle.scj_tree.specs.Nodes.{put}
use Rattle.scj_tree.specs.Lexemes.{Lexeme, a_name, a_number, a_sign, a_text, a_word, the_end}
use Rattle.scj_tree.specs.Terminals.{no_flags, has_type_argument}
use Rattle.scj_tree.specs.declared.nodes.Node.{Node}
use Rattle.scj_tree.specs.declared.nodes.Node.TheVariants.{SuperType}

-- ---- packages and imports

pub package_name_stands : (r : Source) (N : List Node) (s : List Entry) (t : Lexeme) (o : List Lexeme) →
    Stands r PackageName s N (t ∷ o) → Leads r (package_name_step N s t) o
unfolding machine Leads Stands
package_name_stands r N s (a_name w p) o (file_due a h) = file_due a (w, p, h)
package_name_stands r N s _ o h = tt

pub package_end_stands : (r : Source) (N : List Node) (s : List Entry) (t : Lexeme) (o : List Lexeme) →
    Stands r PackageEnd s N (t ∷ o) → Leads r (package_end_step N s t) o
unfolding machine Leads Stands
package_end_stands r N s (a_sign n p) o (file_due a (w, q, h)) =
    on_number r (λ m. PackageDue r (a_name w q ∷ a_sign m p ∷ o)) n sign_dot h _ _ o
    (λ k. file_due a (λ u j d. k u j (dotted_longer d)))
    (on_number r (λ m. PackageDue r (a_name w q ∷ a_sign m p ∷ o)) n sign_semicolon h _ _ o
    (λ k. file_due a (k p o dotted_name)) tt)
package_end_stands r N s _ o h = tt

pub import_name_stands : (r : Source) (N : List Node) (s : List Entry) (t : Lexeme) (o : List Lexeme) →
    Stands r ImportName s N (t ∷ o) → Leads r (import_name_step N s t) o
unfolding machine Leads Stands
import_name_stands r N s (a_name w p) o (file_due a h) = file_due a (w, p, h)
import_name_stands r N s _ o h = tt

pub import_start_stands : (r : Source) (N : List Node) (s : List Entry) (t : Lexeme) (o : List Lexeme) →
    Stands r ImportStart s N (t ∷ o) → Leads r (import_start_step N s t) o
unfolding machine Leads Stands
import_start_stands r N s (a_word n p) o (file_due a (past {p = q} h)) =
    on_number r (λ m. ImportsDue r (a_word word_import q ∷ a_word m p ∷ o)) n word_static h _ _ o
    (λ k. file_due a (λ u j d i e. k i (static_import d e))) tt
import_start_stands r N s (a_name w p) o (file_due a (past h)) = file_due a (w, p, λ u j d i e. h i (plain_import d e))
import_start_stands r N s _ o h = tt

import_longer : {w v : List ℕ} {p q x : Position} {i j : List Lexeme} → Imported (a_name v x ∷ i) j →
    Imported (a_name w p ∷ a_sign sign_dot q ∷ a_name v x ∷ i) j
import_longer (imported_name d) = imported_name (dotted_longer d)
import_longer (imported_all d) = imported_all (dotted_longer d)

pub import_dot_stands : (r : Source) (N : List Node) (s : List Entry) (t : Lexeme) (o : List Lexeme) →
    Stands r ImportDot s N (t ∷ o) → Leads r (import_dot_step N s t) o
unfolding machine Leads Stands
import_dot_stands r N s (a_sign n p) o (file_due a (w, q, u, h)) =
    on_number r (λ m. ImportedDue r (a_name w q ∷ a_sign sign_dot u ∷ a_sign m p ∷ o)) n sign_star h _ _ o
    (λ k. file_due a (w, q, u, p, k)) tt
import_dot_stands r N s (a_name v p) o (file_due a (w, q, u, h)) = file_due a (v, p, λ x j d. h x j (import_longer d))
import_dot_stands r N s _ o h = tt

pub import_end_stands : (r : Source) (N : List Node) (s : List Entry) (t : Lexeme) (o : List Lexeme) →
    Stands r ImportEnd s N (t ∷ o) → Leads r (import_end_step N s t) o
unfolding machine Leads Stands
import_end_stands r N s (a_sign n p) o (file_due a (w, q, h)) =
    on_number r (λ m. ImportedDue r (a_name w q ∷ a_sign m p ∷ o)) n sign_dot h _ _ o (λ k. file_due a (w, q, p, k))
    (on_number r (λ m. ImportedDue r (a_name w q ∷ a_sign m p ∷ o)) n sign_semicolon h _ _ o
    (λ k. file_due a (k p o (imported_name dotted_name))) tt)
import_end_stands r N s _ o h = tt

pub import_star_stands : (r : Source) (N : List Node) (s : List Entry) (t : Lexeme) (o : List Lexeme) →
    Stands r ImportStar s N (t ∷ o) → Leads r (import_star_step N s t) o
unfolding machine Leads Stands
import_star_stands r N s (a_sign n p) o (file_due a (w, q, u, v, h)) =
    on_number r (λ m. ImportedDue r (a_name w q ∷ a_sign sign_dot u ∷ a_sign sign_star v ∷ a_sign m p ∷ o)) n
    sign_semicolon h _ _ o (λ k. file_due a (k p o (imported_all dotted_name))) tt
import_star_stands r N s _ o h = tt

pub classes_stands : (r : Source) (N : List Node) (s : List Entry) (t : Lexeme) (o : List Lexeme) →
    Due r for_class s N (t ∷ o) → Leads r (classes_step N s t) o
unfolding machine Leads Stands
classes_stands r N s (the_end p) o d = past d
classes_stands r N s (a_name w p) o d = flags_step_stands r false no_flags N s (a_name w p) o no_flag (on_class d)
classes_stands r N s (a_word w p) o d = flags_step_stands r false no_flags N s (a_word w p) o no_flag (on_class d)
classes_stands r N s (a_number w p) o d = flags_step_stands r false no_flags N s (a_number w p) o no_flag (on_class d)
classes_stands r N s (a_text w p) o d = flags_step_stands r false no_flags N s (a_text w p) o no_flag (on_class d)
classes_stands r N s (a_sign w p) o d = flags_step_stands r false no_flags N s (a_sign w p) o no_flag (on_class d)

file_classes : (r : Source) (s : List Entry) (N : List Node) (i : List Lexeme) → AtFile r s N → Header r i →
    Due r for_class s N i
unfolding AtFile
file_classes r (FileOpen [] ∷ []) N i e h = file_open (subst (λ M. ClassesRead M i N i []) e no_class) h
file_classes r _ N i e h = absurd e

imports_at : (r : Source) (N : List Node) (s : List Entry) (t : Lexeme) (o : List Lexeme) → AtFile r s N →
    ImportsDue r (t ∷ o) → Leads r (classes_step N s t) o
imports_at r N s t o a h = classes_stands r N s t o (file_classes r s N (t ∷ o) a (h _ no_imports))

pub imports_stands : (r : Source) (N : List Node) (s : List Entry) (t : Lexeme) (o : List Lexeme) →
    FileDue r s N (ImportsDue r (t ∷ o)) → Leads r (imports_step N s t) o
unfolding machine Leads Stands
imports_stands r N s (a_word n p) o (file_due a h) =
    on_number r (λ m. ImportsDue r (a_word m p ∷ o)) n word_import h _ _ o (λ k. file_due a (past k))
    (imports_at r N s (a_word n p) o a h)
imports_stands r N s (a_name n p) o (file_due a h) = imports_at r N s (a_name n p) o a h
imports_stands r N s (a_number n p) o (file_due a h) = imports_at r N s (a_number n p) o a h
imports_stands r N s (a_text n p) o (file_due a h) = imports_at r N s (a_text n p) o a h
imports_stands r N s (a_sign n p) o (file_due a h) = imports_at r N s (a_sign n p) o a h
imports_stands r N s (the_end p) o (file_due a h) = imports_at r N s (the_end p) o a h

abbrev TreeDue : Source → List Lexeme → Type 0
TreeDue r i = (N1 : List Node) (ids : List ℕ) → Tree r.nodes i N1 ids → Tree r.nodes r.lexemes N1 ids

no_package : (r : Source) (i : List Lexeme) → TreeDue r i → ImportsDue r i
no_package r i h j e N1 ids p c = h N1 ids (file e c)

pub file_start_stands : (r : Source) (N : List Node) (s : List Entry) (t : Lexeme) (o : List Lexeme) →
    Stands r FileStart s N (t ∷ o) → Leads r (file_start_step N s t) o
unfolding machine Leads Stands
file_start_stands r N s (a_word n p) o (file_due a h) =
    on_number r (λ m. TreeDue r (a_word m p ∷ o)) n word_package h _ _ o
    (λ k. file_due a (λ q j d i e N1 ids u c. k N1 ids (file_of_package d e c)))
    (imports_stands r N s (a_word n p) o (file_due a (no_package r _ h)))
file_start_stands r N s (a_name n p) o (file_due a h) =
    imports_stands r N s (a_name n p) o (file_due a (no_package r _ h))
file_start_stands r N s (a_number n p) o (file_due a h) =
    imports_stands r N s (a_number n p) o (file_due a (no_package r _ h))
file_start_stands r N s (a_text n p) o (file_due a h) =
    imports_stands r N s (a_text n p) o (file_due a (no_package r _ h))
file_start_stands r N s (a_sign n p) o (file_due a h) =
    imports_stands r N s (a_sign n p) o (file_due a (no_package r _ h))
file_start_stands r N s (the_end p) o (file_due a h) =
    imports_stands r N s (the_end p) o (file_due a (no_package r _ h))

-- ---- heads of classes

pub class_name_stands : (r : Source) (flags : Option ℕ) (N : List Node) (s : List Entry) (t : Lexeme)
    (o : List Lexeme) → Stands r (ClassName flags) s N (t ∷ o) → Leads r (class_name_step flags N s t) o
unfolding machine Leads Stands
class_name_stands r flags N s (a_name w p) o (behind (past g) d) = class_open g d
class_name_stands r flags N s _ o h = tt

class_opened_stands : (r : Source) (header : Option ℕ) (N : List Node) (s : List Entry)
    (o : List Lexeme) {M : List Node} {j : List Lexeme} → HeaderRead M j N o header → Due r for_header s M j →
    Leads r (class_opened header N s) o
unfolding machine Leads Stands
class_opened_stands r header N s o h (class_open g d) = class_body g h no_member d

pub class_named_stands : (r : Source) (N : List Node) (s : List Entry) (t : Lexeme) (o : List Lexeme) →
    Stands r ClassNamed s N (t ∷ o) → Leads r (class_named_step N s t) o
unfolding machine Leads Stands
class_named_stands r N s (a_word n p) o d =
    on_number r (λ m. Due r for_header s N (a_word m p ∷ o)) n word_extends d _ _ o (λ k. supers_open extends_begun k)
    (on_number r (λ m. Due r for_header s N (a_word m p ∷ o)) n word_implements d _ _ o
    (λ k. supers_open (implements_begun no_interface_yet) k) tt)
class_named_stands r N s (a_sign n p) o d =
    on_number r (λ m. Due r for_header s N (a_sign m p ∷ o)) n sign_left_brace d _ _ o
    (λ k. class_opened_stands r _ N s o no_header k) tt
class_named_stands r N s _ o d = tt

pub super_name_stands : (r : Source) (N : List Node) (s : List Entry) (t : Lexeme) (o : List Lexeme) →
    Stands r SuperName s N (t ∷ o) → Leads r (super_name_step N s t) o
unfolding machine Leads Stands
super_name_stands r N s (a_name w p) o d = d
super_name_stands r N s _ o d = tt

pub super_ended_stands : (r : Source) (id : ℕ) (N : List Node) (s : List Entry) (t : Lexeme)
    (o : List Lexeme) {M : List Node} {j : List Lexeme} → SuperRead M j N (t ∷ o) id → Due r for_super s M j →
    Leads r (super_ended id N s t) o
unfolding machine Leads Stands
super_ended_stands r id N s (a_word n q) o {M} {j} v (supers_open extends_begun d) =
    on_number r (λ m. SuperRead M j N (a_word m q ∷ o) id) n word_implements v _ _ o
    (λ k. supers_open (both_begun k no_interface_yet) d) tt
super_ended_stands r id N s (a_sign n q) o {M} {j} v (supers_open extends_begun d) =
    on_number r (λ m. SuperRead M j N (a_sign m q ∷ o) id) n sign_left_brace v _ _ o
    (λ k. class_opened_stands r _ _ _ o (extends_header k) d) tt
super_ended_stands r id N s (a_sign n q) o {M} {j} v (supers_open (implements_begun is) d) =
    on_number r (λ m. SuperRead M j N (a_sign m q ∷ o) id) n sign_comma v _ _ o
    (λ k. supers_open (implements_begun (interface_and_comma is k)) d)
    (on_number r (λ m. SuperRead M j N (a_sign m q ∷ o) id) n sign_left_brace v _ _ o
    (λ k. class_opened_stands r _ _ _ o (implements_header is k) d) tt)
super_ended_stands r id N s (a_sign n q) o {M} {j} v (supers_open (both_begun u is) d) =
    on_number r (λ m. SuperRead M j N (a_sign m q ∷ o) id) n sign_comma v _ _ o
    (λ k. supers_open (both_begun u (interface_and_comma is k)) d)
    (on_number r (λ m. SuperRead M j N (a_sign m q ∷ o) id) n sign_left_brace v _ _ o
    (λ k. class_opened_stands r _ _ _ o (extends_implements_header u is k) d) tt)
super_ended_stands r id N s _ o v (supers_open extends_begun d) = tt
super_ended_stands r id N s _ o v (supers_open (implements_begun is) d) = tt
super_ended_stands r id N s _ o v (supers_open (both_begun u is) d) = tt

pub super_named_stands : (r : Source) (p : Position) (w : List ℕ) (N : List Node) (s : List Entry) (t : Lexeme)
    (o : List Lexeme) → Stands r (SuperNamed p w) s N (t ∷ o) → Leads r (super_named_step p w N s t) o
unfolding machine Leads Stands
super_named_stands r p w N s (a_sign n q) o d =
    on_number r (λ m. Due r for_super s N (a_name w p ∷ a_sign m q ∷ o)) n sign_less d _ _ o
    (λ k. leads_if r (has_type_argument w) _ _ o (λ e. (e, past k)) (λ e. tt))
    (super_ended_stands r _ _ s (a_sign n q) o super_type d)
super_named_stands r p w N s (a_name n q) o d = super_ended_stands r _ _ s (a_name n q) o super_type d
super_named_stands r p w N s (a_word n q) o d = super_ended_stands r _ _ s (a_word n q) o super_type d
super_named_stands r p w N s (a_number n q) o d = super_ended_stands r _ _ s (a_number n q) o super_type d
super_named_stands r p w N s (a_text n q) o d = super_ended_stands r _ _ s (a_text n q) o super_type d
super_named_stands r p w N s (the_end q) o d = super_ended_stands r _ _ s (the_end q) o super_type d

pub super_argument_name_stands : (r : Source) (p : Position) (w : List ℕ) (N : List Node) (s : List Entry) (t : Lexeme)
    (o : List Lexeme) → Stands r (SuperArgumentName p w) s N (t ∷ o) → Leads r (super_argument_name_step p w N s t) o
unfolding machine Leads Stands
super_argument_name_stands r p w N s (a_name v q) o (h, past d) = behind (argument_begun h) d
super_argument_name_stands r p w N s _ o h = tt

super_argument : {p : Position} {w : List ℕ} {a : ℕ} {M N : List Node} {j o : List Lexeme} {x : Position} →
    TypeArgumentBegun p w a M j N (a_sign sign_greater x ∷ o) →
    SuperRead M j (put N (SuperType p w (Some a))) o (length N)
super_argument (argument_begun h) = super_type_with_argument h

pub super_argument_end_stands : (r : Source) (p : Position) (w : List ℕ) (a : ℕ) (N : List Node) (s : List Entry)
    (t : Lexeme) (o : List Lexeme) → Stands r (SuperArgumentEnd p w a) s N (t ∷ o) →
    Leads r (super_argument_end_step p w a N s t) o
unfolding machine Leads Stands
super_argument_end_stands r p w a N s (a_sign n q) o (behind {N = M} {i = j} b d) =
    on_number r (λ m. TypeArgumentBegun p w a M j N (a_sign m q ∷ o)) n sign_greater b _ _ o
    (λ k. behind (super_argument k) d) tt
super_argument_end_stands r p w a N s _ o h = tt
