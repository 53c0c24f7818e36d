-- Steps of types, flags and annotations keep what the stack stands for.
use Rattle.std.proofs.Common.{ap, refl, subst, sym, ◌∙◌}
use Rattle.std.proofs.lemmas.Bool.{eqb-true}
use Rattle.std.specs.Prelude.{Bool, List, None, Option, Some, codes, false, length, true, ℕ, ◌==◌, ◌||◌, ◌∷◌, ◌≡◌}
use Rattle.machine_laws.proofs.Standing.{Due, ElementRead, Flagging, FlagsGiven, Source, TypeArgumentBegun, annotation_open, argument_begun, argument_element, boolean_element, class_body, constructor_open, define_first, define_second, file_open, first_word, flagged, for_annotation, for_class, for_member, for_type, for_value, given, int_element, local_open, member_open, on_class, on_local, on_member, on_parameter, parameter_open, parameters_open, plain_element, runs_in_open, scope_open, simple_open}
use Rattle.machine_laws.proofs.Stands.{AfterPair, AnnotationNamed, Behind, DefineBegun, DefineRead, Leads, PairEnds, PairsDue, PlainDone, PlainValueDue, Stands, annotation_named_so, behind, define_begun, define_read, leads_if, leads_option, local_named_so, local_typed, more_after, none_after, on_name, on_number, past, result_given, type_given}
use Rattle.machine_laws.proofs.Tools.{machine}
use Rattle.parser_machine.specs.Declarations.{annotation_named, at_step, class_start, constructor_step, define_assign_step, define_name_step, define_open_step, define_other_assign_step, define_other_step, element_node, flags_ended, flags_step, member_start, other_word, pair_ended, plain_assigned_step, plain_dot_step, plain_end_step, plain_ended, plain_first_step, plain_name_step, plain_next_step, plain_open_step, plain_path_step, plain_value_step, plain_without, type_argument_end_step, type_argument_name_step, type_bracket_step, type_end_step, type_name_step, type_start, typed, value_dot_step, value_end_step, value_open_step, value_scope_step, value_start_step, valued}
use Rattle.parser_machine.specs.declared.entries.Entry.{Entry}
use Rattle.parser_machine.specs.declared.entries.Entry.TheVariants.{AnnotationOpen, DefineFirst, DefineSecond}
use Rattle.parser_machine.specs.declared.modes.ElementType.{ElementType}
use Rattle.parser_machine.specs.declared.modes.ElementType.TheVariants.{Reference}
use Rattle.parser_machine.specs.declared.modes.Mode.TheVariants.{At, DefineAssign, DefineName, DefineOpen, DefineOther, DefineOtherAssign, PlainAssigned, PlainDot, PlainEnd, PlainFirst, PlainName, PlainOpen, PlainPath, TypeArgumentEnd, TypeArgumentName, TypeBracket, TypeEnd, TypeName, ValueDot, ValueOpen, ValueRead, ValueScope, ValueStart}
use Rattle.scj_base.specs.Vocabulary.{sign_assign, sign_at, sign_comma, sign_dot, sign_greater, sign_left_bracket, sign_left_parenthesis, sign_less, sign_right_bracket, sign_right_parenthesis, word_boolean, word_class, word_false, word_int, word_long, word_true, word_void}
use Rattle.scj_base.specs.declared.positions.Position.{Position}
use Rattle.scj_tree.specs.Headers.{FlagRow, PlainArguments, PlainPair, PlainPairs, PlainValue, ScopeValue, TypeRead, argument_array, argument_type, bare_scope, boolean_array, boolean_type, class_array, class_type, define_scope_flag, define_scope_flag_parent_first, dotted_longer, dotted_name, effectless, empty_parentheses, int_array, int_type, last_pair, long_result, modifier, more_pairs, named_value, no_parentheses, pairs_in_parentheses, parameter, plain_dotted, plain_false, plain_text, plain_true, qualified_scope, quoted_scope, runs_in_flag, scope_flag, value_alone, void_result}
use Rattle.scj_tree.specs.Nodes.{put}
use Rattle.scj_tree.specs.Lexemes.{Lexeme, a_name, a_number, a_sign, a_text, a_word, the_end}
use Rattle.scj_base.specs.Lexeme.{is_name}
use Rattle.scj_tree.specs.Terminals.{add_modifier, is_effectless, has_type_argument}
use Rattle.scj_tree.specs.declared.nodes.Node.{Node}
use Rattle.scj_tree.specs.declared.parsed_parts.FlagSet.{FlagSet}

-- ---- types

pub typed_stands : (r : Source) (id : ℕ) (N : List Node) (s : List Entry) (t : Lexeme) (o : List Lexeme) {M : List Node}
    {j : List Lexeme} → TypeRead M j N (t ∷ o) id → Due r for_type s M j → Leads r (typed id N s t) o
unfolding machine Leads Stands
typed_stands r id N s (a_name w p) o d (member_open g e) = behind (type_given g d) e
typed_stands r id N s (a_name w p) o d (parameter_open (given f) e) = behind (parameter f d) e
typed_stands r id N s (a_name w p) o d (local_open l e) = local_named_so (local_typed l d) e
typed_stands r id N s _ o d (member_open g e) = tt
typed_stands r id N s _ o d (parameter_open g e) = tt
typed_stands r id N s _ o d (local_open l e) = tt

element_type : {p : Position} {element : ElementType} {M N : List Node} {j o : List Lexeme} → ElementRead p element M j N o →
    TypeRead M j (put N (element_node p element false)) o (length N)
unfolding element_node
element_type int_element = int_type
element_type boolean_element = boolean_type
element_type plain_element = class_type
element_type (argument_element h) = argument_type h

element_array : {p : Position} {element : ElementType} {M N : List Node} {j o : List Lexeme} {x y : Position} →
    ElementRead p element M j N (a_sign sign_left_bracket x ∷ a_sign sign_right_bracket y ∷ o) →
    TypeRead M j (put N (element_node p element true)) o (length N)
unfolding element_node
element_array int_element = int_array
element_array boolean_element = boolean_array
element_array plain_element = class_array
element_array (argument_element h) = argument_array h

pub type_end_stands : (r : Source) (p : Position) (element : ElementType) (N : List Node) (s : List Entry) (t : Lexeme)
    (o : List Lexeme) → Stands r (TypeEnd p element) s N (t ∷ o) → Leads r (type_end_step p element N s t) o
unfolding machine Leads Stands
type_end_stands r p element N s (a_sign n q) o (behind {N = M} {i = j} e d) =
    on_number r (λ m. ElementRead p element M j N (a_sign m q ∷ o)) n sign_left_bracket e _ _ o
    (λ k. behind (past k) d) tt
type_end_stands r p element N s (a_name w q) o (behind e d) = typed_stands r (length N) _ s _ o (element_type e) d
type_end_stands r p element N s (a_word w q) o (behind e d) = typed_stands r (length N) _ s _ o (element_type e) d
type_end_stands r p element N s (a_number w q) o (behind e d) = typed_stands r (length N) _ s _ o (element_type e) d
type_end_stands r p element N s (a_text w q) o (behind e d) = typed_stands r (length N) _ s _ o (element_type e) d
type_end_stands r p element N s (the_end q) o (behind e d) = typed_stands r (length N) _ s _ o (element_type e) d

pub type_bracket_stands : (r : Source) (p : Position) (element : ElementType) (N : List Node) (s : List Entry) (t : Lexeme)
    (o : List Lexeme) → Stands r (TypeBracket p element) s N (t ∷ o) → Leads r (type_bracket_step p element N s t) o
unfolding machine Leads Stands
type_bracket_stands r p element N s (a_sign n q) o (behind {N = M} {i = j} (past {p = x} e) d) =
    on_number r (λ m. ElementRead p element M j N (a_sign sign_left_bracket x ∷ a_sign m q ∷ o)) n sign_right_bracket e
    _ _ o (λ k. behind (element_array k) d) tt
type_bracket_stands r p element N s _ o h = tt

constructor_stands : (r : Source) (p : Position) (w : List ℕ) (q : Position) (N : List Node) (s : List Entry) (o : List Lexeme) →
    Due r for_type s N (a_name w p ∷ a_sign sign_left_parenthesis q ∷ o) → Leads r (constructor_step p w q N s) o
unfolding machine Leads Stands
constructor_stands r p w q N s o (member_open g d) = constructor_open g d
constructor_stands r p w q N s o (parameter_open g d) = tt
constructor_stands r p w q N s o (local_open l d) = tt

pub type_name_stands : (r : Source) (p : Position) (w : List ℕ) (N : List Node) (s : List Entry) (t : Lexeme)
    (o : List Lexeme) → Stands r (TypeName p w) s N (t ∷ o) → Leads r (type_name_step p w N s t) o
unfolding machine Leads Stands
type_name_stands r p w N s (a_sign n q) o d =
    on_number r (λ m. Due r for_type s N (a_name w p ∷ a_sign m q ∷ o)) n sign_less d _ _ o
    (λ k. leads_if r (has_type_argument w) _ _ o (λ e. (e, past k)) (λ e. tt))
    (on_number r (λ m. Due r for_type s N (a_name w p ∷ a_sign m q ∷ o)) n sign_left_bracket d _ _ o
    (λ k. behind (past plain_element) k)
    (on_number r (λ m. Due r for_type s N (a_name w p ∷ a_sign m q ∷ o)) n sign_left_parenthesis d _ _ o
    (λ k. constructor_stands r p w q N s o k) tt))
type_name_stands r p w N s (a_name v q) o d = typed_stands r (length N) _ s _ o class_type d
type_name_stands r p w N s (a_word v q) o d = typed_stands r (length N) _ s _ o class_type d
type_name_stands r p w N s (a_number v q) o d = typed_stands r (length N) _ s _ o class_type d
type_name_stands r p w N s (a_text v q) o d = typed_stands r (length N) _ s _ o class_type d
type_name_stands r p w N s (the_end q) o d = typed_stands r (length N) _ s _ o class_type d

pub type_argument_name_stands : (r : Source) (p : Position) (w : List ℕ) (N : List Node) (s : List Entry) (t : Lexeme)
    (o : List Lexeme) → Stands r (TypeArgumentName p w) s N (t ∷ o) → Leads r (type_argument_name_step p w N s t) o
unfolding machine Leads Stands
type_argument_name_stands r p w N s (a_name v q) o (h, past d) = behind (argument_begun h) d
type_argument_name_stands r p w N s _ o h = tt

argument_ends : {p : Position} {w : List ℕ} {a : ℕ} {M N : List Node} {j o : List Lexeme} {x : Position} →
    TypeArgumentBegun p w a M j N (a_sign sign_greater x ∷ o) → ElementRead p (Reference w (Some a)) M j N o
argument_ends (argument_begun h) = argument_element h

pub type_argument_end_stands : (r : Source) (p : Position) (w : List ℕ) (a : ℕ) (N : List Node) (s : List Entry) (t : Lexeme)
    (o : List Lexeme) → Stands r (TypeArgumentEnd p w a) s N (t ∷ o) → Leads r (type_argument_end_step p w a N s t) o
unfolding machine Leads Stands
type_argument_end_stands r p w a N s (a_sign n q) o (behind {N = M} {i = j} b d) =
    on_number r (λ m. TypeArgumentBegun p w a M j N (a_sign m q ∷ o)) n sign_greater b _ _ o
    (λ k. behind (argument_ends k) d) tt
type_argument_end_stands r p w a N s _ o h = tt

pub type_start_stands : (r : Source) (N : List Node) (s : List Entry) (t : Lexeme) (o : List Lexeme) →
    Due r for_type s N (t ∷ o) → Leads r (type_start N s t) o
unfolding machine Leads Stands
type_start_stands r N s (a_name w p) o d = d
type_start_stands r N s (a_word n p) o d =
    on_number r (λ m. Due r for_type s N (a_word m p ∷ o)) n word_int d _ _ o (λ k. behind int_element k)
    (on_number r (λ m. Due r for_type s N (a_word m p ∷ o)) n word_boolean d _ _ o (λ k. behind boolean_element k) tt)
type_start_stands r N s _ o d = tt

-- ---- what stands behind annotations and modifiers

member_start_stands : (r : Source) (flags : Option ℕ) (N : List Node) (s : List Entry) (t : Lexeme)
    (o : List Lexeme) {M : List Node} {j : List Lexeme} → FlagsGiven flags M j N (t ∷ o) → Due r for_member s M j →
    Leads r (member_start flags N s t) o
unfolding machine Leads Stands
member_start_stands r flags N s (a_word n p) o {M} {j} g d =
    on_number r (λ m. FlagsGiven flags M j N (a_word m p ∷ o)) n word_void g _ _ o
    (λ k. behind (result_given k void_result) d)
    (on_number r (λ m. FlagsGiven flags M j N (a_word m p ∷ o)) n word_long g _ _ o
    (λ k. behind (result_given k long_result) d)
    (type_start_stands r N _ (a_word n p) o (member_open g d)))
member_start_stands r flags N s (a_name w p) o g d = type_start_stands r N _ (a_name w p) o (member_open g d)
member_start_stands r flags N s _ o g d = tt

class_start_stands : (r : Source) (flags : Option ℕ) (N : List Node) (s : List Entry) (t : Lexeme)
    (o : List Lexeme) {M : List Node} {j : List Lexeme} → FlagsGiven flags M j N (t ∷ o) → Due r for_class s M j →
    Leads r (class_start flags N s t) o
unfolding machine Leads Stands
class_start_stands r flags N s (a_word n p) o {M} {j} g d =
    on_number r (λ m. FlagsGiven flags M j N (a_word m p ∷ o)) n word_class g _ _ o (λ k. behind (past k) d) tt
class_start_stands r flags N s _ o g d = tt

flags_ended_stands : (r : Source) (b : Bool) (flags : FlagSet) (N : List Node) (s : List Entry) (t : Lexeme)
    (o : List Lexeme) {M : List Node} {j : List Lexeme} → FlagRow b M j N (t ∷ o) flags → Flagging r b s M j →
    Leads r (flags_ended flags N s t) o
unfolding machine Leads Stands
flags_ended_stands r b flags N s t o f (on_class (file_open c h)) =
    class_start_stands r _ _ _ t o (given f) (file_open c h)
flags_ended_stands r b flags N s t o f (on_member (class_body g h m d)) =
    member_start_stands r _ _ _ t o (given f) (class_body g h m d)
flags_ended_stands r b flags N s t o f (on_parameter (parameters_open ps d)) =
    type_start_stands r _ _ t o (parameter_open (given f) (parameters_open ps d))
flags_ended_stands r b flags N s t o f (on_local e (simple_open d)) =
    type_start_stands r _ _ t o (local_open (flagged e f) (simple_open d))

pub flags_step_stands : (r : Source) (b : Bool) (flags : FlagSet) (N : List Node) (s : List Entry) (t : Lexeme)
    (o : List Lexeme) {M : List Node} {j : List Lexeme} → FlagRow b M j N (t ∷ o) flags → Flagging r b s M j →
    Leads r (flags_step b flags N s t) o
unfolding machine Leads Stands
flags_step_stands r b flags N s (a_word w p) o f g =
    leads_option r (add_modifier b w flags) _ _ o (λ more e. behind (modifier f e) g)
    (λ e. flags_ended_stands r b flags N s (a_word w p) o f g)
flags_step_stands r b flags N s (a_sign n p) o {M} {j} f g =
    on_number r (λ m. FlagRow b M j N (a_sign m p ∷ o) flags) n sign_at f _ _ o (λ k. annotation_open k g)
    (flags_ended_stands r b flags N s (a_sign n p) o f g)
flags_step_stands r b flags N s (a_name w p) o f g = flags_ended_stands r b flags N s (a_name w p) o f g
flags_step_stands r b flags N s (a_number w p) o f g = flags_ended_stands r b flags N s (a_number w p) o f g
flags_step_stands r b flags N s (a_text w p) o f g = flags_ended_stands r b flags N s (a_text w p) o f g
flags_step_stands r b flags N s (the_end p) o f g = flags_ended_stands r b flags N s (the_end p) o f g

-- ---- annotations

annotation_named_stands : (r : Source) (p : Position) (w : List ℕ) (b : Bool) (flags : FlagSet) (N : List Node)
    (s : List Entry) (q : Position) (o : List Lexeme) → Due r (for_annotation p) (AnnotationOpen b flags ∷ s) N
    (a_name w q ∷ o) → Leads r (annotation_named p w b flags N s) o
unfolding machine Leads Stands
annotation_named_stands r p w b flags N s q o d =
    leads_if r (is_effectless w) _ _ o (λ e. annotation_named_so e d) (λ e.
    on_name r (λ v. Due r (for_annotation p) (AnnotationOpen b flags ∷ s) N (a_name v q ∷ o)) w (codes "Scope") d _ _ o
    (λ k. leads_option r flags.scope (λ id. None) _ o (λ id h. tt)
    (λ h x i e. scope_open h
    (subst (λ j. Due r (for_annotation p) (AnnotationOpen b flags ∷ s) N (a_name (codes "Scope") q ∷ j)) e k)))
    (on_name r (λ v. Due r (for_annotation p) (AnnotationOpen b flags ∷ s) N (a_name v q ∷ o)) w
    (codes "RunsIn") d _ _ o
    (λ k. leads_option r flags.runs_in (λ id. None) _ o (λ id h. tt)
    (λ h x i e. runs_in_open h
    (subst (λ j. Due r (for_annotation p) (AnnotationOpen b flags ∷ s) N (a_name (codes "RunsIn") q ∷ j)) e k)))
    (on_name r (λ v. Due r (for_annotation p) (AnnotationOpen b flags ∷ s) N (a_name v q ∷ o)) w
    (codes "DefineScope") d _ _ o
    (λ k. leads_option r flags.define_scope (λ id. None) _ o (λ id h. tt) (λ h. define_begun h k))
    tt)))

pub at_stands : (r : Source) (p : Position) (N : List Node) (s : List Entry) (t : Lexeme) (o : List Lexeme) →
    Stands r (At p) s N (t ∷ o) → Leads r (at_step p N s t) o
unfolding machine Leads Stands
at_stands r p N s (a_name w q) o (annotation_open f g) = annotation_named_stands r p w _ _ N _ q o (annotation_open f g)
at_stands r p N s _ o (annotation_open f g) = tt

plain_ended_stands : (r : Source) (N : List Node) (s : List Entry) (o : List Lexeme) → PlainDone r s N o →
    Leads r (plain_ended N s) o
unfolding machine Leads Stands PlainDone
plain_ended_stands r N (AnnotationOpen b flags ∷ s) o h = h
plain_ended_stands r N _ o h = tt

plain_without_stands : (r : Source) (N : List Node) (s : List Entry) (t : Lexeme) (o : List Lexeme) →
    PlainDone r s N (t ∷ o) → Leads r (plain_without N s t) o
unfolding machine Leads Stands PlainDone
plain_without_stands r N (AnnotationOpen b flags ∷ s) t o (behind f g) = flags_step_stands r b flags N s t o f g
plain_without_stands r N _ t o h = tt

named_done_at : (r : Source) {p : Position} {b : Bool} {flags : FlagSet} {s : List Entry} {N : List Node} {w : List ℕ}
    {q : Position} {i : List Lexeme} → is_effectless w ≡ true → Due r (for_annotation p) (AnnotationOpen b flags ∷ s) N
    (a_name w q ∷ i) → (o : List Lexeme) → PlainArguments i o → Behind (Flagging r b s) (λ M j. FlagRow b M j N o flags)
named_done_at r h (annotation_open f g) o a = behind (effectless f h a) g

named_done : (r : Source) {s : List Entry} {N : List Node} {i : List Lexeme} → AnnotationNamed r s N i →
    (o : List Lexeme) → PlainArguments i o → PlainDone r s N o
unfolding PlainDone
named_done r (annotation_named_so h d) o a = named_done_at r h d o a

pub plain_open_stands : (r : Source) (N : List Node) (s : List Entry) (t : Lexeme) (o : List Lexeme) →
    Stands r PlainOpen s N (t ∷ o) → Leads r (plain_open_step N s t) o
unfolding machine Leads Stands
plain_open_stands r N s (a_sign n p) o h =
    on_number r (λ m. AnnotationNamed r s N (a_sign m p ∷ o)) n sign_left_parenthesis h _ _ o (λ k. past k)
    (plain_without_stands r N s _ o (named_done r h _ no_parentheses))
plain_open_stands r N s (a_name w p) o h = plain_without_stands r N s _ o (named_done r h _ no_parentheses)
plain_open_stands r N s (a_word w p) o h = plain_without_stands r N s _ o (named_done r h _ no_parentheses)
plain_open_stands r N s (a_number w p) o h = plain_without_stands r N s _ o (named_done r h _ no_parentheses)
plain_open_stands r N s (a_text w p) o h = plain_without_stands r N s _ o (named_done r h _ no_parentheses)
plain_open_stands r N s (the_end p) o h = plain_without_stands r N s _ o (named_done r h _ no_parentheses)

pair_then : {i j o : List Lexeme} → PlainPair i j → AfterPair j o → PlainPairs i o
pair_then v none_after = last_pair v
pair_then v (more_after vs) = more_pairs v vs

pair_ended_stands : (r : Source) (N : List Node) (s : List Entry) (n : ℕ) (p : Position) (o : List Lexeme) →
    PairEnds r s N (a_sign n p ∷ o) → Leads r (pair_ended N s n) o
unfolding machine Leads Stands
pair_ended_stands r N s n p o h =
    on_number r (λ m. PairEnds r s N (a_sign m p ∷ o)) n sign_comma h _ _ o (λ k i vs. k i (more_after vs))
    (on_number r (λ m. PairEnds r s N (a_sign m p ∷ o)) n sign_right_parenthesis h _ _ o
    (λ k. plain_ended_stands r N s o (k o none_after)) tt)

either : {A : Type 0} (P : ℕ → Type 0) (n k l : ℕ) → (n == k || n == l) ≡ true → P n → (P k → A) → (P l → A) → A
either {A} P n k l e h f g = decide (n == k) refl
  where
    decide : (b : Bool) → (n == k) ≡ b → A
    decide true c = f (subst P (eqb-true n k c) h)
    decide false c = g (subst P (eqb-true n l (ap (λ b. b || n == l) (sym c) ∙ e)) h)

plain_value_stands : (r : Source) (N : List Node) (s : List Entry) (t : Lexeme) (o : List Lexeme) →
    PlainValueDue r s N (t ∷ o) → Leads r (plain_value_step N s t) o
unfolding machine Leads Stands
plain_value_stands r N s (a_text w p) o h = h o plain_text
plain_value_stands r N s (a_word n p) o h =
    leads_if r (n == word_true || n == word_false) _ _ o
    (λ e. either (λ m. PlainValueDue r s N (a_word m p ∷ o)) n word_true word_false e h (λ k. k o plain_true)
    (λ k. k o plain_false)) (λ e. tt)
plain_value_stands r N s _ o h = tt

pub plain_next_stands : (r : Source) (N : List Node) (s : List Entry) (t : Lexeme) (o : List Lexeme) →
    PairsDue r s N (t ∷ o) → Leads r (plain_next_step N s t) o
unfolding machine Leads Stands
plain_next_stands r N s (a_name w p) o h = (w, p, h)
plain_next_stands r N s (a_word w p) o h = plain_value_stands r N s _ o (λ j v k a. h k (pair_then (value_alone v) a))
plain_next_stands r N s (a_text w p) o h =
    plain_value_stands r N s (a_text w p) o (λ j v k a. h k (pair_then (value_alone v) a))
plain_next_stands r N s _ o h = tt

pub plain_first_stands : (r : Source) (N : List Node) (s : List Entry) (t : Lexeme) (o : List Lexeme) →
    Stands r PlainFirst s N (t ∷ o) → Leads r (plain_first_step N s t) o
unfolding machine Leads Stands
plain_first_stands r N s (a_sign n p) o (past {p = x} h) =
    on_number r (λ m. AnnotationNamed r s N (a_sign sign_left_parenthesis x ∷ a_sign m p ∷ o)) n sign_right_parenthesis
    h _ _ o (λ k. plain_ended_stands r N s o (named_done r k o empty_parentheses)) tt
plain_first_stands r N s (a_name w p) o (past h) =
    plain_next_stands r N s (a_name w p) o (λ k vs. named_done r h k (pairs_in_parentheses vs))
plain_first_stands r N s (a_word w p) o (past h) =
    plain_next_stands r N s (a_word w p) o (λ k vs. named_done r h k (pairs_in_parentheses vs))
plain_first_stands r N s (a_text w p) o (past h) =
    plain_next_stands r N s (a_text w p) o (λ k vs. named_done r h k (pairs_in_parentheses vs))
plain_first_stands r N s _ o (past h) = tt

pub plain_path_stands : (r : Source) (N : List Node) (s : List Entry) (t : Lexeme) (o : List Lexeme) →
    Stands r PlainPath s N (t ∷ o) → Leads r (plain_path_step N s t) o
unfolding machine Leads Stands
plain_path_stands r N s (a_sign n p) o (w, q, h) =
    on_number r (λ m. PlainValueDue r s N (a_name w q ∷ a_sign m p ∷ o)) n sign_dot h _ _ o (λ k. (w, q, p, k))
    (pair_ended_stands r N s n p o (h _ (plain_dotted dotted_name)))
plain_path_stands r N s _ o h = tt

pub plain_name_stands : (r : Source) (N : List Node) (s : List Entry) (t : Lexeme) (o : List Lexeme) →
    Stands r PlainName s N (t ∷ o) → Leads r (plain_name_step N s t) o
unfolding machine Leads Stands
plain_name_stands r N s (a_sign n p) o (w, q, h) =
    on_number r (λ m. PairsDue r s N (a_name w q ∷ a_sign m p ∷ o)) n sign_assign h _ _ o
    (λ k j v i a. k i (pair_then (named_value v) a))
    (plain_path_stands r N s (a_sign n p) o (w, q, λ j v i a. h i (pair_then (value_alone v) a)))
plain_name_stands r N s _ o h = tt

pub plain_assigned_stands : (r : Source) (N : List Node) (s : List Entry) (t : Lexeme) (o : List Lexeme) →
    Stands r PlainAssigned s N (t ∷ o) → Leads r (plain_assigned_step N s t) o
unfolding machine Leads Stands
plain_assigned_stands r N s (a_name w p) o h = (w, p, h)
plain_assigned_stands r N s (a_word w p) o h = plain_value_stands r N s (a_word w p) o h
plain_assigned_stands r N s (a_text w p) o h = plain_value_stands r N s (a_text w p) o h
plain_assigned_stands r N s _ o h = tt

plain_longer : {w v : List ℕ} {p q x : Position} {i j : List Lexeme} → PlainValue (a_name v x ∷ i) j →
    PlainValue (a_name w p ∷ a_sign sign_dot q ∷ a_name v x ∷ i) j
plain_longer (plain_dotted d) = plain_dotted (dotted_longer d)

pub plain_dot_stands : (r : Source) (N : List Node) (s : List Entry) (t : Lexeme) (o : List Lexeme) →
    Stands r PlainDot s N (t ∷ o) → Leads r (plain_dot_step N s t) o
unfolding machine Leads Stands
plain_dot_stands r N s (a_name v x) o (w, p, q, h) = (v, x, λ j d. h j (plain_longer d))
plain_dot_stands r N s _ o h = tt

pub plain_end_stands : (r : Source) (N : List Node) (s : List Entry) (t : Lexeme) (o : List Lexeme) →
    Stands r PlainEnd s N (t ∷ o) → Leads r (plain_end_step N s t) o
unfolding machine Leads Stands
plain_end_stands r N s (a_sign n p) o h = pair_ended_stands r N s n p o h
plain_end_stands r N s _ o h = tt

-- ---- scopes' names

valued_stands : (r : Source) (id : ℕ) (N : List Node) (s : List Entry) (n : ℕ) (x : Position)
    (o : List Lexeme) {M : List Node} {j : List Lexeme} → ScopeValue M j N (a_sign n x ∷ o) id → Due r for_value s M j →
    Leads r (valued id N s n) o
unfolding machine Leads Stands first_word
valued_stands r id N s n x o {M} {j} v (scope_open h (annotation_open f g)) =
    on_number r (λ m. ScopeValue M j N (a_sign m x ∷ o) id) n sign_right_parenthesis v _ _ o
    (λ k. behind (scope_flag f h k) g) tt
valued_stands r id N s n x o {M} {j} v (runs_in_open h (annotation_open f g)) =
    on_number r (λ m. ScopeValue M j N (a_sign m x ∷ o) id) n sign_right_parenthesis v _ _ o
    (λ k. behind (runs_in_flag f h k) g) tt
valued_stands r id N s n x o {M} {j} v (define_first h d) =
    on_number r (λ m. ScopeValue M j N (a_sign m x ∷ o) id) n sign_comma v _ _ o (λ k. define_read (define_begun h d) k)
    tt
valued_stands r id N s n x o {M} {j} v (define_second {first = false} h (annotation_open f g) u) =
    on_number r (λ m. ScopeValue M j N (a_sign m x ∷ o) id) n sign_right_parenthesis v _ _ o
    (λ k. behind (define_scope_flag f h u k) g) tt
valued_stands r id N s n x o {M} {j} v (define_second {first = true} h (annotation_open f g) u) =
    on_number r (λ m. ScopeValue M j N (a_sign m x ∷ o) id) n sign_right_parenthesis v _ _ o
    (λ k. behind (define_scope_flag_parent_first f h u k) g) tt

pub value_end_stands : (r : Source) (id : ℕ) (N : List Node) (s : List Entry) (t : Lexeme) (o : List Lexeme) →
    Stands r (ValueRead id) s N (t ∷ o) → Leads r (value_end_step id N s t) o
unfolding machine Leads Stands
value_end_stands r id N s (a_sign n x) o (behind v d) = valued_stands r id N s n x o v d
value_end_stands r id N s _ o h = tt

pub value_open_stands : (r : Source) (N : List Node) (s : List Entry) (t : Lexeme) (o : List Lexeme) →
    Stands r ValueOpen s N (t ∷ o) → Leads r (value_open_step N s t) o
unfolding machine Leads Stands
value_open_stands r N s (a_sign n p) o h =
    on_number r (λ m. (x : Position) (i : List Lexeme) → (a_sign m p ∷ o) ≡ (a_sign sign_left_parenthesis x ∷ i) →
    Due r for_value s N i) n sign_left_parenthesis h _ _ o (λ k. k p o refl) tt
value_open_stands r N s _ o h = tt

pub value_start_stands : (r : Source) (N : List Node) (s : List Entry) (t : Lexeme) (o : List Lexeme) →
    Stands r ValueStart s N (t ∷ o) → Leads r (value_start_step N s t) o
unfolding machine Leads Stands
value_start_stands r N s (a_text w p) o d = leads_if r (is_name w) _ _ o (λ e. behind (quoted_scope e) d) (λ e. tt)
value_start_stands r N s (a_name w p) o d =
    on_name r (λ v. Due r for_value s N (a_name v p ∷ o)) w (codes "Scope") d _ _ o (λ k. k) (behind bare_scope d)
value_start_stands r N s _ o d = tt

pub value_scope_stands : (r : Source) (p : Position) (N : List Node) (s : List Entry) (t : Lexeme) (o : List Lexeme) →
    Stands r (ValueScope p) s N (t ∷ o) → Leads r (value_scope_step p N s t) o
unfolding machine Leads Stands
value_scope_stands r p N s (a_sign n q) o d =
    on_number r (λ m. Due r for_value s N (a_name (codes "Scope") p ∷ a_sign m q ∷ o)) n sign_dot d _ _ o (λ k. past k)
    (valued_stands r _ _ s n q o bare_scope d)
value_scope_stands r p N s _ o d = tt

pub value_dot_stands : (r : Source) (p : Position) (N : List Node) (s : List Entry) (t : Lexeme) (o : List Lexeme) →
    Stands r (ValueDot p) s N (t ∷ o) → Leads r (value_dot_step p N s t) o
unfolding machine Leads Stands
value_dot_stands r p N s (a_name w q) o (past d) = behind qualified_scope d
value_dot_stands r p N s _ o d = tt

pub define_open_stands : (r : Source) (p : Position) (N : List Node) (s : List Entry) (t : Lexeme) (o : List Lexeme) →
    Stands r (DefineOpen p) s N (t ∷ o) → Leads r (define_open_step p N s t) o
unfolding machine Leads Stands
define_open_stands r p N s (a_sign n q) o d =
    on_number r (λ m. DefineBegun r p s N (a_sign m q ∷ o)) n sign_left_parenthesis d _ _ o (λ k. past k) tt
define_open_stands r p N s _ o d = tt

pub define_name_stands : (r : Source) (p : Position) (N : List Node) (s : List Entry) (t : Lexeme) (o : List Lexeme) →
    Stands r (DefineName p) s N (t ∷ o) → Leads r (define_name_step p N s t) o
unfolding machine Leads Stands first_word
define_name_stands r p N s (a_name w q) o (past {p = x} d) =
    on_name r (λ v. DefineBegun r p s N (a_sign sign_left_parenthesis x ∷ a_name v q ∷ o)) w (codes "name") d _ _ o
    (λ k. (x, q, k))
    (on_name r (λ v. DefineBegun r p s N (a_sign sign_left_parenthesis x ∷ a_name v q ∷ o)) w (codes "parent") d _ _ o
    (λ k. (x, q, k)) tt)
define_name_stands r p N s _ o d = tt

define_assign_at : (r : Source) {p x u q : Position} {first : Bool} {s : List Entry} {N : List Node} {o : List Lexeme} →
    DefineBegun r p s N (a_sign sign_left_parenthesis x ∷ a_name (first_word first) u ∷ a_sign sign_assign q ∷ o) →
    Due r for_value (DefineFirst p first ∷ s) N o
define_assign_at r (define_begun h d) = define_first h d

pub define_assign_stands : (r : Source) (p : Position) (first : Bool) (N : List Node) (s : List Entry) (t : Lexeme)
    (o : List Lexeme) → Stands r (DefineAssign p first) s N (t ∷ o) → Leads r (define_assign_step p first N s t) o
unfolding machine Leads Stands
define_assign_stands r p first N s (a_sign n q) o (x, u, d) =
    on_number r
    (λ m. DefineBegun r p s N (a_sign sign_left_parenthesis x ∷ a_name (first_word first) u ∷ a_sign m q ∷ o)) n
    sign_assign d _ _ o (λ k. define_assign_at r k) tt
define_assign_stands r p first N s _ o d = tt

pub define_other_stands : (r : Source) (p : Position) (first : Bool) (id : ℕ) (N : List Node) (s : List Entry) (t : Lexeme)
    (o : List Lexeme) → Stands r (DefineOther p first id) s N (t ∷ o) → Leads r (define_other_step p first id N s t) o
unfolding machine Leads Stands
define_other_stands r p first id N s (a_name w q) o d =
    on_name r (λ v. DefineRead r p first id s N (a_name v q ∷ o)) w (other_word first) d _ _ o (λ k. past k) tt
define_other_stands r p first id N s _ o d = tt

define_other_at : (r : Source) {p z q : Position} {first : Bool} {id : ℕ} {s : List Entry} {N : List Node}
    {o : List Lexeme} → DefineRead r p first id s N (a_name (other_word first) z ∷ a_sign sign_assign q ∷ o) →
    Due r for_value (DefineSecond p first id ∷ s) N o
define_other_at r (define_read (define_begun h d) v) = define_second h d v

pub define_other_assign_stands : (r : Source) (p : Position) (first : Bool) (id : ℕ) (N : List Node) (s : List Entry)
    (t : Lexeme) (o : List Lexeme) → Stands r (DefineOtherAssign p first id) s N (t ∷ o) →
    Leads r (define_other_assign_step p first id N s t) o
unfolding machine Leads Stands
define_other_assign_stands r p first id N s (a_sign n q) o (past {p = z} d) =
    on_number r (λ m. DefineRead r p first id s N (a_name (other_word first) z ∷ a_sign m q ∷ o)) n sign_assign d _ _ o
    (λ k. define_other_at r k) tt
define_other_assign_stands r p first id N s _ o d = tt
