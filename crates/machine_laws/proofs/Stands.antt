-- What the mode stands for, and what a step has to keep.
use Rattle.std.proofs.Common.{refl, subst}
use Rattle.std.proofs.lemmas.Bool.{eqb-true}
use Rattle.std.specs.Cmp.Lexicographic.{bytes_decides}
use Rattle.std.specs.Prelude.{Bool, List, None, Option, Some, [], codes, false, if◌then◌else◌, true, ℕ, ◌==◌, ◌∷◌, ◌≡◌}
use Rattle.machine_laws.proofs.Standing.{BlockRead, Due, ElementRead, Flagging, FlagsGiven, Header, LengthBegun, LocalFlags, Place, SimpleRead, Source, TakesLocal, TypeArgumentBegun, first_word, for_annotation, for_arguments, for_body, for_class, for_header, for_literal, for_member, for_operand, for_parameter, for_parameters, for_simple, for_statement, for_super, for_type, for_value}
use Rattle.parser_machine.specs.Declarations.{other_word}
use Rattle.parser_machine.specs.Operands.{awaits_target}
use Rattle.parser_machine.specs.States.{State, at}
use Rattle.parser_machine.specs.declared.entries.Entry.{Entry}
use Rattle.parser_machine.specs.declared.entries.Entry.TheVariants.{AnnotationOpen, ArgumentsOpen, ConstructorBody, FileOpen}
use Rattle.parser_machine.specs.declared.modes.Mode.{Mode}
use Rattle.parser_machine.specs.declared.modes.Mode.TheVariants.{ArgumentFirst, ArgumentNext, Assigned, At, ClassName, ClassNamed, ClosedName, ConstructorStart, DefineAssign, DefineName, DefineOpen, DefineOther, DefineOtherAssign, Dot, DotName, FileStart, Finished, FlagsRead, ForFirst, ForOpen, ForStepStart, IfOpen, ImportDot, ImportEnd, ImportName, ImportStar, ImportStart, InClasses, InImports, InMembers, InStatements, LiteralDone, LiteralMinus, LiteralStart, LocalNamed, MemberNamed, MethodNamed, Minus, NameBracket, NameFirst, NameRead, NewElement, NewName, NewStart, Opened, OpenedName, Operand, PackageEnd, PackageName, ParameterDone, ParametersDone, ParametersFirst, PlainAssigned, PlainDot, PlainEnd, PlainFirst, PlainName, PlainNext, PlainOpen, PlainPath, PostDone, ResultDone, ReturnStart, StatementEnd, StatementStart, SuperArgumentEnd, SuperArgumentName, SuperDone, SuperEnd, SuperName, SuperNamed, SuperOpen, TextRead, TypeArgumentEnd, TypeArgumentName, TypeBracket, TypeDone, TypeEnd, TypeName, ValueDot, ValueOpen, ValueRead, ValueScope, ValueStart, WhileOpen}
use Rattle.scj_base.specs.Vocabulary.{sign_assign, sign_comma, sign_dot, sign_left_bracket, sign_left_parenthesis, sign_less, sign_minus, sign_right_parenthesis, sign_semicolon, sign_star, word_class, word_for, word_if, word_import, word_new, word_return, word_super, word_while}
use Rattle.scj_base.specs.declared.positions.Position.{Position}
use Rattle.scj_tree.specs.Expressions.{ArgumentRead, PostRead}
use Rattle.scj_tree.specs.Grammar.{LiteralRead, Tree}
use Rattle.scj_tree.specs.Headers.{Dotted, FlagRow, Imported, Imports, ParameterRead, ParametersRead, PlainPairs, PlainValue, ResultRead, ScopeValue, SuperRead, TypeRead}
use Rattle.scj_tree.specs.Lexemes.{Lexeme, a_name, a_sign, a_word, the_end}
use Rattle.scj_base.specs.Bytes.{is_same}
use Rattle.scj_tree.specs.Statements.{StatementRead}
use Rattle.scj_tree.specs.Terminals.{is_effectless, has_type_argument}
use Rattle.scj_tree.specs.declared.nodes.Node.{Node}
use Rattle.scj_tree.specs.declared.parsed_parts.FlagSet.{FlagSet}
use Rattle.scj_tree.specs.declared.parsed_parts.PostKind.{PostKind}

-- a part that was read, and where it was due
pub data Behind (D : List Node → List Lexeme → Type 0) (R : List Node → List Lexeme → Type 0) : Type 0 where
  behind : {N : _} {i : _} → R N i → D N i → Behind D R

-- ---- files

-- nothing but the file's begin stands in the stack
unfoldable pub AtFile : Source → List Entry → List Node → Type 0
AtFile r (FileOpen [] ∷ []) N = N ≡ r.nodes
AtFile r _ N = Prim.⊥

pub data FileDue (r : Source) (s : List Entry) (N : List Node) (P : Type 0) : Type 0 where
  file_due : AtFile r s N → P → FileDue r s N P

abbrev pub ImportsDue : Source → List Lexeme → Type 0
ImportsDue r i = (o : List Lexeme) → Imports i o → Header r o

abbrev pub PackageDue : Source → List Lexeme → Type 0
PackageDue r i = (q : Position) (o : List Lexeme) → Dotted i (a_sign sign_semicolon q ∷ o) → ImportsDue r o

abbrev pub ImportedDue : Source → List Lexeme → Type 0
ImportedDue r i = (q : Position) (o : List Lexeme) → Imported i (a_sign sign_semicolon q ∷ o) → ImportsDue r o

-- ---- annotations without effect

unfoldable pub PlainDone : Source → List Entry → List Node → List Lexeme → Type 0
PlainDone r (AnnotationOpen b flags ∷ s) N o = Behind (Flagging r b s) (λ M i. FlagRow b M i N o flags)
PlainDone r _ N o = Unit {0}

pub data AfterPair : List Lexeme → List Lexeme → Type 0 where
  none_after : {p : _} {o : _} → AfterPair (a_sign sign_right_parenthesis p ∷ o) o
  more_after : {p : _} {i o : _} → PlainPairs i o → AfterPair (a_sign sign_comma p ∷ i) o

abbrev pub PairsDue : Source → List Entry → List Node → List Lexeme → Type 0
PairsDue r s N i = (o : List Lexeme) → PlainPairs i o → PlainDone r s N o

abbrev pub PairEnds : Source → List Entry → List Node → List Lexeme → Type 0
PairEnds r s N i = (o : List Lexeme) → AfterPair i o → PlainDone r s N o

abbrev pub PlainValueDue : Source → List Entry → List Node → List Lexeme → Type 0
PlainValueDue r s N i = (j : List Lexeme) → PlainValue i j → PairEnds r s N j

-- an annotation whose name was read
pub data AnnotationNamed (r : Source) : List Entry → List Node → List Lexeme → Type 0 where
  annotation_named_so : {b : _} {s : _} {N : _} {o : _} {flags : _} {w : _} {p q : _} → is_effectless w ≡ true →
      Due r (for_annotation p) (AnnotationOpen b flags ∷ s) N (a_name w q ∷ o) →
      AnnotationNamed r (AnnotationOpen b flags ∷ s) N o

-- `@DefineScope` up to where the lexemes begin
pub data DefineBegun (r : Source) (p : Position) : List Entry → List Node → List Lexeme → Type 0 where
  define_begun : {b : _} {s : _} {N : _} {o : _} {flags : FlagSet} {q : _} → flags.define_scope ≡ None →
      Due r (for_annotation p) (AnnotationOpen b flags ∷ s) N (a_name (codes "DefineScope") q ∷ o) →
      DefineBegun r p (AnnotationOpen b flags ∷ s) N o

-- and up to the first value
pub data DefineRead (r : Source) (p : Position) (first : Bool) (id : ℕ) : List Entry → List Node → List Lexeme → Type 0 where
  define_read : {s : _} {N N1 : _} {i o : _} {x u v y : _} →
      DefineBegun r p s N (a_sign sign_left_parenthesis x ∷ a_name (first_word first) u ∷ a_sign sign_assign v ∷ i) →
      ScopeValue N i N1 (a_sign sign_comma y ∷ o) id → DefineRead r p first id s N1 o

-- ---- members

pub data TypeGiven : Option ℕ → ℕ → List Node → List Lexeme → List Node → List Lexeme → Type 0 where
  type_given : {N N1 N2 : _} {i i1 o : _} {flags : _} {t : _} → FlagsGiven flags N i N1 i1 → TypeRead N1 i1 N2 o t →
      TypeGiven flags t N i N2 o

pub data ResultGiven : Option ℕ → ℕ → List Node → List Lexeme → List Node → List Lexeme → Type 0 where
  result_given : {N N1 N2 : _} {i i1 o : _} {flags : _} {t : _} → FlagsGiven flags N i N1 i1 → ResultRead N1 i1 N2 o t →
      ResultGiven flags t N i N2 o

pub data LocalTyped : Place → Option ℕ → ℕ → List Node → List Lexeme → List Node → List Lexeme → Type 0 where
  local_typed : {k : _} {N N1 N2 : _} {i i1 o : _} {flags : _} {t : _} → LocalFlags k flags N i N1 i1 →
      TypeRead N1 i1 N2 o t → LocalTyped k flags t N i N2 o

-- a constructor's body begins
pub data ConstructorDue (r : Source) (b : Position) : List Entry → List Node → List Lexeme → Type 0 where
  constructor_due : {flags ps : _} {w : _} {q : _} {s : _} {N : _} {o : _} →
      Due r (for_body b) (ConstructorBody flags q w ps None ∷ s) N o →
      ConstructorDue r b (ConstructorBody flags q w ps None ∷ s) N o

-- behind `super(..)`
abbrev pub SuperEnds : Source → Position → List Entry → List Node → List Lexeme → Type 0
SuperEnds r b s N i = (p : Position) (o : List Lexeme) → i ≡ a_sign sign_semicolon p ∷ o → Due r (for_body b) s N o

-- ---- statements

pub data StatementDone (r : Source) (id : ℕ) : List Entry → List Node → List Lexeme → Type 0 where
  statement_done : {s : _} {N N1 : _} {i o : _} → StatementRead N i N1 o id → Due r for_statement s N i →
      StatementDone r id s N1 o
  body_done : {s : _} {p : _} {N N1 : _} {i o : _} → BlockRead p N i N1 o id → Due r (for_body p) s N i →
      StatementDone r id s N1 o

-- where an assignment is due
pub data SimpleDue (r : Source) (s : List Entry) (N : List Node) (i : List Lexeme) : Type 0 where
  simple_due : {k : _} → Due r (for_simple k) s N i → SimpleDue r s N i

-- and a local may stand
pub data FirstDue (r : Source) (s : List Entry) (N : List Node) (i : List Lexeme) : Type 0 where
  first_due : {k : _} → TakesLocal k → Due r (for_simple k) s N i → FirstDue r s N i

pub data LocalNamedSo (r : Source) (flags : Option ℕ) (t : ℕ) (s : List Entry) (N : List Node)
    (o : List Lexeme) : Type 0 where
  local_named_so : {k : _} {M : _} {i : _} → LocalTyped k flags t M i N o → Due r (for_simple k) s M i →
      LocalNamedSo r flags t s N o

pub data AssignedSo (r : Source) (id : ℕ) (s : List Entry) (N : List Node) (o : List Lexeme) : Type 0 where
  assigned_so : {k : _} {M : _} {i : _} → SimpleRead k M i N o id → Due r (for_simple k) s M i → AssignedSo r id s N o

-- ---- expressions

pub data PostSo (kind : PostKind) (p : Position) (id : ℕ) (N : List Node) (o : List Lexeme) (M : List Node)
    (i : List Lexeme) : Type 0 where
  post_so : {minimum : _} → PostRead minimum kind p M i N o id → PostSo kind p id N o M i

pub data ObjectSo (id : ℕ) (N : List Node) (o : List Lexeme) (M : List Node) (i : List Lexeme) : Type 0 where
  object_so : {minimum : _} {kind : _} {p : _} → PostRead minimum kind p M i N o id → ObjectSo id N o M i

-- the arguments begin
pub data FirstArgument (r : Source) : List Entry → List Node → List Lexeme → Type 0 where
  first_argument : {s : _} {N : _} {o : _} → Due r for_arguments s N o → FirstArgument r (ArgumentsOpen [] ∷ s) N o

pub data NextArgument (r : Source) : List Entry → List Node → List Lexeme → Type 0 where
  next_argument : {ids : _} {s : _} {N : _} {o : _} → Due r for_operand (ArgumentsOpen ids ∷ s) N o →
      NextArgument r (ArgumentsOpen ids ∷ s) N o

pub data TextArgument (r : Source) (id : ℕ) : List Entry → List Node → List Lexeme → Type 0 where
  text_so : {ids : _} {s : _} {N N1 : _} {i o : _} → ArgumentRead N i N1 o id →
      Due r for_operand (ArgumentsOpen ids ∷ s) N i → TextArgument r id (ArgumentsOpen ids ∷ s) N1 o

-- a lexeme was read before these
pub data Past (P : Position → Type 0) : Type 0 where
  past : {p : _} → P p → Past P

-- ---- all modes

unfoldable pub Stands : Source → Mode → List Entry → List Node → List Lexeme → Type 0
Stands r FileStart s N i =
    FileDue r s N ((N1 : List Node) (ids : List ℕ) → Tree r.nodes i N1 ids → Tree r.nodes r.lexemes N1 ids)
Stands r PackageName s N i = FileDue r s N (PackageDue r i)
Stands r PackageEnd s N i = FileDue r s N ((w : List ℕ) × (p : Position) × PackageDue r (a_name w p ∷ i))
Stands r InImports s N i = FileDue r s N (ImportsDue r i)
Stands r ImportStart s N i = FileDue r s N (Past (λ p. ImportsDue r (a_word word_import p ∷ i)))
Stands r ImportName s N i = FileDue r s N (ImportedDue r i)
Stands r ImportDot s N i =
    FileDue r s N ((w : List ℕ) × (p : Position) × (q : Position) × ImportedDue r (a_name w p ∷ a_sign sign_dot q ∷ i))
Stands r ImportEnd s N i = FileDue r s N ((w : List ℕ) × (p : Position) × ImportedDue r (a_name w p ∷ i))
Stands r ImportStar s N i =
    FileDue r s N ((w : List ℕ) × (p : Position) × (q : Position) × (u : Position) ×
    ImportedDue r (a_name w p ∷ a_sign sign_dot q ∷ a_sign sign_star u ∷ i))
Stands r InClasses s N i = Due r for_class s N i
Stands r Finished s N i = Past (λ p. Due r for_class s N (the_end p ∷ i))
Stands r (FlagsRead b flags) s N i = Behind (Flagging r b s) (λ M j. FlagRow b M j N i flags)
Stands r (At p) s N i = Due r (for_annotation p) s N i
Stands r PlainOpen s N i = AnnotationNamed r s N i
Stands r PlainFirst s N i = Past (λ p. AnnotationNamed r s N (a_sign sign_left_parenthesis p ∷ i))
Stands r PlainNext s N i = PairsDue r s N i
Stands r PlainName s N i = (w : List ℕ) × (p : Position) × PairsDue r s N (a_name w p ∷ i)
Stands r PlainAssigned s N i = PlainValueDue r s N i
Stands r PlainPath s N i = (w : List ℕ) × (p : Position) × PlainValueDue r s N (a_name w p ∷ i)
Stands r PlainDot s N i = (w : List ℕ) × (p : Position) × (q : Position) ×
    PlainValueDue r s N (a_name w p ∷ a_sign sign_dot q ∷ i)
Stands r PlainEnd s N i = PairEnds r s N i
Stands r ValueOpen s N i = (x : Position) (o : List Lexeme) → i ≡ a_sign sign_left_parenthesis x ∷ o → Due r for_value s N o
Stands r ValueStart s N i = Due r for_value s N i
Stands r (ValueScope p) s N i = Due r for_value s N (a_name (codes "Scope") p ∷ i)
Stands r (ValueDot p) s N i = Past (λ q. Due r for_value s N (a_name (codes "Scope") p ∷ a_sign sign_dot q ∷ i))
Stands r (ValueRead id) s N i = Behind (Due r for_value s) (λ M j. ScopeValue M j N i id)
Stands r (DefineOpen p) s N i = DefineBegun r p s N i
Stands r (DefineName p) s N i = Past (λ x. DefineBegun r p s N (a_sign sign_left_parenthesis x ∷ i))
Stands r (DefineAssign p first) s N i =
    (x : Position) × (u : Position) × DefineBegun r p s N (a_sign sign_left_parenthesis x ∷ a_name (first_word first) u ∷ i)
Stands r (DefineOther p first id) s N i = DefineRead r p first id s N i
Stands r (DefineOtherAssign p first id) s N i =
    Past (λ z. DefineRead r p first id s N (a_name (other_word first) z ∷ i))
Stands r (ClassName flags) s N i =
    Behind (Due r for_class s) (λ M j. Past (λ q. FlagsGiven flags M j N (a_word word_class q ∷ i)))
Stands r ClassNamed s N i = Due r for_header s N i
Stands r SuperName s N i = Due r for_super s N i
Stands r (SuperNamed p w) s N i = Due r for_super s N (a_name w p ∷ i)
Stands r (SuperArgumentName p w) s N i =
    (has_type_argument w ≡ true) × Past (λ q. Due r for_super s N (a_name w p ∷ a_sign sign_less q ∷ i))
Stands r (SuperArgumentEnd p w a) s N i = Behind (Due r for_super s) (λ M j. TypeArgumentBegun p w a M j N i)
Stands r (SuperDone id) s N i = Behind (Due r for_super s) (λ M j. SuperRead M j N i id)
Stands r InMembers s N i = Due r for_member s N i
Stands r (TypeName p w) s N i = Due r for_type s N (a_name w p ∷ i)
Stands r (TypeArgumentName p w) s N i =
    (has_type_argument w ≡ true) × Past (λ q. Due r for_type s N (a_name w p ∷ a_sign sign_less q ∷ i))
Stands r (TypeArgumentEnd p w a) s N i = Behind (Due r for_type s) (λ M j. TypeArgumentBegun p w a M j N i)
Stands r (TypeEnd p element) s N i = Behind (Due r for_type s) (λ M j. ElementRead p element M j N i)
Stands r (TypeBracket p element) s N i =
    Behind (Due r for_type s) (λ M j. Past (λ q. ElementRead p element M j N (a_sign sign_left_bracket q ∷ i)))
Stands r (TypeDone id) s N i = Behind (Due r for_type s) (λ M j. TypeRead M j N i id)
Stands r (MemberNamed flags t p w) s N i = Behind (Due r for_member s) (λ M j. TypeGiven flags t M j N (a_name w p ∷ i))
Stands r (ResultDone flags t) s N i = Behind (Due r for_member s) (λ M j. ResultGiven flags t M j N i)
Stands r (MethodNamed flags t p w) s N i =
    Behind (Due r for_member s) (λ M j. ResultGiven flags t M j N (a_name w p ∷ i))
Stands r LiteralStart s N i = Due r for_literal s N i
Stands r (LiteralMinus p) s N i = Due r for_literal s N (a_sign sign_minus p ∷ i)
Stands r (LiteralDone id) s N i = Behind (Due r for_literal s) (λ M j. LiteralRead M j N i id)
Stands r (ParametersFirst p) s N i = Due r for_parameters s N (a_sign sign_left_parenthesis p ∷ i)
Stands r (ParameterDone id) s N i = Behind (Due r for_parameter s) (λ M j. ParameterRead M j N i id)
Stands r (ParametersDone ps) s N i = Behind (Due r for_parameters s) (λ M j. ParametersRead M j N i ps)
Stands r (ConstructorStart b) s N i = ConstructorDue r b s N i
Stands r (SuperOpen b p) s N i = ConstructorDue r b s N (a_word word_super p ∷ i)
Stands r (SuperEnd b) s N i = SuperEnds r b s N i
Stands r InStatements s N i = Due r for_statement s N i
Stands r StatementStart s N i = Due r for_statement s N i
Stands r (StatementEnd id) s N i = StatementDone r id s N i
Stands r (IfOpen p) s N i = Due r for_statement s N (a_word word_if p ∷ i)
Stands r (WhileOpen p) s N i = Due r for_statement s N (a_word word_while p ∷ i)
Stands r (ForOpen p) s N i = Due r for_statement s N (a_word word_for p ∷ i)
Stands r ForFirst s N i = FirstDue r s N i
Stands r ForStepStart s N i = SimpleDue r s N i
Stands r (ReturnStart p) s N i = Due r for_statement s N (a_word word_return p ∷ i)
Stands r (NameFirst p w) s N i = FirstDue r s N (a_name w p ∷ i)
Stands r (NameBracket p w b) s N i = FirstDue r s N (a_name w p ∷ a_sign sign_left_bracket b ∷ i)
Stands r (LocalNamed flags t p w) s N i = LocalNamedSo r flags t s N (a_name w p ∷ i)
Stands r (Assigned id) s N i = AssignedSo r id s N i
Stands r Operand s N i = Due r for_operand s N i
Stands r (NameRead p w) s N i = Due r for_operand s N (a_name w p ∷ i)
Stands r (Opened p) s N i = Due r for_operand s N (a_sign sign_left_parenthesis p ∷ i)
Stands r (OpenedName p q w) s N i = Due r for_operand s N (a_sign sign_left_parenthesis p ∷ a_name w q ∷ i)
Stands r (ClosedName p q w) s N i =
    Past
    (λ x. Due r for_operand s N (a_sign sign_left_parenthesis p ∷ a_name w q ∷ a_sign sign_right_parenthesis x ∷ i))
Stands r (Minus p) s N i = (awaits_target s ≡ false) × Due r for_operand s N (a_sign sign_minus p ∷ i)
Stands r (NewStart p) s N i = Due r for_operand s N (a_word word_new p ∷ i)
Stands r (NewName p q w) s N i = Due r for_operand s N (a_word word_new p ∷ a_name w q ∷ i)
Stands r (NewElement p element) s N i = Behind (Due r for_operand s) (λ M j. LengthBegun p element M j N i)
Stands r (PostDone kind p id) s N i = Behind (Due r for_operand s) (PostSo kind p id N i)
Stands r (Dot object) s N i = Past (λ x. Behind (Due r for_operand s) (ObjectSo object N (a_sign sign_dot x ∷ i)))
Stands r (DotName object p w) s N i =
    Past (λ x. Behind (Due r for_operand s) (ObjectSo object N (a_sign sign_dot x ∷ a_name w p ∷ i)))
Stands r ArgumentFirst s N i = FirstArgument r s N i
Stands r ArgumentNext s N i = NextArgument r s N i
Stands r (TextRead id) s N i = TextArgument r id s N i

-- where a step may lead
unfoldable pub Leads : Source → Option State → List Lexeme → Type 0
Leads r None o = Unit {0}
Leads r (Some (at mode s N)) o = Stands r mode s N o

-- by a test, by a number, and by a choice
pub leads_if : (r : Source) (b : Bool) (x y : Option State) (o : List Lexeme) → (b ≡ true → Leads r x o) →
    (b ≡ false → Leads r y o) → Leads r (if b then x else y) o
leads_if r true x y o f g = f refl
leads_if r false x y o f g = g refl

pub on_number : (r : Source) (P : ℕ → Type 0) (n k : ℕ) (h : P n) (x y : Option State) (o : List Lexeme) →
    (P k → Leads r x o) → Leads r y o → Leads r (if n == k then x else y) o
on_number r P n k h x y o f g = leads_if r (n == k) x y o (λ e. f (subst P (eqb-true n k e) h)) (λ e. g)

pub on_name : (r : Source) (P : List ℕ → Type 0) (w v : List ℕ) (h : P w) (x y : Option State) (o : List Lexeme) →
    (P v → Leads r x o) → Leads r y o → Leads r (if is_same w v then x else y) o
on_name r P w v h x y o f g = leads_if r (is_same w v) x y o (λ e. f (subst P ((bytes_decides w v).0 e) h)) (λ e. g)

pub leads_option : (r : Source) {A : Type 0} (a : Option A) (f : A → Option State) (y : Option State)
    (o : List Lexeme) → ((x : A) → a ≡ Some x → Leads r (f x) o) → (a ≡ None → Leads r y o) →
    Leads r (elim a [ Some x ↦ f x | None ↦ y ]) o
leads_option r (Some x) f y o g h = g x refl
leads_option r None f y o g h = h refl
