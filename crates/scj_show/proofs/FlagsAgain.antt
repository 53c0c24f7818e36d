-- The canonical lexemes of annotations and modifiers are read as the same flags.
use Rattle.std.proofs.Common.{append-nil, ◌≡◌, ℕ, Bool, true, false, ◌==◌, not, ◌&&◌, List, [], ◌∷◌, ◌++◌, Option, Some, None, slice_get, length, refl, sym, ap, subst, ◌∙◌}
use Rattle.std.specs.Prelude.{codes, if◌then◌else◌}
use Rattle.std.proofs.lemmas.Bool.{false≢true, eqb-true}
use Rattle.scj_base.specs.Vocabulary.{word_public, word_protected, word_private, word_final, word_static, word_abstract, word_synchronized, sign_at as at_sign, sign_left_parenthesis, sign_right_parenthesis, sign_comma, sign_assign}
use Rattle.scj_base.specs.declared.positions.Position.{Position}
use Rattle.scj_base.specs.Lex.{position_behind}
use Rattle.scj_tree.specs.declared.nodes.Node.{Node}
use Rattle.scj_tree.specs.declared.nodes.Node.TheVariants.{Flags, DefineScope, ScopeName}
use Rattle.scj_tree.specs.declared.parsed_parts.FlagSet.{FlagSet}
use Rattle.scj_tree.specs.Lexemes.{Lexeme, a_name as name_at, a_sign as sign_at}
use Rattle.scj_base.specs.Lexeme.{is_name}
use Rattle.scj_tree.specs.Terminals.{no_flags, placed, with_define_scope, with_scope, with_runs_in, add_modifier, with_modifier, has_effect, flags_at, flags_node, with_flags, flags_number}
use Rattle.scj_tree.specs.Headers.{FlagRow, no_flag, modifier, effectless, scope_flag, runs_in_flag, define_scope_flag, define_scope_flag_parent_first, ScopeValue, quoted_scope, bare_scope, qualified_scope}
use Rattle.scj_tree.specs.Nodes.{put}
use Rattle.scj_tree.specs.Forest.{ChildrenFirst}
use Rattle.scj_tree.specs.Shape.{children}
use Rattle.scj_show.specs.Parts.{parts_of, maybe, annotation, scope_definition, word_if_set, flag_parts}
use Rattle.scj_show.specs.Symbols.{Symbol, a_name, a_text, a_sign, canonical, own_symbols, symbols_of_part, symbols_of_parts, written}
use Rattle.scj_show.specs.Placed.{printed, lexeme_at}
use Rattle.scj_show.proofs.Sources.{AreOfSource, behind2, behind3, name_first}
use Rattle.scj_show.proofs.Rests.{value_rest, row_rest}
use Rattle.scj_show.specs.Alike.{nowhere, there, shape, in_order, Alike, alike, none_alike, one_alike}
use Rattle.scj_show.proofs.Again.{Front, front-none, front-one, front-then, front-put, front-at, whole, whole_at, laid, laid-append, MaybeAlike, both_missing, both_there, there-same, optional-alike, optional-alike-last}
use Rattle.scj_show.proofs.Printing.{symbols_of_parts-append}

-- ---- the nodes that flags name

-- a scope's name among W
pub record IsScope (W : List Node) (id : ℕ) : Type 0 where
  pub position : Position
  pub name : List ℕ
  pub there : slice_get W id ≡ Some (ScopeName position name)
  pub is : is_name name ≡ true

-- a scope's definition among W
pub record IsDefinition (W : List Node) (id : ℕ) : Type 0 where
  pub position : Position
  pub first : ℕ
  pub second : ℕ
  pub parent_first : Bool
  pub there : slice_get W id ≡ Some (DefineScope position first second parent_first)
  pub of_first : IsScope W first
  pub of_second : IsScope W second

pub data MaybeIs (P : ℕ → Type 0) : Option ℕ → Type 0 where
  not_there : MaybeIs P None
  is_there : {id : ℕ} → P id → MaybeIs P (Some id)

-- ---- a row of flags that is read again

-- from the nodes M and the lexemes i2 a row of flags is read up to the lexemes `rest`, whose flags are the same as
-- these among W
record Row (is_local : Bool) (W M : List Node) (i2 rest : List Lexeme) (define scope runs_in : Option ℕ)
    (is_static is_abstract is_synchronized : Bool) : Type 0 where
  nodes : List Node
  flags : FlagSet
  grown : Front M nodes
  read : FlagRow is_local M i2 nodes rest flags
  same_define : (V : List Node) → Front nodes V → MaybeAlike W V define flags.define_scope
  same_scope : (V : List Node) → Front nodes V → MaybeAlike W V scope flags.scope
  same_runs_in : (V : List Node) → Front nodes V → MaybeAlike W V runs_in flags.runs_in
  same_static : flags.is_static ≡ is_static
  same_abstract : flags.is_abstract ≡ is_abstract
  same_synchronized : flags.is_synchronized ≡ is_synchronized

none_for_none : {W V : List Node} {x y : Option ℕ} → x ≡ None → MaybeAlike W V x y → y ≡ None
none_for_none e both_missing = refl
none_for_none e (both_there a) = absurd (cc)

missing : {W nodes : List Node} {y : Option ℕ} → ((V : List Node) → Front nodes V → MaybeAlike W V None y) → y ≡ None
missing {nodes = nodes} same = none_for_none refl (same nodes front-none)

begun : (is_local : Bool) (W M : List Node) (i2 : List Lexeme) → Row is_local W M i2 i2 None None None false false false
begun is_local W M i2 =
    record {
      nodes = M;
      flags = no_flags;
      grown = front-none;
      read = no_flag;
      same_define = λ V g. both_missing;
      same_scope = λ V g. both_missing;
      same_runs_in = λ V g. both_missing;
      same_static = refl;
      same_abstract =
          refl;
      same_synchronized = refl;
    }

unfoldable pub maybe_symbols : List Node → Option ℕ → List Symbol
maybe_symbols W id = symbols_of_parts (written W) (maybe id)

unfoldable pub annotation_symbols : List Node → List ℕ → Option ℕ → List Symbol
annotation_symbols W name id = symbols_of_parts (written W) (annotation name id)

unfoldable pub word_symbols : List Node → Bool → ℕ → List Symbol
word_symbols W b word = symbols_of_parts (written W) (word_if_set b word)

scope_said : (W : List Node) → ChildrenFirst 0 W → (id : ℕ) (s : IsScope W id) → whole W id ≡ a_text s.name ∷ []
unfolding symbols_of_parts symbols_of_part own_symbols parts_of
scope_said W first id s = whole_at W _ _ first s.there

same_name : {W V : List Node} {x y : ℕ} {p q : Position} (w : List ℕ) → slice_get W x ≡ Some (ScopeName p w) →
    slice_get V y ≡ Some (ScopeName q w) → Alike W V x y
unfolding shape in_order children
same_name w e h = alike e h refl none_alike

with_scope_again : (is_local : Bool) (W : List Node) → ChildrenFirst 0 W →
    (file : ℕ) (M : List Node) (i2 : List Lexeme) (b : List ℕ) (t : List Lexeme) (define scope : Option ℕ) →
    MaybeIs (IsScope W) scope → Row is_local W M i2 (laid file b (annotation_symbols W (codes "Scope") scope) t) define
    None None false false false → Row is_local W M i2 t define scope None false false false
unfolding annotation_symbols annotation symbols_of_parts symbols_of_part laid lexeme_at placed with_scope
with_scope_again is_local W first file M i2 b t define None not_there row = row
with_scope_again is_local W first file M i2 b t define (Some id) (is_there s) row =
    let b3 : List ℕ = ((b ++ printed (a_sign at_sign)) ++ printed (a_name (codes "Scope")))
    ++ printed (a_sign sign_left_parenthesis) in
    let p3 : Position = position_behind file b3 in
    let made : Node = ScopeName p3 s.name in
    let ending : List Symbol → List Lexeme = λ ss. sign_at at_sign (position_behind file b)
    ∷ name_at (codes "Scope") (position_behind file (b ++ printed (a_sign at_sign)))
    ∷ sign_at sign_left_parenthesis
    (position_behind file ((b ++ printed (a_sign at_sign)) ++ printed (a_name (codes "Scope"))))
    ∷ laid file b3 (ss ++ a_sign sign_right_parenthesis ∷ []) t in
    let read : FlagRow is_local M i2 row.nodes (ending (a_text s.name ∷ [])) row.flags =
    subst (λ (ss : List Symbol). FlagRow is_local M i2 row.nodes (ending ss) row.flags)
    (scope_said W first id s) row.read in
    record {
      nodes = put row.nodes made;
      flags = with_scope (length row.nodes) (placed (position_behind file b) row.flags);
      grown = front-then row.grown (front-one _);
      read = scope_flag read (missing row.same_scope) (quoted_scope s.is);
      same_define = λ V g. row.same_define V (front-put _ _ g);
      same_scope = λ V g. both_there (same_name s.name s.there (front-at _ _ g));
      same_runs_in = λ V g. row.same_runs_in V (front-put _ _ g);
      same_static = row.same_static;
      same_abstract = row.same_abstract;
      same_synchronized = row.same_synchronized;
    }

with_runs_in_again : (is_local : Bool) (W : List Node) → ChildrenFirst 0 W →
    (file : ℕ) (M : List Node) (i2 : List Lexeme) (b : List ℕ) (t : List Lexeme) (define scope runs_in : Option ℕ) →
    MaybeIs (IsScope W) runs_in → Row is_local W M i2 (laid file b (annotation_symbols W (codes "RunsIn") runs_in) t)
    define scope None false false false → Row is_local W M i2 t define scope runs_in false false false
unfolding annotation_symbols annotation symbols_of_parts symbols_of_part laid lexeme_at placed with_runs_in
with_runs_in_again is_local W first file M i2 b t define scope None not_there row = row
with_runs_in_again is_local W first file M i2 b t define scope (Some id) (is_there s) row =
    let b3 : List ℕ = ((b ++ printed (a_sign at_sign)) ++ printed (a_name (codes "RunsIn")))
    ++ printed (a_sign sign_left_parenthesis) in
    let p3 : Position = position_behind file b3 in
    let made : Node = ScopeName p3 s.name in
    let ending : List Symbol → List Lexeme = λ ss. sign_at at_sign (position_behind file b)
    ∷ name_at (codes "RunsIn") (position_behind file (b ++ printed (a_sign at_sign)))
    ∷ sign_at sign_left_parenthesis
    (position_behind file ((b ++ printed (a_sign at_sign)) ++ printed (a_name (codes "RunsIn"))))
    ∷ laid file b3 (ss ++ a_sign sign_right_parenthesis ∷ []) t in
    let read : FlagRow is_local M i2 row.nodes (ending (a_text s.name ∷ [])) row.flags =
    subst (λ (ss : List Symbol). FlagRow is_local M i2 row.nodes (ending ss) row.flags)
    (scope_said W first id s) row.read in
    record {
      nodes = put row.nodes made;
      flags = with_runs_in (length row.nodes) (placed (position_behind file b) row.flags);
      grown = front-then row.grown (front-one _);
      read = runs_in_flag read (missing row.same_runs_in) (quoted_scope s.is);
      same_define = λ V g. row.same_define V (front-put _ _ g);
      same_scope = λ V g. row.same_scope V (front-put _ _ g);
      same_runs_in = λ V g. both_there (same_name s.name s.there (front-at _ _ g));
      same_static = row.same_static;
      same_abstract = row.same_abstract;
      same_synchronized = row.same_synchronized;
    }

definition_symbols : List Symbol → List Symbol → List Symbol
definition_symbols name parent = a_sign at_sign ∷ a_name (codes "DefineScope") ∷ a_sign sign_left_parenthesis
    ∷ a_name (codes "name") ∷ a_sign sign_assign
    ∷ (name
    ++ (a_sign sign_comma ∷ a_name (codes "parent") ∷ a_sign sign_assign
    ∷ (parent ++ a_sign sign_right_parenthesis ∷ [])))

definition_again : (is_local : Bool) (W : List Node) → ChildrenFirst 0 W →
    (file : ℕ) (M : List Node) (i2 : List Lexeme) (b : List ℕ) (t : List Lexeme) (id name parent : ℕ) → IsScope W name →
    IsScope W parent → whole W id ≡ definition_symbols (whole W name) (whole W parent) →
    ((V : List Node) (k n m : ℕ) (q : Position) → slice_get V k ≡ Some (DefineScope q n m false) → Alike W V name n →
    Alike W V parent m → Alike W V id k) →
    Row is_local W M i2 (laid file b (whole W id ++ []) t) None None None false false false →
    Row is_local W M i2 t (Some id) None None false false false
unfolding definition_symbols laid lexeme_at placed with_define_scope
definition_again is_local W first file M i2 b t id name parent sn sm said same row =
    let full : whole W id ≡ definition_symbols (a_text sn.name ∷ []) (a_text sm.name ∷ []) =
    said ∙ ap (λ (ss : List Symbol). definition_symbols ss (whole W parent)) (scope_said W first name sn)
    ∙ ap (λ (ss : List Symbol). definition_symbols (a_text sn.name ∷ []) ss) (scope_said W first parent sm) in
    let read : FlagRow is_local M i2 row.nodes
    (laid file b (definition_symbols (a_text sn.name ∷ []) (a_text sm.name ∷ []) ++ []) t) row.flags =
    subst (λ (ss : List Symbol). FlagRow is_local M i2 row.nodes (laid file b (ss ++ []) t) row.flags) full row.read
    in
    let b1 : List ℕ = b ++ printed (a_sign at_sign) in
    let b2 : List ℕ = b1 ++ printed (a_name (codes "DefineScope")) in
    let b3 : List ℕ = b2 ++ printed (a_sign sign_left_parenthesis) in
    let b4 : List ℕ = b3 ++ printed (a_name (codes "name")) in
    let b5 : List ℕ = b4 ++ printed (a_sign sign_assign) in
    let b6 : List ℕ = b5 ++ printed (a_text sn.name) in
    let b7 : List ℕ = b6 ++ printed (a_sign sign_comma) in
    let b8 : List ℕ = b7 ++ printed (a_name (codes "parent")) in
    let b9 : List ℕ = b8 ++ printed (a_sign sign_assign) in
    let N2 : List Node = put row.nodes (ScopeName (position_behind file b5) sn.name) in
    let N3 : List Node = put N2 (ScopeName (position_behind file b9) sm.name) in
    record {
      nodes = put N3 (DefineScope (position_behind file b) (length row.nodes) (length N2) false);
      flags = with_define_scope (length N3) (placed (position_behind file b) row.flags);
      grown = front-then row.grown (front-then (front-one _) (front-then (front-one _) (front-one _)));
      read = define_scope_flag read (missing row.same_define) (quoted_scope sn.is) (quoted_scope sm.is);
      same_define =
          λ V g. both_there
          (same V _ _ _ _ (front-at _ _ g) (same_name sn.name sn.there (front-at _ _ (front-put _ _ (front-put _ _ g))))
          (same_name sm.name sm.there (front-at _ _ (front-put _ _ g))));
      same_scope = λ V g. row.same_scope V (front-put _ _ (front-put _ _ (front-put _ _ g)));
      same_runs_in = λ V g. row.same_runs_in V (front-put _ _ (front-put _ _ (front-put _ _ g)));
      same_static = row.same_static;
      same_abstract = row.same_abstract;
      same_synchronized = row.same_synchronized;
    }

either_order : (is_local : Bool) (W : List Node) → ChildrenFirst 0 W →
    (file : ℕ) (M : List Node) (i2 : List Lexeme) (b : List ℕ) (t : List Lexeme) (id : ℕ) (position : Position) (x y : ℕ)
    (parent_first : Bool) → slice_get W id ≡ Some (DefineScope position x y parent_first) → IsScope W x → IsScope W y →
    Row is_local W M i2 (laid file b (whole W id ++ []) t) None None None false false false →
    Row is_local W M i2 t (Some id) None None false false false
unfolding symbols_of_parts symbols_of_part own_symbols parts_of scope_definition definition_symbols shape in_order
    children
either_order is_local W first file M i2 b t id position x y true e sx sy row =
    definition_again is_local W first file M i2 b t id y x sy sx (whole_at W _ _ first e)
    (λ V k n m q h an am. alike e h refl (one_alike an (one_alike am none_alike))) row
either_order is_local W first file M i2 b t id position x y false e sx sy row =
    definition_again is_local W first file M i2 b t id x y sx sy (whole_at W _ _ first e)
    (λ V k n m q h an am. alike e h refl (one_alike an (one_alike am none_alike))) row

with_define_again : (is_local : Bool) (W : List Node) → ChildrenFirst 0 W →
    (file : ℕ) (M : List Node) (i2 : List Lexeme) (b : List ℕ) (t : List Lexeme) (define : Option ℕ) →
    MaybeIs (IsDefinition W) define →
    Row is_local W M i2 (laid file b (maybe_symbols W define) t) None None None false false false →
    Row is_local W M i2 t define None None false false false
unfolding maybe_symbols maybe symbols_of_parts symbols_of_part laid
with_define_again is_local W first file M i2 b t None not_there row = row
with_define_again is_local W first file M i2 b t (Some id) (is_there d) row =
    either_order is_local W first file M i2 b t id d.position d.first d.second d.parent_first d.there d.of_first
    d.of_second row

-- ---- modifiers, which stand before no local

with_static_again : (W : List Node) (file : ℕ) (M : List Node) (i2 : List Lexeme) (b : List ℕ) (t : List Lexeme)
    (define scope runs_in : Option ℕ) (is_static : Bool) →
    Row false W M i2 (laid file b (word_symbols W is_static word_static) t) define scope runs_in false false false →
    Row false W M i2 t define scope runs_in is_static false false
unfolding word_symbols word_if_set symbols_of_parts symbols_of_part laid lexeme_at placed add_modifier with_modifier
with_static_again W file M i2 b t define scope runs_in false row = row
with_static_again W file M i2 b t define scope runs_in true row =
    let f = row.flags in
    let more : FlagSet =
    record {
      position = f.position;
      define_scope = f.define_scope;
      scope = f.scope;
      runs_in = f.runs_in;
      is_public = f.is_public;
      is_protected = f.is_protected;
      is_private = f.is_private;
      is_static = true;
      is_final =
          f.is_final;
      is_abstract = f.is_abstract;
      is_synchronized = f.is_synchronized;
    } in
    let added : add_modifier false word_static row.flags ≡ Some more =
    ap (λ (s : Bool). if s then None else Some more) row.same_static in
    record {
      nodes = row.nodes;
      flags = placed (position_behind file b) more;
      grown = row.grown;
      read = modifier row.read
          added;
      same_define = row.same_define;
      same_scope = row.same_scope;
      same_runs_in =
          row.same_runs_in;
      same_static = refl;
      same_abstract = row.same_abstract;
      same_synchronized =
          row.same_synchronized;
    }

with_abstract_again : (W : List Node) (file : ℕ) (M : List Node) (i2 : List Lexeme) (b : List ℕ) (t : List Lexeme)
    (define scope runs_in : Option ℕ) (is_static is_abstract : Bool) →
    Row false W M i2 (laid file b (word_symbols W is_abstract word_abstract) t) define scope runs_in is_static false
    false → Row false W M i2 t define scope runs_in is_static is_abstract false
unfolding word_symbols word_if_set symbols_of_parts symbols_of_part laid lexeme_at placed add_modifier with_modifier
with_abstract_again W file M i2 b t define scope runs_in is_static false row = row
with_abstract_again W file M i2 b t define scope runs_in is_static true row =
    let f = row.flags in
    let more : FlagSet =
    record {
      position = f.position;
      define_scope = f.define_scope;
      scope = f.scope;
      runs_in = f.runs_in;
      is_public = f.is_public;
      is_protected = f.is_protected;
      is_private = f.is_private;
      is_static =
          f.is_static;
      is_final = f.is_final;
      is_abstract = true;
      is_synchronized = f.is_synchronized;
    } in
    let added : add_modifier false word_abstract row.flags ≡ Some more =
    ap (λ (s : Bool). if s then None else Some more) row.same_abstract in
    record {
      nodes = row.nodes;
      flags = placed (position_behind file b) more;
      grown = row.grown;
      read = modifier row.read
          added;
      same_define = row.same_define;
      same_scope = row.same_scope;
      same_runs_in =
          row.same_runs_in;
      same_static = row.same_static;
      same_abstract = refl;
      same_synchronized =
          row.same_synchronized;
    }

with_synchronized_again : (W : List Node) (file : ℕ) (M : List Node) (i2 : List Lexeme) (b : List ℕ) (t : List Lexeme)
    (define scope runs_in : Option ℕ) (is_static is_abstract is_synchronized : Bool) →
    Row false W M i2 (laid file b (word_symbols W is_synchronized word_synchronized) t) define scope runs_in is_static
    is_abstract false → Row false W M i2 t define scope runs_in is_static is_abstract is_synchronized
unfolding word_symbols word_if_set symbols_of_parts symbols_of_part laid lexeme_at placed add_modifier with_modifier
with_synchronized_again W file M i2 b t define scope runs_in is_static is_abstract false row = row
with_synchronized_again W file M i2 b t define scope runs_in is_static is_abstract true row =
    let f = row.flags in
    let more : FlagSet =
    record {
      position = f.position;
      define_scope = f.define_scope;
      scope = f.scope;
      runs_in = f.runs_in;
      is_public = f.is_public;
      is_protected = f.is_protected;
      is_private = f.is_private;
      is_static =
          f.is_static;
      is_final = f.is_final;
      is_abstract = f.is_abstract;
      is_synchronized = true;
    } in
    let added : add_modifier false word_synchronized row.flags ≡ Some more =
    ap (λ (s : Bool). if s then None else Some more) row.same_synchronized in
    record {
      nodes = row.nodes;
      flags = placed (position_behind file b) more;
      grown = row.grown;
      read = modifier row.read
          added;
      same_define = row.same_define;
      same_scope = row.same_scope;
      same_runs_in =
          row.same_runs_in;
      same_static = row.same_static;
      same_abstract = row.same_abstract;
      same_synchronized = refl;
    }

-- ---- what is known of the flags that were read

some_is_none : {A : Type 0} {B : Type 0} (a : A) → None ≡ Some a → B
some_is_none {A} {B} a e = let P : Option A → Type 0 = λ x. elim x [ None ↦ Unit {0} | Some y ↦ B ] in subst P e tt

choose : {A : Type 0} {B : Type 0} (b : Bool) (x y : Option A) (r : Option A) → (x ≡ r → B) → (y ≡ r → B) →
    (if b then x else y) ≡ r → B
choose true x y r f g e = f e
choose false x y r f g e = g e

set_same : {A : Type 0} (g : FlagSet → A) (b : Bool) (new flags more : FlagSet) → g new ≡ g flags →
    (if b then None else Some new) ≡ Some more → g more ≡ g flags
set_same g true new flags more h e = some_is_none more e
set_same {A} g false new flags more h e = let P : Option FlagSet → Type 0 =
    λ x. elim x [ None ↦ Unit {0} | Some f ↦ g f ≡ g flags ] in subst P e h

annotations : FlagSet → List (Option ℕ)
annotations flags = flags.define_scope ∷ flags.scope ∷ flags.runs_in ∷ []

modifiers : FlagSet → List Bool
modifiers flags = flags.is_static ∷ flags.is_abstract ∷ flags.is_synchronized ∷ []

modifier_annotations : (w : ℕ) (flags more : FlagSet) → with_modifier w flags ≡ Some more →
    annotations more ≡ annotations flags
unfolding with_modifier annotations
modifier_annotations w flags more =
    choose (w == word_public) _ _ (Some more) (set_same annotations flags.is_public _ flags more refl)
    (choose (w == word_protected) _ _ (Some more) (set_same annotations flags.is_protected _ flags more refl)
    (choose (w == word_private) _ _ (Some more) (set_same annotations flags.is_private _ flags more refl)
    (choose (w == word_static) _ _ (Some more) (set_same annotations flags.is_static _ flags more refl)
    (choose (w == word_final) _ _ (Some more) (set_same annotations flags.is_final _ flags more refl)
    (choose (w == word_abstract) _ _ (Some more) (set_same annotations flags.is_abstract _ flags more refl)
    (choose (w == word_synchronized) _ _ (Some more) (set_same annotations flags.is_synchronized _ flags more refl)
    (some_is_none more)))))))

added_annotations : (is_local : Bool) (w : ℕ) (flags more : FlagSet) → add_modifier is_local w flags ≡ Some more →
    annotations more ≡ annotations flags
unfolding add_modifier
added_annotations is_local w flags more = choose (is_local && not (w == word_final)) _ _ (Some more) (some_is_none more)
    (modifier_annotations w flags more)

final_modifiers : (flags more : FlagSet) → with_modifier word_final flags ≡ Some more → modifiers more ≡ modifiers flags
unfolding with_modifier modifiers
final_modifiers flags more e = set_same modifiers flags.is_final _ flags more refl e

local_modifiers : (w : ℕ) (flags more : FlagSet) (b : Bool) → (w == word_final) ≡ b →
    add_modifier true w flags ≡ Some more → modifiers more ≡ modifiers flags
unfolding add_modifier
local_modifiers w flags more true is e =
    let final : w ≡ word_final = eqb-true w word_final is in
    let there : with_modifier w flags ≡ Some more =
    sym (ap (λ (t : Bool). if true && not t then None else with_modifier w flags) is) ∙ e in
    final_modifiers flags more (subst (λ (v : ℕ). with_modifier v flags ≡ Some more) final there)
local_modifiers w flags more false is e =
    some_is_none more (sym (ap (λ (t : Bool). if true && not t then None else with_modifier w flags) is) ∙ e)

-- before a local no modifier has an effect
plain_locals : {N N1 : List Node} {i o : List Lexeme} {flags : FlagSet} → FlagRow true N i N1 o flags →
    modifiers flags ≡ false ∷ false ∷ false ∷ []
unfolding placed with_scope with_runs_in with_define_scope modifiers
plain_locals no_flag = refl
plain_locals (modifier {flags = flags} {more = more} {w = w} d h) = local_modifiers w flags more _ refl h
    ∙ plain_locals d
plain_locals (effectless d h a) = plain_locals d
plain_locals (scope_flag d h v) = plain_locals d
plain_locals (runs_in_flag d h v) = plain_locals d
plain_locals (define_scope_flag d h v w) = plain_locals d
plain_locals (define_scope_flag_parent_first d h v w) = plain_locals d

abbrev or_place : Position → Option Position → Option Position
or_place p position = elim position [ None ↦ Some p | Some q ↦ Some q ]

placed_somewhere : {B : Type 0} (p : Position) (position : Option Position) → or_place p position ≡ None → B
placed_somewhere p None e = some_is_none p (sym e)
placed_somewhere p (Some q) e = some_is_none q (sym e)

-- flags without a place have no effect
bare_flags : {is_local : Bool} {N N1 : List Node} {i o : List Lexeme} {flags : FlagSet} →
    FlagRow is_local N i N1 o flags → flags.position ≡ None → has_effect flags ≡ false
unfolding placed with_scope with_runs_in with_define_scope has_effect
bare_flags no_flag e = refl
bare_flags (modifier {more = more} {p = p} d h) e = placed_somewhere p more.position e
bare_flags (effectless {flags = flags} {p = p} d h a) e = placed_somewhere p flags.position e
bare_flags (scope_flag {flags = flags} {p = p} d h v) e = placed_somewhere p flags.position e
bare_flags (runs_in_flag {flags = flags} {p = p} d h v) e = placed_somewhere p flags.position e
bare_flags (define_scope_flag {flags = flags} {p = p} d h v w) e = placed_somewhere p flags.position e
bare_flags (define_scope_flag_parent_first {flags = flags} {p = p} d h v w) e = placed_somewhere p flags.position e

pub record Facts (W : List Node) (flags : FlagSet) : Type 0 where
  pub define : MaybeIs (IsDefinition W) flags.define_scope
  pub scope : MaybeIs (IsScope W) flags.scope
  pub runs_in : MaybeIs (IsScope W) flags.runs_in

value_front : {N N1 : List Node} {i o : List Lexeme} {id : ℕ} → ScopeValue N i N1 o id → Front N N1
value_front (quoted_scope h) = front-one _
value_front bare_scope = front-one _
value_front qualified_scope = front-one _

value_is : {W N N1 : List Node} {i o : List Lexeme} {id : ℕ} → ScopeValue N i N1 o id → AreOfSource i → Front N1 W →
    IsScope W id
value_is (quoted_scope h) src f = record { position = _; name = _; there = front-at _ _ f; is = h }
value_is bare_scope src f = record { position = _; name = _; there = front-at _ _ f; is = name_first src }
value_is qualified_scope src f = record { position = _; name = _; there = front-at _ _ f; is = name_first (behind2 src) }

pub row_front : {is_local : Bool} {N N1 : List Node} {i o : List Lexeme} {flags : FlagSet} →
    FlagRow is_local N i N1 o flags → Front N N1
row_front no_flag = front-none
row_front (modifier d h) = row_front d
row_front (effectless d h a) = row_front d
row_front (scope_flag d h v) = front-then (row_front d) (value_front v)
row_front (runs_in_flag d h v) = front-then (row_front d) (value_front v)
row_front (define_scope_flag d h v w) =
    front-then (row_front d) (front-then (value_front v) (front-then (value_front w) (front-one _)))
row_front (define_scope_flag_parent_first d h v w) =
    front-then (row_front d) (front-then (value_front v) (front-then (value_front w) (front-one _)))

same_facts : {W : List Node} (flags more : FlagSet) → annotations more ≡ annotations flags → Facts W flags →
    Facts W more
unfolding annotations
same_facts {W} flags more e f =
    let d : flags.define_scope ≡ more.define_scope = cc in
    let s : flags.scope ≡ more.scope = cc in
    let r : flags.runs_in ≡ more.runs_in = cc in
    record {
      define = subst (MaybeIs (IsDefinition W)) d f.define;
      scope = subst
          (MaybeIs (IsScope W)) s f.scope;
      runs_in = subst (MaybeIs (IsScope W)) r f.runs_in;
    }

pub facts : {is_local : Bool} {W N N1 : List Node} {i o : List Lexeme} {flags : FlagSet} →
    FlagRow is_local N i N1 o flags → AreOfSource i → Front N1 W → Facts W flags
unfolding placed with_scope with_runs_in with_define_scope
facts no_flag src f = record { define = not_there; scope = not_there; runs_in = not_there }
facts {is_local} (modifier {flags = flags} {more = more} {w = w} d h) src f =
    let k = same_facts flags more (added_annotations is_local w flags more h) (facts d src f) in
    record { define = k.define; scope = k.scope; runs_in = k.runs_in }
facts (effectless d h a) src f = let k = facts d src f in
    record { define = k.define; scope = k.scope; runs_in = k.runs_in }
facts (scope_flag d h v) src f = let k = facts d src (front-then (value_front v) f) in
    record { define = k.define; scope = is_there (value_is v (behind3 (row_rest d src)) f); runs_in = k.runs_in }
facts (runs_in_flag d h v) src f = let k = facts d src (front-then (value_front v) f) in
    record { define = k.define; scope = k.scope; runs_in = is_there (value_is v (behind3 (row_rest d src)) f) }
facts (define_scope_flag d h v w) src f =
    let f2 = front-put _ _ f in
    let k = facts d src (front-then (value_front v) (front-then (value_front w) f2)) in
    let src2 = behind2 (behind3 (row_rest d src)) in
    record {
      define = is_there
          (record {
            position = _;
            first = _;
            second = _;
            parent_first = _;
            there = front-at _ _ f;
            of_first = value_is v src2
                (front-then (value_front w) f2);
            of_second = value_is w (behind3 (value_rest v src2)) f2;
          });
      scope = k.scope;
      runs_in = k.runs_in;
    }
facts (define_scope_flag_parent_first d h v w) src f =
    let f2 = front-put _ _ f in
    let k = facts d src (front-then (value_front v) (front-then (value_front w) f2)) in
    let src2 = behind2 (behind3 (row_rest d src)) in
    record {
      define = is_there
          (record {
            position = _;
            first = _;
            second = _;
            parent_first = _;
            there = front-at _ _ f;
            of_first = value_is v src2
                (front-then (value_front w) f2);
            of_second = value_is w (behind3 (value_rest v src2)) f2;
          });
      scope = k.scope;
      runs_in = k.runs_in;
    }

-- ---- flags

words_of_local : (W : List Node) (file : ℕ) (M : List Node) (i2 : List Lexeme) (b1 b2 b3 : List ℕ) (o2 : List Lexeme)
    (define scope runs_in : Option ℕ) (is_static is_abstract is_synchronized : Bool) → is_static ≡ false →
    is_abstract ≡ false → is_synchronized ≡ false →
    Row true W M i2
    (laid file b1 (word_symbols W is_static word_static)
    (laid file b2 (word_symbols W is_abstract word_abstract)
    (laid file b3 (word_symbols W is_synchronized word_synchronized) o2))) define scope runs_in false false false →
    Row true W M i2 o2 define scope runs_in is_static is_abstract is_synchronized
unfolding word_symbols word_if_set symbols_of_parts laid
words_of_local W file M i2 b1 b2 b3 o2 define scope runs_in false false false x y z row = row
words_of_local W file M i2 b1 b2 b3 o2 define scope runs_in true b c x y z row = absurd (false≢true (sym x))
words_of_local W file M i2 b1 b2 b3 o2 define scope runs_in false true c x y z row = absurd (false≢true (sym y))
words_of_local W file M i2 b1 b2 b3 o2 define scope runs_in false false true x y z row = absurd (false≢true (sym z))

-- words stand before no local
abbrev FitLocal : Bool → FlagSet → Type 0
FitLocal true flags = modifiers flags ≡ false ∷ false ∷ false ∷ []
FitLocal false flags = Unit {0}

fit_local : (is_local : Bool) {N N1 : List Node} {i o : List Lexeme} {flags : FlagSet} →
    FlagRow is_local N i N1 o flags → FitLocal is_local flags
fit_local true d = plain_locals d
fit_local false d = tt

words_again : (is_local : Bool) (W : List Node) (file : ℕ) (M : List Node) (i2 : List Lexeme) (b1 b2 b3 : List ℕ)
    (o2 : List Lexeme) (flags : FlagSet) → FitLocal is_local flags →
    Row is_local W M i2
    (laid file b1 (word_symbols W flags.is_static word_static)
    (laid file b2 (word_symbols W flags.is_abstract word_abstract)
    (laid file b3 (word_symbols W flags.is_synchronized word_synchronized) o2))) flags.define_scope flags.scope
    flags.runs_in false false false →
    Row is_local W M i2 o2 flags.define_scope flags.scope flags.runs_in flags.is_static flags.is_abstract
    flags.is_synchronized
unfolding modifiers
words_again true W file M i2 b1 b2 b3 o2 flags fit row =
    let x : flags.is_static ≡ false = cc in
    let y : flags.is_abstract ≡ false = cc in
    let z : flags.is_synchronized ≡ false = cc in
    words_of_local W file M i2 b1 b2 b3 o2 flags.define_scope flags.scope flags.runs_in flags.is_static
    flags.is_abstract flags.is_synchronized x y z row
words_again false W file M i2 b1 b2 b3 o2 flags fit row =
    with_synchronized_again W file M i2 b3 o2 flags.define_scope flags.scope flags.runs_in flags.is_static
    flags.is_abstract flags.is_synchronized
    (with_abstract_again W file M i2 b2 _ flags.define_scope flags.scope flags.runs_in flags.is_static flags.is_abstract
    (with_static_again W file M i2 b1 _ flags.define_scope flags.scope flags.runs_in flags.is_static row))

abbrev flag_set : Option Position → Option ℕ → Option ℕ → Option ℕ → Bool → Bool → Bool → FlagSet
flag_set position define scope runs_in is_static is_abstract is_synchronized =
    record {
      position = position;
      define_scope = define;
      scope = scope;
      runs_in = runs_in;
      is_public = false;
      is_protected = false;
      is_private = false;
      is_static = is_static;
      is_final = false;
      is_abstract =
          is_abstract;
      is_synchronized = is_synchronized;
    }

effect_there : (position : Option Position) (x y z : Option ℕ) (a b c : Bool) →
    has_effect (flag_set position x y z a b c) ≡ has_effect (flag_set None (there x) (there y) (there z) a b c)
unfolding has_effect
effect_there position None None None a b c = refl
effect_there position None None (Some z) a b c = refl
effect_there position None (Some y) None a b c = refl
effect_there position None (Some y) (Some z) a b c = refl
effect_there position (Some x) None None a b c = refl
effect_there position (Some x) None (Some z) a b c = refl
effect_there position (Some x) (Some y) None a b c = refl
effect_there position (Some x) (Some y) (Some z) a b c = refl

effect_is : (flags : FlagSet) →
    has_effect flags ≡ has_effect
    (flag_set None (there flags.define_scope) (there flags.scope) (there flags.runs_in) flags.is_static
    flags.is_abstract flags.is_synchronized)
unfolding has_effect
effect_is flags =
    effect_there flags.position flags.define_scope flags.scope flags.runs_in flags.is_static flags.is_abstract
    flags.is_synchronized

same_effect : (f g : FlagSet) → there f.define_scope ≡ there g.define_scope → there f.scope ≡ there g.scope →
    there f.runs_in ≡ there g.runs_in → f.is_static ≡ g.is_static → f.is_abstract ≡ g.is_abstract →
    f.is_synchronized ≡ g.is_synchronized → has_effect f ≡ has_effect g
same_effect f g d s r a b c =
    let same : flag_set None (there f.define_scope) (there f.scope) (there f.runs_in) f.is_static f.is_abstract
    f.is_synchronized ≡ flag_set None (there g.define_scope) (there g.scope)
    (there g.runs_in) g.is_static g.is_abstract g.is_synchronized = cc in
    effect_is f ∙ ap has_effect same ∙ sym (effect_is g)

-- the node of flags that have an effect
pub record HasNode (flags : FlagSet) (node : Node) : Type 0 where
  pub effect : has_effect flags ≡ true
  pub at : Position
  pub is : node ≡ flags_at at flags

has_node_at : (flags : FlagSet) (node : Node) (e : Bool) (position : Option Position) → has_effect flags ≡ e →
    (if e then elim position [ None ↦ None | Some p ↦ Some (flags_at p flags) ] else None) ≡ Some node → HasNode flags node
has_node_at flags node false position is h = some_is_none node h
has_node_at flags node true None is h = some_is_none node h
has_node_at flags node true (Some p) is h = let same : node ≡ flags_at p flags =
    cc in record { effect = is; at = p; is = same }

pub has_node : (flags : FlagSet) (node : Node) → flags_node flags ≡ Some node → HasNode flags node
unfolding flags_node
has_node flags node h = has_node_at flags node (has_effect flags) flags.position refl h

node_at_place : (flags : FlagSet) (position : Option Position) → flags.position ≡ position → has_effect flags ≡ true →
    (position ≡ None → has_effect flags ≡ false) → (p : Position) × (flags_node flags ≡ Some (flags_at p flags))
unfolding flags_node
node_at_place flags None is e none = absurd (false≢true (sym (none refl) ∙ e))
node_at_place flags (Some p) is e none = (
  p,
  ap (λ (t : Bool). if t then elim flags.position [ None ↦ None | Some q ↦ Some (flags_at q flags) ] else None) e
      ∙ ap (λ (t : Option Position). elim t [ None ↦ None | Some q ↦ Some (flags_at q flags) ]) is,
)

abbrev pub with_node : List Node → Option Node → List Node
with_node N node = elim node [ None ↦ N | Some made ↦ N ++ made ∷ [] ]

abbrev pub number_of : List Node → Option Node → Option ℕ
number_of N node = elim node [ None ↦ None | Some made ↦ Some (length N) ]

-- flags that are read again, as the node whose number they have
pub record FlagsReported (is_local : Bool) (W M : List Node) (i2 o2 : List Lexeme) (number : Option ℕ) : Type 0 where
  pub nodes : List Node
  pub flags : FlagSet
  pub grown : Front M nodes
  pub read : FlagRow is_local M i2 nodes o2 flags
  pub alike : (V : List Node) → Front (with_flags nodes flags) V → MaybeAlike W V number (flags_number nodes flags)

-- the lexemes of flags
pub said_of_flags : (W : List Node) (n : ℕ) (p : Position) (flags : FlagSet) → ChildrenFirst 0 W →
    slice_get W n ≡ Some (flags_at p flags) → maybe_symbols W (Some n) ≡ maybe_symbols W flags.define_scope
    ++ (annotation_symbols W (codes "Scope") flags.scope
    ++ (annotation_symbols W (codes "RunsIn") flags.runs_in
    ++ (word_symbols W flags.is_static word_static
    ++ (word_symbols W flags.is_abstract word_abstract ++ word_symbols W flags.is_synchronized word_synchronized))))
unfolding maybe_symbols annotation_symbols word_symbols symbols_of_parts symbols_of_part own_symbols parts_of flag_parts
    flags_at maybe
said_of_flags W n p flags first at =
    let said : whole W n ≡ symbols_of_parts (written W)
    (flag_parts flags.define_scope flags.scope flags.runs_in flags.is_static flags.is_abstract
    flags.is_synchronized) = whole_at W _ _ first at in
    append-nil (whole W n) ∙ said ∙ simp symbols_of_parts-append

flags_are_alike : (W V : List Node) (x y : ℕ) (p q : Position) (f g : FlagSet) → slice_get W x ≡ Some (flags_at p f) →
    slice_get V y ≡ Some (flags_at q g) → MaybeAlike W V f.define_scope g.define_scope →
    MaybeAlike W V f.scope g.scope → MaybeAlike W V f.runs_in g.runs_in → g.is_static ≡ f.is_static →
    g.is_abstract ≡ f.is_abstract → g.is_synchronized ≡ f.is_synchronized → Alike W V x y
unfolding flags_at shape in_order children
flags_are_alike W V x y p q f g at here d s r a b c =
    let dd : there f.define_scope ≡ there g.define_scope = there-same d in
    let ss : there f.scope ≡ there g.scope = there-same s in
    let rr : there f.runs_in ≡ there g.runs_in = there-same r in
    let same : Flags nowhere (there f.define_scope) (there f.scope) (there f.runs_in) f.is_static f.is_abstract
    f.is_synchronized ≡ Flags nowhere (there g.define_scope) (there g.scope)
    (there g.runs_in) g.is_static g.is_abstract g.is_synchronized = cc in
    alike at here same (optional-alike d (optional-alike s (optional-alike-last r)))

some_flags_again : (is_local : Bool) (W : List Node) → ChildrenFirst 0 W →
    (file : ℕ) (M : List Node) (b : List ℕ) (o2 : List Lexeme) (n : ℕ) (p : Position) (flags : FlagSet) →
    FitLocal is_local flags → Facts W flags → has_effect flags ≡ true → slice_get W n ≡ Some (flags_at p flags) →
    FlagsReported is_local W M (laid file b (maybe_symbols W (Some n)) o2) o2 (Some n)
unfolding with_flags flags_number
some_flags_again is_local W first file M b o2 n p flags fit known effect at =
    let i2 : List Lexeme = laid file b (maybe_symbols W (Some n)) o2 in
    let b1 : List ℕ = b ++ canonical (maybe_symbols W flags.define_scope) in
    let b2 : List ℕ = b1 ++ canonical (annotation_symbols W (codes "Scope") flags.scope) in
    let b3 : List ℕ = b2 ++ canonical (annotation_symbols W (codes "RunsIn") flags.runs_in) in
    let b4 : List ℕ = b3 ++ canonical (word_symbols W flags.is_static word_static) in
    let b5 : List ℕ = b4 ++ canonical (word_symbols W flags.is_abstract word_abstract) in
    let t5 : List Lexeme = laid file b5 (word_symbols W flags.is_synchronized word_synchronized) o2 in
    let t4 : List Lexeme = laid file b4 (word_symbols W flags.is_abstract word_abstract) t5 in
    let t3 : List Lexeme = laid file b3 (word_symbols W flags.is_static word_static) t4 in
    let t2 : List Lexeme = laid file b2 (annotation_symbols W (codes "RunsIn") flags.runs_in) t3 in
    let t1 : List Lexeme = laid file b1 (annotation_symbols W (codes "Scope") flags.scope) t2 in
    let whole_row : i2 ≡ laid file b (maybe_symbols W flags.define_scope) t1 =
    ap (λ (ss : List Symbol). laid file b ss o2) (said_of_flags W n p flags first at) ∙ simp laid-append in
    let row0 : Row is_local W M i2 (laid file b (maybe_symbols W flags.define_scope) t1) None None None false false
    false = subst (λ (t : List Lexeme). Row is_local W M i2 t None None None false false false) whole_row
    (begun is_local W M i2) in
    let row1 = with_define_again is_local W first file M i2 b t1 flags.define_scope known.define row0 in
    let row2 = with_scope_again is_local W first file M i2 b1 t2 flags.define_scope flags.scope known.scope row1 in
    let row3 =
    with_runs_in_again is_local W first file M i2 b2 t3 flags.define_scope flags.scope flags.runs_in known.runs_in
    row2 in
    let row = words_again is_local W file M i2 b3 b4 b5 o2 flags fit row3 in
    let same : has_effect flags ≡ has_effect row.flags =
    same_effect flags row.flags (there-same (row.same_define row.nodes front-none))
    (there-same (row.same_scope row.nodes front-none)) (there-same (row.same_runs_in row.nodes front-none))
    (sym row.same_static) (sym row.same_abstract) (sym row.same_synchronized) in
    let found : (q : Position) × (flags_node row.flags ≡ Some (flags_at q row.flags)) =
    node_at_place row.flags row.flags.position refl (sym same ∙ effect) (bare_flags row.read) in
    record {
      nodes = row.nodes;
      flags = row.flags;
      grown = row.grown;
      read = row.read;
      alike = λ V.
          let P : Option Node → Type 0 = λ node. Front (with_node row.nodes node) V →
          MaybeAlike W V (Some n) (number_of row.nodes node) in
          subst P (sym found.1)
          (λ g. both_there (flags_are_alike W V n (length row.nodes) p found.0 flags row.flags at (front-at _ _ g)
          (row.same_define V (front-put _ _ g)) (row.same_scope V (front-put _ _ g))
          (row.same_runs_in V (front-put _ _ g)) row.same_static row.same_abstract row.same_synchronized));
    }

flags_at_node : (is_local : Bool) (W : List Node) → ChildrenFirst 0 W →
    (file : ℕ) (M : List Node) (b : List ℕ) (o2 : List Lexeme) (N1 : List Node) (flags : FlagSet) (node : Option Node) →
    FitLocal is_local flags → (Front N1 W → Facts W flags) → flags_node flags ≡ node → Front (with_node N1 node) W →
    FlagsReported is_local W M (laid file b (maybe_symbols W (number_of N1 node)) o2) o2 (number_of N1 node)
unfolding maybe_symbols maybe symbols_of_parts laid with_flags flags_number flags_node has_effect
flags_at_node is_local W first file M b o2 N1 flags None fit known is f =
    record { nodes = M; flags = no_flags; grown = front-none; read = no_flag; alike = λ V g. both_missing }
flags_at_node is_local W first file M b o2 N1 flags (Some node) fit known is f =
    let h = has_node flags node is in
    some_flags_again is_local W first file M b o2 (length N1) h.at flags fit (known (front-put _ _ f)) h.effect
    (front-at _ _ f ∙ ap Some h.is)

-- flags are read again as the same flags
pub flags_again : (is_local : Bool) (W : List Node) → ChildrenFirst 0 W →
    (file : ℕ) (M : List Node) (b : List ℕ) (o2 : List Lexeme) {N N1 : List Node} {i o : List Lexeme}
    {flags : FlagSet} → FlagRow is_local N i N1 o flags → AreOfSource i → Front (with_flags N1 flags) W →
    FlagsReported is_local W M (laid file b (maybe_symbols W (flags_number N1 flags)) o2) o2 (flags_number N1 flags)
unfolding with_flags flags_number
flags_again is_local W first file M b o2 {N1 = N1} {flags = flags} d src f =
    flags_at_node is_local W first file M b o2 N1 flags (flags_node flags) (fit_local is_local d)
    (λ g. facts d src g) refl f

pub flags_front : (N : List Node) (flags : FlagSet) → Front N (with_flags N flags)
unfolding with_flags
flags_front N flags = go (flags_node flags)
  where
    go : (node : Option Node) → Front N (with_node N node)
    go None = front-none
    go (Some node) = front-one _
