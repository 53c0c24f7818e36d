-- The canonical text of a file is read as the same tree.
use Rattle.std.proofs.Common.{append-nil, append_assoc, ◌≡◌, ℕ, List, [], ◌∷◌, ◌++◌, sym, ap, subst, ◌∙◌}
use Rattle.scj_base.specs.declared.lexemes.Token.{Token}
use Rattle.scj_base.specs.Lex.{Lex, position_behind}
use Rattle.scj_tree.specs.declared.nodes.Node.{Node}
use Rattle.scj_tree.specs.Lexemes.{Lexeme, the_end, lexemes_of}
use Rattle.scj_tree.specs.Headers.{no_imports}
use Rattle.scj_tree.specs.Grammar.{Tree, file, file_of_package, ClassesRead, no_class, one_class_more}
use Rattle.scj_tree.specs.Forest.{Forest, ChildrenFirst}
use Rattle.scj_show.specs.Symbols.{Symbol, canonical, symbols_of, text_of_file}
use Rattle.scj_show.specs.Placed.{printed, lexeme_at, tokens_behind, lexemes_behind}
use Rattle.scj_show.proofs.Sources.{AreOfSource, lexed_of_source}
use Rattle.scj_show.proofs.Rests.{imports_rest, named_package_rest}
use Rattle.scj_show.specs.Reread.{classes_of, IsRead, IsReadAsFile}
use Rattle.scj_show.proofs.Lexing.{lexes, reads}
use Rattle.scj_show.proofs.Again.{Front, front-none, front-then, laid}
use Rattle.scj_show.proofs.MembersAgain.{class_front, classes_again}
use Rattle.scj_show.proofs.NodesLexed.{classes_are}
use Rattle.scj_show.proofs.MembersLexed.{classes_lexed}

behind-is : (at : ℕ) (before : List ℕ) (ss : List Symbol) →
    lexemes_behind at before ss ≡ laid at before ss (the_end (position_behind at (before ++ canonical ss)) ∷ [])
unfolding lexemes_behind laid canonical
behind-is at before [] = ap (λ (t : List ℕ). the_end (position_behind at t) ∷ []) (sym (append-nil before))
behind-is at before (s ∷ ss) = ap (λ (t : List Lexeme). lexeme_at s (position_behind at before) ∷ t)
    (behind-is at (before ++ printed s) ss
    ∙ ap (λ (t : List ℕ). laid at (before ++ printed s) ss (the_end (position_behind at t) ∷ []))
    (append_assoc before (printed s) (canonical ss)))

-- the nodes that were there before a file was read come first
classes_front : {N N1 : List Node} {i o : List Lexeme} {ids : List ℕ} → ClassesRead N i N1 o ids → Front N N1
classes_front no_class = front-none
classes_front (one_class_more d e) = front-then (classes_front d) (class_front e)

pub tree_front : {N N1 : List Node} {i : List Lexeme} {ids : List ℕ} → Tree N i N1 ids → Front N N1
tree_front (file d e) = classes_front e
tree_front (file_of_package c d e) = classes_front e

classes_read : (W : List Node) → ChildrenFirst 0 W →
    (at : ℕ) (before : List Node) {N N1 : List Node} {i o : List Lexeme} {ids : List ℕ} → ClassesRead N i N1 o ids →
    AreOfSource i → Front N1 W → IsRead W ids (canonical (symbols_of W ids)) at before
classes_read W first at before {ids = ids} d src f =
    let ending : List Lexeme = the_end (position_behind at ([] ++ canonical (symbols_of W ids))) ∷ [] in
    let a = classes_again W first at before [] ending d src f in
    let same : laid at [] (symbols_of W ids) ending ≡ lexemes_of (canonical (symbols_of W ids))
    (tokens_behind at [] (symbols_of W ids)) =
    sym (reads at [] (symbols_of W ids) ∙ behind-is at [] (symbols_of W ids)) in
    record {
      tokens = tokens_behind at [] (symbols_of W ids);
      lex = lexes at [] (symbols_of W ids) (classes_are (classes_lexed first d src f));
      nodes = a.nodes;
      classes = a.places;
      tree = subst (λ (t : List Lexeme). Tree before t a.nodes a.places) same (file no_imports a.read);
      alike = a.alike a.nodes front-none;
    }

tree_read : (start old all more : List Node) (i : List Lexeme) (ids : List ℕ) (at : ℕ) (before : List Node) →
    Tree start i old ids → all ≡ old ++ more → ChildrenFirst 0 all → AreOfSource i →
    IsRead all ids (canonical (symbols_of all ids)) at before
tree_read start old all more i ids at before (file d e) whole first src =
    classes_read all first at before e (imports_rest d src) (record { rest = more; whole = whole })
tree_read start old all more i ids at before (file_of_package c d e) whole first src =
    classes_read all first at before e (imports_rest d (named_package_rest c src))
    (record { rest = more; whole = whole })

pub read_again : (source : List ℕ) (number : ℕ) (tokens : List Token) (start old all more : List Node) (ids : List ℕ)
    (at : ℕ) (before : List Node) → Lex number source tokens → Tree start (lexemes_of source tokens) old ids → all ≡ old
    ++ more → ChildrenFirst 0 all → IsRead all ids (canonical (symbols_of all ids)) at before
read_again source number tokens start old all more ids at before lex d whole first =
    tree_read start old all more (lexemes_of source tokens) ids at before d whole first (lexed_of_source lex)

-- the canonical text of a file
pub file_read_again : (forest : Forest) (k : ℕ) (text : List ℕ) → ChildrenFirst 0 forest.nodes →
    text ≡ text_of_file forest k → IsReadAsFile forest k text
unfolding text_of_file
file_read_again forest k text first e =
    record {
      read = λ source w at before. subst (λ (t : List ℕ). IsRead forest.nodes (classes_of forest k) t at before)
          (sym e)
          (read_again source w.number w.tokens w.start w.nodes forest.nodes w.others (classes_of forest k) at before
          w.lex w.tree w.whole first);
    }
